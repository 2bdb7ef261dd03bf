-- The invariant: some rank is found, here or later, exactly if the search finds one. Assumes nothing.
use Rattle.std.proofs.Common.{◌≡◌, ℕ, ◌-◌, ◌<◌, Bool, ◌||◌, ltb}
use Rattle.leaves.specs.Find.{leaf_from}
use Rattle.triples.specs.Loops.{Tells, third_of}
use Rattle.triples.proofs.search.any_apart.Given as goal

abbrev pub invariant-loop-k : goal.invariant-loop-k
invariant-loop-k l = (clash : ℕ → ℕ → Bool) (i : ℕ) → i < l.j → Tells clash i l.count l.row1 l.row2
    → ltb (third_of clash l.count l.j) l.count ≡ (l.found || ltb (leaf_from (clash l.j) (l.count - l.k) l.k) l.count)
