-- The invariant: the search from here on finds what the search of all later ranks finds. Assumes nothing.
use Rattle.std.proofs.Common.{◌≡◌, ℕ, ◌-◌, ◌<◌, Bool}
use Rattle.leaves.specs.Find.{leaf_from}
use Rattle.triples.specs.Loops.{Tells, third_of}
use Rattle.triples.proofs.search.third.Given as goal

abbrev pub invariant-loop-k : goal.invariant-loop-k
invariant-loop-k l = (clash : ℕ → ℕ → Bool) (i : ℕ) → i < l.j → Tells clash i l.count l.row1 l.row2
    → leaf_from (clash l.j) (l.count - l.k) l.k ≡ third_of clash l.count l.j
