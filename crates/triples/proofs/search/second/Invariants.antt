-- The invariant: the search from here on finds what the search of all later ranks finds. Assumes nothing.
use Rattle.std.proofs.Common.{◌≡◌, ℕ, ◌-◌, Bool, ltb}
use Rattle.leaves.specs.Find.{leaf_from}
use Rattle.triples.specs.Loops.{Tells, third_of, second_of}
use Rattle.triples.proofs.search.second.Given as goal

abbrev pub invariant-loop-j : goal.invariant-loop-j
invariant-loop-j l = (clash : ℕ → ℕ → Bool) → Tells clash l.i l.count l.row1 l.row2
    → leaf_from (λ k. ltb (third_of clash l.count k) l.count) (l.count - l.j) l.j ≡ second_of clash l.count l.i
