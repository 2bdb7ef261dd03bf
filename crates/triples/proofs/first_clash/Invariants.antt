-- The invariant: the search from rank i on finds what the search of all ranks finds. Assumes nothing.
use Rattle.triples.specs.Clash.{RankedTree}
use Prim.Native.Nat.{◌-◌}
use mathlib.Core.Path.{◌≡◌}
use mathlib.Core.Bool.{true}
use mathlib.Core.List.{List}
use lib.Dec.{ltb}
use lib.ListN.{length}
use Rattle.trees.specs.Label.{Label}
use Rattle.trees.specs.Tree.{Tree}
use Rattle.agreement.specs.Sets.{increasing}
use Rattle.leaves.specs.Find.{leaf_from}
use Rattle.triples.specs.Loops.{clash_at, second_of, first_of}
use Rattle.triples.proofs.first_clash.Given as goal

abbrev pub invariant-loop-i : goal.invariant-loop-i
invariant-loop-i l = ((s t : Tree) (xs : List Label) → increasing xs ≡ true → l.most ≡ length xs → RankedTree s xs l.one.left l.one.nodes l.one.leaf
    → RankedTree t xs l.two.left l.two.nodes l.two.leaf
    → leaf_from (λ k. ltb (second_of (clash_at s t xs k) l.most k) l.most) (l.most - l.i) l.i ≡ first_of (clash_at s t xs) l.most)
