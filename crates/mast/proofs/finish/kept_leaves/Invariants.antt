-- `finish::kept_leaves` meets its contract. Assumes nothing.
use mathlib.Core.Path.{◌≡◌}
use mathlib.Core.List.{List}
use lib.ListN.{length}
use Rattle.trees.specs.Label.{Label}
use Rattle.trees.specs.Tree.{Tree, Proper}
use Rattle.leaves.specs.Numbered.{Numbered}
use Rattle.mast.specs.SetByRank.{Flagged}
use Rattle.mast.proofs.FinishLaws.{chosen_to}
use Rattle.mast.proofs.finish.kept_leaves.Given as goal

abbrev pub invariant-loop-r : goal.invariant-loop-r
invariant-loop-r l = (length l.kept ≡ 159)
    × ((s : Tree) (C : List Label) → Proper s → l.m ≡ length C → Numbered s C l.order1 → Flagged s (chosen_to l.chosen C l.r) l.kept)
