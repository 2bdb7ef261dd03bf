-- `finish::set_places` meets its contract. Assumes nothing.
use Prim.Native.Nat.{◌≤◌}
use mathlib.Core.Path.{◌≡◌}
use mathlib.Core.List.{List}
use lib.ListN.{length}
use Rattle.trees.specs.Label.{Label}
use Rattle.trees.specs.Tree.{Tree, decoded, Valid}
use Rattle.trees.specs.Arrays.{arrays_of}
use Rattle.leaves.specs.Numbered.{Numbered}
use Rattle.mast.specs.Largest.{set_places}
use Rattle.mast.specs.SetByRank.{places_from}
use Rattle.mast.proofs.FinishLaws.{chosen_to}
use Rattle.mast.proofs.finish.set_places.Given as goal

abbrev pub invariant-loop-r : goal.invariant-loop-r
invariant-loop-r l = (l.count ≤ l.r) × ((s : Tree) (C : List Label) → Valid s → l.start1 ≡ (arrays_of s).start → l.size1 ≡ (arrays_of s).size → l.m ≡ length C
    → Numbered (decoded s) C l.order1 → places_from l.count l.start l.size ≡ set_places s (chosen_to l.chosen C l.r))
