-- `queries::rank_in` meets its contract. Assumes nothing.
use Prim.Native.Nat.{ℕ, ◌<◌}
use mathlib.Core.Path.{◌≡◌}
use mathlib.Core.List.{List, []}
use lib.ListN.{length, get_or}
use Rattle.trees.specs.Edition.{key}
use Rattle.trees.specs.Label.{Label}
use Rattle.trees.specs.Tree.{Tree, decoded}
use Rattle.leaves.specs.Numbered.{Numbered}
use Rattle.pairs.specs.OwnLeaves.{OwnTree}
use Rattle.queries.proofs.rank_in.Given as goal

abbrev pub invariant-loop-r : goal.invariant-loop-r
invariant-loop-r l = (s : Tree) (C : List Label)
    → OwnTree s l.edition l.text1 l.tree1
    → l.m ≡ length C → Numbered (decoded s) C l.order1 → (q : ℕ) → q < l.r → get_or C q [] ≡ key l.edition l.token → ⊥
