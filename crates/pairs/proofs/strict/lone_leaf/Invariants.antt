-- `strict::lone_leaf` meets its contract. Assumes nothing.
use mathlib.Core.Path.{◌≡◌}
use Rattle.trees.specs.Tree.{Tree, Proper}
use Rattle.trees.specs.Arrays.{nodes_of, arrays_of}
use Rattle.pairs.specs.CommonRanks.{Partners}
use Rattle.pairs.proofs.StrayLaws.{LoneFrom}
use Rattle.pairs.proofs.strict.lone_leaf.Given as goal

abbrev pub invariant-loop-u : goal.invariant-loop-u
invariant-loop-u l = (s t : Tree) → l.tree.left ≡ (arrays_of s).left → l.tree.nodes ≡ nodes_of s → Proper t → Partners l.tree.nodes s t l.partner
    → LoneFrom s t l.u
