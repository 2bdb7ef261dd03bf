-- `strict::turned_round` meets its contract. Assumes nothing.
use mathlib.Core.Path.{◌≡◌}
use Rattle.trees.specs.Tree.{Tree, Proper}
use Rattle.trees.specs.Arrays.{nodes_of, arrays_of}
use Rattle.pairs.specs.CommonRanks.{Partners}
use Rattle.pairs.proofs.StrayLaws.{Turned}
use Rattle.pairs.proofs.strict.turned_round.Given as goal

abbrev pub invariant-loop-u : goal.invariant-loop-u
invariant-loop-u l = (s t : Tree) → l.tree1.left ≡ (arrays_of s).left → l.tree1.nodes ≡ nodes_of s → Proper t
    → Partners l.tree1.nodes s t l.partner → Turned s t l.u l.back
