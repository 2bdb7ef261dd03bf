-- `ranks::partners` meets its contract. Assumes nothing.
use mathlib.Core.Path.{◌≡◌}
use lib.ListN.{length}
use Rattle.trees.specs.Tree.{Tree, decoded}
use Rattle.pairs.specs.OwnLeaves.{OwnTree}
use Rattle.pairs.specs.CommonRanks.{Partners}
use Rattle.pairs.proofs.ranks.partners.Given as goal

abbrev pub invariant-loop-u : goal.invariant-loop-u
invariant-loop-u l = (length l.partner ≡ 159) × ((s t : Tree)
    → OwnTree s l.edition l.first l.tree1
    → OwnTree t l.edition l.second l.tree2
    → Partners l.u (decoded s) (decoded t) l.partner)
