-- `ranks::common_order` meets its contract. Assumes nothing.
use Prim.Native.Nat.{◌≤◌}
use mathlib.Core.Path.{◌≡◌}
use Rattle.trees.specs.Tree.{Tree, decoded, Valid}
use Rattle.pairs.specs.OwnLeaves.{OwnTree}
use Rattle.pairs.specs.CommonRanks.{Partners, most_common, Collected}
use Rattle.pairs.proofs.ranks.common_order.Given as goal

abbrev pub invariant-loop-u : goal.invariant-loop-u
invariant-loop-u l = (l.m ≤ l.most) × ((s t : Tree)
    → OwnTree s l.edition l.text1 l.tree1 → Valid t
    → l.most ≡ most_common (decoded s) (decoded t) → Partners l.tree1.nodes (decoded s) (decoded t) l.partner
    → Collected (decoded s) (decoded t) l.u l.order1 l.m)
