-- `ranks::order_in` meets its contract. Assumes nothing.
use mathlib.Core.Path.{subst}
use Prim.Native.Nat.{ℕ}
use Rattle.pairs.specs.CommonRanks.{Partners}
use Rattle.trees.specs.Tree.{decoded}
use Rattle.pairs.proofs.RankLaws.{own_nodes, own_proper, collected_all}
use Rattle.pairs.proofs.ranks.order_in.Goals as goal

pub returns-clause-ordered : goal.returns-clause-ordered
returns-clause-ordered c = λ s t one valid2 bound p.
    collected_all (decoded s) (decoded t) _ c.second_leaves-second.result _ _ (own_proper one) (c.common_order-count.ensures.collected s t one valid2 bound p)
    (subst (λ (n : ℕ). Partners n (decoded s) (decoded t) c.args.partner.now) (own_nodes one) p)
    c.second_leaves-second.ensures
