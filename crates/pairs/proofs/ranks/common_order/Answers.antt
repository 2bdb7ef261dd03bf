-- `ranks::common_order` meets its contract. Assumes nothing.
use Prim.Native.Nat.{ℕ, ◌+◌, ◌-◌}
use mathlib.Core.Path.{◌≡◌, refl, subst}
use native.Mathlib.Omega.{arith}
use Rattle.trees.specs.Tree.{decoded}
use Rattle.pairs.specs.CommonRanks.{Collected}
use Rattle.pairs.proofs.RankLaws.{own_nodes, own_left, collected_start, node_partner}
use Rattle.pairs.proofs.ranks.common_order.Goals as goal

pub loop-u-init : goal.loop-u-init
loop-u-init c =
    (omega arith, λ s t o vt b p. collected_start (decoded s) (decoded t) _ _ (own_nodes o) refl)

pub loop-u-preserved : goal.loop-u-preserved
loop-u-preserved c =
    let next : c.loop-u.u ≡ c.loop-u.u - 1 + 1 = omega arith in
    let partner = rw c.from.ensures at c.leaf_partner-v.ensures in (
      c.add_common-m.ensures.upper_bound,
      λ s t o vt b p.
          c.add_common-m.ensures.collected s t o vt b (omega arith)
          (node_partner (own_left o) (own_nodes o) (decoded t) _ p _ _ (omega arith) partner)
          (subst (λ (n : ℕ). Collected (decoded s) (decoded t) n c.loop-u.order1 c.loop-u.m) next (c.loop-u.invariant.1 s t o vt b p)),
    )
