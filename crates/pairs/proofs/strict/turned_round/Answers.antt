-- `strict::turned_round` meets its contract. Assumes nothing.
use Prim.Native.Nat.{◌+◌}
use mathlib.Core.Path.{sym, ◌∙◌, subst}
use native.Mathlib.Omega.{arith}
use Rattle.pairs.proofs.RankLaws.{node_partner}
use Rattle.pairs.proofs.StrayLaws.{Turned, turned_start, turned_next, turned_none, turned_all}
use Rattle.pairs.proofs.strict.turned_round.Goals as goal
use Rattle.pairs.proofs.strict.turned_round.Goals.{in-Some, in_default}

pub loop-u-init : goal.loop-u-init
loop-u-init c = λ s t left_is nodes_is v p. turned_start s t v

pub loop-u-preserved : goal.loop-u-preserved
loop-u-preserved c =
    elim c.match-leaf_partner.branch [
      | in-Some w ↦ λ s t left_is nodes_is v p.
          let i = c.loop-u.invariant s t left_is nodes_is v p in
          let n = node_partner left_is nodes_is t _ p _ _ c.loop-u-test.true (rw c.from.ensures at w.in-Some.ensures) in
          subst (Turned s t (c.loop-u.u + 1)) (sym (w.back-is ∙ rw w.from-in-Some.ensures at (w.put_at.ensures i.size)))
          (turned_next v (rw (← nodes_is) c.loop-u-test.true) i n)
      | in_default w ↦ λ s t left_is nodes_is v p.
          let i = c.loop-u.invariant s t left_is nodes_is v p in
          let n = node_partner left_is nodes_is t _ p _ _ c.loop-u-test.true (rw c.from.ensures at w.in_default.ensures) in
          subst (Turned s t (c.loop-u.u + 1)) (sym w.back-is) (turned_none v (rw (← nodes_is) c.loop-u-test.true) i n)
    ]

pub returns : goal.returns
returns c =
    λ s t left_is nodes_is v p.
    turned_all (omega arith) (c.loop-u.invariant s t left_is nodes_is v p)
