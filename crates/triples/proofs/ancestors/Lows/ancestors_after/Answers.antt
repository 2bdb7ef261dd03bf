-- The invariant: each node passed, from the root down, has the first node past it that spans u. Assumes nothing.
use Prim.Native.Nat.{ℕ, ◌-◌, ◌+◌, ◌%◌}
use mathlib.Core.Path.{◌≡◌, sym, ◌∙◌, ap}
use native.Mathlib.Omega.{arith}
use lib.ListN.{length-set, length-replicate}
use Rattle.triples.specs.Loops.{span_from}
use Rattle.triples.proofs.SpanLaws.{span_end, span_down, store_down}
use Rattle.triples.proofs.ancestors.Lows.ancestors_after.Goals as goal

pub loop-w-init : goal.loop-w-init
loop-w-init c =
    (simp length-replicate, sym (span_end _ _ _ _ (omega arith)), λ v h k. absurd (omega arith))

pub loop-w-preserved : goal.loop-w-preserved
loop-w-preserved c =
    let i = c.loop-w.invariant in let w = c.loop-w.w - 1 in
    let e : c.loop-w.w ≡ w + 1 = omega arith in
    let a = c.args in let n = c.nearer-nearest.ensures ∙ span_down _ _ _ w _ (omega arith) (i.1 ∙ ap (span_from a.self.now.low a.u a.self.now.nodes) e) in (
      simp length-set i.0,
      n,
      store_down (λ v x. x ≡ span_from a.self.now.low a.u a.self.now.nodes v % 256) c.loop-w.at a.self.now.nodes w _ (omega (arith, i.0))
          (λ v h k. i.2 v (omega arith) k) (c.narrow.ensures ∙ ap (λ (z : ℕ). z % 256) n),
    )
