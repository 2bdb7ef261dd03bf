-- The invariant: each node passed, from u down, has its ancestor with u, and lower ones search on from w. Assumes nothing.
use Prim.Native.Nat.{ℕ, ◌-◌, ◌%◌}
use mathlib.Core.Path.{◌≡◌, ◌∙◌, ap}
use native.Mathlib.Omega.{arith}
use lib.ListN.{length-set}
use Rattle.triples.specs.Loops.{span_from}
use Rattle.triples.proofs.SpanLaws.{span_skip, store_down}
use Rattle.triples.proofs.ancestors.Lows.ancestors_before.Goals as goal

pub loop-v-preserved : goal.loop-v-preserved
loop-v-preserved c =
    let i = c.loop-v.invariant in let v = c.loop-v.v - 1 in
    let s = c.args in let n = c.next_spanning-w.ensures in (
      simp length-set i.0,
      λ a h. ap (span_from s.self.now.low a s.self.now.nodes) n ∙ span_skip s.self.now.low a v s.self.now.nodes c.loop-v.w (omega arith) ∙ i.1 a (omega arith),
      store_down (λ a x. x ≡ span_from s.self.now.low a s.self.now.nodes s.u % 256) c.loop-v.at s.u v _ (omega (arith, i.0))
          (λ a h k. i.2 a (omega arith) k) (c.narrow.ensures ∙ ap (λ (z : ℕ). z % 256) (n ∙ i.1 v (omega arith))),
    )
