-- The invariant: each rank passed has its number, by the side of u that its leaf is on. Assumes nothing.
use Rattle.triples.proofs.SpanLaws.{on_side_is}
use Rattle.triples.specs.Loops.{lca_number}
use Prim.Native.Nat.{ℕ, ◌<◌, ◌%◌}
use mathlib.Core.Path.{◌≡◌, ◌∙◌, ap₂}
use native.Mathlib.Omega.{arith}
use lib.ListN.{get_or, length-set}
use Rattle.trees.proofs.EntryLaws.{store_next}
use Rattle.triples.proofs.ancestors.Lows.lca_row.Goals as goal

pub loop-q-preserved : goal.loop-q-preserved
loop-q-preserved c =
    let v = c.loop-q.invariant in let s = c.args in let q = c.loop-q.q in (
      simp length-set v.0,
      store_next
          (λ k x. get_or s.leaf.now s.i 0 < s.self.now.nodes → get_or s.leaf.now k 0 < s.self.now.nodes
          → x ≡ lca_number s.self.now.low s.self.now.nodes (get_or s.leaf.now s.i 0) (get_or s.leaf.now k 0) % 256)
          c.loop-q.row q _ (omega (arith, v.0)) v.1
          (λ h k.
          let a = c.leaf_of-u.ensures.value (omega arith) in
          let b = c.leaf_of.ensures.value (omega arith) in
          c.on_side.ensures
          ∙ on_side_is s.self.now.low c.ancestors_before-before.result c.ancestors_after-after.result s.self.now.nodes _ _ c.ancestors_before-before.ensures c.ancestors_after-after.ensures (omega arith)
          ∙ ap₂ (λ (x y : ℕ). lca_number s.self.now.low s.self.now.nodes x y % 256) a b),
    )
