-- The invariant: each label passed has a label of its rank stored at its rank. Assumes nothing.
use native.Mathlib.Omega.{arith}
use lib.ListN.{length-set, length-replicate}
use Rattle.trees.specs.Edition.{in_edition}
use Rattle.triples.specs.Loops.{rank_in}
use Rattle.triples.proofs.LoopLaws.{rank_below, order_next, set_low, zeros_low}
use Rattle.triples.proofs.label_order.Goals as goal

pub loop-k-init : goal.loop-k-init
loop-k-init c =
    (simp length-replicate, zeros_low 80 80 (omega arith), λ v h. absurd (omega arith))

pub offset_bounds-order-rank : goal.offset_bounds-order-rank
offset_bounds-order-rank c =
    omega (
      arith,
      c.rank.ensures,
      rank_below (in_edition c.args.edition c.args.list.now) c.args.places.now.start c.args.places.now.size
          c.args.places.now.count c.loop-k.k c.loop-k-test.true,
    )

pub bounds-order-rank : goal.bounds-order-rank
bounds-order-rank c =
    omega (
      arith,
      c.rank.ensures,
      rank_below (in_edition c.args.edition c.args.list.now) c.args.places.now.start c.args.places.now.size
          c.args.places.now.count c.loop-k.k c.loop-k-test.true,
    )

pub loop-k-preserved : goal.loop-k-preserved
loop-k-preserved c =
    let l = c.loop-k.invariant.0 in let a = c.args in let e = c.rank.ensures in let b = rank_below (in_edition a.edition a.list.now) a.places.now.start a.places.now.size a.places.now.count c.loop-k.k
    c.loop-k-test.true in (
      simp length-set l,
      set_low c.loop-k.order c.rank.result c.loop-k.k 80 (omega (arith, l, b, e))
          c.loop-k.invariant.1 (omega arith),
      order_next (rank_in (in_edition a.edition a.list.now) a.places.now.start a.places.now.size a.places.now.count)
          a.places.now.count c.loop-k.k c.rank.result c.loop-k.order c.loop-k-test.true e (omega
          (arith, l, b, e)) c.loop-k.invariant.2,
    )
