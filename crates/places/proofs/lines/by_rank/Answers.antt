-- `lines::by_rank` meets its contract. Assumes nothing.
use Prim.Native.Nat.{◌<◌}
use mathlib.Core.Path.{◌≡◌, sym, ◌∙◌, ap}
use native.Mathlib.Omega.{arith}
use Rattle.trees.specs.Arrays.{nodes_of}
use Rattle.places.specs.Nodes.{numbers, tops}
use Rattle.places.proofs.ArrayLaws.{number_get, top_get, number_size, top_size, number_put, top_put}
use Rattle.places.proofs.LineLaws.{ranks_step}
use Rattle.places.proofs.UpwardLaws.{all_nodes}
use Rattle.places.proofs.lines.by_rank.Goals as goal

pub loop-u-preserved : goal.loop-u-preserved
loop-u-preserved c =
    let l = c.loop-u in
    let p = c.put_place.ensures in
    let places = c.args.places.now in
    record {
      size = p.out_len_unchanged ∙ l.invariant.size;
      right = λ t C K m ks g.
          let h : l.u < nodes_of t = omega (arith, c.loop-u-test.true, all_nodes g _ c.min-nodes.ensures) in
          let told = l.invariant.right t C K m ks g in (
            ranks_step g _ _ _ _ _ (numbers places) (numbers l.out) _ h c.from-a.ensures c.from-b.ensures c.from-r.ensures
                (sym (number_get places l.u)) (number_size l.out ∙ l.invariant.size) (ap numbers p.out_after ∙ number_put _ l.out _ _) told.0,
            ranks_step g _ _ _ _ _ (tops places) (tops l.out) _ h c.from-a.ensures c.from-b.ensures c.from-r.ensures
                (sym (top_get places l.u)) (top_size l.out ∙ l.invariant.size) (ap tops p.out_after ∙ top_put _ l.out _ _) told.1,
          );
    }

pub returns : goal.returns
returns c =
    λ t C K m ks g.
    let e : c.loop-u.u ≡ nodes_of t = omega (arith, c.loop-u-test.false, c.loop-u.auto.u-end, all_nodes g _ c.min-nodes.ensures) in
    rw e at (c.loop-u.invariant.right t C K m ks g)
