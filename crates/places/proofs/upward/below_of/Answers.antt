-- `upward::below_of` meets its contract. Assumes nothing.
use Prim.Native.Nat.{ℕ}
use lib.ListN.{set, length-set}
use mathlib.Core.Path.{◌≡◌, ◌∙◌, ap, refl}
use native.Mathlib.Omega.{arith}
use Rattle.trees.specs.Arrays.{nodes_of}
use Rattle.places.specs.Nodes.{required_at, manys, leasts}
use Rattle.places.proofs.UpwardLaws.{below_step, all_nodes}
use Rattle.places.proofs.ArrayLaws.{many_set, least_set, many_size, least_size}
use Rattle.places.proofs.upward.below_of.Goals as goal

pub loop-u-preserved : goal.loop-u-preserved
loop-u-preserved c =
    let l = c.loop-u in
    let p = c.below_at.ensures in
    record {
      size = length-set l.below _ _ ∙ l.invariant.size;
      right = λ t C K g.
          below_step g _ _ _ _ _ (manys l.below) (leasts l.below) _ _ (omega (arith, c.loop-u-test.true, all_nodes g _ c.min-nodes.ensures))
          c.from-a.ensures c.from-b.ensures refl
          (c.is_required-required.ensures ∙ ap (λ (r : ℕ). required_at c.args.number.now r c.args.m) c.from.ensures)
          (many_size l.below ∙ l.invariant.size) (least_size l.below ∙ l.invariant.size)
          (many_set l.below _ _ ∙ ap (set (manys l.below) l.u) p.many)
          (least_set l.below _ _ ∙ ap (set (leasts l.below) l.u) p.least)
          (l.invariant.right t C K g);
    }

pub returns : goal.returns
returns c =
    λ t C K g.
    let e : c.loop-u.u ≡ nodes_of t = omega (arith, c.loop-u-test.false, c.loop-u.auto.u-end, all_nodes g _ c.min-nodes.ensures) in
    rw e at (c.loop-u.invariant.right t C K g)
