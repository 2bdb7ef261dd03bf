-- `downward::places_in` meets its contract. Assumes nothing.
use Prim.Native.Nat.{ℕ}
use lib.ListN.{get_or}
use mathlib.Core.Path.{◌≡◌, refl, sym, ◌∙◌, ap}
use native.Mathlib.Omega.{arith}
use Rattle.places.specs.Nodes.{leasts}
use Rattle.places.proofs.ArrayLaws.{filled_places, least_get, number_size, top_size}
use Rattle.places.proofs.DownwardLaws.{Reaching, reach_start, reach_step, reach_leaves}
use Rattle.places.proofs.UpwardLaws.{all_nodes}
use Rattle.places.proofs.downward.places_in.Goals as goal

pub loop-u-init : goal.loop-u-init
loop-u-init c =
    let below = c.args.below.now in
    record {
      size = refl;
      right = λ t C K rank m ks g told e.
          filled_places (Reaching t C K c.args.tree c.min-nodes.result) 159 _
          (reach_start g _ _ _ _ (leasts below) e (all_nodes g _ c.min-nodes.ensures) c.root_number.ensures
          (sym (least_get below c.saturating_sub.result) ∙ ap (λ (i : ℕ). get_or (leasts below) i 0) c.saturating_sub.ensures) told.least_is);
    }

pub loop-u-preserved : goal.loop-u-preserved
loop-u-preserved c =
    let l = c.loop-u in
    let p = c.pass_on.ensures in
    record {
      size = sym (number_size _) ∙ p.sizes.0 ∙ number_size l.places ∙ l.invariant.size;
      right = λ t C K rank m ks g told e.
          reach_step g _ _ _ _ _ _ _ _ _ _ (omega (arith, c.loop-u-test.true))
          (omega (arith, c.loop-u-test.true, c.loop-u.auto.u, all_nodes g _ c.min-nodes.ensures))
          c.from-a.ensures c.from-b.ensures told (number_size l.places ∙ l.invariant.size) (top_size l.places ∙ l.invariant.size)
          p (l.invariant.right t C K rank m ks g told e);
    }

pub returns : goal.returns
returns c =
    λ t C K rank m ks g told e.
    let z : c.loop-u.u ≡ 0 = omega (arith, c.loop-u-test.false) in
    reach_leaves g _ _ (rw z at (c.loop-u.invariant.right t C K rank m ks g told e))
