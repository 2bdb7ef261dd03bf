-- `weights::put_weights` meets its contract. Assumes nothing.
use Rattle.std.proofs.Common.{◌<◌, arith}
use Rattle.table.proofs.WeighingLaws.{power_79, power_half, weights_none, weights_next}
use Rattle.table.proofs.weights.put_weights.Goals as goal

pub loop-r-init : goal.loop-r-init
loop-r-init c = (omega arith, λ h. power_79, weights_none _ _)

pub loop-r-preserved : goal.loop-r-preserved
loop-r-preserved c =
    let i = c.loop-r.invariant in
    let small : c.loop-r.r < 80 = omega (arith, c.loop-r-test.true, c.requires) in
    let e = i.1 small in (
      omega (arith, i.0),
      λ k. power_half c.loop-r.r _ k e,
      weights_next c.loop-r.r _ _ _ _ small i.2 (omega (arith, c.units.ensures.value, e)),
    )
