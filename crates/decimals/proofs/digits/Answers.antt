-- `digits` meets its contract. The invariant: the digits put down, and those of what is left, are the number's. Assumes nothing.
use native.Mathlib.Omega.{arith}
use Rattle.decimals.proofs.PlaceLaws.{power_at, go_start, go_below, go_next, go_end}
use Rattle.decimals.proofs.digits.Goals as goal

pub loop-i-init : goal.loop-i-init
loop-i-init c = go_start c.args.n _ (omega (arith, c)) c.digit_count-len.ensures.count

pub take_digit-taken-requires : goal.take_digit-taken-requires
take_digit-taken-requires c =
    go_below _ c.loop-i.invariant (omega (arith, c)) (power_at _ _ c.powers-powers.ensures (omega (arith, c)))

pub loop-i-preserved : goal.loop-i-preserved
loop-i-preserved c =
    let taken = c.take_digit-taken.ensures in
    go_next _ _ _ _ _ _ _ _ c.loop-i.invariant c.digit_count-len.ensures.count (omega (arith, c))
    (power_at _ _ c.powers-powers.ensures (omega (arith, c))) taken.whole taken.rest taken.times

pub returns-clause-digits : goal.returns-clause-digits
returns-clause-digits c = (go_end c.loop-i.invariant c.digit_count-len.ensures.count (omega (arith, c))).0
