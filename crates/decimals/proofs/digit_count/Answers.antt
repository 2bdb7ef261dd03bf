-- `digit_count` meets its contract. The invariant: so many digits the number has at least. Assumes nothing.
use Prim.Native.Nat.{◌^◌, ◌≤◌}
use native.Mathlib.Omega.{arith}
use Rattle.decimals.proofs.DecimalLaws.{decimal_short}
use Rattle.decimals.proofs.PlaceLaws.{one_digit, count_stop, count_go, power_at}
use Rattle.decimals.proofs.digit_count.Goals as goal

pub loop-k-init : goal.loop-k-init
loop-k-init c = one_digit c.args.n

pub returns-then-n-powers-clause-count : goal.returns-then-n-powers-clause-count
returns-then-n-powers-clause-count c =
    count_stop _ _ (omega (arith, c)) c.loop-k.invariant
    (omega (arith, c.if-n-powers.true, power_at _ c.loop-k.k c.requires (omega (arith, c))))

pub loop-k-preserved : goal.loop-k-preserved
loop-k-preserved c =
    let k = c.loop-k.k in let reached : 10 ^ k ≤ c.args.n = omega (arith, c.if-n-powers.false, power_at _ k c.requires (omega (arith, c))) in
    omega (arith, count_go c.args.n k (omega (arith, c)) reached)

pub returns-clause-count : goal.returns-clause-count
returns-clause-count c = omega (arith, c.loop-k.invariant, c.loop-k-test.false, decimal_short c.args.n)
