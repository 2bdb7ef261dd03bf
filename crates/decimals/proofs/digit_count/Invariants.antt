-- `digit_count` meets its contract. The invariant: so many digits the number has at least. Assumes nothing.
use Prim.Native.Nat.{◌≤◌}
use lib.ListN.{length}
use Rattle.decimals.specs.Decimal.{decimal_of}
use Rattle.decimals.proofs.digit_count.Given as goal

abbrev pub invariant-loop-k : goal.invariant-loop-k
invariant-loop-k l = l.k ≤ length (decimal_of l.n)
