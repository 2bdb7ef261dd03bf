-- `digits` meets its contract. The invariant: the digits put down, and those of what is left, are the number's. Assumes nothing.
use Rattle.decimals.proofs.PlaceLaws.{Going}
use Rattle.decimals.proofs.digits.Given as goal

abbrev pub invariant-loop-i : goal.invariant-loop-i
invariant-loop-i l = Going l.n l.len l.bytes l.rest l.i
