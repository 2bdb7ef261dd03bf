-- `contents::decimal::value_of`: the value so far goes on to the value of all digits, and stays small.
use Prim.Native.Nat.{◌<◌}
use mathlib.Core.Path.{◌≡◌}
use lib.ListN.{drop}
use Rattle.decimals.specs.Decimal.{value_from}
use Rattle.contents.proofs.RunLaws.{bound}
use Rattle.contents.proofs.decimal.value_of.Given as goal

abbrev pub invariant-loop-b : goal.invariant-loop-b
invariant-loop-b l =
    record { small : l.v < bound l.b-index; whole : value_from l.v (drop l.b-index l.digits) ≡ value_from 0 l.digits }
