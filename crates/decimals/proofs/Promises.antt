-- What decimal digits promise, in 01's order. Each theorem cites one name. Assumes nothing.
use Prim.Native.Nat.{ℕ, ◌^◌, ◌<◌}
use mathlib.Core.Path.{◌≡◌}
use lib.ListN.{get_or}
use Rattle.decimals.specs.Decimal.{decimal_from, decimal_of, value_from}
use Rattle.decimals.proofs.DecimalLaws

-- "decimal": the value of the digits is the number.
pub digits_value : (n : ℕ) → n < 10 ^ 20 → value_from 0 (decimal_of n) ≡ n
digits_value = DecimalLaws.decimal_value

-- "no leading zero except `0` itself"
pub no_zero_first : (room n : ℕ) → 0 < n → n < 10 ^ room → get_or (decimal_from room n) 0 0 ≡ 48 → ⊥
no_zero_first = DecimalLaws.no_leading_zero
