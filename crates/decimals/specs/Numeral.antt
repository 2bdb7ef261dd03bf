-- The digits of a number by value. C-13: "make the decimal digits of a place without division or remainder, by subtracting powers of ten.
-- For every place they are the same as before".
use Rattle.std.specs.Prelude.{ℕ, zero, suc, ◌^◌, List, [], ◌∷◌, take}
use Rattle.trees.specs.declared.ShortBytes.{ShortBytes}
use Rattle.decimals.specs.Decimal.{digit_room}

abbrev pub Numeral : Type 0
Numeral = ShortBytes digit_room

-- the digits of a numeral; if the length exceeds 20, the array's 20 bytes count
unfoldable pub numeral_bytes : Numeral → List ℕ
numeral_bytes d = take d.len d.bytes

-- ---- what the code subtracts. Intermediate: no public contract rests on this part.

-- n powers of ten, from that of k on
unfoldable pub powers_from : ℕ → ℕ → List ℕ
powers_from k zero = []
powers_from k (suc n) = 10 ^ k ∷ powers_from (suc k) n

-- those that a number of the machine can hold
unfoldable pub ten_powers : List ℕ
unfolding powers_from
ten_powers = powers_from 0 digit_room
