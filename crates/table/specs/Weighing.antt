-- Weights by rank as they are stored, and a set as bits. Intermediate: nothing public rests on this text.
use Rattle.std.specs.Prelude.{◌≡◌, ℕ, zero, suc, ◌+◌, ◌-◌, ◌*◌, ◌%◌, ◌<◌, ◌≤◌, Bool, false, cond, ◌⊎◌, List, [], ◌∷◌, length, ◌==◌, nat_le, slice_index, slice_index_or}
use Rattle.agreement.specs.Powers.{whole, power}
use Rattle.table.specs.Table.{weight_place}

-- the units of a label by its number in the required list, counted from 1
abbrev pub unit_of : ℕ → ℕ
unit_of number = cond (number == 0) 1 128

-- the weights of the first m ranks are stored, and nothing else
pub record WeightsPut (m : ℕ) (number area area' : List ℕ) : Type 0 where
  pub sized : length area ≡ 1431 → length area' ≡ 1431
  pub each : length area ≡ 1431 → (r : ℕ) → r < m
      → slice_index area' (weight_place r) ≡ unit_of (slice_index number r) * whole + power (79 - r)
  pub others : (i : ℕ) → (i < 1272) ⊎ (1272 + m ≤ i) → slice_index area' i ≡ slice_index area i

-- the powers in them
abbrev pub Powers : ℕ → List ℕ → Type 0
Powers m area = (r : ℕ) → r < m → slice_index area (weight_place r) % whole ≡ power (79 - r)

-- a number below the n-th power as bits, highest first
unfoldable pub bits_of : ℕ → ℕ → List Bool
bits_of zero p = []
bits_of (suc n) p = nat_le (power n) p ∷ bits_of n (cond (nat_le (power n) p) (p - power n) p)

-- the first m bits of a number
pub record Bits (m p : ℕ) (chosen : List Bool) : Type 0 where
  pub each : (r : ℕ) → r < m → slice_index_or chosen r false ≡ slice_index_or (bits_of 80 p) r false
