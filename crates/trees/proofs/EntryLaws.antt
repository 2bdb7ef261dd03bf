-- Entries of an array that a loop stores one after the other. Assumes nothing.
use Prim.Native.Nat.{ℕ, zero, suc, ◌+◌, ◌%◌, ◌<◌}
use mathlib.Core.Path.{◌≡◌, refl}
use mathlib.Core.Bool.{true, false}
use mathlib.Core.Logic.{◌⊎◌, inl, inr}
use mathlib.Core.List.{List}
use native.Mathlib.Omega.{arith}
use lib.Dec.{eqb}
use lib.ListN.{length, get_or, set, replicate}
use lib.Seq.{get_or-set_same, get_or-set_other}
use borrow.Author.Tests.{eqb-true, eqb-false}
use Rattle.trees.proofs.Bools.{bool_cases}

-- what holds of each number below n, and of n, holds of each below n + 1
pub below_next : (P : ℕ → Type 0) (n : ℕ) → ((k : ℕ) → k < n → P k) → P n → (k : ℕ) → k < n + 1 → P k
below_next P n f p k h = go (bool_cases (eqb k n))
  where
    go : (eqb k n ≡ true) ⊎ (eqb k n ≡ false) → P k
    go (inl e) = rw (eqb-true k n e) p
    go (inr e) = f k (omega (arith, eqb-false k n e))

-- what holds of each entry so far, and of the one stored next, holds of each entry then
pub store_next : (P : ℕ → ℕ → Type 0) (l : List ℕ) (n x : ℕ) → n < length l → ((k : ℕ) → k < n → P k (get_or l k 0)) → P n x
    → (k : ℕ) → k < n + 1 → P k (get_or (set l n x) k 0)
store_next P l n x h f p =
    below_next (λ k. P k (get_or (set l n x) k 0)) n (λ k less. rw (get_or-set_other l n k x 0 (omega arith)) (f k less))
    (rw (get_or-set_same l n x 0 h) p)

-- an array of one value alone
pub filled_at : {A : Type 0} (a : A) (n i : ℕ) → get_or (replicate n a) i a ≡ a
filled_at a zero i = refl
filled_at a (suc n) zero = refl
filled_at a (suc n) (suc i) = filled_at a n i

-- a number that is stored as a byte, or as a place, stays as it is
pub fits_byte : (n : ℕ) → n < 256 → n % 256 ≡ n
fits_byte n h = omega arith

pub fits_place : (n : ℕ) → n < 65536 → n % 65536 ≡ n
fits_place n h = omega arith
