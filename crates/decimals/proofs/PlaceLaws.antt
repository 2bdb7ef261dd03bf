-- The digits of a number from the highest power of ten on. Assumes nothing.
use Prim.Native.Nat.{ℕ, zero, suc, ◌+◌, ◌-◌, ◌*◌, ◌/◌, ◌%◌, ◌^◌, ◌≤◌, ◌<◌}
use mathlib.Core.Path.{◌≡◌, refl, sym, ◌∙◌, ap}
use mathlib.Core.Bool.{true, false, cond}
use mathlib.Core.Logic.{◌⊎◌, inl, inr}
use mathlib.Core.List.{List, [], ◌∷◌, ◌++◌}
use native.Mathlib.Nat.{pow-suc, pow-le-pow_right, mul-le-mul_right, mul_assoc}
use native.Mathlib.Omega.{arith}
use lib.Dec.{ltb}
use lib.ListN.{length, get_or, set, take, drop, replicate, length-append}
use lib.Seq.{get_or-drop, drop-drop, take-length, take-append_seam, drop-append_seam}
use borrow.Author.Tests.{ltb-true, ltb-false}
use Rattle.trees.proofs.Bools.{bool_cases}
use Rattle.trees.proofs.StoredLaws.{copied, copy_next}
use Rattle.decimals.specs.Decimal.{decimal_from, decimal_of}
use Rattle.decimals.specs.Numeral.{numeral_bytes, powers_from, ten_powers}
use Rattle.decimals.proofs.DecimalLaws.{from_few, from_some, decimal_short}

-- ---- the powers

from_power : (n k i : ℕ) → i < n → get_or (powers_from k n) i 0 ≡ 10 ^ (k + i)
unfolding powers_from
from_power zero k i h = absurd (omega arith)
from_power (suc n) k zero h = let e : k ≡ k + 0 = omega arith in ap (λ (j : ℕ). 10 ^ j) e
from_power (suc n) k (suc i) h =
    let e : suc k + i ≡ k + suc i = omega arith in
    from_power n (suc k) i (omega arith) ∙ ap (λ (j : ℕ). 10 ^ j) e

pub power_at : (powers : List ℕ) (i : ℕ) → powers ≡ ten_powers → i < 20 → get_or powers i 0 ≡ 10 ^ i
unfolding ten_powers
power_at powers i e h =
    let z : 0 + i ≡ i = omega arith in
    ap (λ (l : List ℕ). get_or l i 0) e ∙ from_power 20 0 i h ∙ ap (λ (j : ℕ). 10 ^ j) z

-- ---- how many digits there are

-- a number is below the power of its number of digits
from_below : (room n : ℕ) → n < 10 ^ room → n < 10 ^ length (decimal_from room n)
unfolding decimal_from
from_below zero n h = h
from_below (suc room) n h = go (bool_cases (ltb n 10)) (from_below room (n / 10))
  where
    go : (ltb n 10 ≡ true) ⊎ (ltb n 10 ≡ false) → (n / 10 < 10 ^ room → n / 10 < 10 ^ length (decimal_from room (n / 10)))
        → n < 10 ^ length (cond (ltb n 10) ((48 + n) ∷ []) (decimal_from room (n / 10) ++ ((48 + n % 10) ∷ [])))
    go (inl e) r = rw e (ltb-true n 10 e)
    go (inr e) r =
        let m = length (decimal_from room (n / 10)) in
        let p : 10 ^ suc room ≡ 10 ^ room * 10 = pow-suc 10 room in
        let q : 10 ^ suc m ≡ 10 ^ m * 10 = pow-suc 10 m in
        let l : length (decimal_from room (n / 10) ++ ((48 + n % 10) ∷ [])) ≡ suc m =
        omega (arith, length-append (decimal_from room (n / 10)) ((48 + n % 10) ∷ [])) in
        let low = r (omega (arith, p)) in
        rw (e, l) (omega (arith, q))

pub below_count : (n : ℕ) → n < 10 ^ 20 → n < 10 ^ length (decimal_of n)
unfolding decimal_of
below_count n h = from_below 20 n h

pub one_digit : (n : ℕ) → 1 ≤ length (decimal_of n)
unfolding decimal_of
one_digit n = from_some 20 n (omega arith)

-- a power that is not reached: no more digits than that
pub count_stop : (n k : ℕ) → 1 ≤ k → k ≤ length (decimal_of n) → n < 10 ^ k → k ≡ length (decimal_of n)
unfolding decimal_of
count_stop n k p h low = omega (arith, from_few k 20 n p low)

-- a power that is reached: more digits than that
pub count_go : (n k : ℕ) → n < 10 ^ 20 → 10 ^ k ≤ n → k < length (decimal_of n)
count_go n k h high = go (bool_cases (ltb k (length (decimal_of n))))
  where
    go : (ltb k (length (decimal_of n)) ≡ true) ⊎ (ltb k (length (decimal_of n)) ≡ false) → k < length (decimal_of n)
    go (inl e) = ltb-true k (length (decimal_of n)) e
    go (inr e) =
        let up = pow-le-pow_right {n = 10} (omega arith) (ltb-false k (length (decimal_of n)) e) in
        absurd (omega (arith, up, below_count n h))

-- ---- the digits, highest first

-- the last k digits of n, zeros in front included
unfoldable pub last_digits : ℕ → ℕ → List ℕ
last_digits zero n = []
last_digits (suc k) n = last_digits k (n / 10) ++ ((48 + n % 10) ∷ [])

from_last : (room n : ℕ) → decimal_from room n ≡ last_digits (length (decimal_from room n)) n
unfolding decimal_from last_digits
from_last zero n = refl
from_last (suc room) n = go (bool_cases (ltb n 10)) (from_last room (n / 10))
  where
    go : (ltb n 10 ≡ true) ⊎ (ltb n 10 ≡ false) → decimal_from room (n / 10) ≡ last_digits (length (decimal_from room (n / 10))) (n / 10)
        → cond (ltb n 10) ((48 + n) ∷ []) (decimal_from room (n / 10) ++ ((48 + n % 10) ∷ []))
        ≡ last_digits (length (cond (ltb n 10) ((48 + n) ∷ []) (decimal_from room (n / 10) ++ ((48 + n % 10) ∷ [])))) n
    go (inl e) r =
        let low = ltb-true n 10 e in
        let d : 48 + n ≡ 48 + n % 10 = omega arith in
        rw e (ap (λ (x : ℕ). x ∷ []) d)
    go (inr e) r =
        let l : length (decimal_from room (n / 10) ++ ((48 + n % 10) ∷ [])) ≡ suc (length (decimal_from room (n / 10))) =
        omega (arith, length-append (decimal_from room (n / 10)) ((48 + n % 10) ∷ [])) in
        rw (e, l) (ap (λ (x : List ℕ). x ++ ((48 + n % 10) ∷ [])) r)

-- a number's digits are its last ones, as many as it has
pub all_digits_lem : (n : ℕ) → decimal_of n ≡ last_digits (length (decimal_of n)) n
unfolding decimal_of
all_digits_lem n = from_last 20 n

-- the highest of them is how often its power goes into the number
pub first_digit : (k d r : ℕ) → d < 10 → r < 10 ^ k → last_digits (suc k) (d * 10 ^ k + r) ≡ (48 + d) ∷ last_digits k r
unfolding last_digits
first_digit zero d r h low =
    let e : 48 + (d * 1 + r) % 10 ≡ 48 + d = omega arith in
    ap (λ (x : ℕ). x ∷ []) e
first_digit (suc k) d r h low =
    let x = d * 10 ^ k in
    let p : 10 ^ suc k ≡ 10 ^ k * 10 = pow-suc 10 k in
    let q : d * 10 ^ suc k ≡ x * 10 = rw p (sym (mul_assoc d (10 ^ k) 10)) in
    let high : (d * 10 ^ suc k + r) / 10 ≡ x + r / 10 = omega (arith, q) in
    let last : (d * 10 ^ suc k + r) % 10 ≡ r % 10 = omega (arith, q) in
    rw (high, last, first_digit k d (r / 10) h (omega (arith, p))) refl

-- fewer than ten times
pub few_times : (n t rest power : ℕ) → n ≡ t * power + rest → n < power * 10 → t < 10
few_times n t rest power e h = go (bool_cases (ltb t 10))
  where
    go : (ltb t 10 ≡ true) ⊎ (ltb t 10 ≡ false) → t < 10
    go (inl f) = ltb-true t 10 f
    go (inr f) = absurd (omega (arith, mul-le-mul_right power (ltb-false t 10 f)))

-- ---- the loop over the powers

-- i digits of n are put down, and the others are those of what is left
pub record Going (n len : ℕ) (bytes : List ℕ) (rest i : ℕ) : Type 0 where
  pub within : i ≤ len
  pub put : bytes ≡ copied 20 (decimal_of n) i
  pub left : drop i (decimal_of n) ≡ last_digits (len - i) rest
  pub below : rest < 10 ^ (len - i)

pub go_start : (n len : ℕ) → n < 10 ^ 20 → len ≡ length (decimal_of n) → Going n len (replicate 20 0) n 0
go_start n len h e =
    let f : length (decimal_of n) ≡ len - 0 = omega arith in
    record {
      within = omega arith;
      put = refl;
      left = all_digits_lem n ∙ ap (λ (k : ℕ). last_digits k n) f;
      below = rw f at (below_count n h);
    }

-- the power at which the next digit stands
pub go_below : {n len rest i : ℕ} {bytes : List ℕ} (p : ℕ) → Going n len bytes rest i → i < len → p ≡ 10 ^ (len - 1 - i)
    → rest < p * 10
go_below {len = len} {i = i} p g h e =
    let f : len - i ≡ suc (len - 1 - i) = omega arith in
    let q : 10 ^ suc (len - 1 - i) ≡ 10 ^ (len - 1 - i) * 10 = pow-suc 10 (len - 1 - i) in
    let b = rw f at g.below in
    omega arith

pub go_next : (n len rest i p t r : ℕ) (bytes : List ℕ) → Going n len bytes rest i → len ≡ length (decimal_of n) → i < len
    → p ≡ 10 ^ (len - 1 - i) → rest ≡ t * p + r → r < p → t < 10 → Going n len (set bytes i (48 + t)) r (i + 1)
go_next n len rest i p t r bytes g c h e w low few =
    let k = len - 1 - i in
    let f : len - i ≡ suc k = omega arith in
    let f' : len - (i + 1) ≡ k = omega arith in
    let v : rest ≡ t * 10 ^ k + r = w ∙ ap (λ (x : ℕ). t * x + r) e in
    let m : r < 10 ^ k = rw e at low in
    let d : drop i (decimal_of n) ≡ (48 + t) ∷ last_digits k r =
    g.left ∙ ap (λ (j : ℕ). last_digits j rest) f ∙ ap (last_digits (suc k)) v ∙ first_digit k t r few m in
    let z : i + 0 ≡ i = omega arith in
    let b : 48 + t ≡ get_or (decimal_of n) i 0 =
    sym (ap (λ (l : List ℕ). get_or l 0 0) d) ∙ get_or-drop i (decimal_of n) 0 0 ∙ ap (λ (j : ℕ). get_or (decimal_of n) j 0) z in
    record {
      within = omega arith;
      put = copy_next 20 (decimal_of n) i (48 + t) bytes g.put b (omega arith) (omega (arith, decimal_short n));
      left = sym (drop-drop 1 i (decimal_of n)) ∙ ap (drop 1) d ∙ ap (λ (j : ℕ). last_digits j r) (sym f');
      below = rw f' m;
    }

-- all digits are put down
pub go_end : {n len rest i : ℕ} {bytes : List ℕ} → Going n len bytes rest i → len ≡ length (decimal_of n) → len ≤ i
    → (numeral_bytes (record { bytes = bytes; len = len }) ≡ decimal_of n)
    × ((len ≡ length (decimal_of n)) × (drop len bytes ≡ replicate (20 - len) 0))
unfolding numeral_bytes
go_end {n = n} {len = len} {i = i} {bytes = bytes} g c h =
    (rw (whole, c) (take-append_seam (decimal_of n) _), (c, rw (whole, c) (drop-append_seam (decimal_of n) _)))
  where
    e : i ≡ len
    e = omega (arith, g.within)

    whole : bytes ≡ decimal_of n ++ replicate (20 - len) 0
    whole =
        g.put ∙ ap (copied 20 (decimal_of n)) e
        ∙ ap (λ (l : List ℕ). l ++ replicate (20 - len) 0) (ap (λ (j : ℕ). take j (decimal_of n)) c ∙ take-length (decimal_of n))
