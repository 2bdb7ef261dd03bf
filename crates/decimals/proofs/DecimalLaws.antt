-- Decimal digits and the number that they stand for. Assumes nothing.
use Prim.Native.Nat.{ℕ, zero, suc, ◌+◌, ◌-◌, ◌*◌, ◌/◌, ◌%◌, ◌^◌, ◌≤◌, ◌<◌}
use mathlib.Core.Path.{◌≡◌, refl, sym, ◌∙◌, ap}
use mathlib.Core.Bool.{Bool, true, false, cond, ◌&&◌}
use mathlib.Core.Logic.{◌⊎◌, inl, inr}
use mathlib.Core.List.{List, [], ◌∷◌, ◌++◌, append_assoc}
use native.Mathlib.Nat.{pow-suc}
use native.Mathlib.Omega.{arith}
use lib.Dec.{ltb, leb}
use lib.ListN.{length, get_or, length-append, get_or-append}
use borrow.Author.Tests.{lt-ltb, le-ltb, ltb-true, ltb-false, le-leb, leb-true}
use Rattle.trees.proofs.Bools.{bool_cases, and_left, and_right, and_intro}
use Rattle.decimals.specs.Decimal.{decimal_from, decimal_of, is_digit, value_from}

-- ---- the digits, one after another

pub from_small : (at n : ℕ) → 0 < at → n < 10 → decimal_from at n ≡ (48 + n) ∷ []
unfolding decimal_from
from_small zero n h k = absurd (omega arith)
from_small (suc at) n h k = rw (lt-ltb n 10 k) refl

pub from_large : (at n : ℕ) → 0 < at → 10 ≤ n → decimal_from at n ≡ decimal_from (at - 1) (n / 10) ++ ((48 + n % 10) ∷ [])
unfolding decimal_from
from_large zero n h k = absurd (omega arith)
from_large (suc at) n h k =
    let e : at ≡ suc at - 1 = omega arith in
    rw (le-ltb n 10 k) (ap (λ (r : ℕ). decimal_from r (n / 10) ++ ((48 + n % 10) ∷ [])) e)

-- at most 20 digits
pub from_short : (room n : ℕ) → length (decimal_from room n) ≤ room
unfolding decimal_from
from_short zero n = omega arith
from_short (suc room) n = go (ltb n 10) (from_short room (n / 10))
  where
    go : (b : Bool) → length (decimal_from room (n / 10)) ≤ room
        → length (cond b ((48 + n) ∷ []) (decimal_from room (n / 10) ++ ((48 + n % 10) ∷ []))) ≤ suc room
    go true h = omega arith
    go false h = omega (arith, length-append (decimal_from room (n / 10)) ((48 + n % 10) ∷ []))

pub decimal_short : (n : ℕ) → length (decimal_of n) ≤ 20
unfolding decimal_of
decimal_short n = from_short 20 n

-- ---- the number that digits stand for

value_snoc : (digits : List ℕ) (v d : ℕ) → value_from v (digits ++ (d ∷ [])) ≡ value_from v digits * 10 + (d - 48)
unfolding value_from
value_snoc [] v d = refl
value_snoc (c ∷ digits) v d = value_snoc digits (v * 10 + (c - 48)) d

from_value : (room n : ℕ) → n < 10 ^ room → value_from 0 (decimal_from room n) ≡ n
unfolding value_from decimal_from
from_value zero n h = omega arith
from_value (suc room) n h = go (bool_cases (ltb n 10)) (from_value room (n / 10))
  where
    go : (ltb n 10 ≡ true) ⊎ (ltb n 10 ≡ false) → (n / 10 < 10 ^ room → value_from 0 (decimal_from room (n / 10)) ≡ n / 10)
        → value_from 0 (cond (ltb n 10) ((48 + n) ∷ []) (decimal_from room (n / 10) ++ ((48 + n % 10) ∷ []))) ≡ n
    go (inl e) r = rw e (omega arith)
    go (inr e) r =
        let p : 10 ^ suc room ≡ 10 ^ room * 10 = pow-suc 10 room in
        rw (e, value_snoc (decimal_from room (n / 10)) 0 (48 + n % 10), r (omega (arith, p))) (omega arith)

-- the digits of a number below 10 ^ 20 stand for it
pub decimal_value : (n : ℕ) → n < 10 ^ 20 → value_from 0 (decimal_of n) ≡ n
unfolding decimal_of
decimal_value n h = from_value 20 n h

-- ---- the digits of a number are those that it is read from

-- v, then digits: the digits of v, then those
abbrev pub all_digits : List ℕ → Bool
all_digits [] = true
all_digits (d ∷ digits) = is_digit d && all_digits digits

pub digit_small : (d : ℕ) → is_digit d ≡ true → (48 ≤ d) × (d ≤ 57)
unfolding is_digit
digit_small d h = (leb-true 48 d (and_left (leb 48 d) (leb d 57) h), leb-true d 57 (and_right (leb 48 d) (leb d 57) h))

-- a digit more: the room is one less than before
from_next : (room v d : ℕ) → 0 < v → is_digit d ≡ true → decimal_from (suc room) (v * 10 + (d - 48)) ≡ decimal_from room v ++ (d ∷ [])
unfolding decimal_from
from_next room v d p h =
    let small = digit_small d h in
    let q : (v * 10 + (d - 48)) / 10 ≡ v = omega arith in
    let r : 48 + (v * 10 + (d - 48)) % 10 ≡ d = omega arith in
    rw (le-ltb (v * 10 + (d - 48)) 10 (omega arith), q, r) refl

-- digits after v: read back in front of them
pub from_read : (digits : List ℕ) (room v : ℕ) → 0 < v → all_digits digits ≡ true
    → decimal_from (length digits + room) (value_from v digits) ≡ decimal_from room v ++ digits
unfolding value_from
from_read [] room v p h =
    let e : 0 + room ≡ room = omega arith in
    ap (λ (k : ℕ). decimal_from k v) e ∙ sym (mathlib.Core.List.append-nil (decimal_from room v))
from_read (d ∷ digits) room v p h =
    let e : suc (length digits) + room ≡ length digits + suc room = omega arith in
    ap (λ (k : ℕ). decimal_from k (value_from (v * 10 + (d - 48)) digits)) e
    ∙ from_read digits (suc room) (v * 10 + (d - 48)) (omega arith) (and_right (is_digit d) (all_digits digits) h)
    ∙ ap (λ (l : List ℕ). l ++ digits) (from_next room v d p (and_left (is_digit d) (all_digits digits) h))
    ∙ append_assoc (decimal_from room v) (d ∷ []) digits

pub value_below : (digits : List ℕ) (k v : ℕ) → v < 10 ^ k → all_digits digits ≡ true → value_from v digits < 10 ^ (k + length digits)
unfolding value_from
value_below [] k v h g = let e : k + 0 ≡ k = omega arith in rw e h
value_below (d ∷ digits) k v h g =
    let e : suc k + length digits ≡ k + suc (length digits) = omega arith in
    let q : 10 ^ suc k ≡ 10 ^ k * 10 = pow-suc 10 k in
    let small = digit_small d (and_left (is_digit d) (all_digits digits) g) in
    rw e at (value_below digits (suc k) (v * 10 + (d - 48)) (omega (arith, q)) (and_right (is_digit d) (all_digits digits) g))

-- a number's digits are digits
all_append : (xs ys : List ℕ) → all_digits xs ≡ true → all_digits ys ≡ true → all_digits (xs ++ ys) ≡ true
all_append [] ys h k = k
all_append (x ∷ xs) ys h k =
    and_intro (is_digit x) (all_digits (xs ++ ys)) (and_left (is_digit x) (all_digits xs) h)
    (all_append xs ys (and_right (is_digit x) (all_digits xs) h) k)

digit_of : (n : ℕ) → n < 10 → is_digit (48 + n) ≡ true
unfolding is_digit
digit_of n h = rw (le-leb 48 (48 + n) (omega arith), le-leb (48 + n) 57 (omega arith)) refl

pub from_digits : (room n : ℕ) → all_digits (decimal_from room n) ≡ true
unfolding decimal_from
from_digits zero n = refl
from_digits (suc room) n = go (bool_cases (ltb n 10)) (from_digits room (n / 10))
  where
    go : (ltb n 10 ≡ true) ⊎ (ltb n 10 ≡ false) → all_digits (decimal_from room (n / 10)) ≡ true
        → all_digits (cond (ltb n 10) ((48 + n) ∷ []) (decimal_from room (n / 10) ++ ((48 + n % 10) ∷ []))) ≡ true
    go (inl e) r = rw (e, digit_of n (ltb-true n 10 e)) refl
    go (inr e) r =
        rw e (all_append (decimal_from room (n / 10)) ((48 + n % 10) ∷ []) r (rw (digit_of (n % 10) (omega arith)) refl))

-- one digit at least
pub from_some : (room n : ℕ) → 0 < room → 1 ≤ length (decimal_from room n)
unfolding decimal_from
from_some zero n h = absurd (omega arith)
from_some (suc room) n h = go (ltb n 10)
  where
    go : (b : Bool) → 1 ≤ length (cond b ((48 + n) ∷ []) (decimal_from room (n / 10) ++ ((48 + n % 10) ∷ [])))
    go true = omega arith
    go false = omega (arith, length-append (decimal_from room (n / 10)) ((48 + n % 10) ∷ []))

-- a power above 1 has an exponent
some_power : (j : ℕ) → 1 < 10 ^ j → 0 < j
some_power zero h = absurd (omega arith)
some_power (suc j) h = omega arith

-- at most k digits below 10 ^ k
pub from_few : (k room n : ℕ) → 0 < k → n < 10 ^ k → length (decimal_from room n) ≤ k
unfolding decimal_from
from_few zero room n p h = absurd (omega arith)
from_few (suc k) zero n p h = omega arith
from_few (suc k) (suc room) n p h = go (bool_cases (ltb n 10)) (from_few k room (n / 10))
  where
    go : (ltb n 10 ≡ true) ⊎ (ltb n 10 ≡ false) → (0 < k → n / 10 < 10 ^ k → length (decimal_from room (n / 10)) ≤ k)
        → length (cond (ltb n 10) ((48 + n) ∷ []) (decimal_from room (n / 10) ++ ((48 + n % 10) ∷ []))) ≤ suc k
    go (inl e) r = rw e (omega arith)
    go (inr e) r =
        let big : 10 ≤ n = ltb-false n 10 e in
        let q : 10 ^ suc k ≡ 10 ^ k * 10 = pow-suc 10 k in
        rw e (omega (arith, length-append (decimal_from room (n / 10)) ((48 + n % 10) ∷ []), r (some_power k (omega (arith, q))) (omega (arith, q))))

-- the first digit is `0` only of 0
pub no_leading_zero : (room n : ℕ) → 0 < n → n < 10 ^ room → get_or (decimal_from room n) 0 0 ≡ 48 → ⊥
unfolding decimal_from
no_leading_zero zero n p h e = omega arith
no_leading_zero (suc room) n p h e = go (bool_cases (ltb n 10)) (no_leading_zero room (n / 10)) e
  where
    go : (ltb n 10 ≡ true) ⊎ (ltb n 10 ≡ false) → (0 < n / 10 → n / 10 < 10 ^ room → get_or (decimal_from room (n / 10)) 0 0 ≡ 48 → ⊥)
        → get_or (cond (ltb n 10) ((48 + n) ∷ []) (decimal_from room (n / 10) ++ ((48 + n % 10) ∷ []))) 0 0 ≡ 48 → ⊥
    go (inl f) r z = let z' = rw f at z in omega arith
    go (inr f) r z =
        let big : 10 ≤ n = ltb-false n 10 f in
        let q : 10 ^ suc room ≡ 10 ^ room * 10 = pow-suc 10 room in
        let z' = rw f at z in
        r (omega arith) (omega (arith, q))
        (sym (get_or-append (decimal_from room (n / 10)) ((48 + n % 10) ∷ []) 0 0 (from_some room (n / 10) (some_power room (omega (arith, q))))) ∙ z')
