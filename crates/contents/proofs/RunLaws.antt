-- Digits at a place of a text, and the number that they stand for. Assumes nothing.
use Prim.Native.Nat.{ℕ, zero, suc, ◌+◌, ◌-◌, ◌*◌, ◌≤◌, ◌<◌}
use mathlib.Core.Path.{◌≡◌, refl, sym, ◌∙◌, ap}
use mathlib.Core.Bool.{Bool, true, false, cond}
use mathlib.Core.List.{List, [], ◌∷◌}
use native.Mathlib.Numerals.{add-one, one-add}
use native.Mathlib.Omega.{arith}
use lib.ListN.{length, get_or, take, drop, drop_of_length-le}
use lib.Seq.{drop-cons}
use Rattle.std.specs.Char.{is_ascii_digit}
use Rattle.std.specs.List.{prefix_len}
use Rattle.std.proofs.lemmas.Bool.Decides.{nat_tests}
use Rattle.decimals.specs.Decimal.{is_digit, digit_run, value_from}
use Rattle.contents.specs.Contents.{digit_limit}

-- ---- digits

ascii_digit : (b : ℕ) → is_ascii_digit b ≡ is_digit b
unfolding is_digit
ascii_digit b = grind (arith, nat_tests)

-- the digits in front are those that `take_while` counts
pub leading_run : (text : List ℕ) → take (prefix_len is_ascii_digit text) text ≡ digit_run text
unfolding digit_run
leading_run [] = refl
leading_run (b ∷ text) = rw (← ascii_digit b) (go (is_ascii_digit b) (leading_run text))
  where
    go : (d : Bool) → take (prefix_len is_ascii_digit text) text ≡ digit_run text
        → take (cond d (1 + prefix_len is_ascii_digit text) 0) (b ∷ text) ≡ cond d (b ∷ digit_run text) []
    go true e = rw (one-add (prefix_len is_ascii_digit text)) (ap (λ (l : List ℕ). b ∷ l) e)
    go false e = refl

-- the byte at a place, and the rest
pub at_place : (job : List ℕ) (i : ℕ) → i < length job → drop i job ≡ get_or job i 0 ∷ drop (i + 1) job
at_place job i h = drop-cons job i 0 h ∙ ap (λ (k : ℕ). get_or job i 0 ∷ drop k job) (sym (add-one i))

-- the digits are the first bytes of the text
pub run_first : (text : List ℕ) → digit_run text ≡ take (length (digit_run text)) text
unfolding digit_run
run_first [] = refl
run_first (b ∷ text) = go (is_digit b) (run_first text)
  where
    go : (d : Bool) → digit_run text ≡ take (length (digit_run text)) text
        → cond d (b ∷ digit_run text) [] ≡ take (length (cond d (b ∷ digit_run text) [])) (b ∷ text)
    go true e = ap (λ (l : List ℕ). b ∷ l) e
    go false e = refl

pub run_inside : (text : List ℕ) → length (digit_run text) ≤ length text
unfolding digit_run
run_inside [] = omega arith
run_inside (b ∷ text) = go (is_digit b) (run_inside text)
  where
    go : (d : Bool) → length (digit_run text) ≤ length text → length (cond d (b ∷ digit_run text) []) ≤ length (b ∷ text)
    go true h = omega arith
    go false h = omega arith

-- ---- the value

-- what a value stays below, far from where it would wrap
abbrev pub value_bound : ℕ
value_bound = 1000000000000000

-- what i digits stay below, whatever their bytes
unfoldable pub bound : ℕ → ℕ
bound zero = 1
bound (suc i) = bound i * 300

pub bound_more : (i v d : ℕ) → v < bound i → d < 256 → v * 10 + (d - 48) < bound (i + 1)
unfolding bound
bound_more i v d h k = rw (add-one i) (omega arith)

bound_less : (i k : ℕ) → bound i ≤ bound (i + k)
unfolding bound
bound_less i zero = let e : i + 0 ≡ i = omega arith in rw e (omega arith)
bound_less i (suc k) =
    let e : i + suc k ≡ suc (i + k) = omega arith in
    rw e (omega (arith, bound_less i k))

bound_limit : bound digit_limit < value_bound
unfolding bound
bound_limit = omega arith

pub bound_small : (i : ℕ) → i ≤ digit_limit → bound i < value_bound
bound_small i h =
    let e : i + (digit_limit - i) ≡ digit_limit = omega arith in
    omega (arith, bound_limit, rw e at (bound_less i (digit_limit - i)))

pub bound_none : 0 < bound 0
unfolding bound
bound_none = omega arith

pub value_more : (digits : List ℕ) (i v : ℕ) → i < length digits
    → value_from (v * 10 + (get_or digits i 0 - 48)) (drop (i + 1) digits) ≡ value_from v (drop i digits)
unfolding value_from
value_more digits i v h = rw (at_place digits i h) refl

pub value_done : (digits : List ℕ) (i v : ℕ) → length digits ≤ i → v ≡ value_from v (drop i digits)
unfolding value_from
value_done digits i v h = rw (drop_of_length-le digits h) refl
