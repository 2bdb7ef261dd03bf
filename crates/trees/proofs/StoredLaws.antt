-- Laws of labels kept apart from their text: how the copying loops go on, and that keeping a label that is not too long, or showing it,
-- loses nothing. Assumes nothing.
use Prim.Native.Nat.{ℕ, suc, ◌+◌, ◌-◌, ◌<◌, ◌≤◌, min}
use mathlib.Core.Path.{◌≡◌, refl}
use mathlib.Core.Bool.{true, false}
use mathlib.Core.Logic.{◌⊎◌, inl, inr}
use mathlib.Core.List.{List, ◌++◌, append_assoc}
use native.Mathlib.Omega.{arith}
use native.Mathlib.Numerals.{add-one}
use lib.Dec.{leb}
use lib.ListN.{length, get_or, take, set, replicate}
use lib.Seq.{set_at, take_at, take-suc, length-take-le, take_all, take-length}
use borrow.Author.Tests.{leb-true, leb-false}
use Rattle.trees.specs.Label.{Label, label_limit}
use Rattle.trees.specs.Token.{token_of, token_limit}
use Rattle.trees.specs.Stored.{StoredLabel, ShownLabel, stored_bytes, stored_of, shown_of, shown_bytes}
use Rattle.trees.proofs.Bools.{bool_cases}
use Rattle.trees.proofs.TokenLaws.{token_short}

-- an array of n bytes that begins with the first i bytes of x
abbrev pub copied : ℕ → List ℕ → ℕ → List ℕ
copied n x i = take i x ++ replicate (n - i) 0

module _ (n : ℕ) (x : List ℕ) where
  -- one byte more is copied
  one_more : (i : ℕ) → i < length x → i < n → set (copied n x i) i (get_or x i 0) ≡ copied n x (i + 1)
  one_more i h k =
      rw (e, set_at (take i x) 0 (replicate (n - (i + 1)) 0) (get_or x i 0) i (length-take-le i x (omega arith)), add-one i, take-suc x i 0 h, append_assoc)
      refl
    where
      e : n - i ≡ suc (n - (i + 1))
      e = omega arith

  pub copy_next : (i v : ℕ) (bytes : List ℕ) → bytes ≡ copied n x i → v ≡ get_or x i 0 → i < length x → i < n → set bytes i v ≡ copied n x (i + 1)
  copy_next i v bytes e f h k = rw (e, f) (one_more i h k)

  -- all bytes that count are copied
  all_copied : copied n x (min (length x) n) ≡ take n x ++ replicate (n - length x) 0
  all_copied = rw (first, rest) refl
    where
      cases : (leb (length x) n ≡ true) ⊎ (leb (length x) n ≡ false) → take (min (length x) n) x ≡ take n x
      cases (inl h) =
          let l = leb-true (length x) n h in
          let m : min (length x) n ≡ length x = omega arith in
          rw (m, take_all n x l) (take-length x)
      cases (inr h) =
          let l = leb-false (length x) n h in
          let m : min (length x) n ≡ n = omega arith in
          rw m refl

      first : take (min (length x) n) x ≡ take n x
      first = cases (bool_cases (leb (length x) n))

      rest : n - min (length x) n ≡ n - length x
      rest = omega arith

  -- of bytes that fit, the ones that count are all
  back : length x ≤ n → take (min (length x) n) (take n x ++ replicate (n - length x) 0) ≡ x
  back h =
      let e : min (length x) n ≡ length x = omega arith in
      rw (e, take_all n x h) (take_at x (replicate (n - length x) 0) (length x) refl)

pub stored_made : (x : Label) (i : ℕ) (bytes : List ℕ) → i ≡ min (length x) label_limit → bytes ≡ copied label_limit x i
    → ◌≡◌ {A = StoredLabel} (record { bytes = bytes; len = i }) (stored_of x)
unfolding stored_of
stored_made x i bytes e f = rw (f, e, all_copied label_limit x) refl

pub shown_made : (x : Label) (form bytes : List ℕ) (i : ℕ) → form ≡ token_of x → i ≡ min (length form) token_limit
    → bytes ≡ copied token_limit form i → ◌≡◌ {A = ShownLabel} (record { bytes = bytes; len = i }) (shown_of x)
unfolding shown_of
shown_made x form bytes i d e f = rw (f, e, all_copied token_limit form, d) refl

-- a stored label is the label again
pub stored_back : (x : Label) → length x ≤ label_limit → stored_bytes (stored_of x) ≡ x
unfolding stored_bytes stored_of
stored_back x h = back label_limit x h

-- a shown label is its written form
pub shown_back : (x : Label) → length x ≤ label_limit → shown_bytes (shown_of x) ≡ token_of x
unfolding shown_bytes shown_of
shown_back x h = back token_limit (token_of x) (token_short x h)
