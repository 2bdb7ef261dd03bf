-- A token looked for, by its label, among the parts of a text that starts and sizes name: the steps of the search, and what it finds where the
-- parts are known. Assumes nothing.
use Prim.Native.Nat.{ℕ, zero, suc, ◌+◌, ◌-◌, ◌<◌, ◌≤◌}
use mathlib.Core.Path.{◌≡◌, refl, ap, sym, ◌∙◌}
use mathlib.Core.Bool.{Bool, true, false, cond, ◌||◌, or_assoc}
use mathlib.Core.List.{List, [], ◌∷◌, ◌++◌}
use native.Mathlib.Omega.{arith}
use native.Mathlib.Nat.{suc_inj}
use lib.Dec.{leb}
use lib.ListN.{length, get_or, take, drop, length-append}
use lib.Seq.{take-suc, take_at, drop_at, length-take-le}
use borrow.Author.Tests.{le-leb}
use Rattle.trees.specs.Label.{same_label}
use Rattle.trees.specs.Token.{Token, spelling}
use Rattle.trees.specs.Stored.{part_of, is_part, is_among}
use Rattle.trees.proofs.LabelLaws.{lengths_differ}

-- a label that stands in a text is the part that its place and length name
pub part_here : (before x rest : List ℕ) (p : ℕ) → p ≡ length before → part_of p (length x) (before ++ (x ++ rest)) ≡ x
unfolding part_of
part_here before x rest p e =
    let h : p + length x ≤ length (before ++ (x ++ rest)) = simp length-append (omega arith) in
    rw (le-leb (p + length x) (length (before ++ (x ++ rest))) h, drop_at before (x ++ rest) p (sym e)) (take_at x rest (length x) refl)

-- no bytes are no part
pub part_nothing : (text : List ℕ) (p : ℕ) → part_of p 0 text ≡ []
unfolding part_of
part_nothing text p = go (leb (p + 0) (length text))
  where
    go : (b : Bool) → cond b (take 0 (drop p text)) [] ≡ []
    go true = refl
    go false = refl

pub spelling_none : spelling [] ≡ []
unfolding spelling
spelling_none = refl

module _ (text : List ℕ) (x : Token) where
  pub part_same : (y pre post : List ℕ) (p : ℕ) → p ≡ length pre → text ≡ pre ++ (y ++ post)
      → is_part text p (length y) x ≡ same_label (spelling x) (spelling y)
  part_same y pre post p ep e = rw (e, part_here pre y post p ep) refl

  -- no label is of no bytes
  pub part_none : (p : ℕ) → 1 ≤ length (spelling x) → is_part text p 0 x ≡ false
  part_none p h =
      rw (part_nothing text p, spelling_none) (lengths_differ (spelling x) [] (λ (q : length (spelling x) ≡ 0). omega arith))

  -- the search, counted down
  module _ (start size : List ℕ) (n : ℕ) where
    pub among_none : n ≤ 0 → is_among text start size n x ≡ false
    unfolding is_among
    among_none h = let e : n ≡ 0 = omega arith in rw e refl

    among_step : 0 < n → is_among text start size n x
        ≡ (is_part text (get_or start (n - 1) 0) (get_or size (n - 1) 0) x || is_among text start size (n - 1) x)
    unfolding is_among
    among_step h =
        let e : n ≡ suc (n - 1) = omega arith in
        ap (λ (k : ℕ). is_among text start size k x) e

    pub among_hit : 0 < n → is_part text (get_or start (n - 1) 0) (get_or size (n - 1) 0) x ≡ true → is_among text start size n x ≡ true
    among_hit h e = rw (among_step h) (rw e refl)

    pub among_miss : 0 < n → is_part text (get_or start (n - 1) 0) (get_or size (n - 1) 0) x ≡ false
        → is_among text start size n x ≡ is_among text start size (n - 1) x
    among_miss h e = rw (among_step h) (rw e refl)

  -- the same over lists of places and sizes
  unfoldable pub among_parts : List ℕ → List ℕ → Bool
  among_parts [] Z = false
  among_parts (p ∷ S) [] = false
  among_parts (p ∷ S) (z ∷ Z) = is_part text p z x || among_parts S Z

  pub parts_append : (A C B D : List ℕ) → length A ≡ length C → among_parts (A ++ B) (C ++ D) ≡ (among_parts A C || among_parts B D)
  unfolding among_parts
  parts_append [] [] B D e = refl
  parts_append [] (c ∷ C) B D e = absurd (omega (arith, e))
  parts_append (a ∷ A) [] B D e = absurd (omega (arith, e))
  parts_append (a ∷ A) (c ∷ C) B D e =
      ap (λ (b : Bool). is_part text a c x || b) (parts_append A C B D (suc_inj e))
      ∙ sym (or_assoc (is_part text a c x) (among_parts A C) (among_parts B D))

  or_last : (a b : Bool) → (a || (b || false)) ≡ (b || a)
  or_last true true = refl
  or_last true false = refl
  or_last false true = refl
  or_last false false = refl

  counted : (S Z : List ℕ) (k : ℕ) → k ≤ length S → k ≤ length Z → is_among text S Z k x ≡ among_parts (take k S) (take k Z)
  unfolding among_parts is_among
  counted S Z zero hs hz = refl
  counted S Z (suc k) hs hz = go (counted S Z k (omega arith) (omega arith))
    where
      el : length (take k S) ≡ length (take k Z)
      el = length-take-le k S (omega arith) ∙ sym (length-take-le k Z (omega arith))

      go : is_among text S Z k x ≡ among_parts (take k S) (take k Z)
          → (is_part text (get_or S k 0) (get_or Z k 0) x || is_among text S Z k x) ≡ among_parts (take (suc k) S) (take (suc k) Z)
      go ih =
          rw (take-suc S k 0 hs, take-suc Z k 0 hz, parts_append (take k S) (take k Z) (get_or S k 0 ∷ []) (get_or Z k 0 ∷ []) el, ih)
          (sym (or_last (among_parts (take k S) (take k Z)) (is_part text (get_or S k 0) (get_or Z k 0) x)))

  -- the search over arrays that begin with known places and sizes
  pub among_parts_lem : (S Z fill fill' : List ℕ) (k : ℕ) → length S ≡ k → length Z ≡ k
      → is_among text (S ++ fill) (Z ++ fill') k x ≡ among_parts S Z
  among_parts_lem S Z fill fill' k es ez =
      counted (S ++ fill) (Z ++ fill') k (omega (arith, length-append S fill)) (omega (arith, length-append Z fill'))
      ∙ rw (take_at S fill k es, take_at Z fill' k ez) refl
