-- How the code reads tokens byte by byte and writes labels: what it reads of a token is the token's spelling, and what it writes of a
-- label is the label's written form. Assumes nothing.
use Prim.Native.Nat.{ℕ, suc, ◌+◌, ◌-◌, ◌<◌, ◌≤◌, min, max}
use mathlib.Core.Path.{◌≡◌, refl, sym, ◌∙◌, ap, ap₂}
use mathlib.Core.Bool.{Bool, true, false, ◌||◌}
use mathlib.Core.Logic.{◌⊎◌, inl, inr}
use mathlib.Core.List.{List, [], ◌∷◌, ◌++◌, map}
use native.Mathlib.Omega.{arith}
use lib.Dec.{eqb}
use lib.ListN.{length, get_or, take, drop, length-append, length-map, get_or-append, get_or-eq_default}
use lib.Seq.{get_or_at}
use borrow.Author.Tests.{eq-eqb, ne_eqb, eqb-true, eqb-false}
use Rattle.trees.specs.declared.Edition.{Edition}
use Rattle.trees.specs.declared.Edition.TheVariants.{One}
use Rattle.trees.specs.Bytes.{quote_byte, blank_byte, underscore_byte}
use Rattle.trees.specs.Edition.{fold_byte, in_edition, key}
use Rattle.trees.specs.Label.{Label, same_label, order_of}
use Rattle.std.specs.declared.cmp.Ordering.{Ordering}
use Rattle.std.specs.declared.cmp.Ordering.TheVariants.{Less, Equal, Greater}
use Rattle.std.specs.List.{list_any, starts_with}
use Rattle.std.specs.Ordering.{MatchOrdering, nat_cmp}
use Rattle.std.proofs.lemmas.Cmp.{ranked}
use Rattle.trees.specs.Token.{Token, bare_byte, spelling, written_byte, holds_underscore, token_of}
use Rattle.trees.specs.Reading.{quote_first}
use Rattle.trees.specs.Stored.{byte_of, inner_bytes, read_as, form_of}
use Rattle.trees.proofs.Bools.{bool_cases}
use Rattle.trees.proofs.LabelLaws.{lengths_differ, bytes_differ, all_same, byte_agrees}
use Rattle.trees.proofs.LabelLaws.{both_end, first_ends, second_ends, byte_less, byte_greater, byte_same}
use Rattle.trees.proofs.FoldLaws.{fold_back, fold_quote, fold_inner, key_size}
use Rattle.trees.proofs.RelabelLaws.{map_at}
use Rattle.trees.proofs.TokenLaws.{token_quoted, token_plain}

-- ---- one byte

-- a byte that an edition reads as c
module _ (e : Edition) (q : Bool) (b c : ℕ) (read : c ≡ fold_byte e b) where
  pub byte_plain : (c ≡ underscore_byte → ⊥) → c ≡ byte_of e q b
  unfolding byte_of bare_byte
  byte_plain h = rw read (go q)
    where
      go : (r : Bool) → fold_byte e b ≡ byte_of e r b
      go true = refl
      go false = rw (ne_eqb (fold_byte e b) underscore_byte (λ (k : fold_byte e b ≡ underscore_byte). h (read ∙ k))) refl

  pub byte_under : c ≡ underscore_byte → q ≡ true → underscore_byte ≡ byte_of e q b
  unfolding byte_of
  byte_under h k = rw k (sym h ∙ read)

  pub byte_blank : c ≡ underscore_byte → q ≡ false → blank_byte ≡ byte_of e q b
  unfolding byte_of bare_byte
  byte_blank h k = rw (k, eq-eqb (fold_byte e b) underscore_byte (sym read ∙ h)) refl

-- the same byte, but for an underscore, stands for the same between quotes and elsewhere
pub byte_alike : (e : Edition) (p q : Bool) (x y : ℕ) → x ≡ y → (x ≡ underscore_byte → ⊥) → byte_of e p x ≡ byte_of e q y
byte_alike e p q x y h n =
    sym (byte_plain e p x (fold_byte e x) refl told) ∙ byte_plain e q x (fold_byte e x) refl told ∙ ap (byte_of e q) h
  where
    told : fold_byte e x ≡ underscore_byte → ⊥
    told k = n (fold_back e x underscore_byte (inr (omega arith, omega arith)) k)

-- ---- bytes read as a label

-- labels that are decoded and folded already
pub read_plain : (x : List ℕ) → read_as One true x ≡ x
unfolding byte_of fold_byte
read_plain [] = refl
read_plain (b ∷ x) = ap (◌∷◌ b) (read_plain x)

-- between quotes each byte is itself, elsewhere an underscore is a blank
abbrev plain_as : Bool → List ℕ → Label
plain_as true x = x
plain_as false x = map bare_byte x

read_folded : (e : Edition) (q : Bool) (x : List ℕ) → read_as e q x ≡ plain_as q (in_edition e x)
unfolding byte_of
read_folded e true [] = refl
read_folded e true (b ∷ x) = ap (◌∷◌ (fold_byte e b)) (read_folded e true x)
read_folded e false [] = refl
read_folded e false (b ∷ x) = ap (◌∷◌ (bare_byte (fold_byte e b))) (read_folded e false x)

pub read_size : (e : Edition) (q : Bool) (x : List ℕ) → length (read_as e q x) ≡ length x
read_size e q x = length-map x (byte_of e q)

pub read_at : (e : Edition) (q : Bool) (x : List ℕ) (i : ℕ) → i < length x → get_or (read_as e q x) i 0 ≡ byte_of e q (get_or x i 0)
read_at e q x i h = map_at (byte_of e q) x i 0 0 h

-- ---- a token

pub quote_starts : (x : Token) → starts_with eqb x (quote_byte ∷ []) ≡ quote_first x
unfolding quote_first
quote_starts [] = refl
quote_starts (b ∷ x) = go (bool_cases (eqb b quote_byte))
  where
    go : (eqb b quote_byte ≡ true) ⊎ (eqb b quote_byte ≡ false) → starts_with eqb (b ∷ x) (quote_byte ∷ []) ≡ eqb b quote_byte
    go (inl e) = rw (eqb-true b quote_byte e) refl
    go (inr e) = rw (e, ne_eqb quote_byte b (λ (k : quote_byte ≡ b). eqb-false b quote_byte e (sym k))) refl

pub inner_bare : (x : Token) → quote_first x ≡ false → x ≡ inner_bytes x
unfolding inner_bytes
inner_bare x e = rw e refl

inner_quoted : (x : Token) → quote_first x ≡ true → take (length x - 2) (drop 1 x) ≡ inner_bytes x
unfolding inner_bytes
inner_quoted x e = rw e refl

pub inner_cut : (x : Token) (n : ℕ) → quote_first x ≡ true → n ≡ max (length x) 2 → take (n - 1 - 1) (drop 1 x) ≡ inner_bytes x
inner_cut x n e m =
    let k : n - 1 - 1 ≡ length x - 2 = omega arith in
    ap (λ (k : ℕ). take k (drop 1 x)) k ∙ inner_quoted x e

-- what is read of a token is what it stands for
spelling_plain : (x : Token) → plain_as (quote_first x) (inner_bytes x) ≡ spelling x
unfolding inner_bytes spelling quote_first
spelling_plain [] = refl
spelling_plain (b ∷ rest) = go (bool_cases (eqb b quote_byte))
  where
    go : (eqb b quote_byte ≡ true) ⊎ (eqb b quote_byte ≡ false) → plain_as (quote_first (b ∷ rest)) (inner_bytes (b ∷ rest)) ≡ spelling (b ∷ rest)
    go (inl e) =
        let n : length (b ∷ rest) - 2 ≡ length rest - 1 = omega arith in
        rw e (ap (λ (k : ℕ). take k rest) n)
    go (inr e) = rw e refl

pub spelling_read : (e : Edition) (x : Token) → read_as e (quote_first x) (inner_bytes x) ≡ key e x
spelling_read e x =
    read_folded e (quote_first x) (inner_bytes x)
    ∙ ap₂ plain_as (sym (fold_quote e x)) (sym (fold_inner e x))
    ∙ spelling_plain (in_edition e x)

pub spelling_told : (e : Edition) (t : Token) (q : Bool) (x : List ℕ) → q ≡ quote_first t → x ≡ inner_bytes t → read_as e q x ≡ key e t
spelling_told e t q x f g = rw (f, g) (spelling_read e t)

-- of two tokens at once
pub both_told : {A : Type 0} (e : Edition) (f : Label → Label → A) (s t : Token) (q r : Bool) (x y : List ℕ) → x ≡ inner_bytes s → q ≡ quote_first s
    → y ≡ inner_bytes t → r ≡ quote_first t → f (read_as e q x) (read_as e r y) ≡ f (key e s) (key e t)
both_told e f s t q r x y d g h k = ap₂ f (spelling_told e s q x g d) (spelling_told e t r y k h)

pub spelling_size : (x : Token) → length (inner_bytes x) ≡ length (spelling x)
spelling_size x = sym (read_size One (quote_first x) (inner_bytes x)) ∙ ap length (spelling_read One x) ∙ key_size One x

-- ---- two runs of bytes compared

module _ (e : Edition) (q r : Bool) (a b : List ℕ) where
  pub read_lengths : (length a ≡ length b → ⊥) → same_label (read_as e q a) (read_as e r b) ≡ false
  read_lengths h =
      lengths_differ (read_as e q a) (read_as e r b)
      (λ (k : length (read_as e q a) ≡ length (read_as e r b)). h (sym (read_size e q a) ∙ k ∙ read_size e r b))

  pub read_differ : (i : ℕ) → i < length a → i < length b → (byte_of e q (get_or a i 0) ≡ byte_of e r (get_or b i 0) → ⊥)
      → same_label (read_as e q a) (read_as e r b) ≡ false
  read_differ i h k n =
      bytes_differ (read_as e q a) (read_as e r b) i
      (λ (g : get_or (read_as e q a) i 0 ≡ get_or (read_as e r b) i 0). n (sym (read_at e q a i h) ∙ g ∙ read_at e r b i k))

  -- the rests from place i on
  abbrev pub SameFrom : ℕ → Type 0
  SameFrom i = same_label (drop i (read_as e q a)) (drop i (read_as e r b)) ≡ same_label (read_as e q a) (read_as e r b)

  pub read_same : (i : ℕ) → SameFrom i → length a ≤ i → length b ≤ i → true ≡ same_label (read_as e q a) (read_as e r b)
  read_same i so_far h k =
      all_same (read_as e q a) (read_as e r b) i so_far (omega (arith, read_size e q a)) (omega (arith, read_size e r b))

  pub read_agrees : (i : ℕ) → SameFrom i → i < length a → i < length b → byte_of e q (get_or a i 0) ≡ byte_of e r (get_or b i 0) → SameFrom (i + 1)
  read_agrees i so_far h k g =
      byte_agrees (read_as e q a) (read_as e r b) i so_far (omega (arith, read_size e q a)) (omega (arith, read_size e r b))
      (read_at e q a i h ∙ g ∙ sym (read_at e r b i k))

  abbrev pub OrderFrom : ℕ → Type 0
  OrderFrom i = order_of (drop i (read_as e q a)) (drop i (read_as e r b)) ≡ order_of (read_as e q a) (read_as e r b)

  module _ (i : ℕ) (so_far : OrderFrom i) where
    -- where one of the two ends, the lengths decide
    pub read_ends : min (length a) (length b) ≤ i → i ≤ length a → i ≤ length b → (o : Ordering) → o ≡ nat_cmp (length a) (length b)
        → o ≡ order_of (read_as e q a) (read_as e r b)
    read_ends h ha hb o told = go o (ranked (length a) (length b) o told) (read_size e q a) (read_size e r b)
      where
        go : (o : Ordering) → MatchOrdering o (length a < length b) (length a ≡ length b) (length b < length a)
            → length (read_as e q a) ≡ length a → length (read_as e r b) ≡ length b → o ≡ order_of (read_as e q a) (read_as e r b)
        go Less l n m = first_ends (read_as e q a) (read_as e r b) i so_far (omega arith) (omega arith)
        go Equal l n m = both_end (read_as e q a) (read_as e r b) i so_far (omega arith) (omega arith)
        go Greater l n m = second_ends (read_as e q a) (read_as e r b) i so_far (omega arith) (omega arith)

    -- the byte at i decides, or the rest does
    module _ (h : i < length a) (k : i < length b) where
      pub read_decides : (byte_of e q (get_or a i 0) ≡ byte_of e r (get_or b i 0) → ⊥) → (o : Ordering)
          → o ≡ nat_cmp (byte_of e q (get_or a i 0)) (byte_of e r (get_or b i 0)) → o ≡ order_of (read_as e q a) (read_as e r b)
      read_decides differ o told =
          go o (ranked (byte_of e q (get_or a i 0)) (byte_of e r (get_or b i 0)) o told) (read_size e q a) (read_size e r b)
        where
          go : (o : Ordering)
              → MatchOrdering o (byte_of e q (get_or a i 0) < byte_of e r (get_or b i 0)) (byte_of e q (get_or a i 0) ≡ byte_of e r (get_or b i 0))
              (byte_of e r (get_or b i 0) < byte_of e q (get_or a i 0))
              → length (read_as e q a) ≡ length a → length (read_as e r b) ≡ length b → o ≡ order_of (read_as e q a) (read_as e r b)
          go Less l n m = byte_less (read_as e q a) (read_as e r b) i so_far (omega arith) (omega arith) (rw (read_at e q a i h, read_at e r b i k) l)
          go Equal l n m = absurd (differ l)
          go Greater l n m = byte_greater (read_as e q a) (read_as e r b) i so_far (omega arith) (omega arith) (rw (read_at e q a i h, read_at e r b i k) l)

      pub read_level : byte_of e q (get_or a i 0) ≡ byte_of e r (get_or b i 0) → OrderFrom (i + 1)
      read_level g =
          byte_same (read_as e q a) (read_as e r b) i so_far (omega (arith, read_size e q a)) (omega (arith, read_size e r b))
          (read_at e q a i h ∙ g ∙ sym (read_at e r b i k))

-- ---- the written form

form_token : (x : Label) → form_of (holds_underscore x) x ≡ token_of x
unfolding form_of
form_token x = go (bool_cases (holds_underscore x))
  where
    go : (holds_underscore x ≡ true) ⊎ (holds_underscore x ≡ false) → form_of (holds_underscore x) x ≡ token_of x
    go (inl e) = rw (token_quoted x e, e) refl
    go (inr e) = rw (token_plain x e, e) refl

pub form_told : (x y : Label) (q : Bool) → q ≡ holds_underscore y → y ≡ x → form_of q y ≡ token_of x
form_told x y q e f = rw (e, f) (form_token x)

pub quoted_size : (x : Label) → length (form_of true x) ≡ length x + 2
unfolding form_of
quoted_size x = omega (arith, length-append x (quote_byte ∷ []))

pub plain_size : (x : Label) → length (form_of false x) ≡ length x
unfolding form_of
plain_size x = length-map x written_byte

-- the bytes of a label between quotes
module _ (x : Label) (i : ℕ) where
  pub quote_first_lem : i ≡ 0 → quote_byte ≡ get_or (form_of true x) i 0
  unfolding form_of
  quote_first_lem e = rw e refl

  later : 1 ≤ i → get_or (form_of true x) i 0 ≡ get_or (x ++ (quote_byte ∷ [])) (i - 1) 0
  unfolding form_of
  later h =
      let e : i ≡ suc (i - 1) = omega arith in
      ap (λ (k : ℕ). get_or (quote_byte ∷ (x ++ (quote_byte ∷ []))) k 0) e

  pub quote_inside : 1 ≤ i → i - 1 < length x → get_or x (i - 1) 0 ≡ get_or (form_of true x) i 0
  quote_inside h k = sym (later h ∙ get_or-append x (quote_byte ∷ []) 0 (i - 1) k)

  pub quote_last : 1 ≤ i → i - 1 ≡ length x → quote_byte ≡ get_or (form_of true x) i 0
  quote_last h e = sym (later h ∙ get_or_at x quote_byte [] 0 (i - 1) (sym e))

  pub form_past : (q : Bool) → length (form_of q x) ≤ i → 0 ≡ get_or (form_of q x) i 0
  form_past q h = sym (get_or-eq_default (form_of q x) 0 h)

  plain_at : i < length x → get_or (form_of false x) i 0 ≡ written_byte (get_or x i 0)
  unfolding form_of
  plain_at h = map_at written_byte x i 0 0 h

  pub plain_blank : i < length x → get_or x i 0 ≡ blank_byte → underscore_byte ≡ get_or (form_of false x) i 0
  unfolding written_byte
  plain_blank h e = sym (plain_at h ∙ rw (eq-eqb (get_or x i 0) blank_byte e) refl)

  pub plain_other : i < length x → (get_or x i 0 ≡ blank_byte → ⊥) → get_or x i 0 ≡ get_or (form_of false x) i 0
  unfolding written_byte
  plain_other h n = sym (plain_at h ∙ rw (ne_eqb (get_or x i 0) blank_byte n) refl)

-- an underscore looked for by the library
pub under_any : (x : Label) → list_any (λ b. eqb b underscore_byte) x ≡ holds_underscore x
unfolding holds_underscore
under_any [] = refl
under_any (b ∷ x) = ap (◌||◌ (eqb b underscore_byte)) (under_any x)
