-- Bytes, tokens and labels as an edition reads them: only capitals are told otherwise, so classes, quotes, lengths and places stay, and
-- folding may come before or after decoding. Assumes nothing.
use Prim.Native.Nat.{ℕ, zero, suc, ◌+◌, ◌-◌, ◌<◌, ◌≤◌}
use mathlib.Core.Path.{◌≡◌, refl, sym, ◌∙◌, ap, ap₂}
use mathlib.Core.Bool.{Bool, true, false, cond, ◌&&◌, ◌||◌}
use mathlib.Core.Logic.{◌⊎◌, inl, inr, ⊎_elim}
use mathlib.Core.List.{List, [], ◌∷◌, map, map-append, head-eq_of_cons-eq, tail-eq_of_cons-eq}
use native.Mathlib.Omega.{arith}
use lib.Dec.{eqb, leb}
use lib.ListN.{length, get_or, take, drop, length-map}
use borrow.Author.Tests.{le-leb, leb-true, ne_eqb}
use Rattle.std.specs.Char.{LowercasesTo}
use Rattle.trees.specs.declared.Edition.{Edition}
use Rattle.trees.specs.declared.Edition.TheVariants.{One, Two}
use Rattle.trees.specs.Bytes.{between, is_label_byte, is_inner_byte, kind_of, quote_byte, blank_byte, underscore_byte}
use Rattle.trees.specs.Label.{Label, same_label, is_in, distinct}
use Rattle.trees.specs.Token.{Token, bare_byte, spelling, all_of, closes, loose_label, good_label, good_labels}
use Rattle.trees.specs.Token.{holds_underscore, written_byte, quoted_token, token_of}
use Rattle.trees.specs.Reading.{quote_first}
use Rattle.trees.specs.Edition.{fold_byte, in_edition, key, rewritten}
use Rattle.trees.specs.Stored.{part_of, inner_bytes, leaf_label, leaf_spelling}
use Rattle.trees.proofs.Bools.{bool_cases, clash, refute, and_left, and_right, or_cases, or_inl, or_inr}
use Rattle.trees.proofs.LabelLaws.{same_eq, eq_same}
use Rattle.trees.proofs.ListLaws.{distinct_head, distinct_tail, distinct_cons, distinct_none}
use Rattle.trees.proofs.RelabelLaws.{map_at}
use Rattle.trees.proofs.TokenLaws.{token_quoted, token_plain, token_back}

-- ---- lists

module _ {A B : Type 0} (f : A → B) where
  pub take_map : (n : ℕ) (x : List A) → take n (map f x) ≡ map f (take n x)
  take_map zero x = refl
  take_map (suc n) [] = refl
  take_map (suc n) (b ∷ x) = ap (◌∷◌ (f b)) (take_map n x)

  pub drop_map : (n : ℕ) (x : List A) → drop n (map f x) ≡ map f (drop n x)
  drop_map zero x = refl
  drop_map (suc n) [] = refl
  drop_map (suc n) (b ∷ x) = drop_map n x

pub map_twice : {A B C : Type 0} (f : B → C) (g : A → B) (h : A → C) → ((a : A) → f (g a) ≡ h a) → (x : List A) → map f (map g x) ≡ map h x
map_twice f g h e [] = refl
map_twice f g h e (a ∷ x) = ap₂ ◌∷◌ (e a) (map_twice f g h e x)

pub map_itself : {A : Type 0} (f : A → A) → ((a : A) → f a ≡ a) → (x : List A) → map f x ≡ x
map_itself f e [] = refl
map_itself f e (a ∷ x) = ap₂ ◌∷◌ (e a) (map_itself f e x)

all_map : (is : ℕ → Bool) (f : ℕ → ℕ) → ((b : ℕ) → is (f b) ≡ is b) → (x : List ℕ) → all_of is (map f x) ≡ all_of is x
unfolding all_of
all_map is f e [] = refl
all_map is f e (b ∷ x) = ap₂ ◌&&◌ (e b) (all_map is f e x)

-- ---- one byte

-- a byte that is read otherwise is a capital
pub data FoldView (b : ℕ) : ℕ → Type 0 where
  kept : FoldView b b
  lowered : 65 ≤ b → b ≤ 90 → FoldView b (b + 32)

pub fold_view : (e : Edition) (b : ℕ) → FoldView b (fold_byte e b)
unfolding fold_byte
fold_view One b = kept
fold_view Two b = go (bool_cases (between 65 90 b))
  where
    go : (between 65 90 b ≡ true) ⊎ (between 65 90 b ≡ false) → FoldView b (cond (between 65 90 b) (b + 32) b)
    go (inl h) = rw h (lowered (leb-true 65 b (and_left (leb 65 b) (leb b 90) h)) (leb-true b 90 (and_right (leb 65 b) (leb b 90) h)))
    go (inr h) = rw h kept

-- the code's tests
pub fold_one : (e : Edition) (b : ℕ) → e ≡ One → b ≡ fold_byte e b
unfolding fold_byte
fold_one e b h = rw h refl

pub fold_other : (e : Edition) (b : ℕ) → (b < 65) ⊎ (90 < b) → b ≡ fold_byte e b
fold_other e b h = go h (fold_view e b)
  where
    go : (b < 65) ⊎ (90 < b) → {c : ℕ} → FoldView b c → b ≡ c
    go h kept = refl
    go (inl h) (lowered l m) = absurd (omega arith)
    go (inr h) (lowered l m) = absurd (omega arith)

pub fold_capital : (e : Edition) (b : ℕ) → e ≡ Two → 65 ≤ b → b ≤ 90 → b + 32 ≡ fold_byte e b
unfolding fold_byte
fold_capital e b h l m = rw (h, le-leb 65 b l, le-leb b 90 m) refl

-- the library's small letters are those of the second edition
pub fold_lower : (b r : ℕ) → LowercasesTo b r → r ≡ fold_byte Two b
fold_lower b r (inl ((low, high), e)) = e ∙ fold_capital Two b refl low high
fold_lower b r (inr (out, e)) = e ∙ fold_other Two b out

-- a byte outside both alphabets
abbrev pub Unlettered : ℕ → Type 0
Unlettered c = (c < 65) ⊎ ((90 < c) × (c < 97))

pub fold_fixed : (e : Edition) (c : ℕ) → Unlettered c → fold_byte e c ≡ c
fold_fixed e c h = go h (fold_view e c)
  where
    go : Unlettered c → {d : ℕ} → FoldView c d → d ≡ c
    go h kept = refl
    go (inl k) (lowered l m) = absurd (omega arith)
    go (inr k) (lowered l m) = absurd (omega (arith, k.0))

-- is told apart as before
pub fold_told : (e : Edition) (b c : ℕ) → Unlettered c → eqb (fold_byte e b) c ≡ eqb b c
fold_told e b c h = go h (fold_view e b)
  where
    go : Unlettered c → {d : ℕ} → FoldView b d → eqb d c ≡ eqb b c
    go h kept = refl
    go (inl k) (lowered l m) =
        ne_eqb (b + 32) c (λ (q : b + 32 ≡ c). omega arith) ∙ sym (ne_eqb b c (λ (q : b ≡ c). omega arith))
    go (inr k) (lowered l m) =
        ne_eqb (b + 32) c (λ (q : b + 32 ≡ c). omega (arith, k.1)) ∙ sym (ne_eqb b c (λ (q : b ≡ c). omega (arith, k.0)))

pub fold_back : (e : Edition) (b c : ℕ) → Unlettered c → fold_byte e b ≡ c → b ≡ c
fold_back e b c h k = go h k (fold_view e b)
  where
    go : Unlettered c → {d : ℕ} → d ≡ c → FoldView b d → b ≡ c
    go h q kept = q
    go (inl k) q (lowered l m) = absurd (omega arith)
    go (inr k) q (lowered l m) = absurd (omega (arith, k.1))

capital_label : (b : ℕ) → 65 ≤ b → b ≤ 90 → is_label_byte b ≡ true
unfolding is_label_byte
capital_label b l m = rw (le-leb 65 b l, le-leb b 90 m) refl

small_label : (b : ℕ) → 97 ≤ b → b ≤ 122 → is_label_byte b ≡ true
unfolding is_label_byte
small_label b l m = rw (le-leb 97 b l, le-leb b 122 m) (go (between 65 90 b))
  where
    go : (q : Bool) → (q || true || between 48 57 b || eqb b 95 || eqb b 46 || eqb b 45) ≡ true
    go true = refl
    go false = refl

pub fold_label : (e : Edition) (b : ℕ) → is_label_byte (fold_byte e b) ≡ is_label_byte b
fold_label e b = go (fold_view e b)
  where
    go : {c : ℕ} → FoldView b c → is_label_byte c ≡ is_label_byte b
    go kept = refl
    go (lowered l m) = small_label (b + 32) (omega arith) (omega arith) ∙ sym (capital_label b l m)

pub fold_inner_byte : (e : Edition) (b : ℕ) → is_inner_byte (fold_byte e b) ≡ is_inner_byte b
unfolding is_inner_byte
fold_inner_byte e b = ap₂ ◌||◌ (fold_label e b) (fold_told e b blank_byte (inl (omega arith)))

-- "each of the 256 byte values has one class", and an edition does not change it
pub fold_kind : (e : Edition) (b : ℕ) → kind_of (fold_byte e b) ≡ kind_of b
unfolding kind_of
fold_kind e b = go (fold_view e b)
  where
    go : {c : ℕ} → FoldView b c → kind_of c ≡ kind_of b
    go kept = refl
    go (lowered l m) = rw (small_label (b + 32) (omega arith) (omega arith), capital_label b l m) refl

pub bare_fold : (e : Edition) (b : ℕ) → bare_byte (fold_byte e b) ≡ fold_byte e (bare_byte b)
unfolding bare_byte
bare_fold e b = rw (fold_told e b underscore_byte (inr (omega arith, omega arith))) (go (eqb b underscore_byte))
  where
    go : (q : Bool) → cond q blank_byte (fold_byte e b) ≡ fold_byte e (cond q blank_byte b)
    go true = sym (fold_fixed e blank_byte (inl (omega arith)))
    go false = refl

written_fold : (e : Edition) (b : ℕ) → written_byte (fold_byte e b) ≡ fold_byte e (written_byte b)
unfolding written_byte
written_fold e b = rw (fold_told e b blank_byte (inl (omega arith))) (go (eqb b blank_byte))
  where
    go : (q : Bool) → cond q underscore_byte (fold_byte e b) ≡ fold_byte e (cond q underscore_byte b)
    go true = sym (fold_fixed e underscore_byte (inr (omega arith, omega arith)))
    go false = refl

-- ---- a token

module _ (e : Edition) where
  pub fold_size : (x : List ℕ) → length (in_edition e x) ≡ length x
  fold_size x = length-map x (fold_byte e)

  -- the byte at a place keeps its class
  pub kind_folded : (text : List ℕ) (i : ℕ) → i < length text → kind_of (get_or text i 0) ≡ kind_of (get_or (in_edition e text) i 0)
  kind_folded text i h = sym (ap kind_of (map_at (fold_byte e) text i 0 0 h) ∙ fold_kind e (get_or text i 0))

  pub fold_quote : (x : Token) → quote_first (in_edition e x) ≡ quote_first x
  unfolding quote_first
  fold_quote [] = refl
  fold_quote (b ∷ x) = fold_told e b quote_byte (inl (omega arith))

  pub fold_inner : (x : Token) → inner_bytes (in_edition e x) ≡ in_edition e (inner_bytes x)
  unfolding inner_bytes
  fold_inner x = rw (fold_quote x, fold_size x, drop_map (fold_byte e) 1 x, take_map (fold_byte e) (length x - 2) (drop 1 x)) (go (quote_first x))
    where
      go : (q : Bool) → cond q (in_edition e (take (length x - 2) (drop 1 x))) (in_edition e x) ≡ in_edition e (cond q (take (length x - 2) (drop 1 x)) x)
      go true = refl
      go false = refl

  pub fold_part : (start size : ℕ) (text : List ℕ) → part_of start size (in_edition e text) ≡ in_edition e (part_of start size text)
  unfolding part_of
  fold_part start size text =
      rw (fold_size text, drop_map (fold_byte e) start text, take_map (fold_byte e) size (drop start text)) (go (leb (start + size) (length text)))
    where
      go : (q : Bool) → cond q (in_edition e (take size (drop start text))) [] ≡ in_edition e (cond q (take size (drop start text)) [])
      go true = refl
      go false = refl

  -- the part of the text, as an edition reads it, is the part of the text that it reads
  pub leaf_key : (text start size : List ℕ) (u : ℕ) → key e (leaf_label text start size u) ≡ leaf_spelling (in_edition e text) start size u
  leaf_key text start size u = ap spelling (sym (fold_part (get_or start u 0) (get_or size u 0) text))

  -- a byte that stands for itself, and what follows it
  pub record Byte (c : ℕ) (rest text : List ℕ) : Type 0 where
    pub after : List ℕ
    pub is : text ≡ c ∷ after
    pub follows : in_edition e after ≡ rest

  pub one_byte : (c : ℕ) (rest text : List ℕ) → Unlettered c → in_edition e text ≡ c ∷ rest → Byte c rest text
  one_byte c rest [] h k = absurd (omega (arith, ap length k))
  one_byte c rest (b ∷ text) h k =
      record {
        after = text;
        is = ap (λ (d : ℕ). d ∷ text) (fold_back e b c h (head-eq_of_cons-eq k));
        follows = tail-eq_of_cons-eq k;
      }

  bare_all : (x : List ℕ) → map bare_byte (in_edition e x) ≡ in_edition e (map bare_byte x)
  bare_all [] = refl
  bare_all (b ∷ x) = ap₂ ◌∷◌ (bare_fold e b) (bare_all x)

  -- "read capitals as small letters" on decoded bytes: it is the same to fold first
  pub key_decoded : (x : Token) → key e x ≡ in_edition e (spelling x)
  unfolding spelling
  key_decoded [] = refl
  key_decoded (b ∷ rest) = rw (fold_told e b quote_byte (inl (omega arith)), fold_size rest, take_map (fold_byte e) (length rest - 1) rest) (go (eqb b quote_byte))
    where
      go : (q : Bool) → cond q (in_edition e (take (length rest - 1) rest)) (map bare_byte (in_edition e (b ∷ rest)))
          ≡ in_edition e (cond q (take (length rest - 1) rest) (map bare_byte (b ∷ rest)))
      go true = refl
      go false = bare_all (b ∷ rest)

  pub key_size : (x : Token) → length (key e x) ≡ length (spelling x)
  key_size x = ap length (key_decoded x) ∙ fold_size (spelling x)

  closes_fold : (some : Bool) (x : List ℕ) → closes some (in_edition e x) ≡ closes some x
  unfolding closes
  closes_fold some [] = refl
  closes_fold some (b ∷ []) = ap (λ (q : Bool). some && q) (fold_told e b quote_byte (inl (omega arith)))
  closes_fold some (b ∷ c ∷ x) = ap₂ ◌&&◌ (fold_inner_byte e b) (closes_fold true (c ∷ x))

  loose_fold : (x : Token) → loose_label (in_edition e x) ≡ loose_label x
  unfolding loose_label
  loose_fold [] = refl
  loose_fold (b ∷ x) =
      rw (fold_told e b quote_byte (inl (omega arith)), closes_fold false x, all_map is_label_byte (fold_byte e) (fold_label e) (b ∷ x)) refl

  pub good_fold : (x : Token) → good_label (in_edition e x) ≡ good_label x
  unfolding good_label
  good_fold x = rw (loose_fold x, key_size x) refl

  pub goods_fold : (xs : List Token) → good_labels (map (in_edition e) xs) ≡ good_labels xs
  unfolding good_labels
  goods_fold [] = refl
  goods_fold (x ∷ xs) = ap₂ ◌&&◌ (good_fold x) (goods_fold xs)

  -- ---- how a label is written

  under_fold : (x : Label) → holds_underscore (in_edition e x) ≡ holds_underscore x
  unfolding holds_underscore
  under_fold [] = refl
  under_fold (b ∷ x) = ap₂ ◌||◌ (fold_told e b underscore_byte (inr (omega arith, omega arith))) (under_fold x)

  written_all : (x : Label) → map written_byte (in_edition e x) ≡ in_edition e (map written_byte x)
  written_all [] = refl
  written_all (b ∷ x) = ap₂ ◌∷◌ (written_fold e b) (written_all x)

  quoted_all : (x : List ℕ) → quoted_token (in_edition e x) ≡ in_edition e (quoted_token x)
  quoted_all x =
      rw (map-append (fold_byte e) x (quote_byte ∷ []), fold_fixed e quote_byte (inl (omega arith))) refl

  -- "up to spelling": a label is written with quotes or not whatever its case
  pub token_fold : (x : Label) → token_of (in_edition e x) ≡ in_edition e (token_of x)
  token_fold x = go (bool_cases (holds_underscore x))
    where
      go : (holds_underscore x ≡ true) ⊎ (holds_underscore x ≡ false) → token_of (in_edition e x) ≡ in_edition e (token_of x)
      go (inl h) = token_quoted (in_edition e x) (under_fold x ∙ h) ∙ quoted_all x ∙ ap (in_edition e) (sym (token_quoted x h))
      go (inr h) = token_plain (in_edition e x) (under_fold x ∙ h) ∙ written_all x ∙ ap (in_edition e) (sym (token_plain x h))

  pub rewritten_fold : (x : Token) → in_edition e (rewritten x) ≡ token_of (key e x)
  rewritten_fold x = sym (token_fold (spelling x)) ∙ ap token_of (sym (key_decoded x))

  pub rewritten_key : (x : Token) → good_label x ≡ true → key e (rewritten x) ≡ key e x
  rewritten_key x h = ap spelling (rewritten_fold x) ∙ token_back (in_edition e x) (good_fold x ∙ h)

-- ---- labels that an edition tells apart are different

in_map : (f : Label → Label) (x : Label) (xs : List Label) → is_in x xs ≡ true → is_in (f x) (map f xs) ≡ true
unfolding is_in
in_map f x [] h = h
in_map f x (y ∷ ys) h =
    ⊎_elim
    (λ (k : same_label x y ≡ true). or_inl (same_label (f x) (f y)) (is_in (f x) (map f ys)) (eq_same (f x) (f y) (ap f (same_eq x y k))))
    (λ (k : is_in x ys ≡ true). or_inr (same_label (f x) (f y)) (is_in (f x) (map f ys)) (in_map f x ys k))
    (or_cases (same_label x y) (is_in x ys) h)

pub distinct_unmap : (f : Label → Label) (xs : List Label) → distinct (map f xs) ≡ true → distinct xs ≡ true
distinct_unmap f [] h = distinct_none
distinct_unmap f (x ∷ xs) h =
    distinct_cons x xs
    (refute (is_in x xs) (λ (k : is_in x xs ≡ true). clash (in_map f x xs k) (distinct_head (f x) (map f xs) h)))
    (distinct_unmap f xs (distinct_tail (f x) (map f xs) h))

-- edition 1 reads bytes as they are
pub one_itself : (x : List ℕ) → in_edition One x ≡ x
unfolding fold_byte
one_itself x = map_itself (fold_byte One) (λ (b : ℕ). refl) x
