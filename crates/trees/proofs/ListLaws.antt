-- Laws of lists of labels: membership and distinctness; of tokens: that they are bare or quoted, and what each form stands for; of lists
-- of tokens. Assumes nothing.
use Prim.Native.Nat.{ℕ, zero, suc, ◌+◌, ◌-◌, ◌<◌, ◌≤◌}
use mathlib.Core.Path.{◌≡◌, refl, sym, ◌∙◌, ap}
use mathlib.Core.Bool.{Bool, true, false, cond, ◌&&◌, ◌||◌, and_assoc, or_assoc}
use mathlib.Core.Logic.{◌⊎◌, inl, inr, ⊎_elim, ⊎_map}
use mathlib.Core.List.{List, [], ◌∷◌, ◌++◌, map}
use native.Mathlib.Omega.{arith}
use native.Mathlib.Nat.{le_of_suc-le-suc, not-suc-le-zero}
use lib.Dec.{eqb, leb}
use lib.ListN.{length, get_or, length-append, length-map}
use lib.Seq.{take_at}
use borrow.Author.Tests.{leb-true, le-leb, eqb-true}
use Rattle.trees.specs.Bytes.{is_label_byte, is_inner_byte, quote_byte, blank_byte}
use Rattle.trees.specs.Label.{Label, label_limit, same_label, is_in, distinct}
use Rattle.trees.specs.Token.{Token, bare_byte, spelling, all_of, all_label_bytes, all_inner_bytes, closes, loose_label, good_label, good_labels, loose_labels, quoted_token}
use Rattle.trees.proofs.Bools.{bool_cases, clash, refute, and_left, and_right, and_intro, or_cases, or_inl, or_inr, or_none_left, or_none_right}
use Rattle.trees.proofs.LabelLaws.{same_refl, same_eq}

-- membership

pub in_none : (x : Label) → is_in x [] ≡ false
unfolding is_in
in_none x = refl

pub in_one_lem : (x : Label) → is_in x (x ∷ []) ≡ true
unfolding is_in
in_one_lem x = rw (same_refl x)

pub in_one_eq : (x y : Label) → is_in x (y ∷ []) ≡ true → x ≡ y
unfolding is_in
in_one_eq x y h = ⊎_elim (same_eq x y) (λ (k : is_in x [] ≡ true). clash k refl) (or_cases (same_label x y) (is_in x []) h)

pub in_append : (x : Label) (xs ys : List Label) → is_in x (xs ++ ys) ≡ (is_in x xs || is_in x ys)
unfolding is_in
in_append x [] ys = refl
in_append x (y ∷ xs) ys =
    ap (λ (b : Bool). same_label x y || b) (in_append x xs ys) ∙ sym (or_assoc (same_label x y) (is_in x xs) (is_in x ys))

pub in_left : (x : Label) (xs ys : List Label) → is_in x xs ≡ true → is_in x (xs ++ ys) ≡ true
in_left x xs ys h = rw (in_append x xs ys, h)

pub in_right : (x : Label) (xs ys : List Label) → is_in x ys ≡ true → is_in x (xs ++ ys) ≡ true
in_right x xs ys h = rw (in_append x xs ys) (or_inr (is_in x xs) (is_in x ys) h)

pub in_cases : (x : Label) (xs ys : List Label) → is_in x (xs ++ ys) ≡ true → (is_in x xs ≡ true) ⊎ (is_in x ys ≡ true)
in_cases x xs ys h = or_cases (is_in x xs) (is_in x ys) (rw (in_append x xs ys) at h)

pub not_in_left : (x : Label) (xs ys : List Label) → is_in x (xs ++ ys) ≡ false → is_in x xs ≡ false
not_in_left x xs ys h = or_none_left (is_in x xs) (is_in x ys) (rw (in_append x xs ys) at h)

pub not_in_right : (x : Label) (xs ys : List Label) → is_in x (xs ++ ys) ≡ false → is_in x ys ≡ false
not_in_right x xs ys h = or_none_right (is_in x xs) (is_in x ys) (rw (in_append x xs ys) at h)

pub in_here : (x : Label) (xs ys : List Label) → is_in x (xs ++ (x ∷ ys)) ≡ true
unfolding is_in
in_here x xs ys = in_right x xs (x ∷ ys) (or_inl (same_label x x) (is_in x ys) (same_refl x))

pub in_last_cases : (x : Label) (xs : List Label) (y : Label) → is_in x (xs ++ (y ∷ [])) ≡ true → (is_in x xs ≡ true) ⊎ (x ≡ y)
in_last_cases x xs y h = ⊎_map (λ (k : is_in x xs ≡ true). k) (in_one_eq x y) (in_cases x xs (y ∷ []) h)

pub at_in : (xs : List Label) (n : ℕ) → n < length xs → is_in (get_or xs n []) xs ≡ true
unfolding is_in
at_in [] n h = absurd (not-suc-le-zero h)
at_in (x ∷ xs) zero h = or_inl (same_label x x) (is_in x xs) (same_refl x)
at_in (x ∷ xs) (suc n) h = or_inr (same_label (get_or xs n []) x) (is_in (get_or xs n []) xs) (at_in xs n (le_of_suc-le-suc h))

-- distinctness

pub distinct_none : distinct [] ≡ true
unfolding distinct
distinct_none = refl

pub distinct_head : (x : Label) (xs : List Label) → distinct (x ∷ xs) ≡ true → is_in x xs ≡ false
unfolding distinct
distinct_head x xs h = go (is_in x xs) h
  where
    go : (b : Bool) → cond b false (distinct xs) ≡ true → b ≡ false
    go true k = clash k refl
    go false k = refl

pub distinct_tail : (x : Label) (xs : List Label) → distinct (x ∷ xs) ≡ true → distinct xs ≡ true
unfolding distinct
distinct_tail x xs h = rw (distinct_head x xs h) at h

pub distinct_cons : (x : Label) (xs : List Label) → is_in x xs ≡ false → distinct xs ≡ true → distinct (x ∷ xs) ≡ true
unfolding distinct
distinct_cons x xs h k = rw h k

-- no label stands in both
abbrev pub Apart : List Label → List Label → Type 0
Apart xs ys = (x : Label) → is_in x xs ≡ true → is_in x ys ≡ false

pub distinct_left : (xs ys : List Label) → distinct (xs ++ ys) ≡ true → distinct xs ≡ true
distinct_left [] ys h = distinct_none
distinct_left (x ∷ xs) ys h =
    distinct_cons x xs (not_in_left x xs ys (distinct_head x (xs ++ ys) h))
    (distinct_left xs ys (distinct_tail x (xs ++ ys) h))

pub distinct_right : (xs ys : List Label) → distinct (xs ++ ys) ≡ true → distinct ys ≡ true
distinct_right [] ys h = h
distinct_right (x ∷ xs) ys h = distinct_right xs ys (distinct_tail x (xs ++ ys) h)

pub distinct_apart : (xs ys : List Label) → distinct (xs ++ ys) ≡ true → Apart xs ys
unfolding is_in
distinct_apart [] ys h z k = clash k refl
distinct_apart (x ∷ xs) ys h z k =
    ⊎_elim (λ (e : same_label z x ≡ true). rw (same_eq z x e) (not_in_right x xs ys (distinct_head x (xs ++ ys) h)))
    (distinct_apart xs ys (distinct_tail x (xs ++ ys) h) z) (or_cases (same_label z x) (is_in z xs) k)

pub distinct_append : (xs ys : List Label) → distinct xs ≡ true → distinct ys ≡ true → Apart xs ys → distinct (xs ++ ys) ≡ true
unfolding is_in
distinct_append [] ys h k apart = k
distinct_append (x ∷ xs) ys h k apart =
    distinct_cons x (xs ++ ys) (rw (in_append x xs ys, distinct_head x xs h) (apart x (rw (same_refl x))))
    (distinct_append xs ys (distinct_tail x xs h) k
    (λ (z : Label) (m : is_in z xs ≡ true). apart z (or_inr (same_label z x) (is_in z xs) m)))

pub apart_flip : (xs ys : List Label) → Apart xs ys → Apart ys xs
apart_flip xs ys apart x h = refute (is_in x xs) (λ (k : is_in x xs ≡ true). clash h (apart x k))

pub distinct_flip : (xs ys : List Label) → distinct (xs ++ ys) ≡ true → distinct (ys ++ xs) ≡ true
distinct_flip xs ys h =
    distinct_append ys xs (distinct_right xs ys h) (distinct_left xs ys h) (apart_flip xs ys (distinct_apart xs ys h))

-- a label does not stand before its place
pub distinct_fresh : (xs : List Label) (x : Label) (ys : List Label) → distinct (xs ++ (x ∷ ys)) ≡ true → is_in x xs ≡ false
distinct_fresh xs x ys h = apart_flip xs (x ∷ ys) (distinct_apart xs (x ∷ ys) h) x (in_here x [] ys)

pub distinct_last : (xs : List Label) (x : Label) → distinct xs ≡ true → is_in x xs ≡ false → distinct (xs ++ (x ∷ [])) ≡ true
distinct_last xs x h n =
    distinct_append xs (x ∷ []) h (distinct_cons x [] (in_none x) distinct_none)
    (λ (z : Label) (m : is_in z xs ≡ true).
    refute (is_in z (x ∷ [])) (λ (k : is_in z (x ∷ []) ≡ true). clash m (ap (λ (w : Label). is_in w xs) (in_one_eq z x k) ∙ n)))

-- bytes that all pass a test

pub bytes_one : (is : ℕ → Bool) (b : ℕ) → is b ≡ true → all_of is (b ∷ []) ≡ true
unfolding all_of
bytes_one is b h = and_intro (is b) true h refl

pub bytes_append : (is : ℕ → Bool) (x y : List ℕ) → all_of is (x ++ y) ≡ (all_of is x && all_of is y)
unfolding all_of
bytes_append is [] y = refl
bytes_append is (a ∷ x) y = ap (λ (b : Bool). is a && b) (bytes_append is x y) ∙ sym (and_assoc (is a) (all_of is x) (all_of is y))

pub bytes_snoc : (is : ℕ → Bool) (x : List ℕ) (b : ℕ) → all_of is x ≡ true → is b ≡ true → all_of is (x ++ (b ∷ [])) ≡ true
bytes_snoc is x b h k = bytes_append is x (b ∷ []) ∙ and_intro (all_of is x) (all_of is (b ∷ [])) h (bytes_one is b k)

-- a byte that passes a test is no byte that does not
pub byte_apart : (is : ℕ → Bool) (b c : ℕ) → is b ≡ true → is c ≡ false → eqb b c ≡ false
byte_apart is b c h k = refute (eqb b c) (λ (e : eqb b c ≡ true). clash h (ap is (eqb-true b c e) ∙ k))

pub label_not_quote : (b : ℕ) → is_label_byte b ≡ true → eqb b quote_byte ≡ false
unfolding is_label_byte
label_not_quote b h = byte_apart is_label_byte b quote_byte h refl

-- a label byte may stand between quotes
pub label_inner : (b : ℕ) → is_label_byte b ≡ true → is_inner_byte b ≡ true
unfolding is_inner_byte
label_inner b h = or_inl (is_label_byte b) (eqb b blank_byte) h

-- one token: bare, or between quotes

pub data TokenView : Token → Type 0 where
  bare : (x : Token) → 1 ≤ length x → all_label_bytes x ≡ true → TokenView x
  quoted : (y : List ℕ) → 1 ≤ length y → all_inner_bytes y ≡ true → TokenView (quoted_token y)

-- what `closes` finds: the bytes before the quote
record Closing (some : Bool) (rest : List ℕ) : Type 0 where
  inner : List ℕ
  is : rest ≡ inner ++ (quote_byte ∷ [])
  bytes : all_inner_bytes inner ≡ true
  any : some ≡ false → 1 ≤ length inner

closes_view : (some : Bool) (rest : List ℕ) → closes some rest ≡ true → Closing some rest
unfolding closes all_of
closes_view some [] h = clash h refl
closes_view some (b ∷ []) h =
    record {
      inner = [];
      is = ap (λ (c : ℕ). c ∷ []) (eqb-true b quote_byte (and_right some (eqb b quote_byte) h));
      bytes = refl;
      any = λ (e : some ≡ false). clash (and_left some (eqb b quote_byte) h) e;
    }
closes_view some (b ∷ c ∷ rest) h =
    let r = closes_view true (c ∷ rest) (and_right (is_inner_byte b) (closes true (c ∷ rest)) h) in
    record {
      inner = b ∷ r.inner;
      is = ap (λ (l : List ℕ). b ∷ l) r.is;
      bytes = and_intro (is_inner_byte b) (all_inner_bytes r.inner) (and_left (is_inner_byte b) (closes true (c ∷ rest)) h) r.bytes;
      any = λ (e : some ≡ false). omega arith;
    }

closes_more : (some : Bool) (y : List ℕ) → all_inner_bytes y ≡ true → (some ≡ true) ⊎ (1 ≤ length y) → closes some (y ++ (quote_byte ∷ [])) ≡ true
unfolding closes all_of
closes_more some [] h (inl e) = rw e refl
closes_more some [] h (inr l) = absurd (omega arith)
closes_more some (b ∷ []) h l = and_intro (is_inner_byte b) true (and_left (is_inner_byte b) true h) refl
closes_more some (b ∷ c ∷ y) h l =
    and_intro (is_inner_byte b) (closes true (c ∷ (y ++ (quote_byte ∷ [])))) (and_left (is_inner_byte b) (all_inner_bytes (c ∷ y)) h)
    (closes_more true (c ∷ y) (and_right (is_inner_byte b) (all_inner_bytes (c ∷ y)) h) (inl refl))

pub loose_bare : (x : Token) → 1 ≤ length x → all_label_bytes x ≡ true → loose_label x ≡ true
unfolding loose_label all_of
loose_bare [] l h = absurd (omega arith)
loose_bare (b ∷ x) l h = rw (label_not_quote b (and_left (is_label_byte b) (all_label_bytes x) h)) h

pub loose_quoted : (y : List ℕ) → 1 ≤ length y → all_inner_bytes y ≡ true → loose_label (quoted_token y) ≡ true
unfolding loose_label
loose_quoted y l h = closes_more false y h (inr l)

pub loose_view : (x : Token) → loose_label x ≡ true → TokenView x
unfolding loose_label
loose_view [] h = clash h refl
loose_view (b ∷ rest) h = go (bool_cases (eqb b quote_byte))
  where
    go : (eqb b quote_byte ≡ true) ⊎ (eqb b quote_byte ≡ false) → TokenView (b ∷ rest)
    go (inl e) =
        let c = closes_view false rest (rw e at h) in
        rw (eqb-true b quote_byte e, c.is) (quoted c.inner (c.any refl) c.bytes)
    go (inr e) = bare (b ∷ rest) (omega arith) (rw e at h)

-- what each form stands for
pub spelling_bare : (x : Token) → all_label_bytes x ≡ true → spelling x ≡ map bare_byte x
unfolding spelling all_of
spelling_bare [] h = refl
spelling_bare (b ∷ x) h = rw (label_not_quote b (and_left (is_label_byte b) (all_label_bytes x) h)) refl

pub spelling_quoted : (y : List ℕ) → spelling (quoted_token y) ≡ y
unfolding spelling
spelling_quoted y = take_at y (quote_byte ∷ []) (length (y ++ (quote_byte ∷ [])) - 1) (omega (arith, length-append y (quote_byte ∷ [])))

pub size_bare : (x : Token) → all_label_bytes x ≡ true → length (spelling x) ≡ length x
size_bare x h = ap length (spelling_bare x h) ∙ length-map x bare_byte

pub size_quoted : (y : List ℕ) → length (quoted_token y) ≡ length y + 2
size_quoted y = omega (arith, length-append y (quote_byte ∷ []))

-- a good token is a loose one whose label is not too long
pub good_parts : (x : Token) → good_label x ≡ true → (loose_label x ≡ true) × (length (spelling x) ≤ label_limit)
unfolding good_label
good_parts x h = (
  and_left (loose_label x) (leb (length (spelling x)) label_limit) h,
  leb-true (length (spelling x)) label_limit (and_right (loose_label x) (leb (length (spelling x)) label_limit) h),
)

pub good_intro : (x : Token) → loose_label x ≡ true → length (spelling x) ≤ label_limit → good_label x ≡ true
unfolding good_label
good_intro x h l = and_intro (loose_label x) (leb (length (spelling x)) label_limit) h (le-leb (length (spelling x)) label_limit l)

-- a label has one byte at least
pub loose_some : (x : Token) → loose_label x ≡ true → (1 ≤ length x) × (1 ≤ length (spelling x))
loose_some x h = go (loose_view x h)
  where
    go : {z : Token} → TokenView z → (1 ≤ length z) × (1 ≤ length (spelling z))
    go (bare z l k) = (l, omega (arith, size_bare z k))
    go (quoted y l k) = (omega arith, rw (spelling_quoted y) l)

-- a token is at most two bytes longer than its label
pub loose_size : (x : Token) → loose_label x ≡ true → length x ≤ length (spelling x) + 2
loose_size x h = go (loose_view x h)
  where
    go : {z : Token} → TokenView z → length z ≤ length (spelling z) + 2
    go (bare z l k) = omega (arith, size_bare z k)
    go (quoted y l k) = rw (spelling_quoted y) (omega (arith, size_quoted y))

-- the tests on each token of a list

pub loose_head : (x : Token) (xs : List Token) → loose_labels (x ∷ xs) ≡ true → (loose_label x ≡ true) × (loose_labels xs ≡ true)
unfolding loose_labels
loose_head x xs h = (and_left (loose_label x) (loose_labels xs) h, and_right (loose_label x) (loose_labels xs) h)

pub loose_cons : (x : Token) (xs : List Token) → loose_label x ≡ true → loose_labels xs ≡ true → loose_labels (x ∷ xs) ≡ true
unfolding loose_labels
loose_cons x xs h k = and_intro (loose_label x) (loose_labels xs) h k

pub loose_none : loose_labels [] ≡ true
unfolding loose_labels
loose_none = refl

pub good_none : good_labels [] ≡ true
unfolding good_labels
good_none = refl

pub good_head : (x : Token) (xs : List Token) → good_labels (x ∷ xs) ≡ true → (good_label x ≡ true) × (good_labels xs ≡ true)
unfolding good_labels
good_head x xs h = (and_left (good_label x) (good_labels xs) h, and_right (good_label x) (good_labels xs) h)

pub good_cons : (x : Token) (xs : List Token) → good_label x ≡ true → good_labels xs ≡ true → good_labels (x ∷ xs) ≡ true
unfolding good_labels
good_cons x xs h k = and_intro (good_label x) (good_labels xs) h k

-- good tokens are loose ones
pub good_loose : (xs : List Token) → good_labels xs ≡ true → loose_labels xs ≡ true
good_loose [] h = loose_none
good_loose (x ∷ xs) h =
    loose_cons x xs (good_parts x (good_head x xs h).0).0 (good_loose xs (good_head x xs h).1)

pub good_append : (xs ys : List Token) → good_labels (xs ++ ys) ≡ (good_labels xs && good_labels ys)
unfolding good_labels
good_append [] ys = refl
good_append (x ∷ xs) ys =
    ap (λ (b : Bool). good_label x && b) (good_append xs ys) ∙ sym (and_assoc (good_label x) (good_labels xs) (good_labels ys))

pub good_join : (xs ys : List Token) → good_labels xs ≡ true → good_labels ys ≡ true → good_labels (xs ++ ys) ≡ true
good_join xs ys h k = good_append xs ys ∙ and_intro (good_labels xs) (good_labels ys) h k

pub good_split : (xs ys : List Token) → good_labels (xs ++ ys) ≡ true → (good_labels xs ≡ true) × (good_labels ys ≡ true)
good_split xs ys h =
    let k : (good_labels xs && good_labels ys) ≡ true = sym (good_append xs ys) ∙ h in
    (and_left (good_labels xs) (good_labels ys) k, and_right (good_labels xs) (good_labels ys) k)

pub loose_append : (xs ys : List Token) → loose_labels (xs ++ ys) ≡ (loose_labels xs && loose_labels ys)
unfolding loose_labels
loose_append [] ys = refl
loose_append (x ∷ xs) ys =
    ap (λ (b : Bool). loose_label x && b) (loose_append xs ys) ∙ sym (and_assoc (loose_label x) (loose_labels xs) (loose_labels ys))

pub loose_join : (xs ys : List Token) → loose_labels xs ≡ true → loose_labels ys ≡ true → loose_labels (xs ++ ys) ≡ true
loose_join xs ys h k = loose_append xs ys ∙ and_intro (loose_labels xs) (loose_labels ys) h k

pub loose_split : (xs ys : List Token) → loose_labels (xs ++ ys) ≡ true → (loose_labels xs ≡ true) × (loose_labels ys ≡ true)
loose_split xs ys h =
    let k : (loose_labels xs && loose_labels ys) ≡ true = sym (loose_append xs ys) ∙ h in
    (and_left (loose_labels xs) (loose_labels ys) k, and_right (loose_labels xs) (loose_labels ys) k)
