-- Written forms of labels: each label that a token stands for has one, which is a token that stands for it. Trees of tokens and what
-- they stand for. Assumes nothing.
use Prim.Native.Nat.{ℕ, ◌≤◌}
use mathlib.Core.Path.{◌≡◌, refl, sym, ◌∙◌, ap, ap₂}
use mathlib.Core.Bool.{true, false}
use mathlib.Core.Logic.{◌⊎◌, inl, inr}
use mathlib.Core.List.{List, [], ◌∷◌, map}
use native.Mathlib.Omega.{arith}
use lib.Dec.{eqb}
use lib.ListN.{length, length-append, length-map}
use borrow.Author.Tests.{eqb-true}
use Rattle.trees.specs.Bytes.{is_label_byte, is_inner_byte, quote_byte, blank_byte, underscore_byte}
use Rattle.trees.specs.Label.{Label, label_limit, distinct}
use Rattle.trees.specs.Token.{Token, bare_byte, spelling, all_of, all_label_bytes, all_inner_bytes, loose_label, good_label, good_labels, quoted_token}
use Rattle.trees.specs.Token.{holds_underscore, written_byte, token_of, token_limit}
use Rattle.trees.specs.Tree.{Tree, leaves, decoded, Valid, Proper, leaf_limit}
use Rattle.trees.proofs.Bools.{bool_cases, clash, and_left, and_right, and_intro, or_cases, or_inr, or_none_left, or_none_right}
use Rattle.trees.proofs.ListLaws.{TokenView, bare, quoted, loose_view, loose_bare, loose_quoted, spelling_bare, spelling_quoted}
use Rattle.trees.proofs.ListLaws.{good_parts, good_intro, loose_some, label_inner, loose_size}
use Rattle.trees.proofs.RelabelLaws.{leaves_count}

pub good_spelling : (x : Token) → good_label x ≡ true → (1 ≤ length (spelling x)) × (length (spelling x) ≤ label_limit)
good_spelling x h = ((loose_some x (good_parts x h).0).1, (good_parts x h).1)

-- no good token is longer than what is written of a label
pub good_short : (x : Token) → good_label x ≡ true → length x ≤ token_limit
good_short x h = omega (arith, (good_parts x h).1, loose_size x (good_parts x h).0)

-- ---- one byte

bare_inner : (b : ℕ) → is_label_byte b ≡ true → is_inner_byte (bare_byte b) ≡ true
unfolding bare_byte is_inner_byte
bare_inner b h = go (bool_cases (eqb b underscore_byte))
  where
    go : (eqb b underscore_byte ≡ true) ⊎ (eqb b underscore_byte ≡ false) → is_inner_byte (bare_byte b) ≡ true
    go (inl e) = rw e (or_inr (is_label_byte blank_byte) (eqb blank_byte blank_byte) refl)
    go (inr e) = rw e (label_inner b h)

-- a byte of a label without underscores, written and read again
record PlainByte (b : ℕ) : Type 0 where
  letter : is_label_byte (written_byte b) ≡ true
  back : bare_byte (written_byte b) ≡ b

plain_byte : (b : ℕ) → is_inner_byte b ≡ true → eqb b underscore_byte ≡ false → PlainByte b
unfolding bare_byte written_byte is_inner_byte is_label_byte
plain_byte b h n = go (bool_cases (eqb b blank_byte)) (or_cases (is_label_byte b) (eqb b blank_byte) h)
  where
    go : (eqb b blank_byte ≡ true) ⊎ (eqb b blank_byte ≡ false) → (is_label_byte b ≡ true) ⊎ (eqb b blank_byte ≡ true) → PlainByte b
    go (inl e) k = record { letter = rw e refl; back = rw e (sym (eqb-true b blank_byte e)) }
    go (inr e) (inl k) = record { letter = rw e k; back = rw (e, n) refl }
    go (inr e) (inr k) = clash k e

-- ---- one label

-- what a token stands for has label bytes and blanks only
bare_bytes : (x : List ℕ) → all_label_bytes x ≡ true → all_inner_bytes (map bare_byte x) ≡ true
unfolding all_of
bare_bytes [] h = refl
bare_bytes (b ∷ x) h =
    and_intro (is_inner_byte (bare_byte b)) (all_inner_bytes (map bare_byte x)) (bare_inner b (and_left (is_label_byte b) (all_label_bytes x) h))
    (bare_bytes x (and_right (is_label_byte b) (all_label_bytes x) h))

pub spelling_bytes : (x : Token) → loose_label x ≡ true → all_inner_bytes (spelling x) ≡ true
spelling_bytes x h = go (loose_view x h)
  where
    go : {z : Token} → TokenView z → all_inner_bytes (spelling z) ≡ true
    go (bare z l k) = rw (spelling_bare z k) (bare_bytes z k)
    go (quoted y l k) = rw (spelling_quoted y) k

-- a label without underscores is written as label bytes, and read again
record PlainLabel (y : Label) : Type 0 where
  letters : all_label_bytes (map written_byte y) ≡ true
  back : map bare_byte (map written_byte y) ≡ y

plain_label : (y : Label) → all_inner_bytes y ≡ true → holds_underscore y ≡ false → PlainLabel y
unfolding all_of holds_underscore
plain_label [] h n = record { letters = refl; back = refl }
plain_label (b ∷ y) h n =
    let p = plain_byte b (and_left (is_inner_byte b) (all_inner_bytes y) h) (or_none_left (eqb b underscore_byte) (holds_underscore y) n) in
    let r = plain_label y (and_right (is_inner_byte b) (all_inner_bytes y) h) (or_none_right (eqb b underscore_byte) (holds_underscore y) n) in
    record {
      letters = and_intro (is_label_byte (written_byte b)) (all_label_bytes (map written_byte y)) p.letter r.letters;
      back = ap₂ ◌∷◌ p.back r.back;
    }

-- the two forms
pub token_quoted : (y : Label) → holds_underscore y ≡ true → token_of y ≡ quoted_token y
unfolding token_of
token_quoted y h = rw h refl

pub token_plain : (y : Label) → holds_underscore y ≡ false → token_of y ≡ map written_byte y
unfolding token_of
token_plain y h = rw h refl

-- the form of a label of label bytes and blanks is a token that stands for it
record Written (y : Label) : Type 0 where
  loose : loose_label (token_of y) ≡ true
  back : spelling (token_of y) ≡ y

written_label : (y : Label) → 1 ≤ length y → all_inner_bytes y ≡ true → Written y
written_label y l h = go (bool_cases (holds_underscore y))
  where
    go : (holds_underscore y ≡ true) ⊎ (holds_underscore y ≡ false) → Written y
    go (inl e) =
        record {
          loose = rw (token_quoted y e) (loose_quoted y l h);
          back = rw (token_quoted y e) (spelling_quoted y);
        }
    go (inr e) =
        let p = plain_label y h e in
        record {
          loose = rw (token_plain y e) (loose_bare (map written_byte y) (omega (arith, length-map y written_byte)) p.letters);
          back = rw (token_plain y e) (spelling_bare (map written_byte y) p.letters ∙ p.back);
        }

written_of : (x : Token) → loose_label x ≡ true → Written (spelling x)
written_of x h = written_label (spelling x) (loose_some x h).1 (spelling_bytes x h)

pub token_short : (x : Label) → length x ≤ label_limit → length (token_of x) ≤ token_limit
token_short x l = go (bool_cases (holds_underscore x))
  where
    go : (holds_underscore x ≡ true) ⊎ (holds_underscore x ≡ false) → length (token_of x) ≤ token_limit
    go (inl e) = rw (token_quoted x e) (omega (arith, length-append x (quote_byte ∷ [])))
    go (inr e) = rw (token_plain x e) (omega (arith, length-map x written_byte))

pub token_loose : (x : Token) → loose_label x ≡ true → loose_label (token_of (spelling x)) ≡ true
token_loose x h = (written_of x h).loose

pub token_back : (x : Token) → good_label x ≡ true → spelling (token_of (spelling x)) ≡ spelling x
token_back x h = (written_of x (good_parts x h).0).back

pub token_good : (x : Token) → good_label x ≡ true → good_label (token_of (spelling x)) ≡ true
token_good x h =
    good_intro (token_of (spelling x)) (token_loose x (good_parts x h).0) (rw (token_back x h) (good_parts x h).1)

-- equal forms, equal labels
pub token_one : (x y : Token) → good_label x ≡ true → good_label y ≡ true → token_of (spelling x) ≡ token_of (spelling y)
    → spelling x ≡ spelling y
token_one x y h k e = sym (token_back x h) ∙ ap spelling e ∙ token_back y k

-- ---- trees

pub valid_decoded : (t : Tree) → Valid t → Proper (decoded t)
unfolding decoded
valid_decoded t v = record { different = v.different; few = rw (leaves_count spelling t) v.few }

pub valid_intro : (t : Tree) → good_labels (leaves t) ≡ true → distinct (leaves (decoded t)) ≡ true → length (leaves t) ≤ leaf_limit → Valid t
valid_intro t h k n = record { labels = h; different = k; few = n }
