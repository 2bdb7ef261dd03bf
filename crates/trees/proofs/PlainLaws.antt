-- A bare label without underscores is itself, as it is read and as it is written, and so is a tree of such labels: of texts without
-- underscores and quotes C-12 changes nothing. Assumes nothing.
use Prim.Native.Nat.{ℕ}
use mathlib.Core.Path.{◌≡◌, refl, ap₂, ap}
use mathlib.Core.Bool.{true, false}
use mathlib.Core.List.{[], ◌∷◌, map}
use lib.Dec.{eqb}
use borrow.Author.Tests.{ne_eqb}
use Rattle.trees.specs.Bytes.{is_label_byte, quote_byte, blank_byte, underscore_byte}
use Rattle.trees.specs.Label.{Label}
use Rattle.trees.specs.Token.{Token, bare_byte, spelling, all_of, all_label_bytes, holds_underscore, written_byte, token_of}
use Rattle.trees.specs.Tree.{Tree, leaf, node, relabel, decoded}
use Rattle.trees.specs.Plain.{PlainLabel, PlainTree, plain_leaf, plain_node}
use Rattle.trees.proofs.Bools.{clash, and_left, and_right, or_none_left, or_none_right}

-- no label byte is a quote or a blank
no_quote : (b : ℕ) → is_label_byte b ≡ true → eqb b quote_byte ≡ false
unfolding is_label_byte
no_quote b h = ne_eqb b quote_byte (λ (e : b ≡ quote_byte). clash (rw e at h) refl)

no_blank : (b : ℕ) → is_label_byte b ≡ true → eqb b blank_byte ≡ false
unfolding is_label_byte
no_blank b h = ne_eqb b blank_byte (λ (e : b ≡ blank_byte). clash (rw e at h) refl)

plain_tail : (b : ℕ) (x : Token) → PlainLabel (b ∷ x) → PlainLabel x
unfolding all_of holds_underscore
plain_tail b x p =
    record {
      bytes = and_right (is_label_byte b) (all_label_bytes x) p.bytes;
      none = or_none_right (eqb b underscore_byte) (holds_underscore x) p.none;
    }

plain_byte : (b : ℕ) (x : Token) → PlainLabel (b ∷ x) → is_label_byte b ≡ true
unfolding all_of
plain_byte b x p = and_left (is_label_byte b) (all_label_bytes x) p.bytes

bare_own : (x : Token) → PlainLabel x → map bare_byte x ≡ x
unfolding bare_byte holds_underscore
bare_own [] p = refl
bare_own (b ∷ x) p =
    rw (or_none_left (eqb b underscore_byte) (holds_underscore x) p.none) (ap (λ (l : Label). b ∷ l) (bare_own x (plain_tail b x p)))

written_own : (x : Token) → PlainLabel x → map written_byte x ≡ x
unfolding written_byte
written_own [] p = refl
written_own (b ∷ x) p = rw (no_blank b (plain_byte b x p)) (ap (λ (l : Label). b ∷ l) (written_own x (plain_tail b x p)))

pub plain_spelling : (x : Token) → PlainLabel x → spelling x ≡ x
unfolding spelling
plain_spelling [] p = refl
plain_spelling (b ∷ x) p = rw (no_quote b (plain_byte b x p)) (bare_own (b ∷ x) p)

pub plain_token : (x : Token) → PlainLabel x → token_of x ≡ x
unfolding token_of
plain_token x p = rw p.none (written_own x p)

pub plain_decoded : {t : Tree} → PlainTree t → decoded t ≡ t
unfolding decoded relabel
plain_decoded (plain_leaf {x} p) = ap leaf (plain_spelling x p)
plain_decoded (plain_node p q) = ap₂ node (plain_decoded p) (plain_decoded q)

pub plain_written : {t : Tree} → PlainTree t → relabel token_of t ≡ t
unfolding relabel
plain_written (plain_leaf {x} p) = ap leaf (plain_token x p)
plain_written (plain_node p q) = ap₂ node (plain_written p) (plain_written q)
