-- Labels as they are written in a text, and the labels that they decode to. C-12: "In exchanged files a bare `a_b` and a quoted `'a b'` are
-- one".
use Rattle.std.specs.Prelude.{ℕ, ◌+◌, ◌-◌, Bool, true, false, cond, ◌&&◌, ◌||◌, List, [], ◌∷◌, ◌++◌, map, eqb, leb, length, take}
use Rattle.trees.specs.Bytes.{is_label_byte, is_inner_byte, quote_byte, blank_byte, underscore_byte}
use Rattle.trees.specs.Label.{Label, label_limit}

-- the bytes of a label in a text, quotes included
abbrev pub Token : Type 0
Token = List ℕ

-- ---- what a token decodes to

-- "A bare underscore now reads as a blank."
unfoldable pub bare_byte : ℕ → ℕ
bare_byte b = cond (eqb b underscore_byte) blank_byte b

-- "a quoted underscore is itself": between the quotes each byte is
unfoldable pub spelling : Token → Label
unfolding bare_byte
spelling [] = []
spelling (b ∷ rest) = cond (eqb b quote_byte) (take (length rest - 1) rest) (map bare_byte (b ∷ rest))

-- ---- which tokens there are

-- each byte passes the test
unfoldable pub all_of : (ℕ → Bool) → List ℕ → Bool
all_of is [] = true
all_of is (b ∷ x) = is b && all_of is x

abbrev pub all_label_bytes : List ℕ → Bool
all_label_bytes = all_of is_label_byte

abbrev pub all_inner_bytes : List ℕ → Bool
all_inner_bytes = all_of is_inner_byte

-- label bytes and blanks up to a quote, which ends the token; `some` is whether there was one already
unfoldable pub closes : (some : Bool) → List ℕ → Bool
closes some [] = false
closes some (b ∷ []) = some && eqb b quote_byte
closes some (b ∷ c ∷ rest) = is_inner_byte b && closes true (c ∷ rest)

-- one label byte at least and nothing else; or one label byte or blank at least between quotes
unfoldable pub loose_label : Token → Bool
unfolding all_of closes
loose_label [] = false
loose_label (b ∷ rest) = cond (eqb b quote_byte) (closes false rest) (all_label_bytes (b ∷ rest))

-- 1 to 32 bytes; "The limit counts bytes between the quotes"
unfoldable pub good_label : Token → Bool
unfolding loose_label spelling
good_label x = loose_label x && leb (length (spelling x)) label_limit

unfoldable pub good_labels : List Token → Bool
good_labels [] = true
good_labels (x ∷ xs) = good_label x && good_labels xs

-- tokens, however long
unfoldable pub loose_labels : List Token → Bool
loose_labels [] = true
loose_labels (x ∷ xs) = loose_label x && loose_labels xs

-- ---- how a label is written

unfoldable pub holds_underscore : Label → Bool
holds_underscore [] = false
holds_underscore (b ∷ x) = eqb b underscore_byte || holds_underscore x

-- "elsewhere a blank becomes an underscore"
unfoldable pub written_byte : ℕ → ℕ
written_byte b = cond (eqb b blank_byte) underscore_byte b

-- these bytes between quotes
abbrev pub quoted_token : List ℕ → Token
quoted_token x = quote_byte ∷ (x ++ (quote_byte ∷ []))

-- "The writer .. quotes only a label that holds an underscore, and keeps its blanks"
unfoldable pub token_of : Label → Token
unfolding holds_underscore written_byte
token_of x = cond (holds_underscore x) (quoted_token x) (map written_byte x)

-- the most bytes of a written label: the label and two quotes
abbrev pub token_limit : ℕ
token_limit = label_limit + 2
