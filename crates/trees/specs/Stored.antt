-- Labels kept apart from their text, and parts of a text.
use Rattle.std.specs.Prelude.{ℕ, zero, suc, ◌+◌, ◌-◌, min, Bool, true, false, cond, ◌||◌, List, [], ◌++◌, map, leb, length, get_or, take, drop, replicate}
use Rattle.trees.specs.declared.Edition.{Edition}
use Rattle.trees.specs.declared.ShortBytes.{ShortBytes}
use Rattle.trees.specs.Label.{Label, label_limit, same_label}
use Rattle.trees.specs.Token.{Token, bare_byte, spelling, written_byte, quoted_token, token_of, token_limit}
use Rattle.trees.specs.Reading.{quote_first}
use Rattle.trees.specs.Edition.{fold_byte}

-- the bytes of a label apart from any text: as decoded, and as it is printed
abbrev pub StoredLabel : Type 0
StoredLabel = ShortBytes label_limit

abbrev pub ShownLabel : Type 0
ShownLabel = ShortBytes token_limit

-- the label that is stored; if the length exceeds the array, all its bytes count
unfoldable pub stored_bytes : StoredLabel → Label
stored_bytes l = take l.len l.bytes

-- a stored label: its bytes, then 0 up to `label_limit`; of a longer text the first `label_limit` bytes
unfoldable pub stored_of : Label → StoredLabel
stored_of x = record { bytes = take label_limit x ++ replicate (label_limit - length x) 0; len = min (length x) label_limit }

-- a label as it is printed: the bytes of its written form, then 0 up to `token_limit`; of a longer one the first `token_limit` bytes
unfoldable pub shown_of : Label → ShownLabel
unfolding token_of
shown_of x =
    record {
      bytes = take token_limit (token_of x) ++ replicate (token_limit - length (token_of x)) 0;
      len = min (length (token_of x)) token_limit;
    }

unfoldable pub shown_bytes : ShownLabel → Token
shown_bytes l = take l.len l.bytes

-- the `size` bytes from `start`, or nothing if they run past the end
unfoldable pub part_of : ℕ → ℕ → List ℕ → List ℕ
part_of start size text = cond (leb (start + size) (length text)) (take size (drop start text)) []

-- "A leaf's label can be shown as the part of the caller's text that holds it": the part that the arrays' starts and sizes name
abbrev pub leaf_label : (text start size : List ℕ) → ℕ → Token
leaf_label text start size u = part_of (get_or start u 0) (get_or size u 0) text

-- the label that leaf u's part of the text decodes to
abbrev pub leaf_spelling : (text start size : List ℕ) → ℕ → Label
leaf_spelling text start size u = spelling (leaf_label text start size u)

-- the part of `size` bytes from `start` decodes to the same label as x
abbrev pub is_part : (text : List ℕ) → (start size : ℕ) → Token → Bool
is_part text start size x = same_label (spelling x) (spelling (part_of start size text))

-- one of the first n parts that starts and sizes name decodes to the same label as x
unfoldable pub is_among : (text start size : List ℕ) → ℕ → Token → Bool
is_among text start size zero x = false
is_among text start size (suc n) x = is_part text (get_or start n 0) (get_or size n 0) x || is_among text start size n x

-- ---- how the code reads a token and writes a label. Intermediate: no public contract rests on this part.

-- a byte of a token as an edition reads it, depending on whether it is between quotes
unfoldable pub byte_of : Edition → (quoted : Bool) → ℕ → ℕ
byte_of e true b = fold_byte e b
byte_of e false b = bare_byte (fold_byte e b)

-- the bytes that count: those between the quotes, or all
unfoldable pub inner_bytes : Token → List ℕ
unfolding quote_first
inner_bytes x = cond (quote_first x) (take (length x - 2) (drop 1 x)) x

-- these bytes, so read, are the label's
abbrev pub read_as : Edition → (quoted : Bool) → List ℕ → Label
read_as e quoted x = map (byte_of e quoted) x

-- a label's form with quotes, and without
unfoldable pub form_of : (quoted : Bool) → Label → Token
form_of true x = quoted_token x
form_of false x = map written_byte x
