-- The result of reading a body, and labels in a text. 01, "Tree text" and "Why a job is turned down".
use Rattle.std.specs.Prelude.{ℕ, Bool, false, cond, ◌&&◌, List, [], ◌∷◌, map, eqb, leb, length, drop}
use Rattle.trees.specs.declared.Reason.{Reason}
use Rattle.trees.specs.Bytes.{is_label_byte, is_inner_byte, quote_byte}
use Rattle.trees.specs.Label.{Label, label_limit, is_in}
use Rattle.trees.specs.Token.{bare_byte}

-- what was read, or why not and at which byte offset
pub data Reading (A : Type 0) : Type 0 where
  good : A → Reading A
  refused : Reason → ℕ → Reading A

-- C-15. The edition decides whether a body is accepted; what is returned keeps the spelling of the text. The first argument is the reading
-- of the folded text, the second that of the text itself.
unfoldable pub as_stands : {A : Type 0} → Reading A → Reading A → Reading A
as_stands (good x) plain = plain
as_stands (refused r i) plain = refused r i

-- the longest run of such bytes
unfoldable pub run_of : (ℕ → Bool) → List ℕ → List ℕ
run_of is [] = []
run_of is (b ∷ rest) = cond (is b) (b ∷ run_of is rest) []

unfoldable pub quote_first : List ℕ → Bool
quote_first [] = false
quote_first (b ∷ rest) = eqb b quote_byte

-- what follows at a place where a label may begin
pub record Ahead : Type 0 where
  -- how many bytes open it: 1 for a quote
  pub opening : ℕ
  -- "A label is the longest run of label bytes"; after a quote, of label bytes and blanks
  pub inner : List ℕ
  -- one byte at least; after a quote, a quote follows at once
  pub closed : Bool
  -- what it decodes to
  pub label : Label

-- without a quote
abbrev pub bare_ahead : List ℕ → Ahead
bare_ahead run = record { opening = 0; inner = run; closed = leb 1 (length run); label = map bare_byte run }

-- with one; `after` are the bytes after it
abbrev pub quoted_ahead : List ℕ → List ℕ → Ahead
quoted_ahead run after =
    record { opening = 1; inner = run; closed = leb 1 (length run) && quote_first (drop (length run) after); label = run }

unfoldable pub ahead : List ℕ → Ahead
unfolding run_of quote_first
ahead text =
    cond (quote_first text) (quoted_ahead (run_of is_inner_byte (drop 1 text)) (drop 1 text)) (bare_ahead (run_of is_label_byte text))

-- the label that begins here was seen before. "An overlong label is not compared with others."; "a label whose quote does not close is
-- not compared with others" (C-12)
unfoldable pub repeats : List Label → List ℕ → Bool
unfolding ahead
repeats seen rest = leb (length (ahead rest).inner) label_limit && (ahead rest).closed && is_in (ahead rest).label seen
