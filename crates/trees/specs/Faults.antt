-- Rows 1 to 5 of 01's table, "Why a job is turned down", stated for a text as a whole and not for a way to read it. `Whole` is the grammar
-- of a body, limits and repeats left aside; `Crowd text i` means that row 4 applies at place i.
use Rattle.std.specs.Prelude.{ℕ, suc, ◌+◌, ◌<◌, ◌≤◌, ◌≡◌, ◌⊎◌, true, cond, ◌||◌, List, [], ◌∷◌, ◌++◌, eqb, length, get_or, take, drop}
use Rattle.trees.specs.declared.Reason.{Reason}
use Rattle.trees.specs.declared.Reason.TheVariants.{BadByte, EndsTooSoon, LabelTooLong, TooMany, Repeated}
use Rattle.trees.specs.Bytes.{is_label_byte, open_byte, comma_byte, quote_byte}
use Rattle.trees.specs.Label.{label_limit}
use Rattle.trees.specs.Reading.{Ahead, ahead}
use Rattle.trees.specs.Refusals.{number_of}

-- a text that can be continued to one of the grammar
abbrev pub Continues : (List ℕ → Type 0) → List ℕ → Type 0
Continues Whole p = (q : List ℕ) × Whole (p ++ q)

-- place j is where a label can begin: at the start, or just after `(` or `,`
abbrev pub Edge : List ℕ → ℕ → Type 0
Edge text j = (k : ℕ) → suc k ≡ j → (get_or text k 0 ≡ open_byte) ⊎ (get_or text k 0 ≡ comma_byte)

-- a label begins at place j: a label byte where one may begin; "An opening quote begins a label" (C-12)
pub record LabelStarts (Whole : List ℕ → Type 0) (text : List ℕ) (j : ℕ) : Type 0 where
  pub inside : j < length text
  pub beginning : (is_label_byte (get_or text j 0) || eqb (get_or text j 0) quote_byte) ≡ true
  pub first : Edge text j
  pub allowed : Continues Whole (take (suc j) text)

-- what begins at j
abbrev pub label_from : List ℕ → ℕ → Ahead
label_from text j = ahead (drop j text)

pub data Fault (Whole : List ℕ → Type 0) (Crowd : List ℕ → ℕ → Type 0) (text : List ℕ) : Reason → ℕ → Type 0 where
  -- 1, "a byte cannot stand there"
  bad_byte : (i : ℕ) → i < length text → Continues Whole (take i text) → (Continues Whole (take (suc i) text) → ⊥)
      → Fault Whole Crowd text BadByte i
  -- 2, "the text ends too soon", at its length
  ends_too_soon : Continues Whole text → (Whole text → ⊥) → Fault Whole Crowd text EndsTooSoon (length text)
  -- 3, "Number 3 now stands at the 33rd byte" (C-14); "The limit counts bytes between the quotes"
  label_too_long : (j : ℕ) → LabelStarts Whole text j → label_limit < length (label_from text j).inner
      → Fault Whole Crowd text LabelTooLong (j + (label_from text j).opening + label_limit)
  -- 4
  too_many : (i : ℕ) → Crowd text i → Fault Whole Crowd text TooMany i
  -- 5, "a label repeats in its body", at the repeat's first byte; an overlong one, and one whose quote does not close, is not compared
  repeated : (j k : ℕ) → k < j → LabelStarts Whole text j → LabelStarts Whole text k
      → length (label_from text j).inner ≤ label_limit → (label_from text j).closed ≡ true
      → (label_from text k).label ≡ (label_from text j).label → Fault Whole Crowd text Repeated j

-- "In one body the refusal with the smallest place is given. At the same place 4 goes before 5."
pub record FirstFault (Whole : List ℕ → Type 0) (Crowd : List ℕ → ℕ → Type 0) (text : List ℕ) (r : Reason) (i : ℕ) : Type 0 where
  pub here : Fault Whole Crowd text r i
  pub first : (q : Reason) (j : ℕ) → Fault Whole Crowd text q j → (i < j) ⊎ ((i ≡ j) × (number_of r ≤ number_of q))

-- how often a byte occurs in a text
unfoldable pub occurrences : ℕ → List ℕ → ℕ
occurrences b [] = 0
occurrences b (x ∷ xs) = cond (eqb b x) (suc (occurrences b xs)) (occurrences b xs)
