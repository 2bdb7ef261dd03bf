-- The grammar of a list of labels, limits and repeats left aside, and where row 4 of the table applies in it. 01, "Tree text" and "Why a
-- job is turned down".
use Rattle.std.specs.Prelude.{ℕ, ◌≡◌, true, List, take}
use Rattle.trees.specs.declared.Reason.{Reason}
use Rattle.trees.specs.Bytes.{comma_byte}
use Rattle.trees.specs.Token.{Token, loose_labels}
use Rattle.trees.specs.Faults.{LabelStarts, FirstFault, occurrences}
use Rattle.lists.specs.ReadList.{joined, list_limit}

-- a text of the grammar, limits and repeats left aside
abbrev pub ListText : List ℕ → Type 0
ListText text = (xs : List Token) × (loose_labels xs ≡ true) × (text ≡ joined xs)

-- "the list's 81st label", at its first byte; "An opening quote begins a label, so number 4 can stand there" (C-12)
pub record LabelCrowd (text : List ℕ) (i : ℕ) : Type 0 where
  pub starts : LabelStarts ListText text i
  pub earlier : occurrences comma_byte (take i text) ≡ list_limit

-- the refusal that the table gives a list
abbrev pub ListFault : List ℕ → Reason → ℕ → Type 0
ListFault = FirstFault ListText LabelCrowd
