-- What the reader of a list of labels promises, in 01's order and for both editions at once (C-15). The definitions are in specs/
-- (ReadList, ListGrammar, ListSays) and in the crate `trees` (Label, Token, Edition, Faults). Each proof cites one name. Assumes nothing.
use Prim.Native.Nat.{ℕ}
use mathlib.Core.Path.{◌≡◌}
use mathlib.Core.List.{List}
use lib.ListN.{length}
use Rattle.trees.specs.declared.Edition.{Edition}
use Rattle.trees.specs.declared.Edition.TheVariants.{One}
use Rattle.trees.specs.declared.Reason.{Reason}
use Rattle.trees.specs.declared.Body.{Body}
use Rattle.trees.specs.Edition.{in_edition}
use Rattle.trees.specs.Token.{Token}
use Rattle.trees.specs.Reading.{good, refused}
use Rattle.trees.specs.Refusals.{number_of, letter_of, value, row}
use Rattle.trees.specs.Faults.{Fault}
use Rattle.lists.specs.ReadList.{read_list, read_list_in, IsList, folded_list}
use Rattle.lists.specs.ListGrammar.{ListText, LabelCrowd, ListFault}
use Rattle.lists.specs.ListSays.{says_of}
use Rattle.lists.proofs.EditionLists.{list_accepts_in, list_reads_in, list_folded_read, list_refusal_in, list_fault_refused_in, list_clean_in, one_list}
use Rattle.lists.proofs.SaysLaws.{says_labels, says_fault}

-- "The required list is empty, or labels joined by `,` with nothing else, at most 80, all different." An accepted text is that of such
-- labels, bare or quoted, different as the edition reads them. They are returned as tokens.
pub accepted_list : (e : Edition) (text : List ℕ) (xs : List Token) → read_list_in e text ≡ good xs → IsList e text xs
accepted_list = list_accepts_in

-- The text of all such labels is accepted and read as those labels.
pub labels_read : (e : Edition) (text : List ℕ) (xs : List Token) → IsList e text xs → read_list_in e text ≡ good xs
labels_read = list_reads_in

-- "Old records must still be judged by the first edition": edition 1 reads as before C-15.
pub first_edition : (text : List ℕ) → read_list_in One text ≡ read_list text
first_edition = one_list

-- A list is read as the edition reads its bytes, and the labels keep the spelling of the text.
pub read_as_folded : (e : Edition) (text : List ℕ) (xs : List Token) → read_list_in e text ≡ good xs
    → read_list (in_edition e text) ≡ good (folded_list e xs)
read_as_folded = list_folded_read

-- "In one body the refusal with the smallest place is given. At the same place 4 goes before 5. An overlong label is not compared with
-- others." C-12: "a label whose quote does not close is not compared with others". A refusal is the first fault of the text as the edition
-- reads it.
pub refused_first : (e : Edition) (text : List ℕ) (r : Reason) (i : ℕ) → read_list_in e text ≡ refused r i → ListFault (in_edition e text) r i
refused_first = list_refusal_in

-- A text with a first fault is refused with it.
pub first_refused : (e : Edition) (text : List ℕ) (r : Reason) (i : ℕ) → ListFault (in_edition e text) r i → read_list_in e text ≡ refused r i
first_refused = list_fault_refused_in

-- An accepted list has no fault.
pub accepted_faultless : (e : Edition) (text : List ℕ) (xs : List Token) → read_list_in e text ≡ good xs → (q : Reason) (j : ℕ)
    → Fault ListText LabelCrowd (in_edition e text) q j → ⊥
accepted_faultless = list_clean_in

-- "A refusal carries its number, and within it the body letter and a place": 01's number and values for each case of the reader's answer.
-- Each text is that of such labels or has a first fault.
pub answer_of_labels : (e : Edition) (body : Body) (text : List ℕ) (xs : List Token) → IsList e text xs → says_of e body text ≡ value (length xs)
answer_of_labels = says_labels

pub answer_of_fault : (e : Edition) (body : Body) (text : List ℕ) (r : Reason) (i : ℕ) → ListFault (in_edition e text) r i
    → says_of e body text ≡ row (number_of r) (letter_of body) i
answer_of_fault = says_fault
