-- What the reader of tree text promises, in 01's order and for both editions at once (C-15); labels are those of C-12. The definitions are
-- in specs/ (ReadTree, Grammar) and in the crate `trees` (Token, Tree, Text, Edition, Faults). Each proof cites one name. Assumes nothing.
use Prim.Native.Nat.{ℕ, suc}
use mathlib.Core.Path.{◌≡◌}
use mathlib.Core.List.{List}
use lib.ListN.{length}
use Rattle.trees.specs.declared.Edition.{Edition}
use Rattle.trees.specs.declared.Edition.TheVariants.{One}
use Rattle.trees.specs.declared.Reason.{Reason}
use Rattle.trees.specs.declared.Body.{Body}
use Rattle.trees.specs.Bytes.{open_byte}
use Rattle.trees.specs.Edition.{in_edition, folded, keyed, ValidIn, normal_in, rewritten, normal_text_in}
use Rattle.trees.specs.Tree.{Tree, leaves, relabel, Same, Valid}
use Rattle.trees.specs.Text.{text_of}
use Rattle.trees.specs.Reading.{good, refused}
use Rattle.trees.specs.Refusals.{number_of, letter_of, value, row}
use Rattle.trees.specs.Faults.{Fault, occurrences}
use Rattle.newick.specs.ReadTree.{read_tree, read_tree_in}
use Rattle.newick.specs.Grammar.{TreeText, OpenCrowd, TreeFault}
use Rattle.newick.specs.TreeSays.{says_of, TableRows, QuotedRows, EditionRows}
use Rattle.trees.proofs.EditionLaws.{normal_tree_same}
use Rattle.newick.proofs.Accepts.{text_injective}
use Rattle.newick.proofs.EditionReads.{accepts_in, reads_in, folded_read, normal_read_in, opens_in, refusal_in, fault_refused_in, accepted_clean_in, one_reads}
use Rattle.newick.proofs.TreeFaultsTable.{says_leaves, says_fault, table_rows, quoted_rows, edition_rows}

-- "A tree is a node followed by `;`, and nothing after it, not even a line end." An accepted text is the text of a valid tree, and that
-- tree is returned. Its labels are good tokens, different as the edition reads them; it has 1 to 80 leaves.
pub accepted_text : (e : Edition) (text : List ℕ) (t : Tree) → read_tree_in e text ≡ good t → (text ≡ text_of t) × ValidIn e t
accepted_text = accepts_in

-- The text of each valid tree is accepted and read as that tree: demand 2's return trip.
pub valid_read : (e : Edition) (t : Tree) → ValidIn e t → read_tree_in e (text_of t) ≡ good t
valid_read = reads_in

-- "Old records must still be judged by the first edition": edition 1 reads as before C-15.
pub first_edition : (text : List ℕ) → read_tree_in One text ≡ read_tree text
first_edition = one_reads

-- A text is read as the edition reads its bytes, and the tree keeps the spelling of the text.
pub read_as_folded : (e : Edition) (text : List ℕ) (t : Tree) → read_tree_in e text ≡ good t → read_tree (in_edition e text) ≡ good (folded e t)
read_as_folded = folded_read

-- "Equal trees have one normal text, and reading it gives the tree again": the normal tree, its labels as they are written, which is an
-- equal tree by the edition.
pub normal_text_read : (e : Edition) (t : Tree) → ValidIn e t → read_tree_in e (normal_text_in e t) ≡ good (relabel rewritten (normal_in e t))
normal_text_read = normal_read_in

pub normal_tree_equal : (e : Edition) (t : Tree) → ValidIn e t → Same (keyed e (relabel rewritten (normal_in e t))) (keyed e t)
normal_tree_equal = normal_tree_same

-- A text is the text of one tree only.
pub one_tree_lem : (s t : Tree) → Valid s → Valid t → text_of s ≡ text_of t → s ≡ t
one_tree_lem = text_injective

-- "A tree has 1 to 80 leaves, so at most 79 `(`": it has one `(` less than leaves.
pub opens_counted : (e : Edition) (text : List ℕ) (t : Tree) → read_tree_in e text ≡ good t → length (leaves t) ≡ suc (occurrences open_byte text)
opens_counted = opens_in

-- "A refusal carries its number, and within it the body letter and a place": 01's number and values for each case of the reader's answer.
-- Each text is that of a valid tree or has a first fault.
pub answer_of_leaves : (e : Edition) (body : Body) (t : Tree) → ValidIn e t → says_of e body (text_of t) ≡ value (length (leaves t))
answer_of_leaves = says_leaves

pub answer_of_fault : (e : Edition) (body : Body) (text : List ℕ) (r : Reason) (i : ℕ) → TreeFault (in_edition e text) r i
    → says_of e body text ≡ row (number_of r) (letter_of body) i
answer_of_fault = says_fault

-- 01's examples of rows 1 to 5.
pub examples : TableRows
examples = table_rows

-- Examples of C-12: `''`, one label in both forms, the limit between quotes, a quote that does not close.
pub quoted_examples : QuotedRows
quoted_examples = quoted_rows

-- Examples of C-15: one text under both editions, the last letter, underscores and blanks.
pub edition_examples : EditionRows
edition_examples = edition_rows

-- "In one body the refusal with the smallest place is given. At the same place 4 goes before 5. An overlong label is not compared with
-- others." C-12: "a label whose quote does not close is not compared with others". A refusal is the first fault of the text as the edition
-- reads it.
pub refused_first : (e : Edition) (text : List ℕ) (r : Reason) (i : ℕ) → read_tree_in e text ≡ refused r i → TreeFault (in_edition e text) r i
refused_first = refusal_in

-- A text with a first fault is refused with it.
pub first_refused : (e : Edition) (text : List ℕ) (r : Reason) (i : ℕ) → TreeFault (in_edition e text) r i → read_tree_in e text ≡ refused r i
first_refused = fault_refused_in

-- An accepted text has no fault.
pub accepted_faultless : (e : Edition) (text : List ℕ) (t : Tree) → read_tree_in e text ≡ good t → (q : Reason) (j : ℕ)
    → Fault TreeText OpenCrowd (in_edition e text) q j → ⊥
accepted_faultless = accepted_clean_in
