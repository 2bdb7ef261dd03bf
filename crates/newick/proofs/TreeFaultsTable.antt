-- What the reader says of a tree text, case by case, and the examples of the papers. Assumes nothing.
use Prim.Native.Nat.{ℕ}
use mathlib.Core.Path.{◌≡◌, refl, ap}
use mathlib.Core.List.{List}
use lib.ListN.{length}
use Rattle.trees.specs.declared.Reason.{Reason}
use Rattle.trees.specs.declared.Body.{Body}
use Rattle.trees.specs.declared.Edition.{Edition}
use Rattle.trees.specs.Bytes.{is_inner_byte, kind_of}
use Rattle.trees.specs.Words.{bytes_of}
use Rattle.trees.specs.Label.{is_in, same_label}
use Rattle.trees.specs.Token.{spelling}
use Rattle.trees.specs.Edition.{fold_byte, in_edition, ValidIn}
use Rattle.trees.specs.Tree.{Tree, leaves}
use Rattle.trees.specs.Text.{text_of}
use Rattle.trees.specs.Reading.{Reading, good, refused, repeats}
use Rattle.trees.specs.Refusals.{number_of, letter_of, value, row, row_of}
use Rattle.newick.specs.ReadTree.{read_tree_in, tree_read}
use Rattle.newick.specs.Grammar.{TreeFault}
use Rattle.newick.specs.TreeSays.{tree_says, says_of, TableRows, QuotedRows, EditionRows}
use Rattle.newick.proofs.EditionReads.{reads_in, fault_refused_in}

-- what is said of a result
says_read : (e : Edition) (body : Body) (text : List ℕ) (r : Reading Tree) → read_tree_in e text ≡ r
    → says_of e body text ≡ tree_says (tree_read body r).answer
unfolding says_of
says_read e body text r h = ap (λ (w : Reading Tree). tree_says (tree_read body w).answer) h

pub says_leaves : (e : Edition) (body : Body) (t : Tree) → ValidIn e t → says_of e body (text_of t) ≡ value (length (leaves t))
unfolding tree_says tree_read
says_leaves e body t v = says_read e body (text_of t) (good t) (reads_in e t v)

pub says_fault : (e : Edition) (body : Body) (text : List ℕ) (r : Reason) (i : ℕ) → TreeFault (in_edition e text) r i
    → says_of e body text ≡ row (number_of r) (letter_of body) i
unfolding tree_says tree_read row_of
says_fault e body text r i f = says_read e body text (refused r i) (fault_refused_in e text r i f)

pub table_rows : TableRows
unfolding says_of read_tree_in fold_byte tree_says kind_of is_inner_byte spelling repeats is_in same_label bytes_of number_of letter_of leaves
table_rows =
    record { blank = refl; no_semicolon = refl; no_bytes = refl; thirty_three = refl; seventeen = refl; eighty = refl; twice = refl }

pub quoted_rows : QuotedRows
unfolding says_of read_tree_in fold_byte tree_says kind_of is_inner_byte spelling repeats is_in same_label bytes_of number_of letter_of leaves
quoted_rows =
    record { nothing_quoted = refl; one_label = refl; other_label = refl; thirty_three = refl; wrong_byte = refl; unclosed = refl }

pub edition_rows : EditionRows
unfolding says_of read_tree_in fold_byte tree_says kind_of is_inner_byte spelling repeats is_in same_label bytes_of number_of letter_of leaves
edition_rows = record { case_matters = refl; case_repeats = refl; last_letter = refl; no_letter = refl; decoded_first = refl }
