-- What the writer promises, in the papers' words and for both editions at once (C-15), about the definitions that the contract of
-- `write_tree` cites. Each proof cites one name. Assumes nothing.
use Prim.Native.Nat.{ℕ, ◌≤◌, ◌<◌}
use mathlib.Core.Path.{◌≡◌, refl}
use mathlib.Core.List.{List}
use mathlib.Core.Option.{some, none, map}
use lib.ListN.{length, take, drop}
use Rattle.trees.specs.declared.Edition.{Edition}
use Rattle.trees.specs.declared.Edition.TheVariants.{One}
use Rattle.trees.specs.declared.Refusal.{Refusal}
use Rattle.trees.specs.declared.TreeArrays.{TreeArrays}
use Rattle.trees.specs.Refusals.{number_of, letter_of, value, row}
use Rattle.trees.specs.Tree.{Tree, relabel, decoded, Same, Valid}
use Rattle.trees.specs.Text.{text_of, normal_text}
use Rattle.trees.specs.Edition.{in_edition, keyed, ValidIn, normal_in, rewritten, normal_text_in}
use Rattle.trees.specs.Arrays.{Standing, no_leaf, one_tree, no_tree, tree_of, arrays_of}
use Rattle.std.specs.Prelude.{Ok, Err}
use Rattle.writer.specs.declared.WriteError.TheVariants.{NoTree, Refused}
use Rattle.writer.specs.Write.{standing_text, write_answer, output_after, Lack, said_of, EditionTexts}
use Rattle.writer.proofs.AnswerLaws.{bytes_told, nine_told, written_text, written_rest, short_kept, lacking_text}
use Rattle.writer.proofs.AnswerLaws.{empty_told, none_told, tree_text, text_again, text_alike, edition_texts, one_standing, one_text}

-- Each answer is a number of bytes, a row of 01's table, or no row of it.
pub answers_told : (n : ℕ) (r : Refusal)
    → (said_of (Ok n) ≡ value (some n)) × (said_of (Err (Refused r)) ≡ row (number_of r.reason) (letter_of r.body) r.place)
    × (said_of (Err NoTree) ≡ value none)
unfolding said_of
answers_told n r = (refl, refl, refl)

-- If arrays represent tree t over the text, its normal text under the edition is written.
module _ (e : Edition) (a : TreeArrays) (text : List ℕ) (t : Tree) (stands : tree_of a text ≡ one_tree t) (out : List ℕ) where
  -- "On success the output holds the normal text and its further bytes are unchanged"
  pub count_when_it_fits : length (normal_text_in e t) ≤ length out
      → said_of (write_answer e (tree_of a text) (length out)) ≡ value (some (length (normal_text_in e t)))
  count_when_it_fits = bytes_told e a text t stands out

  pub text_when_it_fits : length (normal_text_in e t) ≤ length out
      → take (length (normal_text_in e t)) (output_after e (tree_of a text) out) ≡ normal_text_in e t
  text_when_it_fits = written_text e a text t stands out

  pub rest_when_it_fits : length (normal_text_in e t) ≤ length out
      → drop (length (normal_text_in e t)) (output_after e (tree_of a text) out) ≡ drop (length (normal_text_in e t)) out
  rest_when_it_fits = written_rest e a text t stands out

  -- "On refusal no set and no count is returned, and an output keeps every byte": number 9, O 0.
  pub nine_when_too_short : length out < length (normal_text_in e t) → said_of (write_answer e (tree_of a text) (length out)) ≡ row 9 79 0
  nine_when_too_short = nine_told e a text t stands out

  pub output_kept_when_too_short : length out < length (normal_text_in e t) → output_after e (tree_of a text) out ≡ out
  output_kept_when_too_short = short_kept e a text t stands out

-- "9 stands only for a real lack"
pub only_a_real_lack : (e : Edition) (s : Standing) (n : ℕ) (r : Refusal) → write_answer e s n ≡ Err (Refused r) → Lack (standing_text e s) n r
only_a_real_lack = lacking_text

-- "The empty set of leaves has a text of no bytes"
pub empty_text : (e : Edition) (out : List ℕ) → (said_of (write_answer e no_leaf (length out)) ≡ value (some 0)) × (output_after e no_leaf out ≡ out)
empty_text = empty_told

-- For arrays that represent no tree, nothing is written.
pub no_tree_lem : (e : Edition) (out : List ℕ) → (said_of (write_answer e no_tree (length out)) ≡ value none) × (output_after e no_tree out ≡ out)
no_tree_lem = none_told

-- The arrays of a valid tree over its text are written as its normal text.
pub valid_tree_written : (e : Edition) (t : Tree) → ValidIn e t → standing_text e (tree_of (arrays_of t) (text_of t)) ≡ some (normal_text_in e t)
valid_tree_written = tree_text

-- "reading it gives the tree again": the tree read from a normal text is written as the same bytes.
pub normal_text_again : (e : Edition) (t : Tree) → ValidIn e t
    → standing_text e (tree_of (arrays_of (relabel rewritten (normal_in e t))) (normal_text_in e t)) ≡ some (normal_text_in e t)
normal_text_again = text_again

-- "Equal trees have equal normal texts under edition 2 up to spelling": trees that are equal under the edition are written as texts that
-- are equal under it.
pub equal_trees_written_alike : (e : Edition) (s t : Tree) → ValidIn e s → Same (keyed e s) (keyed e t)
    → map (in_edition e) (standing_text e (one_tree s)) ≡ map (in_edition e) (standing_text e (one_tree t))
equal_trees_written_alike = text_alike

-- The edition decides the order of children. "Labels are printed as the first tree spells them".
pub edition_examples : EditionTexts
edition_examples = edition_texts

-- "Old records must still be judged by the first edition": it writes the normal text of the decoded tree.
pub first_edition : (t : Tree) → standing_text One (one_tree t) ≡ some (normal_text (decoded t))
first_edition = one_standing

-- "In exchanged files a bare `a_b` and a quoted `'a b'` are one": under edition 1, trees that decode to equal ones are written as the same
-- bytes.
pub first_edition_alike : (s t : Tree) → Valid s → Same (decoded s) (decoded t) → standing_text One (one_tree s) ≡ standing_text One (one_tree t)
first_edition_alike = one_text
