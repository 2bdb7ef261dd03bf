-- What the definitions of specs/Write.antt say of arrays that stand for a tree, for no leaf and for no tree. Assumes nothing.
use Prim.Native.Nat.{ℕ, ◌≤◌, ◌<◌}
use mathlib.Core.Path.{◌≡◌, refl, sym, ◌∙◌, ap}
use mathlib.Core.Bool.{true, false}
use mathlib.Core.Logic.{◌⊎◌, inl, inr}
use mathlib.Core.List.{List, [], ◌++◌}
use mathlib.Core.Option.{Option, none, some, map}
use native.Mathlib.Omega.{arith}
use lib.Dec.{leb}
use lib.ListN.{length, take, drop}
use lib.Seq.{take-append_seam, drop-append_seam}
use borrow.Author.Tests.{leb-false}
use Rattle.trees.specs.declared.Edition.{Edition}
use Rattle.trees.specs.declared.Edition.TheVariants.{One}
use Rattle.trees.specs.declared.Refusal.{Refusal}
use Rattle.trees.specs.declared.TreeArrays.{TreeArrays}
use Rattle.trees.specs.Label.{label_less}
use Rattle.trees.specs.Token.{spelling, token_of}
use Rattle.trees.specs.Tree.{Tree, decoded, Same, Valid}
use Rattle.trees.specs.Text.{text_of, normal_text}
use Rattle.trees.specs.Edition.{fold_byte, in_edition, keyed, ValidIn, normal_text_in}
use Rattle.trees.specs.Arrays.{Standing, no_leaf, one_tree, no_tree, tree_of, arrays_of}
use Rattle.trees.specs.Words.{bytes_of}
use Rattle.trees.proofs.Bools.{bool_cases}
use Rattle.trees.proofs.ArrayLaws.{stands}
use Rattle.trees.proofs.EditionLaws.{valid_spelled, one_text_in, one_normal, normal_tree, normal_tree_valid}
use Rattle.trees.proofs.TokenLaws.{valid_decoded}
use Rattle.trees.proofs.NormalLaws.{one_normal_text}
use Rattle.std.specs.Prelude.{Ok, Err}
use Rattle.writer.specs.declared.WriteError.TheVariants.{NoTree, Refused}
use Rattle.trees.specs.Refusals.{value, row}
use Rattle.writer.specs.Write.{standing_text, output_too_short, text_answer, write_answer, output_after, Lack, said_of}
use Rattle.writer.specs.Write.{EditionTexts}
use Rattle.writer.proofs.AgainLaws.{normal_text_twice}
use Rattle.writer.proofs.WriteLaws.{Done, done_as, done_none, done_empty, done_short, done_fits}

-- arrays that stand for tree t over the text
module _ (e : Edition) (a : TreeArrays) (text : List ℕ) (t : Tree) (stands : tree_of a text ≡ one_tree t) (out : List ℕ) where
  belongs : standing_text e (tree_of a text) ≡ some (normal_text_in e t)
  unfolding standing_text
  belongs = ap (standing_text e) stands

  fits : length (normal_text_in e t) ≤ length out
      → Done e (tree_of a text) out (Ok (length (normal_text_in e t))) (normal_text_in e t ++ drop (length (normal_text_in e t)) out)
  fits h = done_as e (tree_of a text) (some (normal_text_in e t)) out _ _ belongs (done_fits (normal_text_in e t) out h)

  short : length out < length (normal_text_in e t) → Done e (tree_of a text) out (Err (Refused output_too_short)) out
  short h = done_as e (tree_of a text) (some (normal_text_in e t)) out _ _ belongs (done_short (normal_text_in e t) out h)

  -- "On success the output holds the normal text and its further bytes are unchanged"
  pub written_count : length (normal_text_in e t) ≤ length out → write_answer e (tree_of a text) (length out) ≡ Ok (length (normal_text_in e t))
  written_count h = sym (fits h).0

  pub written_text : length (normal_text_in e t) ≤ length out
      → take (length (normal_text_in e t)) (output_after e (tree_of a text) out) ≡ normal_text_in e t
  written_text h =
      ap (take (length (normal_text_in e t))) (sym (fits h).1) ∙ take-append_seam (normal_text_in e t) (drop (length (normal_text_in e t)) out)

  pub written_rest : length (normal_text_in e t) ≤ length out
      → drop (length (normal_text_in e t)) (output_after e (tree_of a text) out) ≡ drop (length (normal_text_in e t)) out
  written_rest h =
      ap (drop (length (normal_text_in e t))) (sym (fits h).1) ∙ drop-append_seam (normal_text_in e t) (drop (length (normal_text_in e t)) out)

  -- "On refusal no set and no count is returned, and an output keeps every byte"
  pub too_short : length out < length (normal_text_in e t) → write_answer e (tree_of a text) (length out) ≡ Err (Refused output_too_short)
  too_short h = sym (short h).0

  pub short_kept : length out < length (normal_text_in e t) → output_after e (tree_of a text) out ≡ out
  short_kept h = sym (short h).1

-- the same in 01's terms
module _ (e : Edition) (a : TreeArrays) (text : List ℕ) (t : Tree) (stands : tree_of a text ≡ one_tree t) (out : List ℕ) where
  pub bytes_told : length (normal_text_in e t) ≤ length out → said_of (write_answer e (tree_of a text) (length out)) ≡ value (some (length (normal_text_in e t)))
  unfolding said_of
  bytes_told h = ap said_of (written_count e a text t stands out h)

  pub nine_told : length out < length (normal_text_in e t) → said_of (write_answer e (tree_of a text) (length out)) ≡ row 9 79 0
  unfolding said_of output_too_short
  nine_told h = ap said_of (too_short e a text t stands out h)

real_lack : (o : Option (List ℕ)) (n : ℕ) (r : Refusal) → text_answer o n ≡ Err (Refused r) → Lack o n r
unfolding text_answer
real_lack none n r e = let z : ◌≡◌ {A = ℕ} 0 1 = cc in absurd (omega arith)
real_lack (some x) n r e = go (bool_cases (leb (length x) n))
  where
    go : (leb (length x) n ≡ true) ⊎ (leb (length x) n ≡ false) → Lack (some x) n r
    go (inl h) =
        let d : Ok (length x) ≡ Err (Refused r) = rw h at e in
        let z : ◌≡◌ {A = ℕ} 0 1 = cc in
        absurd (omega arith)
    go (inr h) =
        let d : Err (Refused output_too_short) ≡ Err (Refused r) = rw h at e in
        record { text = x; belongs = refl; longer = leb-false (length x) n h; told = cc }

pub lacking_text : (e : Edition) (s : Standing) (n : ℕ) (r : Refusal) → write_answer e s n ≡ Err (Refused r) → Lack (standing_text e s) n r
unfolding write_answer
lacking_text e s n r h = real_lack (standing_text e s) n r h

-- arrays that stand for no leaf and for no tree
module _ (e : Edition) (out : List ℕ) where
  empty_done : Done e no_leaf out (Ok 0) out
  unfolding standing_text
  empty_done = done_as e no_leaf (some []) out (Ok 0) out refl (done_empty out)

  none_done : Done e no_tree out (Err NoTree) out
  unfolding standing_text
  none_done = done_as e no_tree none out (Err NoTree) out refl (done_none out)

  pub empty_told : (said_of (write_answer e no_leaf (length out)) ≡ value (some 0)) × (output_after e no_leaf out ≡ out)
  unfolding said_of
  empty_told = (ap said_of (sym empty_done.0), sym empty_done.1)

  pub none_told : (said_of (write_answer e no_tree (length out)) ≡ value none) × (output_after e no_tree out ≡ out)
  unfolding said_of
  none_told = (ap said_of (sym none_done.0), sym none_done.1)

-- ---- texts of trees

-- the arrays of a valid tree are written as its normal text
pub tree_text : (e : Edition) (t : Tree) → ValidIn e t → standing_text e (tree_of (arrays_of t) (text_of t)) ≡ some (normal_text_in e t)
unfolding standing_text
tree_text e t v = ap (standing_text e) (stands t (valid_spelled e t v))

-- "reading it gives the tree again": what was read from a normal text is written as the same bytes
pub text_again : (e : Edition) (t : Tree) → ValidIn e t
    → standing_text e (tree_of (arrays_of (normal_tree e t)) (normal_text_in e t)) ≡ some (normal_text_in e t)
unfolding normal_text_in
text_again e t v = tree_text e (normal_tree e t) (normal_tree_valid e t v) ∙ ap some (normal_text_twice e t v)

-- trees that the edition reads as equal are written as texts that it reads as equal
pub text_alike : (e : Edition) (s t : Tree) → ValidIn e s → Same (keyed e s) (keyed e t)
    → map (in_edition e) (standing_text e (one_tree s)) ≡ map (in_edition e) (standing_text e (one_tree t))
unfolding standing_text
text_alike e s t v p = ap some (one_text_in e s t v p)

pub edition_texts : EditionTexts
unfolding standing_text normal_text_in fold_byte label_less spelling token_of bytes_of decoded
edition_texts = record { by_first = refl; by_second = refl }

-- by edition 1 it is the normal text of what the tokens stand for, so trees that stand for equal ones are written as the same bytes
pub one_standing : (t : Tree) → standing_text One (one_tree t) ≡ some (normal_text (decoded t))
unfolding standing_text
one_standing t = ap some (one_normal t)

pub one_text : (s t : Tree) → Valid s → Same (decoded s) (decoded t) → standing_text One (one_tree s) ≡ standing_text One (one_tree t)
one_text s t v p =
    one_standing s ∙ ap some (one_normal_text (decoded s) (decoded t) (valid_decoded s v) p) ∙ sym (one_standing t)
