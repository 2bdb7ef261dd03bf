-- A tree text read by an edition: the reading of the text as the edition reads it, its labels as they stand. Assumes nothing.
use Prim.Native.Nat.{ℕ, suc}
use mathlib.Core.Path.{◌≡◌, refl, sym, ◌∙◌, ap, ap₂}
use mathlib.Core.List.{List}
use lib.ListN.{length}
use Rattle.trees.specs.declared.Edition.{Edition}
use Rattle.trees.specs.declared.Edition.TheVariants.{One}
use Rattle.trees.specs.declared.Reason.{Reason}
use Rattle.trees.specs.declared.Body.{Body}
use Rattle.trees.specs.declared.TreeArrays.{TreeArrays}
use Rattle.trees.specs.Tree.{Tree, leaves}
use Rattle.trees.specs.Text.{text_of}
use Rattle.trees.specs.Edition.{in_edition, folded, ValidIn, normal_text_in}
use Rattle.trees.specs.Reading.{Reading, good, refused}
use Rattle.trees.specs.Bytes.{open_byte}
use Rattle.trees.specs.Faults.{Fault, occurrences}
use Rattle.trees.proofs.FoldLaws.{one_itself}
use Rattle.trees.proofs.EditionLaws.{folded_count, valid_folded, folded_valid, valid_spelled, text_folded, arrays_folded, unfold_text}
use Rattle.trees.proofs.EditionLaws.{normal_tree, normal_tree_valid}
use Rattle.trees.proofs.StandsLaws.{ReadView, read_as, turned_as, stands_good, stands_refused, stands_alike, view_is, view_folded, view_refused, view_told}
use Rattle.std.specs.Prelude.{Ok}
use Rattle.newick.specs.declared.TreeRead.{TreeRead}
use Rattle.newick.specs.ReadTree.{read_tree, read_tree_in, tree_read}
use Rattle.newick.specs.Grammar.{TreeText, OpenCrowd, TreeFault}
use Rattle.newick.proofs.Accepts.{reads, accepts, accepted_opens}
use Rattle.newick.proofs.TreeFaults.{refusal, accepted_clean, fault_refused}

module _ (e : Edition) where
  -- the tree whose text it is
  abbrev pub ReadsAs : List ℕ → Tree → Type 0
  ReadsAs text t = (text ≡ text_of t) × ValidIn e t

  abbrev View : List ℕ → Type 0
  View text = ReadView (folded e) (ReadsAs text) (read_tree (in_edition e text)) (read_tree text)

  view : (text : List ℕ) → View text
  view text = go (read_tree (in_edition e text)) refl
    where
      spelled : (t : Tree) → text ≡ text_of t → ValidIn e t → read_tree text ≡ good t
      spelled t i v = ap read_tree i ∙ reads t (valid_spelled e t v)

      go : (w : Reading Tree) → read_tree (in_edition e text) ≡ w → View text
      go (good s) h =
          let a = accepts (in_edition e text) s h in
          let u = unfold_text e s text a.0 in
          let v = folded_valid e u.tree (rw u.folds a.1) in
          read_as u.tree (h ∙ ap good (sym u.folds)) (spelled u.tree u.is v) (u.is, v)
      go (refused r i) h = turned_as r i h

  pub accepts_in : (text : List ℕ) (t : Tree) → read_tree_in e text ≡ good t → ReadsAs text t
  unfolding read_tree_in
  accepts_in text t h = view_is (folded e) (ReadsAs text) (read_tree (in_edition e text)) (read_tree text) (view text) t h

  pub reads_in : (t : Tree) → ValidIn e t → read_tree_in e (text_of t) ≡ good t
  unfolding read_tree_in
  reads_in t v =
      stands_good t (folded e t) (read_tree (in_edition e (text_of t))) (read_tree (text_of t))
      (ap read_tree (sym (text_folded e t)) ∙ reads (folded e t) (valid_folded e t v)) (reads t (valid_spelled e t v))

  -- as the edition reads it
  pub folded_read : (text : List ℕ) (t : Tree) → read_tree_in e text ≡ good t → read_tree (in_edition e text) ≡ good (folded e t)
  unfolding read_tree_in
  folded_read text t h = view_folded (folded e) (ReadsAs text) (read_tree (in_edition e text)) (read_tree text) (view text) t h

  pub folded_refused : (text : List ℕ) (r : Reason) (i : ℕ) → read_tree_in e text ≡ refused r i → read_tree (in_edition e text) ≡ refused r i
  unfolding read_tree_in
  folded_refused text r i h =
      view_refused (folded e) (ReadsAs text) (read_tree (in_edition e text)) (read_tree text) (view text) r i h

  -- the answer is that of the text as the edition reads it
  pub answer_in : (body : Body) (text : List ℕ) → tree_read body (read_tree (in_edition e text)) ≡ tree_read body (read_tree_in e text)
  unfolding read_tree_in tree_read
  answer_in body text =
      sym (view_told (folded e) (ReadsAs text) (read_tree (in_edition e text)) (read_tree text) (view text) (tree_read body) same)
    where
      same : (t : Tree) → tree_read body (good (folded e t)) ≡ tree_read body (good t)
      same t =
          ap₂ {C = TreeRead} (λ (n : ℕ) (a : TreeArrays). record { answer = Ok n; tree = a }) (folded_count e t) (arrays_folded e t)

  pub refusal_in : (text : List ℕ) (r : Reason) (i : ℕ) → read_tree_in e text ≡ refused r i → TreeFault (in_edition e text) r i
  refusal_in text r i h = refusal (in_edition e text) r i (folded_refused text r i h)

  pub fault_refused_in : (text : List ℕ) (r : Reason) (i : ℕ) → TreeFault (in_edition e text) r i → read_tree_in e text ≡ refused r i
  unfolding read_tree_in
  fault_refused_in text r i f =
      stands_refused r i (read_tree (in_edition e text)) (read_tree text) (fault_refused (in_edition e text) r i f)

  pub accepted_clean_in : (text : List ℕ) (t : Tree) → read_tree_in e text ≡ good t → (q : Reason) (j : ℕ)
      → Fault TreeText OpenCrowd (in_edition e text) q j → ⊥
  accepted_clean_in text t h = accepted_clean (in_edition e text) (folded e t) (folded_read text t h)

  -- the text is that of a tree that is valid as it is spelled
  pub opens_in : (text : List ℕ) (t : Tree) → read_tree_in e text ≡ good t → length (leaves t) ≡ suc (occurrences open_byte text)
  opens_in text t h =
      let a = accepts_in text t h in
      accepted_opens text t (ap read_tree a.0 ∙ reads t (valid_spelled e t a.1))

  -- the return trip
  pub normal_read_in : (t : Tree) → ValidIn e t → read_tree_in e (normal_text_in e t) ≡ good (normal_tree e t)
  unfolding normal_text_in
  normal_read_in t v = reads_in (normal_tree e t) (normal_tree_valid e t v)

-- edition 1 reads as before
pub one_reads : (text : List ℕ) → read_tree_in One text ≡ read_tree text
unfolding read_tree_in
one_reads text = rw (one_itself text) (stands_alike (read_tree text))
