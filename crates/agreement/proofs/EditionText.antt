-- Restriction, its text and printed labels by an edition: what is left of a tree of tokens has the keys that are left, the restrictions
-- of two trees have one text up to spelling, and the first tree's spelling of a key has that key. Assumes nothing.
use Prim.Native.Nat.{ℕ}
use mathlib.Core.Path.{◌≡◌, refl, sym, ◌∙◌, ap, ap₂}
use mathlib.Core.Bool.{Bool, true, false, cond}
use mathlib.Core.List.{List, [], ◌∷◌}
use mathlib.Core.Option.{Option, some, none, map}
use native.Mathlib.Omega.{arith}
use lib.ListN.{length}
use Rattle.trees.specs.declared.Edition.{Edition}
use Rattle.trees.specs.declared.Edition.TheVariants.{One}
use Rattle.trees.specs.Label.{Label}
use Rattle.trees.specs.Token.{Token, spelling, token_of, good_label, good_labels}
use Rattle.trees.specs.Tree.{Tree, leaf, node, leaves, relabel, decoded}
use Rattle.trees.specs.Text.{text_of}
use Rattle.trees.specs.Stored.{part_of}
use Rattle.trees.specs.Edition.{in_edition, key, folded, keyed, ValidIn, normal_text_in}
use Rattle.trees.specs.Reading.{good}
use Rattle.trees.proofs.AmongLaws.{part_here}
use Rattle.trees.proofs.FoldLaws.{fold_size, good_fold, one_itself}
use Rattle.trees.proofs.EditionLaws.{normal_text_folded, valid_folded, normal_tree}
use Rattle.trees.proofs.ListLaws.{good_head, good_cons}
use Rattle.trees.proofs.RelabelLaws.{relabel_twice}
use Rattle.newick.specs.ReadTree.{read_tree_in}
use Rattle.newick.proofs.EditionReads.{normal_read_in}
use Rattle.agreement.specs.Closer.{holds, Agree, Common}
use Rattle.agreement.specs.Restrict.{join_kept, restrict, restrict_in, keyed_kept}
use Rattle.agreement.specs.Sets.{keep}
use Rattle.agreement.specs.Places.{place_in, token_in, LeafShown, kept_text_in, spelled_in, name_in, printed_in}
use Rattle.agreement.proofs.PlaceLaws.{leaf_by, leaf_folded, leaf_shown, token_spelled, token_good}
use Rattle.agreement.proofs.SetLaws.{keep_few}
use Rattle.agreement.proofs.RestrictLaws.{kept_leaves, restrict_leaves, restrict_distinct}
use Rattle.agreement.proofs.RestrictText.{kept_text, one_text}

-- ---- restriction and other labels

leaf_relabelled : (f : Label → Label) (x : Label) (b : Bool)
    → map (relabel f) (cond b (some (leaf x)) none) ≡ cond b (some (leaf (f x))) none
unfolding relabel
leaf_relabelled f x true = refl
leaf_relabelled f x false = refl

join_relabelled : (f : Label → Label) (o p : Option Tree)
    → map (relabel f) (join_kept o p) ≡ join_kept (map (relabel f) o) (map (relabel f) p)
unfolding relabel join_kept
join_relabelled f none none = refl
join_relabelled f none (some q) = refl
join_relabelled f (some p) none = refl
join_relabelled f (some p) (some q) = refl

restrict_relabel : (f : Label → Label) (X : Label → Bool) (t : Tree)
    → map (relabel f) (restrict (λ (y : Label). X (f y)) t) ≡ restrict X (relabel f t)
unfolding relabel restrict
restrict_relabel f X (leaf x) = leaf_relabelled f x (X (f x))
restrict_relabel f X (node a b) =
    join_relabelled f (restrict (λ (y : Label). X (f y)) a) (restrict (λ (y : Label). X (f y)) b)
    ∙ ap₂ join_kept (restrict_relabel f X a) (restrict_relabel f X b)

module _ (e : Edition) where
  keyed_relabel : (t : Tree) → keyed e t ≡ relabel (key e) t
  unfolding decoded
  keyed_relabel t = relabel_twice spelling (in_edition e) t

  kept_map : (o : Option Tree) → keyed_kept e o ≡ map (relabel (key e)) o
  unfolding keyed_kept
  kept_map none = refl
  kept_map (some t) = ap some (keyed_relabel t)

  -- what is left of a tree of tokens has the keys that are left of the tree of keys
  pub restrict_keyed : (X : Label → Bool) (t : Tree) → keyed_kept e (restrict_in e X t) ≡ restrict X (keyed e t)
  restrict_keyed X t =
      kept_map (restrict_in e X t) ∙ restrict_relabel (key e) X t ∙ ap (restrict X) (sym (keyed_relabel t))

  -- ---- the text of what is left

  pub kept_text_folded : (o : Option Tree) → in_edition e (kept_text_in e o) ≡ kept_text (keyed_kept e o)
  unfolding kept_text_in kept_text keyed_kept
  kept_text_folded none = refl
  kept_text_folded (some t) = normal_text_folded e t

  -- as the edition reads it, the text is that of the restricted tree of keys
  pub restriction_folded : (X : Label → Bool) (t : Tree) → in_edition e (kept_text_in e (restrict_in e X t)) ≡ kept_text (restrict X (keyed e t))
  restriction_folded X t = kept_text_folded (restrict_in e X t) ∙ ap kept_text (restrict_keyed X t)

  pub one_text_in : (s t : Tree) (X : Label → Bool) → ValidIn e s → ValidIn e t → Common (keyed e s) (keyed e t) X
      → Agree (keyed e s) (keyed e t) X
      → in_edition e (kept_text_in e (restrict_in e X s)) ≡ in_edition e (kept_text_in e (restrict_in e X t))
  one_text_in s t X v w m g =
      restriction_folded X s ∙ one_text (keyed e s) (keyed e t) X v.different w.different m g ∙ sym (restriction_folded X t)

  -- what is left of a valid tree is valid
  keep_good : (P : Token → Bool) (xs : List Token) → good_labels xs ≡ true → good_labels (keep P xs) ≡ true
  unfolding keep
  keep_good P [] h = h
  keep_good P (x ∷ xs) h = go (keep_good P xs (good_head x xs h).1) (P x)
    where
      go : good_labels (keep P xs) ≡ true → (b : Bool) → good_labels (cond b (x ∷ keep P xs) (keep P xs)) ≡ true
      go k true = good_cons x (keep P xs) (good_head x xs h).0 k
      go k false = k

  some_inj : (r : Tree) (o : Option Tree) → keyed_kept e (some r) ≡ o → some (keyed e r) ≡ o
  unfolding keyed_kept
  some_inj r o h = h

  pub restrict_valid : (X : Label → Bool) (t r : Tree) → ValidIn e t → restrict_in e X t ≡ some r → ValidIn e r
  unfolding kept_leaves
  restrict_valid X t r v h =
      let d : leaves r ≡ keep (λ (y : Token). X (key e y)) (leaves t) = ap kept_leaves (sym h) ∙ restrict_leaves (λ (y : Token). X (key e y)) t in
      let k = some_inj r (restrict X (keyed e t)) (ap (keyed_kept e) (sym h) ∙ restrict_keyed X t) in
      record {
        labels = rw d (keep_good (λ (y : Token). X (key e y)) (leaves t) v.labels);
        different = restrict_distinct X (keyed e t) (keyed e r) (sym k) v.different;
        few = rw d (omega (arith, keep_few (λ (y : Token). X (key e y)) (leaves t), v.few));
      }

  pub kept_none_in : (X : Label → Bool) (t : Tree) → restrict_in e X t ≡ none → kept_text_in e (restrict_in e X t) ≡ []
  unfolding kept_text_in
  kept_none_in X t h = ap (kept_text_in e) h

  pub kept_some_in : (X : Label → Bool) (t r : Tree) → restrict_in e X t ≡ some r → kept_text_in e (restrict_in e X t) ≡ normal_text_in e r
  unfolding kept_text_in
  kept_some_in X t r h = ap (kept_text_in e) h

  pub kept_read_in : (X : Label → Bool) (t r : Tree) → ValidIn e t → restrict_in e X t ≡ some r
      → read_tree_in e (kept_text_in e (restrict_in e X t)) ≡ good (normal_tree e r)
  kept_read_in X t r v h = ap (read_tree_in e) (kept_some_in X t r h) ∙ normal_read_in e r (restrict_valid X t r v h)

  -- ---- printed labels

  -- the part of the text is the leaf with the key
  pub spelled_leaf : (t : Tree) (x : Label) → spelled_in e t x ≡ leaf_by e t x
  unfolding spelled_in
  spelled_leaf t x =
      let w = (leaf_shown e t x).shown in
      let n : length (token_in (folded e t) x) ≡ length (leaf_by e t x) = ap length (sym (leaf_folded e t x)) ∙ fold_size e (leaf_by e t x) in
      ap (λ (k : ℕ). part_of (place_in (folded e t) 0 x) k (text_of t)) n ∙ ap (part_of (place_in (folded e t) 0 x) (length (leaf_by e t x))) w.is
      ∙ part_here w.before (leaf_by e t x) w.after (place_in (folded e t) 0 x) w.place

  -- as the edition reads it, it is the leaf's token as it reads that
  spelled_folded : (t : Tree) (x : Label) → in_edition e (spelled_in e t x) ≡ token_in (folded e t) x
  spelled_folded t x = ap (in_edition e) (spelled_leaf t x) ∙ leaf_folded e t x

  -- it stands in the text as a whole leaf
  pub spelled_shown : (t : Tree) (x : Label) → LeafShown (text_of t) (place_in (folded e t) 0 x) (spelled_in e t x)
  spelled_shown t x = rw (spelled_leaf t x) (leaf_shown e t x)

  pub spelled_size : (t : Tree) (x : Label) → length (spelled_in e t x) ≡ length (token_in (folded e t) x)
  spelled_size t x = sym (fold_size e (spelled_in e t x)) ∙ ap length (spelled_folded t x)

  -- "Labels are printed as the first tree spells them": the leaf has that key
  pub spelled_key : (t : Tree) (x : Label) → holds (keyed e t) x ≡ true → key e (spelled_in e t x) ≡ x
  spelled_key t x h = ap spelling (spelled_folded t x) ∙ token_spelled (folded e t) x h

  pub spelled_good : (t : Tree) (x : Label) → ValidIn e t → good_label (spelled_in e t x) ≡ true
  spelled_good t x v =
      sym (good_fold e (spelled_in e t x)) ∙ ap good_label (spelled_folded t x) ∙ token_good (folded e t) x (valid_folded e t v).labels

-- under edition 1 texts that are read alike are the same bytes
pub one_same : (x y : List ℕ) → in_edition One x ≡ in_edition One y → x ≡ y
one_same x y h = sym (one_itself x) ∙ h ∙ one_itself y

-- and a label is its own name, printed as it is
pub name_one : (t : Tree) (x : Label) → holds (keyed One t) x ≡ true → name_in One t x ≡ x
name_one t x h = sym (ap spelling (one_itself (spelled_in One t x))) ∙ spelled_key One t x h

pub printed_one : (t : Tree) (x : Label) → holds (keyed One t) x ≡ true → printed_in One t x ≡ token_of x
printed_one t x h = ap token_of (name_one t x h)
