-- Equal trees of tokens spell a key alike, and what is left of them has one text. Assumes nothing.
use mathlib.Core.Path.{◌≡◌, refl, sym, ◌∙◌, ap}
use mathlib.Core.Bool.{Bool, true, false, cond}
use mathlib.Core.Logic.{◌⊎◌, inl, inr}
use mathlib.Core.Option.{Option, some, none}
use Rattle.trees.specs.declared.Edition.{Edition}
use Rattle.trees.specs.Label.{Label, label_less, distinct}
use Rattle.trees.specs.Token.{Token}
use Rattle.trees.specs.Tree.{Tree, leaf, node, leaves, relabel, Same, same_leaf, straight, crossed, smallest}
use Rattle.trees.specs.Text.{text_of}
use Rattle.trees.specs.Edition.{in_edition, key, folded, keyed, ValidIn, normal_in, rewritten, normal_text_in}
use Rattle.trees.proofs.Bools.{bool_cases}
use Rattle.trees.proofs.LabelLaws.{less_asym, not_less}
use Rattle.trees.proofs.EditionLaws.{keyed_node}
use Rattle.trees.proofs.NormalLaws.{same_smallest, smallest_differ}
use Rattle.trees.proofs.RelabelLaws.{relabel_same}
use Rattle.trees.proofs.SameLaws.{same_decoded, same_distinct, same_good, same_length}
use Rattle.agreement.specs.Closer.{holds}
use Rattle.agreement.specs.Restrict.{restrict, restrict_in, keyed_kept}
use Rattle.agreement.specs.SameKept.{SameKept, both_none, both_some}
use Rattle.agreement.specs.Places.{kept_text_in, spelled_in}
use Rattle.agreement.proofs.HoldsLaws.{Joined, distinct_node}
use Rattle.agreement.proofs.PlaceLaws.{leaf_by, held_second}
use Rattle.agreement.proofs.RestrictLaws.{restrict_distinct}
use Rattle.agreement.proofs.EditionText.{restrict_keyed, spelled_leaf}
use Rattle.agreement.proofs.SameLaws.{same_holds, join_straight, join_crossed}

-- equal trees restricted to a set
pub same_kept : (P : Label → Bool) {s t : Tree} → Same s t → SameKept (restrict P s) (restrict P t)
unfolding restrict
same_kept P (same_leaf {x}) = go (P x)
  where
    go : (b : Bool) → SameKept (cond b (some (leaf x)) none) (cond b (some (leaf x)) none)
    go true = both_some same_leaf
    go false = both_none
same_kept P (straight p q) = join_straight (same_kept P p) (same_kept P q)
same_kept P (crossed p q) = join_crossed (same_kept P p) (same_kept P q)

module _ (e : Edition) where
  pub same_keyed : {s t : Tree} → Same s t → Same (keyed e s) (keyed e t)
  same_keyed p = same_decoded (relabel_same (in_edition e) p)

  -- a tree that is equal to a valid one is valid
  pub valid_same : {s t : Tree} → Same s t → ValidIn e s → ValidIn e t
  valid_same p v = record {
    labels = sym (same_good p) ∙ v.labels;
    different = same_distinct (same_keyed p) v.different;
    few = rw (same_length p) at v.few;
  }

  -- ---- the normal form

  joined_keys : (a b : Tree) → distinct (leaves (keyed e (node a b))) ≡ true → Joined (leaves (keyed e a)) (leaves (keyed e b))
  joined_keys a b d = distinct_node (keyed e a) (keyed e b) (rw (keyed_node e a b) at d)

  normal_node : {a b c d : Tree} → Same a c → Same b d → normal_in e a ≡ normal_in e c → normal_in e b ≡ normal_in e d
      → normal_in e (node a b) ≡ normal_in e (node c d)
  unfolding normal_in
  normal_node p q f g = rw (same_smallest (same_keyed p), same_smallest (same_keyed q), f, g)

  normal_flip : (a b : Tree) → (smallest (keyed e a) ≡ smallest (keyed e b) → ⊥) → normal_in e (node a b) ≡ normal_in e (node b a)
  unfolding normal_in
  normal_flip a b n = go (bool_cases (label_less (smallest (keyed e a)) (smallest (keyed e b))))
    where
      go : (label_less (smallest (keyed e a)) (smallest (keyed e b)) ≡ true) ⊎ (label_less (smallest (keyed e a)) (smallest (keyed e b)) ≡ false)
          → normal_in e (node a b) ≡ normal_in e (node b a)
      go (inl h) = rw (h, less_asym (smallest (keyed e a)) (smallest (keyed e b)) h)
      go (inr h) = rw (h, not_less (smallest (keyed e a)) (smallest (keyed e b)) h n)

  normal_same : {s t : Tree} → Same s t → distinct (leaves (keyed e s)) ≡ true → normal_in e s ≡ normal_in e t
  normal_same same_leaf d = refl
  normal_same (straight {a} {b} p q) d =
      normal_node p q (normal_same p (joined_keys a b d).one) (normal_same q (joined_keys a b d).two)
  normal_same (crossed {a} {b} {c} {d} p q) k =
      normal_node p q (normal_same p (joined_keys a b k).one) (normal_same q (joined_keys a b k).two)
      ∙ normal_flip d c (smallest_differ (keyed e d) (keyed e c) (same_distinct (straight (same_keyed p) (same_keyed q)) (rw (keyed_node e a b) at k)))

  normal_text_same : {s t : Tree} → Same s t → distinct (leaves (keyed e s)) ≡ true → normal_text_in e s ≡ normal_text_in e t
  unfolding normal_text_in
  normal_text_same p d = ap (λ (u : Tree). text_of (relabel rewritten u)) (normal_same p d)

  -- what is left of equal trees has one text
  pub kept_text_same : {s t : Tree} → Same s t → distinct (leaves (keyed e s)) ≡ true → (X : Label → Bool)
      → kept_text_in e (restrict_in e X s) ≡ kept_text_in e (restrict_in e X t)
  unfolding kept_text_in keyed_kept
  kept_text_same {s} {t} alike d X = go (same_kept (λ (y : Token). X (key e y)) alike) refl
    where
      go : {o u : Option Tree} → SameKept o u → restrict_in e X s ≡ o → kept_text_in e o ≡ kept_text_in e u
      go both_none h = refl
      go (both_some {p} k) h =
          normal_text_same k (restrict_distinct X (keyed e s) (keyed e p) (sym (restrict_keyed e X s) ∙ ap (keyed_kept e) h) d)

  -- ---- the spelling of a key

  -- a key that a node holds is held by one of its children
  one_child : (a b : Tree) (x : Label) → holds (keyed e (node a b)) x ≡ true → holds (keyed e a) x ≡ false → holds (keyed e b) x ≡ true
  unfolding relabel
  one_child a b = held_second (folded e a) (folded e b)

  leaf_same : {s t : Tree} → Same s t → distinct (leaves (keyed e s)) ≡ true → (x : Label) → holds (keyed e s) x ≡ true
      → leaf_by e s x ≡ leaf_by e t x
  unfolding leaf_by holds
  leaf_same same_leaf d x h = refl
  leaf_same (straight {a} {b} {c} {d} p q) k x h =
      go (bool_cases (holds (keyed e a) x)) (leaf_same p (joined_keys a b k).one x) (leaf_same q (joined_keys a b k).two x)
    where
      go : (holds (keyed e a) x ≡ true) ⊎ (holds (keyed e a) x ≡ false) → (holds (keyed e a) x ≡ true → leaf_by e a x ≡ leaf_by e c x)
          → (holds (keyed e b) x ≡ true → leaf_by e b x ≡ leaf_by e d x) → leaf_by e (node a b) x ≡ leaf_by e (node c d) x
      go (inl m) f g = rw (m, sym (same_holds (same_keyed p) x) ∙ m) (f m)
      go (inr m) f g = rw (m, sym (same_holds (same_keyed p) x) ∙ m) (g (one_child a b x h m))
  leaf_same (crossed {a} {b} {c} {d} p q) k x h =
      go (bool_cases (holds (keyed e a) x)) (leaf_same p (joined_keys a b k).one x) (leaf_same q (joined_keys a b k).two x)
    where
      go : (holds (keyed e a) x ≡ true) ⊎ (holds (keyed e a) x ≡ false) → (holds (keyed e a) x ≡ true → leaf_by e a x ≡ leaf_by e d x)
          → (holds (keyed e b) x ≡ true → leaf_by e b x ≡ leaf_by e c x) → leaf_by e (node a b) x ≡ leaf_by e (node c d) x
      go (inl m) f g = rw (m, sym (same_holds (same_keyed q) x) ∙ (joined_keys a b k).apart x m) (f m)
      go (inr m) f g = rw (m, sym (same_holds (same_keyed q) x) ∙ one_child a b x h m) (g (one_child a b x h m))

  -- equal trees spell a key that they hold alike
  pub spelled_same : {s t : Tree} → Same s t → distinct (leaves (keyed e s)) ≡ true → (x : Label) → holds (keyed e s) x ≡ true
      → spelled_in e s x ≡ spelled_in e t x
  spelled_same {s} {t} p d x h = spelled_leaf e s x ∙ leaf_same p d x h ∙ sym (spelled_leaf e t x)
