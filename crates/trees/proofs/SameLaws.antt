-- Equal trees: an equivalence that keeps membership, number, distinctness and goodness of labels. Assumes nothing.
use Prim.Native.Nat.{◌+◌}
use mathlib.Core.Path.{◌≡◌, refl, sym, ◌∙◌, ap₂}
use mathlib.Core.Bool.{Bool, true, false, ◌&&◌, ◌||◌, and_comm}
use mathlib.Core.List.{List, ◌++◌}
use native.Mathlib.Nat.{add_comm}
use lib.ListN.{length, length-append}
use Rattle.trees.specs.Label.{Label, is_in, distinct}
use Rattle.trees.specs.Token.{spelling, good_labels}
use Rattle.trees.specs.Tree.{Tree, leaf, node, leaves, decoded, Same, same_leaf, straight, crossed}
use Rattle.trees.proofs.RelabelLaws.{relabel_same}
use Rattle.trees.proofs.ListLaws.{in_append, good_append, Apart}
use Rattle.trees.proofs.ListLaws.{distinct_left, distinct_right, distinct_apart, distinct_append, distinct_flip}

or_comm : (a b : Bool) → (a || b) ≡ (b || a)
or_comm true true = refl
or_comm true false = refl
or_comm false true = refl
or_comm false false = refl

-- an equivalence
pub tree_refl : (t : Tree) → Same t t
tree_refl (leaf x) = same_leaf
tree_refl (node a b) = straight (tree_refl a) (tree_refl b)

pub tree_sym : {s t : Tree} → Same s t → Same t s
tree_sym same_leaf = same_leaf
tree_sym (straight p q) = straight (tree_sym p) (tree_sym q)
tree_sym (crossed p q) = crossed (tree_sym q) (tree_sym p)

pub tree_trans : {s t u : Tree} → Same s t → Same t u → Same s u
tree_trans same_leaf same_leaf = same_leaf
tree_trans (straight p q) (straight r s) = straight (tree_trans p r) (tree_trans q s)
tree_trans (straight p q) (crossed r s) = crossed (tree_trans p r) (tree_trans q s)
tree_trans (crossed p q) (straight r s) = crossed (tree_trans p s) (tree_trans q r)
tree_trans (crossed p q) (crossed r s) = straight (tree_trans p s) (tree_trans q r)

-- what joins by an operation that commutes is the same of equal trees
pub same_joined : {A : Type 0} (op : A → A → A) (f : List Label → A) → ((a b : A) → op a b ≡ op b a)
    → ((xs ys : List Label) → f (xs ++ ys) ≡ op (f xs) (f ys)) → {s t : Tree} → Same s t → f (leaves s) ≡ f (leaves t)
unfolding leaves
same_joined op f comm joins same_leaf = refl
same_joined op f comm joins (straight {a} {b} {c} {d} p q) =
    joins (leaves a) (leaves b) ∙ ap₂ op (same_joined op f comm joins p) (same_joined op f comm joins q)
    ∙ sym (joins (leaves c) (leaves d))
same_joined op f comm joins (crossed {a} {b} {c} {d} p q) =
    joins (leaves a) (leaves b) ∙ ap₂ op (same_joined op f comm joins p) (same_joined op f comm joins q)
    ∙ comm (f (leaves d)) (f (leaves c)) ∙ sym (joins (leaves c) (leaves d))

pub same_in : {s t : Tree} → Same s t → (x : Label) → is_in x (leaves s) ≡ is_in x (leaves t)
same_in p x = same_joined ◌||◌ (is_in x) or_comm (in_append x) p

pub same_length : {s t : Tree} → Same s t → length (leaves s) ≡ length (leaves t)
same_length p = same_joined ◌+◌ length add_comm length-append p

pub same_good : {s t : Tree} → Same s t → good_labels (leaves s) ≡ good_labels (leaves t)
same_good p = same_joined ◌&&◌ good_labels and_comm good_append p

-- the children of equal trees share no label
distinct_kept : {a b c d : Tree} → Same a c → Same b d → distinct (leaves c) ≡ true → distinct (leaves d) ≡ true
    → distinct (leaves a ++ leaves b) ≡ true → distinct (leaves c ++ leaves d) ≡ true
distinct_kept {a} {b} {c} {d} p q h k both = distinct_append (leaves c) (leaves d) h k apart
  where
    apart : Apart (leaves c) (leaves d)
    apart x m = sym (same_in q x) ∙ distinct_apart (leaves a) (leaves b) both x (same_in p x ∙ m)

pub same_distinct : {s t : Tree} → Same s t → distinct (leaves s) ≡ true → distinct (leaves t) ≡ true
unfolding leaves
same_distinct same_leaf h = h
same_distinct (straight {a} {b} p q) h =
    distinct_kept p q (same_distinct p (distinct_left (leaves a) (leaves b) h))
    (same_distinct q (distinct_right (leaves a) (leaves b) h)) h
same_distinct (crossed {a} {b} {c} {d} p q) h =
    distinct_flip (leaves d) (leaves c)
    (distinct_kept p q (same_distinct p (distinct_left (leaves a) (leaves b) h))
    (same_distinct q (distinct_right (leaves a) (leaves b) h)) h)

pub same_decoded : {s t : Tree} → Same s t → Same (decoded s) (decoded t)
unfolding decoded
same_decoded p = relabel_same spelling p
