-- Tree arrays that agree on the entries below a number have the same nodes and trees there. Assumes nothing.
use Prim.Native.Nat.{ℕ, ◌<◌}
use mathlib.Core.Path.{◌≡◌, refl, sym, ◌∙◌, ap, ap₂}
use mathlib.Core.Bool.{true}
use mathlib.Core.List.{List}
use lib.ListN.{get_or}
use Rattle.trees.specs.declared.TreeArrays.{TreeArrays}
use Rattle.trees.specs.Tree.{leaf, node}
use Rattle.trees.specs.Arrays.{is_leaf, label_at, good_node, good_nodes, tree_at}
use Rattle.trees.proofs.ArrayLaws.{tree_at_leaf, tree_at_node}
use Rattle.restriction.proofs.KeptLaws.{by_rooms}

pub record SameAt (a b : TreeArrays) (v : ℕ) : Type 0 where
  pub left : get_or a.left v 0 ≡ get_or b.left v 0
  pub right : get_or a.right v 0 ≡ get_or b.right v 0
  pub start : get_or a.start v 0 ≡ get_or b.start v 0
  pub size : get_or a.size v 0 ≡ get_or b.size v 0

pub same_back : {a b : TreeArrays} {v : ℕ} → SameAt a b v → SameAt b a v
same_back s = record { left = sym s.left; right = sym s.right; start = sym s.start; size = sym s.size }

pub same_through : {a b c : TreeArrays} {v : ℕ} → SameAt a b v → SameAt b c v → SameAt a c v
same_through s t =
    record { left = s.left ∙ t.left; right = s.right ∙ t.right; start = s.start ∙ t.start; size = s.size ∙ t.size }

module _ (a b : TreeArrays) (v : ℕ) (s : SameAt a b v) where
  pub same_leaf_test : is_leaf a v ≡ is_leaf b v
  unfolding is_leaf
  same_leaf_test = rw s.left refl

  pub same_label_at : (text : List ℕ) → label_at a text v ≡ label_at b text v
  unfolding label_at
  same_label_at text = rw (s.start, s.size) refl

  pub same_good : (text : List ℕ) → good_node a text v ≡ good_node b text v
  unfolding good_node is_leaf label_at
  same_good text = rw (s.left, s.right, s.start, s.size) refl

pub same_trees : (a b : TreeArrays) (text : List ℕ) → good_nodes a text a.nodes ≡ true → ((v : ℕ) → v < a.nodes → SameAt a b v)
    → (r v : ℕ) → v < a.nodes → v < r → tree_at r a text v ≡ tree_at r b text v
same_trees a b text good same =
    by_rooms a text good (λ r v. tree_at r a text v ≡ tree_at r b text v)
    (λ r v h e.
    tree_at_leaf r a text v e ∙ ap leaf (same_label_at a b v (same v h) text)
    ∙ sym (tree_at_leaf r b text v (sym (same_leaf_test a b v (same v h)) ∙ e)))
    (λ r v h e c p q.
    tree_at_node r a text v e
    ∙ ap₂ node (p ∙ ap (tree_at r b text) (same v h).left) (q ∙ ap (tree_at r b text) (same v h).right)
    ∙ sym (tree_at_node r b text v (sym (same_leaf_test a b v (same v h)) ∙ e)))
