-- Rooted binary trees with labelled leaves, and when two of them are equal. 01, "Tree text". A tree that was read has tokens for labels;
-- the tree that it decodes to has decoded labels (C-12).
use Rattle.std.specs.Prelude.{ℕ, ◌≤◌, ◌≡◌, true, cond, List, [], ◌∷◌, ◌++◌, length}
use Rattle.trees.specs.Label.{Label, label_less, distinct}
use Rattle.trees.specs.Token.{spelling, good_labels}

pub data Tree : Type 0 where
  leaf : Label → Tree
  node : Tree → Tree → Tree

-- the labels from left to right
unfoldable pub leaves : Tree → List Label
leaves (leaf x) = x ∷ []
leaves (node a b) = leaves a ++ leaves b

-- another label for each leaf
unfoldable pub relabel : (Label → Label) → Tree → Tree
relabel f (leaf x) = leaf (f x)
relabel f (node a b) = node (relabel f a) (relabel f b)

-- C-12: "The comparison with the definition is made on decoded labels."
unfoldable pub decoded : Tree → Tree
unfolding relabel spelling
decoded t = relabel spelling t

-- "Left and right children mean nothing": equal trees
pub data Same : Tree → Tree → Type 0 where
  same_leaf : {x : Label} → Same (leaf x) (leaf x)
  straight : {a b c d : Tree} → Same a c → Same b d → Same (node a b) (node c d)
  crossed : {a b c d : Tree} → Same a d → Same b c → Same (node a b) (node c d)

-- "A tree has 1 to 80 leaves": one at least by its shape
abbrev pub leaf_limit : ℕ
leaf_limit = 80

-- "Labels of one tree are all different", as decoded
pub record Valid (t : Tree) : Type 0 where
  pub labels : good_labels (leaves t) ≡ true
  pub different : distinct (leaves (decoded t)) ≡ true
  pub few : length (leaves t) ≤ leaf_limit

-- what agreement asks of a tree: labels all different and at most 80, whatever their bytes
pub record Proper (t : Tree) : Type 0 where
  pub different : distinct (leaves t) ≡ true
  pub few : length (leaves t) ≤ leaf_limit

-- the smallest label in label order
unfoldable pub smallest : Tree → Label
smallest (leaf x) = x
smallest (node a b) = cond (label_less (smallest a) (smallest b)) (smallest a) (smallest b)

-- "each node writes first the child that holds the smaller smallest label"
unfoldable pub normal : Tree → Tree
unfolding smallest
normal (leaf x) = leaf x
normal (node a b) =
    cond (label_less (smallest a) (smallest b)) (node (normal a) (normal b)) (node (normal b) (normal a))
