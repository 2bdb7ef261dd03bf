-- The labels of the flagged leaves of a tree whose nodes are numbered in postorder.
use Rattle.std.specs.Prelude.{ℕ, zero, suc, Bool, false, ◌&&◌, ◌||◌, List, get_or}
use Rattle.trees.specs.Label.{Label, same_label}
use Rattle.trees.specs.Tree.{Tree, leaf, node}
use Rattle.trees.specs.Arrays.{nodes_of}
use Rattle.trees.specs.Postorder.{postorder, subtree}

-- the tree is the leaf x
unfoldable pub is_this_leaf : Tree → Label → Bool
is_this_leaf (leaf y) x = same_label x y
is_this_leaf (node a b) x = false

-- one of the first n nodes is the leaf x and has a flag
unfoldable pub flagged_below : ℕ → List Tree → List Bool → Label → Bool
unfolding is_this_leaf
flagged_below zero ts kept x = false
flagged_below (suc n) ts kept x = (get_or kept n false && is_this_leaf (subtree ts n) x) || flagged_below n ts kept x

unfoldable pub flagged : Tree → List Bool → Label → Bool
unfolding flagged_below
flagged t kept x = flagged_below (nodes_of t) (postorder t) kept x
