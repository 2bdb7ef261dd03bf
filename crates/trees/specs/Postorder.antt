-- The subtrees of a tree in postorder, and arrays laid out by them: node u of a tree's arrays is its u-th subtree.
use Rattle.std.specs.Prelude.{ℕ, ◌<◌, ◌≡◌, List, [], ◌∷◌, ◌++◌, length, get_or}
use Rattle.trees.specs.Label.{Label}
use Rattle.trees.specs.Tree.{Tree, leaf, node}
use Rattle.trees.specs.Arrays.{nodes_of}

-- children before parents, the root last
unfoldable pub postorder : Tree → List Tree
postorder (leaf x) = leaf x ∷ []
postorder (node a b) = postorder a ++ (postorder b ++ (node a b ∷ []))

-- the subtree with number u
abbrev pub subtree : List Tree → ℕ → Tree
subtree ts u = get_or ts u (leaf [])

-- node u of tree t is the leaf x
pub record LeafIs (t : Tree) (u : ℕ) (x : Label) : Type 0 where
  pub below : u < nodes_of t
  pub is : subtree (postorder t) u ≡ leaf x

-- node u has children l and r: a leaf is its own left child, any other node has children with smaller numbers
pub data LaidNode (ts : List Tree) (l r u : ℕ) : Tree → Type 0 where
  laid_leaf : {x : Label} → l ≡ u → LaidNode ts l r u (leaf x)
  laid_node : l < u → r < u → LaidNode ts l r u (node (subtree ts l) (subtree ts r))

-- the arrays of left and right children are those of the trees
abbrev pub Laid : List ℕ → List ℕ → List Tree → Type 0
Laid left right ts = (u : ℕ) → u < length ts → LaidNode ts (get_or left u 0) (get_or right u 0) u (subtree ts u)

-- the labels of the leaves among the trees of a list, in its order
unfoldable pub leaf_labels : List Tree → List Label
leaf_labels [] = []
leaf_labels (leaf x ∷ ts) = x ∷ leaf_labels ts
leaf_labels (node a b ∷ ts) = leaf_labels ts
