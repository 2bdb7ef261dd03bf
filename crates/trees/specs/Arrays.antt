-- Tree arrays: which arrays a tree has, and which tree some arrays represent. Nodes are numbered in postorder: children before parents, the
-- root last. A leaf is its own left and right child.
use Rattle.std.specs.Prelude.{ℕ, zero, suc, ◌+◌, ◌*◌, ◌-◌, Bool, true, cond, ◌&&◌, List, [], ◌∷◌, ◌++◌, eqb, ltb, leb, length, get_or, take, drop, replicate}
use Rattle.trees.specs.declared.TreeArrays.{TreeArrays}
use Rattle.trees.specs.Label.{label_limit}
use Rattle.trees.specs.Token.{Token, spelling}
use Rattle.trees.specs.Tree.{Tree, leaf, node, leaves, leaf_limit}
use Rattle.trees.specs.Text.{written}

-- 80 leaves have 159 nodes
abbrev pub node_limit : ℕ
node_limit = 2 * leaf_limit - 1

unfoldable pub nodes_of : Tree → ℕ
nodes_of (leaf x) = 1
nodes_of (node a b) = nodes_of a + nodes_of b + 1

-- the left children of a tree's nodes, when its first node has number n
unfoldable pub lefts : Tree → ℕ → List ℕ
unfolding nodes_of
lefts (leaf x) n = n ∷ []
lefts (node a b) n = lefts a n ++ (lefts b (n + nodes_of a) ++ ((n + nodes_of a - 1) ∷ []))

unfoldable pub rights : Tree → ℕ → List ℕ
unfolding nodes_of
rights (leaf x) n = n ∷ []
rights (node a b) n = rights a n ++ (rights b (n + nodes_of a) ++ ((n + nodes_of a + nodes_of b - 1) ∷ []))

-- where the labels start, when the tree's own text starts at p; 0 for an inner node
unfoldable pub starts : Tree → ℕ → List ℕ
unfolding written
starts (leaf x) p = p ∷ []
starts (node a b) p = starts a (p + 1) ++ (starts b (p + 1 + length (written a) + 1) ++ (0 ∷ []))

-- how long the labels are; 0 for an inner node
unfoldable pub sizes : Tree → List ℕ
sizes (leaf x) = length x ∷ []
sizes (node a b) = sizes a ++ (sizes b ++ (0 ∷ []))

-- 0 after the entries, n entries in all
abbrev pub padded_to : ℕ → List ℕ → List ℕ
padded_to n xs = xs ++ replicate (n - length xs) 0

abbrev pub padded : List ℕ → List ℕ
padded = padded_to node_limit

-- the arrays of a tree whose text is read from its first byte
unfoldable pub arrays_of : Tree → TreeArrays
unfolding nodes_of lefts rights starts sizes
arrays_of t =
    record {
      nodes = nodes_of t;
      left = padded (lefts t 0);
      right = padded (rights t 0);
      start = padded (starts t 0);
      size = padded (sizes t);
    }

-- the arrays of no tree
unfoldable pub no_arrays : TreeArrays
no_arrays =
    record {
      nodes = 0;
      left = replicate node_limit 0;
      right = replicate node_limit 0;
      start = replicate node_limit 0;
      size = replicate node_limit 0;
    }

-- the bytes that a leaf's start and size name
unfoldable pub label_at : TreeArrays → List ℕ → ℕ → Token
label_at a text u = take (get_or a.size u 0) (drop (get_or a.start u 0) text)

unfoldable pub is_leaf : TreeArrays → ℕ → Bool
is_leaf a u = eqb (get_or a.left u 0) u

-- a leaf whose label is inside the text and not too long, or two children with smaller numbers
unfoldable pub good_node : TreeArrays → List ℕ → ℕ → Bool
unfolding is_leaf label_at spelling
good_node a text u =
    cond (is_leaf a u)
    (leb (get_or a.start u 0 + get_or a.size u 0) (length text) && leb (length (spelling (label_at a text u))) label_limit)
    (ltb (get_or a.left u 0) u && ltb (get_or a.right u 0) u)

unfoldable pub good_nodes : TreeArrays → List ℕ → ℕ → Bool
unfolding good_node
good_nodes a text zero = true
good_nodes a text (suc n) = good_nodes a text n && good_node a text n

-- the tree below node u, at most as deep as `room`
unfoldable pub tree_at : ℕ → TreeArrays → List ℕ → ℕ → Tree
unfolding is_leaf label_at
tree_at zero a text u = leaf []
tree_at (suc room) a text u =
    cond (is_leaf a u) (leaf (label_at a text u))
    (node (tree_at room a text (get_or a.left u 0)) (tree_at room a text (get_or a.right u 0)))

-- what arrays represent over a text: no leaf at all, one tree, or nothing that is a tree of at most 80 leaves
pub data Standing : Type 0 where
  no_leaf : Standing
  one_tree : Tree → Standing
  no_tree : Standing

unfoldable pub tree_of : TreeArrays → List ℕ → Standing
unfolding good_nodes tree_at leaves
tree_of a text =
    cond (eqb a.nodes 0) no_leaf
    (cond
    (leb a.nodes node_limit
    && good_nodes a text a.nodes
    && leb (length (leaves (tree_at a.nodes a text (a.nodes - 1)))) leaf_limit)
    (one_tree (tree_at a.nodes a text (a.nodes - 1)))
    no_tree)
