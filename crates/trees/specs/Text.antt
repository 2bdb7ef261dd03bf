-- The text of a tree. 01, "Tree text": "A tree is a node followed by `;`. A node is a label, or `(` node `,` node `)`."
use Rattle.std.specs.Prelude.{ℕ, ◌+◌, ◌*◌, ◌-◌, List, [], ◌∷◌, ◌++◌}
use Rattle.trees.specs.Bytes.{open_byte, close_byte, comma_byte, semicolon_byte}
use Rattle.trees.specs.Token.{token_of, token_limit}
use Rattle.trees.specs.Tree.{Tree, leaf, node, relabel, normal, leaf_limit}

-- a node, its children in their order
unfoldable pub written : Tree → List ℕ
written (leaf x) = x
written (node a b) = open_byte ∷ (written a ++ (comma_byte ∷ (written b ++ (close_byte ∷ []))))

-- a tree
unfoldable pub text_of : Tree → List ℕ
unfolding written
text_of t = written t ++ (semicolon_byte ∷ [])

-- the most bytes of a tree's text: 80 labels of 32 bytes between quotes, 79 times `(`, `,` and `)`, and `;`
abbrev pub tree_room : ℕ
tree_room = leaf_limit * token_limit + 3 * (leaf_limit - 1) + 1

-- "the normal text of a tree" of decoded labels, each in its one written form
unfoldable pub normal_text : Tree → List ℕ
unfolding text_of relabel
normal_text t = text_of (relabel token_of (normal t))
