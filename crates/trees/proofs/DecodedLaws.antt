-- What a tree of tokens stands for has its shape. Assumes nothing.
use Prim.Native.Nat.{ℕ, ◌<◌}
use mathlib.Core.Path.{◌≡◌, refl, sym, ◌∙◌, ap}
use lib.ListN.{length}
use Rattle.trees.specs.Label.{Label}
use Rattle.trees.specs.Token.{Token, spelling}
use Rattle.trees.specs.Tree.{Tree, leaf, node, leaves, relabel, decoded}
use Rattle.trees.specs.Arrays.{nodes_of, arrays_of}
use Rattle.trees.specs.Postorder.{postorder, subtree}
use Rattle.trees.proofs.RelabelLaws.{leaves_count, nodes_relabel, left_relabel, right_relabel, subtree_relabel, FromLeaf, relabel_leaf}

pub decoded_leaf : (x : Token) → decoded (leaf x) ≡ leaf (spelling x)
unfolding decoded relabel
decoded_leaf x = refl

pub decoded_node : (a b : Tree) → decoded (node a b) ≡ node (decoded a) (decoded b)
unfolding decoded relabel
decoded_node a b = refl

pub decoded_count : (t : Tree) → length (leaves (decoded t)) ≡ length (leaves t)
unfolding decoded
decoded_count t = leaves_count spelling t

pub decoded_nodes : (t : Tree) → nodes_of (decoded t) ≡ nodes_of t
unfolding decoded
decoded_nodes t = nodes_relabel spelling t

pub decoded_left : (t : Tree) → (arrays_of (decoded t)).left ≡ (arrays_of t).left
unfolding decoded
decoded_left t = left_relabel spelling t

pub decoded_right : (t : Tree) → (arrays_of (decoded t)).right ≡ (arrays_of t).right
unfolding decoded
decoded_right t = right_relabel spelling t

pub decoded_subtree : (t : Tree) (i : ℕ) → i < nodes_of t → subtree (postorder (decoded t)) i ≡ decoded (subtree (postorder t) i)
unfolding decoded
decoded_subtree t i h = subtree_relabel spelling t i h

-- a leaf of the decoded tree is a leaf of the tree, with a token that stands for its label; and the other way round
pub token_of_leaf : (t : Tree) (i : ℕ) (x : Label) → i < nodes_of t → subtree (postorder (decoded t)) i ≡ leaf x
    → FromLeaf spelling (subtree (postorder t) i) x
unfolding decoded
token_of_leaf t i x h e = relabel_leaf spelling (subtree (postorder t) i) x (sym (decoded_subtree t i h) ∙ e)

pub leaf_of_token : (t : Tree) (i : ℕ) (y : Token) → i < nodes_of t → subtree (postorder t) i ≡ leaf y
    → subtree (postorder (decoded t)) i ≡ leaf (spelling y)
leaf_of_token t i y h e = decoded_subtree t i h ∙ ap decoded e ∙ decoded_leaf y
