-- The two editions of the naming code, which is the rule by which labels are equal and in order. C-15: "Under edition 2 equality and order
-- of labels read capitals as small letters".
use Rattle.std.specs.Prelude.{ℕ, ◌+◌, ◌≤◌, ◌≡◌, true, cond, List, map, length}
use Rattle.trees.specs.declared.Edition.{Edition}
use Rattle.trees.specs.declared.Edition.TheVariants.{One, Two}
use Rattle.trees.specs.Bytes.{between}
use Rattle.trees.specs.Label.{Label, label_less, distinct}
use Rattle.trees.specs.Token.{Token, spelling, token_of, good_labels}
use Rattle.trees.specs.Tree.{Tree, leaf, node, leaves, relabel, decoded, smallest, leaf_limit}
use Rattle.trees.specs.Text.{text_of}

-- A byte as an edition reads it. Edition 1 leaves it as it is: "Case matters" (01). Edition 2 "treats capital and small letters of A to Z
-- as equal".
unfoldable pub fold_byte : Edition → ℕ → ℕ
fold_byte One b = b
fold_byte Two b = cond (between 65 90 b) (b + 32) b

-- bytes as an edition reads them
abbrev pub in_edition : Edition → List ℕ → List ℕ
in_edition e x = map (fold_byte e) x

-- What labels are compared by: the decoded token, as the edition reads it. It is the same to fold the decoded bytes (`fold_is_of_decoded`
-- in Promises).
abbrev pub key : Edition → Token → Label
key e x = spelling (in_edition e x)

-- a tree as an edition reads it, its labels still tokens
abbrev pub folded : Edition → Tree → Tree
folded e t = relabel (in_edition e) t

-- the tree of its keys; agreement, order and ties are about this tree
abbrev pub keyed : Edition → Tree → Tree
keyed e t = decoded (folded e t)

-- "Labels of one tree are all different": "so `(A,a);` repeats a label" under edition 2
pub record ValidIn (e : Edition) (t : Tree) : Type 0 where
  pub labels : good_labels (leaves t) ≡ true
  pub different : distinct (leaves (keyed e t)) ≡ true
  pub few : length (leaves t) ≤ leaf_limit

-- "each node writes first the child that holds the smaller smallest label", in the order of an edition; labels stay as they are spelled
unfoldable pub normal_in : Edition → Tree → Tree
unfolding smallest
normal_in e (leaf x) = leaf x
normal_in e (node a b) =
    cond (label_less (smallest (keyed e a)) (smallest (keyed e b))) (node (normal_in e a) (normal_in e b)) (node (normal_in e b) (normal_in e a))

-- the one written form of a token's label, as the token spells it
abbrev pub rewritten : Token → Token
rewritten x = token_of (spelling x)

-- "the normal text of a tree" of tokens; "Labels are printed as the first tree spells them" (C-15)
unfoldable pub normal_text_in : Edition → Tree → List ℕ
unfolding text_of relabel normal_in
normal_text_in e t = text_of (relabel rewritten (normal_in e t))
