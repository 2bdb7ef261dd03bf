-- Labels and trees as they were before quotes and blanks: bare, without underscores. C-12 changes nothing for them.
use Rattle.std.specs.Prelude.{◌≡◌, true, false}
use Rattle.trees.specs.Token.{Token, all_label_bytes, holds_underscore}
use Rattle.trees.specs.Tree.{Tree, leaf, node}

-- label bytes alone, and no underscore among them
pub record PlainLabel (x : Token) : Type 0 where
  pub bytes : all_label_bytes x ≡ true
  pub none : holds_underscore x ≡ false

-- each label of the tree is plain
pub data PlainTree : Tree → Type 0 where
  plain_leaf : {x : Token} → PlainLabel x → PlainTree (leaf x)
  plain_node : {a b : Tree} → PlainTree a → PlainTree b → PlainTree (node a b)
