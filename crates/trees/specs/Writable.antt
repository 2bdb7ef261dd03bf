-- Labels and trees that can be written: decoded labels that some text can contain. 01, "Tree text".
use Rattle.std.specs.Prelude.{◌≡◌, ◌≤◌, Bool, true, ◌&&◌, List, [], ◌∷◌, length}
use Rattle.trees.specs.Label.{Label, same_label, distinct}
use Rattle.trees.specs.Token.{spelling, token_of, good_label}
use Rattle.trees.specs.Tree.{Tree, leaves, leaf_limit}

-- the label's written form is a good token that decodes to it
unfoldable pub writable_label : Label → Bool
writable_label x = good_label (token_of x) && same_label (spelling (token_of x)) x

unfoldable pub writable_labels : List Label → Bool
unfolding writable_label
writable_labels [] = true
writable_labels (x ∷ xs) = writable_label x && writable_labels xs

-- a tree of decoded labels that is the reading of some text
pub record Writable (t : Tree) : Type 0 where
  pub labels : writable_labels (leaves t) ≡ true
  pub different : distinct (leaves t) ≡ true
  pub few : length (leaves t) ≤ leaf_limit
