-- The leaf of tree arrays that has a label.
use Rattle.std.specs.Prelude.{ℕ, zero, suc, ◌<◌, min, ◌≡◌, Bool, true, cond, ◌&&◌, List, eqb, ltb, get_or, Option, Some, None}
use Rattle.trees.specs.Label.{Label, same_label}
use Rattle.trees.specs.Token.{spelling}
use Rattle.trees.specs.Tree.{Tree}
use Rattle.trees.specs.declared.Edition.{Edition}
use Rattle.trees.specs.Edition.{in_edition, key}
use Rattle.trees.specs.Text.{text_of}
use Rattle.trees.specs.Arrays.{node_limit, nodes_of, arrays_of, is_leaf}
use Rattle.trees.specs.Stored.{leaf_label}

-- node u is a leaf whose token decodes to label x
unfoldable pub labelled : List ℕ → List ℕ → List ℕ → List ℕ → Label → ℕ → Bool
labelled text left start size x u =
    eqb (get_or left u 0) u && same_label (spelling (leaf_label text start size u)) x

-- the first of the n nodes from u on that is, or the node after them
unfoldable pub leaf_from : (ℕ → Bool) → ℕ → ℕ → ℕ
leaf_from is zero u = u
leaf_from is (suc n) u = cond (is u) u (leaf_from is n (suc u))

unfoldable pub found_leaf : List ℕ → List ℕ → List ℕ → List ℕ → Label → ℕ → ℕ
unfolding labelled leaf_from
found_leaf text left start size x nodes = leaf_from (labelled text left start size x) (min nodes node_limit) 0

-- the same as an option: none where the search ends past the nodes
unfoldable pub leaf_found : List ℕ → List ℕ → List ℕ → List ℕ → Label → ℕ → Option ℕ
leaf_found text left start size x nodes =
    cond (ltb (found_leaf text left start size x nodes) (min nodes node_limit)) (Some (found_leaf text left start size x nodes)) None

-- where the search ends in the arrays of a tree over its text
abbrev pub found_in : Edition → Tree → Label → ℕ
found_in e t x = found_leaf (in_edition e (text_of t)) (arrays_of t).left (arrays_of t).start (arrays_of t).size x (nodes_of t)

-- what `find_leaf` finds there
abbrev pub leaf_found_in : Edition → Tree → Label → Option ℕ
leaf_found_in e t x = leaf_found (in_edition e (text_of t)) (arrays_of t).left (arrays_of t).start (arrays_of t).size x (nodes_of t)

-- node u of the tree's arrays is a leaf, and the part of the text that shows it has the key x
pub record ShowsLeaf (e : Edition) (t : Tree) (u : ℕ) (x : Label) : Type 0 where
  pub below : u < nodes_of t
  pub leaf : is_leaf (arrays_of t) u ≡ true
  pub label : key e (leaf_label (text_of t) (arrays_of t).start (arrays_of t).size u) ≡ x
