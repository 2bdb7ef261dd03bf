-- The set by rank: its places, its leaves' flags, and the tree that spells it. Intermediate: nothing public rests on this text.
use Rattle.std.specs.Prelude.{ℕ, ◌+◌, ◌<◌, ◌≡◌, Bool, false, cond, List, length, get_or, set}
use Rattle.trees.specs.declared.TreeArrays.{TreeArrays}
use Rattle.trees.specs.Label.{Label, is_in}
use Rattle.trees.specs.declared.Edition.{Edition}
use Rattle.trees.specs.Edition.{keyed, ValidIn}
use Rattle.trees.specs.Tree.{Tree, leaf}
use Rattle.trees.specs.Text.{text_of}
use Rattle.trees.specs.Arrays.{nodes_of, node_limit, arrays_of}
use Rattle.trees.specs.Postorder.{postorder, subtree}
use Rattle.lists.specs.declared.LabelPlaces.{LabelPlaces}
use Rattle.leaves.specs.Numbered.{Numbered}

-- the first m entries are node numbers: what keeps indices in range
abbrev pub InRange : List ℕ → ℕ → Type 0
InRange order m = (r : ℕ) → r < m → get_or order r 0 < node_limit

abbrev pub places_from : ℕ → List ℕ → List ℕ → LabelPlaces
places_from n start size = record { count = n; start = start; size = size }

-- a label's place, stored behind n others exactly if it is chosen
pub record Stored (chosen : Bool) (at len : ℕ) (old new : LabelPlaces) : Type 0 where
  pub count : new.count ≡ cond chosen (old.count + 1) old.count
  pub start : new.start ≡ cond chosen (set old.start old.count at) old.start
  pub size : new.size ≡ cond chosen (set old.size old.count len) old.size

-- the flag of each leaf of tree t is whether the set X has its label
abbrev pub Flagged : Tree → List Label → List Bool → Type 0
Flagged t X kept = (u : ℕ) → u < nodes_of t → (x : Label) → subtree (postorder t) u ≡ leaf x → get_or kept u false ≡ is_in x X

-- the arrays and the text of tree t, and its leaves by the rank in C of their keys
pub record ByRank (e : Edition) (t : Tree) (C : List Label) (tree : TreeArrays) (text order : List ℕ) (m : ℕ) : Type 0 where
  pub valid : ValidIn e t
  pub arrays_is : tree ≡ arrays_of t
  pub text_is : text ≡ text_of t
  pub count : m ≡ length C
  pub numbered : Numbered (keyed e t) C order
