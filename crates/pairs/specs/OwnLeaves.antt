-- A tree that was read, by its text and arrays, and common labels by their leaves in both trees. Trees that have a text are of tokens; ranks
-- are those of decoded labels.
use Rattle.std.specs.Prelude.{ℕ, ◌≡◌, List, length}
use Rattle.trees.specs.declared.Edition.{Edition}
use Rattle.trees.specs.declared.TreeArrays.{TreeArrays}
use Rattle.trees.specs.Edition.{in_edition}
use Rattle.trees.specs.Tree.{Tree, Valid}
use Rattle.trees.specs.Text.{text_of}
use Rattle.trees.specs.Arrays.{arrays_of, nodes_of}
use Rattle.agreement.specs.Sets.{common}
use Rattle.leaves.specs.Numbered.{Numbered}

-- the text and the arrays of tree t that locate its leaves
pub record OwnLeaves (t : Tree) (text left start size : List ℕ) (nodes : ℕ) : Type 0 where
  pub valid : Valid t
  pub text_is : text ≡ text_of t
  pub left_is : left ≡ (arrays_of t).left
  pub start_is : start ≡ (arrays_of t).start
  pub size_is : size ≡ (arrays_of t).size
  pub nodes_is : nodes ≡ nodes_of t

-- tree t as an edition reads it, by its text and its arrays
abbrev pub OwnTree : Tree → Edition → (text : List ℕ) → TreeArrays → Type 0
OwnTree t e text tree = OwnLeaves t (in_edition e text) tree.left tree.start tree.size tree.nodes

-- the common labels in label order, by their leaves in both trees
pub record Ordered (s t : Tree) (order1 order2 : List ℕ) (m : ℕ) : Type 0 where
  pub count : m ≡ length (common s t)
  pub first : Numbered s (common s t) order1
  pub second : Numbered t (common s t) order2
