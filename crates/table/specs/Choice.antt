-- The query that the table receives, and its result. The query: two trees by their arrays, their common labels and the required ones by
-- rank. The result: the set, or that three required labels have different closer pairs. 01, "Agreement", and row 8 of "Why a job is turned
-- down".
use Rattle.std.specs.Prelude.{◌≡◌, ℕ, suc, ◌<◌, Bool, true, false, cond, Option, Some, None, List, [], ◌∷◌, length, slice_index, slice_index_or}
use Rattle.trees.specs.declared.TreeArrays.{TreeArrays}
use Rattle.trees.specs.Label.{Label, is_in, distinct}
use Rattle.trees.specs.Tree.{Tree, Proper}
use Rattle.trees.specs.Arrays.{nodes_of, arrays_of}
use Rattle.leaves.specs.Numbered.{LeafIs}
use Rattle.agreement.specs.Closer.{Common}
use Rattle.agreement.specs.Sets.{common, set_of}
use Rattle.agreement.specs.Answer.{answer, disagree, largest}

-- "Agreement", "leaves common to both": by node, the rank of a leaf's label among the labels of C, counted from 0; 80 if C lacks it
pub record Ranked (t : Tree) (C : List Label) (rank : List ℕ) : Type 0 where
  pub held : (u r : ℕ) → r < length C → LeafIs t u (slice_index_or C r []) → slice_index rank u ≡ r
  pub other : (u : ℕ) (x : Label) → LeafIs t u x → is_in x C ≡ false → slice_index rank u ≡ 80

-- "Agreement", "the required ones": by rank in C, a required label's position in the list K, counted from 1; 0 for any other
pub record Marked (C K : List Label) (number : List ℕ) : Type 0 where
  pub held : (r k : ℕ) → r < length C → k < length K → slice_index_or C r [] ≡ slice_index_or K k [] → slice_index number r ≡ suc k
  pub other : (r : ℕ) → r < length C → is_in (slice_index_or C r []) K ≡ false → slice_index number r ≡ 0

-- the arrays have the children of tree t, whatever text shows its labels, with the labels' ranks among those of C
pub record Given (t : Tree) (C : List Label) (tree : TreeArrays) (rank : List ℕ) : Type 0 where
  pub proper : Proper t
  pub nodes_are : tree.nodes ≡ nodes_of t
  pub left_are : tree.left ≡ (arrays_of t).left
  pub right_are : tree.right ≡ (arrays_of t).right
  pub ranked : Ranked t C rank

-- two trees with m common labels, and a required list of `count` different labels that are in both
pub record Posed (s t : Tree) (K : List Label) (tree1 tree2 : TreeArrays) (rank1 rank2 : List ℕ) (m : ℕ) (number : List ℕ) (count : ℕ)
    : Type 0 where
  pub one : Given s (common s t) tree1 rank1
  pub two : Given t (common s t) tree2 rank2
  pub all : m ≡ length (common s t)
  pub different : distinct K ≡ true
  pub required : Common s t (set_of K)
  pub marked : Marked (common s t) K number
  pub count_is : count ≡ length K

-- the labels of C that are chosen, from rank r on
unfoldable pub chosen_from : List Bool → ℕ → List Label → List Label
chosen_from chosen r [] = []
chosen_from chosen r (c ∷ cs) = cond (slice_index_or chosen r false) (c ∷ chosen_from chosen (suc r) cs) (chosen_from chosen (suc r) cs)

-- "Agreement", "Largest" and "first": the answer is the set of the labels chosen, and the size is its count; or row 8, three required labels
-- with different closer pairs
pub record Solved (s t : Tree) (K : List Label) (size : Option ℕ) (chosen : List Bool) : Type 0 where
  pub set : (n : ℕ) → size ≡ Some n → answer s t K ≡ largest (chosen_from chosen 0 (common s t))
  pub count : (n : ℕ) → size ≡ Some n → n ≡ length (chosen_from chosen 0 (common s t))
  pub disagreement : size ≡ None → (a : Label) × (b : Label) × (c : Label) × (answer s t K ≡ disagree a b c)
