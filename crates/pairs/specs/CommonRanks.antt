-- Common leaves collected from the last node of the first tree to its first, and ranks stored one after the other.
-- Intermediate: nothing public rests on this text.
use Rattle.std.specs.Prelude.{ℕ, zero, suc, ◌<◌, ◌≤◌, min, ◌≡◌, true, false, List, [], length, get_or, set, drop, replicate, Option, Some, None}
use Rattle.trees.specs.Label.{Label, label_less}
use Rattle.trees.specs.Tree.{Tree, leaf, node, leaves}
use Rattle.trees.specs.Postorder.{postorder, subtree, leaf_labels}
use Rattle.agreement.specs.Closer.{holds}
use Rattle.agreement.specs.Sets.{sorted, keep}
use Rattle.leaves.specs.Numbered.{LeafIs, Numbered}

-- p is the place before the first label of C that is greater than x, or the end
pub record Place (x : Label) (C : List Label) (p : ℕ) : Type 0 where
  pub low : p ≤ length C
  pub before : (r : ℕ) → r < p → label_less x (get_or C r []) ≡ false
  pub at : p < length C → label_less x (get_or C p []) ≡ true

-- the first m entries with u put in at place p
pub record OpenedAt (p m u : ℕ) (old new : List ℕ) : Type 0 where
  pub size : length new ≡ length old
  pub before : (r : ℕ) → r < p → get_or new r 0 ≡ get_or old r 0
  pub at : get_or new p 0 ≡ u
  pub after : (r : ℕ) → p ≤ r → r < m → get_or new (suc r) 0 ≡ get_or old r 0

-- the common labels among the nodes of s from u on, in label order
unfoldable pub common_from : Tree → Tree → ℕ → List Label
common_from s t u = sorted (keep (holds t) (leaf_labels (drop u (postorder s))))

-- no more labels are common than the smaller tree has leaves
abbrev pub most_common : Tree → Tree → ℕ
most_common s t = min (length (leaves s)) (length (leaves t))

-- the arrays have these labels by their leaves in the first tree
pub record Collected (s t : Tree) (u : ℕ) (order1 : List ℕ) (m : ℕ) : Type 0 where
  pub size1 : length order1 ≡ 80
  pub count : m ≡ length (common_from s t u)
  pub first : Numbered s (common_from s t u) order1

-- the leaf of t with label x, if there is one
pub record PartnerIs (t : Tree) (x : Label) (v : Option ℕ) : Type 0 where
  pub held : holds t x ≡ true → (w : ℕ) × (v ≡ Some w) × LeafIs t w x
  pub lacked : holds t x ≡ false → v ≡ None

-- it, for each of the first n nodes of s that is a leaf
pub record Partners (n : ℕ) (s t : Tree) (partner : List (Option ℕ)) : Type 0 where
  pub each : (u : ℕ) → u < n → (x : Label) → subtree (postorder s) u ≡ leaf x → PartnerIs t x (get_or partner u None)

-- and none for an inner node
pub record NodePartner (s t : Tree) (u : ℕ) (v : Option ℕ) : Type 0 where
  pub at_leaf : (x : Label) → subtree (postorder s) u ≡ leaf x → PartnerIs t x v
  pub at_node : (a b : Tree) → subtree (postorder s) u ≡ node a b → v ≡ None

-- leaf u is put in at the place of its label x
pub record LeafPlaced (u m : ℕ) (C : List Label) (x : Label) (old new : List ℕ) : Type 0 where
  pub place : ℕ
  pub is : Place x C place
  pub opened : OpenedAt place m u old new

-- the ranks after r entries of the order
unfoldable pub ranks_of : List ℕ → ℕ → List ℕ
ranks_of order zero = replicate 159 80
ranks_of order (suc r) = set (ranks_of order r) (get_or order r 0) r
