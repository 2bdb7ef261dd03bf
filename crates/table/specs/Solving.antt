-- The input and the result of the one fill of the table: trees by their columns, and the greatest weight. Intermediate: nothing public
-- rests on this text.
use Rattle.std.specs.Prelude.{◌≡◌, ℕ, ◌-◌, ◌<◌, ◌≤◌, false, List, [], length, slice_index, slice_index_or}
use Rattle.table.specs.declared.columns.TreeColumns.{TreeColumns}
use Rattle.trees.specs.Label.{Label, is_in}
use Rattle.trees.specs.Tree.{Tree, leaf_limit, Proper}
use Rattle.trees.specs.Arrays.{nodes_of}
use Rattle.trees.specs.Postorder.{postorder, subtree}
use Rattle.leaves.specs.Numbered.{LeafIs}
use Rattle.agreement.specs.Sets.{common, sorted}
use Rattle.agreement.specs.Weights.{best}
use Rattle.agreement.specs.Powers.{telling}
use Rattle.agreement.specs.Greatest.{Greatest}
use Rattle.table.specs.Weighing.{Powers}
use Rattle.table.specs.Table.{weight_place, need, Shape, Columns, Filling}

-- indices stay in range, and there is a root
pub record Rooted (columns : TreeColumns) : Type 0 where
  pub shape : Shape columns columns.nodes
  pub root : 0 < columns.nodes

-- the columns of tree t, with the ranks of its leaves' labels in C, 80 for a label that C lacks
pub record OwnColumns (t : Tree) (C : List Label) (columns : TreeColumns) : Type 0 where
  pub proper : Proper t
  pub nodes_is : columns.nodes ≡ nodes_of t
  pub columns_are : Columns columns columns.nodes (postorder t)
  pub needs : (u : ℕ) → u < columns.nodes → slice_index columns.rows u ≡ need (subtree (postorder t) u)
  pub held : (u r : ℕ) → r < length C → LeafIs t u (slice_index_or C r []) → slice_index columns.rank u ≡ r
  pub other : (u : ℕ) (x : Label) → LeafIs t u x → is_in x C ≡ false → slice_index columns.rank u ≡ 80

-- the weight of both roots, and the weights by rank as they were
pub record TopIs (first second : TreeColumns) (top : ℕ) (area area' : List ℕ) : Type 0 where
  pub greatest : (ss ts : List Tree) (w : Label → ℕ) → length area ≡ 1431 → Filling first second ss ts w area
      → need (subtree ss (first.nodes - 1)) ≤ 6
      → (top ≡ best w (subtree ss (first.nodes - 1)) (subtree ts (second.nodes - 1)))
      × ((r : ℕ) → r < 159 → slice_index area' (weight_place r) ≡ slice_index area (weight_place r))

-- the greatest weight of the common labels, n of them, and their powers by rank
pub record Weighed (s t : Tree) (K : List Label) (n top : ℕ) (area : List ℕ) : Type 0 where
  pub great : Greatest (telling leaf_limit (sorted K) (common s t)) s t top
  pub powers : Powers n area
