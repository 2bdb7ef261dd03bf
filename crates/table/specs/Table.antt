-- The value of a cell of the table from other cells, and when rows are right.
-- Intermediate: nothing public rests on this text.
use Rattle.std.specs.Prelude.{◌≡◌, ℕ, suc, ◌+◌, ◌*◌, ◌%◌, ◌<◌, ◌≤◌, min, max, Bool, cond, ◌⊎◌, List, length, ◌==◌, ◌≢◌, nat_le, nat_lt, slice_index}
use Rattle.table.specs.declared.columns.TreeColumns.{TreeColumns}
use Rattle.trees.specs.Label.{Label, same_label}
use Rattle.trees.specs.Tree.{Tree, leaf, node, leaves, leaf_limit}
use Rattle.trees.specs.Postorder.{subtree, LaidNode}
use Rattle.agreement.specs.Weights.{best}
use Rattle.agreement.specs.Powers.{whole}
use Rattle.table.specs.declared.fill.Children.{Children}

-- 2 to the 128th
abbrev pub two128 : ℕ
two128 = 340282366920938463463374607431768211456

abbrev pub wrapped : ℕ → ℕ → ℕ
wrapped a b = (a + b) % two128

-- where the weight of rank r is
abbrev pub weight_place : ℕ → ℕ
weight_place r = 1272 + r

-- how many rows a node needs in addition to two, from what its children need: the child that needs more is done first
unfoldable pub join_need : ℕ → ℕ → ℕ
join_need a b = cond (nat_lt a b) b (cond (nat_lt b a) a (min (suc a) 255))

unfoldable pub need : Tree → ℕ
unfolding join_need
need (leaf x) = 0
need (node p q) = join_need (need p) (need q)

-- what keeps indices in range
pub record Shape (columns : TreeColumns) (nodes : ℕ) : Type 0 where
  pub few : nodes ≤ 159
  pub left_low : (u : ℕ) → u < nodes → slice_index columns.left u ≤ u
  pub right_low : (u : ℕ) → u < nodes → slice_index columns.right u ≤ u
  pub inner : (u : ℕ) → u < nodes → (slice_index columns.left u ≢ u) → slice_index columns.right u < u
  pub ranked : (u : ℕ) → u < nodes → slice_index columns.rank u ≤ 80

-- two inner nodes by the weights f: rows of the children start at a and b, the node's own at u; v has children c and d
unfoldable pub inner_at : (ℕ → ℕ) → ℕ → ℕ → ℕ → ℕ → ℕ → ℕ → ℕ
inner_at f a b u c d v =
    max (max (f (a + v)) (f (b + v)))
    (max (max (f (u + c)) (f (u + d))) (max (wrapped (f (a + c)) (f (b + d))) (wrapped (f (a + d)) (f (b + c)))))

-- the cell of an inner node and node v
unfoldable pub cell_at : (ℕ → ℕ) → TreeColumns → ℕ → ℕ → ℕ → ℕ → ℕ
unfolding inner_at
cell_at f second a b u v =
    cond (slice_index second.left v == v) (max (f (a + v)) (f (b + v))) (inner_at f a b u (slice_index second.left v) (slice_index second.right v) v)

-- the cell of leaf `at` of the second tree, if there is one with that number, and node v: the leaf's weight if it is below v
unfoldable pub span_at : TreeColumns → ℕ → ℕ → ℕ → ℕ
span_at second weight at v = cond (nat_lt v at) 0 (cond (nat_le (slice_index second.low v) at) weight 0)

-- nothing outside a row changed
pub record Outside (row : ℕ) (area area' : List ℕ) : Type 0 where
  pub same : (i : ℕ) → (i < row * 159) ⊎ (row * 159 + 159 ≤ i) → slice_index area' i ≡ slice_index area i

-- the leaf among the first n nodes that has rank r; 255 if there is none
pub data LeafOf (columns : TreeColumns) (n r at : ℕ) : Type 0 where
  no_leaf : at ≡ 255 → ((u : ℕ) → u < n → slice_index columns.left u ≡ u → slice_index columns.rank u ≢ r) → LeafOf columns n r at
  one_leaf : at < n → slice_index columns.left at ≡ at → slice_index columns.rank at ≡ r → LeafOf columns n r at

-- the nodes below an inner node: those below its left child, then those below its right child, then the node
pub record Spans (columns : TreeColumns) (v : ℕ) : Type 0 where
  pub right_last : slice_index columns.right v + 1 ≡ v
  pub right_low : slice_index columns.low (slice_index columns.right v) ≡ slice_index columns.left v + 1
  pub left_low : slice_index columns.low (slice_index columns.left v) ≡ slice_index columns.low v

-- the columns represent the subtrees ts
pub record Columns (columns : TreeColumns) (nodes : ℕ) (ts : List Tree) : Type 0 where
  pub laid : (v : ℕ) → v < nodes → LaidNode ts (slice_index columns.left v) (slice_index columns.right v) v (subtree ts v)
  pub count : length ts ≡ nodes
  pub once : (u v : ℕ) (x : Label) → u < nodes → v < nodes → subtree ts u ≡ leaf x → subtree ts v ≡ leaf x → u ≡ v
  pub leaf_of : (r : ℕ) → r ≤ 80 → LeafOf columns nodes r (slice_index columns.leaf r)
  pub low : (v : ℕ) → v < nodes → slice_index columns.low v ≤ v
  pub leaf_low : (v : ℕ) → v < nodes → slice_index columns.left v ≡ v → slice_index columns.low v ≡ v
  pub spans : (v : ℕ) → v < nodes → (slice_index columns.left v ≢ v) → Spans columns v

-- the first n cells of a row are right for subtree s
pub record RowTo (n : ℕ) (ts : List Tree) (w : Label → ℕ) (s : Tree) (row : ℕ) (area : List ℕ) : Type 0 where
  pub right : (v : ℕ) → v < n → slice_index area (row * 159 + v) ≡ best w s (subtree ts v)

-- no label weighs so much that a tree's labels together pass 128 bits
abbrev pub Light : (Label → ℕ) → Type 0
Light w = (x : Label) → w x ≤ 129 * whole

-- the weight of a rank is that of the leaf x, against every leaf of the second tree
pub record RankIs (second : TreeColumns) (nodes : ℕ) (ts : List Tree) (w : Label → ℕ) (x : Label) (rank weight : ℕ) : Type 0 where
  pub is : (v : ℕ) → v < nodes → (y : Label) → subtree ts v ≡ leaf y
      → cond (slice_index second.rank v == rank) weight 0 ≡ cond (same_label x y) (w x) 0

-- both trees' columns, the weights of labels, and the area's row of weights
pub record Filling (first second : TreeColumns) (ss ts : List Tree) (w : Label → ℕ) (area : List ℕ) : Type 0 where
  pub one : Columns first first.nodes ss
  pub two : Columns second second.nodes ts
  pub needs : (u : ℕ) → u < first.nodes → slice_index first.rows u ≡ need (subtree ss u)
  pub few : (u : ℕ) → u < first.nodes → length (leaves (subtree ss u)) ≤ leaf_limit
  pub light : Light w
  pub ranks : (u : ℕ) → u < first.nodes → (x : Label) → subtree ss u ≡ leaf x
      → RankIs second second.nodes ts w x (slice_index first.rank u) (slice_index area (weight_place (slice_index first.rank u)))

-- rows that a node's row leaves alone: all but its own, the other one, and those from `next` to the weights
pub record Spared (row other next k : ℕ) : Type 0 where
  pub not_row : k ≡ row → ⊥
  pub not_other : k ≡ other → ⊥
  pub before : (k < next) ⊎ (8 ≤ k)

-- a node's row is right, and the rows that are spared are as they were
pub record Filled (n : ℕ) (ts : List Tree) (w : Label → ℕ) (s : Tree) (row other next : ℕ) (area area' : List ℕ) : Type 0 where
  pub right : RowTo n ts w s row area'
  pub kept : (k v : ℕ) → v < 159 → Spared row other next k → slice_index area' (k * 159 + v) ≡ slice_index area (k * 159 + v)

-- rows that a call may use: two, and from `next` on as many as the node needs
pub record Rows (s : Tree) (row other next : ℕ) : Type 0 where
  pub row_low : row < next
  pub other_low : other < next
  pub apart : row ≡ other → ⊥
  pub enough : next + need s ≤ 8

-- the children of node u, the one that needs more rows first
abbrev pub needs_more : TreeColumns → ℕ → Bool
needs_more first u = nat_lt (slice_index first.rows (slice_index first.left u)) (slice_index first.rows (slice_index first.right u))

pub record SplitAt (first : TreeColumns) (u : ℕ) (c : Children) : Type 0 where
  pub swapped_is : c.swapped ≡ needs_more first u
  pub more_is : c.more ≡ cond c.swapped (slice_index first.right u) (slice_index first.left u)
  pub fewer_is : c.fewer ≡ cond c.swapped (slice_index first.left u) (slice_index first.right u)

-- the first n cells of the row of an inner node, made of the rows of its children
pub record InnerRow (n : ℕ) (second : TreeColumns) (left right row : ℕ) (area area' : List ℕ) : Type 0 where
  pub sized : length area ≡ 1431 → length area' ≡ 1431
  pub outside : Outside row area area'
  pub right_row : (ts : List Tree) (w : Label → ℕ) (p q : Tree) → length area ≡ 1431
      → Columns second second.nodes ts → Light w → length (leaves (node p q)) ≤ leaf_limit → (left ≢ row) → (right ≢ row)
      → RowTo second.nodes ts w p left area → RowTo second.nodes ts w q right area
      → RowTo n ts w (node p q) row area'

-- the whole row, with the rows swapped or not
abbrev pub Joined : TreeColumns → Bool → ℕ → ℕ → ℕ → List ℕ → List ℕ → Type 0
Joined second swapped row other next area area' =
    InnerRow second.nodes second (cond swapped next other) (cond swapped other next) row area area'

-- the first n cells of the row of a leaf with this rank
pub record SpanRow (n : ℕ) (second : TreeColumns) (rank row : ℕ) (area area' : List ℕ) : Type 0 where
  pub sized : length area ≡ 1431 → length area' ≡ 1431
  pub outside : Outside row area area'
  pub each : length area ≡ 1431 → (v : ℕ) → v < n
      → slice_index area' (row * 159 + v) ≡ span_at second (slice_index area (weight_place rank)) (slice_index second.leaf rank) v

-- the row of a node
pub record NodeRow (first second : TreeColumns) (u row other next : ℕ) (area area' : List ℕ) : Type 0 where
  pub sized : length area ≡ 1431 → length area' ≡ 1431
  pub filled : (ss ts : List Tree) (w : Label → ℕ) → length area ≡ 1431 → Filling first second ss ts w area
      → Rows (subtree ss u) row other next → Filled second.nodes ts w (subtree ss u) row other next area area'
