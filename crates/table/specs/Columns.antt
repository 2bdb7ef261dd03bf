-- A tree's columns as they are stored node by node. Intermediate: nothing public rests on this text.
use Rattle.std.specs.Prelude.{◌≡◌, ℕ, ◌%◌, ◌<◌, ◌≤◌, min, cond, List, length, ◌==◌, ◌≢◌, nat_lt, slice_index}
use Rattle.table.specs.declared.columns.TreeColumns.{TreeColumns}
use Rattle.table.specs.Table.{join_need, LeafOf}

-- child a of node u, whose other child is b, as it is stored: if they do not both come before u, it is taken for a leaf
unfoldable pub child_at : ℕ → ℕ → ℕ → ℕ
child_at a b u = cond (nat_lt a u) (cond (nat_lt b u) a u) u

-- the rows that node u with the stored children a and b needs
abbrev pub need_at : TreeColumns → ℕ → ℕ → ℕ → ℕ
need_at columns u a b = cond (a == u) 0 (join_need (slice_index columns.rows a) (slice_index columns.rows b))

-- the first node below node u with the stored left child a
abbrev pub low_at : TreeColumns → ℕ → ℕ → ℕ
low_at columns u a = cond (a == u) u (slice_index columns.low a)

-- where node u with the stored left child a and the rank n is stored as the leaf of its rank: an inner node where no leaf is
abbrev pub leaf_place : ℕ → ℕ → ℕ → ℕ
leaf_place u a n = cond (a == u) n 81

-- each array has its size
pub record SizedColumns (columns : TreeColumns) : Type 0 where
  pub left_size : length columns.left ≡ 159
  pub right_size : length columns.right ≡ 159
  pub rank_size : length columns.rank ≡ 159
  pub rows_size : length columns.rows ≡ 159
  pub low_size : length columns.low ≡ 159
  pub leaf_size : length columns.leaf ≡ 159

-- every node but u is as it was
pub record OthersKept (u : ℕ) (old new : TreeColumns) : Type 0 where
  pub left : (q : ℕ) → (q ≢ u) → slice_index new.left q ≡ slice_index old.left q
  pub right : (q : ℕ) → (q ≢ u) → slice_index new.right q ≡ slice_index old.right q
  pub rank : (q : ℕ) → (q ≢ u) → slice_index new.rank q ≡ slice_index old.rank q
  pub rows : (q : ℕ) → (q ≢ u) → slice_index new.rows q ≡ slice_index old.rows q
  pub low : (q : ℕ) → (q ≢ u) → slice_index new.low q ≡ slice_index old.low q

-- the entries of node u, which has these children and this rank in the arrays
pub record NodeIs (a b rank u : ℕ) (columns : TreeColumns) : Type 0 where
  pub left_is : slice_index columns.left u ≡ child_at a b u
  pub right_is : slice_index columns.right u ≡ child_at b a u
  pub rank_is : slice_index columns.rank u ≡ min rank 80
  pub need_is : slice_index columns.rows u ≡ need_at columns u (child_at a b u) (child_at b a u) % 256
  pub low_is : slice_index columns.low u ≡ low_at columns u (child_at a b u) % 256

-- node u is stored, a leaf also as that of its rank; every other node and rank, and the number of nodes, stay
pub record NodePut (u a b rank : ℕ) (old new : TreeColumns) : Type 0 where
  pub size : SizedColumns old → SizedColumns new
  pub is : SizedColumns old → NodeIs a b rank u new
  pub others : OthersKept u old new
  pub leaf_is : SizedColumns old → slice_index new.left u ≡ u → slice_index new.leaf (slice_index new.rank u) ≡ u
  pub leaves_kept : SizedColumns old → (r : ℕ) → r ≤ 80 → (slice_index new.left u ≡ u → slice_index new.rank u ≢ r)
      → slice_index new.leaf r ≡ slice_index old.leaf r
  pub nodes_kept : new.nodes ≡ old.nodes

-- the first n nodes are stored
pub record Gathered (n : ℕ) (left right rank : List ℕ) (nodes : ℕ) (columns : TreeColumns) : Type 0 where
  pub size : SizedColumns columns
  pub count : columns.nodes ≡ nodes
  pub each : (u : ℕ) → u < n → NodeIs (slice_index left u) (slice_index right u) (slice_index rank u) u columns
  pub leaf_of : (r : ℕ) → r ≤ 80 → LeafOf columns n r (slice_index columns.leaf r)
