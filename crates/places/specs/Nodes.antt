-- What the passes over a tree's nodes compute: required leaves below a node, the number of its place, the rank of that place's head.
-- Intermediate: nothing public rests on this text.
use Rattle.std.specs.Prelude.{ℕ, suc, ◌+◌, ◌-◌, ◌*◌, ◌<◌, ◌≤◌, min, ◌≡◌, Bool, true, false, cond, not, ◌&&◌, List, [], ◌∷◌, eqb, ltb, leb, length, map, get_or, set, Option, Some, None}
use Rattle.places.specs.declared.downward.NodePlace.{NodePlace}
use Rattle.places.specs.declared.upward.Below.{Below}
use Rattle.trees.specs.declared.TreeArrays.{TreeArrays}
use Rattle.trees.specs.Label.{Label, same_label, is_in}
use Rattle.trees.specs.Tree.{Tree, leaf, node, Proper}
use Rattle.trees.specs.Arrays.{nodes_of, arrays_of}
use Rattle.trees.specs.Postorder.{postorder, subtree}
use Rattle.leaves.specs.Numbered.{LeafIs}
use Rattle.agreement.specs.Closer.{holds}
use Rattle.agreement.specs.Sets.{increasing}
use Rattle.table.specs.Choice.{Ranked, Marked}
use Rattle.pieces.specs.Pieces.{required_in, line_in}

-- by node or by rank: how many required leaves are below, and the least of their ranks; a place's number, and its head's rank
abbrev pub manys : List Below → List ℕ
manys bs = map (λ (b : Below). b.many) bs

abbrev pub leasts : List Below → List ℕ
leasts bs = map (λ (b : Below). b.least) bs

abbrev pub numbers : List NodePlace → List ℕ
numbers ps = map (λ (p : NodePlace). p.number) ps

abbrev pub tops : List NodePlace → List ℕ
tops ps = map (λ (p : NodePlace). p.top) ps

-- a tree by its arrays, its leaves' ranks among the labels of C, and the required labels K by rank
pub record TreeRanks (t : Tree) (C K : List Label) (tree : TreeArrays) (rank : List ℕ) (m : ℕ) (number : List ℕ) : Type 0 where
  pub proper : Proper t
  pub nodes_are : tree.nodes ≡ nodes_of t
  pub left_are : tree.left ≡ (arrays_of t).left
  pub right_are : tree.right ≡ (arrays_of t).right
  pub ranked : Ranked t C rank
  pub marked : Marked C K number
  pub all : m ≡ length C
  pub few : length C ≤ 80
  pub ordered : increasing C ≡ true
  pub required_few : length K ≤ 80
  pub within : (x : Label) → is_in x K ≡ true → is_in x C ≡ true
  pub held : (x : Label) → is_in x C ≡ true → holds t x ≡ true

-- node u with the children a and b in the arrays is an inner node
abbrev pub is_inner : ℕ → ℕ → ℕ → Bool
is_inner a b u = ltb a u && ltb b u

-- the label of this rank is required
unfoldable pub required_at : List ℕ → ℕ → ℕ → Bool
required_at number rank m = cond (ltb rank m) (not (eqb (get_or number rank 0) 0)) false

-- required leaves below node u, from those below its children; of a leaf, whether it is required
unfoldable pub many_at : List ℕ → ℕ → ℕ → ℕ → Bool → ℕ
many_at many a b u required = cond (is_inner a b u) (get_or many a 0 + get_or many b 0) (cond required 1 0)

-- the least of their ranks, 80 for none
unfoldable pub least_rank_at : List ℕ → ℕ → ℕ → ℕ → Bool → ℕ → ℕ
least_rank_at least a b u required rank = cond (is_inner a b u) (min (get_or least a 0) (get_or least b 0)) (cond required rank 80)

-- the rank of a label that C has
unfoldable pub rank_among : List Label → Label → ℕ
unfolding same_label
rank_among [] x = 0
rank_among (c ∷ cs) x = cond (same_label x c) 0 (suc (rank_among cs x))

-- the least rank of a required leaf, 80 for none
unfoldable pub least_rank : List Label → List Label → Tree → ℕ
unfolding is_in rank_among
least_rank C K (leaf x) = cond (is_in x K) (rank_among C x) 80
least_rank C K (node p q) = min (least_rank C K p) (least_rank C K q)

-- the first n nodes are right
pub record BelowIs (t : Tree) (C K : List Label) (n : ℕ) (many least : List ℕ) : Type 0 where
  pub many_is : (u : ℕ) → u < n → get_or many u 0 ≡ required_in K (subtree (postorder t) u)
  pub least_is : (u : ℕ) → u < n → get_or least u 0 ≡ least_rank C K (subtree (postorder t) u)

-- the number below a node, from the required leaves of the child and of its sibling and the least rank of each
unfoldable pub child_number : ℕ → ℕ → ℕ → ℕ → ℕ → ℕ
child_number p q least other n = cond (leb 1 p && leb 1 q) (cond (ltb least other) (n - 2 * q) (n - 1)) n

-- the rank of the head: the least of the child if its place is its own, else that of the node
unfoldable pub child_top : ℕ → ℕ → ℕ → ℕ → ℕ
child_top p q least top = cond (leb 1 p && leb 1 q) least top

-- from the root down to a leaf: f gives a child's number from the child, its sibling and the node's number
unfoldable pub down_in : (Tree → Tree → ℕ → ℕ) → Tree → Label → ℕ → ℕ
unfolding holds
down_in f (leaf y) x n = n
down_in f (node p q) x n = cond (holds p x) (down_in f p x (f p q n)) (down_in f q x (f q p n))

unfoldable pub top_below : List Label → List Label → Tree → Tree → ℕ → ℕ
unfolding child_top least_rank required_in
top_below C K p q top = child_top (required_in K p) (required_in K q) (least_rank C K p) top

-- the rank of the head of the line at which a leaf hangs
unfoldable pub top_in : List Label → List Label → Tree → Label → ℕ
unfolding down_in top_below least_rank
top_in C K t x = down_in (top_below C K) t x (least_rank C K t)

-- node u passes its number and its head on to its children
pub record PassedOn (many least : List ℕ) (a b u : ℕ) (number top number' top' : List ℕ) : Type 0 where
  pub numbers : a < u → b < u → number'
      ≡ set (set number a (child_number (get_or many a 0) (get_or many b 0) (get_or least a 0) (get_or least b 0) (get_or number u 0))) b
      (child_number (get_or many b 0) (get_or many a 0) (get_or least b 0) (get_or least a 0) (get_or number u 0))
  pub tops : a < u → b < u → top'
      ≡ set (set top a (child_top (get_or many a 0) (get_or many b 0) (get_or least a 0) (get_or top u 0))) b
      (child_top (get_or many b 0) (get_or many a 0) (get_or least b 0) (get_or top u 0))
  pub sizes : (length number' ≡ length number) × (length top' ≡ length top)
  pub leaf_kept : u ≤ a → (number' ≡ number) × (top' ≡ top)

-- each leaf has the number of its place and the rank of that place's head
pub record LeafNumbers (t : Tree) (C K : List Label) (number top : List ℕ) : Type 0 where
  pub number_is : (u : ℕ) (x : Label) → LeafIs t u x → get_or number u 0 ≡ line_in K t x (2 * length K - 2)
  pub top_is : (u : ℕ) (x : Label) → LeafIs t u x → get_or top u 0 ≡ top_in C K t x

-- the values of the leaves among the first n nodes, by rank
abbrev pub ValuesByRank : Tree → List Label → ℕ → List ℕ → List ℕ → Type 0
ValuesByRank t C n values out =
    (r u : ℕ) → r < length C → u < n → LeafIs t u (get_or C r []) → get_or out r 0 ≡ get_or values u 0

-- by rank, the number of a label's place and the rank of that place's head
pub record RankNumbers (t : Tree) (C K : List Label) (line top : List ℕ) : Type 0 where
  pub line_is : (r : ℕ) → r < length C → get_or line r 0 ≡ line_in K t (get_or C r []) (2 * length K - 2)
  pub top_is : (r : ℕ) → r < length C → get_or top r 0 ≡ top_in C K t (get_or C r [])

-- a leaf's line: 159 if it is required, or if its places differ
unfoldable pub line_at : ℕ → ℕ → ℕ → ℕ
line_at number one two = cond (eqb number 0) (cond (eqb one two) (min one 159) 159) 159

-- the head stored for line j is that of one of its leaves; none if it has no leaf
pub data HeadOn (m : ℕ) (line tops : List ℕ) (j : ℕ) (h : Option ℕ) : Type 0 where
  no_leaf : h ≡ None → ((r : ℕ) → r < m → get_or line r 0 ≡ j → ⊥) → HeadOn m line tops j h
  leaf_there : (r : ℕ) → r < m → get_or line r 0 ≡ j → h ≡ Some (get_or tops r 0) → HeadOn m line tops j h

-- the first m ranks have their lines, and the lines their heads
pub record LinesByRank (m : ℕ) (number one two tops line : List ℕ) (heads : List (Option ℕ)) : Type 0 where
  pub each : (r : ℕ) → r < m → get_or line r 0 ≡ line_at (get_or number r 0) (get_or one r 0) (get_or two r 0)
  pub head_on : (j : ℕ) → j < 160 → HeadOn m line tops j (get_or heads j None)
