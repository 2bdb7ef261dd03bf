-- Laws of tree arrays: their lengths, that a valid tree's arrays stand for it over its text, and how `tree_at` unfolds where the
-- arrays are good. The crates above cite these laws and not the definitions. Assumes nothing.
use Prim.Native.Nat.{ℕ, zero, suc, ◌+◌, ◌-◌, ◌*◌, ◌<◌, ◌≤◌}
use mathlib.Core.Path.{◌≡◌, refl, sym, ◌∙◌, ap, ap₂}
use mathlib.Core.Bool.{Bool, true, false, ◌&&◌}
use mathlib.Core.Logic.{◌⊎◌, inl, inr}
use mathlib.Core.List.{List, [], ◌∷◌, ◌++◌}
use native.Mathlib.Omega.{arith}
use native.Mathlib.Nat.{not-suc-le-zero, zero-add}
use native.Mathlib.Numerals.{add-one}
use lib.Dec.{eqb, ltb, leb}
use lib.ListN.{length, get_or, length-append}
use borrow.Author.Tests.{ltb-true, ltb-false, leb-true, eqb-false, lt-ltb, le-leb, eq-eqb, ne_eqb}
use Rattle.trees.specs.declared.TreeArrays.{TreeArrays}
use Rattle.trees.specs.Bytes.{open_byte, comma_byte, close_byte, semicolon_byte}
use Rattle.trees.specs.Label.{label_limit}
use Rattle.trees.specs.Token.{Token, spelling, good_label, good_labels, token_limit}
use Rattle.trees.specs.Tree.{Tree, leaf, node, leaves, Valid, leaf_limit}
use Rattle.trees.specs.Text.{written, text_of, tree_room}
use Rattle.trees.specs.Arrays.{node_limit, nodes_of, lefts, rights, starts, sizes, arrays_of}
use Rattle.trees.specs.Arrays.{label_at, is_leaf, good_node, good_nodes, tree_at, no_leaf, one_tree, no_tree, tree_of}
use Rattle.trees.specs.Stored.{part_of, leaf_label}
use Rattle.trees.proofs.Bools.{bool_cases, and_left, and_right, and_intro}
use Rattle.trees.proofs.ListLaws.{good_split, good_head, good_parts, loose_size}
use Rattle.trees.proofs.PlaceLaws.{At, at_whole, at_left, at_right, at_tail, at_head, at_take, second_part, last_element}

-- lengths

pub nodes_pos : (t : Tree) → 1 ≤ nodes_of t
unfolding nodes_of
nodes_pos (leaf x) = omega arith
nodes_pos (node a b) = omega arith

-- a binary tree has one inner node less than leaves
pub nodes_leaves : (t : Tree) → nodes_of t + 1 ≡ 2 * length (leaves t)
unfolding nodes_of leaves
nodes_leaves (leaf x) = refl
nodes_leaves (node a b) = omega (arith, nodes_leaves a, nodes_leaves b, length-append (leaves a) (leaves b))

joined_length : (l m : List ℕ) (x i j : ℕ) → length l ≡ i → length m ≡ j → length (l ++ (m ++ (x ∷ []))) ≡ i + j + 1
joined_length l m x i j e d = omega (arith, length-append l (m ++ (x ∷ [])), length-append m (x ∷ []))

pub lefts_length : (t : Tree) (n : ℕ) → length (lefts t n) ≡ nodes_of t
unfolding lefts nodes_of
lefts_length (leaf x) n = refl
lefts_length (node a b) n = joined_length (lefts a _) (lefts b _) _ (nodes_of a) (nodes_of b) (lefts_length a _) (lefts_length b _)

pub rights_length : (t : Tree) (n : ℕ) → length (rights t n) ≡ nodes_of t
unfolding rights nodes_of
rights_length (leaf x) n = refl
rights_length (node a b) n = joined_length (rights a _) (rights b _) _ (nodes_of a) (nodes_of b) (rights_length a _) (rights_length b _)

pub starts_length : (t : Tree) (p : ℕ) → length (starts t p) ≡ nodes_of t
unfolding starts nodes_of
starts_length (leaf x) p = refl
starts_length (node a b) p = joined_length (starts a _) (starts b _) _ (nodes_of a) (nodes_of b) (starts_length a _) (starts_length b _)

pub sizes_length : (t : Tree) → length (sizes t) ≡ nodes_of t
unfolding sizes nodes_of
sizes_length (leaf x) = refl
sizes_length (node a b) = joined_length (sizes a) (sizes b) 0 (nodes_of a) (nodes_of b) (sizes_length a) (sizes_length b)

-- 80 leaves have 159 nodes
pub few_nodes : (t : Tree) → Valid t → nodes_of t ≤ node_limit
few_nodes t v = omega (arith, nodes_leaves t, v.few)

-- labels of the children

pub good_first : (a b : Tree) → good_labels (leaves (node a b)) ≡ true → good_labels (leaves a) ≡ true
unfolding leaves
good_first a b h = (good_split (leaves a) (leaves b) h).0

pub good_second : (a b : Tree) → good_labels (leaves (node a b)) ≡ true → good_labels (leaves b) ≡ true
unfolding leaves
good_second a b h = (good_split (leaves a) (leaves b) h).1

-- text length

pub node_length : (a b : Tree) → length (written (node a b)) ≡ length (written a) + length (written b) + 3
unfolding written
node_length a b =
    omega (
      arith,
      length-append (written a) (comma_byte ∷ (written b ++ (close_byte ∷ []))),
      length-append (written b) (close_byte ∷ []),
    )

pub leaf_good : (x : Token) → good_labels (leaves (leaf x)) ≡ true → good_label x ≡ true
unfolding leaves
leaf_good x h = (good_head x [] h).0

-- a label takes at most its limit and two quotes, and each inner node writes three
pub written_short : (t : Tree) → good_labels (leaves t) ≡ true → length (written t) + 3 ≤ (token_limit + 3) * length (leaves t)
unfolding written leaves
written_short (leaf x) h =
    let g = good_parts x (leaf_good x h) in
    omega (arith, g.1, loose_size x g.0)
written_short (node a b) h =
    omega (
      arith,
      node_length a b,
      length-append (leaves a) (leaves b),
      written_short a (good_first a b h),
      written_short b (good_second a b h),
    )

pub text_short : (t : Tree) → Valid t → length (text_of t) ≤ tree_room
unfolding text_of
text_short t v = omega (arith, written_short t v.labels, length-append (written t) (semicolon_byte ∷ []), v.few)

-- good nodes

-- a good leaf's label lies in the text and is not too long
pub record LabelInside (a : TreeArrays) (text : List ℕ) (u : ℕ) : Type 0 where
  pub inside : get_or a.start u 0 + get_or a.size u 0 ≤ length text
  pub short : length (spelling (label_at a text u)) ≤ label_limit

pub label_inside : (a : TreeArrays) (text : List ℕ) (u : ℕ) → good_node a text u ≡ true → is_leaf a u ≡ true → LabelInside a text u
unfolding good_node
label_inside a text u g l =
    record {
      inside = leb-true (get_or a.start u 0 + get_or a.size u 0) (length text) (and_left first second h);
      short = leb-true (length (spelling (label_at a text u))) label_limit (and_right first second h);
    }
  where
    first : Bool
    first = leb (get_or a.start u 0 + get_or a.size u 0) (length text)

    second : Bool
    second = leb (length (spelling (label_at a text u))) label_limit

    h : (leb (get_or a.start u 0 + get_or a.size u 0) (length text) && leb (length (spelling (label_at a text u))) label_limit) ≡ true
    h = rw l at g

-- a good inner node's children have smaller numbers
pub record ChildrenBelow (a : TreeArrays) (u : ℕ) : Type 0 where
  pub left_below : get_or a.left u 0 < u
  pub right_below : get_or a.right u 0 < u

pub children_below : (a : TreeArrays) (text : List ℕ) (u : ℕ) → good_node a text u ≡ true → is_leaf a u ≡ false → ChildrenBelow a u
unfolding good_node
children_below a text u g l =
    record {
      left_below = ltb-true (get_or a.left u 0) u (and_left (ltb (get_or a.left u 0) u) (ltb (get_or a.right u 0) u) (rw l at g));
      right_below = ltb-true (get_or a.right u 0) u (and_right (ltb (get_or a.left u 0) u) (ltb (get_or a.right u 0) u) (rw l at g));
    }

pub good_leaf : (a : TreeArrays) (text : List ℕ) (u : ℕ) → is_leaf a u ≡ true → length (spelling (label_at a text u)) ≤ label_limit
    → get_or a.start u 0 + get_or a.size u 0 ≤ length text → good_node a text u ≡ true
unfolding good_node
good_leaf a text u l h k =
    rw (
      l,
      le-leb (get_or a.start u 0 + get_or a.size u 0) (length text) k,
      le-leb (length (spelling (label_at a text u))) label_limit h,
    )
    refl

-- a node with smaller children is no leaf
pub inner_not_leaf : (a : TreeArrays) (u : ℕ) → get_or a.left u 0 < u → is_leaf a u ≡ false
unfolding is_leaf
inner_not_leaf a u h = ne_eqb (get_or a.left u 0) u (λ (e : get_or a.left u 0 ≡ u). omega arith)

pub good_inner : (a : TreeArrays) (text : List ℕ) (u : ℕ) → get_or a.left u 0 < u → get_or a.right u 0 < u → good_node a text u ≡ true
unfolding good_node
good_inner a text u h k =
    rw (inner_not_leaf a u h, lt-ltb (get_or a.left u 0) u h, lt-ltb (get_or a.right u 0) u k) refl

pub all_good : (a : TreeArrays) (text : List ℕ) (m : ℕ) → ((u : ℕ) → u < m → good_node a text u ≡ true) → good_nodes a text m ≡ true
unfolding good_nodes
all_good a text zero f = refl
all_good a text (suc m) f =
    and_intro (good_nodes a text m) (good_node a text m)
    (all_good a text m (λ (u : ℕ) (h : u < m). f u (omega arith)))
    (f m (omega arith))

pub good_at : (a : TreeArrays) (text : List ℕ) (m : ℕ) → good_nodes a text m ≡ true → (u : ℕ) → u < m → good_node a text u ≡ true
unfolding good_nodes
good_at a text zero g u h = absurd (not-suc-le-zero h)
good_at a text (suc m) g u h = go (bool_cases (ltb u m)) (good_at a text m (and_left (good_nodes a text m) (good_node a text m) g) u)
  where
    go : (ltb u m ≡ true) ⊎ (ltb u m ≡ false) → (u < m → good_node a text u ≡ true) → good_node a text u ≡ true
    go (inl k) below = below (ltb-true u m k)
    go (inr k) below =
        let e : u ≡ m = omega (arith, ltb-false u m k) in
        rw e (and_right (good_nodes a text m) (good_node a text m) g)

-- a leaf of good arrays is shown
pub shown_label : (a : TreeArrays) (text : List ℕ) (u : ℕ) → good_node a text u ≡ true → is_leaf a u ≡ true
    → leaf_label text a.start a.size u ≡ label_at a text u
unfolding part_of label_at
shown_label a text u g l =
    rw (le-leb (get_or a.start u 0 + get_or a.size u 0) (length text) (label_inside a text u g l).inside) refl

-- how the tree below a node unfolds

pub tree_at_leaf : (room : ℕ) (a : TreeArrays) (text : List ℕ) (u : ℕ) → is_leaf a u ≡ true
    → tree_at (suc room) a text u ≡ leaf (label_at a text u)
unfolding tree_at
tree_at_leaf room a text u h = rw h refl

pub tree_at_node : (room : ℕ) (a : TreeArrays) (text : List ℕ) (u : ℕ) → is_leaf a u ≡ false
    → tree_at (suc room) a text u ≡ node (tree_at room a text (get_or a.left u 0)) (tree_at room a text (get_or a.right u 0))
unfolding tree_at
tree_at_node room a text u h = rw h refl

-- arrays all of whose nodes are good
module _ (a : TreeArrays) (text : List ℕ) (good : good_nodes a text a.nodes ≡ true) where
  -- room past a node's number changes nothing
  pub tree_at_rooms : (r s u : ℕ) → u < a.nodes → u < r → u < s → tree_at r a text u ≡ tree_at s a text u
  tree_at_rooms zero s u h k l = absurd (not-suc-le-zero k)
  tree_at_rooms (suc r) zero u h k l = absurd (not-suc-le-zero l)
  tree_at_rooms (suc r) (suc s) u h k l = go (bool_cases (is_leaf a u)) (tree_at_rooms r s)
    where
      go : (is_leaf a u ≡ true) ⊎ (is_leaf a u ≡ false)
          → ((v : ℕ) → v < a.nodes → v < r → v < s → tree_at r a text v ≡ tree_at s a text v)
          → tree_at (suc r) a text u ≡ tree_at (suc s) a text u
      go (inl e) below = tree_at_leaf r a text u e ∙ sym (tree_at_leaf s a text u e)
      go (inr e) below =
          let b = children_below a text u (good_at a text a.nodes good u h) e in
          tree_at_node r a text u e
          ∙ ap₂ node
          (below (get_or a.left u 0) (omega (arith, b.left_below)) (omega (arith, b.left_below)) (omega (arith, b.left_below)))
          (below (get_or a.right u 0) (omega (arith, b.right_below)) (omega (arith, b.right_below)) (omega (arith, b.right_below)))
          ∙ sym (tree_at_node s a text u e)

  pub tree_at_room : (room u : ℕ) → u < a.nodes → u < room → tree_at room a text u ≡ tree_at (u + 1) a text u
  tree_at_room room u h k = tree_at_rooms room (u + 1) u h k (omega arith)

  -- the tree of a leaf, and of an inner node by its children's, each with the least room
  pub tree_leaf : (u : ℕ) → is_leaf a u ≡ true → tree_at (u + 1) a text u ≡ leaf (label_at a text u)
  tree_leaf u e = rw (add-one u) (tree_at_leaf u a text u e)

  pub tree_node : (u : ℕ) → u < a.nodes → is_leaf a u ≡ false
      → tree_at (u + 1) a text u
      ≡ node (tree_at (get_or a.left u 0 + 1) a text (get_or a.left u 0)) (tree_at (get_or a.right u 0 + 1) a text (get_or a.right u 0))
  tree_node u h e =
      let b = children_below a text u (good_at a text a.nodes good u h) e in
      rw (add-one u)
      (tree_at_node u a text u e
      ∙ ap₂ node
      (tree_at_room u (get_or a.left u 0) (omega (arith, b.left_below)) b.left_below)
      (tree_at_room u (get_or a.right u 0) (omega (arith, b.right_below)) b.right_below))

-- a tree in the arrays from node n on, its text in the text from p on
pub record Holds (a : TreeArrays) (text : List ℕ) (t : Tree) (n p : ℕ) : Type 0 where
  pub left_at : At a.left n (lefts t n)
  pub right_at : At a.right n (rights t n)
  pub start_at : At a.start n (starts t p)
  pub size_at : At a.size n (sizes t)
  pub text_at : At text p (written t)
  pub inside : p + length (written t) ≤ length text

module _ (a : TreeArrays) (text : List ℕ) where
  module _ (x y : Tree) (n p : ℕ) (h : Holds a text (node x y) n p) where
    text_inner : At text (p + 1) (written x ++ (comma_byte ∷ (written y ++ (close_byte ∷ []))))
    unfolding written
    text_inner = at_tail text p open_byte (written x ++ (comma_byte ∷ (written y ++ (close_byte ∷ [])))) h.text_at

    holds_first : Holds a text x n (p + 1)
    unfolding lefts rights starts sizes
    holds_first =
        record {
          left_at = at_left a.left n (lefts x n) _ h.left_at;
          right_at = at_left a.right n (rights x n) _ h.right_at;
          start_at = at_left a.start n (starts x (p + 1)) _ h.start_at;
          size_at = at_left a.size n (sizes x) _ h.size_at;
          text_at = at_left text (p + 1) (written x) (comma_byte ∷ (written y ++ (close_byte ∷ []))) text_inner;
          inside = omega (arith, node_length x y, h.inside);
        }

    holds_second : Holds a text y (n + nodes_of x) (p + 1 + length (written x) + 1)
    unfolding lefts rights starts sizes
    holds_second =
        record {
          left_at =
              second_part a.left n (lefts x n) (lefts y (n + nodes_of x)) (n + nodes_of x - 1) (nodes_of x) (lefts_length x n)
              h.left_at;
          right_at =
              second_part a.right n (rights x n) (rights y (n + nodes_of x)) (n + nodes_of x + nodes_of y - 1) (nodes_of x)
              (rights_length x n) h.right_at;
          start_at =
              second_part a.start n (starts x (p + 1)) (starts y (p + 1 + length (written x) + 1)) 0 (nodes_of x)
              (starts_length x (p + 1)) h.start_at;
          size_at = second_part a.size n (sizes x) (sizes y) 0 (nodes_of x) (sizes_length x) h.size_at;
          text_at =
              at_left text (p + 1 + length (written x) + 1) (written y) (close_byte ∷ [])
              (at_tail text (p + 1 + length (written x)) comma_byte (written y ++ (close_byte ∷ []))
              (at_right text (p + 1) (written x) (comma_byte ∷ (written y ++ (close_byte ∷ []))) (length (written x)) refl text_inner));
          inside = omega (arith, node_length x y, h.inside);
        }

    -- the root of the two
    root_left : get_or a.left (n + nodes_of x + nodes_of y) 0 ≡ n + nodes_of x - 1
    unfolding lefts
    root_left =
        last_element a.left n (lefts x n) (lefts y (n + nodes_of x)) (n + nodes_of x - 1) (nodes_of x) (lefts_length x n) h.left_at
        (nodes_of y) (lefts_length y (n + nodes_of x))

    root_right : get_or a.right (n + nodes_of x + nodes_of y) 0 ≡ n + nodes_of x + nodes_of y - 1
    unfolding rights
    root_right =
        last_element a.right n (rights x n) (rights y (n + nodes_of x)) (n + nodes_of x + nodes_of y - 1) (nodes_of x) (rights_length x n) h.right_at
        (nodes_of y) (rights_length y (n + nodes_of x))

    root_left_below : get_or a.left (n + nodes_of x + nodes_of y) 0 < n + nodes_of x + nodes_of y
    root_left_below = omega (arith, root_left, nodes_pos x, nodes_pos y)

    root_right_below : get_or a.right (n + nodes_of x + nodes_of y) 0 < n + nodes_of x + nodes_of y
    root_right_below = omega (arith, root_right, nodes_pos x, nodes_pos y)

  module _ (x : Token) (n p : ℕ) (h : Holds a text (leaf x) n p) where
    held_leaf : is_leaf a n ≡ true
    unfolding is_leaf lefts
    held_leaf = eq-eqb (get_or a.left n 0) n (at_head a.left n n [] h.left_at)

    held_start : get_or a.start n 0 ≡ p
    unfolding starts
    held_start = at_head a.start n p [] h.start_at

    held_size : get_or a.size n 0 ≡ length x
    unfolding sizes
    held_size = at_head a.size n (length x) [] h.size_at

    held_inside : p + length x ≤ length text
    unfolding written
    held_inside = h.inside

    held_label : label_at a text n ≡ x
    unfolding label_at written
    held_label = rw (held_size, held_start) (at_take text p x held_inside h.text_at)

  -- the tree below the last node is the one that was put there
  pub held_tree : (t : Tree) (room n p : ℕ) → Holds a text t n p → nodes_of t ≤ room → tree_at room a text (n + nodes_of t - 1) ≡ t
  unfolding nodes_of
  held_tree (leaf x) zero n p h b = absurd (not-suc-le-zero b)
  held_tree (leaf x) (suc r) n p h b =
      let e : n + 1 - 1 ≡ n = omega arith in
      rw e (tree_at_leaf r a text n (held_leaf x n p h) ∙ ap leaf (held_label x n p h))
  held_tree (node x y) zero n p h b = absurd (omega arith)
  held_tree (node x y) (suc r) n p h b =
      let e : n + (nodes_of x + nodes_of y + 1) - 1 ≡ n + nodes_of x + nodes_of y = omega arith in
      rw e
      (tree_at_node r a text (n + nodes_of x + nodes_of y) (inner_not_leaf a (n + nodes_of x + nodes_of y) (root_left_below x y n p h))
      ∙ ap₂ node
      (ap (tree_at r a text) (root_left x y n p h) ∙ held_tree x r n (p + 1) (holds_first x y n p h) (omega arith))
      (ap (tree_at r a text) (root_right x y n p h)
      ∙ held_tree y r (n + nodes_of x) (p + 1 + length (written x) + 1) (holds_second x y n p h) (omega arith)))

  -- and all its nodes are good
  pub held_good : (t : Tree) (n p : ℕ) → Holds a text t n p → good_labels (leaves t) ≡ true → (k : ℕ) → k < nodes_of t → good_node a text (n + k) ≡ true
  unfolding nodes_of
  held_good (leaf x) n p h g k b =
      let e : n + k ≡ n = omega arith in
      rw e
      (good_leaf a text n (held_leaf x n p h) (rw (held_label x n p h) (good_parts x (leaf_good x g)).1)
      (omega (arith, held_size x n p h, held_start x n p h, held_inside x n p h)))
  held_good (node x y) n p h g k b =
      go (bool_cases (ltb k (nodes_of x))) (bool_cases (ltb k (nodes_of x + nodes_of y)))
      (held_good x n (p + 1) (holds_first x y n p h) (good_first x y g))
      (held_good y (n + nodes_of x) (p + 1 + length (written x) + 1) (holds_second x y n p h) (good_second x y g))
    where
      go : (ltb k (nodes_of x) ≡ true) ⊎ (ltb k (nodes_of x) ≡ false)
          → (ltb k (nodes_of x + nodes_of y) ≡ true) ⊎ (ltb k (nodes_of x + nodes_of y) ≡ false)
          → ((i : ℕ) → i < nodes_of x → good_node a text (n + i) ≡ true)
          → ((i : ℕ) → i < nodes_of y → good_node a text (n + nodes_of x + i) ≡ true)
          → good_node a text (n + k) ≡ true
      go (inl c) d f s = f k (ltb-true k (nodes_of x) c)
      go (inr c) (inl d) f s =
          let e : n + k ≡ n + nodes_of x + (k - nodes_of x) = omega (arith, ltb-false k (nodes_of x) c) in
          rw e (s (k - nodes_of x) (omega (arith, ltb-true k (nodes_of x + nodes_of y) d, ltb-false k (nodes_of x) c)))
      go (inr c) (inr d) f s =
          let e : n + k ≡ n + nodes_of x + nodes_of y = omega (arith, ltb-false k (nodes_of x + nodes_of y) d) in
          rw e (good_inner a text (n + nodes_of x + nodes_of y) (root_left_below x y n p h) (root_right_below x y n p h))

-- a tree's own arrays hold it, over its own text
pub own_arrays : (t : Tree) → Holds (arrays_of t) (text_of t) t 0 0
unfolding arrays_of text_of
own_arrays t =
    record {
      left_at = at_whole (lefts t 0) _;
      right_at = at_whole (rights t 0) _;
      start_at = at_whole (starts t 0) _;
      size_at = at_whole (sizes t) _;
      text_at = at_whole (written t) (semicolon_byte ∷ []);
      inside = omega (arith, length-append (written t) (semicolon_byte ∷ []));
    }

-- what it takes that arrays stand for a tree
pub record Stands (a : TreeArrays) (text : List ℕ) (t : Tree) : Type 0 where
  pub some : 1 ≤ a.nodes
  pub fits : a.nodes ≤ node_limit
  pub good : good_nodes a text a.nodes ≡ true
  pub tree : tree_at a.nodes a text (a.nodes - 1) ≡ t
  pub few : length (leaves t) ≤ leaf_limit

pub stands_tree : (a : TreeArrays) (text : List ℕ) (t : Tree) → Stands a text t → tree_of a text ≡ one_tree t
unfolding tree_of
stands_tree a text t s =
    rw (
      ne_eqb a.nodes 0 (λ (e : a.nodes ≡ 0). omega (arith, s.some)),
      le-leb a.nodes node_limit s.fits,
      s.good,
      s.tree,
      le-leb (length (leaves t)) leaf_limit s.few,
    )
    refl

sound_arrays : TreeArrays → List ℕ → Bool
sound_arrays a text = leb a.nodes node_limit && good_nodes a text a.nodes

few_leaves : TreeArrays → List ℕ → Bool
few_leaves a text = leb (length (leaves (tree_at a.nodes a text (a.nodes - 1)))) leaf_limit

none_not_one : (t : Tree) → no_leaf ≡ one_tree t → ⊥
none_not_one t h = let z : ◌≡◌ {A = ℕ} 0 1 = cc in omega arith

bad_not_one : (t : Tree) → no_tree ≡ one_tree t → ⊥
bad_not_one t h = let z : ◌≡◌ {A = ℕ} 0 1 = cc in omega arith

one_tree_eq : (s t : Tree) → one_tree s ≡ one_tree t → s ≡ t
one_tree_eq s t h = cc

pub tree_stands : (a : TreeArrays) (text : List ℕ) (t : Tree) → tree_of a text ≡ one_tree t → Stands a text t
unfolding tree_of sound_arrays few_leaves
tree_stands a text t h = go (bool_cases (eqb a.nodes 0)) (bool_cases (sound_arrays a text && few_leaves a text))
  where
    go : (eqb a.nodes 0 ≡ true) ⊎ (eqb a.nodes 0 ≡ false)
        → ((sound_arrays a text && few_leaves a text) ≡ true) ⊎ ((sound_arrays a text && few_leaves a text) ≡ false) → Stands a text t
    go (inl e) f = absurd (none_not_one t (rw e at h))
    go (inr e) (inr f) = absurd (bad_not_one t (rw (e, f) at h))
    go (inr e) (inl f) =
        let d = one_tree_eq (tree_at a.nodes a text (a.nodes - 1)) t (rw (e, f) at h) in
        let g = and_left (sound_arrays a text) (few_leaves a text) f in
        let k = leb-true (length (leaves (tree_at a.nodes a text (a.nodes - 1)))) leaf_limit (and_right (sound_arrays a text) (few_leaves a text) f) in
        record {
          some = omega (arith, eqb-false a.nodes 0 e);
          fits = leb-true a.nodes node_limit (and_left (leb a.nodes node_limit) (good_nodes a text a.nodes) g);
          good = and_right (leb a.nodes node_limit) (good_nodes a text a.nodes) g;
          tree = d;
          few = rw d at k;
        }

-- the arrays of a valid tree stand for it over its text
pub own_stands : (t : Tree) → Valid t → Stands (arrays_of t) (text_of t) t
unfolding arrays_of
own_stands t v =
    record {
      some = nodes_pos t;
      fits = few_nodes t v;
      good =
          all_good (arrays_of t) (text_of t) (nodes_of t)
          (λ (u : ℕ) (h : u < nodes_of t).
          rw zero-add at (held_good (arrays_of t) (text_of t) t 0 0 (own_arrays t) v.labels u h));
      tree = rw zero-add at (held_tree (arrays_of t) (text_of t) t (nodes_of t) 0 0 (own_arrays t) (omega arith));
      few = v.few;
    }

pub stands : (t : Tree) → Valid t → tree_of (arrays_of t) (text_of t) ≡ one_tree t
stands t v = stands_tree (arrays_of t) (text_of t) t (own_stands t v)
