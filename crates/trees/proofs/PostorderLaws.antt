-- The subtrees of a tree in postorder: how many there are, that the arrays of a tree are laid out by them, which leaves they
-- hold, that two of them which share a leaf are nested, and that each but the whole tree has a parent. Assumes nothing.
use Prim.Native.Nat.{ℕ, zero, suc, ◌+◌, ◌-◌, ◌<◌, ◌≤◌}
use mathlib.Core.Path.{◌≡◌, refl, sym, ◌∙◌, ap, ap₂, subst}
use mathlib.Core.Logic.{◌⊎◌, inl, inr, ⊎_elim}
use mathlib.Core.Bool.{Bool, true, false}
use mathlib.Core.List.{List, [], ◌∷◌, ◌++◌, append_assoc}
use native.Mathlib.Omega.{arith}
use native.Mathlib.Decide.{dec_lt}
use lib.ListN.{length, get_or, take, drop, length-append, get_or-append}
use lib.Seq.{get_or-append-add, get_or-append_seam, take_at, drop_at}
use Rattle.trees.specs.Label.{Label, is_in, distinct}
use Rattle.trees.specs.Tree.{Tree, leaf, node, leaves}
use Rattle.trees.specs.Text.{written, text_of}
use Rattle.trees.specs.Bytes.{open_byte, comma_byte, close_byte, semicolon_byte}
use Rattle.trees.specs.Arrays.{nodes_of, lefts, rights, starts, sizes}
use Rattle.trees.specs.Postorder.{postorder, subtree, LaidNode, laid_leaf, laid_node, Laid, leaf_labels}
use Rattle.trees.proofs.ListLaws.{in_one_lem, in_one_eq, in_left, in_right, in_cases, distinct_left, distinct_right, distinct_apart}
use Rattle.trees.proofs.Bools.{clash}
use Rattle.trees.proofs.ArrayLaws.{nodes_pos, lefts_length, rights_length, starts_length, sizes_length}

pub length_postorder : (t : Tree) → length (postorder t) ≡ nodes_of t
unfolding postorder nodes_of
length_postorder (leaf x) = refl
length_postorder (node a b) =
    simp (length-append) (omega (arith, length_postorder a, length_postorder b))

-- where place i of a list in three parts, the last of one element, stands
pub data Third (m k i : ℕ) : Type 0 where
  in_first_lem : i < m → Third m k i
  in_second_lem : (j : ℕ) → j < k → i ≡ m + j → Third m k i
  at_last : i ≡ m + k → Third m k i

pub third : (m k i : ℕ) → i < m + k + 1 → Third m k i
third m k i h = go (dec_lt i m) (dec_lt i (m + k))
  where
    go : Dec (i < m) → Dec (i < m + k) → Third m k i
    go (yes l) d = in_first_lem l
    go (no l) (yes r) = in_second_lem (i - m) (omega arith) (omega arith)
    go (no l) (no r) = at_last (omega arith)

module _ {A : Type 0} (xs ys : List A) (z d : A) where
  pub third_first : (i : ℕ) → i < length xs → get_or (xs ++ (ys ++ (z ∷ []))) i d ≡ get_or xs i d
  third_first i h = get_or-append xs (ys ++ (z ∷ [])) d i h

  pub third_second : (m i j : ℕ) → length xs ≡ m → j < length ys → i ≡ m + j → get_or (xs ++ (ys ++ (z ∷ []))) i d ≡ get_or ys j d
  third_second m i j e h k =
      rw (k, ← e) (get_or-append-add xs (ys ++ (z ∷ [])) j d ∙ get_or-append ys (z ∷ []) d j h)

  pub third_last : (m k i : ℕ) → length xs ≡ m → length ys ≡ k → i ≡ m + k → get_or (xs ++ (ys ++ (z ∷ []))) i d ≡ z
  third_last m k i e f g =
      rw (g, ← e, ← f) (get_or-append-add xs (ys ++ (z ∷ [])) (length ys) d ∙ get_or-append_seam ys z [] d)

-- the root is last
pub root_last : (t : Tree) (i : ℕ) → i + 1 ≡ nodes_of t → subtree (postorder t) i ≡ t
unfolding postorder nodes_of
root_last (leaf x) zero h = refl
root_last (leaf x) (suc i) h = absurd (omega arith)
root_last (node a b) i h =
    third_last (postorder a) (postorder b) (node a b) (leaf []) (nodes_of a) (nodes_of b) i (length_postorder a) (length_postorder b)
    (omega arith)

-- ts has the postorder of t from n on
abbrev From : List Tree → ℕ → Tree → Type 0
From ts n t = (i : ℕ) → i < nodes_of t → subtree ts (n + i) ≡ subtree (postorder t) i

module _ (ts : List Tree) (a b : Tree) (n : ℕ) (f : From ts n (node a b)) where
  from_left : From ts n a
  unfolding postorder nodes_of
  from_left i h =
      f i (omega arith) ∙ third_first (postorder a) (postorder b) (node a b) (leaf []) i (omega (arith, length_postorder a))

  from_right : From ts (n + nodes_of a) b
  unfolding postorder nodes_of
  from_right j h =
      ap (subtree ts) (omega arith) ∙ f (nodes_of a + j) (omega arith)
      ∙ third_second (postorder a) (postorder b) (node a b) (leaf []) (nodes_of a) (nodes_of a + j) j (length_postorder a)
      (omega (arith, length_postorder b)) refl

  from_root : (i : ℕ) → i ≡ nodes_of a + nodes_of b → subtree ts (n + i) ≡ node a b
  unfolding postorder nodes_of
  from_root i e =
      f i (omega arith)
      ∙ third_last (postorder a) (postorder b) (node a b) (leaf []) (nodes_of a) (nodes_of b) i (length_postorder a)
      (length_postorder b) e

-- the last node of a part that holds the postorder of t is t
part_root : (ts : List Tree) (t : Tree) (n k : ℕ) → From ts n t → k + 1 ≡ n + nodes_of t → subtree ts k ≡ t
part_root ts t n k f e =
    ap (subtree ts) (omega (arith, nodes_pos t)) ∙ f (k - n) (omega (arith, nodes_pos t))
    ∙ root_last t (k - n) (omega (arith, nodes_pos t))

abbrev LaidFrom : List Tree → Tree → ℕ → Type 0
LaidFrom ts t n =
    (i : ℕ) → i < nodes_of t → LaidNode ts (get_or (lefts t n) i 0) (get_or (rights t n) i 0) (n + i) (subtree ts (n + i))

laid_split : (ts : List Tree) (a b : Tree) (n : ℕ) → From ts n (node a b) → LaidFrom ts a n → LaidFrom ts b (n + nodes_of a)
    → (i : ℕ) → Third (nodes_of a) (nodes_of b) i
    → LaidNode ts (get_or (lefts (node a b) n) i 0) (get_or (rights (node a b) n) i 0) (n + i) (subtree ts (n + i))
unfolding lefts rights
laid_split ts a b n f p q i (in_first_lem h) =
    rw (
      third_first (lefts a n) (lefts b (n + nodes_of a)) (n + nodes_of a - 1) 0 i (omega (arith, lefts_length a n)),
      third_first (rights a n) (rights b (n + nodes_of a)) (n + nodes_of a + nodes_of b - 1) 0 i (omega (arith, rights_length a n)),
    )
    (p i h)
laid_split ts a b n f p q i (in_second_lem j h e) =
    rw (
      third_second (lefts a n) (lefts b (n + nodes_of a)) (n + nodes_of a - 1) 0 (nodes_of a) i j (lefts_length a n)
          (omega (arith, lefts_length b (n + nodes_of a))) e,
      third_second (rights a n) (rights b (n + nodes_of a)) (n + nodes_of a + nodes_of b - 1) 0 (nodes_of a) i j (rights_length a n)
          (omega (arith, rights_length b (n + nodes_of a))) e,
    )
    (subst (λ (k : ℕ). LaidNode ts (get_or (lefts b (n + nodes_of a)) j 0) (get_or (rights b (n + nodes_of a)) j 0) k (subtree ts k))
    (omega arith) (q j h))
laid_split ts a b n f p q i (at_last e) =
    rw (
      third_last (lefts a n) (lefts b (n + nodes_of a)) (n + nodes_of a - 1) 0 (nodes_of a) (nodes_of b) i (lefts_length a n)
          (lefts_length b (n + nodes_of a)) e,
      third_last (rights a n) (rights b (n + nodes_of a)) (n + nodes_of a + nodes_of b - 1) 0 (nodes_of a) (nodes_of b) i
          (rights_length a n) (rights_length b (n + nodes_of a)) e,
      from_root ts a b n f i e,
    )
    (subst (λ (x : Tree). LaidNode ts (n + nodes_of a - 1) (n + nodes_of a + nodes_of b - 1) (n + i) x)
    (ap₂ node (part_root ts a n (n + nodes_of a - 1) (from_left ts a b n f) (omega (arith, nodes_pos a)))
    (part_root ts b (n + nodes_of a) (n + nodes_of a + nodes_of b - 1) (from_right ts a b n f) (omega (arith, nodes_pos b))))
    (laid_node (omega (arith, nodes_pos a, nodes_pos b)) (omega (arith, nodes_pos a, nodes_pos b))))

laid_from : (ts : List Tree) (t : Tree) (n : ℕ) → From ts n t → LaidFrom ts t n
unfolding lefts rights nodes_of postorder
laid_from ts (leaf x) n f zero h = rw (f zero h) (laid_leaf (omega arith))
laid_from ts (leaf x) n f (suc i) h = absurd (omega arith)
laid_from ts (node a b) n f i h =
    laid_split ts a b n f (laid_from ts a n (from_left ts a b n f)) (laid_from ts b (n + nodes_of a) (from_right ts a b n f)) i
    (third (nodes_of a) (nodes_of b) i h)

-- the arrays of a tree, padded as may be, are laid out by its subtrees in postorder
pub laid_arrays : (t : Tree) (p q : List ℕ) → Laid (lefts t 0 ++ p) (rights t 0 ++ q) (postorder t)
laid_arrays t p q u h =
    rw (
      get_or-append (lefts t 0) p 0 u (omega (arith, lefts_length t 0, length_postorder t)),
      get_or-append (rights t 0) q 0 u (omega (arith, rights_length t 0, length_postorder t)),
    )
    (subst (λ (k : ℕ). LaidNode (postorder t) (get_or (lefts t 0) u 0) (get_or (rights t 0) u 0) k (subtree (postorder t) k))
    (omega arith) (laid_from (postorder t) t 0 (λ i l. ap (subtree (postorder t)) (omega arith)) u (omega (arith, length_postorder t))))

-- the leaves among the subtrees are the leaves, from left to right
labels_append : (xs ys : List Tree) → leaf_labels (xs ++ ys) ≡ leaf_labels xs ++ leaf_labels ys
unfolding leaf_labels
labels_append [] ys = refl
labels_append (leaf x ∷ xs) ys = ap (◌∷◌ x) (labels_append xs ys)
labels_append (node a b ∷ xs) ys = labels_append xs ys

append-nil : (xs : List Label) → xs ++ [] ≡ xs
append-nil [] = refl
append-nil (x ∷ xs) = ap (◌∷◌ x) (append-nil xs)

pub leaf_labels_lem : (t : Tree) → leaf_labels (postorder t) ≡ leaves t
unfolding postorder leaves leaf_labels
leaf_labels_lem (leaf x) = refl
leaf_labels_lem (node a b) =
    labels_append (postorder a) (postorder b ++ (node a b ∷ []))
    ∙ ap₂ ◌++◌ (leaf_labels_lem a) (labels_append (postorder b) (node a b ∷ []) ∙ append-nil (leaf_labels (postorder b)) ∙ leaf_labels_lem b)

-- what holds of a tree and is handed down to children holds of each subtree
module _ (P : Tree → Type 0) (down-left : (a b : Tree) → P (node a b) → P a) (down-right : (a b : Tree) → P (node a b) → P b) where
  each_split : (a b : Tree) → P (node a b) → ((i : ℕ) → i < nodes_of a → P (subtree (postorder a) i))
      → ((i : ℕ) → i < nodes_of b → P (subtree (postorder b) i)) → (i : ℕ) → Third (nodes_of a) (nodes_of b) i
      → P (subtree (postorder (node a b)) i)
  unfolding postorder
  each_split a b h p q i (in_first_lem l) =
      rw (third_first (postorder a) (postorder b) (node a b) (leaf []) i (omega (arith, length_postorder a))) (p i l)
  each_split a b h p q i (in_second_lem j l e) =
      rw (third_second (postorder a) (postorder b) (node a b) (leaf []) (nodes_of a) i j (length_postorder a)
      (omega (arith, length_postorder b)) e)
      (q j l)
  each_split a b h p q i (at_last e) =
      rw (third_last (postorder a) (postorder b) (node a b) (leaf []) (nodes_of a) (nodes_of b) i (length_postorder a)
      (length_postorder b) e)
      h

  pub each_subtree : (t : Tree) → P t → (i : ℕ) → i < nodes_of t → P (subtree (postorder t) i)
  unfolding nodes_of postorder
  each_subtree (leaf x) h zero l = h
  each_subtree (leaf x) h (suc i) l = absurd (omega arith)
  each_subtree (node a b) h i l =
      each_split a b h (each_subtree a (down-left a b h)) (each_subtree b (down-right a b h)) i (third (nodes_of a) (nodes_of b) i l)

-- each subtree has no more leaves than the tree, and all are the tree's
pub subtree_few : (n : ℕ) (t : Tree) → length (leaves t) ≤ n → (i : ℕ) → i < nodes_of t
    → length (leaves (subtree (postorder t) i)) ≤ n
unfolding leaves
subtree_few n =
    each_subtree (λ s. length (leaves s) ≤ n) (λ a b h. omega (arith, length-append (leaves a) (leaves b)))
    (λ a b h. omega (arith, length-append (leaves a) (leaves b)))

pub subtree_in : (t : Tree) (i : ℕ) → i < nodes_of t → (x : Label) → is_in x (leaves (subtree (postorder t) i)) ≡ true
    → is_in x (leaves t) ≡ true
unfolding leaves
subtree_in t i h x =
    each_subtree (λ s. is_in x (leaves s) ≡ true → is_in x (leaves t) ≡ true) (λ a b k m. k (in_left x (leaves a) (leaves b) m))
    (λ a b k m. k (in_right x (leaves a) (leaves b) m)) t (λ m. m) i h

-- the three parts of a node's postorder
module _ (a b : Tree) (i : ℕ) where
  pub at_left : i < nodes_of a → subtree (postorder (node a b)) i ≡ subtree (postorder a) i
  unfolding postorder
  at_left h = third_first (postorder a) (postorder b) (node a b) (leaf []) i (omega (arith, length_postorder a))

  pub at_right : (j : ℕ) → j < nodes_of b → i ≡ nodes_of a + j → subtree (postorder (node a b)) i ≡ subtree (postorder b) j
  unfolding postorder
  at_right j h e =
      third_second (postorder a) (postorder b) (node a b) (leaf []) (nodes_of a) i j (length_postorder a)
      (omega (arith, length_postorder b)) e

  pub at_root : i ≡ nodes_of a + nodes_of b → subtree (postorder (node a b)) i ≡ node a b
  unfolding postorder
  at_root e =
      third_last (postorder a) (postorder b) (node a b) (leaf []) (nodes_of a) (nodes_of b) i (length_postorder a)
      (length_postorder b) e

abbrev Inside : Tree → Tree → Type 0
Inside s t = (x : Label) → is_in x (leaves s) ≡ true → is_in x (leaves t) ≡ true

abbrev Nested : Tree → Type 0
Nested t =
    (i j : ℕ) → i < j → j < nodes_of t → (x : Label) → is_in x (leaves (subtree (postorder t) i)) ≡ true
    → is_in x (leaves (subtree (postorder t) j)) ≡ true → Inside (subtree (postorder t) i) (subtree (postorder t) j)

nested_split : (a b : Tree) → distinct (leaves (node a b)) ≡ true → Nested a → Nested b → (i j : ℕ) → i < j → (x : Label)
    → is_in x (leaves (subtree (postorder (node a b)) i)) ≡ true → is_in x (leaves (subtree (postorder (node a b)) j)) ≡ true
    → Third (nodes_of a) (nodes_of b) i → Third (nodes_of a) (nodes_of b) j
    → Inside (subtree (postorder (node a b)) i) (subtree (postorder (node a b)) j)
unfolding leaves
nested_split a b d p q i j l x hi hj (in_first_lem ki) (in_first_lem kj) =
    rw (at_left a b i ki, at_left a b j kj) (p i j l kj x (rw (at_left a b i ki) at hi) (rw (at_left a b j kj) at hj))
nested_split a b d p q i j l x hi hj (in_first_lem ki) (in_second_lem m km e) =
    clash (subtree_in b m km x (rw (at_right a b j m km e) at hj))
    (distinct_apart (leaves a) (leaves b) d x (subtree_in a i ki x (rw (at_left a b i ki) at hi)))
nested_split a b d p q i j l x hi hj (in_first_lem ki) (at_last e) =
    rw (at_left a b i ki, at_root a b j e) (λ y m. in_left y (leaves a) (leaves b) (subtree_in a i ki y m))
nested_split a b d p q i j l x hi hj (in_second_lem m km e) (in_first_lem kj) = absurd (omega arith)
nested_split a b d p q i j l x hi hj (in_second_lem m km e) (in_second_lem n kn f) =
    rw (at_right a b i m km e, at_right a b j n kn f)
    (q m n (omega arith) kn x (rw (at_right a b i m km e) at hi) (rw (at_right a b j n kn f) at hj))
nested_split a b d p q i j l x hi hj (in_second_lem m km e) (at_last f) =
    rw (at_right a b i m km e, at_root a b j f) (λ y k. in_right y (leaves a) (leaves b) (subtree_in b m km y k))
nested_split a b d p q i j l x hi hj (at_last e) (in_first_lem kj) = absurd (omega arith)
nested_split a b d p q i j l x hi hj (at_last e) (in_second_lem n kn f) = absurd (omega arith)
nested_split a b d p q i j l x hi hj (at_last e) (at_last f) = absurd (omega arith)

-- two subtrees that share a leaf are nested, and the later one is the larger
pub nested : (t : Tree) → distinct (leaves t) ≡ true → Nested t
unfolding nodes_of leaves
nested (leaf y) d i zero l h x hi hj = absurd (omega arith)
nested (leaf y) d i (suc j) l h x hi hj = absurd (omega arith)
nested (node a b) d i j l h x hi hj =
    nested_split a b d (nested a (distinct_left (leaves a) (leaves b) d)) (nested b (distinct_right (leaves a) (leaves b) d)) i j l x
    hi hj (third (nodes_of a) (nodes_of b) i (omega arith)) (third (nodes_of a) (nodes_of b) j (omega arith))

-- a leaf's number
pub record LeafAt (t : Tree) (x : Label) : Type 0 where
  pub at : ℕ
  pub below : at < nodes_of t
  pub is : subtree (postorder t) at ≡ leaf x

pub leaf_at : (t : Tree) (x : Label) → is_in x (leaves t) ≡ true → LeafAt t x
unfolding nodes_of leaves postorder
leaf_at (leaf y) x h = record { at = 0; below = omega arith; is = ap leaf (sym (in_one_eq x y h)) }
leaf_at (node a b) x h =
    ⊎_elim (λ (k : is_in x (leaves a) ≡ true). from_a (leaf_at a x k)) (λ (k : is_in x (leaves b) ≡ true). from_b (leaf_at b x k))
    (in_cases x (leaves a) (leaves b) h)
  where
    from_a : LeafAt a x → LeafAt (node a b) x
    from_a r = record { at = r.at; below = omega (arith, r.below); is = at_left a b r.at r.below ∙ r.is }

    from_b : LeafAt b x → LeafAt (node a b) x
    from_b r =
        record {
          at = nodes_of a + r.at;
          below = omega (arith, r.below);
          is = at_right a b (nodes_of a + r.at) r.at r.below refl ∙ r.is;
        }

-- a leaf has one number
abbrev Once : Tree → Type 0
Once t =
    (i j : ℕ) → i < j → j < nodes_of t → (x : Label) → subtree (postorder t) i ≡ leaf x → subtree (postorder t) j ≡ leaf x → ⊥

is_node : Tree → Bool
is_node (leaf x) = false
is_node (node a b) = true

pub node_leaf : (a b : Tree) (x : Label) → node a b ≡ leaf x → ⊥
unfolding is_node
node_leaf a b x e = clash {b = true} refl (ap is_node e)

pub holds_leaf : (s : Tree) (x : Label) → s ≡ leaf x → is_in x (leaves s) ≡ true
unfolding leaves
holds_leaf s x e = rw e (in_one_lem x)

once_split : (a b : Tree) → distinct (leaves (node a b)) ≡ true → Once a → Once b → (i j : ℕ) → i < j → (x : Label)
    → subtree (postorder (node a b)) i ≡ leaf x → subtree (postorder (node a b)) j ≡ leaf x → Third (nodes_of a) (nodes_of b) i
    → Third (nodes_of a) (nodes_of b) j → ⊥
unfolding leaves
once_split a b d p q i j l x hi hj (in_first_lem ki) (in_first_lem kj) =
    p i j l kj x (sym (at_left a b i ki) ∙ hi) (sym (at_left a b j kj) ∙ hj)
once_split a b d p q i j l x hi hj (in_first_lem ki) (in_second_lem m km e) =
    clash (subtree_in b m km x (holds_leaf (subtree (postorder b) m) x (sym (at_right a b j m km e) ∙ hj)))
    (distinct_apart (leaves a) (leaves b) d x
    (subtree_in a i ki x (holds_leaf (subtree (postorder a) i) x (sym (at_left a b i ki) ∙ hi))))
once_split a b d p q i j l x hi hj (in_second_lem m km e) (in_first_lem kj) = absurd (omega arith)
once_split a b d p q i j l x hi hj (in_second_lem m km e) (in_second_lem n kn f) =
    q m n (omega arith) kn x (sym (at_right a b i m km e) ∙ hi) (sym (at_right a b j n kn f) ∙ hj)
once_split a b d p q i j l x hi hj (in_first_lem ki) (at_last f) = node_leaf a b x (sym (at_root a b j f) ∙ hj)
once_split a b d p q i j l x hi hj (in_second_lem m km e) (at_last f) = node_leaf a b x (sym (at_root a b j f) ∙ hj)
once_split a b d p q i j l x hi hj (at_last e) k = node_leaf a b x (sym (at_root a b i e) ∙ hi)

leaf_order : (t : Tree) → distinct (leaves t) ≡ true → Once t
unfolding nodes_of leaves
leaf_order (leaf y) d i zero l h x hi hj = absurd (omega arith)
leaf_order (leaf y) d i (suc j) l h x hi hj = absurd (omega arith)
leaf_order (node a b) d i j l h x hi hj =
    once_split a b d (leaf_order a (distinct_left (leaves a) (leaves b) d)) (leaf_order b (distinct_right (leaves a) (leaves b) d)) i j
    l x hi hj (third (nodes_of a) (nodes_of b) i (omega arith)) (third (nodes_of a) (nodes_of b) j (omega arith))

pub leaf_once : (t : Tree) → distinct (leaves t) ≡ true → (i j : ℕ) → i < nodes_of t → j < nodes_of t → (x : Label)
    → subtree (postorder t) i ≡ leaf x → subtree (postorder t) j ≡ leaf x → i ≡ j
leaf_once t d i j hi hj x ei ej = go (dec_lt i j) (dec_lt j i)
  where
    go : Dec (i < j) → Dec (j < i) → i ≡ j
    go (yes l) k = absurd (leaf_order t d i j l hj x ei ej)
    go (no l) (yes k) = absurd (leaf_order t d j i k hi x ej ei)
    go (no l) (no k) = omega arith

-- a leaf's start and size name its label in a text that holds the tree's own text from p on
abbrev Shown : Tree → List ℕ → ℕ → Type 0
Shown t text p =
    (i : ℕ) → i < nodes_of t → (x : Label) → subtree (postorder t) i ≡ leaf x
    → take (get_or (sizes t) i 0) (drop (get_or (starts t p) i 0) text) ≡ x

module _ (a b : Tree) (pre post : List ℕ) where
  text_left : pre ++ (written (node a b) ++ post)
      ≡ (pre ++ (open_byte ∷ [])) ++ (written a ++ ((comma_byte ∷ (written b ++ (close_byte ∷ []))) ++ post))
  unfolding written
  text_left = simp append_assoc

  text_right : pre ++ (written (node a b) ++ post)
      ≡ (pre ++ (open_byte ∷ (written a ++ (comma_byte ∷ [])))) ++ (written b ++ (close_byte ∷ post))
  unfolding written
  text_right = simp append_assoc

shown_split : (a b : Tree) (text : List ℕ) (p : ℕ) → Shown a text (p + 1) → Shown b text (p + 1 + length (written a) + 1)
    → (i : ℕ) → (x : Label) → subtree (postorder (node a b)) i ≡ leaf x → Third (nodes_of a) (nodes_of b) i
    → take (get_or (sizes (node a b)) i 0) (drop (get_or (starts (node a b) p) i 0) text) ≡ x
unfolding sizes starts
shown_split a b text p f g i x e (in_first_lem h) =
    rw (
      third_first (sizes a) (sizes b) 0 0 i (omega (arith, sizes_length a)),
      third_first (starts a (p + 1)) (starts b (p + 1 + length (written a) + 1)) 0 0 i (omega (arith, starts_length a (p + 1))),
    )
    (f i h x (sym (at_left a b i h) ∙ e))
shown_split a b text p f g i x e (in_second_lem j h k) =
    rw (
      third_second (sizes a) (sizes b) 0 0 (nodes_of a) i j (sizes_length a) (omega (arith, sizes_length b)) k,
      third_second (starts a (p + 1)) (starts b (p + 1 + length (written a) + 1)) 0 0 (nodes_of a) i j (starts_length a (p + 1))
          (omega (arith, starts_length b (p + 1 + length (written a) + 1))) k,
    )
    (g j h x (sym (at_right a b i j h k) ∙ e))
shown_split a b text p f g i x e (at_last k) = absurd (node_leaf a b x (sym (at_root a b i k) ∙ e))

pub leaf_label_lem : (x y : Label) → leaf x ≡ leaf y → x ≡ y
leaf_label_lem x y e = cc

shown : (t : Tree) (pre post : List ℕ) (p : ℕ) → length pre ≡ p → Shown t (pre ++ (written t ++ post)) p
unfolding sizes starts postorder nodes_of written
shown (leaf y) pre post p h zero l x e =
    rw (drop_at pre (y ++ post) p h) (take_at y post (length y) refl ∙ leaf_label_lem y x e)
shown (leaf y) pre post p h (suc i) l x e = absurd (omega arith)
shown (node a b) pre post p h i l x e =
    shown_split a b (pre ++ (written (node a b) ++ post)) p
    (rw (text_left a b pre post)
    (shown a (pre ++ (open_byte ∷ [])) ((comma_byte ∷ (written b ++ (close_byte ∷ []))) ++ post) (p + 1)
    (length-append pre (open_byte ∷ []) ∙ ap (λ n. n + 1) h)))
    (rw (text_right a b pre post)
    (shown b (pre ++ (open_byte ∷ (written a ++ (comma_byte ∷ [])))) (close_byte ∷ post) (p + 1 + length (written a) + 1)
    (simp (length-append) (omega arith))))
    i x e (third (nodes_of a) (nodes_of b) i l)

-- in the arrays of a tree, padded as may be
pub label_shown : (t : Tree) (p q : List ℕ) (i : ℕ) → i < nodes_of t → (x : Label) → subtree (postorder t) i ≡ leaf x
    → take (get_or (sizes t ++ q) i 0) (drop (get_or (starts t 0 ++ p) i 0) (text_of t)) ≡ x
unfolding text_of
label_shown t p q i h x e =
    rw (
      get_or-append (sizes t) q 0 i (omega (arith, sizes_length t)),
      get_or-append (starts t 0) p 0 i (omega (arith, starts_length t 0)),
    )
    (shown t [] (semicolon_byte ∷ []) 0 refl i h x e)

-- each node but the root has a parent, which comes later

-- node j is the parent of node v
pub record ParentIs (left right : List ℕ) (nodes v j : ℕ) : Type 0 where
  pub later : v < j
  pub below : j < nodes
  pub child : (get_or left j 0 ≡ v) ⊎ (get_or right j 0 ≡ v)
  pub inner : get_or left j 0 < j

-- the same in a part whose first node has number n
record ParentFrom (t : Tree) (n i : ℕ) : Type 0 where
  j : ℕ
  later : i < j
  below : j < nodes_of t
  child : (get_or (lefts t n) j 0 ≡ n + i) ⊎ (get_or (rights t n) j 0 ≡ n + i)
  inner : get_or (lefts t n) j 0 < n + j

module _ (a b : Tree) (n : ℕ) where
  parent_left : (i : ℕ) → ParentFrom a n i → ParentFrom (node a b) n i
  unfolding lefts rights nodes_of
  parent_left i p =
      let l = third_first (lefts a n) (lefts b (n + nodes_of a)) (n + nodes_of a - 1) 0 p.j (omega (arith, p.below, lefts_length a n)) in
      let r =
      third_first (rights a n) (rights b (n + nodes_of a)) (n + nodes_of a + nodes_of b - 1) 0 p.j
      (omega (arith, p.below, rights_length a n)) in
      record {
        j = p.j;
        later = p.later;
        below = omega (arith, p.below);
        child = rw (l, r) p.child;
        inner = rw l p.inner;
      }

  parent_right : (i k : ℕ) → i ≡ nodes_of a + k → ParentFrom b (n + nodes_of a) k → ParentFrom (node a b) n i
  unfolding lefts rights nodes_of
  parent_right i k e p =
      let l =
      third_second (lefts a n) (lefts b (n + nodes_of a)) (n + nodes_of a - 1) 0 (nodes_of a) (nodes_of a + p.j) p.j (lefts_length a n)
      (omega (arith, p.below, lefts_length b (n + nodes_of a))) refl in
      let r =
      third_second (rights a n) (rights b (n + nodes_of a)) (n + nodes_of a + nodes_of b - 1) 0 (nodes_of a) (nodes_of a + p.j) p.j
      (rights_length a n) (omega (arith, p.below, rights_length b (n + nodes_of a))) refl in
      let v : n + nodes_of a + k ≡ n + i = omega arith in
      record {
        j = nodes_of a + p.j;
        later = omega (arith, p.later);
        below = omega (arith, p.below);
        child = rw (l, r, ← v) p.child;
        inner = rw l (omega (arith, p.inner));
      }

  parent_root : (i : ℕ) → (i + 1 ≡ nodes_of a) ⊎ (i + 1 ≡ nodes_of a + nodes_of b) → ParentFrom (node a b) n i
  unfolding lefts rights nodes_of
  parent_root i side =
      record {
        j = nodes_of a + nodes_of b;
        later = before side;
        below = omega arith;
        child = rw (l, r) (at side);
        inner = rw l (omega (arith, nodes_pos a, nodes_pos b));
      }
    where
      l : get_or (lefts a n ++ (lefts b (n + nodes_of a) ++ ((n + nodes_of a - 1) ∷ []))) (nodes_of a + nodes_of b) 0 ≡ n + nodes_of a - 1
      l =
          third_last (lefts a n) (lefts b (n + nodes_of a)) (n + nodes_of a - 1) 0 (nodes_of a) (nodes_of b) (nodes_of a + nodes_of b)
          (lefts_length a n) (lefts_length b (n + nodes_of a)) refl

      r : get_or (rights a n ++ (rights b (n + nodes_of a) ++ ((n + nodes_of a + nodes_of b - 1) ∷ []))) (nodes_of a + nodes_of b) 0
          ≡ n + nodes_of a + nodes_of b - 1
      r =
          third_last (rights a n) (rights b (n + nodes_of a)) (n + nodes_of a + nodes_of b - 1) 0 (nodes_of a) (nodes_of b)
          (nodes_of a + nodes_of b) (rights_length a n) (rights_length b (n + nodes_of a)) refl

      before : (i + 1 ≡ nodes_of a) ⊎ (i + 1 ≡ nodes_of a + nodes_of b) → i < nodes_of a + nodes_of b
      before (inl e) = omega (arith, nodes_pos b)
      before (inr e) = omega arith

      at : (i + 1 ≡ nodes_of a) ⊎ (i + 1 ≡ nodes_of a + nodes_of b)
          → (n + nodes_of a - 1 ≡ n + i) ⊎ (n + nodes_of a + nodes_of b - 1 ≡ n + i)
      at (inl e) = inl (omega arith)
      at (inr e) = inr (omega arith)

parent_split : (a b : Tree) (n i : ℕ) → i < nodes_of a + nodes_of b
    → ((k : ℕ) → k + 1 < nodes_of a → ParentFrom a n k) → ((k : ℕ) → k + 1 < nodes_of b → ParentFrom b (n + nodes_of a) k)
    → Third (nodes_of a) (nodes_of b) i → ParentFrom (node a b) n i
parent_split a b n i h f g (in_first_lem l) = go (dec_lt (i + 1) (nodes_of a))
  where
    go : Dec (i + 1 < nodes_of a) → ParentFrom (node a b) n i
    go (yes k) = parent_left a b n i (f i k)
    go (no k) = parent_root a b n i (inl (omega arith))
parent_split a b n i h f g (in_second_lem k l e) = go (dec_lt (k + 1) (nodes_of b))
  where
    go : Dec (k + 1 < nodes_of b) → ParentFrom (node a b) n i
    go (yes j) = parent_right a b n i k e (g k j)
    go (no j) = parent_root a b n i (inr (omega arith))
parent_split a b n i h f g (at_last e) = absurd (omega arith)

parent_from : (t : Tree) (n i : ℕ) → i + 1 < nodes_of t → ParentFrom t n i
unfolding nodes_of
parent_from (leaf x) n i h = absurd (omega arith)
parent_from (node a b) n i h =
    parent_split a b n i (omega arith) (parent_from a n) (parent_from b (n + nodes_of a)) (third (nodes_of a) (nodes_of b) i (omega arith))

-- in the arrays of a tree, padded as may be
pub parent_of : (t : Tree) (p q : List ℕ) (v : ℕ) → v + 1 < nodes_of t
    → (j : ℕ) × ParentIs (lefts t 0 ++ p) (rights t 0 ++ q) (nodes_of t) v j
parent_of t p q v h =
    let r = parent_from t 0 v h in
    let l = get_or-append (lefts t 0) p 0 r.j (omega (arith, r.below, lefts_length t 0)) in
    let s = get_or-append (rights t 0) q 0 r.j (omega (arith, r.below, rights_length t 0)) in
    let z : 0 + v ≡ v = omega arith in (
      r.j,
      record {
        later = r.later;
        below = r.below;
        child = rw (l, s) (rw z at r.child);
        inner = rw l (omega (arith, r.inner));
      },
    )
