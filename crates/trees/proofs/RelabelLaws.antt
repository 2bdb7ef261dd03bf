-- A tree with other labels has the same shape: its leaves, its nodes in postorder and the arrays of its children. Assumes nothing.
use Prim.Native.Nat.{ℕ, zero, suc, ◌+◌, ◌<◌}
use mathlib.Core.Path.{◌≡◌, refl, sym, ◌∙◌, ap, ap₂}
use mathlib.Core.List.{List, [], ◌∷◌, ◌++◌, map, map-append}
use native.Mathlib.Nat.{not-suc-le-zero, le_of_suc-le-suc}
use native.Mathlib.Omega.{arith}
use lib.ListN.{length, get_or, length-map}
use Rattle.trees.specs.Label.{Label}
use Rattle.trees.specs.Tree.{Tree, leaf, node, leaves, relabel, Same, same_leaf, straight, crossed}
use Rattle.trees.specs.Arrays.{nodes_of, lefts, rights, arrays_of, padded}
use Rattle.trees.specs.Postorder.{postorder, subtree}
use Rattle.trees.proofs.PostorderLaws.{length_postorder, node_leaf}

-- ---- lists

pub map_at : {A B : Type 0} (f : A → B) (xs : List A) (i : ℕ) (d : A) (e : B) → i < length xs → get_or (map f xs) i e ≡ f (get_or xs i d)
map_at f [] i d e h = absurd (not-suc-le-zero h)
map_at f (x ∷ xs) zero d e h = refl
map_at f (x ∷ xs) (suc i) d e h = map_at f xs i d e (le_of_suc-le-suc h)

-- ---- trees

pub leaves_relabel : (f : Label → Label) (t : Tree) → leaves (relabel f t) ≡ map f (leaves t)
unfolding leaves relabel
leaves_relabel f (leaf x) = refl
leaves_relabel f (node a b) = ap₂ ◌++◌ (leaves_relabel f a) (leaves_relabel f b) ∙ sym (map-append f (leaves a) (leaves b))

pub leaves_count : (f : Label → Label) (t : Tree) → length (leaves (relabel f t)) ≡ length (leaves t)
leaves_count f t = ap length (leaves_relabel f t) ∙ length-map (leaves t) f

pub nodes_relabel : (f : Label → Label) (t : Tree) → nodes_of (relabel f t) ≡ nodes_of t
unfolding nodes_of relabel
nodes_relabel f (leaf x) = refl
nodes_relabel f (node a b) = ap₂ (λ (m n : ℕ). m + n + 1) (nodes_relabel f a) (nodes_relabel f b)

pub lefts_relabel : (f : Label → Label) (t : Tree) (n : ℕ) → lefts (relabel f t) n ≡ lefts t n
unfolding lefts relabel
lefts_relabel f (leaf x) n = refl
lefts_relabel f (node a b) n =
    rw (nodes_relabel f a, lefts_relabel f a n, lefts_relabel f b (n + nodes_of a)) refl

pub rights_relabel : (f : Label → Label) (t : Tree) (n : ℕ) → rights (relabel f t) n ≡ rights t n
unfolding rights relabel
rights_relabel f (leaf x) n = refl
rights_relabel f (node a b) n =
    rw (nodes_relabel f a, nodes_relabel f b, rights_relabel f a n, rights_relabel f b (n + nodes_of a)) refl

-- the arrays of children
pub left_relabel : (f : Label → Label) (t : Tree) → (arrays_of (relabel f t)).left ≡ (arrays_of t).left
unfolding arrays_of
left_relabel f t = ap padded (lefts_relabel f t 0)

pub right_relabel : (f : Label → Label) (t : Tree) → (arrays_of (relabel f t)).right ≡ (arrays_of t).right
unfolding arrays_of
right_relabel f t = ap padded (rights_relabel f t 0)

pub postorder_relabel : (f : Label → Label) (t : Tree) → postorder (relabel f t) ≡ map (relabel f) (postorder t)
unfolding postorder relabel
postorder_relabel f (leaf x) = refl
postorder_relabel f (node a b) =
    rw (postorder_relabel f a, postorder_relabel f b, map-append (relabel f) (postorder a) (postorder b ++ (node a b ∷ [])), map-append (relabel f) (postorder b) (node a b ∷ []))
    refl

pub subtree_relabel : (f : Label → Label) (t : Tree) (i : ℕ) → i < nodes_of t
    → subtree (postorder (relabel f t)) i ≡ relabel f (subtree (postorder t) i)
subtree_relabel f t i h =
    ap (λ (ts : List Tree). subtree ts i) (postorder_relabel f t)
    ∙ map_at (relabel f) (postorder t) i (leaf []) (leaf []) (omega (arith, length_postorder t))

-- ---- leaves of such a tree

-- a leaf comes from a leaf
pub record FromLeaf (f : Label → Label) (s : Tree) (x : Label) : Type 0 where
  pub token : Label
  pub is : s ≡ leaf token
  pub label : f token ≡ x

pub relabel_leaf : (f : Label → Label) (s : Tree) (x : Label) → relabel f s ≡ leaf x → FromLeaf f s x
unfolding relabel
relabel_leaf f (leaf y) x h = record { token = y; is = refl; label = cc }
relabel_leaf f (node a b) x h = absurd (node_leaf (relabel f a) (relabel f b) x h)

pub leaf_relabel : (f : Label → Label) (s : Tree) (y : Label) → s ≡ leaf y → relabel f s ≡ leaf (f y)
unfolding relabel
leaf_relabel f s y e = ap (relabel f) e

-- one relabelling after the other
pub relabel_twice : (f g : Label → Label) (t : Tree) → relabel f (relabel g t) ≡ relabel (λ x. f (g x)) t
unfolding relabel
relabel_twice f g (leaf x) = refl
relabel_twice f g (node a b) = ap₂ node (relabel_twice f g a) (relabel_twice f g b)

-- equal trees stay equal
pub relabel_same : (f : Label → Label) {s t : Tree} → Same s t → Same (relabel f s) (relabel f t)
unfolding relabel
relabel_same f same_leaf = same_leaf
relabel_same f (straight p q) = straight (relabel_same f p) (relabel_same f q)
relabel_same f (crossed p q) = crossed (relabel_same f p) (relabel_same f q)
