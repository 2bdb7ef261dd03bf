-- A leaf's start and size in a tree's arrays are its token's place and length. Assumes nothing.
use Prim.Native.Nat.{ℕ, zero, suc, ◌+◌, ◌-◌, ◌<◌}
use mathlib.Core.Path.{◌≡◌, refl, sym, ◌∙◌, ap}
use mathlib.Core.Bool.{true, false}
use native.Mathlib.Omega.{arith}
use lib.ListN.{length, get_or, drop, replicate, length-drop, get_or-append}
use lib.Seq.{length-take-le}
use borrow.Author.Tests.{eq-eqb}
use Rattle.trees.specs.Label.{Label, is_in, distinct}
use Rattle.trees.specs.Tree.{Tree, leaf, node, leaves, relabel, decoded, Valid}
use Rattle.trees.specs.Text.{written, text_of}
use Rattle.trees.specs.Arrays.{nodes_of, node_limit, starts, sizes, arrays_of, is_leaf}
use Rattle.trees.specs.Postorder.{postorder, subtree}
use Rattle.trees.proofs.Bools.{clash, refute}
use Rattle.trees.proofs.ListLaws.{distinct_left, distinct_right, distinct_apart}
use Rattle.trees.proofs.ArrayLaws.{own_stands, good_at, label_inside, starts_length}
use Rattle.trees.proofs.DecodedLaws.{decoded_nodes}
use Rattle.trees.proofs.TokenLaws.{valid_decoded}
use Rattle.trees.proofs.PostorderLaws.{Third, in_first_lem, in_second_lem, at_last, third, third_first, third_second, at_left, at_right, at_root}
use Rattle.trees.proofs.PostorderLaws.{subtree_in, holds_leaf, node_leaf, label_shown}
use Rattle.agreement.specs.Closer.{holds}
use Rattle.agreement.specs.Places.{place_in, token_in}
use Rattle.leaves.proofs.OwnLaws.{own_leaf}
use Rattle.leaves.specs.Numbered.{LeafIs}

-- a leaf of the decoded tree: its token, and that one's start in the arrays of a tree whose text starts at p
abbrev PlacedAt : Tree → ℕ → Type 0
PlacedAt t p =
    (i : ℕ) → i < nodes_of t → (x : Label) → subtree (postorder (decoded t)) i ≡ leaf x
    → (get_or (starts t p) i 0 ≡ place_in t p x) × (subtree (postorder t) i ≡ leaf (token_in t x))

module _ (a b : Tree) (x : Label) where
  module _ (h : holds (decoded a) x ≡ true) where
    place_first : (p : ℕ) → place_in (node a b) p x ≡ place_in a (p + 1) x
    unfolding place_in
    place_first p = rw h refl

    token_first : token_in (node a b) x ≡ token_in a x
    unfolding token_in
    token_first = rw h refl

  module _ (h : holds (decoded a) x ≡ false) where
    place_second : (p : ℕ) → place_in (node a b) p x ≡ place_in b (p + 1 + length (written a) + 1) x
    unfolding place_in
    place_second p = rw h refl

    token_second : token_in (node a b) x ≡ token_in b x
    unfolding token_in
    token_second = rw h refl

pub leaf_held : (t : Tree) (v : ℕ) (x : Label) → LeafIs t v x → holds t x ≡ true
unfolding holds
leaf_held t v x l = subtree_in t v l.below x (holds_leaf (subtree (postorder t) v) x l.is)

module _ (a b : Tree) (p i : ℕ) (x : Label) (d : distinct (leaves (node (decoded a) (decoded b))) ≡ true) (f : PlacedAt a (p + 1))
    (g : PlacedAt b (p + 1 + length (written a) + 1)) (e : subtree (postorder (node (decoded a) (decoded b))) i ≡ leaf x) where
  placed_split : Third (nodes_of a) (nodes_of b) i
      → (get_or (starts (node a b) p) i 0 ≡ place_in (node a b) p x) × (subtree (postorder (node a b)) i ≡ leaf (token_in (node a b) x))
  unfolding starts leaves holds
  placed_split (in_first_lem h) =
      let h' : i < nodes_of (decoded a) = omega (arith, decoded_nodes a) in
      let k = sym (at_left (decoded a) (decoded b) i h') ∙ e in
      let held : holds (decoded a) x ≡ true = leaf_held (decoded a) i x (record { below = h'; is = k }) in
      let w = f i h x k in (
        third_first (starts a (p + 1)) (starts b (p + 1 + length (written a) + 1)) 0 0 i (omega (arith, starts_length a (p + 1)))
            ∙ w.0 ∙ sym (place_first a b x held p),
        at_left a b i h ∙ w.1 ∙ ap leaf (sym (token_first a b x held)),
      )
  placed_split (in_second_lem j h m) =
      let h' : j < nodes_of (decoded b) = omega (arith, decoded_nodes b) in
      let k = sym (at_right (decoded a) (decoded b) i j h' (omega (arith, decoded_nodes a))) ∙ e in
      let lacked : holds (decoded a) x ≡ false = refute (is_in x (leaves (decoded a))) (λ (q : is_in x (leaves (decoded a)) ≡ true).
      clash (leaf_held (decoded b) j x (record { below = h'; is = k })) (distinct_apart (leaves (decoded a)) (leaves (decoded b)) d x q)) in
      let w = g j h x k in (
        third_second (starts a (p + 1)) (starts b (p + 1 + length (written a) + 1)) 0 0 (nodes_of a) i j (starts_length a (p + 1))
            (omega (arith, starts_length b (p + 1 + length (written a) + 1))) m
            ∙ w.0 ∙ sym (place_second a b x lacked p),
        at_right a b i j h m ∙ w.1 ∙ ap leaf (sym (token_second a b x lacked)),
      )
  placed_split (at_last m) =
      absurd
      (node_leaf (decoded a) (decoded b) x
      (sym (at_root (decoded a) (decoded b) i (omega (arith, decoded_nodes a, decoded_nodes b))) ∙ e))

placed : (t : Tree) → distinct (leaves (decoded t)) ≡ true → (p : ℕ) → PlacedAt t p
unfolding starts place_in token_in nodes_of leaves postorder decoded relabel
placed (leaf y) d p zero h x e = (refl, refl)
placed (leaf y) d p (suc i) h x e = absurd (omega arith)
placed (node a b) d p i h x e =
    placed_split a b p i x d (placed a (distinct_left (leaves (decoded a)) (leaves (decoded b)) d) (p + 1))
    (placed b (distinct_right (leaves (decoded a)) (leaves (decoded b)) d) (p + 1 + length (written a) + 1)) e
    (third (nodes_of a) (nodes_of b) i h)

-- in a valid tree's own arrays
module _ (t : Tree) (v : Valid t) (u : ℕ) (x : Label) (l : LeafIs (decoded t) u x) where
  below : u < nodes_of t
  below = omega (arith, l.below, decoded_nodes t)

  own_place : (get_or (starts t 0) u 0 ≡ place_in t 0 x) × (subtree (postorder t) u ≡ leaf (token_in t x))
  own_place = placed t (valid_decoded t v).different 0 u below x l.is

  pub own_start : get_or (arrays_of t).start u 0 ≡ place_in t 0 x
  unfolding arrays_of
  own_start =
      get_or-append (starts t 0) (replicate (node_limit - length (starts t 0)) 0) 0 u (omega (arith, starts_length t 0, below))
      ∙ own_place.0

  pub own_size : get_or (arrays_of t).size u 0 ≡ length (token_in t x)
  unfolding arrays_of is_leaf
  own_size =
      let i = label_inside (arrays_of t) (text_of t) u (good_at (arrays_of t) (text_of t) (nodes_of t) (own_stands t v).good u below)
      (eq-eqb (get_or (arrays_of t).left u 0) u (own_leaf t u (token_in t x) below own_place.1)) in
      let e = label_shown t (replicate (node_limit - length (starts t 0)) 0) (replicate (node_limit - length (sizes t)) 0) u below
      (token_in t x) own_place.1 in
      sym (length-take-le (get_or (arrays_of t).size u 0) (drop (get_or (arrays_of t).start u 0) (text_of t))
      (omega (arith, i.inside, length-drop (get_or (arrays_of t).start u 0) (text_of t))))
      ∙ ap length e
