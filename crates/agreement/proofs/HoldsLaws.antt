-- What a tree holds, and the search of a tree for a label. Assumes nothing.
use mathlib.Core.Path.{◌≡◌, refl, sym, ◌∙◌, ap}
use mathlib.Core.Bool.{Bool, true, false, ◌||◌}
use mathlib.Core.Logic.{◌⊎◌, inl, inr}
use mathlib.Core.List.{List}
use Rattle.trees.specs.Label.{Label, is_in, distinct}
use Rattle.trees.specs.Tree.{Tree, leaf, node, leaves}
use Rattle.trees.proofs.Bools.{bool_cases, clash, or_cases, or_inl, or_inr}
use Rattle.trees.proofs.ListLaws.{in_one_lem, in_one_eq, in_append, distinct_left, distinct_right, distinct_apart}
use Rattle.agreement.specs.Closer.{holds}

-- joined lists have distinct labels: so has each, and no label stands in both
pub record Joined (xs ys : List Label) : Type 0 where
  pub one : distinct xs ≡ true
  pub two : distinct ys ≡ true
  pub apart : (x : Label) → is_in x xs ≡ true → is_in x ys ≡ false

pub holds_self : (x : Label) → holds (leaf x) x ≡ true
unfolding holds leaves
holds_self x = in_one_lem x

pub holds_leaf : (x y : Label) → holds (leaf x) y ≡ true → y ≡ x
unfolding holds leaves
holds_leaf x y h = in_one_eq y x h

pub holds_node : (p q : Tree) (x : Label) → holds (node p q) x ≡ (holds p x || holds q x)
unfolding holds leaves
holds_node p q x = in_append x (leaves p) (leaves q)

pub holds_left : (p q : Tree) (x : Label) → holds p x ≡ true → holds (node p q) x ≡ true
holds_left p q x h = holds_node p q x ∙ or_inl (holds p x) (holds q x) h

pub holds_right : (p q : Tree) (x : Label) → holds q x ≡ true → holds (node p q) x ≡ true
holds_right p q x h = holds_node p q x ∙ or_inr (holds p x) (holds q x) h

pub holds_cases : (p q : Tree) (x : Label) → holds (node p q) x ≡ true → (holds p x ≡ true) ⊎ (holds q x ≡ true)
holds_cases p q x h = or_cases (holds p x) (holds q x) (sym (holds_node p q x) ∙ h)

pub distinct_leaf : (x : Label) → distinct (leaves (leaf x)) ≡ true
unfolding leaves distinct is_in
distinct_leaf x = refl

pub distinct_node : (p q : Tree) → distinct (leaves (node p q)) ≡ true → Joined (leaves p) (leaves q)
unfolding leaves
distinct_node p q h = record {
  one = distinct_left (leaves p) (leaves q) h;
  two = distinct_right (leaves p) (leaves q) h;
  apart = distinct_apart (leaves p) (leaves q) h;
}

-- a label that a tree holds is another than one that it does not hold
pub held_ne : (t : Tree) (a b : Label) → holds t a ≡ true → holds t b ≡ false → a ≡ b → ⊥
held_ne t a b p q e = clash (rw e at p) q

-- the search of a tree for a label of a set
pub record Found (X : Label → Bool) (t : Tree) : Type 0 where
  pub label : Label
  pub chosen : X label ≡ true
  pub held : holds t label ≡ true

pub search_tree : (X : Label → Bool) (t : Tree) → Found X t ⊎ ((x : Label) → holds t x ≡ true → X x ≡ false)
search_tree X (leaf x) = go (bool_cases (X x))
  where
    go : (X x ≡ true) ⊎ (X x ≡ false) → Found X (leaf x) ⊎ ((y : Label) → holds (leaf x) y ≡ true → X y ≡ false)
    go (inl h) = inl (record { label = x; chosen = h; held = holds_self x })
    go (inr h) = inr (λ y k. ap X (holds_leaf x y k) ∙ h)
search_tree X (node p q) = go (search_tree X p) (search_tree X q)
  where
    go : Found X p ⊎ ((x : Label) → holds p x ≡ true → X x ≡ false) → Found X q ⊎ ((x : Label) → holds q x ≡ true → X x ≡ false)
        → Found X (node p q) ⊎ ((x : Label) → holds (node p q) x ≡ true → X x ≡ false)
    go (inl f) k = inl (record { label = f.label; chosen = f.chosen; held = holds_left p q f.label f.held })
    go (inr n) (inl f) = inl (record { label = f.label; chosen = f.chosen; held = holds_right p q f.label f.held })
    go (inr n) (inr m) = inr (λ x h. neither x (holds_cases p q x h))
      where
        neither : (x : Label) → (holds p x ≡ true) ⊎ (holds q x ≡ true) → X x ≡ false
        neither x (inl h) = n x h
        neither x (inr h) = m x h
