-- Laws of keeping the labels of a set and of their weight. Assumes nothing.
use Prim.Native.Nat.{ℕ, ◌+◌, ◌≤◌}
use mathlib.Core.Path.{◌≡◌, refl, sym, ◌∙◌, ap}
use mathlib.Core.Bool.{Bool, true, false, cond, ◌&&◌, ◌||◌, and-false}
use mathlib.Core.Logic.{◌⊎◌, inl, inr}
use mathlib.Core.List.{List, [], ◌∷◌, ◌++◌}
use native.Mathlib.Omega.{arith}
use Rattle.trees.specs.Label.{Label, same_label, is_in, distinct}
use Rattle.trees.specs.Tree.{Tree, node, leaves}
use Rattle.trees.proofs.Bools.{bool_cases, clash, or_inl, or_inr}
use Rattle.trees.proofs.LabelLaws.{same_refl, eq_same, same_ne, ne_same, same_cases}
use Rattle.trees.proofs.ListLaws.{distinct_head, distinct_tail, distinct_cons}
use Rattle.agreement.specs.Closer.{holds}
use Rattle.agreement.specs.Sets.{keep}
use Rattle.agreement.specs.Weights.{weigh, weight_in}

pub keep_append : (X : Label → Bool) (xs ys : List Label) → keep X (xs ++ ys) ≡ keep X xs ++ keep X ys
unfolding keep
keep_append X [] ys = refl
keep_append X (x ∷ xs) ys = go (bool_cases (X x)) (keep_append X xs ys)
  where
    go : (X x ≡ true) ⊎ (X x ≡ false) → keep X (xs ++ ys) ≡ keep X xs ++ keep X ys
        → cond (X x) (x ∷ keep X (xs ++ ys)) (keep X (xs ++ ys)) ≡ cond (X x) (x ∷ keep X xs) (keep X xs) ++ keep X ys
    go (inl h) e = rw h (ap (◌∷◌ x) e)
    go (inr h) e = rw h e

-- keeping by sets that are equal on the list
pub keep_cong : (X Y : Label → Bool) (xs : List Label) → ((x : Label) → is_in x xs ≡ true → X x ≡ Y x) → keep X xs ≡ keep Y xs
unfolding keep is_in
keep_cong X Y [] f = refl
keep_cong X Y (x ∷ xs) f =
    rw (f x (or_inl (same_label x x) (is_in x xs) (same_refl x)), keep_cong X Y xs (λ y h. f y (or_inr (same_label y x) (is_in y xs) h))) refl

pub is_in_keep : (X : Label → Bool) (y : Label) (xs : List Label) → is_in y (keep X xs) ≡ (X y && is_in y xs)
unfolding keep is_in
is_in_keep X y [] = sym (and-false (X y))
is_in_keep X y (x ∷ xs) = go (same_cases y x) (bool_cases (X x)) (is_in_keep X y xs)
  where
    go : (y ≡ x) ⊎ (same_label y x ≡ false) → (X x ≡ true) ⊎ (X x ≡ false) → is_in y (keep X xs) ≡ (X y && is_in y xs)
        → is_in y (cond (X x) (x ∷ keep X xs) (keep X xs)) ≡ (X y && (same_label y x || is_in y xs))
    go (inl e) (inl k) ih = rw (k, eq_same y x e, ap X e ∙ k) refl
    go (inl e) (inr k) ih = rw (k, ap X e ∙ k) (ih ∙ (rw (ap X e ∙ k) refl))
    go (inr n) (inl k) ih = rw (k, n) ih
    go (inr n) (inr k) ih = rw (k, n) ih

pub distinct_keep : (X : Label → Bool) (xs : List Label) → distinct xs ≡ true → distinct (keep X xs) ≡ true
unfolding keep
distinct_keep X [] h = h
distinct_keep X (x ∷ xs) h = go (bool_cases (X x)) (distinct_keep X xs (distinct_tail x xs h))
  where
    go : (X x ≡ true) ⊎ (X x ≡ false) → distinct (keep X xs) ≡ true → distinct (cond (X x) (x ∷ keep X xs) (keep X xs)) ≡ true
    go (inl k) ih = rw k (distinct_cons x (keep X xs) (is_in_keep X x xs ∙ (rw (k, distinct_head x xs h) refl)) ih)
    go (inr k) ih = rw k ih

pub weigh_append : (w : Label → ℕ) (xs ys : List Label) → weigh w (xs ++ ys) ≡ weigh w xs + weigh w ys
unfolding weigh
weigh_append w [] ys = omega arith
weigh_append w (x ∷ xs) ys = omega (arith, weigh_append w xs ys)

-- a larger set weighs no less
pub weigh_mono : (w : Label → ℕ) (X Y : Label → Bool) (xs : List Label) → ((x : Label) → is_in x xs ≡ true → X x ≡ true → Y x ≡ true)
    → weigh w (keep X xs) ≤ weigh w (keep Y xs)
unfolding keep weigh is_in
weigh_mono w X Y [] f = omega arith
weigh_mono w X Y (x ∷ xs) f =
    go (bool_cases (X x)) (bool_cases (Y x)) (weigh_mono w X Y xs (λ y h. f y (or_inr (same_label y x) (is_in y xs) h)))
  where
    go : (X x ≡ true) ⊎ (X x ≡ false) → (Y x ≡ true) ⊎ (Y x ≡ false) → weigh w (keep X xs) ≤ weigh w (keep Y xs)
        → weigh w (cond (X x) (x ∷ keep X xs) (keep X xs)) ≤ weigh w (cond (Y x) (x ∷ keep Y xs) (keep Y xs))
    go (inl h) (inl k) ih = rw (h, k) (omega arith)
    go (inl h) (inr k) ih = clash (f x (or_inl (same_label x x) (is_in x xs) (same_refl x)) h) k
    go (inr h) (inl k) ih = rw (h, k) (omega arith)
    go (inr h) (inr k) ih = rw (h, k) ih

-- the set of one label
abbrev pub only : Label → Label → Bool
only y = λ x. same_label x y

pub weigh_none : (w : Label → ℕ) (X : Label → Bool) (xs : List Label) → ((x : Label) → is_in x xs ≡ true → X x ≡ false)
    → weigh w (keep X xs) ≡ 0
unfolding keep weigh is_in
weigh_none w X [] f = refl
weigh_none w X (x ∷ xs) f =
    rw (f x (or_inl (same_label x x) (is_in x xs) (same_refl x))) (weigh_none w X xs (λ y h. f y (or_inr (same_label y x) (is_in y xs) h)))

pub weigh_only : (w : Label → ℕ) (y : Label) (xs : List Label) → distinct xs ≡ true
    → weigh w (keep (only y) xs) ≡ cond (is_in y xs) (w y) 0
unfolding keep weigh is_in
weigh_only w y [] d = refl
weigh_only w y (x ∷ xs) d = go (same_cases y x) (weigh_only w y xs (distinct_tail x xs d))
  where
    go : (y ≡ x) ⊎ (same_label y x ≡ false) → weigh w (keep (only y) xs) ≡ cond (is_in y xs) (w y) 0
        → weigh w (cond (same_label x y) (x ∷ keep (only y) xs) (keep (only y) xs)) ≡ cond (same_label y x || is_in y xs) (w y) 0
    go (inl e) ih =
        let z : weigh w (keep (only y) xs) ≡ 0 = ih ∙ (rw (ap (λ v. is_in v xs) e ∙ distinct_head x xs d) refl) in
        rw (eq_same x y (sym e), eq_same y x e) (omega (arith, ap w e))
    go (inr n) ih = rw (ne_same x y (λ e. same_ne y x n (sym e)), n) ih

-- over the leaves of a tree

pub weight_node : (w : Label → ℕ) (p q : Tree) (X : Label → Bool) → weight_in w (node p q) X ≡ weight_in w p X + weight_in w q X
unfolding weight_in leaves
weight_node w p q X = ap (weigh w) (keep_append X (leaves p) (leaves q)) ∙ weigh_append w (keep X (leaves p)) (keep X (leaves q))

pub weight_cong : (w : Label → ℕ) (t : Tree) (X Y : Label → Bool) → ((x : Label) → holds t x ≡ true → X x ≡ Y x)
    → weight_in w t X ≡ weight_in w t Y
unfolding weight_in holds
weight_cong w t X Y f = ap (weigh w) (keep_cong X Y (leaves t) f)

pub weight_none : (w : Label → ℕ) (t : Tree) (X : Label → Bool) → ((x : Label) → holds t x ≡ true → X x ≡ false) → weight_in w t X ≡ 0
unfolding weight_in holds
weight_none w t X f = weigh_none w X (leaves t) f

pub weight_only : (w : Label → ℕ) (t : Tree) (y : Label) → distinct (leaves t) ≡ true → weight_in w t (only y) ≡ cond (holds t y) (w y) 0
unfolding weight_in holds
weight_only w t y d = weigh_only w y (leaves t) d

pub weight_mono : (w : Label → ℕ) (t : Tree) (X Y : Label → Bool) → ((x : Label) → holds t x ≡ true → X x ≡ true → Y x ≡ true)
    → weight_in w t X ≤ weight_in w t Y
unfolding weight_in holds
weight_mono w t X Y f = weigh_mono w X Y (leaves t) f
