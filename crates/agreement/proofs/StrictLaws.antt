-- The search for a leaf that stands in only one tree finds exactly the first one. Assumes nothing.
use Prim.Native.Nat.{ℕ, ◌+◌, ◌≤◌}
use mathlib.Core.Path.{◌≡◌, refl, sym, ◌∙◌, ap}
use mathlib.Core.Bool.{Bool, true, false, cond}
use mathlib.Core.Logic.{◌⊎◌, inl, inr, ⊎_elim, ◌↔◌}
use mathlib.Core.List.{List, [], ◌∷◌, ◌++◌, append_assoc, append-nil}
use mathlib.Core.Option.{Option, some, none}
use native.Mathlib.Omega.{arith}
use lib.ListN.{length}
use Rattle.trees.specs.Label.{Label, is_in}
use Rattle.trees.specs.Tree.{Tree, leaf, node, leaves, relabel, decoded}
use Rattle.trees.specs.Text.{written}
use Rattle.trees.proofs.Bools.{bool_cases, clash, refute}
use Rattle.trees.proofs.ListLaws.{in_here}
use Rattle.agreement.specs.Closer.{holds}
use Rattle.agreement.specs.Places.{place_in}
use Rattle.agreement.specs.Strict.{FirstOutside, IsStray, Stray, in_first, in_second, nowhere, StrayTold, first_outside, in_either, stray_of}
use Rattle.agreement.proofs.SetLaws.{test_ext, in_nil, in_head, in_tail, in_cases}
use Rattle.agreement.proofs.PlaceLaws.{place_inside, held_second}

-- what the search tells of a list
abbrev Looked : (Label → Bool) → List Label → Option Label → Type 0
Looked X xs (some x) = FirstOutside X xs x
Looked X xs none = (y : Label) → is_in y xs ≡ true → X y ≡ true

looked_next : (X : Label → Bool) (x : Label) (xs : List Label) (o : Option Label) → X x ≡ true → Looked X xs o → Looked X (x ∷ xs) o
looked_next X x xs none e h = λ y m. ⊎_elim (λ (k : y ≡ x). rw k e) (h y) (in_cases y x xs m)
looked_next X x xs (some z) e h = record {
  before = x ∷ h.before;
  after = h.after;
  is = ap (◌∷◌ x) h.is;
  outside = h.outside;
  earlier = λ y m. ⊎_elim (λ (k : y ≡ x). rw k e) (h.earlier y) (in_cases y x h.before m);
}

looked : (X : Label → Bool) (xs : List Label) → Looked X xs (first_outside X xs)
unfolding first_outside
looked X [] = λ y m. in_nil y m
looked X (x ∷ xs) = go (bool_cases (X x)) (looked X xs)
  where
    go : (X x ≡ true) ⊎ (X x ≡ false) → Looked X xs (first_outside X xs) → Looked X (x ∷ xs) (cond (X x) (first_outside X xs) (some x))
    go (inl e) h = rw e (looked_next X x xs (first_outside X xs) e h)
    go (inr e) h = rw e (record { before = []; after = xs; is = refl; outside = e; earlier = λ y m. in_nil y m })

skip : (X : Label → Bool) (xs ys : List Label) → ((y : Label) → is_in y xs ≡ true → X y ≡ true) → first_outside X (xs ++ ys) ≡ first_outside X ys
unfolding first_outside
skip X [] ys h = refl
skip X (x ∷ xs) ys h = rw (h x (in_head x xs)) (skip X xs ys (λ y m. h y (in_tail y x xs m)))

all_inside : (X : Label → Bool) (xs : List Label) → ((y : Label) → is_in y xs ≡ true → X y ≡ true) → first_outside X xs ≡ none
unfolding first_outside
all_inside X xs h = ap (first_outside X) (sym (append-nil xs)) ∙ skip X xs [] h

outside_found : (X : Label → Bool) (xs : List Label) (x : Label) → FirstOutside X xs x → first_outside X xs ≡ some x
unfolding first_outside
outside_found X xs x h =
    ap (first_outside X) h.is ∙ skip X h.before (x ∷ h.after) h.earlier ∙ (rw h.outside refl)

outside_in : (X : Label → Bool) (xs : List Label) (x : Label) → FirstOutside X xs x → is_in x xs ≡ true
outside_in X xs x h = rw h.is (in_here x h.before h.after)

-- the stray leaf is a leaf of its tree
pub stray_held : (t other : Tree) (x : Label) → IsStray t other x → holds t x ≡ true
unfolding holds
stray_held t other x h = outside_in (holds other) (leaves t) x h

told_either : (s t : Tree) (p q : Option Label) → Looked (holds t) (leaves s) p → Looked (holds s) (leaves t) q → StrayTold s t (in_either p q)
unfolding in_either holds
told_either s t (some x) q h k = h
told_either s t none (some y) h k = (h, k)
told_either s t none none h k = λ x. test_ext (holds s x) (holds t x) (h x) (k x)

pub stray_exactly : (s t : Tree) (r : Stray) → (stray_of s t ≡ r) ↔ StrayTold s t r
unfolding stray_of in_either holds
stray_exactly s t r = (λ e. told r e, only r)
  where
    told : (r : Stray) → stray_of s t ≡ r → StrayTold s t r
    told r e =
        rw (← e)
        (told_either s t (first_outside (holds t) (leaves s)) (first_outside (holds s) (leaves t)) (looked (holds t) (leaves s))
        (looked (holds s) (leaves t)))

    only : (r : Stray) → StrayTold s t r → stray_of s t ≡ r
    only (in_first x) h = rw (outside_found (holds t) (leaves s) x h) refl
    only (in_second x) h = rw (all_inside (holds t) (leaves s) h.0, outside_found (holds s) (leaves t) x h.1) refl
    only nowhere h =
        rw (all_inside (holds t) (leaves s) (λ y m. sym (h y) ∙ m), all_inside (holds s) (leaves t) (λ y m. h y ∙ m)) refl

-- no other leaf outside the set has a smaller place: the first from left to right is the first in the text
abbrev Least : (Label → Bool) → Tree → Type 0
Least X t =
    (x : Label) → FirstOutside X (leaves (decoded t)) x → (p : ℕ) (y : Label) → holds (decoded t) y ≡ true → X y ≡ false
    → place_in t p x ≤ place_in t p y

more : (X : Label → Bool) (xs ys : List Label) (x : Label) → FirstOutside X xs x → FirstOutside X (xs ++ ys) x
more X xs ys x h = record {
  before = h.before;
  after = h.after ++ ys;
  is = ap (λ (l : List Label). l ++ ys) h.is ∙ append_assoc h.before (x ∷ h.after) ys;
  outside = h.outside;
  earlier = h.earlier;
}

least_node : (X : Label → Bool) (a b : Tree) → Least X a → Least X b → Least X (node a b)
unfolding place_in leaves holds decoded relabel
least_node X a b f g x h p y m n = go (first_outside X first) refl
  where
    first : List Label
    first = leaves (decoded a)

    second : List Label
    second = leaves (decoded b)

    found : first_outside X (first ++ second) ≡ some x
    found = outside_found X (first ++ second) x h

    in_second_lem : holds (decoded a) y ≡ false → holds (decoded b) y ≡ true
    in_second_lem = held_second a b y m

    left : FirstOutside X first x → (holds (decoded a) y ≡ true) ⊎ (holds (decoded a) y ≡ false)
        → place_in (node a b) p x ≤ place_in (node a b) p y
    left k (inl e) = rw (outside_in X first x k, e) (f x k (p + 1) y e n)
    left k (inr e) =
        let q : holds (decoded a) x ≡ true = outside_in X first x k in
        rw (q, e)
        (omega (arith, (place_inside a x (p + 1)).1, (place_inside b y (p + 1 + length (written a) + 1)).0))

    go : (o : Option Label) → first_outside X first ≡ o → place_in (node a b) p x ≤ place_in (node a b) p y
    go (some z) k =
        let q : FirstOutside X first z = rw k at (looked X first) in
        let l : some z ≡ some x = sym (outside_found X (first ++ second) z (more X first second z q)) ∙ found in
        let e : z ≡ x = cc in
        left (rw e at q) (bool_cases (holds (decoded a) y))
    go none k =
        let inside : ((z : Label) → is_in z first ≡ true → X z ≡ true) = rw k at (looked X first) in
        let no-x : holds (decoded a) x ≡ false = refute (holds (decoded a) x) (λ q. clash (inside x q) h.outside) in
        let no-y : holds (decoded a) y ≡ false = refute (holds (decoded a) y) (λ q. clash (inside y q) n) in
        let l : first_outside X second ≡ some x = sym (skip X first second inside) ∙ found in
        rw (no-x, no-y) (g x (rw l at (looked X second)) (p + 1 + length (written a) + 1) y (in_second_lem no-y) n)

least : (X : Label → Bool) (t : Tree) → Least X t
unfolding place_in
least X (leaf z) = λ x h p y m n. omega arith
least X (node a b) = least_node X a b (least X a) (least X b)

pub stray_least : (t other : Tree) (x : Label) → IsStray (decoded t) other x → (y : Label) → holds (decoded t) y ≡ true
    → holds other y ≡ false → place_in t 0 x ≤ place_in t 0 y
stray_least t other x h = least (holds other) t x h 0
