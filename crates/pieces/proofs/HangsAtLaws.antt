-- What the test `hangs_at` says of a leaf, and the comparison of places that it uses. C-17. Assumes nothing.
use mathlib.Core.Path.{◌≡◌, refl}
use mathlib.Core.Bool.{Bool, true, false, not, ◌&&◌}
use mathlib.Core.Logic.{◌⊎◌, inl, inr, ◌↔◌}
use mathlib.Core.List.{List, [], ◌∷◌}
use Rattle.trees.specs.Label.{Label, same_label, is_in, distinct}
use Rattle.trees.specs.Tree.{Tree, leaves}
use Rattle.trees.proofs.Bools.{bool_cases, clash, and_left, and_right, and_intro}
use Rattle.trees.proofs.LabelLaws.{same_refl, same_eq}
use Rattle.agreement.specs.Closer.{holds}
use Rattle.agreement.specs.Sets.{increasing, common}
use Rattle.agreement.proofs.SetLaws.{in_head, in_keep, keep_in, keep_inc, common_inc, in_common, common_in}
use Rattle.pieces.specs.Pieces.{head_of, same_set, place_of, hangs_at, HangsThere, hanging}

-- lists of labels are equal or not

pub set_refl : (p : List Label) → same_set p p ≡ true
unfolding same_set
set_refl [] = refl
set_refl (x ∷ p) = and_intro (same_label x x) (same_set p p) (same_refl x) (set_refl p)

pub set_eq : (p q : List Label) → same_set p q ≡ true → p ≡ q
unfolding same_set
set_eq [] [] h = refl
set_eq [] (y ∷ q) h = clash h refl
set_eq (x ∷ p) [] h = clash h refl
set_eq (x ∷ p) (y ∷ q) h =
    let e : x ≡ y = same_eq x y (and_left (same_label x y) (same_set p q) h) in
    let f : p ≡ q = set_eq p q (and_right (same_label x y) (same_set p q) h) in
    cc

pub eq_set : (p q : List Label) → p ≡ q → same_set p q ≡ true
eq_set p q e = rw (← e) (set_refl p)

pub set_cases : (p q : List Label) → (p ≡ q) ⊎ (p ≡ q → ⊥)
set_cases p q = go (bool_cases (same_set p q))
  where
    go : (same_set p q ≡ true) ⊎ (same_set p q ≡ false) → (p ≡ q) ⊎ (p ≡ q → ⊥)
    go (inl h) = inl (set_eq p q h)
    go (inr h) = inr (λ e. clash (eq_set p q e) h)

pub head_in : (p : List Label) → (p ≡ [] → ⊥) → is_in (head_of p) p ≡ true
unfolding head_of
head_in [] n = absurd (n refl)
head_in (x ∷ p) n = in_head x p

pub hangs_true : (s t : Tree) (K : List Label) (x : Label) (q : List Label) → is_in x K ≡ false → place_of K s x ≡ q → place_of K t x ≡ q
    → hangs_at s t K q x ≡ true
unfolding hangs_at
hangs_true s t K x q n e f =
    rw n
    (and_intro (same_set (place_of K s x) q) (same_set (place_of K t x) q) (eq_set (place_of K s x) q e) (eq_set (place_of K t x) q f))

not-true : (b : Bool) → not b ≡ true → b ≡ false
not-true true h = clash h refl
not-true false h = refl

pub hangs_there : (s t : Tree) (K q : List Label) (x : Label) → hangs_at s t K q x ≡ true → HangsThere s t K q x
unfolding hangs_at
hangs_there s t K q x h =
    let a : Bool = same_set (place_of K s x) q in
    let b : Bool = same_set (place_of K t x) q in
    record {
      outside = not-true (is_in x K) (and_left (not (is_in x K)) (a && b) h);
      in_first = set_eq (place_of K s x) q (and_left a b (and_right (not (is_in x K)) (a && b) h));
      in_second = set_eq (place_of K t x) q (and_right a b (and_right (not (is_in x K)) (a && b) h));
    }

-- "the leaves that hang there in both trees in label order"
pub hanging_order : (s t : Tree) (K q : List Label) → distinct (leaves s) ≡ true → increasing (hanging s t K q) ≡ true
unfolding hanging
hanging_order s t K q d = keep_inc (hangs_at s t K q) (common s t) (common_inc s t d)

pub hanging_exactly : (s t : Tree) (K q : List Label) (x : Label)
    → (is_in x (hanging s t K q) ≡ true) ↔ ((holds s x ≡ true) × (holds t x ≡ true) × HangsThere s t K q x)
unfolding hanging
hanging_exactly s t K q x = (
  λ m.
      let h = in_keep (hangs_at s t K q) x (common s t) m in
      ((in_common s t x h.0).0, (in_common s t x h.0).1, hangs_there s t K q x h.1),
  λ h.
      keep_in (hangs_at s t K q) x (common s t) (common_in s t x h.0 h.1)
      (hangs_true s t K x q h.2.outside h.2.in_first h.2.in_second),
)
