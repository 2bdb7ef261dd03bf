-- The computed place of a leaf is the one that closer pairs describe. So a leaf of a set on which two trees agree has one place. C-17.
-- Assumes nothing.
use mathlib.Core.Path.{◌≡◌, refl, sym, ◌∙◌, ap}
use mathlib.Core.Bool.{Bool, true, false, cond}
use mathlib.Core.Logic.{◌⊎◌, inl, inr}
use mathlib.Core.List.{List, [], ◌∷◌}
use Rattle.trees.specs.Label.{Label, same_label, is_in, distinct}
use Rattle.trees.specs.Tree.{Tree, leaf, node, leaves}
use Rattle.trees.proofs.Bools.{bool_cases, clash}
use Rattle.trees.proofs.LabelLaws.{same_cases, same_ne}
use Rattle.agreement.specs.Closer.{holds, lca, closer, Agree, Common}
use Rattle.agreement.specs.Sets.{increasing, sorted, keep, set_of}
use Rattle.agreement.proofs.HoldsLaws.{holds_leaf, holds_cases, distinct_node}
use Rattle.agreement.proofs.KeepLaws.{distinct_keep}
use Rattle.agreement.proofs.SetLaws.{in_nil, in_head, in_keep, keep_in, in_sorted, sorted_inc, inc_ext, Within}
use Rattle.agreement.proofs.CloserLaws.{closer_top}
use Rattle.agreement.proofs.Children.{Children, children, flip}
use Rattle.agreement.proofs.CladeLaws.{closer_held, own_second}
use Rattle.pieces.specs.Pieces.{nonempty_or, lowest, place_of, IsPlace}

-- the members of a list are what matters
pub place_members : {t : Tree} {K : List Label} {x : Label} {p q : List Label} → ((y : Label) → is_in y q ≡ is_in y p) → IsPlace t K x p
    → IsPlace t K x q
place_members f h = record {
  held = λ y m. h.held y (sym (f y) ∙ m);
  chosen = λ y m. h.chosen y (sym (f y) ∙ m);
  nearest = λ y m. h.nearest y (sym (f y) ∙ m);
  all = λ y k l g. f y ∙ h.all y k l g;
}

-- the ancestor of x and any required leaf is the whole tree
whole_place : (K : List Label) (t : Tree) (x : Label)
    → ((z : Label) → is_in z K ≡ true → holds t z ≡ true → (y : Label) → holds t y ≡ true → closer t x z y ≡ false)
    → IsPlace t K x (keep (set_of K) (leaves t))
unfolding holds
whole_place K t x f = record {
  held = λ y m. (in_keep (set_of K) y (leaves t) m).0;
  chosen = λ y m. (in_keep (set_of K) y (leaves t) m).1;
  nearest = λ y m z k h. f z k h y (in_keep (set_of K) y (leaves t) m).0;
  all = λ y k h g. keep_in (set_of K) y (leaves t) h k;
}

-- a child's place is the node's, unless it is empty
child_place : {t p q : Tree} {K : List Label} {x w : Label} {ws : List Label} → Children t p q → holds p x ≡ true
    → IsPlace p K x (w ∷ ws) → IsPlace t K x (w ∷ ws)
child_place {t} {p} {q} {K} {x} {w} {ws} c hx h = record {
  held = λ y m. c.one y (h.held y m);
  chosen = h.chosen;
  nearest = λ y m z k l. near y m z k (c.cover z l);
  all = λ y k l g.
      let i : holds p y ≡ true = closer_held p x w y (sym (c.below_one x w y hx wp) ∙ g w (h.chosen w (in_head w ws)) (c.one w wp)) in
      h.all y k i (λ z m n. sym (c.below_one x z y hx n) ∙ g z m (c.one z n));
}
  where
    wp : holds p w ≡ true
    wp = h.held w (in_head w ws)

    near : (y : Label) → is_in y (w ∷ ws) ≡ true → (z : Label) → is_in z K ≡ true → (holds p z ≡ true) ⊎ (holds q z ≡ true)
        → closer t x z y ≡ false
    near y m z k (inl i) = c.below_one x z y hx i ∙ h.nearest y m z k i
    near y m z k (inr i) = c.never x z y hx i (c.one y (h.held y m))

node_place : {t p q : Tree} {K : List Label} {x : Label} → Children t p q → holds p x ≡ true → (l : List Label)
    → (l ≡ [] → (z : Label) → is_in z K ≡ true → holds p z ≡ true → ⊥) → IsPlace p K x l
    → IsPlace t K x (nonempty_or l (keep (set_of K) (leaves t)))
unfolding nonempty_or
node_place c hx (w ∷ ws) e h = child_place c hx h
node_place {t} {p} {q} {K} {x} c hx [] e h = whole_place K t x (λ z k l y hy. apart z k y hy (c.cover z l))
  where
    apart : (z : Label) → is_in z K ≡ true → (y : Label) → holds t y ≡ true → (holds p z ≡ true) ⊎ (holds q z ≡ true)
        → closer t x z y ≡ false
    apart z k y hy (inl i) = absurd (e refl z k i)
    apart z k y hy (inr i) = c.never x z y hx i hy

else_none : (xs ys : List Label) → nonempty_or xs ys ≡ [] → ys ≡ []
unfolding nonempty_or
else_none [] ys e = e
else_none (x ∷ xs) ys e = let z : ◌≡◌ {A = Bool} true false = cc in clash refl z

-- no place, so no required leaf
pub lowest_none : (K : List Label) (t : Tree) (x : Label) → lowest K t x ≡ [] → keep (set_of K) (leaves t) ≡ []
unfolding lowest leaves
lowest_none K (leaf y) x e = e
lowest_none K (node p q) x e = else_none (cond (holds p x) (lowest K p x) (lowest K q x)) (keep (set_of K) (leaves (node p q))) e

none_required : (K : List Label) (t : Tree) → keep (set_of K) (leaves t) ≡ [] → (z : Label) → is_in z K ≡ true → holds t z ≡ true → ⊥
unfolding holds
none_required K t e z k h = in_nil z (ap (is_in z) (sym e) ∙ keep_in (set_of K) z (leaves t) h k)

pub lowest_place : (K : List Label) (t : Tree) (x : Label) → distinct (leaves t) ≡ true → holds t x ≡ true → IsPlace t K x (lowest K t x)
unfolding lowest leaves
lowest_place K (leaf y) x d h = whole_place K (leaf y) x (λ z k l w m. closer_top (leaf y) x z w (unfold lca in refl) m)
lowest_place K (node p q) x d h =
    go (bool_cases (holds p x)) (lowest_place K p x (distinct_node p q d).one) (lowest_place K q x (distinct_node p q d).two)
  where
    c : Children (node p q) p q
    c = children p q d

    second : holds p x ≡ false → (holds p x ≡ true) ⊎ (holds q x ≡ true) → holds q x ≡ true
    second n (inl i) = clash i n
    second n (inr i) = i

    go : (holds p x ≡ true) ⊎ (holds p x ≡ false) → (holds p x ≡ true → IsPlace p K x (lowest K p x))
        → (holds q x ≡ true → IsPlace q K x (lowest K q x))
        → IsPlace (node p q) K x (nonempty_or (cond (holds p x) (lowest K p x) (lowest K q x)) (keep (set_of K) (leaves (node p q))))
    go (inl i) f g = rw i (node_place c i (lowest K p x) (λ e. none_required K p (lowest_none K p x e)) (f i))
    go (inr n) f g =
        let i : holds q x ≡ true = second n (c.cover x h) in
        rw n (node_place (flip c) i (lowest K q x) (λ e. none_required K q (lowest_none K q x e)) (g i))

lowest_distinct : (K : List Label) (t : Tree) (x : Label) → distinct (leaves t) ≡ true → distinct (lowest K t x) ≡ true
unfolding lowest leaves
lowest_distinct K (leaf y) x d = distinct_keep (set_of K) (y ∷ []) d
lowest_distinct K (node p q) x d =
    go (holds p x) (lowest_distinct K p x (distinct_node p q d).one) (lowest_distinct K q x (distinct_node p q d).two)
  where
    pick : (l : List Label) → distinct l ≡ true → distinct (nonempty_or l (keep (set_of K) (leaves (node p q)))) ≡ true
    pick [] e = unfold nonempty_or in distinct_keep (set_of K) (leaves (node p q)) d
    pick (w ∷ ws) e = unfold nonempty_or in e

    go : (b : Bool) → distinct (lowest K p x) ≡ true → distinct (lowest K q x) ≡ true
        → distinct (nonempty_or (cond b (lowest K p x) (lowest K q x)) (keep (set_of K) (leaves (node p q)))) ≡ true
    go true f g = pick (lowest K p x) f
    go false f g = pick (lowest K q x) g

-- the computed place is in label order and as described
pub place_inc : (K : List Label) (t : Tree) (x : Label) → distinct (leaves t) ≡ true → increasing (place_of K t x) ≡ true
unfolding place_of
place_inc K t x d = sorted_inc (lowest K t x) (lowest_distinct K t x d)

pub place_is : (K : List Label) (t : Tree) (x : Label) → distinct (leaves t) ≡ true → holds t x ≡ true → IsPlace t K x (place_of K t x)
unfolding place_of
place_is K t x d h = place_members (λ y. in_sorted y (lowest K t x)) (lowest_place K t x d h)

-- it is not empty if some leaf is required
sorted_none : (xs : List Label) → sorted xs ≡ [] → xs ≡ []
sorted_none [] e = refl
sorted_none (x ∷ xs) e = in_nil x (ap (is_in x) (sym e) ∙ in_sorted x (x ∷ xs) ∙ in_head x xs)

pub place_some : (K : List Label) (t : Tree) (x y : Label) → place_of K t x ≡ [] → is_in y K ≡ true → holds t y ≡ true → ⊥
unfolding place_of
place_some K t x y e = none_required K t (lowest_none K t x (sorted_none (lowest K t x) e)) y

keep_one : (X : Label → Bool) (x : Label) → X x ≡ true → keep X (x ∷ []) ≡ x ∷ []
unfolding keep
keep_one X x h = rw h refl

-- of a required leaf it is the leaf itself
lowest_required : (K : List Label) (t : Tree) (x : Label) → is_in x K ≡ true → holds t x ≡ true → lowest K t x ≡ x ∷ []
unfolding lowest
lowest_required K (leaf y) x k h = let e : x ≡ y = holds_leaf y x h in rw (← e) (keep_one (set_of K) x k)
lowest_required K (node p q) x k h = go (bool_cases (holds p x)) (lowest_required K p x k) (lowest_required K q x k)
  where
    second : holds p x ≡ false → (holds p x ≡ true) ⊎ (holds q x ≡ true) → holds q x ≡ true
    second n (inl i) = clash i n
    second n (inr i) = i

    go : (holds p x ≡ true) ⊎ (holds p x ≡ false) → (holds p x ≡ true → lowest K p x ≡ x ∷ []) → (holds q x ≡ true → lowest K q x ≡ x ∷ [])
        → nonempty_or (cond (holds p x) (lowest K p x) (lowest K q x)) (keep (set_of K) (leaves (node p q))) ≡ x ∷ []
    go (inl i) f g = rw i (ap (λ (l : List Label). nonempty_or l (keep (set_of K) (leaves (node p q)))) (f i))
    go (inr n) f g = rw n (ap (λ (l : List Label). nonempty_or l (keep (set_of K) (leaves (node p q)))) (g (second n (holds_cases p q x h))))

pub place_required : (K : List Label) (t : Tree) (x : Label) → is_in x K ≡ true → holds t x ≡ true → place_of K t x ≡ x ∷ []
unfolding place_of sorted
place_required K t x k h = ap sorted (lowest_required K t x k h)

-- "one whose places differ is in no answer"; 003, Lemma 6

module _ (s t : Tree) (K : List Label) (X : Label → Bool) (ds : distinct (leaves s) ≡ true) (dt : distinct (leaves t) ≡ true)
    (common : Common s t X) (agrees : Agree s t X) (within : (x : Label) → is_in x K ≡ true → X x ≡ true) where
  place_within : (x : Label) → X x ≡ true → is_in x K ≡ false → Within (place_of K s x) (place_of K t x)
  place_within x m n y i = ht.all y ky (common y (within y ky)).1 near
    where
      hs : IsPlace s K x (place_of K s x)
      hs = place_is K s x ds (common x m).0

      ht : IsPlace t K x (place_of K t x)
      ht = place_is K t x dt (common x m).1

      ky : is_in y K ≡ true
      ky = hs.chosen y i

      other : (z : Label) → is_in z K ≡ true → x ≡ z → ⊥
      other z k e = clash (ap (λ (w : Label). is_in w K) e ∙ k) n

      near : (z : Label) → is_in z K ≡ true → holds t z ≡ true → closer t x z y ≡ false
      near z k h = go (same_cases z y)
        where
          go : (z ≡ y) ⊎ (same_label z y ≡ false) → closer t x z y ≡ false
          go (inl e) = ap (closer t x z) (sym e) ∙ own_second t x z dt (common x m).1 h
          go (inr e) =
              sym (agrees x z y m (within z k) (within y ky) (other z k) (other y ky) (same_ne z y e))
              ∙ hs.nearest y i z k (common z (within z k)).0

pub one_place_lem : (s t : Tree) (K : List Label) (X : Label → Bool) → distinct (leaves s) ≡ true → distinct (leaves t) ≡ true → Common s t X
    → Agree s t X → ((x : Label) → is_in x K ≡ true → X x ≡ true) → (x : Label) → X x ≡ true → is_in x K ≡ false
    → place_of K s x ≡ place_of K t x
one_place_lem s t K X ds dt common agrees within x m n =
    inc_ext (place_of K s x) (place_of K t x) (place_inc K s x ds) (place_inc K t x dt)
    (place_within s t K X ds dt common agrees within x m n)
    (place_within t s K X dt ds (λ y k. ((common y k).1, (common y k).0))
    (λ a b c xa xb xc ab ac bc. sym (agrees a b c xa xb xc ab ac bc)) within x m n)
