-- 001, Lemma 3.1, with weights: no set on which two trees agree weighs more than the recurrence says, and one
-- weighs as much. Leaf sets may differ; each tree's labels are distinct. Assumes nothing.
use Prim.Native.Nat.{ℕ, ◌+◌, ◌≤◌, max}
use mathlib.Core.Path.{◌≡◌, refl, sym, ◌∙◌, ap}
use mathlib.Core.Bool.{Bool, true, false, cond, ◌||◌, or-false}
use mathlib.Core.Logic.{◌⊎◌, inl, inr, ⊎_swap}
use native.Mathlib.Omega.{arith, max_cases}
use Rattle.trees.specs.Label.{Label, distinct}
use Rattle.trees.specs.Tree.{Tree, leaf, node, leaves}
use Rattle.trees.proofs.Bools.{bool_cases, clash, or_cases, refute}
use Rattle.trees.proofs.LabelLaws.{same_eq, eq_same}
use Rattle.agreement.specs.Closer.{holds, closer, Agree, Common}
use Rattle.agreement.specs.Weights.{weight_in, best}
use Rattle.agreement.specs.Greatest.{Greatest}
use Rattle.agreement.proofs.HoldsLaws.{holds_self, holds_leaf, distinct_leaf}
use Rattle.agreement.proofs.KeepLaws.{only, weight_cong, weight_none, weight_only, weight_mono}
use Rattle.agreement.proofs.Children.{Children, flip, closer_apart}
use Rattle.agreement.proofs.PairInduction.{by_pairs}
use Rattle.agreement.proofs.Divide.{Within, Empty, Fits, fits, fits_below, fits_into, within_both, divide}

-- the recurrence, case by case

pub best_leaf_left : (w : Label → ℕ) (x : Label) (t : Tree) → best w (leaf x) t ≡ cond (holds t x) (w x) 0
unfolding best
best_leaf_left w x t = refl

pub best_leaf_right : (w : Label → ℕ) (s : Tree) (y : Label) → best w s (leaf y) ≡ cond (holds s y) (w y) 0
unfolding best
best_leaf_right w (leaf x) y = go (bool_cases (holds (leaf y) x)) (bool_cases (holds (leaf x) y))
  where
    go : (holds (leaf y) x ≡ true) ⊎ (holds (leaf y) x ≡ false) → (holds (leaf x) y ≡ true) ⊎ (holds (leaf x) y ≡ false)
        → cond (holds (leaf y) x) (w x) 0 ≡ cond (holds (leaf x) y) (w y) 0
    go (inl h) (inl k) = rw (h, k) (ap w (holds_leaf y x h))
    go (inl h) (inr k) = clash (ap (λ v. holds (leaf x) v) (sym (holds_leaf y x h)) ∙ holds_self x) k
    go (inr h) (inl k) = clash (ap (λ v. holds (leaf y) v) (sym (holds_leaf x y k)) ∙ holds_self y) h
    go (inr h) (inr k) = rw (h, k) refl
best_leaf_right w (node p q) y = refl

-- upper bound

abbrev Bounded : (Label → ℕ) → (Label → Bool) → Tree → Tree → Type 0
Bounded w X s t = Fits s t X → weight_in w s X ≤ best w s t

-- a set of one label at most
bound_only : (w : Label → ℕ) (X : Label → Bool) (s : Tree) (y : Label) → distinct (leaves s) ≡ true
    → ((x : Label) → X x ≡ true → holds s x ≡ true → x ≡ y) → weight_in w s X ≤ cond (holds s y) (w y) 0
bound_only w X s y d f =
    omega (arith, weight_only w s y d, weight_mono w s X (only y) (λ x h k. eq_same x y (f x k h)))

bound_leaf : (w : Label → ℕ) (X : Label → Bool) (x : Label) (t : Tree) → Bounded w X (leaf x) t
bound_leaf w X x t f = rw (best_leaf_left w x t) (go (bool_cases (holds t x)))
  where
    go : (holds t x ≡ true) ⊎ (holds t x ≡ false) → weight_in w (leaf x) X ≤ cond (holds t x) (w x) 0
    go (inl h) = rw h (rw (holds_self x) at (bound_only w X (leaf x) x (distinct_leaf x) (λ y k l. holds_leaf x y l)))
    go (inr h) = rw h (omega (arith, weight_none w (leaf x) X (λ y l. refute (X y) (λ k. clash (f.within y k l) (ap (holds t) (holds_leaf x y l) ∙ h)))))

bound_node : (w : Label → ℕ) (X : Label → Bool) (p q c d : Tree) → Children (node p q) p q → Children (node c d) c d
    → Bounded w X p (node c d) → Bounded w X q (node c d) → Bounded w X (node p q) c → Bounded w X (node p q) d
    → Bounded w X p c → Bounded w X q d → Bounded w X p d → Bounded w X q c → Bounded w X (node p q) (node c d)
unfolding best
bound_node w X p q c d k l pt qt sc sd pc qd pd qc f = go (divide k l f) (divide (flip k) l f)
  where
    m : weight_in w (node p q) X ≡ weight_in w p X + weight_in w q X
    m = k.weight w X

    go : Within p c X ⊎ (Within p d X ⊎ Empty q X) → Within q c X ⊎ (Within q d X ⊎ Empty p X)
        → weight_in w (node p q) X ≤ best w (node p q) (node c d)
    go (inr (inr e)) j = omega (arith, m, weight_none w q X e, pt (fits_below k f))
    go (inl i) (inr (inr e)) = omega (arith, m, weight_none w p X e, qt (fits_below (flip k) f))
    go (inr (inl i)) (inr (inr e)) = omega (arith, m, weight_none w p X e, qt (fits_below (flip k) f))
    go (inl i) (inl j) = omega (arith, sc (fits_into l (within_both k c i j) f))
    go (inl i) (inr (inl j)) = omega (arith, m, pc (fits_into l i (fits_below k f)), qd (fits_into (flip l) j (fits_below (flip k) f)))
    go (inr (inl i)) (inl j) = omega (arith, m, pd (fits_into (flip l) i (fits_below k f)), qc (fits_into l j (fits_below (flip k) f)))
    go (inr (inl i)) (inr (inl j)) = omega (arith, sd (fits_into (flip l) (within_both k d i j) f))

bound_at_leaf : (w : Label → ℕ) (X : Label → Bool) (s : Tree) (y : Label) → distinct (leaves s) ≡ true → Bounded w X s (leaf y)
bound_at_leaf w X s y d f = rw (best_leaf_right w s y) (bound_only w X s y d (λ x h k. holds_leaf y x (f.within x h k)))

bounded : (w : Label → ℕ) (X : Label → Bool) (s t : Tree) → distinct (leaves s) ≡ true → distinct (leaves t) ≡ true → Bounded w X s t
bounded w X =
    by_pairs (Bounded w X) (λ x y. bound_leaf w X x (leaf y)) (λ x c d l i j. bound_leaf w X x (node c d))
    (λ p q y ds i j. bound_at_leaf w X (node p q) y ds)
    (bound_node w X)

best_bound : (w : Label → ℕ) (s t : Tree) (X : Label → Bool) → distinct (leaves s) ≡ true → distinct (leaves t) ≡ true
    → Common s t X → Agree s t X → weight_in w s X ≤ best w s t
best_bound w s t X ds dt m g = bounded w X s t ds dt (fits s t X m g)

-- a set that reaches the bound

record Reach (w : Label → ℕ) (s t : Tree) (n : ℕ) : Type 0 where
  pub chosen : Label → Bool
  pub common_leaves : Common s t chosen
  pub agreed : Agree s t chosen
  pub weighs : weight_in w s chosen ≡ n

reach_max : {w : Label → ℕ} {s t : Tree} {m n : ℕ} → Reach w s t m → Reach w s t n → Reach w s t (max m n)
reach_max {w} {s} {t} {m} {n} r u = max_cases m n (Reach w s t (max m n)) (λ h e. rw e u) (λ h e. rw e r)

reach_none : (w : Label → ℕ) (s t : Tree) → Reach w s t 0
reach_none w s t =
    record {
      chosen = λ x. false;
      common_leaves = λ x h. clash h refl;
      agreed = λ a b c h. clash h refl;
      weighs = weight_none w s (λ x. false) (λ x h. refl);
    }

reach_only : (w : Label → ℕ) (s t : Tree) (y : Label) → distinct (leaves s) ≡ true → holds s y ≡ true → holds t y ≡ true → Reach w s t (w y)
reach_only w s t y d h k =
    record {
      chosen = only y;
      common_leaves = λ x e. (ap (holds s) (same_eq x y e) ∙ h, ap (holds t) (same_eq x y e) ∙ k);
      agreed = λ a b c ha hb hc ab. absurd (ab (same_eq a y ha ∙ sym (same_eq b y hb)));
      weighs = weight_only w s y d ∙ (rw h refl);
    }

reach_below : {w : Label → ℕ} {s p q t : Tree} {n : ℕ} → Children s p q → Reach w p t n → Reach w s t n
reach_below {w = w} {q = q} k r =
    record {
      chosen = r.chosen;
      common_leaves = λ x h. (k.one x (r.common_leaves x h).0, (r.common_leaves x h).1);
      agreed = λ a b c ha hb hc ab ac bc.
          k.below_one a b c (r.common_leaves a ha).0 (r.common_leaves b hb).0 ∙ r.agreed a b c ha hb hc ab ac bc;
      weighs = omega (arith, k.weight w r.chosen, r.weighs, weight_none w q r.chosen (λ x h. refute (r.chosen x) (λ e. k.apart x (r.common_leaves x e).0 h)));
    }

reach_into : {w : Label → ℕ} {s t c d : Tree} {n : ℕ} → Children t c d → Reach w s c n → Reach w s t n
reach_into k r =
    record {
      chosen = r.chosen;
      common_leaves = λ x h. ((r.common_leaves x h).0, k.one x (r.common_leaves x h).1);
      agreed = λ a b c ha hb hc ab ac bc.
          r.agreed a b c ha hb hc ab ac bc ∙ sym (k.below_one a b c (r.common_leaves a ha).1 (r.common_leaves b hb).1);
      weighs = r.weighs;
    }

-- two nodes agree on a, b and c, the first two below one child of each, if these children do
level : {s p q t c d : Tree} → Children s p q → Children t c d → (X Y : Label → Bool) → Common p c X → Common q d Y → Agree p c X
    → (x y z : Label) → X x ≡ true → X y ≡ true → (X z ≡ true) ⊎ (Y z ≡ true) → (x ≡ y → ⊥) → (x ≡ z → ⊥) → (y ≡ z → ⊥)
    → closer s x y z ≡ closer t x y z
level k l X Y m n g x y z hx hy (inl hz) xy xz yz =
    k.below_one x y z (m x hx).0 (m y hy).0 ∙ g x y z hx hy hz xy xz yz ∙ sym (l.below_one x y z (m x hx).1 (m y hy).1)
level k l X Y m n g x y z hx hy (inr hz) xy xz yz =
    closer_apart k x y z (m x hx).0 (m y hy).0 (n z hz).0 ∙ sym (closer_apart l x y z (m x hx).1 (m y hy).1 (n z hz).1)

-- the children paired: the union of a set for each pair
reach_pair : {w : Label → ℕ} {s p q t c d : Tree} {m n : ℕ} → Children s p q → Children t c d → Reach w p c m → Reach w q d n
    → Reach w s t (m + n)
reach_pair {w} {s} {p} {q} {t} {c} {d} {m} {n} k l r u =
    record {
      chosen = λ x. X x || Y x;
      common_leaves = λ x h. shared x (or_cases (X x) (Y x) h);
      agreed = λ x y z hx hy hz. agree x y z (or_cases (X x) (Y x) hx) (or_cases (X y) (Y y) hy) (or_cases (X z) (Y z) hz);
      weighs = omega (arith, k.weight w (λ x. X x || Y x), r.weighs, u.weighs, part_one, part_two);
    }
  where
    X : Label → Bool
    X = r.chosen

    Y : Label → Bool
    Y = u.chosen

    shared : (x : Label) → (X x ≡ true) ⊎ (Y x ≡ true) → (holds s x ≡ true) × (holds t x ≡ true)
    shared x (inl h) = (k.one x (r.common_leaves x h).0, l.one x (r.common_leaves x h).1)
    shared x (inr h) = (k.two x (u.common_leaves x h).0, l.two x (u.common_leaves x h).1)

    agree : (x y z : Label) → (X x ≡ true) ⊎ (Y x ≡ true) → (X y ≡ true) ⊎ (Y y ≡ true) → (X z ≡ true) ⊎ (Y z ≡ true)
        → (x ≡ y → ⊥) → (x ≡ z → ⊥) → (y ≡ z → ⊥) → closer s x y z ≡ closer t x y z
    agree x y z (inl hx) (inl hy) hz = level k l X Y r.common_leaves u.common_leaves r.agreed x y z hx hy hz
    agree x y z (inr hx) (inr hy) hz = level (flip k) (flip l) Y X u.common_leaves r.common_leaves u.agreed x y z hx hy (⊎_swap hz)
    agree x y z (inl hx) (inr hy) hz = λ xy xz yz.
        k.never x y z (r.common_leaves x hx).0 (u.common_leaves y hy).0 (shared z hz).0
        ∙ sym (l.never x y z (r.common_leaves x hx).1 (u.common_leaves y hy).1 (shared z hz).1)
    agree x y z (inr hx) (inl hy) hz = λ xy xz yz.
        (flip k).never x y z (u.common_leaves x hx).0 (r.common_leaves y hy).0 (shared z hz).0
        ∙ sym ((flip l).never x y z (u.common_leaves x hx).1 (r.common_leaves y hy).1 (shared z hz).1)

    part_one : weight_in w p (λ x. X x || Y x) ≡ weight_in w p X
    part_one = weight_cong w p (λ x. X x || Y x) X
        (λ x h. rw (refute (Y x) (λ e. k.apart x h (u.common_leaves x e).0)) (or-false (X x)))

    part_two : weight_in w q (λ x. X x || Y x) ≡ weight_in w q Y
    part_two = weight_cong w q (λ x. X x || Y x) Y
        (λ x h. rw (refute (X x) (λ e. k.apart x (r.common_leaves x e).0 h)) refl)

reach_leaf : (w : Label → ℕ) (x : Label) (t : Tree) → Reach w (leaf x) t (best w (leaf x) t)
reach_leaf w x t = rw (best_leaf_left w x t) (go (bool_cases (holds t x)))
  where
    go : (holds t x ≡ true) ⊎ (holds t x ≡ false) → Reach w (leaf x) t (cond (holds t x) (w x) 0)
    go (inl h) = rw h (reach_only w (leaf x) t x (distinct_leaf x) (holds_self x) h)
    go (inr h) = rw h (reach_none w (leaf x) t)

reach_at_leaf : (w : Label → ℕ) (s : Tree) (y : Label) → distinct (leaves s) ≡ true → Reach w s (leaf y) (best w s (leaf y))
reach_at_leaf w s y d = rw (best_leaf_right w s y) (go (bool_cases (holds s y)))
  where
    go : (holds s y ≡ true) ⊎ (holds s y ≡ false) → Reach w s (leaf y) (cond (holds s y) (w y) 0)
    go (inl h) = rw h (reach_only w s (leaf y) y d h (holds_self y))
    go (inr h) = rw h (reach_none w s (leaf y))

reach_node : (w : Label → ℕ) (p q c d : Tree) → Children (node p q) p q → Children (node c d) c d
    → Reach w p (node c d) (best w p (node c d)) → Reach w q (node c d) (best w q (node c d))
    → Reach w (node p q) c (best w (node p q) c) → Reach w (node p q) d (best w (node p q) d)
    → Reach w p c (best w p c) → Reach w q d (best w q d) → Reach w p d (best w p d) → Reach w q c (best w q c)
    → Reach w (node p q) (node c d) (best w (node p q) (node c d))
unfolding best
reach_node w p q c d k l pt qt sc sd pc qd pd qc =
    reach_max (reach_max (reach_below k pt) (reach_below (flip k) qt))
    (reach_max (reach_max (reach_into l sc) (reach_into (flip l) sd)) (reach_max (reach_pair k l pc qd) (reach_pair k (flip l) pd qc)))

best_reached : (w : Label → ℕ) (s t : Tree) → distinct (leaves s) ≡ true → distinct (leaves t) ≡ true → Reach w s t (best w s t)
best_reached w =
    by_pairs (λ s t. Reach w s t (best w s t)) (λ x y. reach_leaf w x (leaf y)) (λ x c d l i j. reach_leaf w x (node c d))
    (λ p q y ds i j. reach_at_leaf w (node p q) y ds) (reach_node w)

-- together: the recurrence gives the greatest weight
pub best_greatest : (w : Label → ℕ) (s t : Tree) → distinct (leaves s) ≡ true → distinct (leaves t) ≡ true → Greatest w s t (best w s t)
best_greatest w s t ds dt =
    let r : Reach w s t (best w s t) = best_reached w s t ds dt in
    record {
      bound = λ X c a. best_bound w s t X ds dt c a;
      set = r.chosen;
      common_leaves = r.common_leaves;
      agreed = r.agreed;
      reached = r.weighs;
    }

-- what the recurrence computes for two nodes
pub best_node : (w : Label → ℕ) (p q c d : Tree) → best w (node p q) (node c d)
    ≡ max (max (best w p (node c d)) (best w q (node c d)))
    (max (max (best w (node p q) c) (best w (node p q) d)) (max (best w p c + best w q d) (best w p d + best w q c)))
unfolding best
best_node w p q c d = refl
