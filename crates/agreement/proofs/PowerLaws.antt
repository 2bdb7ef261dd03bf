-- Sums of powers tell sets: they are ordered as "first" orders the sets, and the set is read off its sum. Sets and numbers only,
-- no tree. Assumes nothing.
use Prim.Native.Nat.{ℕ, zero, suc, ◌+◌, ◌*◌, ◌-◌, ◌≤◌, ◌<◌}
use mathlib.Core.Path.{◌≡◌, refl, sym, ◌∙◌, ap}
use mathlib.Core.Bool.{Bool, true, false, cond, ◌||◌}
use mathlib.Core.Logic.{◌⊎◌, inl, inr, ⊎_elim}
use mathlib.Core.List.{List, [], ◌∷◌}
use native.Mathlib.Omega.{arith}
use lib.Dec.{leb}
use lib.ListN.{length, get_or}
use borrow.Author.Tests.{le-leb, lt-leb}
use Rattle.trees.specs.Label.{Label, label_less, same_label, is_in, distinct}
use Rattle.trees.proofs.Bools.{clash}
use Rattle.trees.proofs.LabelLaws.{same_refl, eq_same, ne_same, same_ne, same_cases}
use Rattle.trees.proofs.ListLaws.{distinct_head, distinct_tail, at_in}
use Rattle.agreement.specs.Sets.{increasing, keep, set_of}
use Rattle.agreement.specs.Weights.{weigh, unit_in}
use Rattle.agreement.specs.Powers.{power, whole, power_in, sum_in, decode, telling}
use Rattle.agreement.proofs.SetLaws.{in_nil, in_head, in_tail, in_cases, inc_least, inc_tail, inc_new}

pub power_some : (n : ℕ) → 0 < power n
unfolding power
power_some zero = omega arith
power_some (suc n) = omega (arith, power_some n)

-- all lower powers together are less than the next
pub sum_small : (n : ℕ) (C : List Label) (X : Label → Bool) → sum_in n C X < power n
unfolding sum_in power
sum_small zero C X = omega arith
sum_small (suc n) [] X = omega (arith, power_some n)
sum_small (suc n) (c ∷ C) X = go (X c) (sum_small n C X)
  where
    go : (b : Bool) → sum_in n C X < power n → cond b (power n) 0 + sum_in n C X < power (suc n)
    go true h = omega arith
    go false h = omega (arith, power_some n)

pub sum_cong : (n : ℕ) (C : List Label) (X Y : Label → Bool) → ((x : Label) → is_in x C ≡ true → X x ≡ Y x) → sum_in n C X ≡ sum_in n C Y
unfolding sum_in
sum_cong zero C X Y f = refl
sum_cong (suc n) [] X Y f = refl
sum_cong (suc n) (c ∷ C) X Y f = rw (f c (in_head c C), sum_cong n C X Y (λ x m. f x (in_tail x c C m))) refl

-- X holds the smallest label of the list that stands in only one of X and Y
pub record FirstIn (C : List Label) (X Y : Label → Bool) : Type 0 where
  pub at : Label
  pub held : X at ≡ true
  pub lacked : Y at ≡ false
  pub smallest : (x : Label) → is_in x C ≡ true → label_less x at ≡ true → X x ≡ Y x

-- the set with the greater sum is the same or the first
pub sum_order : (n : ℕ) (C : List Label) (X Y : Label → Bool) → increasing C ≡ true → length C ≤ n → sum_in n C Y ≤ sum_in n C X
    → ((x : Label) → is_in x C ≡ true → X x ≡ Y x) ⊎ FirstIn C X Y
unfolding sum_in
sum_order zero [] X Y inc few le = inl (λ x m. in_nil x m)
sum_order zero (c ∷ C) X Y inc few le = absurd (omega arith)
sum_order (suc n) [] X Y inc few le = inl (λ x m. in_nil x m)
sum_order (suc n) (c ∷ C) X Y inc few le =
    go (X c) refl (Y c) refl le (sum_order n C X Y (inc_tail c C inc) (omega arith))
  where
    both : X c ≡ Y c → ((x : Label) → is_in x C ≡ true → X x ≡ Y x) ⊎ FirstIn C X Y
        → ((x : Label) → is_in x (c ∷ C) ≡ true → X x ≡ Y x) ⊎ FirstIn (c ∷ C) X Y
    both e (inl f) = inl (λ x m. ⊎_elim (λ (d : x ≡ c). rw d e) (f x) (in_cases x c C m))
    both e (inr f) =
        inr (record {
          at = f.at;
          held = f.held;
          lacked = f.lacked;
          smallest = λ x m l. ⊎_elim (λ (d : x ≡ c). rw d e) (λ (k : is_in x C ≡ true). f.smallest x k l) (in_cases x c C m);
        })

    go : (a : Bool) → X c ≡ a → (b : Bool) → Y c ≡ b → cond b (power n) 0 + sum_in n C Y ≤ cond a (power n) 0 + sum_in n C X
        → (sum_in n C Y ≤ sum_in n C X → ((x : Label) → is_in x C ≡ true → X x ≡ Y x) ⊎ FirstIn C X Y)
        → ((x : Label) → is_in x (c ∷ C) ≡ true → X x ≡ Y x) ⊎ FirstIn (c ∷ C) X Y
    go true p true q h ih = both (p ∙ sym q) (ih (omega arith))
    go false p false q h ih = both (p ∙ sym q) (ih (omega arith))
    go true p false q h ih =
        inr (record { at = c; held = p; lacked = q; smallest = λ x m l. clash m (inc_least c C inc x l) })
    go false p true q h ih = absurd (omega (arith, h, sum_small n C X))

-- and the set is read off its sum
pub decode_sum : (n : ℕ) (C : List Label) (X : Label → Bool) → length C ≤ n → decode n C (sum_in n C X) ≡ keep X C
unfolding decode sum_in keep
decode_sum zero [] X few = refl
decode_sum zero (c ∷ C) X few = absurd (omega arith)
decode_sum (suc n) [] X few = refl
decode_sum (suc n) (c ∷ C) X few = go (X c) (decode_sum n C X (omega arith))
  where
    go : (b : Bool) → decode n C (sum_in n C X) ≡ keep X C
        → cond (leb (power n) (cond b (power n) 0 + sum_in n C X))
        (c ∷ decode n C (cond b (power n) 0 + sum_in n C X - power n)) (decode n C (cond b (power n) 0 + sum_in n C X))
        ≡ cond b (c ∷ keep X C) (keep X C)
    go true ih =
        let e : power n + sum_in n C X - power n ≡ sum_in n C X = omega arith in
        rw (le-leb (power n) (power n + sum_in n C X) (omega arith), e) (ap (◌∷◌ c) ih)
    go false ih =
        let e : 0 + sum_in n C X ≡ sum_in n C X = omega arith in
        rw (e, lt-leb (power n) (sum_in n C X) (sum_small n C X)) ih

-- a label that is not in the list has no power, and the label of rank r has the power of its place

sum_none : (n : ℕ) (C : List Label) (X : Label → Bool) → ((x : Label) → is_in x C ≡ true → X x ≡ false) → sum_in n C X ≡ 0
unfolding sum_in
sum_none zero C X f = refl
sum_none (suc n) [] X f = refl
sum_none (suc n) (c ∷ C) X f = rw (f c (in_head c C), sum_none n C X (λ x m. f x (in_tail x c C m))) refl

pub power_rank : (n : ℕ) (C : List Label) (r : ℕ) → increasing C ≡ true → length C ≤ n → r < length C
    → power_in n C (get_or C r []) ≡ power (n - 1 - r)
unfolding sum_in
power_rank zero [] r inc few h = absurd (omega arith)
power_rank zero (c ∷ C) r inc few h = absurd (omega arith)
power_rank (suc n) [] r inc few h = absurd (omega arith)
power_rank (suc n) (c ∷ C) zero inc few h =
    let e : suc n - 1 - 0 ≡ n = omega arith in
    rw (same_refl c, sum_none n C (same_label c) (λ x m. ne_same c x (λ d. clash m (rw (← d) (inc_new c C inc)))), e) (omega arith)
power_rank (suc n) (c ∷ C) (suc r) inc few h =
    let e : suc n - 1 - suc r ≡ n - 1 - r = omega arith in
    let ne : get_or C r [] ≡ c → ⊥ = λ d. clash (at_in C r (omega arith)) (rw d (inc_new c C inc)) in
    rw (ne_same (get_or C r []) c ne, power_rank n C r (inc_tail c C inc) (omega arith) (omega arith), e) (omega arith)

-- what a list weighs

weigh_sum : (f g : Label → ℕ) (L : List Label) → weigh (λ x. f x + g x) L ≡ weigh f L + weigh g L
unfolding weigh
weigh_sum f g [] = refl
weigh_sum f g (x ∷ L) = omega (arith, weigh_sum f g L)

weigh_scaled : (f : Label → ℕ) (L : List Label) → weigh (λ x. f x * whole) L ≡ weigh f L * whole
unfolding weigh
weigh_scaled f [] = refl
weigh_scaled f (x ∷ L) = omega (arith, weigh_scaled f L)

weigh_zero : (L : List Label) → weigh (λ x. 0) L ≡ 0
unfolding weigh
weigh_zero [] = refl
weigh_zero (x ∷ L) = omega (arith, weigh_zero L)

weigh_one : (c : Label) (p : ℕ) (L : List Label) → distinct L ≡ true → weigh (λ x. cond (same_label x c) p 0) L ≡ cond (is_in c L) p 0
unfolding weigh is_in
weigh_one c p [] d = refl
weigh_one c p (x ∷ L) d = go (same_cases c x) (weigh_one c p L (distinct_tail x L d))
  where
    go : (c ≡ x) ⊎ (same_label c x ≡ false) → weigh (λ y. cond (same_label y c) p 0) L ≡ cond (is_in c L) p 0
        → cond (same_label x c) p 0 + weigh (λ y. cond (same_label y c) p 0) L ≡ cond (same_label c x || is_in c L) p 0
    go (inl e) ih =
        let z : weigh (λ y. cond (same_label y c) p 0) L ≡ 0 = ih ∙ (rw (ap (λ v. is_in v L) e ∙ distinct_head x L d) refl) in
        rw (eq_same x c (sym e), eq_same c x e) (omega arith)
    go (inr n) ih = rw (ne_same x c (λ e. same_ne c x n (sym e)), n) (omega arith)

weigh_powers : (n : ℕ) (C L : List Label) → distinct L ≡ true → weigh (power_in n C) L ≡ sum_in n C (set_of L)
unfolding sum_in
weigh_powers zero C L d = weigh_zero L
weigh_powers (suc n) [] L d = weigh_zero L
weigh_powers (suc n) (c ∷ C) L d =
    weigh_sum (λ x. cond (same_label x c) (power n) 0) (power_in n C) L
    ∙ (rw (weigh_one c (power n) L d, weigh_powers n C L d) refl)

-- a list weighs its units, and the sum of its powers
pub weigh_telling : (n : ℕ) (F C L : List Label) → distinct L ≡ true
    → weigh (telling n F C) L ≡ weigh (unit_in F) L * whole + sum_in n C (set_of L)
unfolding telling
weigh_telling n F C L d =
    weigh_sum (λ x. unit_in F x * whole) (power_in n C) L ∙ (rw (weigh_scaled (unit_in F) L, weigh_powers n C L d) refl)
