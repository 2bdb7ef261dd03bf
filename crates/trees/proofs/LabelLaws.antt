-- Laws of labels: equality is a test, and label order is a strict total order. The crates above cite these laws and not the
-- definitions. Assumes nothing.
use Prim.Native.Nat.{ℕ, suc, ◌+◌, ◌<◌, ◌≤◌}
use mathlib.Core.Path.{◌≡◌, refl, sym, ◌∙◌, ap, ap₂}
use mathlib.Core.Bool.{Bool, true, false, cond, ◌&&◌, ◌||◌}
use mathlib.Core.Logic.{◌⊎◌, inl, inr, ⊎_elim}
use mathlib.Core.List.{[], ◌∷◌}
use native.Mathlib.Omega.{arith}
use lib.Dec.{eqb, ltb}
use lib.ListN.{length, get_or, drop, drop_of_length-le}
use lib.Seq.{drop-cons}
use native.Mathlib.Numerals.{add-one}
use borrow.Author.Tests.{ltb-true, ltb-false, eqb-true, lt-ltb, le-ltb, eq-eqb}
use Rattle.trees.specs.Label.{Label, same_label, label_less, order_of}
use Rattle.std.specs.declared.cmp.Ordering.TheVariants.{Less, Equal, Greater}
use Rattle.std.specs.Ordering.{is_lt}
use Rattle.trees.proofs.Bools.{bool_cases, clash, and_left, and_right, and_intro, or_cases, or_inl, or_inr}

pub same_refl : (x : Label) → same_label x x ≡ true
unfolding same_label
same_refl [] = refl
same_refl (a ∷ x) = and_intro (eqb a a) (same_label x x) (eq-eqb a a refl) (same_refl x)

pub same_eq : (x y : Label) → same_label x y ≡ true → x ≡ y
unfolding same_label
same_eq [] [] h = refl
same_eq [] (b ∷ y) h = clash h refl
same_eq (a ∷ x) [] h = clash h refl
same_eq (a ∷ x) (b ∷ y) h = ap₂ ◌∷◌ (eqb-true a b (and_left (eqb a b) (same_label x y) h)) (same_eq x y (and_right (eqb a b) (same_label x y) h))

pub eq_same : (x y : Label) → x ≡ y → same_label x y ≡ true
eq_same x y e = rw (← e) (same_refl x)

-- equal or not, as a decision
pub same_cases : (x y : Label) → (x ≡ y) ⊎ (same_label x y ≡ false)
same_cases x y = go (bool_cases (same_label x y))
  where
    go : (same_label x y ≡ true) ⊎ (same_label x y ≡ false) → (x ≡ y) ⊎ (same_label x y ≡ false)
    go (inl h) = inl (same_eq x y h)
    go (inr h) = inr h

pub same_ne : (x y : Label) → same_label x y ≡ false → x ≡ y → ⊥
same_ne x y h e = clash (eq_same x y e) h

pub ne_same : (x y : Label) → (x ≡ y → ⊥) → same_label x y ≡ false
ne_same x y h = ⊎_elim (λ (e : x ≡ y). absurd (h e)) (λ (f : same_label x y ≡ false). f) (same_cases x y)

-- irreflexive
pub less_irrefl : (x : Label) → label_less x x ≡ false
unfolding label_less
less_irrefl [] = refl
less_irrefl (a ∷ x) = rw (le-ltb a a (omega arith), eq-eqb a a refl) (less_irrefl x)

less_heads : (a b c : ℕ) (x y z : Label) → (label_less x y ≡ true → label_less y z ≡ true → label_less x z ≡ true)
    → (ltb a b ≡ true) ⊎ ((eqb a b && label_less x y) ≡ true)
    → (ltb b c ≡ true) ⊎ ((eqb b c && label_less y z) ≡ true)
    → (ltb a c || (eqb a c && label_less x z)) ≡ true
less_heads a b c x y z ih (inl h) (inl k) = or_inl (ltb a c) (eqb a c && label_less x z) (lt-ltb a c (omega (arith, ltb-true a b h, ltb-true b c k)))
less_heads a b c x y z ih (inl h) (inr k) =
    or_inl (ltb a c) (eqb a c && label_less x z) (lt-ltb a c (omega (arith, ltb-true a b h, eqb-true b c (and_left (eqb b c) (label_less y z) k))))
less_heads a b c x y z ih (inr h) (inl k) =
    or_inl (ltb a c) (eqb a c && label_less x z) (lt-ltb a c (omega (arith, eqb-true a b (and_left (eqb a b) (label_less x y) h), ltb-true b c k)))
less_heads a b c x y z ih (inr h) (inr k) =
    or_inr (ltb a c) (eqb a c && label_less x z)
    (and_intro (eqb a c) (label_less x z) (eq-eqb a c (eqb-true a b (and_left (eqb a b) (label_less x y) h) ∙ eqb-true b c (and_left (eqb b c) (label_less y z) k)))
    (ih (and_right (eqb a b) (label_less x y) h) (and_right (eqb b c) (label_less y z) k)))

total_heads : (a b : ℕ) (x y : Label) → (label_less x y ≡ true) ⊎ ((x ≡ y) ⊎ (label_less y x ≡ true))
    → (ltb a b ≡ true) ⊎ (ltb a b ≡ false) → (ltb b a ≡ true) ⊎ (ltb b a ≡ false)
    → ((ltb a b || (eqb a b && label_less x y)) ≡ true)
    ⊎ ((◌≡◌ {A = Label} (a ∷ x) (b ∷ y)) ⊎ ((ltb b a || (eqb b a && label_less y x)) ≡ true))
total_heads a b x y ih (inl h) k = inl (or_inl (ltb a b) (eqb a b && label_less x y) h)
total_heads a b x y ih (inr h) (inl k) = inr (inr (or_inl (ltb b a) (eqb b a && label_less y x) k))
total_heads a b x y ih (inr h) (inr k) = go ih
  where
    e : a ≡ b
    e = omega (arith, ltb-false a b h, ltb-false b a k)

    go : (label_less x y ≡ true) ⊎ ((x ≡ y) ⊎ (label_less y x ≡ true))
        → ((ltb a b || (eqb a b && label_less x y)) ≡ true)
        ⊎ ((◌≡◌ {A = Label} (a ∷ x) (b ∷ y)) ⊎ ((ltb b a || (eqb b a && label_less y x)) ≡ true))
    go (inl l) = inl (or_inr (ltb a b) (eqb a b && label_less x y) (and_intro (eqb a b) (label_less x y) (eq-eqb a b e) l))
    go (inr (inl l)) = inr (inl (ap₂ ◌∷◌ e l))
    go (inr (inr l)) = inr (inr (or_inr (ltb b a) (eqb b a && label_less y x) (and_intro (eqb b a) (label_less y x) (eq-eqb b a (sym e)) l)))

-- transitive
pub less_trans : (x y z : Label) → label_less x y ≡ true → label_less y z ≡ true → label_less x z ≡ true
unfolding label_less
less_trans [] [] z p q = clash p refl
less_trans [] (b ∷ y) [] p q = clash q refl
less_trans [] (b ∷ y) (c ∷ z) p q = refl
less_trans (a ∷ x) [] z p q = clash p refl
less_trans (a ∷ x) (b ∷ y) [] p q = clash q refl
less_trans (a ∷ x) (b ∷ y) (c ∷ z) p q = less_heads a b c x y z (less_trans x y z) (or_cases (ltb a b) (eqb a b && label_less x y) p) (or_cases (ltb b c) (eqb b c && label_less y z) q)

-- one of three
pub less_total : (x y : Label) → (label_less x y ≡ true) ⊎ ((x ≡ y) ⊎ (label_less y x ≡ true))
unfolding label_less
less_total [] [] = inr (inl refl)
less_total [] (b ∷ y) = inl refl
less_total (a ∷ x) [] = inr (inr refl)
less_total (a ∷ x) (b ∷ y) = total_heads a b x y (less_total x y) (bool_cases (ltb a b)) (bool_cases (ltb b a))

pub less_asym : (x y : Label) → label_less x y ≡ true → label_less y x ≡ false
less_asym x y h =
    ⊎_elim (λ (k : label_less y x ≡ true). clash (less_trans x y x h k) (less_irrefl x)) (λ (k : label_less y x ≡ false). k)
    (bool_cases (label_less y x))

-- smaller labels are other labels
pub less_ne : (x y : Label) → label_less x y ≡ true → x ≡ y → ⊥
less_ne x y h e = clash (rw (← e) at h) (less_irrefl x)

-- not smaller and not equal is greater
pub not_less : (x y : Label) → label_less x y ≡ false → (x ≡ y → ⊥) → label_less y x ≡ true
not_less x y h n = go (less_total x y)
  where
    go : (label_less x y ≡ true) ⊎ ((x ≡ y) ⊎ (label_less y x ≡ true)) → label_less y x ≡ true
    go (inl k) = clash k h
    go (inr (inl e)) = absurd (n e)
    go (inr (inr k)) = k

-- the three outcomes of a comparison, each with what it says
pub less_order : (x y : Label) → label_less x y ≡ true → order_of x y ≡ Less
unfolding order_of
less_order x y h = rw h refl

pub equal_order : (x y : Label) → x ≡ y → order_of x y ≡ Equal
unfolding order_of
equal_order x y e = rw (e, less_irrefl y) refl

pub greater_order : (x y : Label) → label_less y x ≡ true → order_of x y ≡ Greater
unfolding order_of
greater_order x y h = rw (less_asym y x h, h) refl

-- and back; nothing cites these three, but they are what an order says
pub order_less : (x y : Label) → order_of x y ≡ Less → label_less x y ≡ true
order_less x y h = go (less_total x y)
  where
    go : (label_less x y ≡ true) ⊎ ((x ≡ y) ⊎ (label_less y x ≡ true)) → label_less x y ≡ true
    go (inl k) = k
    go (inr (inl e)) = cc (h, equal_order x y e)
    go (inr (inr k)) = cc (h, greater_order x y k)

pub order_equal : (x y : Label) → order_of x y ≡ Equal → x ≡ y
order_equal x y h = go (less_total x y)
  where
    go : (label_less x y ≡ true) ⊎ ((x ≡ y) ⊎ (label_less y x ≡ true)) → x ≡ y
    go (inl k) = cc (h, less_order x y k)
    go (inr (inl e)) = e
    go (inr (inr k)) = cc (h, greater_order x y k)

pub order_greater : (x y : Label) → order_of x y ≡ Greater → label_less y x ≡ true
order_greater x y h = go (less_total x y)
  where
    go : (label_less x y ≡ true) ⊎ ((x ≡ y) ⊎ (label_less y x ≡ true)) → label_less y x ≡ true
    go (inl k) = cc (h, less_order x y k)
    go (inr (inl e)) = cc (h, equal_order x y e)
    go (inr (inr k)) = k

pub order_before : (x y : Label) → is_lt (order_of x y) ≡ label_less x y
unfolding order_of
order_before x y = go (label_less x y) (label_less y x)
  where
    go : (a b : Bool) → is_lt (cond a Less (cond b Greater Equal)) ≡ a
    go true b = refl
    go false true = refl
    go false false = refl

-- a comparison byte by byte: the first byte that differs decides
pub heads_less : (a b : ℕ) (x y : Label) → a < b → order_of (a ∷ x) (b ∷ y) ≡ Less
unfolding label_less
heads_less a b x y h = less_order (a ∷ x) (b ∷ y) (or_inl (ltb a b) (eqb a b && label_less x y) (lt-ltb a b h))

pub heads_greater : (a b : ℕ) (x y : Label) → b < a → order_of (a ∷ x) (b ∷ y) ≡ Greater
unfolding label_less
heads_greater a b x y h = greater_order (a ∷ x) (b ∷ y) (or_inl (ltb b a) (eqb b a && label_less y x) (lt-ltb b a h))

pub heads_same : (a b : ℕ) (x y : Label) → a ≡ b → order_of (a ∷ x) (b ∷ y) ≡ order_of x y
unfolding order_of label_less
heads_same a b x y e = rw (e, le-ltb b b (omega arith), eq-eqb b b refl) refl

-- two labels whose rests from place i on compare as the labels do
module _ (a b : Label) (i : ℕ) (so_far : order_of (drop i a) (drop i b) ≡ order_of a b) where
  pub both_end : length a ≤ i → length b ≤ i → Equal ≡ order_of a b
  both_end h k = rw (← so_far, drop_of_length-le a h, drop_of_length-le b k) (sym (equal_order [] [] refl))

  pub first_ends : length a ≤ i → i < length b → Less ≡ order_of a b
  unfolding label_less
  first_ends h k = rw (← so_far, drop_of_length-le a h, drop-cons b i 0 k) (sym (less_order [] (get_or b i 0 ∷ drop (suc i) b) refl))

  pub second_ends : i < length a → length b ≤ i → Greater ≡ order_of a b
  unfolding label_less
  second_ends h k = rw (← so_far, drop-cons a i 0 h, drop_of_length-le b k) (sym (greater_order (get_or a i 0 ∷ drop (suc i) a) [] refl))

  here : i < length a → i < length b → order_of a b ≡ order_of (get_or a i 0 ∷ drop (suc i) a) (get_or b i 0 ∷ drop (suc i) b)
  here h k = sym so_far ∙ rw (drop-cons a i 0 h, drop-cons b i 0 k) refl

  pub byte_less : i < length a → i < length b → get_or a i 0 < get_or b i 0 → Less ≡ order_of a b
  byte_less h k l = sym (here h k ∙ heads_less (get_or a i 0) (get_or b i 0) (drop (suc i) a) (drop (suc i) b) l)

  pub byte_greater : i < length a → i < length b → get_or b i 0 < get_or a i 0 → Greater ≡ order_of a b
  byte_greater h k l = sym (here h k ∙ heads_greater (get_or a i 0) (get_or b i 0) (drop (suc i) a) (drop (suc i) b) l)

  pub byte_same : i < length a → i < length b → get_or a i 0 ≡ get_or b i 0 → order_of (drop (i + 1) a) (drop (i + 1) b) ≡ order_of a b
  byte_same h k e = rw (add-one i) (sym (here h k ∙ heads_same (get_or a i 0) (get_or b i 0) (drop (suc i) a) (drop (suc i) b) e))

-- labels of other lengths, or with another byte at some place, are other labels
pub lengths_differ : (x y : Label) → (length x ≡ length y → ⊥) → same_label x y ≡ false
lengths_differ x y h = ne_same x y (λ (e : x ≡ y). h (ap length e))

pub bytes_differ : (x y : Label) (i : ℕ) → (get_or x i 0 ≡ get_or y i 0 → ⊥) → same_label x y ≡ false
bytes_differ x y i h = ne_same x y (λ (e : x ≡ y). h (ap (λ (l : Label). get_or l i 0) e))

-- two labels that are the same exactly if their rests from place i on are
module _ (a b : Label) (i : ℕ) (so_far : same_label (drop i a) (drop i b) ≡ same_label a b) where
  pub all_same : length a ≤ i → length b ≤ i → true ≡ same_label a b
  unfolding same_label
  all_same h k = rw (← so_far, drop_of_length-le a h, drop_of_length-le b k) refl

  pub byte_agrees : i < length a → i < length b → get_or a i 0 ≡ get_or b i 0
      → same_label (drop (i + 1) a) (drop (i + 1) b) ≡ same_label a b
  unfolding same_label
  byte_agrees h k e =
      rw (add-one i) (sym (sym so_far ∙ rw (drop-cons a i 0 h, drop-cons b i 0 k, eq-eqb (get_or a i 0) (get_or b i 0) e) refl))
