-- What the greatest weight says when required labels weigh 128 and others 1: whether all required labels can be held, and the
-- greatest size of a set that holds them. Assumes nothing.
use Prim.Native.Nat.{ℕ, suc, ◌+◌, ◌*◌, ◌/◌, ◌%◌, ◌≤◌}
use mathlib.Core.Path.{◌≡◌, refl, sym, ◌∙◌, ap, subst}
use mathlib.Core.Bool.{Bool, true, false, cond, not}
use mathlib.Core.Logic.{◌⊎◌, inl, inr}
use mathlib.Core.List.{List, [], ◌∷◌}
use native.Mathlib.Omega.{arith}
use lib.ListN.{length}
use Rattle.trees.specs.Label.{Label, is_in, distinct}
use Rattle.trees.specs.Tree.{Tree, leaves, leaf_limit}
use Rattle.trees.proofs.Bools.{clash}
use Rattle.agreement.specs.Closer.{holds, Common, Agree}
use Rattle.agreement.specs.Sets.{increasing, keep, common, set_of}
use Rattle.agreement.specs.Weights.{weigh, weight_in, unit_in, required_unit}
use Rattle.agreement.specs.Demand.{Allowed}
use Rattle.agreement.specs.Greatest.{Greatest}
use Rattle.agreement.proofs.SetLaws.{in_nil, in_cases, keep_inc, common_inc, set_keep, count_held}

-- how many required labels, and how many others, a set has of a list
abbrev pub required_in : List Label → (Label → Bool) → List Label → ℕ
required_in F X L = length (keep (set_of F) (keep X L))

abbrev pub others_in : List Label → (Label → Bool) → List Label → ℕ
others_in F X L = length (keep (λ x. not (is_in x F)) (keep X L))

keep_parts : (X : Label → Bool) (L : List Label) → length L ≡ length (keep X L) + length (keep (λ x. not (X x)) L)
unfolding keep
keep_parts X [] = omega arith
keep_parts X (x ∷ L) = go (X x) (keep_parts X L)
  where
    rest : List Label
    rest = keep (λ y. not (X y)) L

    go : (b : Bool) → length L ≡ length (keep X L) + length rest
        → suc (length L) ≡ length (cond b (x ∷ keep X L) (keep X L)) + length (cond (not b) (x ∷ rest) rest)
    go true ih = omega arith
    go false ih = omega arith

weigh_units : (F L : List Label) → weigh (unit_in F) L ≡ 127 * length (keep (set_of F) L) + length L
unfolding weigh keep unit_in
weigh_units F [] = omega arith
weigh_units F (x ∷ L) = go (is_in x F) (weigh_units F L)
  where
    go : (b : Bool) → weigh (unit_in F) L ≡ 127 * length (keep (set_of F) L) + length L
        → cond b required_unit 1 + weigh (unit_in F) L ≡ 127 * length (cond b (x ∷ keep (set_of F) L) (keep (set_of F) L)) + suc (length L)
    go true ih = omega arith
    go false ih = omega arith

-- of a set's labels no more are held than there are, and as many exactly if all are held
held_at_most : (F : List Label) (X : Label → Bool) (L : List Label) → required_in F X L ≤ length (keep (set_of F) L)
unfolding keep
held_at_most F X [] = omega arith
held_at_most F X (x ∷ L) = go (X x) (is_in x F) refl (held_at_most F X L)
  where
    go : (a b : Bool) → is_in x F ≡ b → required_in F X L ≤ length (keep (set_of F) L)
        → length (keep (set_of F) (cond a (x ∷ keep X L) (keep X L))) ≤ length (cond b (x ∷ keep (set_of F) L) (keep (set_of F) L))
    go true true e ih = rw e (omega arith)
    go true false e ih = rw e ih
    go false true e ih = omega arith
    go false false e ih = ih

held_all : (F : List Label) (X : Label → Bool) (L : List Label) → ((x : Label) → is_in x F ≡ true → X x ≡ true)
    → required_in F X L ≡ length (keep (set_of F) L)
unfolding keep
held_all F X [] f = refl
held_all F X (x ∷ L) f = go (X x) refl (is_in x F) refl (held_all F X L f)
  where
    go : (a : Bool) → X x ≡ a → (b : Bool) → is_in x F ≡ b → required_in F X L ≡ length (keep (set_of F) L)
        → length (keep (set_of F) (cond a (x ∷ keep X L) (keep X L))) ≡ length (cond b (x ∷ keep (set_of F) L) (keep (set_of F) L))
    go true d true e ih = rw e (ap suc ih)
    go true d false e ih = rw e ih
    go false d true e ih = clash (f x e) d
    go false d false e ih = ih

all_held : (F : List Label) (X : Label → Bool) (L : List Label) → required_in F X L ≡ length (keep (set_of F) L)
    → (x : Label) → is_in x L ≡ true → is_in x F ≡ true → X x ≡ true
unfolding keep
all_held F X [] h x m k = in_nil x m
all_held F X (y ∷ L) h x m k = go (X y) refl (is_in y F) refl h (in_cases x y L m) (all_held F X L)
  where
    go : (a : Bool) → X y ≡ a → (b : Bool) → is_in y F ≡ b
        → length (keep (set_of F) (cond a (y ∷ keep X L) (keep X L))) ≡ length (cond b (y ∷ keep (set_of F) L) (keep (set_of F) L))
        → (x ≡ y) ⊎ (is_in x L ≡ true)
        → (required_in F X L ≡ length (keep (set_of F) L) → (z : Label) → is_in z L ≡ true → is_in z F ≡ true → X z ≡ true) → X x ≡ true
    go true d b e g (inl c) ih = rw c d
    go true d true e g (inr l) ih = ih (omega (arith, rw e at g)) x l k
    go true d false e g (inr l) ih = ih (rw e at g) x l k
    go false d true e g c ih = absurd (omega (arith, g, held_at_most F X L))
    go false d false e g (inl c) ih = clash (rw c at k) e
    go false d false e g (inr l) ih = ih g x l k

-- a set weighs 128 for each required label that it holds and 1 for each other
pub set_weight : (s : Tree) (F : List Label) (X : Label → Bool)
    → weight_in (unit_in F) s X ≡ required_unit * required_in F X (leaves s) + others_in F X (leaves s)
unfolding weight_in
set_weight s F X = omega (arith, weigh_units F (keep X (leaves s)), keep_parts (set_of F) (keep X (leaves s)))

module _ (s t : Tree) (F : List Label) (M : ℕ) (ds : distinct (leaves s) ≡ true) (few : length (leaves s) ≤ leaf_limit)
    (inc : increasing F ≡ true) (common' : Common s t (set_of F)) (great : Greatest (unit_in F) s t M) where
  required_count : length (keep (set_of F) (leaves s)) ≡ length F
  unfolding holds
  required_count = count_held F (leaves s) inc ds (λ x m. (common' x m).0)

  list_size : (Y : List Label) → Allowed s t F Y → length (keep (set_of Y) (leaves s)) ≡ length Y
  unfolding holds
  list_size Y p = count_held Y (leaves s) p.ordered ds (λ x m. (p.common_leaves x m).0)

  -- what an allowed set weighs
  pub list_weight : (Y : List Label) → Allowed s t F Y → weight_in (unit_in F) s (set_of Y) ≡ 127 * length F + length Y
  list_weight Y p =
      omega (
        arith,
        set_weight s F (set_of Y),
        list_size Y p,
        keep_parts (set_of F) (keep (set_of Y) (leaves s)),
        held_all F (set_of Y) (leaves s) p.required,
        required_count,
      )

  list_bound : (Y : List Label) → Allowed s t F Y → 127 * length F + length Y ≤ M
  list_bound Y p = omega (arith, great.bound (set_of Y) p.common_leaves p.agreed, list_weight Y p)

  -- the set that reaches the greatest weight: what its required labels and others say
  record Split (required others : ℕ) : Type 0 where
    weight : M ≡ required_unit * required + others
    at_most : required ≤ length F
    size : length (keep great.set (leaves s)) ≡ required + others
    fewer : required + others ≤ leaf_limit

  split : Split (required_in F great.set (leaves s)) (others_in F great.set (leaves s))
  split = record {
    weight = sym great.reached ∙ set_weight s F great.set;
    at_most = omega (arith, held_at_most F great.set (leaves s), required_count);
    size = keep_parts (set_of F) (keep great.set (leaves s));
    fewer = omega (arith, keep_parts (set_of F) (keep great.set (leaves s)), keep_parts great.set (leaves s));
  }

  -- a set that holds every required label is there only if the greatest weight counts them all
  pub required_held : (Y : List Label) → Allowed s t F Y → M / required_unit ≡ length F
  required_held Y p = omega (arith, list_bound Y p, split.weight, split.at_most, split.size, split.fewer)

  -- and then no such set is larger than this
  pub required_bound : (Y : List Label) → Allowed s t F Y → length Y ≤ M / required_unit + M % required_unit
  required_bound Y p = omega (arith, list_bound Y p, required_held Y p, split.weight, split.at_most, split.size, split.fewer)

  -- and the set that reaches the greatest weight is as large
  pub required_reached : M / required_unit ≡ length F
      → Allowed s t F (keep great.set (common s t)) × (length (keep great.set (common s t)) ≡ M / required_unit + M % required_unit)
  unfolding holds
  required_reached e = (allowed', omega (arith, list_size Y allowed', size, split.weight, split.at_most, split.size, split.fewer))
    where
      Y : List Label
      Y = keep great.set (common s t)

      same : set_of Y ≡ great.set
      same = set_keep s t great.set great.common_leaves

      size : length (keep (set_of Y) (leaves s)) ≡ length (keep great.set (leaves s))
      size = ap (λ (X : Label → Bool). length (keep X (leaves s))) same

      held : required_in F great.set (leaves s) ≡ length (keep (set_of F) (leaves s))
      held = omega (arith, e, required_count, split.weight, split.at_most, split.size, split.fewer)

      allowed' : Allowed s t F Y
      allowed' = record {
        ordered = keep_inc great.set (common s t) (common_inc s t ds);
        required = λ x m. ap (λ (X : Label → Bool). X x) same ∙ all_held F great.set (leaves s) held x (common' x m).0 m;
        common_leaves = subst (Common s t) (sym same) great.common_leaves;
        agreed = subst (Agree s t) (sym same) great.agreed;
      }
