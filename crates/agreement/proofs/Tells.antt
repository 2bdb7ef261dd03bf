-- The greatest weight of labels that weigh units and powers of two tells the answer: whether all required labels can be held, and
-- the first of the largest sets that hold them. Assumes nothing.
use Prim.Native.Nat.{ℕ, ◌+◌, ◌*◌, ◌/◌, ◌%◌, ◌≤◌, ◌<◌}
use mathlib.Core.Path.{◌≡◌, refl, sym, ◌∙◌, ap, subst}
use mathlib.Core.Bool.{Bool, true, false}
use mathlib.Core.Logic.{◌⊎◌, inl, inr}
use mathlib.Core.Option.{Option, some, none}
use mathlib.Core.List.{List}
use native.Mathlib.Omega.{arith}
use lib.ListN.{length}
use Rattle.trees.specs.Label.{Label, label_less, is_in, distinct}
use Rattle.trees.specs.Tree.{Tree, leaves, leaf_limit, Proper}
use Rattle.trees.proofs.Bools.{bool_cases, clash, refute}
use Rattle.agreement.specs.Closer.{holds, Common, Agree}
use Rattle.agreement.specs.Sets.{increasing, keep, sorted, common, set_of, First}
use Rattle.agreement.specs.Weights.{weigh, weight_in, unit_in, required_unit}
use Rattle.agreement.specs.Powers.{power, whole, sum_in, decode, telling}
use Rattle.agreement.specs.Answer.{Three, first_clash, disagree, largest, answer}
use Rattle.agreement.specs.Demand.{Allowed, IsAnswer, Clash}
use Rattle.agreement.specs.Greatest.{Greatest}
use Rattle.agreement.proofs.SetLaws.{Within, in_keep, keep_in, set_keep, keep_set, common_inc, in_common, common_in}
use Rattle.agreement.proofs.SetLaws.{length_sorted, sorted_inc, common_short}
use Rattle.agreement.proofs.KeepLaws.{distinct_keep, keep_cong}
use Rattle.agreement.proofs.AnswerLaws.{FirstThree}
use Rattle.agreement.proofs.DemandLaws.{sorted_within, within_sorted, required_clash, required_allowed, largest_exactly, eight_exactly}
use Rattle.agreement.proofs.WeightLaws.{list_weight, required_held, required_bound, required_reached}
use Rattle.agreement.proofs.PowerLaws.{sum_small, sum_cong, FirstIn, sum_order, decode_sum, weigh_telling}

allowed_fewer : (s t : Tree) (K F X : List Label) → Within K F → Allowed s t F X → Allowed s t K X
allowed_fewer s t K F X f p =
    record { ordered = p.ordered; required = λ x m. p.required x (f x m); common_leaves = p.common_leaves; agreed = p.agreed }

module _ (n : ℕ) (full : power n ≡ whole) (s t : Tree) (ds : distinct (leaves s) ≡ true) (enough : length (common s t) ≤ n) where
  abbrev C : List Label
  C = common s t

  -- a set of common leaves weighs its units, and the sum of its powers
  set_telling : (F : List Label) (X : Label → Bool) → Common s t X
      → weight_in (telling n F C) s X ≡ weight_in (unit_in F) s X * whole + sum_in n C X
  unfolding weight_in holds
  set_telling F X c =
      weigh_telling n F C (keep X (leaves s)) (distinct_keep X (leaves s) ds)
      ∙ ap (λ (k : ℕ). weigh (unit_in F) (keep X (leaves s)) * whole + k) (sum_cong n C (set_of (keep X (leaves s))) X same)
    where
      same : (x : Label) → is_in x C ≡ true → is_in x (keep X (leaves s)) ≡ X x
      same x m = go (bool_cases (X x))
        where
          go : (X x ≡ true) ⊎ (X x ≡ false) → is_in x (keep X (leaves s)) ≡ X x
          go (inl h) = keep_in X x (leaves s) (in_common s t x m).0 h ∙ sym h
          go (inr h) = refute (is_in x (keep X (leaves s))) (λ k. clash (in_keep X x (leaves s) k).1 h) ∙ sym h

  sum_less : (X : Label → Bool) → sum_in n C X < whole
  sum_less X = omega (arith, sum_small n C X, full)

  module _ (F : List Label) (M : ℕ) (great : Greatest (telling n F C) s t M) where
    -- the units of the greatest weight are the greatest weight of units, and what is left is the sum of its set
    pub units : weight_in (unit_in F) s great.set ≡ M / whole
    units = omega (arith, great.reached, set_telling F great.set great.common_leaves, sum_less great.set)

    pub rest : sum_in n C great.set ≡ M % whole
    rest = omega (arith, great.reached, set_telling F great.set great.common_leaves, sum_less great.set)

    pub units_greatest : Greatest (unit_in F) s t (M / whole)
    units_greatest = record {
      bound = λ X c a. omega (arith, great.bound X c a, set_telling F X c);
      set = great.set;
      common_leaves = great.common_leaves;
      agreed = great.agreed;
      reached = units;
    }

    -- the set is read off the greatest weight
    pub set_decoded : decode n C (M % whole) ≡ keep great.set C
    set_decoded = ap (decode n C) (sym rest) ∙ decode_sum n C great.set enough

    -- a set with the same units is the same, or comes after
    pub set_first : (X : Label → Bool) → Common s t X → Agree s t X → weight_in (unit_in F) s X ≡ M / whole
        → ((x : Label) → is_in x C ≡ true → great.set x ≡ X x) ⊎ FirstIn C great.set X
    set_first X c a e =
        sum_order n C great.set X (common_inc s t ds) enough
        (omega (arith, great.bound X c a, set_telling F X c, rest))

  module _ (K : List Label) (few : length (leaves s) ≤ leaf_limit) (dk : distinct K ≡ true) (held : Common s t (set_of K)) (M : ℕ)
      (great : Greatest (telling n (sorted K) C) s t M) where
    abbrev F : List Label
    F = sorted K

    abbrev X : List Label
    X = keep great.set C

    F-inc : increasing F ≡ true
    F-inc = sorted_inc K dk

    F-held : Common s t (set_of F)
    F-held x m = held x (sorted_within K x m)

    g : Greatest (unit_in F) s t (M / whole)
    g = units_greatest F M great

    set_is : set_of X ≡ great.set
    set_is = set_keep s t great.set great.common_leaves

    -- the set of the greatest weight comes before every other as large
    order : (Y : List Label) → increasing Y ≡ true → Common s t (set_of Y)
        → ((x : Label) → is_in x C ≡ true → great.set x ≡ is_in x Y) ⊎ FirstIn C great.set (set_of Y)
        → (X ≡ Y) ⊎ First (set_of X) (set_of Y)
    order Y inc c (inl e) = inl (keep_cong great.set (set_of Y) C e ∙ keep_set s t Y ds inc c)
    order Y inc c (inr f) =
        inr (record {
          at = f.at;
          held = ap (λ (Z : Label → Bool). Z f.at) set_is ∙ f.held;
          lacked = f.lacked;
          smallest = λ x l. ap (λ (Z : Label → Bool). Z x) set_is ∙ same x l (bool_cases (is_in x C));
        })
      where
        outside : (Z : Label → Bool) → Common s t Z → (x : Label) → is_in x C ≡ false → Z x ≡ false
        outside Z h x no-c = refute (Z x) (λ m. clash (common_in s t x (h x m).0 (h x m).1) no-c)

        same : (x : Label) → label_less x f.at ≡ true → (is_in x C ≡ true) ⊎ (is_in x C ≡ false) → great.set x ≡ is_in x Y
        same x l (inl m) = f.smallest x m l
        same x l (inr m) = outside great.set great.common_leaves x m ∙ sym (outside (set_of Y) c x m)

    -- where all required labels are held, the units of the greatest weight are the size
    reached : M / whole / required_unit ≡ length K
        → Allowed s t F X × (length X ≡ M / whole / required_unit + M / whole % required_unit)
    unfolding g units_greatest
    reached e = required_reached s t F (M / whole) ds few F-inc F-held g (e ∙ sym (length_sorted K))

    pub tells_size : M / whole / required_unit ≡ length K
        → length (decode n C (M % whole)) ≡ M / whole / required_unit + M / whole % required_unit
    tells_size e = ap (length {A = Label}) (set_decoded F M great) ∙ (reached e).1

    pub tells_answer : M / whole / required_unit ≡ length K → IsAnswer s t K (decode n C (M % whole))
    unfolding g units_greatest
    tells_answer e = subst (IsAnswer s t K) (sym (set_decoded F M great)) is
      where
        counted : M / whole / required_unit ≡ length F
        counted = e ∙ sym (length_sorted K)

        for_f : (Y : List Label) → Allowed s t K Y → Allowed s t F Y
        for_f Y p = allowed_fewer s t F K Y (sorted_within K) p

        bound : (Y : List Label) → Allowed s t K Y → length Y ≤ length X
        bound Y p = omega (arith, required_bound s t F (M / whole) ds few F-inc F-held g Y (for_f Y p), (reached e).1)

        weighs : (Y : List Label) → Allowed s t K Y → length Y ≡ length X → weight_in (unit_in F) s (set_of Y) ≡ M / whole
        weighs Y p l =
            omega (arith, list_weight s t F (M / whole) ds few F-inc F-held g Y (for_f Y p), (reached e).1, counted)

        is : IsAnswer s t K X
        is = record {
          allowed_set = allowed_fewer s t K F X (within_sorted K) (reached e).0;
          largest_size = bound;
          first_of_size = λ Y p l. order Y p.ordered p.common_leaves
              (set_first F M great (set_of Y) p.common_leaves p.agreed (weighs Y p l));
        }

    pub tells_set : M / whole / required_unit ≡ length K → answer s t K ≡ largest (decode n C (M % whole))
    tells_set e = (largest_exactly s t K ds dk (decode n C (M % whole))).1 (tells_answer e)

    -- required labels that cannot all be held clash
    tells_clash : (M / whole / required_unit ≡ length K → ⊥) → (a : Label) × (b : Label) × (c : Label) × Clash s t K a b c
    tells_clash no_all = go (first_clash s t F) (required_clash s t K dk)
      where
        go : (o : Option Three) → FirstThree (Clash s t K) o → (a : Label) × (b : Label) × (c : Label) × Clash s t K a b c
        go (some r) f = (r.one, r.two, r.three, f.0)
        go none f = absurd (no_all (counted ∙ length_sorted K))
          where
            counted : M / whole / required_unit ≡ length F
            counted =
                required_held s t F (M / whole) ds few F-inc F-held g F
                (allowed_fewer s t F K F (sorted_within K) (required_allowed s t K dk held f))

    pub tells_eight : (M / whole / required_unit ≡ length K → ⊥) → (a : Label) × (b : Label) × (c : Label) × (answer s t K ≡ disagree a b c)
    tells_eight no_all = (eight_exactly s t K ds dk held).0 (tells_clash no_all)

-- with a place for each of at most 80 common labels

pub full_places : power leaf_limit ≡ whole
unfolding power
full_places = refl

pub common_few : (s t : Tree) → Proper s → length (common s t) ≤ leaf_limit
common_few s t p = omega (arith, common_short s t, p.few)

module _ (s t : Tree) (K : List Label) (proper : Proper s) (dk : distinct K ≡ true) (held : Common s t (set_of K)) (M : ℕ)
    (great : Greatest (telling leaf_limit (sorted K) (common s t)) s t M) where
  pub told_set : M / whole / required_unit ≡ length K → answer s t K ≡ largest (decode leaf_limit (common s t) (M % whole))
  told_set = tells_set leaf_limit full_places s t proper.different (common_few s t proper) K proper.few dk held M great

  pub told_eight : (M / whole / required_unit ≡ length K → ⊥) → (a : Label) × (b : Label) × (c : Label) × (answer s t K ≡ disagree a b c)
  told_eight = tells_eight leaf_limit full_places s t proper.different (common_few s t proper) K proper.few dk held M great

  pub told_size : M / whole / required_unit ≡ length K
      → length (decode leaf_limit (common s t) (M % whole)) ≡ M / whole / required_unit + M / whole % required_unit
  told_size = tells_size leaf_limit full_places s t proper.different (common_few s t proper) K proper.few dk held M great
