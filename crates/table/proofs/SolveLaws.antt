-- From the weights by rank to the answer: they stand for weights of labels, the cell of both roots is the greatest weight, and it tells
-- the set. Assumes nothing.
use Rattle.std.proofs.Common.{◌≡◌, ℕ, suc, ◌+◌, ◌-◌, ◌*◌, ◌/◌, ◌%◌, ◌<◌, ◌≤◌, min, Bool, true, false, cond, Option, Some, None, eqb, ◌⊎◌, ◌↔◌, List, [], length, get_or, replicate, sym, refl, ap, ◌∙◌, inl, inr, arith, eq-eqb, ne_eqb, eqb-true, slice_index}
use Rattle.table.specs.declared.columns.TreeColumns.{TreeColumns}
use lib.ListN.{length-replicate}
use Rattle.std.proofs.lemmas.Option.{none-some}
use Rattle.trees.specs.declared.TreeArrays.{TreeArrays}
use Rattle.trees.specs.Label.{Label, same_label, is_in, distinct}
use Rattle.trees.specs.Tree.{Tree, leaves, leaf_limit, Proper}
use Rattle.trees.specs.Postorder.{postorder, subtree}
use Rattle.trees.proofs.Bools.{bool_cases}
use Rattle.trees.proofs.EntryLaws.{filled_at}
use Rattle.trees.proofs.LabelLaws.{same_cases, same_ne, eq_same}
use Rattle.trees.proofs.ArrayLaws.{nodes_pos}
use Rattle.trees.proofs.PostorderLaws.{root_last, subtree_few, subtree_in, holds_leaf}
use Rattle.leaves.specs.Numbered.{LeafIs}
use Rattle.agreement.specs.Closer.{holds, Common}
use Rattle.agreement.specs.Sets.{common, sorted, set_of}
use Rattle.agreement.specs.Weights.{best, unit_in, required_unit}
use Rattle.agreement.specs.Powers.{whole, power, telling, power_in, decode}
use Rattle.agreement.specs.Greatest.{Greatest}
use Rattle.agreement.specs.Answer.{answer, disagree, largest}
use Rattle.agreement.specs.Demand.{IsAnswer, Clash}
use Rattle.agreement.proofs.SetLaws.{in_sorted, common_inc, common_in, HasNumber, number_of}
use Rattle.agreement.proofs.PowerLaws.{sum_small, power_rank}
use Rattle.agreement.proofs.Tells.{full_places, common_few, told_set, told_size, told_eight}
use Rattle.agreement.proofs.Recurrence.{best_greatest}
use Rattle.agreement.proofs.DemandLaws.{largest_exactly, eight_exactly}
use Rattle.table.specs.Table.{weight_place, Filling}
use Rattle.table.specs.Weighing.{unit_of, WeightsPut, Powers, bits_of, Bits}
use Rattle.table.specs.Choice.{Marked, Given, Posed, chosen_from, Solved}
use Rattle.table.specs.Solving.{OwnColumns, TopIs, Weighed}
use Rattle.table.proofs.WeighingLaws.{power_79, chosen_decoded}
use Rattle.table.proofs.FillLaws.{power_mono, few_rows}

-- the weights by rank

power_less : (r : ℕ) → r < 80 → power (79 - r) < whole
power_less r h = omega (arith, power_mono (79 - r) 79 (omega arith), power_79)

module _ (s t : Tree) (K : List Label) (proper : Proper s) where
  abbrev C : List Label
  C = common s t

  abbrev w : Label → ℕ
  w = telling leaf_limit (sorted K) C

  unit_marked : (number : List ℕ) → Marked C K number → (r : ℕ) → r < length C → unit_of (get_or number r 0) ≡ unit_in (sorted K) (get_or C r [])
  unfolding unit_in
  unit_marked number marked r h = rw (in_sorted (get_or C r []) K) (go (bool_cases (is_in (get_or C r []) K)))
    where
      go : (is_in (get_or C r []) K ≡ true) ⊎ (is_in (get_or C r []) K ≡ false) → unit_of (get_or number r 0) ≡ cond (is_in (get_or C r []) K) required_unit 1
      go (inl m) =
          let k = number_of K (get_or C r []) m in
          rw (m, marked.held r k.at h k.below (sym k.is), ne_eqb (suc k.at) 0 (omega arith)) refl
      go (inr m) = rw (m, marked.other r h m) refl

  -- the weight of rank r is that of its label
  weight_rank : (number : List ℕ) → Marked C K number → (r : ℕ) → r < length C
      → unit_of (get_or number r 0) * whole + power (79 - r) ≡ w (get_or C r [])
  unfolding telling
  weight_rank number marked r h =
      let e : 79 - r ≡ leaf_limit - 1 - r = omega arith in
      rw (unit_marked number marked r h, e, power_rank leaf_limit C r (common_inc s t proper.different) (common_few s t proper) h) refl

  pub telling_light : (x : Label) → w x ≤ 129 * whole
  unfolding telling unit_in
  telling_light x = go (is_in x (sorted K))
    where
      go : (b : Bool) → cond b required_unit 1 * whole + power_in leaf_limit C x ≤ 129 * whole
      go true = omega (arith, sum_small leaf_limit C (same_label x), full_places)
      go false = omega (arith, sum_small leaf_limit C (same_label x), full_places)

  module _ (first second : TreeColumns) (one : OwnColumns s C first) (two : OwnColumns t C second) (f : ℕ → ℕ)
      (weighs : (r : ℕ) → r < length C → f r ≡ w (get_or C r [])) (nothing : f 80 ≡ 0) where
    module _ (u v : ℕ) (x y : Label) (p : LeafIs s u x) (q : LeafIs t v y) where
      abbrev a : ℕ
      a = slice_index first.rank u

      abbrev b : ℕ
      b = slice_index second.rank v

      ranks_same : x ≡ y → cond (eqb b a) (f a) 0 ≡ w x
      unfolding holds
      ranks_same e = go (number_of C x (common_in s t x held (rw e held2)))
        where
          held : is_in x (leaves s) ≡ true
          held = subtree_in s u p.below x (holds_leaf (subtree (postorder s) u) x p.is)

          held2 : is_in y (leaves t) ≡ true
          held2 = subtree_in t v q.below y (holds_leaf (subtree (postorder t) v) y q.is)

          go : HasNumber C x → cond (eqb b a) (f a) 0 ≡ w x
          go c =
              rw (
                one.held u c.at c.below (rw c.is p),
                two.held v c.at c.below (rw (c.is, e) q),
                eq-eqb c.at c.at refl,
              )
              (weighs c.at c.below ∙ ap w c.is)

      ranks_apart : (x ≡ y → ⊥) → cond (eqb b a) (f a) 0 ≡ 0
      ranks_apart n = go (bool_cases (eqb b a)) (bool_cases (is_in x C))
        where
          second_one : b ≡ a → HasNumber C x → (is_in y C ≡ true) ⊎ (is_in y C ≡ false) → ⊥
          second_one e c (inl k) =
              let d = number_of C y k in
              let i = one.held u c.at c.below (rw c.is p) in
              let j = two.held v d.at d.below (rw d.is q) in
              n (sym c.is ∙ ap (λ (k : ℕ). get_or C k []) (sym i ∙ sym e ∙ j) ∙ d.is)
          second_one e c (inr k) =
              let i = one.held u c.at c.below (rw c.is p) in
              omega (arith, i, e, two.other v y q k, c.below, common_few s t proper)

          go : (eqb b a ≡ true) ⊎ (eqb b a ≡ false) → (is_in x C ≡ true) ⊎ (is_in x C ≡ false) → cond (eqb b a) (f a) 0 ≡ 0
          go (inl e) (inl k) = absurd (second_one (eqb-true b a e) (number_of C x k) (bool_cases (is_in y C)))
          go (inl e) (inr k) = rw (e, one.other u x p k) nothing
          go (inr e) k = rw e refl

      pub ranks_right : cond (eqb b a) (f a) 0 ≡ cond (same_label x y) (w x) 0
      ranks_right = go (same_cases x y)
        where
          go : (x ≡ y) ⊎ (same_label x y ≡ false) → cond (eqb b a) (f a) 0 ≡ cond (same_label x y) (w x) 0
          go (inl e) = rw (eq_same x y e) (ranks_same e)
          go (inr n) = rw n (ranks_apart (same_ne x y n))

-- the cell of both roots, for any weights

module _ (w : Label → ℕ) (s t : Tree) (C : List Label) (first second : TreeColumns) (area area' : List ℕ) (top : ℕ) (one : OwnColumns s C first)
    (two : OwnColumns t C second) (sh : length area ≡ 1431)
    (filling : Filling first second (postorder s) (postorder t) w area) (top_is : TopIs first second top area area') where
  root1 : subtree (postorder s) (first.nodes - 1) ≡ s
  root1 = root_last s (first.nodes - 1) (omega (arith, one.nodes_is, nodes_pos s))

  root2 : subtree (postorder t) (second.nodes - 1) ≡ t
  root2 = root_last t (second.nodes - 1) (omega (arith, two.nodes_is, nodes_pos t))

  pub told : (top ≡ best w (subtree (postorder s) (first.nodes - 1)) (subtree (postorder t) (second.nodes - 1)))
      × ((r : ℕ) → r < 159 → slice_index area' (weight_place r) ≡ slice_index area (weight_place r))
  told = top_is.greatest (postorder s) (postorder t) w sh filling (rw root1 (few_rows s one.proper.few))

  pub cell_greatest : Greatest w s t top
  cell_greatest = rw (told.0, root1, root2) (best_greatest w s t one.proper.different two.proper.different)

-- and for those of the common labels

module _ (s t : Tree) (K : List Label) (tree1 tree2 : TreeArrays) (rank1 rank2 : List ℕ) (m : ℕ) (number : List ℕ) (count : ℕ)
    (posed : Posed s t K tree1 tree2 rank1 rank2 m number count) (first second : TreeColumns)
    (columns1 : (v : Tree) (C : List Label) → length C ≤ 80 → Given v C tree1 rank1 → OwnColumns v C first)
    (columns2 : (v : Tree) (C : List Label) → length C ≤ 80 → Given v C tree2 rank2 → OwnColumns v C second)
    (n : ℕ) (ranks : n ≡ min m 80) (area1 area2 : List ℕ)
    (put : WeightsPut n number (replicate 1431 0) area1) (top : ℕ)
    (top_is : TopIs first second top area1 area2) where
  proper : Proper s
  proper = posed.one.proper

  few : length (common s t) ≤ 80
  few = common_few s t proper

  n_is : n ≡ length (common s t)
  n_is = omega (arith, ranks, posed.all, few)

  one : OwnColumns s (common s t) first
  one = columns1 s (common s t) few posed.one

  two : OwnColumns t (common s t) second
  two = columns2 t (common s t) few posed.two

  size : length {A = ℕ} (replicate 1431 0) ≡ 1431
  size = length-replicate {A = ℕ} 1431 0

  weighs : (r : ℕ) → r < length (common s t) → slice_index area1 (weight_place r) ≡ telling leaf_limit (sorted K) (common s t) (get_or (common s t) r [])
  weighs r h = put.each size r (omega (arith, n_is)) ∙ weight_rank s t K proper number posed.marked r h

  nothing : slice_index area1 (weight_place 80) ≡ 0
  nothing =
      put.others (weight_place 80) (inr (omega (arith, n_is, few)))
      ∙ omega (arith, filled_at {A = ℕ} 0 1431 (weight_place 80))

  filling : Filling first second (postorder s) (postorder t) (telling leaf_limit (sorted K) (common s t)) area1
  filling = record {
    one = one.columns_are;
    two = two.columns_are;
    needs = one.needs;
    few = λ u h. subtree_few leaf_limit s proper.few u (rw one.nodes_is at h);
    light = telling_light s t K proper;
    ranks = λ u h x p. record {
      is = λ v hv y q.
          ranks_right s t K proper first second one two (λ r. slice_index area1 (weight_place r)) weighs nothing u v x y
          (record { below = rw one.nodes_is at h; is = p }) (record { below = rw two.nodes_is at hv; is = q });
    };
  }

  sh : length area1 ≡ 1431
  sh = put.sized size

  great : Greatest (telling leaf_limit (sorted K) (common s t)) s t top
  great = cell_greatest _ s t (common s t) first second area1 area2 top one two sh filling top_is

  -- the powers are still there
  powers_kept : Powers n area2
  powers_kept r h =
      let kept = (told _ s t (common s t) first second area1 area2 top one two sh filling top_is).1 in
      omega (arith, kept r (omega (arith, n_is, few)), put.each size r h, power_less r (omega (arith, n_is, few)))

  pub weighed : Weighed s t K n top area2
  weighed = record { great = great; powers = powers_kept }

-- what the greatest weight tells

module _ (s t : Tree) (K : List Label) (tree1 tree2 : TreeArrays) (rank1 rank2 : List ℕ) (m : ℕ) (number : List ℕ) (count : ℕ)
    (posed : Posed s t K tree1 tree2 rank1 rank2 m number count) (n : ℕ) (ranks : n ≡ min m 80) (top : ℕ) (area : List ℕ)
    (w : Weighed s t K n top area) where
  own : Proper s
  own = posed.one.proper

  module _ (chosen : List Bool) (size : ℕ) (e : top / whole / required_unit ≡ count) (bits : Powers n area → Bits n (top % whole) chosen)
      (is : size ≡ top / whole / required_unit + top / whole % required_unit) where
    each : (i : ℕ) → i < length (common s t) → get_or chosen (0 + i) false ≡ get_or (bits_of leaf_limit (top % whole)) i false
    each i h =
        let z : 0 + i ≡ i = omega arith in
        ap (λ (j : ℕ). get_or chosen j false) z ∙ (bits w.powers).each i (omega (arith, ranks, posed.all, common_few s t own))

    decoded : chosen_from chosen 0 (common s t) ≡ decode leaf_limit (common s t) (top % whole)
    decoded = chosen_decoded leaf_limit (common s t) (top % whole) chosen 0 (common_few s t own) each

    pub solved_set : Solved s t K (Some size) chosen
    solved_set = record {
      set = λ n k.
          told_set s t K own posed.different posed.required top w.great (e ∙ posed.count_is) ∙ ap largest (sym decoded);
      count = λ n k.
          let same : n ≡ size = cc in
          same ∙ is ∙ sym (told_size s t K own posed.different posed.required top w.great (e ∙ posed.count_is))
          ∙ ap (length {A = Label}) (sym decoded);
      disagreement = λ k. absurd (none-some _ (sym k));
    }

  pub solved_eight : (chosen : List Bool) → (top / whole / required_unit ≡ count → ⊥) → Solved s t K None chosen
  solved_eight chosen apart = record {
    set = λ n k. absurd (none-some n k);
    count = λ n k. absurd (none-some n k);
    disagreement = λ k. told_eight s t K own posed.different posed.required top w.great (λ e. apart (e ∙ sym posed.count_is));
  }

-- demand 3 of what comes back

module _ (s t : Tree) (K : List Label) (proper : Proper s) (different : distinct K ≡ true) (size : Option ℕ) (chosen : List Bool)
    (solved : Solved s t K size chosen) where
  pub set_told : (n : ℕ) → size ≡ Some n → IsAnswer s t K (chosen_from chosen 0 (common s t))
  set_told n e = (largest_exactly s t K proper.different different (chosen_from chosen 0 (common s t))).0 (solved.set n e)

  pub eight_told : Common s t (set_of K) → (size ≡ None) ↔ ((a : Label) × (b : Label) × (c : Label) × Clash s t K a b c)
  eight_told held = (λ e. exactly.1 (solved.disagreement e), λ p. apart size refl (exactly.0 p))
    where
      exactly : ((a : Label) × (b : Label) × (c : Label) × Clash s t K a b c)
          ↔ ((a : Label) × (b : Label) × (c : Label) × (answer s t K ≡ disagree a b c))
      exactly = eight_exactly s t K proper.different different held

      apart : (o : Option ℕ) → size ≡ o → ((a : Label) × (b : Label) × (c : Label) × (answer s t K ≡ disagree a b c)) → size ≡ None
      apart None e p = e
      apart (Some n) e p = let f = solved.set n e in let g = p.3 in let z : ◌≡◌ {A = ℕ} 0 1 = cc in absurd (omega arith)
