-- A length that was written is read, and a length that was read was written so. Assumes nothing.
use Prim.Native.Nat.{ℕ, zero, suc, ◌+◌, ◌-◌, ◌*◌, ◌^◌, ◌≤◌, ◌<◌}
use mathlib.Core.Path.{◌≡◌, refl, sym, ◌∙◌, ap, ap₂, subst}
use mathlib.Core.Bool.{Bool, true, false, cond, ◌&&◌, ◌||◌, not}
use mathlib.Core.Logic.{◌⊎◌, inl, inr, ⊎_elim}
use mathlib.Core.List.{List, [], ◌∷◌, ◌++◌}
use native.Mathlib.Nat.{pow-suc}
use native.Mathlib.Omega.{arith}
use lib.Dec.{eqb, leb}
use lib.ListN.{length, get_or, drop, take-append-drop}
use lib.Seq.{drop-drop}
use borrow.Author.Tests.{eqb-true, leb-true, le-leb, ne_eqb, eqb-false, not-true}
use Rattle.std.specs.Prelude.{Some, None}
use Rattle.trees.proofs.Bools.{bool_cases, and_left, and_right, and_intro, or_cases}
use Rattle.contents.specs.declared.decimal.Number.{Number}
use Rattle.decimals.specs.Decimal.{decimal_from, decimal_of, is_digit, digit_run, value_from}
use Rattle.decimals.proofs.DecimalLaws.{all_digits, from_small, from_digits, from_some, from_few, no_leading_zero, decimal_value, from_read, value_below, digit_small}
use Rattle.contents.specs.Contents.{Digits, digit_limit, good_digits, number_of_run, number_at}
use Rattle.contents.proofs.RunLaws.{run_first}

-- ---- what is written is read

run_all : (digits : List ℕ) (b : ℕ) (rest : List ℕ) → all_digits digits ≡ true → is_digit b ≡ false → digit_run (digits ++ (b ∷ rest)) ≡ digits
unfolding digit_run
run_all [] b rest h k = rw k refl
run_all (d ∷ digits) b rest h k =
    rw (and_left (is_digit d) (all_digits digits) h)
    (ap (λ (l : List ℕ). d ∷ l) (run_all digits b rest (and_right (is_digit d) (all_digits digits) h) k))

line_end_plain : is_digit 10 ≡ false
unfolding is_digit
line_end_plain = refl

decimal_one : (n : ℕ) → n < 10 → length (decimal_of n) ≡ 1
unfolding decimal_of
decimal_one n h = ap (length {A = ℕ}) (from_small 20 n (omega arith) h)

decimal_first : (n : ℕ) → n < 10 ^ digit_limit → (length (decimal_of n) ≡ 1 → ⊥) → get_or (decimal_of n) 0 0 ≡ 48 → ⊥
unfolding decimal_of
decimal_first zero small m z = m (decimal_one 0 (omega arith))
decimal_first (suc n) small m z = no_leading_zero 20 (suc n) (omega arith) (omega arith) z

good_written : (n : ℕ) → n < 10 ^ digit_limit → good_digits (decimal_of n) ≡ true
unfolding good_digits
good_written n small =
    let few : length (decimal_of n) ≤ digit_limit = unfold decimal_of in from_few digit_limit 20 n (omega arith) (omega arith) in
    let one : 1 ≤ length (decimal_of n) = unfold decimal_of in from_some 20 n (omega arith) in
    rw (le-leb 1 (length (decimal_of n)) one, le-leb (length (decimal_of n)) digit_limit few) (go (bool_cases (eqb (length (decimal_of n)) 1)))
  where
    go : (eqb (length (decimal_of n)) 1 ≡ true) ⊎ (eqb (length (decimal_of n)) 1 ≡ false)
        → (eqb (length (decimal_of n)) 1 || not (eqb (get_or (decimal_of n) 0 0) 48)) ≡ true
    go (inl e) = rw e refl
    go (inr e) =
        rw (e, ne_eqb (get_or (decimal_of n) 0 0) 48 (decimal_first n small (eqb-false (length (decimal_of n)) 1 e))) refl

pub number_written : (job : List ℕ) (at n : ℕ) (rest : List ℕ) → n < 10 ^ digit_limit → drop at job ≡ decimal_of n ++ (10 ∷ rest)
    → number_at job at ≡ Some (record { value = n; next = (at + length (decimal_of n)) })
unfolding number_at number_of_run
number_written job at n rest small here =
    let run : digit_run (drop at job) ≡ decimal_of n =
    ap digit_run here ∙ run_all (decimal_of n) 10 rest (unfold decimal_of in from_digits 20 n) line_end_plain in
    rw (run, good_written n small) (ap (λ (v : ℕ). Some (record { value = v; next = (at + length (decimal_of n)) })) (decimal_value n (omega arith)))

-- ---- what is read is written

run_digits : (text : List ℕ) → all_digits (digit_run text) ≡ true
unfolding digit_run
run_digits [] = refl
run_digits (b ∷ text) = go (bool_cases (is_digit b)) (run_digits text)
  where
    go : (is_digit b ≡ true) ⊎ (is_digit b ≡ false) → all_digits (digit_run text) ≡ true → all_digits (cond (is_digit b) (b ∷ digit_run text) []) ≡ true
    go (inl e) r =
        ap (λ (q : Bool). all_digits (cond q (b ∷ digit_run text) [])) e ∙ and_intro (is_digit b) (all_digits (digit_run text)) e r
    go (inr e) r = ap (λ (q : Bool). all_digits (cond q (b ∷ digit_run text) [])) e

record Good (run : List ℕ) : Type 0 where
  some_digit : 1 ≤ length run
  few : length run ≤ digit_limit
  zero_alone : (eqb (length run) 1 ≡ true) ⊎ (not (eqb (get_or run 0 0) 48) ≡ true)

good_run : (run : List ℕ) → good_digits run ≡ true → Good run
unfolding good_digits
good_run run h =
    let p : Bool = leb 1 (length run) in
    let q : Bool = leb (length run) digit_limit in
    let r : Bool = eqb (length run) 1 || not (eqb (get_or run 0 0) 48) in
    record {
      some_digit = leb-true 1 (length run) (and_left p q (and_left (p && q) r h));
      few = leb-true (length run) digit_limit (and_right p q (and_left (p && q) r h));
      zero_alone = or_cases (eqb (length run) 1) (not (eqb (get_or run 0 0) 48)) (and_right (p && q) r h);
    }

-- digits without a leading zero are those of the number that they stand for
run_decimal : (run : List ℕ) → all_digits run ≡ true → Good run → decimal_of (value_from 0 run) ≡ run
unfolding decimal_of value_from
run_decimal [] h g = absurd (omega (arith, g.some_digit))
run_decimal (d ∷ []) h g =
    let small = digit_small d (and_left (is_digit d) true h) in
    let e : 48 + (0 * 10 + (d - 48)) ≡ d = omega (arith, small) in
    from_small 20 (0 * 10 + (d - 48)) (omega arith) (omega (arith, small)) ∙ ap (λ (x : ℕ). x ∷ []) e
run_decimal (d ∷ c ∷ run) h g =
    let small = digit_small d (and_left (is_digit d) (all_digits (c ∷ run)) h) in
    let high : d ≡ 48 → ⊥ =
    ⊎_elim (λ (z : eqb (length (d ∷ c ∷ run)) 1 ≡ true) (w : d ≡ 48). omega (arith, eqb-true (length (d ∷ c ∷ run)) 1 z))
    (λ (z : not (eqb d 48) ≡ true). eqb-false d 48 (not-true (eqb d 48) z)) g.zero_alone in
    let pos : 0 < 0 * 10 + (d - 48) = omega (arith, small, high) in
    let room : length (c ∷ run) + (20 - length (c ∷ run)) ≡ 20 = omega (arith, g.few) in
    let e : 48 + (0 * 10 + (d - 48)) ≡ d = omega (arith, small) in
    ap (λ (k : ℕ). decimal_from k (value_from (0 * 10 + (d - 48)) (c ∷ run))) (sym room)
    ∙ from_read (c ∷ run) (20 - length (c ∷ run)) (0 * 10 + (d - 48)) pos (and_right (is_digit d) (all_digits (c ∷ run)) h)
    ∙ ap (λ (l : List ℕ). l ++ (c ∷ run))
    (from_small (20 - length (c ∷ run)) (0 * 10 + (d - 48)) (omega (arith, g.few)) (omega (arith, small)) ∙ ap (λ (x : ℕ). x ∷ []) e)

power_less : (k j : ℕ) → 10 ^ k ≤ 10 ^ (k + j)
power_less k zero = let e : k + 0 ≡ k = omega arith in rw e (omega arith)
power_less k (suc j) =
    let e : k + suc j ≡ suc (k + j) = omega arith in
    rw (e, pow-suc 10 (k + j)) (omega (arith, power_less k j))

power_small : (k : ℕ) → k ≤ digit_limit → 10 ^ k ≤ 10 ^ digit_limit
power_small k h =
    let e : k + (digit_limit - k) ≡ digit_limit = omega arith in
    subst (λ (m : ℕ). 10 ^ k ≤ 10 ^ m) e (power_less k (digit_limit - k))

pub record NumberTook (job : List ℕ) (at n end : ℕ) : Type 0 where
  pub text : drop at job ≡ decimal_of n ++ drop end job
  pub small : n < 10 ^ digit_limit

pub number_took : (job : List ℕ) (at n end : ℕ) → number_at job at ≡ Some (record { value = n; next = end }) → NumberTook job at n end
unfolding number_at number_of_run
number_took job at n end h = go (bool_cases (good_digits (digit_run (drop at job))))
  where
    broken : ◌≡◌ {A = Digits} None (Some (record { value = n; next = end })) → ⊥
    broken e = let z : ◌≡◌ {A = ℕ} 0 1 = cc in omega arith

    go : (good_digits (digit_run (drop at job)) ≡ true) ⊎ (good_digits (digit_run (drop at job)) ≡ false) → NumberTook job at n end
    go (inr e) = absurd (broken (rw e at h))
    go (inl e) =
        let r : List ℕ = digit_run (drop at job) in
        let g = good_run r e in
        let k : ◌≡◌ {A = Digits} (Some (record { value = value_from 0 r; next = at + length r })) (Some (record { value = n; next = end })) = rw e at h in
        let same : ◌≡◌ {A = Number} (record { value = value_from 0 r; next = at + length r }) (record { value = n; next = end }) = cc in
        let v : value_from 0 r ≡ n = ap (λ (d : Number). d.value) same in
        let p : at + length r ≡ end = ap (λ (d : Number). d.next) same in
        record {
          text =
              sym (take-append-drop (length r) (drop at job))
              ∙ ap₂ (λ (x y : List ℕ). x ++ y)
              (sym (run_first (drop at job)) ∙ sym (run_decimal r (run_digits (drop at job)) g) ∙ ap decimal_of v)
              (drop-drop (length r) at job ∙ ap (λ (m : ℕ). drop m job) p);
          small =
              omega (arith, v, value_below r 0 0 (omega arith) (run_digits (drop at job)), power_small (0 + length r) (omega (arith, g.few)));
        }
