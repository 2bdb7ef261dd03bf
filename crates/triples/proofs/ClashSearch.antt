-- The three nested searches over ranks find the first three labels that clash. Assumes nothing.
use Prim.Native.Nat.{ℕ, zero, suc, ◌+◌, ◌-◌, ◌<◌, ◌≤◌}
use mathlib.Core.Path.{◌≡◌, refl, sym, ◌∙◌, ap}
use mathlib.Core.Bool.{Bool, true, false, cond}
use mathlib.Core.Logic.{◌⊎◌, inl, inr}
use mathlib.Core.Option.{Option, some, none}
use mathlib.Core.List.{List, []}
use native.Mathlib.Omega.{arith}
use Rattle.std.specs.Prelude.{Some, None}
use Rattle.std.proofs.lemmas.Option.{none-some}
use lib.Dec.{ltb}
use lib.ListN.{length, get_or, drop, drop_of_length-le}
use lib.Seq.{drop-cons}
use borrow.Author.Tests.{lt-ltb, le-ltb, ltb-true}
use Rattle.trees.specs.Label.{Label, distinct}
use Rattle.trees.specs.Tree.{Tree}
use Rattle.trees.proofs.Bools.{bool_cases, clash as bool_clash}
use Rattle.agreement.specs.Answer.{Three, or_else, clashing, clash_with_two, clash_with_one, first_clash}
use Rattle.leaves.specs.Find.{leaf_from}
use Rattle.triples.proofs.LoopLaws.{FirstHit, hit, none as miss, first_hit}
use Rattle.triples.specs.declared.Indices.{Indices as Ranked}
use Rattle.triples.specs.Clash.{clash_ranks, Ranks}
use Rattle.triples.specs.Loops.{clash_at, below, third_of, second_of, three_of, first_of}
use Rattle.triples.proofs.RowLaws.{rank_at}

-- where there is a second there is a third
second_has : (clash : ℕ → ℕ → Bool) (count i : ℕ) → ltb (second_of clash count i) count ≡ true
    → ltb (third_of clash count (second_of clash count i)) count ≡ true
unfolding second_of
second_has clash count i h =
    go (leaf_from (λ j. ltb (third_of clash count j) count) (count - (i + 1)) (i + 1))
    (first_hit (λ j. ltb (third_of clash count j) count) (count - (i + 1)) (i + 1)) h
  where
    go : (r : ℕ) → FirstHit (λ j. ltb (third_of clash count j) count) (count - (i + 1)) (i + 1) r → ltb r count ≡ true
        → ltb (third_of clash count r) count ≡ true
    go r (hit k l e f) b = e
    go r (miss e f) b = absurd (omega (arith, ltb-true r count b))

-- a number below a bound, or none
below_some : (n r k : ℕ) → Some k ≡ below n r → (ltb r n ≡ true) × (k ≡ r)
below_some n r k e = go (bool_cases (ltb r n))
  where
    go : (ltb r n ≡ true) ⊎ (ltb r n ≡ false) → (ltb r n ≡ true) × (k ≡ r)
    go (inl b) = let d : Some k ≡ Some r = e ∙ rw b refl in let z : k ≡ r = cc in (b, z)
    go (inr b) = absurd (none-some k (sym (e ∙ rw b refl)))

below_none : (n r : ℕ) → None ≡ below n r → ltb r n ≡ false
below_none n r e = go (bool_cases (ltb r n))
  where
    go : (ltb r n ≡ true) ⊎ (ltb r n ≡ false) → ltb r n ≡ false
    go (inl b) = absurd (none-some r (e ∙ rw b refl))
    go (inr b) = b

pub below_at : (n r k : ℕ) → k < n → k ≡ r → Some k ≡ below n r
below_at n r k h e = rw (← e, lt-ltb k n h) refl

pub below_end : (n r k : ℕ) → n ≤ k → k ≡ r → None ≡ below n r
below_end n r k h e = rw (← e, le-ltb k n h) refl

-- a search does not go back
from_low : (is : ℕ → Bool) (n u : ℕ) → u ≤ leaf_from is n u
from_low is n u = go (leaf_from is n u) (first_hit is n u)
  where
    go : (r : ℕ) → FirstHit is n u r → u ≤ r
    go r (hit k l e f) = k
    go r (miss e f) = omega arith

pub second_later : (clash : ℕ → ℕ → Bool) (n i j : ℕ) → j ≡ second_of clash n i → i < j
unfolding second_of
second_later clash n i j e = omega (arith, e, from_low (λ m. ltb (third_of clash n m) n) (n - (i + 1)) (i + 1))

pub some_later : (clash : ℕ → ℕ → Bool) (n i j : ℕ) → Some j ≡ below n (second_of clash n i) → i < j
some_later clash n i j e = second_later clash n i j (below_some n (second_of clash n i) j e).1

third_later : (clash : ℕ → ℕ → Bool) (n j : ℕ) → j < third_of clash n j
unfolding third_of
third_later clash n j = omega (arith, from_low (clash j) (n - (j + 1)) (j + 1))

-- what is found are three ranks in order, whatever the rows are
pub ranks_found : (clash : ℕ → ℕ → Bool) (n i : ℕ) (r : Ranked) → i < n → Some r ≡ three_of clash n i → Ranks n (Some r)
unfolding three_of
ranks_found clash n i r h e = go (bool_cases (ltb (second_of clash n i) n))
  where
    go : (ltb (second_of clash n i) n ≡ true) ⊎ (ltb (second_of clash n i) n ≡ false) → Ranks n (Some r)
    go (inl b) =
        let j = second_of clash n i in
        let k = third_of clash n j in
        let l = second_later clash n i j refl in
        let m = third_later clash n j in
        let g = ltb-true k n (second_has clash n i b) in
        let d : Some r ≡ Some (record { first = i; second = j; third = k }) = e ∙ rw b refl in
        rw d (record { found = λ q f. let z : q ≡ record { first = i; second = j; third = k } = cc in rw z (l, m, g) })
    go (inr b) = absurd (none-some r (sym (e ∙ rw b refl)))

pub ranks_none : (n : ℕ) → Ranks n None
ranks_none n = record { found = λ r e. absurd (none-some r e) }

-- whether there is a clash of which rank i is the first
pub three_some : (clash : ℕ → ℕ → Bool) (n i : ℕ) (r : Ranked) → Some r ≡ three_of clash n i → ltb (second_of clash n i) n ≡ true
unfolding three_of
three_some clash n i r e = go (bool_cases (ltb (second_of clash n i) n))
  where
    go : (ltb (second_of clash n i) n ≡ true) ⊎ (ltb (second_of clash n i) n ≡ false) → ltb (second_of clash n i) n ≡ true
    go (inl b) = b
    go (inr b) = absurd (none-some r (sym (e ∙ rw b refl)))

pub three_none : (clash : ℕ → ℕ → Bool) (n i : ℕ) → None ≡ three_of clash n i → ltb (second_of clash n i) n ≡ false
unfolding three_of
three_none clash n i e = go (bool_cases (ltb (second_of clash n i) n))
  where
    go : (ltb (second_of clash n i) n ≡ true) ⊎ (ltb (second_of clash n i) n ≡ false) → ltb (second_of clash n i) n ≡ false
    go (inl b) =
        let j = second_of clash n i in
        let d : None ≡ Some (record { first = i; second = j; third = third_of clash n j }) = e ∙ rw b refl in
        absurd (none-some _ d)
    go (inr b) = b

-- from the two searches to the three ranks
pub three_told : (clash : ℕ → ℕ → Bool) (n i j k : ℕ) → Some j ≡ below n (second_of clash n i) → Some k ≡ below n (third_of clash n j)
    → Some (record { first = i; second = j; third = k }) ≡ three_of clash n i
unfolding three_of
three_told clash n i j k e f = go (below_some n (second_of clash n i) j e) (below_some n (third_of clash n j) k f)
  where
    go : (ltb (second_of clash n i) n ≡ true) × (j ≡ second_of clash n i) → (ltb (third_of clash n j) n ≡ true) × (k ≡ third_of clash n j)
        → Some (record { first = i; second = j; third = k }) ≡ three_of clash n i
    go (b, d) (g, h) = rw (b, h, d) refl

pub second_none : (clash : ℕ → ℕ → Bool) (n i : ℕ) → None ≡ below n (second_of clash n i) → None ≡ three_of clash n i
unfolding three_of
second_none clash n i e = rw (below_none n (second_of clash n i) e) refl

-- where there is a second there is a third
pub third_some : (clash : ℕ → ℕ → Bool) (n i j : ℕ) → Some j ≡ below n (second_of clash n i) → None ≡ below n (third_of clash n j) → ⊥
third_some clash n i j e f =
    let p = below_some n (second_of clash n i) j e in
    let q = below_none n (third_of clash n j) f in
    let z : true ≡ false = sym (second_has clash n i p.0) ∙ ap (λ (m : ℕ). ltb (third_of clash n m) n) (sym p.1) ∙ q in
    bool_clash (sym z) refl

module _ (s t : Tree) (C : List Label) (count : ℕ) (len : length C ≡ count) where
  -- the three labels of these ranks, where the last rank is one
  abbrev pub three_at : ℕ → ℕ → ℕ → Option Three
  three_at i j k =
      cond (ltb k count) (some (record { one = get_or C i []; two = get_or C j []; three = get_or C k [] })) none

  abbrev pub two_at : ℕ → ℕ → Option Three
  two_at i j = cond (ltb j count) (three_at i j (third_of (clash_at s t C i) count j)) none

  abbrev pub one_at : ℕ → Option Three
  one_at i = cond (ltb i count) (two_at i (second_of (clash_at s t C i) count i)) none

  third_found : (i j n m : ℕ) → i < j → j < m → n + m ≡ count
      → clash_with_two s t (get_or C i []) (get_or C j []) (drop m C) ≡ three_at i j (leaf_from (clash_at s t C i j) n m)
  unfolding clash_with_two leaf_from clash_at
  third_found i j zero m h k e =
      let past : length C ≤ m = omega arith in
      rw (drop_of_length-le C past, le-ltb m count (omega arith)) refl
  third_found i j (suc n) m h k e =
      rw (drop-cons C m [] (omega arith))
      (go (clashing s t (get_or C i []) (get_or C j []) (get_or C m [])) (third_found i j n (suc m) h (omega arith) (omega arith)))
    where
      go : (b : Bool)
          → clash_with_two s t (get_or C i []) (get_or C j []) (drop (suc m) C) ≡ three_at i j (leaf_from (clash_at s t C i j) n (suc m))
          → cond b (some (record { one = get_or C i []; two = get_or C j []; three = get_or C m [] }))
          (clash_with_two s t (get_or C i []) (get_or C j []) (drop (suc m) C))
          ≡ three_at i j (cond b m (leaf_from (clash_at s t C i j) n (suc m)))
      go true ih = rw (lt-ltb m count (omega arith)) refl
      go false ih = ih

  third_of_lem : (i j : ℕ) → i < j → j < count
      → clash_with_two s t (get_or C i []) (get_or C j []) (drop (suc j) C) ≡ three_at i j (third_of (clash_at s t C i) count j)
  unfolding third_of
  third_of_lem i j h k =
      let e : suc j ≡ j + 1 = omega arith in
      rw e (third_found i j (count - (j + 1)) (j + 1) h (omega arith) (omega arith))

  second_found : (i n m : ℕ) → i < m → n + m ≡ count
      → clash_with_one s t (get_or C i []) (drop m C) ≡ two_at i (leaf_from (λ j. ltb (third_of (clash_at s t C i) count j) count) n m)
  unfolding clash_with_one leaf_from or_else
  second_found i zero m h e =
      let past : length C ≤ m = omega arith in
      rw (drop_of_length-le C past, le-ltb m count (omega arith)) refl
  second_found i (suc n) m h e =
      rw (drop-cons C m [] (omega arith), third_of_lem i m h (omega arith))
      (go (bool_cases (ltb (third_of (clash_at s t C i) count m) count)) (second_found i n (suc m) (omega arith) (omega arith)))
    where
      go : (ltb (third_of (clash_at s t C i) count m) count ≡ true) ⊎ (ltb (third_of (clash_at s t C i) count m) count ≡ false)
          → clash_with_one s t (get_or C i []) (drop (suc m) C)
          ≡ two_at i (leaf_from (λ j. ltb (third_of (clash_at s t C i) count j) count) n (suc m))
          → or_else (three_at i m (third_of (clash_at s t C i) count m)) (clash_with_one s t (get_or C i []) (drop (suc m) C))
          ≡ two_at i
          (cond (ltb (third_of (clash_at s t C i) count m) count) m (leaf_from (λ j. ltb (third_of (clash_at s t C i) count j) count) n (suc m)))
      go (inl b) ih = rw (b, lt-ltb m count (omega arith), b) refl
      go (inr b) ih = rw b ih

  second_of_lem : (i : ℕ) → i < count
      → clash_with_one s t (get_or C i []) (drop (suc i) C) ≡ two_at i (second_of (clash_at s t C i) count i)
  unfolding second_of
  second_of_lem i h =
      let e : suc i ≡ i + 1 = omega arith in
      rw e (second_found i (count - (i + 1)) (i + 1) (omega arith) (omega arith))

  first_found : (n m : ℕ) → n + m ≡ count
      → first_clash s t (drop m C) ≡ one_at (leaf_from (λ i. ltb (second_of (clash_at s t C i) count i) count) n m)
  unfolding first_clash leaf_from or_else
  first_found zero m e =
      let past : length C ≤ m = omega arith in
      rw (drop_of_length-le C past, le-ltb m count (omega arith)) refl
  first_found (suc n) m e =
      rw (drop-cons C m [] (omega arith), second_of_lem m (omega arith))
      (go (bool_cases (ltb (second_of (clash_at s t C m) count m) count)) (first_found n (suc m) (omega arith)))
    where
      go : (ltb (second_of (clash_at s t C m) count m) count ≡ true) ⊎ (ltb (second_of (clash_at s t C m) count m) count ≡ false)
          → first_clash s t (drop (suc m) C) ≡ one_at (leaf_from (λ i. ltb (second_of (clash_at s t C i) count i) count) n (suc m))
          → or_else (two_at m (second_of (clash_at s t C m) count m)) (first_clash s t (drop (suc m) C))
          ≡ one_at (cond (ltb (second_of (clash_at s t C m) count m) count) m (leaf_from (λ i. ltb (second_of (clash_at s t C i) count i) count) n (suc m)))
      go (inl b) ih = rw (b, second_has (clash_at s t C m) count m b, lt-ltb m count (omega arith), b) refl
      go (inr b) ih = rw b ih

  pub first_clash_is : first_clash s t C ≡ one_at (first_of (clash_at s t C) count)
  unfolding first_of
  first_clash_is = first_found (count - 0) 0 (omega arith)

  -- three ranks that were found name the first clash, and where there are none there is none
  module _ (d : distinct C ≡ true) where
    pub found_is : (i : ℕ) (r : Ranked) → i ≡ first_of (clash_at s t C) count → i < count
        → Some r ≡ three_of (clash_at s t C i) count i → Some r ≡ clash_ranks C (first_clash s t C)
    unfolding clash_ranks three_of
    found_is i r e h f =
        let clash = clash_at s t C i in
        let b = three_some clash count i r f in
        let j = second_of clash count i in
        let l : j < count = ltb-true j count b in
        let c = second_has clash count i b in
        let m : third_of clash count j < count = ltb-true (third_of clash count j) count c in
        rw (
          f,
          first_clash_is,
          ← e,
          lt-ltb i count h,
          b,
          c,
          rank_at C i d (omega arith),
          rank_at C j d (omega arith),
          rank_at C (third_of clash count j) d (omega arith),
        )
        refl

    pub none_is : first_of (clash_at s t C) count ≡ count → None ≡ clash_ranks C (first_clash s t C)
    unfolding clash_ranks
    none_is e = rw (first_clash_is, e, le-ltb count count (omega arith)) refl
