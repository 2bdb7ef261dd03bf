-- Weights by rank and the bits of a set: powers halve, the weights stored are those of the labels, and bits tell the labels.
-- Assumes nothing.
use Rattle.std.proofs.Common.{◌≡◌, ℕ, zero, suc, ◌+◌, ◌-◌, ◌*◌, ◌/◌, ◌<◌, ◌≤◌, Bool, true, false, cond, Option, Some, None, SomeIff, is_some, leb, le-leb, ◌⊎◌, List, [], ◌∷◌, length, get_or, set, sym, refl, ap, ◌∙◌, inl, inr, arith, length-set, get_or-set_other, get_or-set_same}
use borrow.Author.Tests.{lt-leb}
use Rattle.std.specs.Option.{unwrap_or}
use Rattle.trees.specs.Label.{Label}
use Rattle.trees.proofs.EntryLaws.{below_next}
use Rattle.agreement.specs.Powers.{whole, power, decode}
use Rattle.table.specs.Table.{weight_place}
use Rattle.table.specs.Weighing.{unit_of, WeightsPut, bits_of, Bits}
use Rattle.table.specs.Choice.{chosen_from}

-- powers

pub power_79 : 604462909807314587353088 ≡ power 79
unfolding power
power_79 = refl

power_suc : (k : ℕ) → power (suc k) ≡ power k + power k
unfolding power
power_suc k = refl

pub power_half : (r p : ℕ) → r + 1 < 80 → p ≡ power (79 - r) → p / 2 ≡ power (79 - (r + 1))
power_half r p h e =
    let k : 79 - r ≡ suc (79 - (r + 1)) = omega arith in
    omega (arith, e, ap power k, power_suc (79 - (r + 1)))

-- weights stored rank by rank

pub weights_none : (number area : List ℕ) → WeightsPut 0 number area area
weights_none number area = record {
  sized = λ e. e;
  each = λ sh r h. absurd (omega arith);
  others = λ i side. refl;
}

module _ (r : ℕ) (number area0 area : List ℕ) (x : ℕ) (small : r < 80) (put : WeightsPut r number area0 area)
    (value : x ≡ unit_of (get_or number r 0) * whole + power (79 - r)) where
  pub weights_next : WeightsPut (r + 1) number area0 (set area (1272 + r) x)
  weights_next = record {
    sized = λ e. length-set area (1272 + r) x ∙ put.sized e;
    each = λ sh.
        let s = put.sized sh in
        below_next (λ q. get_or (set area (1272 + r) x) (weight_place q) 0 ≡ unit_of (get_or number q 0) * whole + power (79 - q)) r
        (λ q less. get_or-set_other area (1272 + r) (1272 + q) x 0 (omega arith) ∙ put.each sh q less)
        (get_or-set_same area (1272 + r) x 0 (omega arith) ∙ value);
    others = λ i side. get_or-set_other area (1272 + r) i x 0 (outside i side) ∙ put.others i (wider i side);
  }
    where
      outside : (i : ℕ) → (i < 1272) ⊎ (1272 + (r + 1) ≤ i) → i ≡ 1272 + r → ⊥
      outside i (inl k) e = omega arith
      outside i (inr k) e = omega arith

      wider : (i : ℕ) → (i < 1272) ⊎ (1272 + (r + 1) ≤ i) → (i < 1272) ⊎ (1272 + r ≤ i)
      wider i (inl k) = inl k
      wider i (inr k) = inr (omega arith)

-- bits read one after the other

-- from place r on the bits of p are those of what is left
abbrev pub Ahead : ℕ → ℕ → ℕ → ℕ → Type 0
Ahead N r p rest = (j : ℕ) → get_or (bits_of N p) (r + j) false ≡ get_or (bits_of (N - r) rest) j false

pub record ReadTo (N r p rest : ℕ) (chosen : List Bool) : Type 0 where
  pub size : length chosen ≡ 80
  pub done : (q : ℕ) → q < r → get_or chosen q false ≡ get_or (bits_of N p) q false
  pub ahead : Ahead N r p rest

bits_zero : (n p : ℕ) → get_or (bits_of (suc n) p) 0 false ≡ leb (power n) p
unfolding bits_of
bits_zero n p = refl

bits_suc : (n p j : ℕ) → get_or (bits_of (suc n) p) (suc j) false ≡ get_or (bits_of n (cond (leb (power n) p) (p - power n) p)) j false
unfolding bits_of
bits_suc n p j = refl

pub read_none : (N p : ℕ) (chosen : List Bool) → length chosen ≡ 80 → ReadTo N 0 p p chosen
read_none N p chosen size = record {
  size = size;
  done = λ q h. absurd (omega arith);
  ahead = λ j.
      let e : 0 + j ≡ j = omega arith in
      let d : N - 0 ≡ N = omega arith in
      rw (e, d) refl;
}

module _ (N r p rest next power' : ℕ) (held : Bool) (chosen : List Bool) (h : r < N) (small : r < 80) (read : ReadTo N r p rest chosen)
    (is-power : power' ≡ power (N - 1 - r)) (is_held_lem : held ≡ leb power' rest)
    (is-next : next ≡ cond (leb power' rest) (rest - power') rest) where
  k : N - r ≡ suc (N - 1 - r)
  k = omega arith

  held_is : held ≡ leb (power (N - 1 - r)) rest
  held_is = is_held_lem ∙ ap (λ (n : ℕ). leb n rest) is-power

  next_is : next ≡ cond (leb (power (N - 1 - r)) rest) (rest - power (N - 1 - r)) rest
  next_is = is-next ∙ ap (λ (n : ℕ). cond (leb n rest) (rest - n) rest) is-power

  here : get_or (bits_of N p) r false ≡ held
  here =
      let e : r + 0 ≡ r = omega arith in
      ap (λ (n : ℕ). get_or (bits_of N p) n false) (sym e) ∙ read.ahead 0
      ∙ ap (λ (n : ℕ). get_or (bits_of n rest) 0 false) k ∙ bits_zero (N - 1 - r) rest ∙ sym held_is

  pub read_next : ReadTo N (r + 1) p next (set chosen r held)
  read_next = record {
    size = length-set chosen r held ∙ read.size;
    done =
        below_next (λ q. get_or (set chosen r held) q false ≡ get_or (bits_of N p) q false) r
        (λ q less. get_or-set_other chosen r q held false (omega arith) ∙ read.done q less)
        (get_or-set_same chosen r held false (omega (arith, read.size)) ∙ sym here);
    ahead = λ j.
        let e : r + 1 + j ≡ r + suc j = omega arith in
        let m : N - 1 - r ≡ N - (r + 1) = omega arith in
        ap (λ (n : ℕ). get_or (bits_of N p) n false) e ∙ read.ahead (suc j)
        ∙ ap (λ (n : ℕ). get_or (bits_of n rest) (suc j) false) k ∙ bits_suc (N - 1 - r) rest j
        ∙ ap (λ (n : ℕ). get_or (bits_of (N - 1 - r) n) j false) (sym next_is)
        ∙ ap (λ (n : ℕ). get_or (bits_of n next) j false) m;
  }

-- a power taken from what is left, if it is in it
pub taken : (o : Option ℕ) (p rest : ℕ) → SomeIff o (p ≤ rest) (rest - p)
    → (is_some o ≡ leb p rest) × (unwrap_or o rest ≡ cond (leb p rest) (rest - p) rest)
taken None p rest h = let e = lt-leb p rest (omega arith) in (sym e, rw e refl)
taken (Some x) p rest h = let e = le-leb p rest h.0 in (sym e, rw e h.1)

-- the labels that are chosen are those that the bits tell

pub chosen_decoded : (n : ℕ) (C : List Label) (p : ℕ) (chosen : List Bool) (r : ℕ) → length C ≤ n
    → ((i : ℕ) → i < length C → get_or chosen (r + i) false ≡ get_or (bits_of n p) i false) → chosen_from chosen r C ≡ decode n C p
unfolding chosen_from decode
chosen_decoded zero [] p chosen r few each = refl
chosen_decoded zero (c ∷ C) p chosen r few each = absurd (omega arith)
chosen_decoded (suc n) [] p chosen r few each = refl
chosen_decoded (suc n) (c ∷ C) p chosen r few each =
    go (leb (power n) p) (ap (λ (i : ℕ). get_or chosen i false) (omega arith) ∙ each 0 (omega arith) ∙ bits_zero n p)
    (chosen_decoded n C (cond (leb (power n) p) (p - power n) p) chosen (suc r) (omega arith)
    (λ i h. ap (λ (j : ℕ). get_or chosen j false) (omega arith) ∙ each (suc i) (omega arith) ∙ bits_suc n p i))
  where
    go : (b : Bool) → get_or chosen r false ≡ b → chosen_from chosen (suc r) C ≡ decode n C (cond b (p - power n) p)
        → cond (get_or chosen r false) (c ∷ chosen_from chosen (suc r) C) (chosen_from chosen (suc r) C)
        ≡ cond b (c ∷ decode n C (p - power n)) (decode n C p)
    go true e ih = rw (e, ih) refl
    go false e ih = rw (e, ih) refl

pub bits_read : (m r p q rest : ℕ) (chosen : List Bool) → p ≡ q → m ≤ r → ReadTo 80 r p rest chosen → Bits m q chosen
bits_read m r p q rest chosen e h read =
    record { each = λ i l. read.done i (omega arith) ∙ ap (λ (n : ℕ). get_or (bits_of 80 n) i false) e }
