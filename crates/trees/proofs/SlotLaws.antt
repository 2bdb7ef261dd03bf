-- Marks of labels: those of a reader that has met no label, those after one more, and that a label whose slot has none is new. Assumes
-- nothing.
use Prim.Native.Nat.{ℕ, zero, suc, ◌+◌, ◌*◌, ◌%◌, ◌<◌, ◌≤◌}
use mathlib.Core.Path.{◌≡◌, refl, ap, sym, ◌∙◌}
use mathlib.Core.Bool.{Bool, true, false, ◌&&◌}
use mathlib.Core.Logic.{◌⊎◌, inl, inr}
use mathlib.Core.List.{List, [], ◌∷◌}
use native.Mathlib.Numerals.{add-one}
use native.Mathlib.Omega.{arith}
use native.Mathlib.Nat.{mod-lt}
use lib.Dec.{eqb, ltb}
use lib.ListN.{length, get_or, set, drop, replicate, length-set, length-replicate, drop_of_length-le, get_or-eq_default}
use lib.Seq.{get_or-set_same, get_or-set_other, drop-cons}
use borrow.Author.Tests.{eqb-true, eqb-false, lt-ltb}
use Rattle.trees.specs.Label.{Label}
use Rattle.trees.specs.Token.{Token, spelling}
use Rattle.trees.specs.Stored.{part_of, leaf_label, is_part, is_among}
use Rattle.trees.specs.Slots.{slot_count, slot_from, slot_of, is_marked, SlotMarks, first_marks}
use Rattle.trees.proofs.Bools.{bool_cases, clash, refute}
use Rattle.trees.proofs.LabelLaws.{same_eq}
use Rattle.trees.proofs.EntryLaws.{filled_at}
use Rattle.trees.proofs.AmongLaws.{part_nothing, spelling_none}

-- ---- a label's slot

pub step_small : (n b : ℕ) → (n * 139 + b) % slot_count < slot_count
step_small n b = mod-lt (n * 139 + b) (omega arith)

from_small : (n : ℕ) (x : Label) → n < slot_count → slot_from n x < slot_count
unfolding slot_from
from_small n [] h = h
from_small n (b ∷ x) h = from_small ((n * 139 + b) % slot_count) x (step_small n b)

pub slot_small : (x : Label) → slot_of x < slot_count
unfolding slot_of
slot_small x = from_small 0 x (omega arith)

-- n is the number of the bytes before place i
abbrev pub SlotFrom : Label → (i n : ℕ) → Type 0
SlotFrom x i n = slot_from n (drop i x) ≡ slot_of x

pub slot_start : (x : Label) → SlotFrom x 0 0
unfolding slot_of
slot_start x = refl

module _ (x : Label) (i n : ℕ) (so_far : SlotFrom x i n) where
  pub slot_next : (b : ℕ) → i < length x → b ≡ get_or x i 0 → SlotFrom x (i + 1) ((n * 139 + b) % slot_count)
  unfolding slot_from
  slot_next b h e = rw (e, add-one i) (sym (ap (slot_from n) (drop-cons x i 0 h)) ∙ so_far)

  pub slot_end : length x ≤ i → n ≡ slot_of x
  unfolding slot_from
  slot_end h = sym (ap (slot_from n) (drop_of_length-le x h)) ∙ so_far

-- ---- marks

mark_here : (seen : List ℕ) (k : ℕ) → k < length seen → is_marked (set seen k 1) k ≡ true
unfolding is_marked
mark_here seen k h = ap (ltb 0) (get_or-set_same seen k 1 0 h)

mark_stays : (seen : List ℕ) (k j : ℕ) → k < length seen → is_marked seen j ≡ true → is_marked (set seen k 1) j ≡ true
unfolding is_marked
mark_stays seen k j h e = go (bool_cases (eqb j k))
  where
    go : (eqb j k ≡ true) ⊎ (eqb j k ≡ false) → is_marked (set seen k 1) j ≡ true
    go (inl d) = rw (eqb-true j k d) (mark_here seen k h)
    go (inr d) = ap (ltb 0) (get_or-set_other seen k j 1 0 (eqb-false j k d)) ∙ e

-- what the test of a mark tells of a search that is left out, or made
module _ (seen : List ℕ) (k : ℕ) (b : Bool) where
  pub no_slot : length seen ≤ k → false ≡ (is_marked seen k && b)
  unfolding is_marked
  no_slot h = rw (get_or-eq_default seen 0 h) refl

  pub no_mark_lem : get_or seen k 0 ≡ 0 → false ≡ (is_marked seen k && b)
  unfolding is_marked
  no_mark_lem e = rw e refl

  pub a_mark : (get_or seen k 0 ≡ 0 → ⊥) → b ≡ (is_marked seen k && b)
  unfolding is_marked
  a_mark h = rw (lt-ltb 0 (get_or seen k 0) (omega (arith, h))) refl

-- before any label: each part is of no bytes
pub marked_start : (text : List ℕ) (m : ℕ) → SlotMarks m text (replicate m 0) (replicate m 0) first_marks
unfolding first_marks slot_of
marked_start text m =
    record {
      starts = length-replicate {A = ℕ} m 0;
      sizes = length-replicate {A = ℕ} m 0;
      slots = length-set {A = ℕ} (replicate slot_count 0) 0 1 ∙ length-replicate {A = ℕ} slot_count 0;
      each = each;
    }
  where
    empty : (u : ℕ) → slot_of (spelling (leaf_label text (replicate m 0) (replicate m 0) u)) ≡ 0
    empty u = rw (filled_at {A = ℕ} 0 m u, part_nothing text 0, spelling_none) refl

    each : (u : ℕ) → is_marked first_marks (slot_of (spelling (leaf_label text (replicate m 0) (replicate m 0) u))) ≡ true
    each u = rw (empty u) (mark_here (replicate slot_count 0) 0 (omega (arith, length-replicate {A = ℕ} slot_count 0)))

module _ (m : ℕ) (text start size seen : List ℕ) (marked : SlotMarks m text start size seen) where
  -- a label whose slot has no mark is none of the parts'
  part_unmarked : (x : Token) (u : ℕ) → is_marked seen (slot_of (spelling x)) ≡ false → is_part text (get_or start u 0) (get_or size u 0) x ≡ false
  part_unmarked x u none =
      refute (is_part text (get_or start u 0) (get_or size u 0) x)
      (λ (h : is_part text (get_or start u 0) (get_or size u 0) x ≡ true).
      let same = same_eq (spelling x) (spelling (leaf_label text start size u)) h in
      clash (marked.each u) (sym (ap (λ (l : Label). is_marked seen (slot_of l)) same) ∙ none))

  among_unmarked : (x : Token) (n : ℕ) → is_marked seen (slot_of (spelling x)) ≡ false → is_among text start size n x ≡ false
  unfolding is_among
  among_unmarked x zero none = refl
  among_unmarked x (suc n) none = rw (part_unmarked x n none) (among_unmarked x n none)

  -- so the search may be left out where there is none
  pub met_is_among : (x : Token) (n k : ℕ) → k ≡ slot_of (spelling x)
      → (is_marked seen k && is_among text start size n x) ≡ is_among text start size n x
  met_is_among x n k e = go (bool_cases (is_marked seen k))
    where
      go : (is_marked seen k ≡ true) ⊎ (is_marked seen k ≡ false) → (is_marked seen k && is_among text start size n x) ≡ is_among text start size n x
      go (inl d) = rw d refl
      go (inr d) = rw d (sym (among_unmarked x n (rw (← e) d)))

  -- a token of the text, and its slot
  module _ (first len k : ℕ) (token : Token) (part : token ≡ part_of first len text) (slot : k ≡ slot_of (spelling token)) where
    pub met_told : (n : ℕ) (b : Bool) → b ≡ (is_marked seen k && is_among text start size n token)
        → b ≡ is_among text start size n (part_of first len text)
    met_told n b e = e ∙ met_is_among token n k slot ∙ ap (is_among text start size n) part

    of_part : k ≡ slot_of (spelling (part_of first len text))
    of_part = slot ∙ ap (λ (x : Token). slot_of (spelling x)) part

    -- it is one label more, with its mark
    pub marked_next : (n : ℕ) → n < m → SlotMarks m text (set start n first) (set size n len) (set seen k 1)
    marked_next n h =
        record {
          starts = length-set start n first ∙ marked.starts;
          sizes = length-set size n len ∙ marked.sizes;
          slots = length-set seen k 1 ∙ marked.slots;
          each = λ u. go u (bool_cases (eqb u n));
        }
      where
        small : k < length seen
        small = omega (arith, of_part, marked.slots, slot_small (spelling (part_of first len text)))

        Here : ℕ → Type 0
        Here u = is_marked (set seen k 1) (slot_of (spelling (leaf_label text (set start n first) (set size n len) u))) ≡ true

        go : (u : ℕ) → (eqb u n ≡ true) ⊎ (eqb u n ≡ false) → Here u
        go u (inl d) =
            let s = get_or-set_same start n first 0 (omega (arith, marked.starts)) in
            let z = get_or-set_same size n len 0 (omega (arith, marked.sizes)) in
            rw (eqb-true u n d, s, z, ← of_part) (mark_here seen k small)
        go u (inr d) =
            rw (get_or-set_other start n u first 0 (eqb-false u n d), get_or-set_other size n u len 0 (eqb-false u n d))
            (mark_stays seen k (slot_of (spelling (leaf_label text start size u))) small (marked.each u))
