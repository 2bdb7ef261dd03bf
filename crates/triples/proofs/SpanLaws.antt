-- Searches for the first node that spans two leaves: their steps, and how one search goes on from another. Assumes nothing.
use Prim.Native.Nat.{ℕ, zero, suc, ◌+◌, ◌-◌, ◌%◌, ◌<◌, ◌≤◌, min, max}
use mathlib.Core.Path.{◌≡◌, refl, sym, ◌∙◌, ap}
use mathlib.Core.Bool.{Bool, true, false, cond, ◌||◌}
use mathlib.Core.Logic.{◌⊎◌, inl, inr}
use mathlib.Core.List.{List}
use native.Mathlib.Omega.{arith}
use lib.Dec.{eqb, ltb, leb}
use lib.ListN.{length, get_or, set}
use lib.Seq.{get_or-set_same, get_or-set_other}
use borrow.Author.Tests.{eqb-true, eqb-false, leb-false, lt-leb, lt-ltb, le-ltb, ltb-true, ltb-false}
use Rattle.trees.proofs.Bools.{bool_cases}
use Rattle.leaves.specs.Find.{leaf_from}
use Rattle.leaves.proofs.FindLaws.{from_hit, from_miss, from_end}
use Rattle.triples.specs.Loops.{span_from, lca_number}

pub span_end : (low : List ℕ) (a nodes b : ℕ) → nodes ≤ b → span_from low a nodes b ≡ b
unfolding span_from
span_end low a nodes b h = from_end (λ w. leb (get_or low w 0) a) nodes b h

pub span_hit : (low : List ℕ) (a nodes b : ℕ) → leb (get_or low b 0) a ≡ true → span_from low a nodes b ≡ b
unfolding span_from
span_hit low a nodes b h = from_hit (λ w. leb (get_or low w 0) a) nodes b h

pub span_miss : (low : List ℕ) (a nodes b : ℕ) → b < nodes → leb (get_or low b 0) a ≡ false
    → span_from low a nodes b ≡ span_from low a nodes (b + 1)
unfolding span_from
span_miss low a nodes b l h = from_miss (λ w. leb (get_or low w 0) a) nodes b l h

-- from the nodes past w to those from w on
pub span_down : (low : List ℕ) (u nodes w later : ℕ) → w < nodes → later ≡ span_from low u nodes (w + 1)
    → cond (leb (get_or low w 0) u) w later ≡ span_from low u nodes w
span_down low u nodes w later h e = go (bool_cases (leb (get_or low w 0) u))
  where
    go : (leb (get_or low w 0) u ≡ true) ⊎ (leb (get_or low w 0) u ≡ false) → cond (leb (get_or low w 0) u) w later ≡ span_from low u nodes w
    go (inl k) = rw (span_hit low u nodes w k, k) refl
    go (inr k) = rw (span_miss low u nodes w h k, k) e

-- a search for less goes on where a search for more stopped
skip : (low : List ℕ) (a v nodes n w : ℕ) → a ≤ v → n ≡ nodes - w
    → span_from low a nodes (leaf_from (λ k. leb (get_or low k 0) v) n w) ≡ span_from low a nodes w
unfolding leaf_from
skip low a v nodes zero w h e = refl
skip low a v nodes (suc n) w h e = go (bool_cases (leb (get_or low w 0) v)) (skip low a v nodes n (suc w) h (omega arith))
  where
    go : (leb (get_or low w 0) v ≡ true) ⊎ (leb (get_or low w 0) v ≡ false)
        → span_from low a nodes (leaf_from (λ k. leb (get_or low k 0) v) n (suc w)) ≡ span_from low a nodes (suc w)
        → span_from low a nodes (cond (leb (get_or low w 0) v) w (leaf_from (λ k. leb (get_or low k 0) v) n (suc w))) ≡ span_from low a nodes w
    go (inl k) ih = rw k refl
    go (inr k) ih =
        let m : w + 1 ≡ suc w = omega arith in
        let p : a < get_or low w 0 = omega (arith, leb-false (get_or low w 0) v k) in
        rw k (ih ∙ sym (span_miss low a nodes w (omega arith) (lt-leb (get_or low w 0) a p) ∙ ap (span_from low a nodes) m))

pub span_skip : (low : List ℕ) (a v nodes w : ℕ) → a ≤ v → span_from low a nodes (span_from low v nodes w) ≡ span_from low a nodes w
unfolding span_from
span_skip low a v nodes w h = skip low a v nodes (nodes - w) w h refl

-- the least common ancestor, seen from one of the leaves
pub lca_after : (low : List ℕ) (nodes u v : ℕ) → u ≤ v → lca_number low nodes u v ≡ span_from low u nodes v
unfolding lca_number
lca_after low nodes u v h =
    let p : min u v ≡ u = omega arith in
    let q : max u v ≡ v = omega arith in
    rw (p, q) refl

pub lca_before : (low : List ℕ) (nodes u v : ℕ) → v < u → lca_number low nodes u v ≡ span_from low v nodes u
unfolding lca_number
lca_before low nodes u v h =
    let p : min u v ≡ v = omega arith in
    let q : max u v ≡ u = omega arith in
    rw (p, q) refl

-- what holds of each entry past w, and of the one stored at w, holds of each from w on
pub store_down : (P : ℕ → ℕ → Type 0) (l : List ℕ) (n w x : ℕ) → w < length l → ((k : ℕ) → w < k → k < n → P k (get_or l k 0)) → P w x
    → (k : ℕ) → w ≤ k → k < n → P k (get_or (set l w x) k 0)
store_down P l n w x h f p k a b = go (bool_cases (eqb k w))
  where
    go : (eqb k w ≡ true) ⊎ (eqb k w ≡ false) → P k (get_or (set l w x) k 0)
    go (inl e) = rw (eqb-true k w e, get_or-set_same l w x 0 h) p
    go (inr e) = rw (get_or-set_other l w k x 0 (eqb-false k w e)) (f k (omega (arith, eqb-false k w e)) b)

-- a search finds something exactly if the first passes or the rest has something
pub some_step : (is : ℕ → Bool) (n k : ℕ) → k < n
    → ltb (leaf_from is (n - k) k) n ≡ (is k || ltb (leaf_from is (n - (k + 1)) (k + 1)) n)
some_step is n k h = go (bool_cases (is k))
  where
    go : (is k ≡ true) ⊎ (is k ≡ false) → ltb (leaf_from is (n - k) k) n ≡ (is k || ltb (leaf_from is (n - (k + 1)) (k + 1)) n)
    go (inl e) = rw (from_hit is n k e, e, lt-ltb k n h) refl
    go (inr e) = rw (from_miss is n k h e, e) refl

pub some_end : (is : ℕ → Bool) (n k : ℕ) → n ≤ k → ltb (leaf_from is (n - k) k) n ≡ false
some_end is n k h = rw (from_end is n k h) (le-ltb k n h)

pub or_assoc : (a b c : Bool) → (a || (b || c)) ≡ ((a || b) || c)
or_assoc true b c = refl
or_assoc false b c = refl

pub or-false : (a : Bool) → (a || false) ≡ a
or-false true = refl
or-false false = refl

-- so each node's entry on its side of u is their least common ancestor
pub on_side_is : (low before after : List ℕ) (nodes u v : ℕ)
    → ((k : ℕ) → k < u → get_or before k 0 ≡ span_from low k nodes u % 256)
    → ((k : ℕ) → u ≤ k → k < nodes → get_or after k 0 ≡ span_from low u nodes k % 256) → v < nodes
    → cond (ltb v u) (get_or before v 0) (get_or after v 0) ≡ lca_number low nodes u v % 256
on_side_is low before after nodes u v f g h = go (bool_cases (ltb v u))
  where
    go : (ltb v u ≡ true) ⊎ (ltb v u ≡ false)
        → cond (ltb v u) (get_or before v 0) (get_or after v 0) ≡ lca_number low nodes u v % 256
    go (inl e) = rw (e, lca_before low nodes u v (ltb-true v u e)) (f v (ltb-true v u e))
    go (inr e) = rw (e, lca_after low nodes u v (omega (arith, ltb-false v u e))) (g v (omega (arith, ltb-false v u e)) h)
