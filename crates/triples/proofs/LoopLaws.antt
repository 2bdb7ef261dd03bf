-- Steps of the loops: counting, storing and searching. Assumes nothing.
use Prim.Native.Nat.{ℕ, zero, suc, ◌+◌, ◌-◌, ◌<◌, ◌≤◌}
use mathlib.Core.Path.{◌≡◌, refl, sym, ◌∙◌, ap}
use mathlib.Core.Bool.{Bool, true, false, cond}
use mathlib.Core.Logic.{◌⊎◌, inl, inr}
use mathlib.Core.List.{List}
use native.Mathlib.Omega.{arith}
use Rattle.std.specs.Prelude.{Option, None, is_some, Ok, Err}
use native.Mathlib.Numerals.{add-one}
use lib.Dec.{eqb, ltb}
use lib.ListN.{length, get_or, set, replicate}
use lib.Seq.{get_or-set_same, get_or-set_other}
use borrow.Author.Tests.{eqb-true, eqb-false, ltb-true}
use Rattle.trees.specs.Label.{Label, label_less}
use Rattle.trees.specs.declared.Reason.TheVariants.{FirstLacks, SecondLacks}
use Rattle.trees.specs.declared.Body.TheVariants.{K}
use Rattle.trees.proofs.EntryLaws.{filled_at}
use Rattle.trees.proofs.Bools.{bool_cases}
use Rattle.trees.proofs.LabelLaws.{less_irrefl}
use Rattle.leaves.specs.Find.{leaf_from}
use Rattle.triples.specs.Loops.{label_in, less_count, rank_in, lack_from, InOrder, LowAt}

-- counting
one_or_none : (b : Bool) → cond b 1 0 ≤ 1
one_or_none true = omega arith
one_or_none false = omega arith

pub less_count_next : (f : ℕ → Label) (x : Label) (n : ℕ) → less_count f x (n + 1) ≡ less_count f x n + cond (label_less (f n) x) 1 0
unfolding less_count
less_count_next f x n = rw (add-one n) refl

pub less_count_few : (f : ℕ → Label) (x : Label) (n : ℕ) → less_count f x n ≤ n
unfolding less_count
less_count_few f x zero = omega arith
less_count_few f x (suc n) = omega (arith, less_count_few f x n, one_or_none (label_less (f n) x))

pub count_fits : (f : ℕ → Label) (x : Label) (n r b : ℕ) → r ≡ less_count f x n → b ≡ cond (label_less (f n) x) 1 0 → r + b ≤ n + 1
count_fits f x n r b e d = omega (arith, e, d, less_count_few f x n, one_or_none (label_less (f n) x))

-- a label does not come before itself
pub less_count_below : (f : ℕ → Label) (k n : ℕ) → k < n → less_count f (f k) n < n
unfolding less_count
less_count_below f k zero h = absurd (omega arith)
less_count_below f k (suc n) h = go (bool_cases (eqb k n)) (λ l. less_count_below f k n l)
  where
    go : (eqb k n ≡ true) ⊎ (eqb k n ≡ false) → (k < n → less_count f (f k) n < n)
        → less_count f (f k) n + cond (label_less (f n) (f k)) 1 0 < suc n
    go (inl e) ih = rw (eqb-true k n e, less_irrefl (f n)) (omega (arith, less_count_few f (f n) n))
    go (inr e) ih = omega (arith, ih (omega (arith, eqb-false k n e)), one_or_none (label_less (f n) (f k)))

-- the first node below each node: earlier entries stay as they are
low_same : (left low : List ℕ) (u x n : ℕ) → u < n → LowAt left low u → LowAt left (set low n x) u
low_same left low u x n h e = go (bool_cases (ltb (get_or left u 0) u))
  where
    go : (ltb (get_or left u 0) u ≡ true) ⊎ (ltb (get_or left u 0) u ≡ false) → LowAt left (set low n x) u
    go (inl k) =
        let l = ltb-true (get_or left u 0) u k in
        get_or-set_other low n u x 0 (λ (z : u ≡ n). omega arith)
        ∙ e
        ∙ rw k (sym (get_or-set_other low n (get_or left u 0) x 0 (λ (z : get_or left u 0 ≡ n). omega arith)))
    go (inr k) = get_or-set_other low n u x 0 (λ (z : u ≡ n). omega arith) ∙ e ∙ rw k refl

low_new : (left low : List ℕ) (u x : ℕ) → u < length low
    → x ≡ cond (ltb (get_or left u 0) u) (get_or low (get_or left u 0) 0) u → LowAt left (set low u x) u
low_new left low u x h e = go (bool_cases (ltb (get_or left u 0) u))
  where
    go : (ltb (get_or left u 0) u ≡ true) ⊎ (ltb (get_or left u 0) u ≡ false) → LowAt left (set low u x) u
    go (inl k) =
        let l = ltb-true (get_or left u 0) u k in
        get_or-set_same low u x 0 h
        ∙ e
        ∙ rw k (sym (get_or-set_other low u (get_or left u 0) x 0 (λ (z : get_or left u 0 ≡ u). omega arith)))
    go (inr k) = get_or-set_same low u x 0 h ∙ e ∙ rw k refl

pub low_next : (left low : List ℕ) (n x : ℕ) → n < length low → ((u : ℕ) → u < n → LowAt left low u)
    → x ≡ cond (ltb (get_or left n 0) n) (get_or low (get_or left n 0) 0) n → (u : ℕ) → u < n + 1 → LowAt left (set low n x) u
low_next left low n x h f e u less = go (bool_cases (eqb u n))
  where
    go : (eqb u n ≡ true) ⊎ (eqb u n ≡ false) → LowAt left (set low n x) u
    go (inl k) = rw (eqb-true u n k) (low_new left low n x h e)
    go (inr k) = low_same left low u x n (omega (arith, eqb-false u n k)) (f u (omega (arith, eqb-false u n k)))

-- label order: an entry stored at a rank is a label of that rank
pub order_next : (rank : ℕ → ℕ) (count n r : ℕ) (order : List ℕ) → n < count → r ≡ rank n → r < length order
    → InOrder rank count n order → InOrder rank count (n + 1) (set order r n)
order_next rank count n r order h d l f k less = go (bool_cases (eqb (rank k) r))
  where
    go : (eqb (rank k) r ≡ true) ⊎ (eqb (rank k) r ≡ false)
        → (get_or (set order r n) (rank k) 0 < count) × (rank (get_or (set order r n) (rank k) 0) ≡ rank k)
    go (inl e) = rw (eqb-true (rank k) r e, get_or-set_same order r n 0 l) (h, sym d)
    go (inr e) =
        rw (get_or-set_other order r (rank k) n 0 (eqb-false (rank k) r e)) (f k (earlier (bool_cases (eqb k n))))
      where
        earlier : (eqb k n ≡ true) ⊎ (eqb k n ≡ false) → k < n
        earlier (inl z) = absurd (eqb-false (rank k) r e (ap rank (eqb-true k n z) ∙ sym d))
        earlier (inr z) = omega (arith, eqb-false k n z)

-- entries stay below a bound
pub set_low : (l : List ℕ) (n x m : ℕ) → n < length l → ((i : ℕ) → get_or l i 0 < m) → x < m → (i : ℕ) → get_or (set l n x) i 0 < m
set_low l n x m h f p i = go (bool_cases (eqb i n))
  where
    go : (eqb i n ≡ true) ⊎ (eqb i n ≡ false) → get_or (set l n x) i 0 < m
    go (inl e) = rw (eqb-true i n e, get_or-set_same l n x 0 h) p
    go (inr e) = rw (get_or-set_other l n i x 0 (eqb-false i n e)) (f i)

pub zeros_low : (n m : ℕ) → 0 < m → (i : ℕ) → get_or (replicate n 0) i 0 < m
zeros_low n m h i = rw (filled_at {A = ℕ} 0 n i) h

-- the search for a label that a tree lacks
module _ (leaf1 leaf2 : List (Option ℕ)) (start : List ℕ) (count k : ℕ) where
  more : k < count → count - k ≡ suc (count - (k + 1))
  more h = omega arith

  pub lack_one : k < count → is_some (get_or leaf1 k None) ≡ false
      → lack_from leaf1 leaf2 start (count - k) k ≡ Err (record { reason = FirstLacks; body = K; place = get_or start k 0 })
  unfolding lack_from
  lack_one h l = rw (more h, l) refl

  pub lack_two : k < count → is_some (get_or leaf1 k None) ≡ true → is_some (get_or leaf2 k None) ≡ false
      → lack_from leaf1 leaf2 start (count - k) k ≡ Err (record { reason = SecondLacks; body = K; place = get_or start k 0 })
  unfolding lack_from
  lack_two h l m = rw (more h, l, m) refl

  pub lack_next : k < count → is_some (get_or leaf1 k None) ≡ true → is_some (get_or leaf2 k None) ≡ true
      → lack_from leaf1 leaf2 start (count - k) k ≡ lack_from leaf1 leaf2 start (count - (k + 1)) (k + 1)
  unfolding lack_from
  lack_next h l m = rw (more h, l, m, add-one k) refl

  pub lack_end : count ≤ k → lack_from leaf1 leaf2 start (count - k) k ≡ Ok (Prim.tt {0})
  unfolding lack_from
  lack_end h =
      let e : count - k ≡ 0 = omega arith in
      rw e refl

pub rank_below : (text start size : List ℕ) (count k : ℕ) → k < count → rank_in text start size count k < count
unfolding rank_in
rank_below text start size count k h = less_count_below (label_in text start size) k count h

-- a search that goes up stops at the first number that passes, or passes none
pub data FirstHit (is : ℕ → Bool) (n u r : ℕ) : Type 0 where
  hit : u ≤ r → r < u + n → is r ≡ true → ((k : ℕ) → u ≤ k → k < r → is k ≡ false) → FirstHit is n u r
  none : r ≡ u + n → ((k : ℕ) → u ≤ k → k < u + n → is k ≡ false) → FirstHit is n u r

pub first_hit : (is : ℕ → Bool) (n u : ℕ) → FirstHit is n u (leaf_from is n u)
unfolding leaf_from
first_hit is zero u = none (omega arith) (λ k h l. absurd (omega arith))
first_hit is (suc n) u = go (is u) refl (first_hit is n (suc u))
  where
    from_here : is u ≡ false → (m : ℕ) → ((k : ℕ) → suc u ≤ k → k < m → is k ≡ false) → (k : ℕ) → u ≤ k → k < m → is k ≡ false
    from_here e m f k h l = at (bool_cases (eqb k u))
      where
        at : (eqb k u ≡ true) ⊎ (eqb k u ≡ false) → is k ≡ false
        at (inl z) = rw (eqb-true k u z) e
        at (inr z) = f k (omega (arith, eqb-false k u z)) l

    go : (b : Bool) → is u ≡ b → FirstHit is n (suc u) (leaf_from is n (suc u))
        → FirstHit is (suc n) u (cond b u (leaf_from is n (suc u)))
    go true e s = hit (omega arith) (omega arith) e (λ k h l. absurd (omega arith))
    go false e (hit h l i f) = hit (omega arith) (omega arith) i (from_here e (leaf_from is n (suc u)) f)
    go false e (none h f) =
        none (omega arith) (λ k p q. from_here e (suc u + n) f k p (omega arith))
