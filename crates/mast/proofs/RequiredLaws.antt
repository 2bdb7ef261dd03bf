-- The ranks that are marked are those of the required labels in label order. Assumes nothing.
use Prim.Native.Nat.{ℕ, zero, suc, ◌+◌, ◌<◌, ◌≤◌}
use mathlib.Core.Path.{◌≡◌, refl, sym, ◌∙◌, ap}
use mathlib.Core.Bool.{Bool, true, false, cond, not}
use mathlib.Core.Logic.{◌⊎◌, inl, inr}
use mathlib.Core.List.{List, [], ◌∷◌, ◌++◌, map, append-nil}
use native.Mathlib.Omega.{arith}
use native.Mathlib.Numerals.{add-one}
use lib.Dec.{eqb}
use lib.ListN.{length, get_or, set, replicate, length-append, length-set, length-replicate, length-map, get_or-append}
use lib.Seq.{get_or_at}
use borrow.Author.Tests.{ne_eqb}
use Rattle.trees.specs.Label.{Label, is_in, distinct}
use Rattle.trees.specs.Tree.{Tree, leaves}
use Rattle.trees.proofs.EntryLaws.{store_next}
use Rattle.trees.proofs.Bools.{bool_cases}
use Rattle.agreement.specs.Closer.{Common}
use Rattle.agreement.specs.Sets.{common, sorted, keep, set_of}
use Rattle.agreement.proofs.SetLaws.{in_sorted, length_sorted, sorted_inc, keep_set, number_of}
use Rattle.agreement.proofs.KeepLaws.{keep_cong}
use Rattle.mast.specs.ListMarks.{ranks_from, Entries, Added}
use Rattle.table.specs.Choice.{Marked}

-- the ranks that are marked

ranks_snoc : (number : List ℕ) (r n : ℕ)
    → ranks_from number r (suc n) ≡ ranks_from number r n ++ cond (eqb (get_or number (r + n) 0) 0) [] ((r + n) ∷ [])
unfolding ranks_from
ranks_snoc number r zero =
    let e : r + 0 ≡ r = omega arith in
    rw e refl
ranks_snoc number r (suc n) = go (eqb (get_or number r 0) 0) (ranks_snoc number (suc r) n)
  where
    e : suc r + n ≡ r + suc n
    e = omega arith

    go : (b : Bool) → ranks_from number (suc r) (suc n) ≡ ranks_from number (suc r) n ++ cond (eqb (get_or number (suc r + n) 0) 0) [] ((suc r + n) ∷ [])
        → cond b (ranks_from number (suc r) (suc n)) (r ∷ ranks_from number (suc r) (suc n))
        ≡ cond b (ranks_from number (suc r) n) (r ∷ ranks_from number (suc r) n) ++ cond (eqb (get_or number (r + suc n) 0) 0) [] ((r + suc n) ∷ [])
    go true ih = ih ∙ (rw e refl)
    go false ih = ap (◌∷◌ r) (ih ∙ (rw e refl))

ranks_few : (number : List ℕ) (r n : ℕ) → length (ranks_from number r n) ≤ n
unfolding ranks_from
ranks_few number r zero = omega arith
ranks_few number r (suc n) = go (eqb (get_or number r 0) 0) (ranks_few number (suc r) n)
  where
    go : (b : Bool) → length (ranks_from number (suc r) n) ≤ n → length (cond b (ranks_from number (suc r) n) (r ∷ ranks_from number (suc r) n)) ≤ suc n
    go true h = omega arith
    go false h = omega arith

pub record RanksTo (number : List ℕ) (r n : ℕ) (ranks : List ℕ) : Type 0 where
  pub size : length ranks ≡ 80
  pub low : n ≤ r
  pub count : n ≡ length (ranks_from number 0 r)
  pub entries : Entries (ranks_from number 0 r) ranks

pub ranks_none : (number : List ℕ) → RanksTo number 0 0 (replicate 80 0)
unfolding ranks_from
ranks_none number = record {
  size = length-replicate {A = ℕ} 80 0;
  low = omega arith;
  count = refl;
  entries = record { each = λ i h. absurd (omega arith) };
}

pub ranks_next : (number : List ℕ) (r n k : ℕ) (old new : List ℕ) → r < 80 → RanksTo number r n old → Added n (get_or number r 0) r old k new
    → RanksTo number (r + 1) k new
ranks_next number r n k old new small t a = go (eqb (get_or number r 0) 0) refl a.count a.stored
  where
    z : 0 + r ≡ r
    z = omega arith

    more : (b : Bool) → eqb (get_or number r 0) 0 ≡ b → ranks_from number 0 (r + 1) ≡ ranks_from number 0 r ++ cond b [] (r ∷ [])
    more b e = ap (ranks_from number 0) (add-one r) ∙ ranks_snoc number 0 r ∙ (rw (z, e) refl)

    go : (b : Bool) → eqb (get_or number r 0) 0 ≡ b → k ≡ cond b n (n + 1) → new ≡ cond b old (set old n r) → RanksTo number (r + 1) k new
    go true e kc nc =
        let same : ranks_from number 0 (r + 1) ≡ ranks_from number 0 r = more true e ∙ append-nil (ranks_from number 0 r) in
        rw (kc, nc) (record {
          size = t.size;
          low = omega (arith, t.low);
          count = t.count ∙ ap (length {A = ℕ}) (sym same);
          entries = rw same t.entries;
        })
    go false e kc nc =
        let grown = more false e in
        let len : length (ranks_from number 0 (r + 1)) ≡ n + 1 = ap (length {A = ℕ}) grown ∙ length-append (ranks_from number 0 r) (r ∷ []) ∙ omega (arith, t.count) in
        rw (kc, nc) (record {
          size = length-set old n r ∙ t.size;
          low = omega (arith, t.low);
          count = sym len;
          entries = record { each = λ i h. rw grown (at i (omega (arith, len))) };
        })
      where
        at : (i : ℕ) → i < n + 1 → get_or (set old n r) i 0 ≡ get_or (ranks_from number 0 r ++ (r ∷ [])) i 0
        at =
            store_next (λ i x. x ≡ get_or (ranks_from number 0 r ++ (r ∷ [])) i 0) old n r (omega (arith, t.size, t.low))
            (λ i less.
            let l : i < length (ranks_from number 0 r) = omega (arith, t.count) in
            t.entries.each i l ∙ sym (get_or-append (ranks_from number 0 r) (r ∷ []) 0 i l))
            (sym (get_or_at (ranks_from number 0 r) r [] 0 n (sym t.count)))

-- their labels are the required ones
labels_kept : (K : List Label) (number : List ℕ) (f : ℕ → Label) (cs : List Label) (r : ℕ)
    → ((i : ℕ) → i < length cs → f (r + i) ≡ get_or cs i [])
    → ((i : ℕ) → i < length cs → eqb (get_or number (r + i) 0) 0 ≡ not (is_in (get_or cs i []) K))
    → map f (ranks_from number r (length cs)) ≡ keep (set_of K) cs
unfolding ranks_from keep
labels_kept K number f [] r is marked = refl
labels_kept K number f (c ∷ cs) r is marked =
    go (is_in c K) (ap (λ (i : ℕ). eqb (get_or number i 0) 0) (sym z) ∙ marked 0 (omega arith)) (ap f (sym z) ∙ is 0 (omega arith))
    (labels_kept K number f cs (suc r) (λ i h. ap f (shift i) ∙ is (suc i) (omega arith))
    (λ i h. ap (λ (j : ℕ). eqb (get_or number j 0) 0) (shift i) ∙ marked (suc i) (omega arith)))
  where
    z : r + 0 ≡ r
    z = omega arith

    shift : (i : ℕ) → suc r + i ≡ r + suc i
    shift i = omega arith

    go : (b : Bool) → eqb (get_or number r 0) 0 ≡ not b → f r ≡ c → map f (ranks_from number (suc r) (length cs)) ≡ keep (set_of K) cs
        → map f (cond (eqb (get_or number r 0) 0) (ranks_from number (suc r) (length cs)) (r ∷ ranks_from number (suc r) (length cs)))
        ≡ cond b (c ∷ keep (set_of K) cs) (keep (set_of K) cs)
    go true e d ih = rw (e, ih, d) refl
    go false e d ih = rw (e, ih) refl

at_map : (f : ℕ → Label) (xs : List ℕ) (i : ℕ) → i < length xs → get_or (map f xs) i [] ≡ f (get_or xs i 0)
at_map f [] i h = absurd (omega arith)
at_map f (x ∷ xs) zero h = refl
at_map f (x ∷ xs) (suc i) h = at_map f xs i (omega arith)

ranks_low : (number : List ℕ) (r n i : ℕ) → i < length (ranks_from number r n) → get_or (ranks_from number r n) i 0 < r + n
unfolding ranks_from
ranks_low number r zero i h = absurd (omega arith)
ranks_low number r (suc n) i h = go (eqb (get_or number r 0) 0) i h (ranks_low number (suc r) n)
  where
    go : (b : Bool) (i : ℕ) → i < length (cond b (ranks_from number (suc r) n) (r ∷ ranks_from number (suc r) n))
        → ((j : ℕ) → j < length (ranks_from number (suc r) n) → get_or (ranks_from number (suc r) n) j 0 < suc r + n)
        → get_or (cond b (ranks_from number (suc r) n) (r ∷ ranks_from number (suc r) n)) i 0 < r + suc n
    go true i h f = omega (arith, f i h)
    go false zero h f = omega arith
    go false (suc i) h f = omega (arith, f i (omega arith))

module _ (s t : Tree) (K : List Label) (number : List ℕ) (ds : distinct (leaves s) ≡ true) (dk : distinct K ≡ true) (held : Common s t (set_of K))
    (marked : Marked (common s t) K number) where
  abbrev C : List Label
  C = common s t

  abbrev R : List ℕ
  R = ranks_from number 0 (length (common s t))

  labels_sorted : map (λ (q : ℕ). get_or (common s t) q []) R ≡ sorted K
  labels_sorted =
      labels_kept K number (λ (q : ℕ). get_or C q []) C 0 (λ i h. let z : 0 + i ≡ i = omega arith in rw z refl)
      (λ i h. let z : 0 + i ≡ i = omega arith in rw z (test i h (bool_cases (is_in (get_or C i []) K))))
      ∙ keep_cong (set_of K) (set_of (sorted K)) C (λ x m. sym (in_sorted x K))
      ∙ keep_set s t (sorted K) ds (sorted_inc K dk) (λ x m. held x (sym (in_sorted x K) ∙ m))
    where
      test : (i : ℕ) → i < length C → (is_in (get_or C i []) K ≡ true) ⊎ (is_in (get_or C i []) K ≡ false)
          → eqb (get_or number i 0) 0 ≡ not (is_in (get_or C i []) K)
      test i h (inl m) =
          let k = number_of K (get_or C i []) m in
          rw (m, marked.held i k.at h k.below (sym k.is)) (ne_eqb (suc k.at) 0 (omega arith))
      test i h (inr m) = rw (m, marked.other i h m) refl

  pub ranks_count : length R ≡ length K
  ranks_count = sym (length-map R (λ (q : ℕ). get_or C q [])) ∙ ap length labels_sorted ∙ length_sorted K

  -- the rank of label i of the required ones, in label order
  pub rank_label : (i : ℕ) → i < length K → get_or C (get_or R i 0) [] ≡ get_or (sorted K) i []
  rank_label i h = sym (at_map (λ (q : ℕ). get_or C q []) R i (omega (arith, ranks_count))) ∙ ap (λ (l : List Label). get_or l i []) labels_sorted

  pub rank_low : (i : ℕ) → i < length K → get_or R i 0 < length C
  rank_low i h = omega (arith, ranks_low number 0 (length C) i (omega (arith, ranks_count)))
