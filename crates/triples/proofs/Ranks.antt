-- The labels of a list's text, their places and their ranks: counting the labels that come before sorts the list. Assumes nothing.
use Prim.Native.Nat.{ℕ, zero, suc, ◌+◌, ◌-◌, ◌<◌}
use mathlib.Core.Path.{◌≡◌, refl, sym, ◌∙◌, ap, ap₂, subst}
use mathlib.Core.Bool.{Bool, true, false, cond}
use mathlib.Core.List.{List, [], ◌∷◌, ◌++◌, append_assoc, append-nil, map}
use native.Mathlib.Omega.{arith}
use lib.ListN.{length, get_or, length-append, length-map, replicate, get_or-append}
use Rattle.trees.specs.Label.{Label, label_less, same_label, is_in, distinct}
use Rattle.trees.specs.Token.{Token, spelling}
use Rattle.trees.specs.Stored.{part_of}
use Rattle.trees.proofs.Bools.{clash}
use Rattle.trees.proofs.LabelLaws.{less_irrefl, less_asym, same_refl, ne_same}
use Rattle.trees.proofs.RelabelLaws.{map_at}
use Rattle.trees.proofs.ListLaws.{at_in, distinct_head, distinct_tail}
use Rattle.lists.specs.ReadList.{joined, starts_of, sizes_of, places_of, list_limit}
use Rattle.trees.proofs.AmongLaws.{part_here}
use Rattle.lists.proofs.ListPlaces.{length_starts, length_sizes}
use Rattle.agreement.specs.Sets.{insert, sorted, increasing}
use Rattle.agreement.specs.Places.{place_of_number, place_of_label}
use Rattle.agreement.proofs.SetLaws.{in_head, in_tail, inc_head, inc_tail, in_sorted, sorted_inc, length_sorted, HasNumber, number_of}
use Rattle.triples.specs.Loops.{label_in, less_count, rank_in, InOrder}

-- a token in a text
part_own : (xs : List Token) (before : List ℕ) (p k : ℕ) → p ≡ length before → k < length xs
    → part_of (get_or (starts_of xs p) k 0) (get_or (sizes_of xs) k 0) (before ++ joined xs) ≡ get_or xs k []
unfolding starts_of sizes_of joined
part_own [] before p k e h = absurd (omega arith)
part_own (x ∷ []) before p zero e h =
    subst (λ (l : List ℕ). part_of p (length x) (before ++ l) ≡ x) (append-nil x) (part_here before x [] p e)
part_own (x ∷ []) before p (suc k) e h = absurd (omega arith)
part_own (x ∷ y ∷ ys) before p zero e h = part_here before x (44 ∷ joined (y ∷ ys)) p e
part_own (x ∷ y ∷ ys) before p (suc k) e h =
    let past : p + length x + 1 ≡ length (before ++ (x ++ (44 ∷ []))) = simp length-append (omega arith) in
    let there : (before ++ (x ++ (44 ∷ []))) ++ joined (y ∷ ys) ≡ before ++ (x ++ (44 ∷ joined (y ∷ ys))) = simp append_assoc in
    rw (← there) (part_own (y ∷ ys) (before ++ (x ++ (44 ∷ []))) (p + length x + 1) k past (omega arith))

module _ (xs : List Token) (k : ℕ) (h : k < length xs) where
  pub start_at : get_or (places_of xs).start k 0 ≡ get_or (starts_of xs 0) k 0
  unfolding places_of
  start_at =
      get_or-append (starts_of xs 0) (replicate (list_limit - length (starts_of xs 0)) 0) 0 k (omega (arith, length_starts xs 0))

  size_at : get_or (places_of xs).size k 0 ≡ get_or (sizes_of xs) k 0
  unfolding places_of
  size_at =
      get_or-append (sizes_of xs) (replicate (list_limit - length (sizes_of xs)) 0) 0 k (omega (arith, length_sizes xs))

  pub label_at : label_in (joined xs) (places_of xs).start (places_of xs).size k ≡ get_or (map spelling xs) k []
  unfolding label_in
  label_at = rw (start_at, size_at) (ap spelling (part_own xs [] 0 k refl h) ∙ sym (map_at spelling xs k [] [] h))

  -- the part of the list's text
  pub part_at : spelling (part_of (get_or (places_of xs).start k 0) (get_or (places_of xs).size k 0) (joined xs)) ≡ get_or (map spelling xs) k []
  unfolding label_in
  part_at = label_at

-- the place of a label is where its number's token starts
place_at : (xs : List Token) (p k : ℕ) → distinct (map spelling xs) ≡ true → k < length xs
    → get_or (starts_of xs p) k 0 ≡ place_of_label xs p (get_or (map spelling xs) k [])
unfolding starts_of place_of_label
place_at [] p k d h = absurd (omega arith)
place_at (x ∷ xs) p zero d h = rw (same_refl (spelling x)) refl
place_at (x ∷ xs) p (suc k) d h =
    let l : k < length xs = omega arith in
    let ys = map spelling xs in
    let other : same_label (get_or ys k []) (spelling x) ≡ false =
    ne_same (get_or ys k []) (spelling x)
    (λ (e : get_or ys k [] ≡ spelling x).
    clash (subst (λ (y : Label). is_in y ys ≡ true) e (at_in ys k (omega (arith, length-map xs spelling)))) (distinct_head (spelling x) ys d)) in
    rw other (place_at xs (p + length x + 1) k (distinct_tail (spelling x) ys d) l)

pub place_of : (xs : List Token) (k : ℕ) → distinct (map spelling xs) ≡ true → k < length xs
    → get_or (places_of xs).start k 0 ≡ place_of_label xs 0 (get_or (map spelling xs) k [])
place_of xs k d h = start_at xs k h ∙ place_at xs 0 k d h

pub place_number : (xs : List Token) (k : ℕ) → k < length xs → get_or (places_of xs).start k 0 ≡ place_of_number xs k
unfolding place_of_number
place_number xs k h = start_at xs k h

-- how many labels of a list come before x
count_less : Label → List Label → ℕ
count_less x [] = 0
count_less x (y ∷ ys) = cond (label_less y x) 1 0 + count_less x ys

count_front : (f : ℕ → Label) (x : Label) (n : ℕ)
    → less_count f x (suc n) ≡ cond (label_less (f 0) x) 1 0 + less_count (λ k. f (suc k)) x n
unfolding less_count
count_front f x zero = omega arith
count_front f x (suc n) = omega (arith, count_front f x n)

count_list : (f : ℕ → Label) (xs : List Label) (x : Label) → ((k : ℕ) → k < length xs → f k ≡ get_or xs k [])
    → less_count f x (length xs) ≡ count_less x xs
unfolding less_count count_less
count_list f [] x e = refl
count_list f (y ∷ ys) x e =
    count_front f x (length ys)
    ∙ ap₂ (λ (z : Label) (n : ℕ). cond (label_less z x) 1 0 + n) (e 0 (omega arith))
    (count_list (λ k. f (suc k)) ys x (λ k h. e (suc k) (omega arith)))

count_insert : (x y : Label) (ys : List Label) → count_less x (insert y ys) ≡ count_less x (y ∷ ys)
unfolding count_less insert
count_insert x y [] = refl
count_insert x y (z ∷ zs) = go (label_less y z) (count_insert x y zs)
  where
    go : (b : Bool) → count_less x (insert y zs) ≡ count_less x (y ∷ zs)
        → count_less x (cond b (y ∷ z ∷ zs) (z ∷ insert y zs)) ≡ count_less x (y ∷ z ∷ zs)
    go true ih = refl
    go false ih = omega (arith, ih)

count_sorted : (x : Label) (xs : List Label) → count_less x (sorted xs) ≡ count_less x xs
unfolding count_less sorted
count_sorted x [] = refl
count_sorted x (y ∷ ys) = count_insert x y (sorted ys) ∙ ap (λ (n : ℕ). cond (label_less y x) 1 0 + n) (count_sorted x ys)

count_none : (x : Label) (ys : List Label) → ((z : Label) → is_in z ys ≡ true → label_less x z ≡ true) → count_less x ys ≡ 0
unfolding count_less
count_none x [] f = refl
count_none x (y ∷ ys) f =
    rw (less_asym x y (f y (in_head y ys)), count_none x ys (λ z m. f z (in_tail z y ys m))) (omega arith)

-- in label order it is the position
count_position : (C : List Label) (r : ℕ) → increasing C ≡ true → r < length C → count_less (get_or C r []) C ≡ r
unfolding count_less
count_position [] r i h = absurd (omega arith)
count_position (c ∷ cs) zero i h = rw (less_irrefl c, count_none c cs (inc_head c cs i)) (omega arith)
count_position (c ∷ cs) (suc r) i h =
    let l : r < length cs = omega arith in
    rw (inc_head c cs i (get_or cs r []) (at_in cs r l), count_position cs r (inc_tail c cs i) l) (omega arith)

module _ (xs : List Label) (d : distinct xs ≡ true) (text start size : List ℕ) (count : ℕ) (len : count ≡ length xs)
    (shown : (k : ℕ) → k < length xs → label_in text start size k ≡ get_or xs k []) where
  -- a label at position r of the sorted list has rank r
  rank_is : (k r : ℕ) → k < length xs → r < length xs → get_or xs k [] ≡ get_or (sorted xs) r [] → rank_in text start size count k ≡ r
  unfolding rank_in
  rank_is k r h l e =
      rw (len, shown k h, e)
      (count_list (label_in text start size) xs (get_or (sorted xs) r []) shown
      ∙ sym (count_sorted (get_or (sorted xs) r []) xs)
      ∙ count_position (sorted xs) r (sorted_inc xs d) (omega (arith, length_sorted xs)))

  -- so the numbers in label order are those of the sorted labels
  pub order_sorted : (order : List ℕ) → InOrder (rank_in text start size count) count count order → (r : ℕ) → r < length xs
      → (get_or order r 0 < length xs) × (get_or xs (get_or order r 0) [] ≡ get_or (sorted xs) r [])
  order_sorted order f r h = (omega (arith, g.0), shows)
    where
      m : HasNumber xs (get_or (sorted xs) r [])
      m =
          number_of xs (get_or (sorted xs) r [])
          (sym (in_sorted (get_or (sorted xs) r []) xs) ∙ at_in (sorted xs) r (omega (arith, length_sorted xs)))

      e : rank_in text start size count m.at ≡ r
      e = rank_is m.at r m.below h m.is

      g : (get_or order r 0 < count) × (rank_in text start size count (get_or order r 0) ≡ r)
      g =
          subst (λ (n : ℕ). (get_or order n 0 < count) × (rank_in text start size count (get_or order n 0) ≡ n)) e
          (f m.at (omega (arith, len, m.below)))

      low : get_or order r 0 < length xs
      low = omega (arith, len, g.0)

      q : HasNumber (sorted xs) (get_or xs (get_or order r 0) [])
      q = number_of (sorted xs) (get_or xs (get_or order r 0) []) (in_sorted (get_or xs (get_or order r 0) []) xs ∙ at_in xs (get_or order r 0) low)

      same : q.at ≡ r
      same = sym (rank_is (get_or order r 0) q.at low (omega (arith, q.below, length_sorted xs)) (sym q.is)) ∙ g.1

      shows : get_or xs (get_or order r 0) [] ≡ get_or (sorted xs) r []
      shows = sym q.is ∙ ap (λ (n : ℕ). get_or (sorted xs) n []) same
