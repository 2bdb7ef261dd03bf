-- The first label of a list that another lacks, by the definition and by the numbers that ranks have in both lists. Assumes nothing.
use Prim.Native.Nat.{ℕ, zero, suc, ◌+◌, ◌-◌, ◌<◌, ◌≤◌, min}
use mathlib.Core.Path.{◌≡◌, refl, sym, ◌∙◌, ap, subst}
use mathlib.Core.Bool.{Bool, true, false, cond}
use mathlib.Core.List.{List, [], ◌∷◌}
use mathlib.Core.Logic.{◌⊎◌, inl, inr, ◌↔◌}
use mathlib.Core.Option.{Option, some, none}
use native.Mathlib.Omega.{arith}
use lib.Dec.{eqb, ltb}
use Rattle.std.specs.Prelude.{Some, None}
use lib.ListN.{length, get_or, length-map}
use borrow.Author.Tests.{eqb-true, eqb-false, ltb-true, ltb-false, lt-ltb, le-ltb}
use Rattle.trees.specs.declared.TreeArrays.{TreeArrays}
use Rattle.trees.specs.declared.Edition.{Edition}
use Rattle.trees.specs.Edition.{folded, keyed}
use Rattle.trees.specs.Label.{Label, is_in}
use Rattle.trees.specs.Token.{Token, spelling}
use Rattle.trees.specs.Tree.{Tree}
use Rattle.trees.proofs.Bools.{bool_cases, clash}
use Rattle.trees.proofs.ListLaws.{at_in}
use Rattle.lists.specs.declared.LabelPlaces.{LabelPlaces}
use Rattle.lists.specs.ReadList.{folded_list, keys_of}
use Rattle.agreement.specs.Sets.{common, set_of}
use Rattle.agreement.specs.Closer.{Common}
use Rattle.agreement.specs.Places.{place_of_number}
use Rattle.agreement.proofs.PlaceLaws.{number_folded}
use Rattle.agreement.proofs.SetLaws.{number_of, common_in}
use Rattle.table.specs.Choice.{Marked}
use Rattle.triples.proofs.Ranks.{place_number}
use Rattle.pairs.specs.declared.CommonOrder.{CommonOrder}
use Rattle.std.proofs.lemmas.Option.{none-some, same_Some}
use Rattle.mast.specs.ListMarks.{nearer_of, least_missing}
use Rattle.triples.specs.Loops.{below}
use Rattle.queries.specs.RankedList.{AskedOf}
use Rattle.mast.specs.Compare.{missing, IsMissing, place_if}
use Rattle.mast.specs.Settled.{lacked_at}

-- ---- the first label of a list that another lacks

-- with n labels before L
abbrev pub MissingIs : List Label → List Label → ℕ → Option ℕ → Type 0
MissingIs L Y n none = (k : ℕ) → k < length L → is_in (get_or L k []) Y ≡ true
MissingIs L Y n (some j) = (i : ℕ) × (j ≡ n + i) × IsMissing L Y i

pub missing_is : (L Y : List Label) (n : ℕ) → MissingIs L Y n (missing L Y n)
unfolding missing
missing_is [] Y n = λ k l. absurd (omega arith)
missing_is (x ∷ xs) Y n = go (is_in x Y) refl (missing xs Y (suc n)) (missing_is xs Y (suc n))
  where
    go : (b : Bool) → is_in x Y ≡ b → (o : Option ℕ) → MissingIs xs Y (suc n) o → MissingIs (x ∷ xs) Y n (cond b o (some n))
    go true e none f = all
      where
        all : (k : ℕ) → k < suc (length xs) → is_in (get_or (x ∷ xs) k []) Y ≡ true
        all zero l = e
        all (suc k) l = f k (omega arith)
    go true e (some j) f = (suc f.0, omega (arith, f.1), record { in_list = omega (arith, f.2.in_list); earlier = before; lacked = f.2.lacked })
      where
        before : (k : ℕ) → k < suc f.0 → is_in (get_or (x ∷ xs) k []) Y ≡ true
        before zero l = e
        before (suc k) l = f.2.earlier k (omega arith)
    go false e o f = (0, omega arith, record { in_list = omega arith; earlier = λ k l. absurd (omega arith); lacked = e })

-- with none before it
abbrev pub Missed : List Label → List Label → Option ℕ → Type 0
Missed L Y none = (x : Label) → is_in x L ≡ true → is_in x Y ≡ true
Missed L Y (some n) = IsMissing L Y n

pub missed_is : (L Y : List Label) → Missed L Y (missing L Y 0)
missed_is L Y = go (missing L Y 0) (missing_is L Y 0)
  where
    go : (o : Option ℕ) → MissingIs L Y 0 o → Missed L Y o
    go none f = λ x h. let n = number_of L x h in ap (λ (y : Label). is_in y Y) (sym n.is) ∙ f n.at n.below
    go (some j) f = let e : f.0 ≡ j = omega (arith, f.1) in rw e at f.2

missing_once : (L Y : List Label) (m n : ℕ) → IsMissing L Y m → IsMissing L Y n → m ≡ n
missing_once L Y m n p q = go (bool_cases (ltb m n)) (bool_cases (ltb n m))
  where
    go : (ltb m n ≡ true) ⊎ (ltb m n ≡ false) → (ltb n m ≡ true) ⊎ (ltb n m ≡ false) → m ≡ n
    go (inl h) k = clash (q.earlier m (ltb-true m n h)) p.lacked
    go (inr h) (inl k) = clash (p.earlier n (ltb-true n m k)) q.lacked
    go (inr h) (inr k) = omega (arith, ltb-false m n h, ltb-false n m k)

pub one_missing : (L Y : List Label) (n : ℕ) → IsMissing L Y n → missing L Y 0 ≡ some n
one_missing L Y n p = go (missing L Y 0) (missed_is L Y)
  where
    go : (o : Option ℕ) → Missed L Y o → o ≡ some n
    go none f = clash (f (get_or L n []) (at_in L n p.in_list)) p.lacked
    go (some m) f = ap some (missing_once L Y m n f p)

pub none_missing : (L Y : List Label) → ((x : Label) → is_in x L ≡ true → is_in x Y ≡ true) → missing L Y 0 ≡ none
none_missing L Y f = go (missing L Y 0) (missed_is L Y)
  where
    go : (o : Option ℕ) → Missed L Y o → o ≡ none
    go none g = refl
    go (some m) g = clash (f (get_or L m []) (at_in L m g.in_list)) g.lacked

pub missing_exactly : (L Y : List Label) (n : ℕ) → (missing L Y 0 ≡ some n) ↔ IsMissing L Y n
missing_exactly L Y n = (λ (e : missing L Y 0 ≡ some n). subst (Missed L Y) e (missed_is L Y), one_missing L Y n)

-- ---- the same by numbers that ranks have in both lists

-- k is the least number of a rank that is marked in the one and not in the other, or `count`
pub record Least (number other : List ℕ) (m count k : ℕ) : Type 0 where
  pub top : k ≤ count
  pub each : (r : ℕ) → r < m → 1 ≤ get_or number r 0 → get_or other r 0 ≡ 0 → k < get_or number r 0
  pub found : (k ≡ count) ⊎ ((r : ℕ) × (r < m) × (get_or number r 0 ≡ suc k) × (get_or other r 0 ≡ 0))

last : (r m : ℕ) → r < suc m → (r < m) ⊎ (r ≡ m)
last r m l = go (bool_cases (ltb r m))
  where
    go : (ltb r m ≡ true) ⊎ (ltb r m ≡ false) → (r < m) ⊎ (r ≡ m)
    go (inl h) = inl (ltb-true r m h)
    go (inr h) = inr (omega (arith, ltb-false r m h))

module _ (number other : List ℕ) (m count best : ℕ) (h : Least number other m count best) where
  kept : (1 ≤ get_or number m 0 → get_or other m 0 ≡ 0 → best < get_or number m 0) → Least number other (suc m) count best
  kept more = record { top = h.top; each = each; found = found h.found }
    where
      each : (r : ℕ) → r < suc m → 1 ≤ get_or number r 0 → get_or other r 0 ≡ 0 → best < get_or number r 0
      each r l a b = go (last r m l)
        where
          go : (r < m) ⊎ (r ≡ m) → best < get_or number r 0
          go (inl k) = h.each r k a b
          go (inr k) = rw k (more (rw k at a) (rw k at b))

      found : (best ≡ count) ⊎ ((r : ℕ) × (r < m) × (get_or number r 0 ≡ suc best) × (get_or other r 0 ≡ 0))
          → (best ≡ count) ⊎ ((r : ℕ) × (r < suc m) × (get_or number r 0 ≡ suc best) × (get_or other r 0 ≡ 0))
      found (inl e) = inl e
      found (inr f) = inr (f.0, omega (arith, f.1), f.2, f.3)

  lowered : 1 ≤ get_or number m 0 → get_or other m 0 ≡ 0 → Least number other (suc m) count (min best (get_or number m 0 - 1))
  lowered a b = go (bool_cases (ltb best (get_or number m 0)))
    where
      go : (ltb best (get_or number m 0) ≡ true) ⊎ (ltb best (get_or number m 0) ≡ false)
          → Least number other (suc m) count (min best (get_or number m 0 - 1))
      go (inl k) =
          let l = ltb-true best (get_or number m 0) k in
          let e : min best (get_or number m 0 - 1) ≡ best = omega (arith, l) in
          rw e (kept (λ _ _. l))
      go (inr k) =
          let l = ltb-false best (get_or number m 0) k in
          let e : min best (get_or number m 0 - 1) ≡ get_or number m 0 - 1 = omega (arith, l) in
          rw e (record { top = omega (arith, h.top, l); each = each; found = inr (m, omega arith, omega arith, b) })
        where
          each : (r : ℕ) → r < suc m → 1 ≤ get_or number r 0 → get_or other r 0 ≡ 0 → get_or number m 0 - 1 < get_or number r 0
          each r i p q = case (last r m i)
            where
              case : (r < m) ⊎ (r ≡ m) → get_or number m 0 - 1 < get_or number r 0
              case (inl j) = omega (arith, h.each r j p q, ltb-false best (get_or number m 0) k)
              case (inr j) = rw j (omega arith)

  next : Least number other (suc m) count (nearer_of best (get_or number m 0) (get_or other m 0))
  unfolding nearer_of
  next = go (eqb (get_or number m 0) 0) refl (eqb (get_or other m 0) 0) refl
    where
      go : (a : Bool) → eqb (get_or number m 0) 0 ≡ a → (b : Bool) → eqb (get_or other m 0) 0 ≡ b
          → Least number other (suc m) count (cond a best (cond b (min best (get_or number m 0 - 1)) best))
      go true e b f = kept (λ l k. absurd (omega (arith, eqb-true (get_or number m 0) 0 e)))
      go false e true f = lowered (positive (eqb-false (get_or number m 0) 0 e)) (eqb-true (get_or other m 0) 0 f)
        where
          positive : (get_or number m 0 ≡ 0 → ⊥) → 1 ≤ get_or number m 0
          positive h = omega (arith, h)
      go false e false f = kept (λ l k. absurd (eqb-false (get_or other m 0) 0 f k))

pub least : (number other : List ℕ) (m count : ℕ) → Least number other m count (least_missing number other m count)
unfolding least_missing
least number other zero count = record { top = omega arith; each = λ r l. absurd (omega arith); found = inl refl }
least number other (suc m) count = next number other m count (least_missing number other m count) (least number other m count)

module _ (s t : Tree) (L Y : List Label) (number other : List ℕ) (m k : ℕ) (all : m ≡ length (common s t))
    (held : Common s t (set_of L)) (one : Marked (common s t) L number) (two : Marked (common s t) Y other)
    (h : Least number other m (length L) k) where
  abbrev C : List Label
  C = common s t

  -- a rank that is marked is that of a label of the list
  marked_in : (N : List Label) (number : List ℕ) → Marked C N number → (r : ℕ) → r < m → 1 ≤ get_or number r 0
      → (i : ℕ) × (i < length N) × (get_or C r [] ≡ get_or N i []) × (get_or number r 0 ≡ suc i)
  marked_in N number k r l p = go (bool_cases (is_in (get_or C r []) N))
    where
      go : (is_in (get_or C r []) N ≡ true) ⊎ (is_in (get_or C r []) N ≡ false)
          → (i : ℕ) × (i < length N) × (get_or C r [] ≡ get_or N i []) × (get_or number r 0 ≡ suc i)
      go (inl e) =
          let n = number_of N (get_or C r []) e in
          (n.at, n.below, sym n.is, k.held r n.at (omega (arith, all)) n.below (sym n.is))
      go (inr e) = absurd (omega (arith, k.other r (omega (arith, all)) e))

  -- one that is not marked is that of no label of the list
  unmarked_out : (r : ℕ) → r < m → get_or other r 0 ≡ 0 → is_in (get_or C r []) Y ≡ false
  unmarked_out r l e = go (bool_cases (is_in (get_or C r []) Y))
    where
      go : (is_in (get_or C r []) Y ≡ true) ⊎ (is_in (get_or C r []) Y ≡ false) → is_in (get_or C r []) Y ≡ false
      go (inl i) =
          let n = number_of Y (get_or C r []) i in
          absurd (omega (arith, two.held r n.at (omega (arith, all)) n.below (sym n.is)))
      go (inr i) = i

  -- every label of L is in Y
  pub none_lacked : ((i : ℕ) → i < length L → is_in (get_or L i []) Y ≡ true) → k ≡ length L
  none_lacked f = go h.found
    where
      go : (k ≡ length L) ⊎ ((r : ℕ) × (r < m) × (get_or number r 0 ≡ suc k) × (get_or other r 0 ≡ 0)) → k ≡ length L
      go (inl e) = e
      go (inr w) =
          let q = marked_in L number one w.0 w.1 (omega (arith, w.2)) in
          clash (f q.0 q.1) (ap (λ (x : Label). is_in x Y) (sym q.2) ∙ unmarked_out w.0 w.1 w.3)

  -- or label n is the first that is not
  pub one_lacked : (n : ℕ) → IsMissing L Y n → k ≡ n
  one_lacked n f = go h.found
    where
      inside : is_in (get_or L n []) C ≡ true
      inside = let w = held (get_or L n []) (at_in L n f.in_list) in common_in s t (get_or L n []) w.0 w.1

      at_most : k ≤ n
      at_most =
          let r = number_of C (get_or L n []) inside in
          let a = one.held r.at n r.below f.in_list r.is in
          let b = two.other r.at r.below (ap (λ (x : Label). is_in x Y) r.is ∙ f.lacked) in
          let l = h.each r.at (omega (arith, r.below, all)) (omega (arith, a)) b in
          omega (arith, a, l)

      go : (k ≡ length L) ⊎ ((r : ℕ) × (r < m) × (get_or number r 0 ≡ suc k) × (get_or other r 0 ≡ 0)) → k ≡ n
      go (inl e) = absurd (omega (arith, e, at_most, f.in_list))
      go (inr w) = least_is (bool_cases (ltb k n))
        where
          q : (i : ℕ) × (i < length L) × (get_or C w.0 [] ≡ get_or L i []) × (get_or number w.0 0 ≡ suc i)
          q = marked_in L number one w.0 w.1 (omega (arith, w.2))

          out : is_in (get_or L q.0 []) Y ≡ false
          out = ap (λ (x : Label). is_in x Y) (sym q.2) ∙ unmarked_out w.0 w.1 w.3

          least_is : (ltb k n ≡ true) ⊎ (ltb k n ≡ false) → k ≡ n
          least_is (inl d) = clash (f.earlier q.0 (omega (arith, ltb-true k n d, q.3, w.2))) out
          least_is (inr d) = omega (arith, at_most, ltb-false k n d)

-- so the place of the first label that is missing, if there is one
pub missing_told : (s t : Tree) (L Y : List Label) (number other : List ℕ) (m count : ℕ) → count ≡ length L → m ≡ length (common s t)
    → Common s t (set_of L) → Marked (common s t) L number → Marked (common s t) Y other
    → (start : List ℕ) (xs : List Token) → ((n : ℕ) → n < count → get_or start n 0 ≡ place_of_number xs n)
    → cond (ltb (least_missing number other m count) count) (Some (get_or start (least_missing number other m count) 0)) None
    ≡ place_if xs (missing L Y 0)
unfolding place_if
missing_told s t L Y number other m count e all held one two = go (missing L Y 0) (missing_is L Y 0)
  where
    h : Least number other m (length L) (least_missing number other m count)
    h = subst (λ (n : ℕ). Least number other m n (least_missing number other m count)) e (least number other m count)

    go : (o : Option ℕ) → MissingIs L Y 0 o
        → (start : List ℕ) (xs : List Token) → ((n : ℕ) → n < count → get_or start n 0 ≡ place_of_number xs n)
        → cond (ltb (least_missing number other m count) count) (Some (get_or start (least_missing number other m count) 0)) None
        ≡ place_if xs o
    go none f =
        let d = none_lacked s t L Y number other m _ all held one two h f in
        let b = le-ltb (least_missing number other m count) count (omega (arith, d, e)) in
        λ start xs at. rw b refl
    go (some j) f =
        let d = one_lacked s t L Y number other m _ all held one two h f.0 f.2 in
        let j-is : least_missing number other m count ≡ j = omega (arith, d, f.1) in
        let l : j < count = omega (arith, f.1, f.2.in_list, e) in
        let b = lt-ltb (least_missing number other m count) count (omega (arith, j-is, l)) in
        λ start xs at. rw (b, j-is) (ap Some (at j l))

-- and so where it stands
module _ (places : LabelPlaces) (k : ℕ) where
  pub lacked_none : None ≡ below places.count k → None ≡ lacked_at places k
  lacked_none h = go (ltb k places.count) h
    where
      go : (b : Bool) → None ≡ cond b (Some k) None → None ≡ cond b (Some (get_or places.start k 0)) None
      go true e = absurd (none-some _ e)
      go false e = refl

  pub lacked_some : (j : ℕ) → Some j ≡ below places.count k → Some (get_or places.start j 0) ≡ lacked_at places k
  lacked_some j h = go (ltb k places.count) h
    where
      go : (b : Bool) → Some j ≡ cond b (Some k) None → Some (get_or places.start j 0) ≡ cond b (Some (get_or places.start k 0)) None
      go true e = ap (λ (n : ℕ). Some (get_or places.start n 0)) (same_Some _ _ e)
      go false e = absurd (none-some j (sym e))

pub missing_asked : (e : Edition) (s t : Tree) (xs ys : List Token) {tree1 tree2 : TreeArrays} {order : CommonOrder}
    {number other : List ℕ} {places others : LabelPlaces}
    → AskedOf (folded e s) (folded e t) (folded_list e xs) tree1 tree2 order number places
    → AskedOf (folded e s) (folded e t) (folded_list e ys) tree1 tree2 order other others
    → lacked_at places (least_missing number other order.count places.count) ≡ place_if xs (missing (keys_of e xs) (keys_of e ys) 0)
missing_asked e s t xs ys {order = order} {number = number} {other = other} {places = places} a b =
    let w = missing_told (keyed e s) (keyed e t) (keys_of e xs) (keys_of e ys) number other order.count places.count
    (a.asked.count_is ∙ sym (length-map (folded_list e xs) spelling)) a.asked.one.count a.asked.held a.asked.marked
    b.asked.marked in
    w places.start xs (λ n l. starts n l)
  where
    starts : (n : ℕ) → n < places.count → get_or places.start n 0 ≡ place_of_number xs n
    starts n l =
        ap (λ p. get_or p.start n 0) a.list_places ∙ place_number (folded_list e xs) n (omega (arith, a.asked.count_is))
        ∙ number_folded e xs n
