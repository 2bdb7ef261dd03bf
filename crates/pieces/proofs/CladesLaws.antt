-- The places of a tree in their order: how many they are, where that of the root is, and that none is listed twice. C-17. Assumes nothing.
use Prim.Native.Nat.{ℕ, zero, suc, ◌+◌, ◌-◌, ◌*◌, ◌<◌}
use mathlib.Core.Path.{◌≡◌, refl, sym, ◌∙◌, ap}
use mathlib.Core.Bool.{true, false}
use mathlib.Core.Logic.{◌⊎◌, inl, inr, ⊎_elim}
use mathlib.Core.List.{List, [], ◌∷◌, ◌++◌}
use native.Mathlib.Omega.{arith}
use lib.ListN.{length, get_or, length-append}
use Rattle.trees.specs.Label.{Label, label_less, is_in, distinct}
use Rattle.trees.specs.Tree.{Tree, leaf, node, leaves, smallest, Same}
use Rattle.trees.proofs.Bools.{clash}
use Rattle.trees.proofs.LabelLaws.{less_irrefl, less_asym}
use Rattle.trees.proofs.ListLaws.{in_one_lem, in_left, in_right, distinct_left, distinct_right, distinct_apart}
use Rattle.trees.proofs.TreeLaws.{leaves_some}
use Rattle.trees.proofs.SameLaws.{same_in, same_distinct}
use Rattle.trees.proofs.NormalLaws.{smallest_in}
use Rattle.agreement.specs.Sets.{increasing, sorted}
use Rattle.agreement.proofs.SetLaws.{in_nil, in_cases, in_sorted, sorted_inc, inc_ext, inc_nil, inc_cons, inc_head}
use Rattle.pieces.specs.Pieces.{head_of, clades_of, At}
use Rattle.pieces.proofs.HangsAtLaws.{head_in}

-- "their common restricted tree has 2k - 1 places"
pub clades_count : (t : Tree) → length (clades_of t) + 1 ≡ 2 * length (leaves t)
unfolding clades_of leaves
clades_count (leaf x) = refl
clades_count (node a b) =
    omega (
      arith,
      clades_count a,
      clades_count b,
      length-append (leaves a) (leaves b),
      length-append (clades_of a) (clades_of b ++ (sorted (leaves a ++ leaves b) ∷ [])),
      length-append (clades_of b) (sorted (leaves a ++ leaves b) ∷ []),
    )

-- places in joined lists

pub at_left : (xs ys : List (List Label)) (j : ℕ) (q : List Label) → At xs j q → At (xs ++ ys) j q
at_left [] ys j q h = absurd h
at_left (x ∷ xs) ys zero q h = h
at_left (x ∷ xs) ys (suc j) q h = at_left xs ys j q h

pub at_right : (xs ys : List (List Label)) (j : ℕ) (q : List Label) → At ys j q → (m : ℕ) → m ≡ length xs + j → At (xs ++ ys) m q
at_right [] ys j q h m e = let i : m ≡ j = omega arith in rw i h
at_right (x ∷ xs) ys j q h zero e = absurd (omega arith)
at_right (x ∷ xs) ys j q h (suc m) e = at_right xs ys j q h m (omega arith)

pub at_cases : (xs ys : List (List Label)) (m : ℕ) (q : List Label) → At (xs ++ ys) m q
    → At xs m q ⊎ ((j : ℕ) × At ys j q × (m ≡ length xs + j))
at_cases [] ys m q h = inr (m, h, omega arith)
at_cases (x ∷ xs) ys zero q h = inl h
at_cases (x ∷ xs) ys (suc m) q h = go (at_cases xs ys m q h)
  where
    go : At xs m q ⊎ ((j : ℕ) × At ys j q × (m ≡ length xs + j))
        → At xs m q ⊎ ((j : ℕ) × At ys j q × (suc m ≡ length (x ∷ xs) + j))
    go (inl i) = inl i
    go (inr i) = inr (i.0, i.1, omega (arith, i.2))

pub at_only : (p : List Label) (j : ℕ) (q : List Label) → At (p ∷ []) j q → (j ≡ 0) × (p ≡ q)
at_only p zero q h = (refl, h)
at_only p (suc j) q h = absurd h

pub at_same : (xs : List (List Label)) (j : ℕ) (p q : List Label) → At xs j p → At xs j q → p ≡ q
at_same [] j p q h k = absurd h
at_same (x ∷ xs) zero p q h k = sym h ∙ k
at_same (x ∷ xs) (suc j) p q h k = at_same xs j p q h k

-- the place with a number, by index
pub at_index : (xs : List (List Label)) (j : ℕ) (q : List Label) → At xs j q → (j < length xs) × (get_or xs j [] ≡ q)
at_index [] j q h = absurd h
at_index (x ∷ xs) zero q h = (omega arith, h)
at_index (x ∷ xs) (suc j) q h = let r = at_index xs j q h in (omega (arith, r.0), r.1)

pub index_at : (xs : List (List Label)) (j : ℕ) → j < length xs → At xs j (get_or xs j [])
index_at [] j h = absurd (omega arith)
index_at (x ∷ xs) zero h = refl
index_at (x ∷ xs) (suc j) h = index_at xs j (omega arith)

-- the root's place is the last
pub root_at : (t : Tree) → At (clades_of t) (2 * length (leaves t) - 2) (sorted (leaves t))
unfolding clades_of leaves sorted
root_at (leaf x) = refl
root_at (node a b) =
    at_right (clades_of a) (clades_of b ++ (sorted (leaves a ++ leaves b) ∷ [])) (length (clades_of b)) (sorted (leaves a ++ leaves b))
    (at_right (clades_of b) (sorted (leaves a ++ leaves b) ∷ []) 0 (sorted (leaves a ++ leaves b)) refl (length (clades_of b)) (omega arith))
    (2 * length (leaves a ++ leaves b) - 2)
    (omega (arith, clades_count a, clades_count b, leaves_some a, leaves_some b, length-append (leaves a) (leaves b)))

-- equal trees have one sorted list of leaves
pub sorted_same : {a b : Tree} → Same a b → distinct (leaves a) ≡ true → sorted (leaves a) ≡ sorted (leaves b)
sorted_same {a} {b} e d =
    inc_ext (sorted (leaves a)) (sorted (leaves b)) (sorted_inc (leaves a) d) (sorted_inc (leaves b) (same_distinct e d))
    (λ x m. in_sorted x (leaves b) ∙ sym (same_in e x) ∙ sym (in_sorted x (leaves a)) ∙ m)
    (λ x m. in_sorted x (leaves a) ∙ same_in e x ∙ sym (in_sorted x (leaves b)) ∙ m)

-- a place has leaves, and they are the tree's
pub record PlaceIn (t : Tree) (q : List Label) : Type 0 where
  pub one : Label
  pub member : is_in one q ≡ true
  pub within : (y : Label) → is_in y q ≡ true → is_in y (leaves t) ≡ true

pub place_in : (t : Tree) (j : ℕ) (q : List Label) → At (clades_of t) j q → PlaceIn t q
unfolding clades_of leaves
place_in (leaf x) j q h =
    let e : (x ∷ []) ≡ q = (at_only (x ∷ []) j q h).1 in
    record { one = x; member = rw (← e) (in_one_lem x); within = λ y m. rw (← e) at m }
place_in (node a b) j q h =
    go (at_cases (clades_of a) (clades_of b ++ (sorted (leaves a ++ leaves b) ∷ [])) j q h) (place_in a j q) (λ i. place_in b i q)
  where
    last : sorted (leaves a ++ leaves b) ≡ q → PlaceIn (node a b) q
    last e = record {
      one = smallest a;
      member = ap (is_in (smallest a)) (sym e) ∙ in_sorted (smallest a) (leaves a ++ leaves b)
          ∙ in_left (smallest a) (leaves a) (leaves b) (smallest_in a);
      within = λ y m. sym (in_sorted y (leaves a ++ leaves b)) ∙ ap (is_in y) e ∙ m;
    }

    right : (i : ℕ) → (At (clades_of b) i q → PlaceIn b q)
        → At (clades_of b) i q ⊎ ((k : ℕ) × At (sorted (leaves a ++ leaves b) ∷ []) k q × (i ≡ length (clades_of b) + k))
        → PlaceIn (node a b) q
    right i f (inl k) = let r = f k in record {
      one = r.one;
      member = r.member;
      within = λ y m. in_right y (leaves a) (leaves b) (r.within y m);
    }
    right i f (inr k) = last (at_only (sorted (leaves a ++ leaves b)) k.0 q k.1).1

    go : At (clades_of a) j q ⊎ ((i : ℕ) × At (clades_of b ++ (sorted (leaves a ++ leaves b) ∷ [])) i q × (j ≡ length (clades_of a) + i))
        → (At (clades_of a) j q → PlaceIn a q) → ((i : ℕ) → At (clades_of b) i q → PlaceIn b q) → PlaceIn (node a b) q
    go (inl k) f g = let r = f k in record {
      one = r.one;
      member = r.member;
      within = λ y m. in_left y (leaves a) (leaves b) (r.within y m);
    }
    go (inr k) f g = right k.0 (g k.0) (at_cases (clades_of b) (sorted (leaves a ++ leaves b) ∷ []) k.0 q k.1)

-- no place is listed twice
abbrev pub Once : List (List Label) → Type 0
Once xs = (i j : ℕ) (q : List Label) → At xs i q → At xs j q → i ≡ j

once_append : (xs ys : List (List Label)) → Once xs → Once ys → ((i j : ℕ) (q : List Label) → At xs i q → At ys j q → ⊥) → Once (xs ++ ys)
once_append xs ys f g apart i j q h k = go (at_cases xs ys i q h) (at_cases xs ys j q k)
  where
    go : At xs i q ⊎ ((m : ℕ) × At ys m q × (i ≡ length xs + m)) → At xs j q ⊎ ((m : ℕ) × At ys m q × (j ≡ length xs + m)) → i ≡ j
    go (inl a) (inl b) = f i j q a b
    go (inl a) (inr b) = absurd (apart i b.0 q a b.1)
    go (inr a) (inl b) = absurd (apart j a.0 q b a.1)
    go (inr a) (inr b) = omega (arith, a.2, b.2, g a.0 b.0 q a.1 b.1)

once_one : (p : List Label) → Once (p ∷ [])
once_one p i j q h k = (at_only p i q h).0 ∙ sym (at_only p j q k).0

pub places_once : (t : Tree) → distinct (leaves t) ≡ true → Once (clades_of t)
unfolding clades_of leaves
places_once (leaf x) d = once_one (x ∷ [])
places_once (node a b) d =
    once_append (clades_of a) (clades_of b ++ (sorted (leaves a ++ leaves b) ∷ [])) (places_once a (distinct_left (leaves a) (leaves b) d))
    (once_append (clades_of b) (sorted (leaves a ++ leaves b) ∷ []) (places_once b (distinct_right (leaves a) (leaves b) d))
    (once_one (sorted (leaves a ++ leaves b))) last_b)
    (λ i j q h k. first i j q h (at_cases (clades_of b) (sorted (leaves a ++ leaves b) ∷ []) j q k))
  where
    whole : (j : ℕ) (q : List Label) → At (sorted (leaves a ++ leaves b) ∷ []) j q
        → (y : Label) → is_in y (leaves a ++ leaves b) ≡ true → is_in y q ≡ true
    whole j q k y m = ap (is_in y) (sym (at_only (sorted (leaves a ++ leaves b)) j q k).1) ∙ in_sorted y (leaves a ++ leaves b) ∙ m

    last_a : (i j : ℕ) (q : List Label) → At (clades_of a) i q → At (sorted (leaves a ++ leaves b) ∷ []) j q → ⊥
    last_a i j q h k =
        let m : is_in (smallest b) (leaves a) ≡ true =
        (place_in a i q h).within (smallest b) (whole j q k (smallest b) (in_right (smallest b) (leaves a) (leaves b) (smallest_in b))) in
        clash (smallest_in b) (distinct_apart (leaves a) (leaves b) d (smallest b) m)

    last_b : (i j : ℕ) (q : List Label) → At (clades_of b) i q → At (sorted (leaves a ++ leaves b) ∷ []) j q → ⊥
    last_b i j q h k =
        let m : is_in (smallest a) (leaves b) ≡ true =
        (place_in b i q h).within (smallest a) (whole j q k (smallest a) (in_left (smallest a) (leaves a) (leaves b) (smallest_in a))) in
        clash m (distinct_apart (leaves a) (leaves b) d (smallest a) (smallest_in a))

    first : (i j : ℕ) (q : List Label) → At (clades_of a) i q
        → At (clades_of b) j q ⊎ ((k : ℕ) × At (sorted (leaves a ++ leaves b) ∷ []) k q × (j ≡ length (clades_of b) + k)) → ⊥
    first i j q h (inl k) =
        let r = place_in a i q h in
        clash ((place_in b j q k).within r.one r.member)
        (distinct_apart (leaves a) (leaves b) d r.one (r.within r.one r.member))
    first i j q h (inr k) = last_a i k.0 q h k.1

-- a place's leaves are in label order, so its head is the smallest of them
pub place_order : (t : Tree) → distinct (leaves t) ≡ true → (j : ℕ) (q : List Label) → At (clades_of t) j q → increasing q ≡ true
unfolding clades_of leaves
place_order (leaf x) d j q h = rw (← (at_only (x ∷ []) j q h).1) (inc_cons x [] (λ z m. in_nil z m) inc_nil)
place_order (node a b) d j q h =
    go (at_cases (clades_of a) (clades_of b ++ (sorted (leaves a ++ leaves b) ∷ [])) j q h)
    (place_order a (distinct_left (leaves a) (leaves b) d) j q) (λ i. place_order b (distinct_right (leaves a) (leaves b) d) i q)
  where
    right : (i : ℕ) → (At (clades_of b) i q → increasing q ≡ true)
        → At (clades_of b) i q ⊎ ((k : ℕ) × At (sorted (leaves a ++ leaves b) ∷ []) k q × (i ≡ length (clades_of b) + k))
        → increasing q ≡ true
    right i f (inl k) = f k
    right i f (inr k) = rw (← (at_only (sorted (leaves a ++ leaves b)) k.0 q k.1).1) (sorted_inc (leaves a ++ leaves b) d)

    go : At (clades_of a) j q ⊎ ((i : ℕ) × At (clades_of b ++ (sorted (leaves a ++ leaves b) ∷ [])) i q × (j ≡ length (clades_of a) + i))
        → (At (clades_of a) j q → increasing q ≡ true) → ((i : ℕ) → At (clades_of b) i q → increasing q ≡ true) → increasing q ≡ true
    go (inl k) f g = f k
    go (inr k) f g = right k.0 (g k.0) (at_cases (clades_of b) (sorted (leaves a ++ leaves b) ∷ []) k.0 q k.1)

head_least : (q : List Label) → increasing q ≡ true → (y : Label) → is_in y q ≡ true → label_less y (head_of q) ≡ false
unfolding head_of
head_least [] h y m = in_nil y m
head_least (x ∷ q) h y m =
    ⊎_elim (λ (e : y ≡ x). rw e (less_irrefl x)) (λ (k : is_in y q ≡ true). less_asym x y (inc_head x q h y k)) (in_cases y x q m)

pub place_head : (t : Tree) → distinct (leaves t) ≡ true → (j : ℕ) (q : List Label) → At (clades_of t) j q
    → (is_in (head_of q) q ≡ true) × ((y : Label) → is_in y q ≡ true → label_less y (head_of q) ≡ false)
place_head t d j q h =
    let i = place_in t j q h in
    (head_in q (λ e. in_nil i.one (ap (is_in i.one) (sym e) ∙ i.member)), head_least q (place_order t d j q h))
