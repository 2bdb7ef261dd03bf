-- Ranks among the common labels: a leaf's rank, the test whether it is required, and the least rank below a node. Assumes nothing.
use Prim.Native.Nat.{ℕ, zero, suc, ◌+◌, ◌-◌, ◌*◌, ◌<◌, ◌≤◌, min}
use mathlib.Core.Path.{◌≡◌, refl, sym, ◌∙◌, ap, subst}
use mathlib.Core.Bool.{Bool, true, false, cond, not, ◌&&◌}
use mathlib.Core.Logic.{◌⊎◌, inl, inr}
use mathlib.Core.List.{List, [], ◌∷◌}
use native.Mathlib.Omega.{arith}
use native.Mathlib.Decide.{dec_lt}
use lib.Dec.{eqb, ltb, leb}
use lib.ListN.{length, get_or, length-append}
use borrow.Author.Tests.{lt-ltb, le-ltb, ne_eqb, leb-true}
use Rattle.trees.specs.declared.TreeArrays.{TreeArrays}
use Rattle.trees.specs.Label.{Label, same_label, label_less, is_in, distinct}
use Rattle.trees.specs.Tree.{Tree, leaf, node, leaves}
use Rattle.trees.proofs.Bools.{bool_cases, clash, refute}
use Rattle.trees.proofs.LabelLaws.{same_refl, ne_same, less_irrefl, less_asym, less_trans}
use Rattle.trees.proofs.ListLaws.{at_in, distinct_head, distinct_tail}
use Rattle.leaves.specs.Numbered.{LeafIs}
use Rattle.agreement.specs.Closer.{holds}
use Rattle.agreement.specs.Sets.{increasing, sorted, keep, set_of}
use Rattle.agreement.proofs.HoldsLaws.{holds_self, holds_leaf, holds_left, holds_right, holds_cases}
use Rattle.agreement.proofs.KeepLaws.{keep_append, distinct_keep}
use Rattle.agreement.proofs.SetLaws.{in_nil, in_head, in_cases, number_of, in_sorted, sorted_inc, inc_head, inc_tail, inc_distinct}
use Rattle.agreement.proofs.SetLaws.{in_keep, keep_in, keep_few}
use Rattle.pieces.specs.Pieces.{head_of, required_in, least_in, number_below}
use Rattle.places.specs.Nodes.{TreeRanks, required_at, rank_among, least_rank, child_number}

-- a label has one rank

pub rank_same : (C : List Label) (r : ℕ) → distinct C ≡ true → r < length C → rank_among C (get_or C r []) ≡ r
unfolding rank_among
rank_same [] r d h = absurd (omega arith)
rank_same (c ∷ C) zero d h = rw (same_refl c) refl
rank_same (c ∷ C) (suc r) d h =
    let l : r < length C = omega arith in
    let other : same_label (get_or C r []) c ≡ false =
    ne_same (get_or C r []) c
    (λ (e : get_or C r [] ≡ c). clash (subst (λ (y : Label). is_in y C ≡ true) e (at_in C r l)) (distinct_head c C d)) in
    rw other (ap suc (rank_same C r (distinct_tail c C d) l))

pub rank_is : (C : List Label) (x : Label) → distinct C ≡ true → is_in x C ≡ true
    → (rank_among C x < length C) × (get_or C (rank_among C x) [] ≡ x)
rank_is C x d k =
    let n = number_of C x k in
    let e : rank_among C x ≡ n.at = ap (rank_among C) (sym n.is) ∙ rank_same C n.at d n.below in
    (omega (arith, e, n.below), ap (λ (r : ℕ). get_or C r []) e ∙ n.is)

-- label order is the order of ranks

rank_order : (C : List Label) → increasing C ≡ true → (i j : ℕ) → i < j → j < length C → label_less (get_or C i []) (get_or C j []) ≡ true
rank_order [] h i j l k = absurd (omega arith)
rank_order (c ∷ C) h i zero l k = absurd (omega arith)
rank_order (c ∷ C) h zero (suc j) l k = inc_head c C h (get_or C j []) (at_in C j (omega arith))
rank_order (c ∷ C) h (suc i) (suc j) l k = rank_order C (inc_tail c C h) i j (omega arith) (omega arith)

pub less_by_rank : (C : List Label) → increasing C ≡ true → (i j : ℕ) → i < length C → j < length C
    → label_less (get_or C i []) (get_or C j []) ≡ ltb i j
less_by_rank C h i j hi hj = go (dec_lt i j) (dec_lt j i)
  where
    go : Dec (i < j) → Dec (j < i) → label_less (get_or C i []) (get_or C j []) ≡ ltb i j
    go (yes l) k = rank_order C h i j l hj ∙ sym (lt-ltb i j l)
    go (no l) (yes k) = less_asym (get_or C j []) (get_or C i []) (rank_order C h j i k hi) ∙ sym (le-ltb i j (omega arith))
    go (no l) (no k) =
        let e : i ≡ j = omega arith in
        ap (λ (n : ℕ). label_less (get_or C i []) (get_or C n [])) (sym e) ∙ less_irrefl (get_or C i []) ∙ sym (le-ltb i j (omega arith))

-- a leaf of a tree that is given by its arrays

module _ {t : Tree} {C K : List Label} {tree : TreeArrays} {rank : List ℕ} {m : ℕ} {number : List ℕ}
    (g : TreeRanks t C K tree rank m number) where
  pub once : distinct C ≡ true
  once = inc_distinct C g.ordered

  pub rank_own : (r : ℕ) → r < length C → rank_among C (get_or C r []) ≡ r
  rank_own r h = rank_same C r once h

  pub leaf_rank : (u : ℕ) (x : Label) → LeafIs t u x → is_in x C ≡ true → get_or rank u 0 ≡ rank_among C x
  leaf_rank u x l k =
      let n = number_of C x k in
      g.ranked.held u n.at n.below (rw n.is l)
      ∙ sym (ap (rank_among C) (sym n.is) ∙ rank_same C n.at once n.below)

  -- a required label by its rank
  pub marked_rank : (x : Label) → is_in x C ≡ true → (is_in x K ≡ true) ⊎ (is_in x K ≡ false)
      → eqb (get_or number (rank_among C x) 0) 0 ≡ not (is_in x K)
  marked_rank x c (inl k) =
      let r = rank_is C x once c in
      let n = number_of K x k in
      let f : get_or number (rank_among C x) 0 ≡ suc n.at =
      g.marked.held (rank_among C x) n.at r.0 n.below (r.1 ∙ sym n.is) in
      rw (k, ne_eqb (get_or number (rank_among C x) 0) 0 (omega (arith, f))) refl
  marked_rank x c (inr k) =
      let r = rank_is C x once c in
      let f : get_or number (rank_among C x) 0 ≡ 0 = g.marked.other (rank_among C x) r.0 (rw r.1 k) in
      rw (k, f) refl

  not_twice : (b : Bool) → not (not b) ≡ b
  not_twice true = refl
  not_twice false = refl

  pub required_test : (u : ℕ) (x : Label) → LeafIs t u x → required_at number (get_or rank u 0) m ≡ is_in x K
  unfolding required_at
  required_test u x l = go (bool_cases (is_in x C))
    where
      go : (is_in x C ≡ true) ⊎ (is_in x C ≡ false)
          → cond (ltb (get_or rank u 0) m) (not (eqb (get_or number (get_or rank u 0) 0) 0)) false ≡ is_in x K
      go (inl c) =
          let r = rank_is C x once c in
          rw (
            leaf_rank u x l c,
            lt-ltb (rank_among C x) m (omega (arith, r.0, g.all)),
            marked_rank x c (bool_cases (is_in x K)),
          )
          (not_twice (is_in x K))
      go (inr c) =
          rw (g.ranked.other u x l c, le-ltb 80 m (omega (arith, g.all, g.few)))
          (sym (refute (is_in x K) (λ k. clash (g.within x k) c)))

-- required leaves below a node

pub many_leaf : (K : List Label) (x : Label) → required_in K (leaf x) ≡ cond (is_in x K) 1 0
unfolding required_in leaves keep
many_leaf K x = go (is_in x K)
  where
    go : (b : Bool) → length (cond b (x ∷ []) []) ≡ cond b 1 0
    go true = refl
    go false = refl

pub many_node : (K : List Label) (p q : Tree) → required_in K (node p q) ≡ required_in K p + required_in K q
unfolding required_in leaves
many_node K p q =
    ap length (keep_append (set_of K) (leaves p) (leaves q)) ∙ length-append (keep (set_of K) (leaves p)) (keep (set_of K) (leaves q))

pub many_few : (K : List Label) (t : Tree) → required_in K t ≤ length (leaves t)
unfolding required_in
many_few K t = keep_few (set_of K) (leaves t)

no_length : (xs : List Label) → length xs ≡ 0 → xs ≡ []
no_length [] h = refl
no_length (x ∷ xs) h = absurd (omega arith)

some_length : (x : Label) (xs : List Label) → is_in x xs ≡ true → 1 ≤ length xs
some_length x [] h = in_nil x h
some_length x (y ∷ xs) h = omega arith

pub none_kept : (K : List Label) (t : Tree) → required_in K t ≡ 0 → keep (set_of K) (leaves t) ≡ []
unfolding required_in
none_kept K t h = no_length (keep (set_of K) (leaves t)) h

-- the least member of a list in label order is its head
head_least : (q : List Label) → increasing q ≡ true → (z : Label) → is_in z q ≡ true
    → ((y : Label) → is_in y q ≡ true → label_less y z ≡ false) → head_of q ≡ z
unfolding head_of
head_least [] i z m f = in_nil z m
head_least (x ∷ q) i z m f = go (in_cases z x q m)
  where
    go : (z ≡ x) ⊎ (is_in z q ≡ true) → x ≡ z
    go (inl e) = sym e
    go (inr n) = clash (inc_head x q i z n) (f x (in_head x q))

-- the least rank is that of the least required leaf below, 80 for none

pub data LeastView (C K : List Label) (t : Tree) (r : ℕ) : Type 0 where
  none_below : r ≡ 80 → ((y : Label) → is_in y K ≡ true → holds t y ≡ true → ⊥) → LeastView C K t r
  least_below : r < length C → is_in (get_or C r []) K ≡ true → holds t (get_or C r []) ≡ true
      → ((y : Label) → is_in y K ≡ true → holds t y ≡ true → label_less y (get_or C r []) ≡ false) → LeastView C K t r

module _ (C K : List Label) (few : length C ≤ 80) (ordered : increasing C ≡ true)
    (within : (x : Label) → is_in x K ≡ true → is_in x C ≡ true) where
  least_leaf : (x : Label) → (is_in x K ≡ true) ⊎ (is_in x K ≡ false) → LeastView C K (leaf x) (cond (is_in x K) (rank_among C x) 80)
  least_leaf x (inl k) =
      let r = rank_is C x (inc_distinct C ordered) (within x k) in
      rw k
      (least_below r.0 (rw r.1 k) (rw r.1 (holds_self x))
      (λ y i h. rw (r.1, holds_leaf x y h) (less_irrefl x)))
  least_leaf x (inr k) = rw k (none_below refl (λ y i h. clash (ap (λ (z : Label). is_in z K) (sym (holds_leaf x y h)) ∙ i) k))

  -- the smaller of two least ones
  least_first : (p q : Tree) (r s : ℕ) → r ≤ s → r < length C → is_in (get_or C r []) K ≡ true
      → ((y : Label) → is_in y K ≡ true → holds p y ≡ true → label_less y (get_or C r []) ≡ false) → s < length C
      → ((y : Label) → is_in y K ≡ true → holds q y ≡ true → label_less y (get_or C s []) ≡ false)
      → (y : Label) → is_in y K ≡ true → (holds p y ≡ true) ⊎ (holds q y ≡ true) → label_less y (get_or C r []) ≡ false
  least_first p q r s l hr k f hs g y i (inl h) = f y i h
  least_first p q r s l hr k f hs g y i (inr h) = refute (label_less y (get_or C r [])) twice
    where
      go : Dec (r < s) → label_less y (get_or C r []) ≡ true → ⊥
      go (yes j) e =
          clash (less_trans y (get_or C r []) (get_or C s []) e (less_by_rank C ordered r s hr hs ∙ lt-ltb r s j)) (g y i h)
      go (no j) e =
          let same : r ≡ s = omega arith in
          clash (rw same at e) (g y i h)

      twice : label_less y (get_or C r []) ≡ true → ⊥
      twice e = go (dec_lt r s) e

  least_node : (p q : Tree) (r s : ℕ) → LeastView C K p r → LeastView C K q s → LeastView C K (node p q) (min r s)
  least_node p q r s (none_below e f) (none_below d g) =
      none_below (omega arith) (λ y i h. both y i (holds_cases p q y h))
    where
      both : (y : Label) → is_in y K ≡ true → (holds p y ≡ true) ⊎ (holds q y ≡ true) → ⊥
      both y i (inl h) = f y i h
      both y i (inr h) = g y i h
  least_node p q r s (none_below e f) (least_below l k h g) =
      let m : min r s ≡ s = omega arith in
      rw m (least_below l k (holds_right p q (get_or C s []) h) (λ y i j. both y i (holds_cases p q y j)))
    where
      both : (y : Label) → is_in y K ≡ true → (holds p y ≡ true) ⊎ (holds q y ≡ true) → label_less y (get_or C s []) ≡ false
      both y i (inl j) = absurd (f y i j)
      both y i (inr j) = g y i j
  least_node p q r s (least_below l k h f) (none_below d g) =
      let m : min r s ≡ r = omega arith in
      rw m (least_below l k (holds_left p q (get_or C r []) h) (λ y i j. both y i (holds_cases p q y j)))
    where
      both : (y : Label) → is_in y K ≡ true → (holds p y ≡ true) ⊎ (holds q y ≡ true) → label_less y (get_or C r []) ≡ false
      both y i (inl j) = f y i j
      both y i (inr j) = absurd (g y i j)
  least_node p q r s (least_below l k h f) (least_below l' k' h' g) = go (dec_lt s r)
    where
      swap : (y : Label) → (holds p y ≡ true) ⊎ (holds q y ≡ true) → (holds q y ≡ true) ⊎ (holds p y ≡ true)
      swap y (inl j) = inr j
      swap y (inr j) = inl j

      go : Dec (s < r) → LeastView C K (node p q) (min r s)
      go (yes j) =
          let m : min r s ≡ s = omega arith in
          rw m
          (least_below l' k' (holds_right p q (get_or C s []) h')
          (λ y i a. least_first q p s r (omega arith) l' k' g l f y i (swap y (holds_cases p q y a))))
      go (no j) =
          let m : min r s ≡ r = omega arith in
          rw m
          (least_below l k (holds_left p q (get_or C r []) h)
          (λ y i a. least_first p q r s (omega arith) l k f l' g y i (holds_cases p q y a)))

  pub least_view : (t : Tree) → LeastView C K t (least_rank C K t)
  unfolding least_rank
  least_view (leaf x) = least_leaf x (bool_cases (is_in x K))
  least_view (node p q) = least_node p q (least_rank C K p) (least_rank C K q) (least_view p) (least_view q)

  -- there are required leaves below, or none
  view_some : (t : Tree) (r : ℕ) → LeastView C K t r → 1 ≤ required_in K t → r < length C
  unfolding required_in holds
  view_some t r (least_below l k h f) e = l
  view_some t r (none_below d f) e = absurd (go (keep (set_of K) (leaves t)) refl e)
    where
      go : (l : List Label) → keep (set_of K) (leaves t) ≡ l → 1 ≤ length l → ⊥
      go [] i j = omega arith
      go (x ∷ xs) i j =
          let m = in_keep (set_of K) x (leaves t) (ap (is_in x) i ∙ in_head x xs) in
          f x m.1 m.0

  view_none : (t : Tree) (r : ℕ) → LeastView C K t r → required_in K t ≡ 0 → r ≡ 80
  unfolding required_in holds
  view_none t r (none_below d f) e = d
  view_none t r (least_below l k h f) e =
      absurd (omega (arith, some_length (get_or C r []) (keep (set_of K) (leaves t)) (keep_in (set_of K) (get_or C r []) (leaves t) h k)))

  view_label : (t : Tree) (r : ℕ) → distinct (leaves t) ≡ true → LeastView C K t r → 1 ≤ required_in K t → get_or C r [] ≡ least_in K t
  unfolding least_in holds required_in
  view_label t r d (none_below e f) l = absurd (omega (arith, view_some t r (none_below e f) l))
  view_label t r d (least_below l k h f) e =
      sym (head_least (sorted (keep (set_of K) (leaves t))) (sorted_inc (keep (set_of K) (leaves t)) (distinct_keep (set_of K) (leaves t) d))
      (get_or C r []) (in_sorted (get_or C r []) (keep (set_of K) (leaves t)) ∙ keep_in (set_of K) (get_or C r []) (leaves t) h k)
      (λ y m.
      let i = in_keep (set_of K) y (leaves t) (sym (in_sorted y (keep (set_of K) (leaves t))) ∙ m) in
      f y i.1 i.0))

  pub least_some : (t : Tree) → 1 ≤ required_in K t → least_rank C K t < length C
  least_some t = view_some t (least_rank C K t) (least_view t)

  pub least_none : (t : Tree) → required_in K t ≡ 0 → least_rank C K t ≡ 80
  least_none t = view_none t (least_rank C K t) (least_view t)

  pub least_few : (t : Tree) → least_rank C K t ≤ 80
  least_few t = go (least_rank C K t) (least_view t)
    where
      go : (r : ℕ) → LeastView C K t r → r ≤ 80
      go r (none_below e f) = omega arith
      go r (least_below l k h f) = omega arith

  pub least_label : (t : Tree) → distinct (leaves t) ≡ true → 1 ≤ required_in K t → get_or C (least_rank C K t) [] ≡ least_in K t
  least_label t d = view_label t (least_rank C K t) d (least_view t)

  -- so the order of labels below two children is that of the least ranks
  pub number_by_rank : (p q : Tree) (n : ℕ) → distinct (leaves p) ≡ true → distinct (leaves q) ≡ true
      → number_below K p q n ≡ child_number (required_in K p) (required_in K q) (least_rank C K p) (least_rank C K q) n
  unfolding number_below child_number
  number_by_rank p q n dp dq = go (bool_cases (leb 1 (required_in K p))) (bool_cases (leb 1 (required_in K q)))
    where
      go : (leb 1 (required_in K p) ≡ true) ⊎ (leb 1 (required_in K p) ≡ false)
          → (leb 1 (required_in K q) ≡ true) ⊎ (leb 1 (required_in K q) ≡ false)
          → cond (leb 1 (required_in K p) && leb 1 (required_in K q))
          (cond (label_less (least_in K p) (least_in K q)) (n - 2 * required_in K q) (n - 1)) n
          ≡ cond (leb 1 (required_in K p) && leb 1 (required_in K q))
          (cond (ltb (least_rank C K p) (least_rank C K q)) (n - 2 * required_in K q) (n - 1)) n
      go (inl a) (inl b) =
          let hp = leb-true 1 (required_in K p) a in
          let hq = leb-true 1 (required_in K q) b in
          rw (
            ← least_label p dp hp,
            ← least_label q dq hq,
            less_by_rank C ordered (least_rank C K p) (least_rank C K q) (least_some p hp) (least_some q hq),
          ) refl
      go (inl a) (inr b) = rw (a, b) refl
      go (inr a) b = rw a refl
