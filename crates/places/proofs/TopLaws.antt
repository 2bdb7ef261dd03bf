-- The rank that is passed down to a leaf is that of the head of its place. Assumes nothing.
use Prim.Native.Nat.{ℕ, ◌+◌, ◌<◌, ◌≤◌, min}
use mathlib.Core.Path.{◌≡◌, refl, sym, ◌∙◌, ap}
use mathlib.Core.Bool.{Bool, true, false, cond, and-false}
use mathlib.Core.List.{List, [], ◌∷◌, ◌++◌}
use native.Mathlib.Omega.{arith}
use native.Mathlib.Decide.{dec_lt}
use lib.Dec.{leb}
use lib.ListN.{length, get_or}
use borrow.Author.Tests.{le-leb}
use Rattle.trees.specs.Label.{Label, is_in, distinct}
use Rattle.trees.specs.Tree.{Tree, leaf, node, leaves}
use Rattle.agreement.specs.Closer.{holds}
use Rattle.agreement.specs.Sets.{increasing, sorted, keep, set_of}
use Rattle.agreement.proofs.HoldsLaws.{distinct_node}
use Rattle.agreement.proofs.KeepLaws.{keep_append}
use Rattle.pieces.specs.Pieces.{nonempty_or, head_of, lowest, place_of, required_in, least_in}
use Rattle.pieces.proofs.PlaceLaws.{lowest_none}
use Rattle.places.specs.Nodes.{least_rank, child_top, down_in, top_below, top_in}
use Rattle.places.proofs.RankLaws.{many_node, none_kept, least_some, least_none, least_few, least_label}

-- no required leaf, so no place

no_parts : (xs ys : List Label) → xs ++ ys ≡ [] → (xs ≡ []) × (ys ≡ [])
no_parts [] ys e = (refl, e)
no_parts (x ∷ xs) ys e = let z : ◌≡◌ {A = ℕ} 0 1 = cc in absurd (omega arith)

lowest_empty : (K : List Label) (t : Tree) (x : Label) → keep (set_of K) (leaves t) ≡ [] → lowest K t x ≡ []
unfolding lowest leaves nonempty_or
lowest_empty K (leaf y) x e = e
lowest_empty K (node p q) x e =
    go (holds p x) (lowest_empty K p x parts.0) (lowest_empty K q x parts.1)
  where
    parts : (keep (set_of K) (leaves p) ≡ []) × (keep (set_of K) (leaves q) ≡ [])
    parts = no_parts (keep (set_of K) (leaves p)) (keep (set_of K) (leaves q)) (sym (keep_append (set_of K) (leaves p) (leaves q)) ∙ e)

    go : (b : Bool) → lowest K p x ≡ [] → lowest K q x ≡ []
        → nonempty_or (cond b (lowest K p x) (lowest K q x)) (keep (set_of K) (leaves p ++ leaves q)) ≡ []
    go true i j = rw i e
    go false i j = rw j e

some_kept : (K : List Label) (t : Tree) → keep (set_of K) (leaves t) ≡ [] → required_in K t ≡ 0
unfolding required_in
some_kept K t e = ap length e

pub top_one : (p q l h : ℕ) → p ≡ 0 → child_top p q l h ≡ h
unfolding child_top
top_one p q l h e = rw e refl

pub top_other : (p q l h : ℕ) → q ≡ 0 → child_top p q l h ≡ h
unfolding child_top
top_other p q l h e = rw (e, and-false (leb 1 p)) refl

pub top_both : (p q l h : ℕ) → 1 ≤ p → 1 ≤ q → child_top p q l h ≡ l
unfolding child_top
top_both p q l h a b = rw (le-leb 1 p a, le-leb 1 q b) refl

-- a place with required leaves is not looked for further up
else_some : (K : List Label) (c : Tree) (x : Label) (ys : List Label) → 1 ≤ required_in K c → nonempty_or (lowest K c x) ys ≡ lowest K c x
else_some K c x ys h = go (lowest K c x) refl
  where
    go : (l : List Label) → lowest K c x ≡ l → nonempty_or l ys ≡ l
    go [] e = absurd (omega (arith, some_kept K c (lowest_none K c x e)))
    go (w ∷ ws) e = unfold nonempty_or in refl

module _ (C K : List Label) (few : length C ≤ 80) (ordered : increasing C ≡ true)
    (within : (x : Label) → is_in x K ≡ true → is_in x C ≡ true) where
  -- r is the rank of the head of q
  abbrev HeadRank : ℕ → List Label → Type 0
  HeadRank r q = (r < length C) × (get_or C r [] ≡ head_of q)

  -- without required leaves the rank stays, else it is that of the place's head
  data TopView (t : Tree) (x : Label) (h r : ℕ) : Type 0 where
    top_stays : required_in K t ≡ 0 → r ≡ h → TopView t x h r
    top_found : 1 ≤ required_in K t → HeadRank r (sorted (lowest K t x)) → TopView t x h r

  root_head : (t : Tree) (low : List Label) → distinct (leaves t) ≡ true → 1 ≤ required_in K t → low ≡ keep (set_of K) (leaves t)
      → HeadRank (least_rank C K t) (sorted low)
  unfolding least_in
  root_head t low d h e = (least_some C K few ordered within t h, rw e (least_label C K few ordered within t d h))

  -- c is the child with the leaf, o its sibling, v the node
  child_view : (v c o : Tree) (x : Label) (h r : ℕ) → distinct (leaves v) ≡ true → required_in K v ≡ required_in K c + required_in K o
      → least_rank C K v ≡ min (least_rank C K c) (least_rank C K o) → lowest K v x ≡ nonempty_or (lowest K c x) (keep (set_of K) (leaves v))
      → (1 ≤ required_in K v → h ≡ least_rank C K v) → TopView c x (top_below C K c o h) r → TopView v x h r
  unfolding top_below nonempty_or
  child_view v c o x h r d many least low from (top_found k i) =
      top_found (omega arith) (rw (low, else_some K c x (keep (set_of K) (leaves v)) k) i)
  child_view v c o x h r d many least low from (top_stays k e) = go (dec_lt 0 (required_in K o))
    where
      stays : r ≡ h
      stays = e ∙ top_one (required_in K c) (required_in K o) (least_rank C K c) h k

      go : Dec (0 < required_in K o) → TopView v x h r
      go (yes j) =
          let l : lowest K v x ≡ keep (set_of K) (leaves v) =
          low ∙ ap (λ (l : List Label). nonempty_or l (keep (set_of K) (leaves v))) (lowest_empty K c x (none_kept K c k)) in
          top_found (omega arith) (rw (stays, from (omega arith)) (root_head v (lowest K v x) d (omega arith) l))
      go (no j) = top_stays (omega arith) stays

  -- what is passed to a child with required leaves is its least rank
  child_least : (c o : Tree) (h : ℕ) → (1 ≤ required_in K c + required_in K o → h ≡ min (least_rank C K c) (least_rank C K o))
      → 1 ≤ required_in K c → top_below C K c o h ≡ least_rank C K c
  unfolding top_below
  child_least c o h from k = go (dec_lt 0 (required_in K o))
    where
      go : Dec (0 < required_in K o) → child_top (required_in K c) (required_in K o) (least_rank C K c) h ≡ least_rank C K c
      go (yes j) = top_both (required_in K c) (required_in K o) (least_rank C K c) h k j
      go (no j) =
          let z : required_in K o ≡ 0 = omega arith in
          top_other (required_in K c) (required_in K o) (least_rank C K c) h z
          ∙ omega (arith, from (omega arith), least_none C K few ordered within o z, least_few C K few ordered within c)

  top_leaf : (y x : Label) (h : ℕ) → (1 ≤ required_in K (leaf y) → h ≡ least_rank C K (leaf y)) → TopView (leaf y) x h h
  top_leaf y x h from = go (dec_lt 0 (required_in K (leaf y)))
    where
      d : distinct (leaves (leaf y)) ≡ true
      d = Rattle.agreement.proofs.HoldsLaws.distinct_leaf y

      go : Dec (0 < required_in K (leaf y)) → TopView (leaf y) x h h
      go (yes j) = top_found j (rw (from j) (root_head (leaf y) (lowest K (leaf y) x) d j (unfold lowest leaves in refl)))
      go (no j) = top_stays (omega arith) refl

  top_view : (t : Tree) (x : Label) (h : ℕ) → distinct (leaves t) ≡ true → (1 ≤ required_in K t → h ≡ least_rank C K t)
      → TopView t x h (down_in (top_below C K) t x h)
  unfolding down_in
  top_view (leaf y) x h d from = top_leaf y x h from
  top_view (node p q) x h d from =
      go (holds p x) refl
      (top_view p x (top_below C K p q h) (distinct_node p q d).one (child_least p q h (λ k. from' k)))
      (top_view q x (top_below C K q p h) (distinct_node p q d).two (child_least q p h (λ k. from' (omega arith) ∙ omega arith)))
    where
      from' : 1 ≤ required_in K p + required_in K q → h ≡ min (least_rank C K p) (least_rank C K q)
      from' k = from (omega (arith, many_node K p q)) ∙ (unfold least_rank in refl)

      low : (b : Bool) → holds p x ≡ b → lowest K (node p q) x ≡ nonempty_or (cond b (lowest K p x) (lowest K q x)) (keep (set_of K) (leaves (node p q)))
      low b e = unfold lowest in (ap (λ (b : Bool). nonempty_or (cond b (lowest K p x) (lowest K q x)) (keep (set_of K) (leaves (node p q)))) e)

      go : (b : Bool) → holds p x ≡ b
          → TopView p x (top_below C K p q h) (down_in (top_below C K) p x (top_below C K p q h))
          → TopView q x (top_below C K q p h) (down_in (top_below C K) q x (top_below C K q p h))
          → TopView (node p q) x h
          (cond b (down_in (top_below C K) p x (top_below C K p q h)) (down_in (top_below C K) q x (top_below C K q p h)))
      go true e i j =
          child_view (node p q) p q x h (down_in (top_below C K) p x (top_below C K p q h)) d (many_node K p q) (unfold least_rank in refl)
          (low true e) from i
      go false e i j =
          child_view (node p q) q p x h (down_in (top_below C K) q x (top_below C K q p h)) d (omega (arith, many_node K p q))
          (unfold least_rank in (omega arith)) (low false e) from j

  -- from the root down
  pub top_head : (t : Tree) (x : Label) → distinct (leaves t) ≡ true → 1 ≤ required_in K t
      → (top_in C K t x < length C) × (get_or C (top_in C K t x) [] ≡ head_of (place_of K t x))
  unfolding top_in place_of
  top_head t x d h = go (top_view t x (least_rank C K t) d (λ k. refl))
    where
      go : TopView t x (least_rank C K t) (down_in (top_below C K) t x (least_rank C K t))
          → HeadRank (down_in (top_below C K) t x (least_rank C K t)) (sorted (lowest K t x))
      go (top_stays k e) = absurd (omega arith)
      go (top_found k i) = i

  pub top_none : (t : Tree) (x : Label) → distinct (leaves t) ≡ true → required_in K t ≡ 0 → top_in C K t x ≡ 80
  unfolding top_in
  top_none t x d h = go (top_view t x (least_rank C K t) d (λ k. refl))
    where
      go : TopView t x (least_rank C K t) (down_in (top_below C K) t x (least_rank C K t))
          → down_in (top_below C K) t x (least_rank C K t) ≡ 80
      go (top_stays k e) = e ∙ least_none C K few ordered within t h
      go (top_found k i) = absurd (omega arith)
