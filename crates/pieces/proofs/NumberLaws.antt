-- The number that a leaf gets from the root down is that of its place, so both trees' numbers tell what hangs where. C-17. Assumes nothing.
use Prim.Native.Nat.{ℕ, ◌+◌, ◌-◌, ◌*◌}
use mathlib.Core.Path.{◌≡◌, refl, sym, ◌∙◌, ap, ap₂, subst, fun_ext}
use mathlib.Core.Bool.{Bool, true, false, cond, not, ◌&&◌}
use mathlib.Core.Logic.{◌⊎◌, inl, inr, ⊎_elim}
use mathlib.Core.List.{List, [], ◌∷◌, ◌++◌}
use mathlib.Core.Option.{Option, some, none}
use native.Mathlib.Omega.{arith}
use lib.Dec.{leb, eqb}
use lib.ListN.{length, length-append}
use borrow.Author.Tests.{le-leb, eqb-true, eq-eqb}
use Rattle.trees.specs.Label.{Label, label_less, is_in, distinct}
use Rattle.trees.specs.Tree.{Tree, leaf, node, leaves, smallest, normal, Same, crossed}
use Rattle.trees.proofs.Bools.{bool_cases, clash}
use Rattle.trees.proofs.TreeLaws.{leaves_some}
use Rattle.trees.proofs.SameLaws.{tree_refl, tree_sym, same_in, same_length, same_distinct}
use Rattle.trees.proofs.NormalLaws.{normal_same, normal_of_same, normal_straight, normal_crossed, smallest_in, smallest_least}
use Rattle.agreement.specs.Closer.{holds, Agree, Common}
use Rattle.agreement.specs.Restrict.{join_kept, restrict}
use Rattle.agreement.specs.SameKept.{SameKept, both_none, both_some}
use Rattle.agreement.specs.Sets.{increasing, sorted, keep, common, set_of}
use Rattle.agreement.proofs.HoldsLaws.{distinct_node}
use Rattle.agreement.proofs.KeepLaws.{is_in_keep, distinct_keep, keep_cong}
use Rattle.agreement.proofs.SetLaws.{in_nil, in_head, in_cases, in_sorted, sorted_inc, length_sorted, inc_ext, inc_head, test_ext}
use Rattle.agreement.proofs.SetLaws.{count_held, Within}
use Rattle.agreement.proofs.RestrictLaws.{kept_leaves, restrict_leaves, restrict_empty, restrict_distinct}
use Rattle.agreement.proofs.AgreeRestrict.{agree_restrict}
use Rattle.pieces.specs.Pieces.{nonempty_or, head_of, same_set, lowest, place_of, clades_of, hangs_at, hanging, At}
use Rattle.pieces.specs.Pieces.{required_in, least_in, number_below, line_in}
use Rattle.pieces.proofs.PlaceLaws.{lowest_none}
use Rattle.pieces.proofs.HangsAtLaws.{set_eq, eq_set}
use Rattle.pieces.proofs.CladesLaws.{clades_count, at_left, at_right, at_same, root_at, sorted_same, places_once}

-- the least label of a tree is the head of its sorted leaves
head_smallest : (t : Tree) → distinct (leaves t) ≡ true → head_of (sorted (leaves t)) ≡ smallest t
unfolding head_of
head_smallest t d = go (sorted (leaves t)) (sorted_inc (leaves t) d) (λ y. in_sorted y (leaves t))
  where
    go : (xs : List Label) → increasing xs ≡ true → ((y : Label) → is_in y xs ≡ is_in y (leaves t)) → head_of xs ≡ smallest t
    go [] i f = in_nil (smallest t) (f (smallest t) ∙ smallest_in t)
    go (x ∷ xs) i f =
        ⊎_elim (λ (e : smallest t ≡ x). sym e)
        (λ (m : is_in (smallest t) xs ≡ true). clash (inc_head x xs i (smallest t) m) (smallest_least t x (sym (f x) ∙ in_head x xs)))
        (in_cases (smallest t) x xs (f (smallest t) ∙ smallest_in t))

-- lists with the same members, sorted
sorted_members : (xs ys : List Label) → distinct xs ≡ true → distinct ys ≡ true → ((x : Label) → is_in x xs ≡ is_in x ys)
    → sorted xs ≡ sorted ys
sorted_members xs ys d e f =
    inc_ext (sorted xs) (sorted ys) (sorted_inc xs d) (sorted_inc ys e) (λ x m. in_sorted x ys ∙ sym (f x) ∙ sym (in_sorted x xs) ∙ m)
    (λ x m. in_sorted x xs ∙ f x ∙ sym (in_sorted x ys) ∙ m)

no_members : (xs : List Label) → ((x : Label) → is_in x xs ≡ is_in x []) → xs ≡ []
no_members [] f = refl
no_members (x ∷ xs) f = in_nil x (sym (f x) ∙ in_head x xs)

-- the number below a node, by what is left of its children
number_for : Option Tree → Option Tree → ℕ → ℕ
number_for none u n = n
number_for (some a) none n = n
number_for (some a) (some b) n = cond (label_less (smallest a) (smallest b)) (n - 2 * length (leaves b)) (n - 1)

number_for_lem : (o u : Option Tree) (n : ℕ) → distinct (kept_leaves o) ≡ true → distinct (kept_leaves u) ≡ true
    → cond (leb 1 (length (kept_leaves o)) && leb 1 (length (kept_leaves u)))
    (cond (label_less (head_of (sorted (kept_leaves o))) (head_of (sorted (kept_leaves u)))) (n - 2 * length (kept_leaves u)) (n - 1)) n
    ≡ number_for o u n
unfolding number_for kept_leaves
number_for_lem none u n d e = refl
number_for_lem (some a) none n d e = rw (le-leb 1 (length (leaves a)) (leaves_some a)) refl
number_for_lem (some a) (some b) n d e =
    rw (
      le-leb 1 (length (leaves a)) (leaves_some a),
      le-leb 1 (length (leaves b)) (leaves_some b),
      head_smallest a d,
      head_smallest b e,
    ) refl

number_below_lem : (K : List Label) (p q : Tree) (n : ℕ) → distinct (leaves p) ≡ true → distinct (leaves q) ≡ true
    → number_below K p q n ≡ number_for (restrict (set_of K) p) (restrict (set_of K) q) n
unfolding number_below required_in least_in
number_below_lem K p q n d e =
    rw (← restrict_leaves (set_of K) p, ← restrict_leaves (set_of K) q)
    (number_for_lem (restrict (set_of K) p) (restrict (set_of K) q) n
    (ap distinct (restrict_leaves (set_of K) p) ∙ distinct_keep (set_of K) (leaves p) d)
    (ap distinct (restrict_leaves (set_of K) q) ∙ distinct_keep (set_of K) (leaves q) e))

-- line gives the number of a leaf's place for that of the root, low is the place, and the option is what is left of the tree. Without
-- required leaves the number is the root's. Else it is that of the place, if the first place of the list has the number base.
abbrev Numbered : (ℕ → ℕ) → List Label → Option Tree → Type 0
Numbered line low none = ((n : ℕ) → line n ≡ n) × (low ≡ [])
Numbered line low (some r) =
    (base : ℕ) → (j : ℕ) × At (clades_of (normal r)) j (sorted low) × (line (base + (2 * length (leaves r) - 2)) ≡ base + j)

-- the root's number
root_numbered : (r : Tree) (low : List Label) (line : ℕ → ℕ) → distinct (leaves r) ≡ true → sorted low ≡ sorted (leaves r)
    → ((n : ℕ) → line n ≡ n) → Numbered line low (some r)
root_numbered r low line d e f base =
    let same : sorted (leaves (normal r)) ≡ sorted low = sym (sorted_same (tree_sym (normal_same r)) d) ∙ sym e in
    let many : length (leaves (normal r)) ≡ length (leaves r) = same_length (normal_same r) in
    (2 * length (leaves r) - 2, rw (← many, ← same) (root_at (normal r)), f (base + (2 * length (leaves r) - 2)))

-- both children have required leaves
both_numbered : (a b : Tree) (line : ℕ → ℕ) (q : List Label)
    → ((base : ℕ) → (j : ℕ) × At (clades_of (normal a)) j q × (line (base + (2 * length (leaves a) - 2)) ≡ base + j)) → (base : ℕ)
    → (j : ℕ) × At (clades_of (normal (node a b))) j q
    × (line (cond (label_less (smallest a) (smallest b)) (base + (2 * length (leaves (node a b)) - 2) - 2 * length (leaves b))
    (base + (2 * length (leaves (node a b)) - 2) - 1)) ≡ base + j)
unfolding clades_of leaves
both_numbered a b line q h base = go (bool_cases (label_less (smallest a) (smallest b)))
  where
    many : length (leaves a ++ leaves b) ≡ length (leaves a) + length (leaves b)
    many = length-append (leaves a) (leaves b)

    before : length (clades_of (normal b)) ≡ 2 * length (leaves b) - 1
    before = omega (arith, clades_count (normal b), same_length (normal_same b))

    go : (label_less (smallest a) (smallest b) ≡ true) ⊎ (label_less (smallest a) (smallest b) ≡ false)
        → (j : ℕ) × At (clades_of (normal (node a b))) j q
        × (line (cond (label_less (smallest a) (smallest b)) (base + (2 * length (leaves a ++ leaves b) - 2) - 2 * length (leaves b))
        (base + (2 * length (leaves a ++ leaves b) - 2) - 1)) ≡ base + j)
    go (inl l) =
        let r = h base in
        let e : base + (2 * length (leaves a ++ leaves b) - 2) - 2 * length (leaves b) ≡ base + (2 * length (leaves a) - 2) =
        omega (arith, many, leaves_some a, leaves_some b) in (
          r.0,
          rw (normal_straight a b l)
              (at_left (clades_of (normal a)) (clades_of (normal b) ++ (sorted (leaves (normal a) ++ leaves (normal b)) ∷ [])) r.0 q
              r.1),
          rw l (ap line e ∙ r.2),
        )
    go (inr l) =
        let r = h (base + (2 * length (leaves b) - 1)) in
        let e : base + (2 * length (leaves a ++ leaves b) - 2) - 1 ≡ base + (2 * length (leaves b) - 1) + (2 * length (leaves a) - 2) =
        omega (arith, many, leaves_some a, leaves_some b) in
        let f : base + (2 * length (leaves b) - 1) + r.0 ≡ base + (2 * length (leaves b) - 1 + r.0) = omega arith in (
          2 * length (leaves b) - 1 + r.0,
          rw (normal_crossed a b l)
              (at_right (clades_of (normal b)) (clades_of (normal a) ++ (sorted (leaves (normal b) ++ leaves (normal a)) ∷ [])) r.0 q
              (at_left (clades_of (normal a)) (sorted (leaves (normal b) ++ leaves (normal a)) ∷ []) r.0 q r.1)
              (2 * length (leaves b) - 1 + r.0) (omega (arith, before))),
          rw l (ap line e ∙ r.2 ∙ f),
        )

tree_some {ℓ} : {G : Type ℓ} (t : Tree) → leaves t ≡ [] → G
tree_some t e = absurd (omega (arith, leaves_some t, ap length e))

-- a node: o is left of the child with the leaf, u of the other child; W are the node's required leaves
node_numbered : (o u : Option Tree) (line : ℕ → ℕ) (low W : List Label) → (low ≡ [] → kept_leaves o ≡ [])
    → distinct (kept_leaves (join_kept o u)) ≡ true → ((x : Label) → is_in x W ≡ is_in x (kept_leaves (join_kept o u)))
    → distinct W ≡ true → Numbered line low o → Numbered (λ n. line (number_for o u n)) (nonempty_or low W) (join_kept o u)
unfolding number_for join_kept nonempty_or kept_leaves
node_numbered none none line low W some' d e dw h = (h.0, ap (λ (l : List Label). nonempty_or l W) h.1 ∙ no_members W e)
node_numbered none (some b) line low W some' d e dw h =
    root_numbered b (nonempty_or low W) line d (ap (λ (l : List Label). sorted (nonempty_or l W)) h.1 ∙ sorted_members W (leaves b) dw d e) h.0
node_numbered (some a) none line [] W some' d e dw h = tree_some a (some' refl)
node_numbered (some a) none line (w ∷ ws) W some' d e dw h = h
node_numbered (some a) (some b) line [] W some' d e dw h = tree_some a (some' refl)
node_numbered (some a) (some b) line (w ∷ ws) W some' d e dw h = both_numbered a b line (sorted (w ∷ ws)) h

-- the children in the other order
other_order : (o u : Option Tree) (line : ℕ → ℕ) (low : List Label) → distinct (kept_leaves (join_kept o u)) ≡ true
    → Numbered line low (join_kept u o) → Numbered line low (join_kept o u)
unfolding join_kept kept_leaves
other_order none none line low d h = h
other_order none (some b) line low d h = h
other_order (some a) none line low d h = h
other_order (some a) (some b) line low d h =
    let c : Same (node a b) (node b a) = crossed (tree_refl a) (tree_refl b) in
    let e : normal (node a b) ≡ normal (node b a) = normal_of_same c d in
    let f : length (leaves (node a b)) ≡ length (leaves (node b a)) = same_length c in
    rw (e, f) h

leaf_numbered : (K : List Label) (y x : Label) → Numbered (line_in K (leaf y) x) (lowest K (leaf y) x) (restrict (set_of K) (leaf y))
unfolding line_in lowest restrict keep clades_of normal
leaf_numbered K y x = go (bool_cases (is_in y K))
  where
    go : (is_in y K ≡ true) ⊎ (is_in y K ≡ false)
        → Numbered (λ (n : ℕ). n) (cond (is_in y K) (y ∷ []) []) (cond (is_in y K) (some (leaf y)) none)
    go (inl k) = rw k (λ base. (0, refl, refl))
    go (inr k) = rw k (λ n. refl, refl)

-- the required leaves of a node with its children in either order
swapped_members : (X : Label → Bool) (p q : Tree) (x : Label) → is_in x (keep X (leaves (node p q))) ≡ is_in x (keep X (leaves (node q p)))
swapped_members X p q x =
    is_in_keep X x (leaves (node p q))
    ∙ ap (λ (b : Bool). X x && b) (same_in {s = node p q} {t = node q p} (crossed (tree_refl p) (tree_refl q)) x)
    ∙ sym (is_in_keep X x (leaves (node q p)))

kept_distinct : (X : Label → Bool) (t : Tree) → distinct (leaves t) ≡ true → distinct (kept_leaves (restrict X t)) ≡ true
kept_distinct X t d = ap distinct (restrict_leaves X t) ∙ distinct_keep X (leaves t) d

tree_numbered : (K : List Label) (p q : Tree) (x : Label) → distinct (leaves (node p q)) ≡ true
    → Numbered (line_in K p x) (lowest K p x) (restrict (set_of K) p) → Numbered (line_in K q x) (lowest K q x) (restrict (set_of K) q)
    → Numbered (line_in K (node p q) x) (lowest K (node p q) x) (restrict (set_of K) (node p q))
unfolding line_in lowest restrict
tree_numbered K p q x d f g = go (holds p x)
  where
    dp : distinct (leaves p) ≡ true
    dp = (distinct_node p q d).one

    dq : distinct (leaves q) ≡ true
    dq = (distinct_node p q d).two

    dw : distinct (keep (set_of K) (leaves (node p q))) ≡ true
    dw = distinct_keep (set_of K) (leaves (node p q)) d

    dj : distinct (leaves (node q p)) ≡ true
    dj = same_distinct {s = node p q} {t = node q p} (crossed (tree_refl p) (tree_refl q)) d

    go : (b : Bool)
        → Numbered (λ (n : ℕ). cond b (line_in K p x (number_below K p q n)) (line_in K q x (number_below K q p n)))
        (nonempty_or (cond b (lowest K p x) (lowest K q x)) (keep (set_of K) (leaves (node p q))))
        (join_kept (restrict (set_of K) p) (restrict (set_of K) q))
    go true =
        subst
        (λ (h : ℕ → ℕ). Numbered (λ (n : ℕ). line_in K p x (h n)) (nonempty_or (lowest K p x) (keep (set_of K) (leaves (node p q))))
        (join_kept (restrict (set_of K) p) (restrict (set_of K) q)))
        (sym (fun_ext (λ n. number_below_lem K p q n dp dq)))
        (node_numbered (restrict (set_of K) p) (restrict (set_of K) q) (line_in K p x) (lowest K p x) (keep (set_of K) (leaves (node p q)))
        (λ e. restrict_leaves (set_of K) p ∙ lowest_none K p x e) (kept_distinct (set_of K) (node p q) d)
        (λ y. ap (is_in y) (sym (restrict_leaves (set_of K) (node p q)))) dw f)
    go false =
        other_order (restrict (set_of K) p) (restrict (set_of K) q) (λ (n : ℕ). line_in K q x (number_below K q p n))
        (nonempty_or (lowest K q x) (keep (set_of K) (leaves (node p q)))) (kept_distinct (set_of K) (node p q) d)
        (subst
        (λ (h : ℕ → ℕ). Numbered (λ (n : ℕ). line_in K q x (h n)) (nonempty_or (lowest K q x) (keep (set_of K) (leaves (node p q))))
        (join_kept (restrict (set_of K) q) (restrict (set_of K) p)))
        (sym (fun_ext (λ n. number_below_lem K q p n dq dp)))
        (node_numbered (restrict (set_of K) q) (restrict (set_of K) p) (line_in K q x) (lowest K q x) (keep (set_of K) (leaves (node p q)))
        (λ e. restrict_leaves (set_of K) q ∙ lowest_none K q x e) (kept_distinct (set_of K) (node q p) dj)
        (λ y. swapped_members (set_of K) p q y ∙ ap (is_in y) (sym (restrict_leaves (set_of K) (node q p)))) dw g))

numbered : (K : List Label) (t : Tree) (x : Label) → distinct (leaves t) ≡ true
    → Numbered (line_in K t x) (lowest K t x) (restrict (set_of K) t)
numbered K (leaf y) x d = leaf_numbered K y x
numbered K (node p q) x d = tree_numbered K p q x d (numbered K p x (distinct_node p q d).one) (numbered K q x (distinct_node p q d).two)

-- the number that a leaf gets from the root down is that of its place among the places of the required leaves' tree
pub place_number : (K : List Label) (t : Tree) (x : Label) (r : Tree) → distinct (leaves t) ≡ true → restrict (set_of K) t ≡ some r
    → At (clades_of (normal r)) (line_in K t x (2 * length (leaves r) - 2)) (place_of K t x)
unfolding place_of
place_number K t x r d e =
    let h = (rw e at (numbered K t x d)) 0 in
    let top : 2 * length (leaves r) - 2 ≡ 0 + (2 * length (leaves r) - 2) = omega arith in
    let from : 0 + h.0 ≡ h.0 = omega arith in
    rw (ap (line_in K t x) top ∙ h.2 ∙ from) h.1

-- the required labels among others that contain them
pub required_count : (K L : List Label) → distinct K ≡ true → distinct L ≡ true → Within K L → length (keep (set_of K) L) ≡ length K
required_count K L dk d f =
    ap length (keep_cong (set_of K) (set_of (sorted K)) L (λ x m. sym (in_sorted x K)))
    ∙ count_held (sorted K) L (sorted_inc K dk) d (λ x m. f x (sym (in_sorted x K) ∙ m)) ∙ length_sorted K

-- a tree restricted to required leaves that it has keeps all of them
pub restrict_count : (K : List Label) (t r : Tree) → distinct (leaves t) ≡ true → distinct K ≡ true
    → ((x : Label) → is_in x K ≡ true → holds t x ≡ true) → restrict (set_of K) t ≡ some r → length (leaves r) ≡ length K
unfolding kept_leaves holds
restrict_count K t r d dk f e =
    ap (λ (o : Option Tree). length (kept_leaves o)) (sym e) ∙ ap length (restrict_leaves (set_of K) t) ∙ required_count K (leaves t) dk d f

-- a tree with a required leaf has a tree of required leaves
pub required_tree : (K : List Label) (t : Tree) (y : Label) → is_in y K ≡ true → holds t y ≡ true
    → (r : Tree) × (restrict (set_of K) t ≡ some r)
required_tree K t y k h = go (restrict (set_of K) t) refl
  where
    go : (o : Option Tree) → restrict (set_of K) t ≡ o → (r : Tree) × (restrict (set_of K) t ≡ some r)
    go none e = clash h (restrict_empty (set_of K) t e y k)
    go (some r) e = (r, e)

-- both trees have one normal form of the required leaves' tree
pub one_normal : (s t r : Tree) (K : List Label) → distinct (leaves s) ≡ true → distinct (leaves t) ≡ true → Common s t (set_of K)
    → Agree s t (set_of K) → restrict (set_of K) s ≡ some r → (u : Tree) × (restrict (set_of K) t ≡ some u) × (normal r ≡ normal u)
one_normal s t r K ds dt c g e = go (agree_restrict s t (set_of K) ds dt c g) e refl
  where
    go : {o v : Option Tree} → SameKept o v → o ≡ some r → restrict (set_of K) t ≡ v
        → (u : Tree) × (restrict (set_of K) t ≡ some u) × (normal r ≡ normal u)
    go both_none i j = let z : ◌≡◌ {A = Bool} true false = cc in clash refl z
    go (both_some {p} {q} n) i j =
        let a : p ≡ r = cc in
        let d : distinct (leaves p) ≡ true = ap (λ (v : Tree). distinct (leaves v)) a ∙ restrict_distinct (set_of K) s r e ds in
        (q, j, ap normal (sym a) ∙ normal_of_same n d)

-- a place is known by its number
by_number : (r : Tree) (i j : ℕ) (p q : List Label) → distinct (leaves r) ≡ true → At (clades_of (normal r)) i p
    → At (clades_of (normal r)) j q → same_set p q ≡ eqb i j
by_number r i j p q d h k = test_ext (same_set p q) (eqb i j) there back
  where
    dn : distinct (leaves (normal r)) ≡ true
    dn = same_distinct (tree_sym (normal_same r)) d

    there : same_set p q ≡ true → eqb i j ≡ true
    there e = eq-eqb i j (places_once (normal r) dn i j q (rw (set_eq p q e) at h) k)

    back : eqb i j ≡ true → same_set p q ≡ true
    back e = eq_set p q (at_same (clades_of (normal r)) j p q (rw (eqb-true i j e) at h) k)

module _ (s t : Tree) (K : List Label) (r : Tree) (ds : distinct (leaves s) ≡ true) (dt : distinct (leaves t) ≡ true)
    (dk : distinct K ≡ true) (c : Common s t (set_of K)) (g : Agree s t (set_of K)) (e : restrict (set_of K) s ≡ some r) where
  -- "their common restricted tree has 2k - 1 places"
  pub required_places : length (clades_of (normal r)) + 1 ≡ 2 * length K
  required_places =
      omega (arith, clades_count (normal r), same_length (normal_same r), restrict_count K s r ds dk (λ y m. (c y m).0) e)

  -- both trees' places are among them, with the number that the leaf gets in each
  pub places_numbered : (x : Label)
      → At (clades_of (normal r)) (line_in K s x (2 * length K - 2)) (place_of K s x)
      × At (clades_of (normal r)) (line_in K t x (2 * length K - 2)) (place_of K t x)
  places_numbered x =
      let o = one_normal s t r K ds dt c g e in
      let ks : length (leaves r) ≡ length K = restrict_count K s r ds dk (λ y m. (c y m).0) e in
      let kt : length (leaves o.0) ≡ length K = restrict_count K t o.0 dt dk (λ y m. (c y m).1) o.1 in
      (rw (← ks) (place_number K s x r ds e), rw (← kt, o.2) (place_number K t x o.0 dt o.1))

  -- a leaf hangs at a place in both trees exactly if both numbers are the place's
  pub hangs_by_number : (j : ℕ) (q : List Label) → At (clades_of (normal r)) j q → (x : Label)
      → hangs_at s t K q x
      ≡ (not (is_in x K) && (eqb (line_in K s x (2 * length K - 2)) j && eqb (line_in K t x (2 * length K - 2)) j))
  unfolding hangs_at
  hangs_by_number j q at x =
      let dr : distinct (leaves r) ≡ true = restrict_distinct (set_of K) s r e ds in
      ap (λ (b : Bool). not (is_in x K) && b)
      (ap₂ ◌&&◌ (by_number r (line_in K s x (2 * length K - 2)) j (place_of K s x) q dr (places_numbered x).0 at)
      (by_number r (line_in K t x (2 * length K - 2)) j (place_of K t x) q dr (places_numbered x).1 at))

  pub hanging_by_number : (j : ℕ) (q : List Label) → At (clades_of (normal r)) j q
      → hanging s t K q
      ≡ keep (λ x. not (is_in x K) && (eqb (line_in K s x (2 * length K - 2)) j && eqb (line_in K t x (2 * length K - 2)) j)) (common s t)
  unfolding hanging
  hanging_by_number j q at =
      keep_cong (hangs_at s t K q)
      (λ x. not (is_in x K) && (eqb (line_in K s x (2 * length K - 2)) j && eqb (line_in K t x (2 * length K - 2)) j))
      (common s t) (λ x m. hangs_by_number j q at x)
