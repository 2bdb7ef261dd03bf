-- Columns as they are stored: each node's entries, that their shape keeps indices in range, and that a tree's arrays give the tree's
-- columns. Assumes nothing.
use Rattle.std.proofs.Common.{◌≡◌, ℕ, zero, suc, ◌+◌, ◌-◌, ◌%◌, ◌<◌, ◌≤◌, min, true, false, eqb, ltb, ◌⊎◌, List, length, get_or, set, replicate, sym, refl, ap, ◌∙◌, subst, inl, inr, arith, length-set, get_or-set_other, get_or-set_same, ltb-false, ltb-true, le-ltb, lt-ltb, eq-eqb, ne_eqb, eqb-true, slice_index}
use Rattle.table.specs.declared.columns.TreeColumns.{TreeColumns}
use lib.ListN.{length-replicate, get_or-append}
use borrow.Author.Tests.{eqb-false}
use Rattle.trees.specs.declared.TreeArrays.{TreeArrays}
use Rattle.trees.specs.Label.{Label}
use Rattle.trees.specs.Tree.{Tree, leaf, node, decoded, Valid, leaf_limit}
use Rattle.trees.specs.declared.Edition.{Edition}
use Rattle.trees.specs.Edition.{folded, keyed, ValidIn}
use Rattle.trees.proofs.EditionLaws.{valid_folded, arrays_folded}
use Rattle.trees.specs.Arrays.{nodes_of, arrays_of, lefts, rights, node_limit}
use Rattle.trees.specs.Postorder.{postorder, subtree, LaidNode, laid_leaf, laid_node}
use Rattle.trees.proofs.Bools.{bool_cases}
use Rattle.trees.proofs.EntryLaws.{below_next}
use Rattle.trees.proofs.TokenLaws.{valid_decoded}
use Rattle.trees.proofs.DecodedLaws.{decoded_nodes, decoded_left, decoded_right}
use Rattle.trees.proofs.ArrayLaws.{nodes_leaves, nodes_pos, lefts_length, rights_length}
use Rattle.trees.proofs.PostorderLaws.{length_postorder, subtree_few, leaf_once, at_left, at_right, at_root}
use Rattle.trees.proofs.PostorderLaws.{Third, in_first_lem, in_second_lem, at_last, third, third_first, third_second, third_last}
use Rattle.leaves.proofs.OwnLaws.{own_laid}
use Rattle.table.specs.Table.{join_need, need, LeafOf, no_leaf, one_leaf, Spans, Columns}
use Rattle.table.specs.Columns.{child_at, need_at, low_at, leaf_place, SizedColumns, OthersKept, NodeIs, NodePut, Gathered}
use Rattle.table.specs.Choice.{Ranked, Given}
use Rattle.table.specs.Solving.{Rooted, OwnColumns}
use Rattle.table.proofs.RowLaws.{NodeCase, is_leaf, is_node_lem, node_case}
use Rattle.table.proofs.FillLaws.{need_node, few_rows}

-- children as they are stored

module _ (a b u : ℕ) where
  pub child_before : a < u → b < u → child_at a b u ≡ a
  unfolding child_at
  child_before ha hb = rw (lt-ltb a u ha, lt-ltb b u hb) refl

  pub child_first : u ≤ a → child_at a b u ≡ u
  unfolding child_at
  child_first ha = rw (le-ltb a u ha) refl

  pub child_second : a < u → u ≤ b → child_at a b u ≡ u
  unfolding child_at
  child_second ha hb = rw (lt-ltb a u ha, le-ltb b u hb) refl

-- both are stored as they are, or both as the node itself
data Children (a b u : ℕ) : Type 0 where
  two : a < u → b < u → child_at a b u ≡ a → child_at b a u ≡ b → Children a b u
  none : child_at a b u ≡ u → child_at b a u ≡ u → Children a b u

children : (a b u : ℕ) → Children a b u
children a b u = go (bool_cases (ltb a u)) (bool_cases (ltb b u))
  where
    go : (ltb a u ≡ true) ⊎ (ltb a u ≡ false) → (ltb b u ≡ true) ⊎ (ltb b u ≡ false) → Children a b u
    go (inl p) (inl q) =
        let ha = ltb-true a u p in
        let hb = ltb-true b u q in
        two ha hb (child_before a b u ha hb) (child_before b a u hb ha)
    go (inl p) (inr q) =
        let hb = ltb-false b u q in
        none (child_second a b u (ltb-true a u p) hb) (child_first b a u hb)
    go (inr p) (inl q) =
        let ha = ltb-false a u p in
        none (child_first a b u ha) (child_second b a u (ltb-true b u q) ha)
    go (inr p) (inr q) = none (child_first a b u (ltb-false a u p)) (child_first b a u (ltb-false b u q))

child_laid : {ts : List Tree} {l r u : ℕ} {t : Tree} → LaidNode ts l r u t → LaidNode ts (child_at l r u) (child_at r l u) u t
child_laid {l = l} {r = r} {u = u} (laid_leaf e) = laid_leaf (child_first l r u (omega arith))
child_laid {l = l} {r = r} {u = u} (laid_node p q) = rw (child_before l r u p q, child_before r l u q p) (laid_node p q)

-- what a node's entries take from those of its children
module _ (a b u : ℕ) (old new : TreeColumns) (kept : (q : ℕ) → q < u → (get_or new.rows q 0 ≡ get_or old.rows q 0) × (get_or new.low q 0 ≡ get_or old.low q 0)) where
  same_need : Children a b u → need_at old u (child_at a b u) (child_at b a u) ≡ need_at new u (child_at a b u) (child_at b a u)
  same_need (none e f) = rw (eq-eqb (child_at a b u) u e) refl
  same_need (two l r e f) = rw (e, f, (kept a l).0, (kept b r).0) refl

  same_low : Children a b u → low_at old u (child_at a b u) ≡ low_at new u (child_at a b u)
  same_low (none e f) = rw (eq-eqb (child_at a b u) u e) refl
  same_low (two l r e f) = rw (e, (kept a l).1) refl

-- the entries of a node

module _ (old : TreeColumns) (u left right rank a b n need low place xa xb xn xneed xlow xu : ℕ) (hu : u < 159) (ea : a ≡ child_at left right u)
    (eb : b ≡ child_at right left u) (ha : a ≤ u) (hb : b ≤ u) (needed : need ≡ need_at old u a b) (lowest : low ≡ low_at old u a)
    (en : n ≡ min rank 80) (placed : place ≡ leaf_place u a n) (pa : xa ≡ a % 256) (pb : xb ≡ b % 256) (pn : xn ≡ n % 256)
    (pneed : xneed ≡ need % 256) (plow : xlow ≡ low % 256) (pu : xu ≡ u % 256) where
  abbrev new : TreeColumns
  new = record {
    left = set old.left u xa;
    right = set old.right u xb;
    rank = set old.rank u xn;
    rows = set old.rows u xneed;
    low = set old.low u xlow;
    leaf = set old.leaf place xu;
    nodes = old.nodes;
  }

  others : OthersKept u old new
  others = record {
    left = λ q d. get_or-set_other old.left u q xa 0 d;
    right = λ q d. get_or-set_other old.right u q xb 0 d;
    rank = λ q d. get_or-set_other old.rank u q xn 0 d;
    rows = λ q d. get_or-set_other old.rows u q xneed 0 d;
    low = λ q d. get_or-set_other old.low u q xlow 0 d;
  }

  below : (q : ℕ) → q < u → (get_or new.rows q 0 ≡ get_or old.rows q 0) × (get_or new.low q 0 ≡ get_or old.low q 0)
  below q l = (others.rows q (λ e. omega arith), others.low q (λ e. omega arith))

  module _ (size : SizedColumns old) where
    a_is : get_or new.left u 0 ≡ a
    a_is = get_or-set_same old.left u xa 0 (omega (arith, size.left_size)) ∙ omega arith

    n_is : get_or new.rank u 0 ≡ n
    n_is = get_or-set_same old.rank u xn 0 (omega (arith, size.rank_size)) ∙ omega arith

    leaf_place_lem : a ≡ u → place ≡ get_or new.rank u 0
    leaf_place_lem e = placed ∙ (rw (eq-eqb a u e) (sym n_is))

    no_place : (r : ℕ) → r ≤ 80 → (get_or new.left u 0 ≡ u → get_or new.rank u 0 ≡ r → ⊥) → r ≡ place → ⊥
    no_place r h ne e = go (bool_cases (eqb a u))
      where
        go : (eqb a u ≡ true) ⊎ (eqb a u ≡ false) → ⊥
        go (inl k) = let d = eqb-true a u k in ne (a_is ∙ d) (sym (e ∙ leaf_place_lem d))
        go (inr k) = let d : place ≡ 81 = placed ∙ (rw k refl) in omega arith

    place_small : place ≤ 81
    place_small = go (bool_cases (eqb a u))
      where
        go : (eqb a u ≡ true) ⊎ (eqb a u ≡ false) → place ≤ 81
        go (inl k) = let d : place ≡ n = placed ∙ (rw k refl) in omega arith
        go (inr k) = let d : place ≡ 81 = placed ∙ (rw k refl) in omega arith

    node_is : NodeIs left right rank u new
    node_is = record {
      left_is = a_is ∙ ea;
      right_is = get_or-set_same old.right u xb 0 (omega (arith, size.right_size)) ∙ omega (arith, eb);
      rank_is = n_is ∙ en;
      need_is =
          get_or-set_same old.rows u xneed 0 (omega (arith, size.rows_size)) ∙ pneed
          ∙ (rw (needed, ea, eb, same_need left right u old new below (children left right u)) refl);
      low_is =
          get_or-set_same old.low u xlow 0 (omega (arith, size.low_size)) ∙ plow
          ∙ (rw (lowest, ea, same_low left right u old new below (children left right u)) refl);
    }

  pub node_put : NodePut u left right rank old new
  node_put = record {
    size = λ s. record {
      left_size = length-set old.left u xa ∙ s.left_size;
      right_size = length-set old.right u xb ∙ s.right_size;
      rank_size = length-set old.rank u xn ∙ s.rank_size;
      rows_size = length-set old.rows u xneed ∙ s.rows_size;
      low_size = length-set old.low u xlow ∙ s.low_size;
      leaf_size = length-set old.leaf place xu ∙ s.leaf_size;
    };
    is = node_is;
    others = others;
    leaf_is = λ size e.
        ap (λ (k : ℕ). get_or new.leaf k 0) (sym (leaf_place_lem size (sym (a_is size) ∙ e)))
        ∙ get_or-set_same old.leaf place xu 0 (omega (arith, size.leaf_size, place_small size)) ∙ omega arith;
    leaves_kept = λ size r h ne. get_or-set_other old.leaf place r xu 0 (no_place size r h ne);
    nodes_kept = refl;
  }

-- node by node

node_kept : (a b rank u n : ℕ) (old new : TreeColumns) → u < n → OthersKept n old new → NodeIs a b rank u old → NodeIs a b rank u new
node_kept a b rank u n old new hu kept is = record {
  left_is = kept.left u (λ e. omega arith) ∙ is.left_is;
  right_is = kept.right u (λ e. omega arith) ∙ is.right_is;
  rank_is = kept.rank u (λ e. omega arith) ∙ is.rank_is;
  need_is = kept.rows u (λ e. omega arith) ∙ is.need_is ∙ ap (λ (k : ℕ). k % 256) (same_need a b u old new below (children a b u));
  low_is = kept.low u (λ e. omega arith) ∙ is.low_is ∙ ap (λ (k : ℕ). k % 256) (same_low a b u old new below (children a b u));
}
  where
    below : (q : ℕ) → q < u → (get_or new.rows q 0 ≡ get_or old.rows q 0) × (get_or new.low q 0 ≡ get_or old.low q 0)
    below q l = (kept.rows q (λ e. omega arith), kept.low q (λ e. omega arith))

pub gathered_next : (n : ℕ) (left right rank : List ℕ) (nodes : ℕ) (old new : TreeColumns) → Gathered n left right rank nodes old
    → NodePut n (get_or left n 0) (get_or right n 0) (get_or rank n 0) old new → Gathered (n + 1) left right rank nodes new
gathered_next n left right rank nodes old new g p = record {
  size = p.size g.size;
  count = p.nodes_kept ∙ g.count;
  each =
      below_next (λ u. NodeIs (get_or left u 0) (get_or right u 0) (get_or rank u 0) u new) n
      (λ u l. node_kept (get_or left u 0) (get_or right u 0) (get_or rank u 0) u n old new l p.others (g.each u l)) (p.is g.size);
  leaf_of = λ r h. go r h (bool_cases (eqb (get_or new.left n 0) n)) (bool_cases (eqb (get_or new.rank n 0) r));
}
  where
    same_left : (u : ℕ) → u < n → get_or new.left u 0 ≡ get_or old.left u 0
    same_left u h = p.others.left u (λ e. omega arith)

    same_rank : (u : ℕ) → u < n → get_or new.rank u 0 ≡ get_or old.rank u 0
    same_rank u h = p.others.rank u (λ e. omega arith)

    later : (r : ℕ) → (get_or new.left n 0 ≡ n → get_or new.rank n 0 ≡ r → ⊥) → LeafOf old n r (get_or old.leaf r 0)
        → LeafOf new (n + 1) r (get_or old.leaf r 0)
    later r ne (no_leaf e f) =
        no_leaf e
        (below_next (λ u. get_or new.left u 0 ≡ u → get_or new.rank u 0 ≡ r → ⊥) n
        (λ u l a b. f u l (sym (same_left u l) ∙ a) (sym (same_rank u l) ∙ b)) ne)
    later r ne (one_leaf l a b) = one_leaf (omega arith) (same_left _ l ∙ a) (same_rank _ l ∙ b)

    stays : (r : ℕ) → r ≤ 80 → (get_or new.left n 0 ≡ n → get_or new.rank n 0 ≡ r → ⊥) → LeafOf new (n + 1) r (get_or new.leaf r 0)
    stays r h ne = subst (LeafOf new (n + 1) r) (sym (p.leaves_kept g.size r h ne)) (later r ne (g.leaf_of r h))

    go : (r : ℕ) → r ≤ 80 → (eqb (get_or new.left n 0) n ≡ true) ⊎ (eqb (get_or new.left n 0) n ≡ false)
        → (eqb (get_or new.rank n 0) r ≡ true) ⊎ (eqb (get_or new.rank n 0) r ≡ false) → LeafOf new (n + 1) r (get_or new.leaf r 0)
    go r h (inr k) q = stays r h (λ a b. eqb-false (get_or new.left n 0) n k a)
    go r h (inl k) (inr q) = stays r h (λ a b. eqb-false (get_or new.rank n 0) r q b)
    go r h (inl k) (inl q) =
        let a = eqb-true (get_or new.left n 0) n k in
        let b = eqb-true (get_or new.rank n 0) r q in
        subst (LeafOf new (n + 1) r) (sym (ap (λ (m : ℕ). get_or new.leaf m 0) (sym b) ∙ p.leaf_is g.size a)) (one_leaf (omega arith) a b)

filled_with : (a d n i : ℕ) → i < n → get_or (replicate n a) i d ≡ a
filled_with a d zero i h = absurd (omega arith)
filled_with a d (suc n) zero h = refl
filled_with a d (suc n) (suc i) h = filled_with a d n i (omega arith)

pub gathered_none : (left right rank : List ℕ) (nodes : ℕ) → Gathered 0 left right rank nodes (record {
  left = replicate 159 0;
  right = replicate 159 0;
  rank = replicate 159 0;
  rows = replicate 159 0;
  low = replicate 159 0;
  leaf = replicate 159 255;
  nodes = nodes;
})
gathered_none left right rank nodes = record {
  size = record {
    left_size = length-replicate {A = ℕ} 159 0;
    right_size = length-replicate {A = ℕ} 159 0;
    rank_size = length-replicate {A = ℕ} 159 0;
    rows_size = length-replicate {A = ℕ} 159 0;
    low_size = length-replicate {A = ℕ} 159 0;
    leaf_size = length-replicate {A = ℕ} 159 255;
  };
  count = refl;
  each = λ u h. absurd (omega arith);
  leaf_of = λ r h. no_leaf (filled_with 255 0 159 r (omega arith)) (λ u l. absurd (omega arith));
}

-- all nodes

module _ (left right rank : List ℕ) (nodes : ℕ) (columns : TreeColumns) (g : Gathered nodes left right rank nodes columns) where
  pub rooted : 0 < nodes → nodes ≤ 159 → Rooted columns
  rooted some few = record {
    shape = record {
      few = omega (arith, g.count);
      left_low = λ u l. (low u (here u l) (children _ _ u)).0;
      right_low = λ u l. (low u (here u l) (children _ _ u)).1;
      inner = λ u l n. inner' u (here u l) n (children _ _ u);
      ranked = λ u l. omega (arith, (g.each u (here u l)).rank_is);
    };
    root = omega (arith, g.count);
  }
    where
      here : (u : ℕ) → u < columns.nodes → u < nodes
      here u l = omega (arith, g.count)

      low : (u : ℕ) → u < nodes → Children (get_or left u 0) (get_or right u 0) u → (slice_index columns.left u ≤ u) × (slice_index columns.right u ≤ u)
      low u l (two a b e f) = (omega (arith, (g.each u l).left_is, e), omega (arith, (g.each u l).right_is, f))
      low u l (none e f) = (omega (arith, (g.each u l).left_is, e), omega (arith, (g.each u l).right_is, f))

      inner' : (u : ℕ) → u < nodes → (slice_index columns.left u ≡ u → ⊥) → Children (get_or left u 0) (get_or right u 0) u → slice_index columns.right u < u
      inner' u l n (two a b e f) = omega (arith, (g.each u l).right_is, f)
      inner' u l n (none e f) = absurd (n ((g.each u l).left_is ∙ e))

-- in a tree's arrays the right child is the node before, and the nodes below it come between both children

abbrev Near : ℕ → ℕ → ℕ → Tree → Type 0
Near l r k (leaf x) = l ≡ k
Near l r k (node a b) = (r + 1 ≡ k) × (l + 1 + nodes_of b ≡ k)

abbrev NearFrom : Tree → ℕ → Type 0
NearFrom t n = (i : ℕ) → i < nodes_of t → Near (get_or (lefts t n) i 0) (get_or (rights t n) i 0) (n + i) (subtree (postorder t) i)

near_split : (a b : Tree) (n : ℕ) → NearFrom a n → NearFrom b (n + nodes_of a) → (i : ℕ) → Third (nodes_of a) (nodes_of b) i
    → Near (get_or (lefts (node a b) n) i 0) (get_or (rights (node a b) n) i 0) (n + i) (subtree (postorder (node a b)) i)
unfolding lefts rights
near_split a b n p q i (in_first_lem h) =
    rw (
      third_first (lefts a n) (lefts b (n + nodes_of a)) (n + nodes_of a - 1) 0 i (omega (arith, lefts_length a n)),
      third_first (rights a n) (rights b (n + nodes_of a)) (n + nodes_of a + nodes_of b - 1) 0 i (omega (arith, rights_length a n)),
      at_left a b i h,
    )
    (p i h)
near_split a b n p q i (in_second_lem j h e) =
    rw (
      third_second (lefts a n) (lefts b (n + nodes_of a)) (n + nodes_of a - 1) 0 (nodes_of a) i j (lefts_length a n)
          (omega (arith, lefts_length b (n + nodes_of a))) e,
      third_second (rights a n) (rights b (n + nodes_of a)) (n + nodes_of a + nodes_of b - 1) 0 (nodes_of a) i j (rights_length a n)
          (omega (arith, rights_length b (n + nodes_of a))) e,
      at_right a b i j h e,
    )
    (subst (λ (k : ℕ). Near (get_or (lefts b (n + nodes_of a)) j 0) (get_or (rights b (n + nodes_of a)) j 0) k (subtree (postorder b) j))
    (omega arith) (q j h))
near_split a b n p q i (at_last e) =
    rw (
      third_last (lefts a n) (lefts b (n + nodes_of a)) (n + nodes_of a - 1) 0 (nodes_of a) (nodes_of b) i (lefts_length a n)
          (lefts_length b (n + nodes_of a)) e,
      third_last (rights a n) (rights b (n + nodes_of a)) (n + nodes_of a + nodes_of b - 1) 0 (nodes_of a) (nodes_of b) i
          (rights_length a n) (rights_length b (n + nodes_of a)) e,
      at_root a b i e,
    )
    (omega (arith, nodes_pos a, nodes_pos b), omega (arith, nodes_pos a))

near_from : (t : Tree) (n : ℕ) → NearFrom t n
unfolding lefts rights nodes_of postorder
near_from (leaf x) n zero h = omega arith
near_from (leaf x) n (suc i) h = absurd (omega arith)
near_from (node a b) n i h = near_split a b n (near_from a n) (near_from b (n + nodes_of a)) i (third (nodes_of a) (nodes_of b) i h)

near_arrays : (t : Tree) (u : ℕ) → u < nodes_of t
    → Near (get_or (arrays_of t).left u 0) (get_or (arrays_of t).right u 0) u (subtree (postorder t) u)
unfolding arrays_of
near_arrays t u h =
    rw (
      get_or-append (lefts t 0) (replicate (node_limit - length (lefts t 0)) 0) 0 u (omega (arith, lefts_length t 0)),
      get_or-append (rights t 0) (replicate (node_limit - length (rights t 0)) 0) 0 u (omega (arith, rights_length t 0)),
    )
    (subst (λ (k : ℕ). Near (get_or (lefts t 0) u 0) (get_or (rights t 0) u 0) k (subtree (postorder t) u)) (omega arith) (near_from t 0 u h))

nodes_node : (t p q : Tree) → t ≡ node p q → nodes_of t ≡ nodes_of p + nodes_of q + 1
unfolding nodes_of
nodes_node t p q e = rw e refl

nodes_leaf : (t : Tree) (x : Label) → t ≡ leaf x → nodes_of t ≡ 1
unfolding nodes_of
nodes_leaf t x e = rw e refl

need_leaf : (t : Tree) (x : Label) → t ≡ leaf x → need t ≡ 0
unfolding need
need_leaf t x e = rw e refl

module _ (t : Tree) (C : List Label) (tree : TreeArrays) (rank : List ℕ) (few-C : length C ≤ 80) (h : Given t C tree rank) (nodes : ℕ)
    (nodes_are : 0 < tree.nodes → tree.nodes ≤ 159 → nodes ≡ tree.nodes) (columns : TreeColumns)
    (g : Gathered nodes tree.left tree.right rank nodes columns) where
  all : nodes ≡ nodes_of t
  all =
      let e = h.nodes_are in
      nodes_are (omega (arith, nodes_pos t)) (omega (arith, nodes_leaves t, h.proper.few)) ∙ e

  laid : (u : ℕ) → u < nodes_of t → LaidNode (postorder t) (slice_index columns.left u) (slice_index columns.right u) u (subtree (postorder t) u)
  laid u l =
      let is = g.each u (omega (arith, all)) in
      rw (is.left_is, is.right_is, h.left_are, h.right_are) (child_laid (own_laid t u (omega (arith, length_postorder t))))

  -- by induction over node numbers
  needs_to : (n u : ℕ) → u < n → u < nodes_of t → slice_index columns.rows u ≡ need (subtree (postorder t) u)
  needs_to zero u k l = absurd (omega arith)
  needs_to (suc n) u k l = go (node_case (laid u l)) (λ v kv lv. needs_to n v kv lv)
    where
      own_few : need (subtree (postorder t) u) ≤ 6
      own_few = few_rows (subtree (postorder t) u) (subtree_few leaf_limit t h.proper.few u l)

      own_need : slice_index columns.rows u ≡ need_at columns u (slice_index columns.left u) (slice_index columns.right u) % 256
      own_need = let is = g.each u (omega (arith, all)) in rw (is.left_is, is.right_is) is.need_is

      go : NodeCase (postorder t) (slice_index columns.left u) (slice_index columns.right u) u (subtree (postorder t) u)
          → ((v : ℕ) → v < n → v < nodes_of t → slice_index columns.rows v ≡ need (subtree (postorder t) v))
          → slice_index columns.rows u ≡ need (subtree (postorder t) u)
      go (is_leaf x e p) ih =
          own_need ∙ (rw (eq-eqb (slice_index columns.left u) u e) refl) ∙ sym (need_leaf (subtree (postorder t) u) x p)
      go (is_node_lem a b p) ih =
          let q : need (subtree (postorder t) u) ≡ join_need (slice_index columns.rows (slice_index columns.left u)) (slice_index columns.rows (slice_index columns.right u)) =
          need_node (subtree (postorder t) u) _ _ p
          ∙ (rw (ih (slice_index columns.left u) (omega arith) (omega arith), ih (slice_index columns.right u) (omega arith) (omega arith)) refl) in
          let k : slice_index columns.rows u ≡ join_need (slice_index columns.rows (slice_index columns.left u)) (slice_index columns.rows (slice_index columns.right u)) % 256 =
          own_need ∙ (rw (ne_eqb (slice_index columns.left u) u (omega arith)) refl) in
          omega (arith, k, q, own_few)

  here : (u : ℕ) → u < nodes_of t → NodeIs (get_or tree.left u 0) (get_or tree.right u 0) (get_or rank u 0) u columns
  here u l = g.each u (omega (arith, all))

  near_own : (u : ℕ) → u < nodes_of t → (p q : Tree) → slice_index columns.left u < u → subtree (postorder t) u ≡ node p q
      → (slice_index columns.right u + 1 ≡ u) × (slice_index columns.left u + 1 + nodes_of q ≡ u)
  near_own u l p q low e = go (children (get_or tree.left u 0) (get_or tree.right u 0) u)
    where
      near : (get_or tree.right u 0 + 1 ≡ u) × (get_or tree.left u 0 + 1 + nodes_of q ≡ u)
      near = rw (h.left_are, h.right_are) (rw e at (near_arrays t u l))

      go : Children (get_or tree.left u 0) (get_or tree.right u 0) u
          → (slice_index columns.right u + 1 ≡ u) × (slice_index columns.left u + 1 + nodes_of q ≡ u)
      go (two a b d f) = (omega (arith, (here u l).right_is, f, near.0), omega (arith, (here u l).left_is, d, near.1))
      go (none d f) = absurd (omega (arith, (here u l).left_is, d))

  leaf_low : (u : ℕ) → u < nodes_of t → slice_index columns.left u ≡ u → slice_index columns.low u ≡ u
  leaf_low u l e =
      let own : slice_index columns.low u ≡ u % 256 =
      (here u l).low_is ∙ (rw (eq-eqb (child_at (get_or tree.left u 0) (get_or tree.right u 0) u) u (sym (here u l).left_is ∙ e)) refl) in
      omega (arith, own, nodes_leaves t, h.proper.few)

  -- the nodes below node u end with it
  low_to : (n u : ℕ) → u < n → u < nodes_of t → slice_index columns.low u + nodes_of (subtree (postorder t) u) ≡ u + 1
  low_to zero u k l = absurd (omega arith)
  low_to (suc n) u k l = go (node_case (laid u l)) (λ v kv lv. low_to n v kv lv)
    where
      go : NodeCase (postorder t) (slice_index columns.left u) (slice_index columns.right u) u (subtree (postorder t) u)
          → ((v : ℕ) → v < n → v < nodes_of t → slice_index columns.low v + nodes_of (subtree (postorder t) v) ≡ v + 1)
          → slice_index columns.low u + nodes_of (subtree (postorder t) u) ≡ u + 1
      go (is_leaf x e p) ih = omega (arith, leaf_low u l e, nodes_leaf (subtree (postorder t) u) x p)
      go (is_node_lem a b p) ih =
          let is = here u l in
          let own : slice_index columns.low u ≡ slice_index columns.low (slice_index columns.left u) % 256 =
          (rw is.left_is (is.low_is ∙ (rw (ne_eqb (child_at (get_or tree.left u 0) (get_or tree.right u 0) u) u (omega (arith, is.left_is))) refl))) in
          omega (
            arith,
            own,
            ih (slice_index columns.left u) (omega arith) (omega arith),
            nodes_node (subtree (postorder t) u) _ _ p,
            (near_own u l _ _ a p).1,
            nodes_leaves t,
            h.proper.few,
          )

  lows : (u : ℕ) → u < nodes_of t → slice_index columns.low u + nodes_of (subtree (postorder t) u) ≡ u + 1
  lows u l = low_to (suc u) u (omega arith) l

  own_spans : (u : ℕ) → u < nodes_of t → (slice_index columns.left u ≡ u → ⊥) → Spans columns u
  own_spans u l n = go (node_case (laid u l))
    where
      go : NodeCase (postorder t) (slice_index columns.left u) (slice_index columns.right u) u (subtree (postorder t) u) → Spans columns u
      go (is_leaf x e p) = absurd (n e)
      go (is_node_lem a b p) =
          let near = near_own u l _ _ a p in
          record {
            right_last = near.0;
            right_low = omega (arith, near.0, near.1, lows (slice_index columns.right u) (omega arith));
            left_low =
                omega (arith, near.1, lows u l, lows (slice_index columns.left u) (omega arith), nodes_node (subtree (postorder t) u) _ _ p);
          }

  own_are : Columns columns nodes (postorder t)
  own_are = record {
    laid = λ v l. laid v (omega (arith, all));
    count = length_postorder t ∙ sym all;
    once = λ u v x hu hv. leaf_once t h.proper.different u v (omega (arith, all)) (omega (arith, all)) x;
    leaf_of = g.leaf_of;
    low = λ v l. omega (arith, lows v (omega (arith, all)), nodes_pos (subtree (postorder t) v));
    leaf_low = λ v l. leaf_low v (omega (arith, all));
    spans = λ v l. own_spans v (omega (arith, all));
  }

  pub own_columns : OwnColumns t C columns
  own_columns = record {
    proper = h.proper;
    nodes_is = g.count ∙ all;
    columns_are = subst (λ (n : ℕ). Columns columns n (postorder t)) (sym g.count) own_are;
    needs = λ u l. needs_to (suc u) u (omega arith) (omega (arith, g.count, all));
    held = λ u r l is. omega (arith, (g.each u (omega (arith, all, is.below))).rank_is, h.ranked.held u r l is);
    other = λ u x is n. omega (arith, (g.each u (omega (arith, all, is.below))).rank_is, h.ranked.other u x is n);
  }

-- the arrays of a tree as it was read, for the tree that it stands for
pub given_read : (t : Tree) (C : List Label) (rank : List ℕ) → Valid t → Ranked (decoded t) C rank → Given (decoded t) C (arrays_of t) rank
unfolding arrays_of
given_read t C rank v ranked = record {
  proper = valid_decoded t v;
  nodes_are = sym (decoded_nodes t);
  left_are = sym (decoded_left t);
  right_are = sym (decoded_right t);
  ranked = ranked;
}

pub given_in : (e : Edition) (t : Tree) (C : List Label) (rank : List ℕ) → ValidIn e t → Ranked (keyed e t) C rank
    → Given (keyed e t) C (arrays_of t) rank
given_in e t C rank v ranked = rw (← arrays_folded e t) (given_read (folded e t) C rank (valid_folded e t v) ranked)
