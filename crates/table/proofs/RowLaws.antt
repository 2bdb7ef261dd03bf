-- Laws of rows: the value computed for a cell is that of the recurrence, a stored cell leaves the others alone, and so a row is made.
-- Assumes nothing.
use Rattle.std.proofs.Common.{◌≡◌, ℕ, zero, suc, ◌+◌, ◌*◌, ◌<◌, ◌≤◌, max, true, false, cond, eqb, ltb, ◌⊎◌, List, length, set, sym, refl, ap, ◌∙◌, ap₂, inl, inr, arith, length-set, get_or-set_other, get_or-set_same, ltb-false, ltb-true, le-ltb, lt-ltb, eq-eqb, ne_eqb, eqb-true, le-leb, get_or, slice_index}
use Rattle.table.specs.declared.columns.TreeColumns.{TreeColumns}
use native.Mathlib.Decide.{dec_le}
use borrow.Author.Tests.{eqb-false, lt-leb}
use Rattle.trees.specs.Label.{Label, same_label}
use Rattle.trees.specs.Tree.{Tree, leaf, node, leaves, leaf_limit}
use Rattle.trees.specs.Postorder.{subtree, LaidNode, laid_leaf, laid_node}
use Rattle.trees.proofs.Bools.{bool_cases}
use Rattle.trees.proofs.LabelLaws.{same_cases}
use Rattle.trees.proofs.EntryLaws.{below_next}
use Rattle.agreement.specs.Weights.{best}
use Rattle.table.specs.Table.{weight_place, inner_at, cell_at, span_at, Outside}
use Rattle.table.specs.Table.{Shape, Columns, RowTo, Light, RankIs, InnerRow, SpanRow}
use Rattle.table.specs.Table.{LeafOf, no_leaf, one_leaf, Spans}
use Rattle.table.proofs.RecurrenceLaws.{two_leaves, leaf_node, node_leaf, two_nodes}

-- what columns tell of node u
pub data NodeCase (ts : List Tree) (l r u : ℕ) (t : Tree) : Type 0 where
  is_leaf : (x : Label) → l ≡ u → t ≡ leaf x → NodeCase ts l r u t
  is_node_lem : l < u → r < u → t ≡ node (subtree ts l) (subtree ts r) → NodeCase ts l r u t

pub node_case : {ts : List Tree} {l r u : ℕ} {t : Tree} → LaidNode ts l r u t → NodeCase ts l r u t
node_case (laid_leaf {x} e) = is_leaf x e refl
node_case (laid_node p q) = is_node_lem p q refl

-- the cell of a leaf

module _ (second : TreeColumns) (weight at v : ℕ) where
  pub span_before : v < at → span_at second weight at v ≡ 0
  unfolding span_at
  span_before h = rw (lt-ltb v at h) refl

  pub span_in_lem : at ≤ v → slice_index second.low v ≤ at → span_at second weight at v ≡ weight
  unfolding span_at
  span_in_lem h k = rw (le-ltb v at h, le-leb (slice_index second.low v) at k) refl

  pub span_past : at ≤ v → at < slice_index second.low v → span_at second weight at v ≡ 0
  unfolding span_at
  span_past h k = rw (le-ltb v at h, lt-leb (slice_index second.low v) at k) refl

module _ (second : TreeColumns) (nodes : ℕ) (ts : List Tree) (w : Label → ℕ) (two : Columns second nodes ts) (few : nodes ≤ 159) (x : Label)
    (rank weight : ℕ) (small : rank ≤ 80) (is : RankIs second nodes ts w x rank weight) where
  abbrev at : ℕ
  at = slice_index second.leaf rank

  abbrev cell : ℕ → ℕ
  cell = span_at second weight at

  -- of two leaves with one rank, that rank weighs nothing
  twice : (u v : ℕ) (y z : Label) → u < nodes → v < nodes → subtree ts u ≡ leaf y → subtree ts v ≡ leaf z → slice_index second.rank u ≡ rank
      → slice_index second.rank v ≡ rank → (u ≡ v → ⊥) → weight ≡ 0
  twice u v y z hu hv p q ru rv apart = go (same_cases x y) (same_cases x z)
    where
      told : (k : ℕ) (a : Label) → k < nodes → subtree ts k ≡ leaf a → slice_index second.rank k ≡ rank → same_label x a ≡ false → weight ≡ 0
      told k a hk e r n =
          let d = is.is k hk a e in
          sym (rw (eq-eqb (slice_index second.rank k) rank r) refl) ∙ d ∙ (rw n refl)

      go : (x ≡ y) ⊎ (same_label x y ≡ false) → (x ≡ z) ⊎ (same_label x z ≡ false) → weight ≡ 0
      go (inr n) d = told u y hu p ru n
      go (inl e) (inr n) = told v z hv q rv n
      go (inl e) (inl d) = absurd (apart (two.once u v x hu hv (p ∙ ap leaf (sym e)) (q ∙ ap leaf (sym d))))

  leaf_cell : (v : ℕ) → v < nodes → (y : Label) → slice_index second.left v ≡ v → subtree ts v ≡ leaf y
      → cell v ≡ cond (eqb (slice_index second.rank v) rank) weight 0
  leaf_cell v hv y e p = go (two.leaf_of rank small)
    where
      low : slice_index second.low v ≡ v
      low = two.leaf_low v hv e

      nothing : (v ≡ at → ⊥) → cell v ≡ 0
      nothing ne = side (bool_cases (ltb v at))
        where
          side : (ltb v at ≡ true) ⊎ (ltb v at ≡ false) → cell v ≡ 0
          side (inl k) = span_before second weight at v (ltb-true v at k)
          side (inr k) = span_past second weight at v (ltb-false v at k) (omega (arith, low, ltb-false v at k, ne))

      other : (v ≡ at → ⊥) → at < nodes → slice_index second.left at ≡ at → slice_index second.rank at ≡ rank → (eqb (slice_index second.rank v) rank ≡ true) ⊎ (eqb (slice_index second.rank v) rank ≡ false)
          → 0 ≡ cond (eqb (slice_index second.rank v) rank) weight 0
      other ne l z r (inr k) = rw k refl
      other ne l z r (inl k) = rw k (label (node_case (two.laid at l)))
        where
          label : NodeCase ts (slice_index second.left at) (slice_index second.right at) at (subtree ts at) → 0 ≡ weight
          label (is_leaf a _ q) = sym (twice v at y a hv l p q (eqb-true (slice_index second.rank v) rank k) r ne)
          label (is_node_lem a b q) = absurd (omega arith)

      go : LeafOf second nodes rank at → cell v ≡ cond (eqb (slice_index second.rank v) rank) weight 0
      go (no_leaf d none) =
          span_before second weight at v (omega arith) ∙ (rw (ne_eqb (slice_index second.rank v) rank (none v hv e)) refl)
      go (one_leaf l z r) = here (bool_cases (eqb v at))
        where
          here : (eqb v at ≡ true) ⊎ (eqb v at ≡ false) → cell v ≡ cond (eqb (slice_index second.rank v) rank) weight 0
          here (inl k) =
              let d = eqb-true v at k in
              span_in_lem second weight at v (omega arith) (omega (arith, low, d))
              ∙ (rw (eq-eqb (slice_index second.rank v) rank (ap (slice_index second.rank) d ∙ r)) refl)
          here (inr k) = nothing (eqb-false v at k) ∙ other (eqb-false v at k) l z r (bool_cases (eqb (slice_index second.rank v) rank))

  inner_cell : (v : ℕ) → v < nodes → slice_index second.left v < v → slice_index second.right v < v
      → max (cell (slice_index second.left v)) (cell (slice_index second.right v)) ≡ cell v
  inner_cell v hv lc ld = go (dec_le at c) (dec_le at d) (dec_le (slice_index second.low c) at)
    where
      c : ℕ
      c = slice_index second.left v

      d : ℕ
      d = slice_index second.right v

      s : Spans second v
      s = two.spans v hv (λ e. omega arith)

      apart : LeafOf second nodes rank at → at ≡ v → ⊥
      apart (no_leaf e none) k = omega arith
      apart (one_leaf l z r) k = omega (arith, ap (slice_index second.left) (sym k) ∙ z)

      lows : (slice_index second.low c ≤ c) × (slice_index second.low d ≤ d)
      lows = (two.low c (omega arith), two.low d (omega arith))

      go : Dec (at ≤ c) → Dec (at ≤ d) → Dec (slice_index second.low c ≤ at) → max (cell c) (cell d) ≡ cell v
      go (yes p) q (yes r) =
          omega (
            arith,
            span_in_lem second weight at c p r,
            span_past second weight at d (omega (arith, s.right_low, lows)) (omega (arith, s.right_low)),
            span_in_lem second weight at v (omega arith) (omega (arith, s.left_low)),
          )
      go (yes p) q (no r) =
          omega (
            arith,
            span_past second weight at c p (omega arith),
            span_past second weight at d (omega (arith, s.right_low, lows)) (omega (arith, s.right_low)),
            span_past second weight at v (omega arith) (omega (arith, s.left_low)),
          )
      go (no p) (yes q) r =
          omega (
            arith,
            span_before second weight at c (omega arith),
            span_in_lem second weight at d q (omega (arith, s.right_low)),
            span_in_lem second weight at v (omega arith) (omega (arith, s.left_low, lows)),
          )
      go (no p) (no q) r =
          let n = apart (two.leaf_of rank small) in
          omega (
            arith,
            span_before second weight at c (omega arith),
            span_before second weight at d (omega arith),
            span_before second weight at v (omega (arith, n, s.right_last)),
          )

  -- by induction over node numbers
  pub span_best : (n v : ℕ) → v < n → v < nodes → cell v ≡ best w (leaf x) (subtree ts v)
  span_best zero v k hv = absurd (omega arith)
  span_best (suc n) v k hv = go (node_case (two.laid v hv)) (λ u ku hu. span_best n u ku hu)
    where
      go : NodeCase ts (slice_index second.left v) (slice_index second.right v) v (subtree ts v)
          → ((u : ℕ) → u < n → u < nodes → cell u ≡ best w (leaf x) (subtree ts u)) → cell v ≡ best w (leaf x) (subtree ts v)
      go (is_leaf y e q) ih = leaf_cell v hv y e q ∙ is.is v hv y q ∙ two_leaves w _ x y q
      go (is_node_lem l r q) ih =
          sym (inner_cell v hv l r) ∙ ap₂ max (ih _ (omega arith) (omega arith)) (ih _ (omega arith) (omega arith)) ∙ leaf_node w _ x _ _ q

module _ (second : TreeColumns) (nodes : ℕ) (ts : List Tree) (w : Label → ℕ) (two : Columns second nodes ts) (f : ℕ → ℕ) (u v : ℕ)
    (hv : v < nodes) where
  -- the cell of an inner node
  inner_right : (p q : Tree) (a b : ℕ) → Light w → length (leaves (node p q)) ≤ leaf_limit
      → ((k : ℕ) → k < v + 1 → f (a + k) ≡ best w p (subtree ts k)) → ((k : ℕ) → k < v + 1 → f (b + k) ≡ best w q (subtree ts k))
      → ((k : ℕ) → k < v → f (u + k) ≡ best w (node p q) (subtree ts k))
      → cell_at f second a b u v ≡ best w (node p q) (subtree ts v)
  unfolding cell_at inner_at
  inner_right p q a b light few one other before = go (node_case (two.laid v hv))
    where
      go : NodeCase ts (slice_index second.left v) (slice_index second.right v) v (subtree ts v)
          → cond (eqb (slice_index second.left v) v) (max (f (a + v)) (f (b + v))) (inner_at f a b u (slice_index second.left v) (slice_index second.right v) v)
          ≡ best w (node p q) (subtree ts v)
      go (is_leaf y e d) =
          rw (eq-eqb _ _ e) (ap₂ max (one v (omega arith)) (other v (omega arith)) ∙ node_leaf w _ p q y d)
      go (is_node_lem l r d) =
          rw (
            ne_eqb (slice_index second.left v) v (omega arith),
            one v (omega arith),
            other v (omega arith),
            before (slice_index second.left v) l,
            before (slice_index second.right v) r,
            one (slice_index second.left v) (omega arith),
            one (slice_index second.right v) (omega arith),
            other (slice_index second.left v) (omega arith),
            other (slice_index second.right v) (omega arith),
          )
          (two_nodes w light _ p q _ _ d few)

-- a cell is stored

module _ (row v x : ℕ) (area : List ℕ) where
  outside_store : (area0 : List ℕ) → v < 159 → Outside row area0 area
      → Outside row area0 (set area (row * 159 + v) x)
  outside_store area0 hv out =
      record { same = λ i side. get_or-set_other area (row * 159 + v) i x 0 (ne i side) ∙ out.same i side }
    where
      ne : (i : ℕ) → (i < row * 159) ⊎ (row * 159 + 159 ≤ i) → i ≡ row * 159 + v → ⊥
      ne i (inl k) e = omega arith
      ne i (inr k) e = omega arith

  row_store : (ts : List Tree) (w : Label → ℕ) (s : Tree) → row < 8 → v < 159 → length area ≡ 1431
      → RowTo v ts w s row area → x ≡ best w s (subtree ts v)
      → RowTo (v + 1) ts w s row (set area (row * 159 + v) x)
  row_store ts w s hr hv sh right e = record {
    right =
        below_next
        (λ q. get_or (set area (row * 159 + v) x) (row * 159 + q) 0 ≡ best w s (subtree ts q)) v
        (λ q less. get_or-set_other area (row * 159 + v) (row * 159 + q) x 0 (omega arith) ∙ right.right q less)
        (get_or-set_same area (row * 159 + v) x 0 (omega arith) ∙ e);
  }

pub row_apart : (k row v : ℕ) → v < 159 → (k ≡ row → ⊥) → (k * 159 + v < row * 159) ⊎ (row * 159 + 159 ≤ k * 159 + v)
row_apart k row v hv ne = go (bool_cases (ltb k row))
  where
    go : (ltb k row ≡ true) ⊎ (ltb k row ≡ false) → (k * 159 + v < row * 159) ⊎ (row * 159 + 159 ≤ k * 159 + v)
    go (inl e) = inl (omega (arith, ltb-true k row e))
    go (inr e) = inr (omega (arith, ltb-false k row e, ne))

-- another row is as it was
other_row : (n row k : ℕ) (ts : List Tree) (w : Label → ℕ) (s : Tree) (area0 area : List ℕ) → n ≤ 159 → (k ≡ row → ⊥)
    → Outside row area0 area → RowTo n ts w s k area0 → RowTo n ts w s k area
other_row n row k ts w s area0 area few ne out right = record {
  right = λ v hv. out.same (k * 159 + v) (row_apart k row v (omega arith) ne) ∙ right.right v hv;
}

-- a rank's weight, where its place is as it was
pub rank_kept : (second : TreeColumns) (nodes : ℕ) (ts : List Tree) (w : Label → ℕ) (x : Label) (rank m n : ℕ) → n ≡ m
    → RankIs second nodes ts w x rank m → RankIs second nodes ts w x rank n
rank_kept second nodes ts w x rank m n e is =
    record { is = λ v h y p. ap (λ (k : ℕ). cond (eqb (slice_index second.rank v) rank) k 0) e ∙ is.is v h y p }

-- a row is made cell by cell

pub span_row_none : (second : TreeColumns) (rank row : ℕ) (area : List ℕ) → SpanRow 0 second rank row area area
span_row_none second rank row area = record {
  sized = λ e. e;
  outside = record { same = λ i side. refl };
  each = λ sh v h. absurd (omega arith);
}

pub inner_row_none : (second : TreeColumns) (left right row : ℕ) (area : List ℕ) → InnerRow 0 second left right row area area
inner_row_none second left right row area = record {
  sized = λ e. e;
  outside = record { same = λ i side. refl };
  right_row = λ ts w p q sh two light few nl nr rl rr. record { right = λ v h. absurd (omega arith) };
}

pub span_row_next : (second : TreeColumns) (row v x : ℕ) (area0 area : List ℕ) → row < 8 → v < 159 → (rank : ℕ)
    → x ≡ span_at second (slice_index area0 (weight_place rank)) (slice_index second.leaf rank) v
    → SpanRow v second rank row area0 area
    → SpanRow (v + 1) second rank row area0 (set area (row * 159 + v) x)
span_row_next second row v x area0 area hr hv rank e r = record {
  sized = λ e. length-set area (row * 159 + v) x ∙ r.sized e;
  outside = outside_store row v x area area0 hv r.outside;
  each = λ sh.
      below_next
      (λ q. get_or (set area (row * 159 + v) x) (row * 159 + q) 0
      ≡ span_at second (slice_index area0 (weight_place rank)) (slice_index second.leaf rank) q) v
      (λ q less. get_or-set_other area (row * 159 + v) (row * 159 + q) x 0 (omega arith) ∙ r.each sh q less)
      (get_or-set_same area (row * 159 + v) x 0 (omega (arith, r.sized sh)) ∙ e);
}

module _ (second : TreeColumns) (row v x : ℕ) (area0 area : List ℕ) (shape : Shape second second.nodes) (hr : row < 8)
    (hv : v < second.nodes) where
  small : v < 159
  small = omega (arith, shape.few)

  pub inner_row_next : (left right : ℕ) → x ≡ cell_at (slice_index area) second (left * 159) (right * 159) (row * 159) v
      → InnerRow v second left right row area0 area
      → InnerRow (v + 1) second left right row area0 (set area (row * 159 + v) x)
  inner_row_next left right e r = record {
    sized = λ e. length-set area (row * 159 + v) x ∙ r.sized e;
    outside = outside_store row v x area area0 small r.outside;
    right_row = λ ts w p q sh two light few nl nr rl rr.
        let one = other_row second.nodes row left ts w p area0 area shape.few nl r.outside rl in
        let other = other_row second.nodes row right ts w q area0 area shape.few nr r.outside rr in
        let here = r.right_row ts w p q sh two light few nl nr rl rr in
        row_store row v x area ts w (node p q) hr small (r.sized sh) here
        (e
        ∙ inner_right second second.nodes ts w two (slice_index area) (row * 159) v hv p q (left * 159) (right * 159) light few
        (λ k less. one.right k (omega arith)) (λ k less. other.right k (omega arith)) here.right);
  }
