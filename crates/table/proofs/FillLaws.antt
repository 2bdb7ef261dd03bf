-- The row of a node from the rows of its children: which rows are used, that there are enough, and which are left alone. Assumes
-- nothing.
use Rattle.std.proofs.Common.{◌≡◌, ℕ, zero, suc, ◌+◌, ◌-◌, ◌*◌, ◌<◌, ◌≤◌, min, Bool, true, false, cond, eqb, ltb, ◌⊎◌, List, length, sym, refl, ap, ◌∙◌, inl, inr, arith, length-append, ltb-false, ltb-true, eqb-true, get_or, slice_index}
use Rattle.table.specs.declared.columns.TreeColumns.{TreeColumns}
use borrow.Author.Tests.{eqb-false}
use Rattle.trees.specs.Label.{Label}
use Rattle.trees.specs.Tree.{Tree, leaf, node, leaves, leaf_limit}
use Rattle.trees.specs.Postorder.{subtree}
use Rattle.trees.proofs.Bools.{bool_cases}
use Rattle.agreement.specs.Weights.{best}
use Rattle.agreement.specs.Powers.{power}
use Rattle.table.specs.declared.fill.Children.{Children}
use Rattle.table.specs.Table.{weight_place, join_need, need, SplitAt, Shape, RowTo}
use Rattle.table.specs.Table.{Filling, Spared, Filled, Rows, InnerRow, Joined, SpanRow, NodeRow}
use Rattle.table.specs.Solving.{TopIs}
use Rattle.table.proofs.RowLaws.{NodeCase, is_leaf, is_node_lem, node_case, row_apart, rank_kept, span_best}

-- the child that needs more rows may use all that the node needs; for the other one a row less is enough
need_split : (a b next : ℕ) → next + join_need a b ≤ 8 → (swapped : Bool) → swapped ≡ ltb a b
    → (next + cond swapped b a ≤ 8) × (next + 1 + cond swapped a b ≤ 8)
unfolding join_need
need_split a b next h true e = let l = ltb-true a b (sym e) in (rw (← e) at h, omega (arith, rw (← e) at h))
need_split a b next h false e = go (ltb b a) refl (rw (← e) at h)
  where
    go : (c : Bool) → ltb b a ≡ c → next + cond c a (min (suc a) 255) ≤ 8 → (next + a ≤ 8) × (next + 1 + b ≤ 8)
    go true d k = let l = ltb-true b a d in (k, omega arith)
    go false d k =
        let l = ltb-false b a d in
        let m = ltb-false a b (sym e) in
        (omega arith, omega arith)

pub need_node : (t p q : Tree) → t ≡ node p q → need t ≡ join_need (need p) (need q)
unfolding need
need_node t p q e = rw e refl

-- a tree of at most 80 leaves needs at most six rows beside two

pub power_mono : (a b : ℕ) → a ≤ b → power a ≤ power b
unfolding power
power_mono a zero h = let e : a ≡ 0 = omega arith in rw e (omega arith)
power_mono a (suc b) h = go (bool_cases (eqb a (suc b))) (power_mono a b)
  where
    go : (eqb a (suc b) ≡ true) ⊎ (eqb a (suc b) ≡ false) → (a ≤ b → power a ≤ power b) → power a ≤ power b + power b
    go (inl e) ih = let d : power a ≡ power b + power b = ap power (eqb-true a (suc b) e) in omega arith
    go (inr e) ih = omega (arith, ih (omega (arith, eqb-false a (suc b) e)))

join_few : (a b m n : ℕ) → power a ≤ m → power b ≤ n → power (join_need a b) ≤ m + n
unfolding join_need power
join_few a b m n ha hb = go (ltb a b) refl (ltb b a) refl
  where
    go : (c : Bool) → ltb a b ≡ c → (d : Bool) → ltb b a ≡ d → power (cond c b (cond d a (min (suc a) 255))) ≤ m + n
    go true p d q = omega arith
    go false p true q = omega arith
    go false p false q =
        let e : a ≡ b = omega (arith, ltb-false a b p, ltb-false b a q) in
        let k : power b ≡ power a = ap power (sym e) in
        omega (arith, power_mono (min (suc a) 255) (suc a) (omega arith))

need_few : (t : Tree) → power (need t) ≤ length (leaves t)
unfolding need leaves power
need_few (leaf x) = omega arith
need_few (node p q) = rw (length-append (leaves p) (leaves q)) (join_few (need p) (need q) _ _ (need_few p) (need_few q))

power_seven : power 7 ≡ 128
unfolding power
power_seven = refl

pub few_rows : (t : Tree) → length (leaves t) ≤ leaf_limit → need t ≤ 6
few_rows t few = go (bool_cases (ltb 6 (need t)))
  where
    go : (ltb 6 (need t) ≡ true) ⊎ (ltb 6 (need t) ≡ false) → need t ≤ 6
    go (inl e) = absurd (omega (arith, power_mono 7 (need t) (omega (arith, ltb-true 6 (need t) e)), power_seven, need_few t))
    go (inr e) = ltb-false 6 (need t) e

-- the weights' row is as it was
filling_kept : (first second : TreeColumns) (ss ts : List Tree) (w : Label → ℕ) (area area' : List ℕ) → Shape first first.nodes
    → ((v : ℕ) → v < 159 → slice_index area' (8 * 159 + v) ≡ slice_index area (8 * 159 + v)) → Filling first second ss ts w area
    → Filling first second ss ts w area'
filling_kept first second ss ts w area area' shape same f = record {
  one = f.one;
  two = f.two;
  needs = f.needs;
  few = f.few;
  light = f.light;
  ranks = λ u hu x p.
      rank_kept second second.nodes ts w x (slice_index first.rank u) _ _ (same (slice_index first.rank u) (omega (arith, shape.ranked u hu)))
      (f.ranks u hu x p);
}

module _ (first second : TreeColumns) (u row other next : ℕ) (hu : u < first.nodes) (area0 area3 : List ℕ) where
  -- a leaf
  pub leaf_made : second.nodes ≤ 159 → slice_index first.left u ≡ u → slice_index first.rank u ≤ 80
      → SpanRow second.nodes second (slice_index first.rank u) row area0 area3 → NodeRow first second u row other next area0 area3
  leaf_made few e small made = record {
    sized = made.sized;
    filled = λ ss ts w sh f rows. record {
      right = go ss ts w sh f (node_case (f.one.laid u hu));
      kept = λ k v hv s. made.outside.same (k * 159 + v) (row_apart k row v hv s.not_row);
    };
  }
    where
      go : (ss ts : List Tree) (w : Label → ℕ) → length area0 ≡ 1431 → Filling first second ss ts w area0
          → NodeCase ss (slice_index first.left u) (slice_index first.right u) u (subtree ss u)
          → RowTo second.nodes ts w (subtree ss u) row area3
      go ss ts w sh f (is_leaf x _ p) = record {
        right = λ v hv.
            made.each sh v hv
            ∙ (rw p (span_best second second.nodes ts w f.two few x (slice_index first.rank u) _ small (f.ranks u hu x p) (suc v) v (omega arith) hv));
      }
      go ss ts w sh f (is_node_lem a b p) = absurd (omega arith)

  -- an inner node
  module _ (c : Children) (area1 area2 : List ℕ) (shape : Shape first first.nodes) (few2 : second.nodes ≤ 159)
      (inner : slice_index first.left u ≡ u → ⊥) (room : next < 8) (split : SplitAt first u c)
      (one : NodeRow first second c.more other row next area0 area1)
      (two : NodeRow first second c.fewer next row (next + 1) area1 area2)
      (join : Joined second c.swapped row other next area2 area3) where
    module _ (ss ts : List Tree) (w : Label → ℕ) (sh : length area0 ≡ 1431) (f : Filling first second ss ts w area0)
        (rows : Rows (subtree ss u) row other next) where
      abbrev P : Tree
      P = subtree ss (slice_index first.left u)

      abbrev Q : Tree
      Q = subtree ss (slice_index first.right u)

      module _ (la : slice_index first.left u < u) (lb : slice_index first.right u < u) (p : subtree ss u ≡ node P Q) where
        needs_more_lem : c.swapped ≡ ltb (need P) (need Q)
        needs_more_lem =
            split.swapped_is
            ∙ (rw (f.needs (slice_index first.left u) (omega arith), f.needs (slice_index first.right u) (omega arith)) refl)

        enough : (next + cond c.swapped (need Q) (need P) ≤ 8) × (next + 1 + cond c.swapped (need P) (need Q) ≤ 8)
        enough = need_split (need P) (need Q) next (omega (arith, rows.enough, need_node (subtree ss u) P Q p)) c.swapped needs_more_lem

        need_of : (b : Bool) (i j : ℕ) → need (subtree ss (cond b i j)) ≡ cond b (need (subtree ss i)) (need (subtree ss j))
        need_of true i j = refl
        need_of false i j = refl

        need_more : need (subtree ss c.more) ≡ cond c.swapped (need Q) (need P)
        need_more = rw split.more_is (need_of c.swapped _ _)

        need_fewer : need (subtree ss c.fewer) ≡ cond c.swapped (need P) (need Q)
        need_fewer = rw split.fewer_is (need_of c.swapped _ _)

        fill1 : Filled second.nodes ts w (subtree ss c.more) other row next area0 area1
        fill1 = one.filled ss ts w sh f (record {
          row_low = rows.other_low;
          other_low = rows.row_low;
          apart = λ e. rows.apart (sym e);
          enough = omega (arith, need_more, enough.0);
        })

        weights : Spared other row next 8
        weights = record {
          not_row = λ e. omega (arith, rows.other_low);
          not_other = λ e. omega (arith, rows.row_low);
          before = inr (omega arith);
        }

        fill2 : Filled second.nodes ts w (subtree ss c.fewer) next row (next + 1) area1 area2
        fill2 =
            two.filled ss ts w (one.sized sh)
            (filling_kept first second ss ts w area0 area1 shape (λ v hv. fill1.kept 8 v hv weights) f)
            (record {
              row_low = omega arith;
              other_low = omega (arith, rows.row_low);
              apart = λ e. omega (arith, rows.row_low);
              enough = omega (arith, need_fewer, enough.1);
            })

        spared_other : Spared next row (next + 1) other
        spared_other = record {
          not_row = λ e. omega (arith, rows.other_low);
          not_other = λ e. rows.apart (sym e);
          before = inl (omega (arith, rows.other_low));
        }

        row_more : RowTo second.nodes ts w (subtree ss c.more) other area2
        row_more = record { right = λ v hv. fill2.kept other v (omega arith) spared_other ∙ fill1.right.right v hv }

        sh2 : length area2 ≡ 1431
        sh2 = two.sized (one.sized sh)

        few_leaves : length (leaves (node P Q)) ≤ leaf_limit
        few_leaves = rw (← p) (f.few u hu)

        made : (b : Bool) → c.more ≡ cond b (slice_index first.right u) (slice_index first.left u)
            → c.fewer ≡ cond b (slice_index first.left u) (slice_index first.right u)
            → InnerRow second.nodes second (cond b next other) (cond b other next) row area2 area3
            → RowTo second.nodes ts w (node P Q) row area3
        made true em ef j =
            j.right_row ts w P Q sh2 f.two f.light few_leaves (λ e. omega (arith, rows.row_low)) (λ e. rows.apart (sym e))
            (rw ef at fill2.right) (rw em at row_more)
        made false em ef j =
            j.right_row ts w P Q sh2 f.two f.light few_leaves (λ e. rows.apart (sym e)) (λ e. omega (arith, rows.row_low))
            (rw em at row_more) (rw ef at fill2.right)

        kept_all : (k v : ℕ) → v < 159 → Spared row other next k → slice_index area3 (k * 159 + v) ≡ slice_index area0 (k * 159 + v)
        kept_all k v hv s =
            join.outside.same (k * 159 + v) (row_apart k row v hv s.not_row)
            ∙ fill2.kept k v hv (record { not_row = ne s.before; not_other = s.not_row; before = later s.before })
            ∙ fill1.kept k v hv (record { not_row = s.not_other; not_other = s.not_row; before = s.before })
          where
            ne : (k < next) ⊎ (8 ≤ k) → k ≡ next → ⊥
            ne (inl a) e = omega arith
            ne (inr a) e = omega arith

            later : (k < next) ⊎ (8 ≤ k) → (k < next + 1) ⊎ (8 ≤ k)
            later (inl a) = inl (omega arith)
            later (inr a) = inr a

        node_filled : Filled second.nodes ts w (subtree ss u) row other next area0 area3
        node_filled = record { right = rw p (made c.swapped split.more_is split.fewer_is join); kept = kept_all }

      case_filled : NodeCase ss (slice_index first.left u) (slice_index first.right u) u (subtree ss u)
          → Filled second.nodes ts w (subtree ss u) row other next area0 area3
      case_filled (is_leaf x e p) = absurd (inner e)
      case_filled (is_node_lem la lb p) = node_filled la lb p

    pub node_made : NodeRow first second u row other next area0 area3
    node_made = record {
      sized = λ e. join.sized (two.sized (one.sized e));
      filled = λ ss ts w sh f rows. case_filled ss ts w sh f rows (node_case (f.one.laid u hu));
    }

positive : (a b : ℕ) → 0 < join_need a b
unfolding join_need
positive a b = go (ltb a b) refl (ltb b a) refl
  where
    go : (c : Bool) → ltb a b ≡ c → (d : Bool) → ltb b a ≡ d → 0 < cond c b (cond d a (min (suc a) 255))
    go true p d q = omega (arith, ltb-true a b p)
    go false p true q = omega (arith, ltb-true b a q)
    go false p false q = omega arith

-- where no row is left a node cannot come
pub nothing_made : (first second : TreeColumns) (u row other next : ℕ) (area : List ℕ) → 8 ≤ next
    → (slice_index first.left u ≡ u → ⊥) → u < first.nodes → NodeRow first second u row other next area area
nothing_made first second u row other next area full inner hu = record {
  sized = λ e. e;
  filled = λ ss ts w sh f rows. absurd (go ss rows.enough (node_case (f.one.laid u hu)));
}
  where
    go : (ss : List Tree) → next + need (subtree ss u) ≤ 8 → NodeCase ss (slice_index first.left u) (slice_index first.right u) u (subtree ss u) → ⊥
    go ss k (is_leaf x e p) = inner e
    go ss k (is_node_lem a b p) =
        omega (arith, need_node (subtree ss u) _ _ p, positive (need (subtree ss (slice_index first.left u))) (need (subtree ss (slice_index first.right u))))

-- children have smaller numbers
pub child_low : (first : TreeColumns) (u : ℕ) (c : Children) → Shape first first.nodes → u < first.nodes → (slice_index first.left u ≡ u → ⊥)
    → SplitAt first u c → (c.more < u) × (c.fewer < u)
child_low first u c shape hu inner split = go c.swapped split.more_is split.fewer_is
  where
    la : slice_index first.left u < u
    la = omega (arith, shape.left_low u hu, inner)

    lb : slice_index first.right u < u
    lb = shape.inner u hu inner

    go : (b : Bool) → c.more ≡ cond b (slice_index first.right u) (slice_index first.left u) → c.fewer ≡ cond b (slice_index first.left u) (slice_index first.right u)
        → (c.more < u) × (c.fewer < u)
    go true em ef = (omega (arith, lb), omega (arith, la))
    go false em ef = (omega (arith, la), omega (arith, lb))

-- the root's row
pub top_made : (first second : TreeColumns) (n m top : ℕ) (area area' : List ℕ) → n ≡ first.nodes → m ≡ second.nodes → 0 < second.nodes
    → second.nodes ≤ 159 → NodeRow first second (n - 1) 0 1 2 area area' → top ≡ slice_index area' (m - 1) → TopIs first second top area area'
top_made first second n m top area area' en em some few made e = record { greatest = greatest' }
  where
    greatest' : (ss ts : List Tree) (w : Label → ℕ) → length area ≡ 1431 → Filling first second ss ts w area
        → need (subtree ss (first.nodes - 1)) ≤ 6
        → (top ≡ best w (subtree ss (first.nodes - 1)) (subtree ts (second.nodes - 1)))
        × ((r : ℕ) → r < 159 → slice_index area' (weight_place r) ≡ slice_index area (weight_place r))
    greatest' ss ts w sh f low = (
      e ∙ ap (λ (k : ℕ). get_or area' k 0) place ∙ filled.right.right (second.nodes - 1) (omega arith)
          ∙ ap (λ (k : ℕ). best w (subtree ss (k - 1)) (subtree ts (second.nodes - 1))) en,
      λ r hr. filled.kept 8 r hr (record { not_row = λ d. omega arith; not_other = λ d. omega arith; before = inr (omega arith) }),
    )
      where
        place : m - 1 ≡ 0 * 159 + (second.nodes - 1)
        place = omega arith

        filled : Filled second.nodes ts w (subtree ss (n - 1)) 0 1 2 area area'
        filled = made.filled ss ts w sh f (record {
          row_low = omega arith;
          other_low = omega arith;
          apart = λ d. omega arith;
          enough = rw en (omega arith);
        })
