-- The pass over good arrays: the new nodes are good, and the tree at a node's new number is what is kept below it. Assumes nothing.
use Prim.Native.Nat.{ℕ, zero, suc, ◌+◌, ◌<◌, ◌≤◌}
use mathlib.Core.Path.{◌≡◌, refl, sym, ◌∙◌, ap, ap₂, subst}
use mathlib.Core.Bool.{Bool, true, false, cond}
use mathlib.Core.Logic.{◌⊎◌, inl, inr}
use mathlib.Core.List.{List}
use mathlib.Core.Option.{Option, some, none}
use native.Mathlib.Omega.{arith}
use native.Mathlib.Nat.{not-suc-le-zero}
use native.Mathlib.Decide.{dec_lt}
use lib.ListN.{length, get_or, set, length-set, length-replicate}
use lib.Seq.{get_or-set_same, get_or-set_other}
use borrow.Author.Tests.{lt-ltb, eq-eqb}
use Rattle.trees.specs.declared.TreeArrays.{TreeArrays}
use Rattle.trees.specs.Tree.{Tree, leaf, node}
use Rattle.trees.specs.Arrays.{node_limit, is_leaf, label_at, good_node, good_nodes, tree_at}
use Rattle.trees.proofs.Bools.{bool_cases}
use Rattle.trees.proofs.ArrayLaws.{label_inside, ChildrenBelow, children_below, good_at, all_good, good_leaf, good_inner, inner_not_leaf, tree_leaf, tree_node}
use Rattle.agreement.specs.Restrict.{join_kept}
use Rattle.agreement.proofs.RestrictLaws.{none_join, join_none}
use Rattle.restriction.specs.declared.NodeFate.{NodeFate}
use Rattle.restriction.specs.declared.NodeFate.TheVariants.{Known, Fresh}
use Rattle.std.specs.Prelude.{Some, None}
use Rattle.restriction.specs.Kept.{kept_at}
use Rattle.restriction.specs.KeptMachine.{NewNumber, Pass, start_of, arrays_at, moved_to, joined, fate_of, settled, step_of, pass_of}
use Rattle.restriction.proofs.KeptLaws.{kept_leaf, kept_node}
use Rattle.restriction.proofs.EntryLaws.{SameAt, same_back, same_through, same_good, same_trees}

-- the arrays of the pass have room for every node
pub record Sized (s : Pass) : Type 0 where
  pub moved : length s.moved ≡ node_limit
  pub left : length s.left ≡ node_limit
  pub right : length s.right ≡ node_limit
  pub start : length s.start ≡ node_limit
  pub size : length s.size ≡ node_limit

pub sized_start : (a : TreeArrays) → length a.left ≡ node_limit → length a.right ≡ node_limit → length a.start ≡ node_limit
    → length a.size ≡ node_limit → Sized (start_of a)
sized_start a l r b z = record { moved = length-replicate {A = NewNumber} node_limit None; left = l; right = r; start = b; size = z }

-- the new nodes so far
abbrev pub new_nodes : Pass → TreeArrays
new_nodes s = arrays_at s.count s

-- what is kept below a node, by the node's new number
pub data Found (b : TreeArrays) (text : List ℕ) : Option Tree → NewNumber → Type 0 where
  nothing : Found b text none None
  something : {p : ℕ} {t : Tree} → p < b.nodes → tree_at (p + 1) b text p ≡ t → Found b text (some t) (Some p)

-- after the first u nodes of a
pub record Passed (a : TreeArrays) (text : List ℕ) (kept : List Bool) (u : ℕ) (s : Pass) : Type 0 where
  pub few : s.count ≤ u
  pub sized : Sized s
  pub rest : (w : ℕ) → u ≤ w → SameAt (new_nodes s) a w
  pub good : good_nodes (new_nodes s) text s.count ≡ true
  pub found : (w : ℕ) → w < u → Found (new_nodes s) text (kept_at (suc w) a text kept w) (get_or s.moved w None)

-- the pass with a new node for u
abbrev grown : ℕ → Pass → ℕ → ℕ → Pass
grown u s l r = settled (Fresh l r) u s

-- what an inner node becomes, by its children's new numbers
joined_second : (q : NewNumber) → joined None q ≡ Known q
unfolding joined
joined_second None = refl
joined_second (Some r) = refl

pub joined_first : (p : NewNumber) → joined p None ≡ Known p
unfolding joined
joined_first None = refl
joined_first (Some l) = refl

joined_both : (p q : ℕ) → joined (Some p) (Some q) ≡ Fresh p q
unfolding joined
joined_both p q = refl

-- what is kept below two children
join_two : (x y : Tree) → join_kept (some x) (some y) ≡ some (node x y)
unfolding join_kept
join_two x y = refl

-- the new numbers of the nodes below u, and that of u
moved_more : (b : TreeArrays) (text : List ℕ) (o : ℕ → Option Tree) (moved : List NewNumber) (u : ℕ) (p : NewNumber) → u < length moved
    → ((w : ℕ) → w < u → Found b text (o w) (get_or moved w None)) → Found b text (o u) p
    → (w : ℕ) → w < suc u → Found b text (o w) (get_or (set moved u p) w None)
moved_more b text o moved u p h f g w k = go (dec_lt w u)
  where
    go : Dec (w < u) → Found b text (o w) (get_or (set moved u p) w None)
    go (yes l) = rw (get_or-set_other moved u w p None (λ (e : w ≡ u). omega arith)) (f w l)
    go (no l) =
        let e : w ≡ u = omega arith in
        rw (e, get_or-set_same moved u p None h) g

module _ (a : TreeArrays) (text : List ℕ) (kept : List Bool) (u : ℕ) (s : Pass) (room : u < node_limit) (i : Passed a text kept u s) where
  pub known_step : (p : NewNumber) → Found (new_nodes s) text (kept_at (suc u) a text kept u) p → Passed a text kept (suc u) (settled (Known p) u s)
  unfolding settled
  known_step p g =
      record {
        few = omega (arith, i.few);
        sized =
            record {
              moved = length-set s.moved u p ∙ i.sized.moved;
              left = i.sized.left;
              right = i.sized.right;
              start = i.sized.start;
              size = i.sized.size;
            };
        rest = λ w h. i.rest w (omega arith);
        good = i.good;
        found =
            moved_more (new_nodes s) text (λ w. kept_at (suc w) a text kept w) s.moved u p (omega (arith, i.sized.moved)) i.found g;
      }

  -- a new node with children l and r
  module _ (l r : ℕ) where
    -- it changes no node before it, and none after u
    grown_at : (v : ℕ) → (v ≡ s.count → ⊥) → SameAt (new_nodes (grown u s l r)) (new_nodes s) v
    unfolding settled
    grown_at v n =
        record {
          left = get_or-set_other s.left s.count v l 0 n;
          right = get_or-set_other s.right s.count v r 0 n;
          start = get_or-set_other s.start s.count v _ 0 n;
          size = get_or-set_other s.size s.count v _ 0 n;
        }

    grown_below : (v : ℕ) → v < s.count → SameAt (new_nodes s) (new_nodes (grown u s l r)) v
    grown_below v h = same_back (grown_at v (λ (e : v ≡ s.count). omega arith))

    new_left : get_or (grown u s l r).left s.count 0 ≡ l
    unfolding settled
    new_left = get_or-set_same s.left s.count l 0 (omega (arith, i.few, i.sized.left))

    new_right : get_or (grown u s l r).right s.count 0 ≡ r
    unfolding settled
    new_right = get_or-set_same s.right s.count r 0 (omega (arith, i.few, i.sized.right))

    new_leaf : l ≡ s.count → is_leaf (new_nodes (grown u s l r)) s.count ≡ true
    unfolding is_leaf
    new_leaf e = eq-eqb (get_or (grown u s l r).left s.count 0) s.count (new_left ∙ e)

    -- its label is that of u
    new_start : get_or (grown u s l r).start s.count 0 ≡ get_or a.start u 0
    unfolding settled
    new_start =
        get_or-set_same s.start s.count _ 0 (omega (arith, i.few, i.sized.start))
        ∙ (i.rest u (omega arith)).start

    new_size : get_or (grown u s l r).size s.count 0 ≡ get_or a.size u 0
    unfolding settled
    new_size =
        get_or-set_same s.size s.count _ 0 (omega (arith, i.few, i.sized.size))
        ∙ (i.rest u (omega arith)).size

    new_label : label_at (new_nodes (grown u s l r)) text s.count ≡ label_at a text u
    unfolding label_at
    new_label = rw (new_start, new_size) refl

    grown_good : good_node (new_nodes (grown u s l r)) text s.count ≡ true
        → good_nodes (new_nodes (grown u s l r)) text (s.count + 1) ≡ true
    grown_good h = all_good (new_nodes (grown u s l r)) text (s.count + 1) (λ v k. go v (dec_lt v s.count) k)
      where
        go : (v : ℕ) → Dec (v < s.count) → v < s.count + 1 → good_node (new_nodes (grown u s l r)) text v ≡ true
        go v (yes k) m =
            sym (same_good (new_nodes s) (new_nodes (grown u s l r)) v (grown_below v k) text)
            ∙ good_at (new_nodes s) text s.count i.good v k
        go v (no k) m =
            let e : v ≡ s.count = omega arith in
            rw e h

    -- a tree found stays
    tree_stays : (p : ℕ) → p < s.count → tree_at (p + 1) (new_nodes (grown u s l r)) text p ≡ tree_at (p + 1) (new_nodes s) text p
    tree_stays p h = sym (same_trees (new_nodes s) (new_nodes (grown u s l r)) text i.good grown_below (p + 1) p h (omega arith))

    found_stays : {o : Option Tree} {p : NewNumber} → Found (new_nodes s) text o p → Found (new_nodes (grown u s l r)) text o p
    unfolding settled
    found_stays nothing = nothing
    found_stays (something {p} h e) = something {p = p} (omega arith) (tree_stays p h ∙ e)

    fresh_step : (t : Tree) → good_node (new_nodes (grown u s l r)) text s.count ≡ true
        → tree_at (s.count + 1) (new_nodes (grown u s l r)) text s.count ≡ t → kept_at (suc u) a text kept u ≡ some t
        → Passed a text kept (suc u) (grown u s l r)
    unfolding settled
    fresh_step t g e k =
        record {
          few = omega (arith, i.few);
          sized =
              record {
                moved = length-set s.moved u (Some s.count) ∙ i.sized.moved;
                left = length-set s.left s.count l ∙ i.sized.left;
                right = length-set s.right s.count r ∙ i.sized.right;
                start = length-set s.start s.count _ ∙ i.sized.start;
                size = length-set s.size s.count _ ∙ i.sized.size;
              };
          rest = λ w h. same_through (grown_at w (λ (d : w ≡ s.count). omega (arith, i.few))) (i.rest w (omega arith));
          good = grown_good g;
          found =
              moved_more (new_nodes (grown u s l r)) text (λ w. kept_at (suc w) a text kept w) s.moved u (Some s.count)
              (omega (arith, i.sized.moved)) (λ w h. found_stays (i.found w h)) (rw k (something {p = s.count} (omega arith) e));
        }

  -- a kept leaf
  fresh_leaf : good_node a text u ≡ true → is_leaf a u ≡ true → get_or kept u false ≡ true
      → Passed a text kept (suc u) (grown u s s.count s.count)
  unfolding settled
  fresh_leaf g e k =
      let n = s.count in
      let b = new_nodes (grown u s n n) in
      let f : good_node b text n ≡ true =
      good_leaf b text n (new_leaf n n refl) (rw (new_label n n) (label_inside a text u g e).short)
      (omega (arith, new_start n n, new_size n n, (label_inside a text u g e).inside))
      in
      fresh_step n n (leaf (label_at a text u)) f (tree_leaf b text (grown_good n n f) n (new_leaf n n refl) ∙ ap leaf (new_label n n))
      (kept_leaf a text kept u u e ∙ (rw k refl))

  -- a node with trees found below both children
  fresh_inner : (p q : ℕ) (x y : Tree) → p < s.count → q < s.count → tree_at (p + 1) (new_nodes s) text p ≡ x
      → tree_at (q + 1) (new_nodes s) text q ≡ y → kept_at (suc u) a text kept u ≡ some (node x y)
      → Passed a text kept (suc u) (grown u s p q)
  unfolding settled
  fresh_inner p q x y h k e d m =
      let n = s.count in
      let b = new_nodes (grown u s p q) in
      let l : get_or b.left n 0 < n = omega (arith, new_left p q) in
      let r : get_or b.right n 0 < n = omega (arith, new_right p q) in
      let f : good_node b text n ≡ true = good_inner b text n l r in
      fresh_step p q (node x y) f
      (tree_node b text (grown_good p q f) n (omega arith) (inner_not_leaf b n l)
      ∙ ap₂ node
      (ap (λ v. tree_at (v + 1) b text v) (new_left p q) ∙ tree_stays p q p h ∙ e)
      (ap (λ v. tree_at (v + 1) b text v) (new_right p q) ∙ tree_stays p q q k ∙ d))
      m

  -- what becomes of u
  fate_leaf : is_leaf a u ≡ true
      → fate_of s.left s.right s.moved kept u s.count ≡ cond (get_or kept u false) (Fresh s.count s.count) (Known None)
  unfolding fate_of is_leaf
  fate_leaf e = rw ((i.rest u (omega arith)).left, e) refl

  fate_inner : is_leaf a u ≡ false → ChildrenBelow a u
      → fate_of s.left s.right s.moved kept u s.count
      ≡ joined (get_or s.moved (get_or a.left u 0) None) (get_or s.moved (get_or a.right u 0) None)
  unfolding fate_of is_leaf moved_to
  fate_inner e b =
      rw (
        (i.rest u (omega arith)).left,
        (i.rest u (omega arith)).right,
        e,
        lt-ltb (get_or a.left u 0) u b.left_below,
        lt-ltb (get_or a.right u 0) u b.right_below,
      )
      refl

  -- u passed
  leaf_step : good_node a text u ≡ true → is_leaf a u ≡ true → Passed a text kept (suc u) (step_of kept u s)
  unfolding step_of
  leaf_step g e = go (bool_cases (get_or kept u false))
    where
      go : (get_or kept u false ≡ true) ⊎ (get_or kept u false ≡ false)
          → Passed a text kept (suc u) (settled (fate_of s.left s.right s.moved kept u s.count) u s)
      go (inl k) = rw (fate_leaf e, k) (fresh_leaf g e k)
      go (inr k) = rw (fate_leaf e, k) (known_step None (rw (kept_leaf a text kept u u e, k) nothing))

  inner_step : is_leaf a u ≡ false → ChildrenBelow a u
      → kept_at (suc u) a text kept u
      ≡ join_kept (kept_at (suc (get_or a.left u 0)) a text kept (get_or a.left u 0))
      (kept_at (suc (get_or a.right u 0)) a text kept (get_or a.right u 0))
      → Passed a text kept (suc u) (step_of kept u s)
  unfolding step_of
  inner_step e b k =
      rw (fate_inner e b)
      (go (i.found (get_or a.left u 0) b.left_below) (i.found (get_or a.right u 0) b.right_below) k)
    where
      go : {o v : Option Tree} {p q : NewNumber} → Found (new_nodes s) text o p → Found (new_nodes s) text v q
          → kept_at (suc u) a text kept u ≡ join_kept o v → Passed a text kept (suc u) (settled (joined p q) u s)
      go {v = v} {q = q} nothing f m = rw (joined_second q) (known_step q (rw (m ∙ none_join v) f))
      go (something {p} {t = x} h d) nothing m =
          subst (λ (f : NodeFate). Passed a text kept (suc u) (settled f u s)) (sym (joined_first (Some p)))
          (known_step (Some p) (rw (m ∙ join_none (some x)) (something h d)))
      go (something {p} {t = x} h d) (something {p = q} {t = y} l c) m =
          subst (λ (f : NodeFate). Passed a text kept (suc u) (settled f u s)) (sym (joined_both p q))
          (fresh_inner p q x y h l d c (m ∙ join_two x y))

  pub pass_step : good_nodes a text a.nodes ≡ true → u < a.nodes → Passed a text kept (suc u) (step_of kept u s)
  pass_step good h = go (bool_cases (is_leaf a u))
    where
      g : good_node a text u ≡ true
      g = good_at a text a.nodes good u h

      go : (is_leaf a u ≡ true) ⊎ (is_leaf a u ≡ false) → Passed a text kept (suc u) (step_of kept u s)
      go (inl e) = leaf_step g e
      go (inr e) = inner_step e (children_below a text u g e) (kept_node a text kept good u h e)

-- no more new nodes than nodes passed
settled_count : (f : NodeFate) (u : ℕ) (s : Pass) → (settled f u s).count ≤ s.count + 1
unfolding settled
settled_count (Known p) u s = omega arith
settled_count (Fresh l r) u s = omega arith

pub pass_count : (s : Pass) (kept : List Bool) (n : ℕ) → (pass_of s kept n).count ≤ s.count + n
unfolding pass_of step_of
pass_count s kept zero = omega arith
pass_count s kept (suc n) =
    let r = pass_of s kept n in
    omega (arith, pass_count s kept n, settled_count (fate_of r.left r.right r.moved kept n r.count) n r)

-- the pass over arrays that have room for every node
module _ (a : TreeArrays) (text : List ℕ) (kept : List Bool) (z : Sized (start_of a))
    (fits : a.nodes ≤ node_limit) (good : good_nodes a text a.nodes ≡ true) where
  pub passed : (n : ℕ) → n ≤ a.nodes → Passed a text kept n (pass_of (start_of a) kept n)
  unfolding pass_of good_nodes
  passed zero h =
      record {
        few = omega arith;
        sized = z;
        rest = λ w k. record { left = refl; right = refl; start = refl; size = refl };
        good = refl;
        found = λ w k. absurd (not-suc-le-zero k);
      }
  passed (suc n) h =
      pass_step a text kept n (pass_of (start_of a) kept n) (omega arith) (passed n (omega arith)) good h
