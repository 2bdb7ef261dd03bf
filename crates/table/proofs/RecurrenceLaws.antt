-- Laws of the recurrence over pairs of nodes: a leaf against a node goes by the node's children, no value passes 129 * 2^80 for each
-- leaf, so that sums never wrap. Assumes nothing.
use Rattle.std.proofs.Common.{◌≡◌, ℕ, ◌+◌, ◌*◌, ◌≤◌, max, Bool, true, false, cond, ◌||◌, length, sym, arith}
use mathlib.Core.Bool.{or-false}
use native.Mathlib.Nat.{max-le}
use Rattle.trees.specs.Label.{Label, same_label, is_in}
use Rattle.trees.specs.Tree.{Tree, leaf, node, leaves, leaf_limit}
use Rattle.trees.proofs.TreeLaws.{leaves_node, leaves_some}
use Rattle.agreement.specs.Closer.{holds}
use Rattle.agreement.specs.Weights.{best}
use Rattle.agreement.proofs.HoldsLaws.{holds_node}
use Rattle.agreement.proofs.Recurrence.{best_leaf_left, best_leaf_right, best_node}
use Rattle.agreement.specs.Powers.{whole}
use Rattle.table.specs.Table.{wrapped, Light}

holds_same : (y x : Label) → holds (leaf y) x ≡ same_label x y
unfolding holds leaves is_in
holds_same y x = or-false (same_label x y)

cond_max : (a b : Bool) (n : ℕ) → cond (a || b) n 0 ≡ max (cond a n 0) (cond b n 0)
cond_max true true n = omega arith
cond_max true false n = omega arith
cond_max false true n = omega arith
cond_max false false n = omega arith

cond_le : (b : Bool) (n k : ℕ) → n ≤ k → cond b n 0 ≤ k
cond_le true n k h = h
cond_le false n k h = omega arith

-- the recurrence, at a second tree that is known by an equation

module _ (w : Label → ℕ) (t : Tree) where
  pub two_leaves : (x y : Label) → t ≡ leaf y → cond (same_label x y) (w x) 0 ≡ best w (leaf x) t
  two_leaves x y q = rw (q, best_leaf_left, holds_same)

  pub leaf_node : (x : Label) (c d : Tree) → t ≡ node c d → max (best w (leaf x) c) (best w (leaf x) d) ≡ best w (leaf x) t
  leaf_node x c d q = rw q (simp (best_leaf_left, holds_node) (sym (cond_max (holds c x) (holds d x) (w x))))

  pub node_leaf : (a b : Tree) (y : Label) → t ≡ leaf y → max (best w a t) (best w b t) ≡ best w (node a b) t
  node_leaf a b y q = rw q (simp (best_leaf_right, holds_node) (sym (cond_max (holds a y) (holds b y) (w y))))

-- the bound

module _ (w : Label → ℕ) (light : Light w) where
  best_bound : (s t : Tree) → best w s t ≤ 129 * whole * length (leaves s)
  best_bound (leaf x) t =
      rw (best_leaf_left w x t) (cond_le (holds t x) (w x) _ (omega (arith, light x, leaves_some (leaf x))))
  best_bound (node a b) (leaf y) =
      rw (best_leaf_right w (node a b) y)
      (cond_le (holds (node a b) y) (w y) _ (omega (arith, light y, leaves_some (node a b))))
  best_bound (node a b) (node c d) =
      let n = leaves_node a b in
      rw (best_node w a b c d)
      (max-le (max-le (omega (arith, best_bound a (node c d))) (omega (arith, best_bound b (node c d))))
      (max-le (max-le (best_bound (node a b) c) (best_bound (node a b) d))
      (max-le (omega (arith, best_bound a c, best_bound b d)) (omega (arith, best_bound a d, best_bound b c)))))

  -- sums never wrap
  wrap_free : (a b c d : Tree) → length (leaves (node a b)) ≤ leaf_limit
      → wrapped (best w a c) (best w b d) ≡ best w a c + best w b d
  wrap_free a b c d few = omega (arith, leaves_node a b, best_bound a c, best_bound b d)

  pub two_nodes : (t a b c d : Tree) → t ≡ node c d → length (leaves (node a b)) ≤ leaf_limit
      → max (max (best w a t) (best w b t))
      (max (max (best w (node a b) c) (best w (node a b) d))
      (max (wrapped (best w a c) (best w b d)) (wrapped (best w a d) (best w b c))))
      ≡ best w (node a b) t
  two_nodes t a b c d q few = rw (q, best_node w a b c d, wrap_free a b c d few, wrap_free a b d c few)
