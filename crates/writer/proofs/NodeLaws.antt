-- Nodes of good arrays: the tree below a node is made of those below its children. Assumes nothing.
use Prim.Native.Nat.{ℕ, zero, suc, ◌<◌}
use mathlib.Core.Path.{◌≡◌, ◌∙◌, ap₂}
use mathlib.Core.Bool.{true, false, cond}
use mathlib.Core.Logic.{◌⊎◌, inl, inr}
use mathlib.Core.List.{List}
use native.Mathlib.Nat.{not-suc-le-zero, lt-suc_self}
use native.Mathlib.Omega.{arith}
use lib.ListN.{get_or}
use Rattle.trees.specs.declared.TreeArrays.{TreeArrays}
use Rattle.trees.specs.Tree.{Tree, leaf, node}
use Rattle.trees.specs.Arrays.{is_leaf, label_at, good_nodes, tree_at}
use Rattle.trees.proofs.Bools.{bool_cases}
use Rattle.trees.proofs.ArrayLaws.{good_at, children_below, tree_at_leaf, tree_at_node}
use Rattle.writer.specs.Passes.{below}

-- induction over node numbers
pub by_number : (P : ℕ → Type 0) → ((u : ℕ) → ((k : ℕ) → k < u → P k) → P u) → (u : ℕ) → P u
by_number P step u = go (suc u) u (lt-suc_self u)
  where
    go : (m v : ℕ) → v < m → P v
    go zero v h = absurd (not-suc-le-zero h)
    go (suc m) v h = step v (λ k l. go m k (omega arith))

module _ (a : TreeArrays) (text : List ℕ) (n : ℕ) (g : good_nodes a text n ≡ true) where
  -- any room above the node's number is enough
  pub any_room : (u : ℕ) → u < n → (m k : ℕ) → u < m → u < k → tree_at m a text u ≡ tree_at k a text u
  unfolding tree_at
  any_room u h zero k p q = absurd (not-suc-le-zero p)
  any_room u h (suc m) zero p q = absurd (not-suc-le-zero q)
  any_room u h (suc m) (suc k) p q =
      go (λ v l. any_room v (omega arith) m k (omega arith) (omega arith)) (bool_cases (is_leaf a u))
    where
      go : ((v : ℕ) → v < u → tree_at m a text v ≡ tree_at k a text v) → (is_leaf a u ≡ true) ⊎ (is_leaf a u ≡ false)
          → cond (is_leaf a u) (leaf (label_at a text u))
          (node (tree_at m a text (get_or a.left u 0)) (tree_at m a text (get_or a.right u 0)))
          ≡ cond (is_leaf a u) (leaf (label_at a text u))
          (node (tree_at k a text (get_or a.left u 0)) (tree_at k a text (get_or a.right u 0)))
      go ih (inl e) = rw e
      go ih (inr e) =
          ap₂ (λ (x y : Tree). cond (is_leaf a u) (leaf (label_at a text u)) (node x y))
          (ih (get_or a.left u 0) (children_below a text u (good_at a text n g u h) e).left_below)
          (ih (get_or a.right u 0) (children_below a text u (good_at a text n g u h) e).right_below)

  pub below_node : (u : ℕ) → u < n → is_leaf a u ≡ false
      → below a text u ≡ node (below a text (get_or a.left u 0)) (below a text (get_or a.right u 0))
  unfolding below
  below_node u h e =
      let x : ℕ = get_or a.left u 0 in
      let y : ℕ = get_or a.right u 0 in
      let l : x < u = (children_below a text u (good_at a text n g u h) e).left_below in
      let r : y < u = (children_below a text u (good_at a text n g u h) e).right_below in
      tree_at_node u a text u e
      ∙ ap₂ node (any_room x (omega arith) u (suc x) l (lt-suc_self x)) (any_room y (omega arith) u (suc y) r (lt-suc_self y))

pub below_leaf : (a : TreeArrays) (text : List ℕ) (u : ℕ) → is_leaf a u ≡ true → below a text u ≡ leaf (label_at a text u)
unfolding below
below_leaf a text u e = tree_at_leaf u a text u e
