-- Induction over pairs of trees with distinct leaves, as the recurrence goes: each case may use every pair below it. Assumes nothing.
use mathlib.Core.Path.{◌≡◌}
use mathlib.Core.Bool.{true}
use Rattle.trees.specs.Label.{Label, distinct}
use Rattle.trees.specs.Tree.{Tree, leaf, node, leaves}
use Rattle.agreement.proofs.HoldsLaws.{distinct_node}
use Rattle.agreement.proofs.Children.{Children, children}

module _ (P : Tree → Tree → Type 0)
    (leaf-leaf : (x y : Label) → P (leaf x) (leaf y))
    (leaf_node : (x : Label) (c d : Tree) → Children (node c d) c d → P (leaf x) c → P (leaf x) d → P (leaf x) (node c d))
    (node_leaf : (p q : Tree) (y : Label) → distinct (leaves (node p q)) ≡ true → P p (leaf y) → P q (leaf y) → P (node p q) (leaf y))
    (node_node : (p q c d : Tree) → Children (node p q) p q → Children (node c d) c d
    → P p (node c d) → P q (node c d) → P (node p q) c → P (node p q) d → P p c → P q d → P p d → P q c → P (node p q) (node c d)) where
  pub by_pairs : (s t : Tree) → distinct (leaves s) ≡ true → distinct (leaves t) ≡ true → P s t
  by_pairs (leaf x) (leaf y) ds dt = leaf-leaf x y
  by_pairs (leaf x) (node c d) ds dt =
      leaf_node x c d (children c d dt) (by_pairs (leaf x) c ds (distinct_node c d dt).one) (by_pairs (leaf x) d ds (distinct_node c d dt).two)
  by_pairs (node p q) (leaf y) ds dt =
      node_leaf p q y ds (by_pairs p (leaf y) (distinct_node p q ds).one dt) (by_pairs q (leaf y) (distinct_node p q ds).two dt)
  by_pairs (node p q) (node c d) ds dt =
      let dp : distinct (leaves p) ≡ true = (distinct_node p q ds).one in
      let dq : distinct (leaves q) ≡ true = (distinct_node p q ds).two in
      let dc : distinct (leaves c) ≡ true = (distinct_node c d dt).one in
      let dd : distinct (leaves d) ≡ true = (distinct_node c d dt).two in
      node_node p q c d (children p q ds) (children c d dt)
      (by_pairs p (node c d) dp dt) (by_pairs q (node c d) dq dt) (by_pairs (node p q) c ds dc) (by_pairs (node p q) d ds dd)
      (by_pairs p c dp dc) (by_pairs q d dq dd) (by_pairs p d dp dd) (by_pairs q c dq dc)
