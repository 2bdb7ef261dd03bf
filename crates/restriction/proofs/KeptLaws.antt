-- What is kept below a node of good arrays: how it unfolds, that it has no more leaves than the tree below the node, and that it
-- is the tree's restriction to the labels of the flagged leaves. Assumes nothing.
use Prim.Native.Nat.{ℕ, zero, suc, ◌<◌, ◌≤◌}
use mathlib.Core.Path.{◌≡◌, refl, sym, ◌∙◌, ap₂}
use mathlib.Core.Bool.{Bool, true, false, cond}
use mathlib.Core.Logic.{◌⊎◌, inl, inr}
use mathlib.Core.List.{List}
use mathlib.Core.Option.{Option, some, none}
use native.Mathlib.Omega.{arith}
use native.Mathlib.Nat.{not-suc-le-zero}
use lib.ListN.{length, get_or, length-append}
use Rattle.trees.specs.declared.TreeArrays.{TreeArrays}
use Rattle.trees.specs.Label.{Label}
use Rattle.trees.specs.Tree.{Tree, leaf, node, leaves}
use Rattle.trees.specs.Arrays.{is_leaf, label_at, good_nodes, tree_at}
use Rattle.trees.proofs.Bools.{bool_cases}
use Rattle.trees.proofs.ArrayLaws.{ChildrenBelow, children_below, good_at, tree_at_leaf, tree_at_node}
use Rattle.agreement.specs.Restrict.{join_kept, restrict}
use Rattle.agreement.proofs.RestrictLaws.{kept_leaves}
use Rattle.restriction.specs.Kept.{kept_at}

leaf_few : (flag : Bool) (x : Label) → length (kept_leaves (cond flag (some (leaf x)) none)) ≤ length (leaves (leaf x))
unfolding kept_leaves leaves
leaf_few true x = omega arith
leaf_few false x = omega arith

node_few : (o p : Option Tree) (s t : Tree) → length (kept_leaves o) ≤ length (leaves s) → length (kept_leaves p) ≤ length (leaves t)
    → length (kept_leaves (join_kept o p)) ≤ length (leaves (node s t))
unfolding kept_leaves join_kept leaves
node_few none none s t h k = omega arith
node_few none (some q) s t h k = omega (arith, length-append (leaves s) (leaves t))
node_few (some p) none s t h k = omega (arith, length-append (leaves s) (leaves t))
node_few (some p) (some q) s t h k = omega (arith, length-append (leaves s) (leaves t), length-append (leaves p) (leaves q))

-- induction over the nodes of good arrays: from children to parents, each with enough room
module _ (a : TreeArrays) (text : List ℕ) (good : good_nodes a text a.nodes ≡ true) where
  pub by_rooms : (P : ℕ → ℕ → Type 0) → ((r u : ℕ) → u < a.nodes → is_leaf a u ≡ true → P (suc r) u)
      → ((r u : ℕ) → u < a.nodes → is_leaf a u ≡ false → ChildrenBelow a u → P r (get_or a.left u 0) → P r (get_or a.right u 0) → P (suc r) u)
      → (r u : ℕ) → u < a.nodes → u < r → P r u
  by_rooms P l n zero u h k = absurd (not-suc-le-zero k)
  by_rooms P l n (suc r) u h k = go (bool_cases (is_leaf a u)) (by_rooms P l n r)
    where
      go : (is_leaf a u ≡ true) ⊎ (is_leaf a u ≡ false) → ((v : ℕ) → v < a.nodes → v < r → P r v) → P (suc r) u
      go (inl e) below = l r u h e
      go (inr e) below =
          let b = children_below a text u (good_at a text a.nodes good u h) e in
          n r u h e b
          (below (get_or a.left u 0) (omega (arith, b.left_below)) (omega (arith, b.left_below)))
          (below (get_or a.right u 0) (omega (arith, b.right_below)) (omega (arith, b.right_below)))

module _ (a : TreeArrays) (text : List ℕ) (kept : List Bool) where
  pub kept_leaf : (r u : ℕ) → is_leaf a u ≡ true
      → kept_at (suc r) a text kept u ≡ cond (get_or kept u false) (some (leaf (label_at a text u))) none
  unfolding kept_at
  kept_leaf r u h = rw h refl

  kept_inner : (r u : ℕ) → is_leaf a u ≡ false
      → kept_at (suc r) a text kept u ≡ join_kept (kept_at r a text kept (get_or a.left u 0)) (kept_at r a text kept (get_or a.right u 0))
  unfolding kept_at
  kept_inner r u h = rw h refl

  module _ (good : good_nodes a text a.nodes ≡ true) where
    -- room past a node's number changes nothing
    pub kept_rooms : (r u : ℕ) → u < a.nodes → u < r → (s : ℕ) → u < s → kept_at r a text kept u ≡ kept_at s a text kept u
    kept_rooms = by_rooms a text good (λ r u. (s : ℕ) → u < s → kept_at r a text kept u ≡ kept_at s a text kept u) at_leaf at_node
      where
        at_leaf : (r u : ℕ) → u < a.nodes → is_leaf a u ≡ true → (s : ℕ) → u < s → kept_at (suc r) a text kept u ≡ kept_at s a text kept u
        at_leaf r u h e zero k = absurd (not-suc-le-zero k)
        at_leaf r u h e (suc s) k = kept_leaf r u e ∙ sym (kept_leaf s u e)

        at_node : (r u : ℕ) → u < a.nodes → is_leaf a u ≡ false → ChildrenBelow a u
            → ((s : ℕ) → get_or a.left u 0 < s → kept_at r a text kept (get_or a.left u 0) ≡ kept_at s a text kept (get_or a.left u 0))
            → ((s : ℕ) → get_or a.right u 0 < s → kept_at r a text kept (get_or a.right u 0) ≡ kept_at s a text kept (get_or a.right u 0))
            → (s : ℕ) → u < s → kept_at (suc r) a text kept u ≡ kept_at s a text kept u
        at_node r u h e b p q zero k = absurd (not-suc-le-zero k)
        at_node r u h e b p q (suc s) k =
            kept_inner r u e ∙ ap₂ join_kept (p s (omega (arith, b.left_below))) (q s (omega (arith, b.right_below)))
            ∙ sym (kept_inner s u e)

    -- an inner node by its children, each with the least room
    pub kept_node : (u : ℕ) → u < a.nodes → is_leaf a u ≡ false
        → kept_at (suc u) a text kept u
        ≡ join_kept (kept_at (suc (get_or a.left u 0)) a text kept (get_or a.left u 0))
        (kept_at (suc (get_or a.right u 0)) a text kept (get_or a.right u 0))
    kept_node u h e =
        let b = children_below a text u (good_at a text a.nodes good u h) e in
        kept_inner u u e
        ∙ ap₂ join_kept
        (kept_rooms u (get_or a.left u 0) (omega (arith, b.left_below)) b.left_below (suc (get_or a.left u 0)) (omega arith))
        (kept_rooms u (get_or a.right u 0) (omega (arith, b.right_below)) b.right_below (suc (get_or a.right u 0)) (omega arith))

    -- no more leaves than the tree
    pub kept_few : (r u : ℕ) → u < a.nodes → u < r → length (kept_leaves (kept_at r a text kept u)) ≤ length (leaves (tree_at r a text u))
    kept_few =
        by_rooms a text good (λ r u. length (kept_leaves (kept_at r a text kept u)) ≤ length (leaves (tree_at r a text u)))
        (λ r u h e. rw (kept_leaf r u e, tree_at_leaf r a text u e) (leaf_few (get_or kept u false) (label_at a text u)))
        (λ r u h e b p q.
        rw (kept_inner r u e, tree_at_node r a text u e)
        (node_few (kept_at r a text kept (get_or a.left u 0)) (kept_at r a text kept (get_or a.right u 0)) _ _ p q))

    -- the restriction to the labels of the flagged leaves
    pub kept_restrict : (X : Label → Bool)
        → ((u : ℕ) → u < a.nodes → is_leaf a u ≡ true → get_or kept u false ≡ X (label_at a text u))
        → (r u : ℕ) → u < a.nodes → u < r → kept_at r a text kept u ≡ restrict X (tree_at r a text u)
    unfolding restrict
    kept_restrict X f =
        by_rooms a text good (λ r u. kept_at r a text kept u ≡ restrict X (tree_at r a text u))
        (λ r u h e. kept_leaf r u e ∙ (rw (tree_at_leaf r a text u e, f u h e) refl))
        (λ r u h e b p q. kept_inner r u e ∙ ap₂ join_kept p q ∙ (rw (tree_at_node r a text u e) refl))
