-- The pass over arrays that stand for a tree gives arrays of what is left of the tree, and that stands for the decoded tree's
-- restriction to the labels of the flagged leaves. Assumes nothing.
use Prim.Native.Nat.{ℕ, suc, ◌+◌, ◌-◌, ◌<◌, ◌≤◌, min}
use mathlib.Core.Path.{◌≡◌, refl, sym, ◌∙◌, ap, subst}
use mathlib.Core.Bool.{Bool, true, false, cond, ◌&&◌}
use mathlib.Core.List.{List}
use mathlib.Core.Option.{Option}
use native.Mathlib.Omega.{arith}
use native.Mathlib.Nat.{add-sub_cancel}
use lib.Dec.{eqb, leb}
use lib.ListN.{length, get_or, replicate}
use borrow.Author.Tests.{eq-eqb, ne_eqb, eqb-true}
use Rattle.trees.specs.declared.TreeArrays.{TreeArrays}
use Rattle.trees.specs.Label.{Label}
use Rattle.trees.specs.Token.{Token}
use Rattle.trees.specs.declared.Edition.{Edition}
use Rattle.trees.specs.Edition.{key, keyed, ValidIn}
use Rattle.trees.specs.Tree.{Tree, leaf, leaves, leaf_limit}
use Rattle.trees.specs.Text.{text_of}
use Rattle.trees.specs.Postorder.{postorder, subtree, LaidNode, laid_leaf, laid_node}
use Rattle.trees.specs.Arrays.{node_limit, nodes_of, arrays_of, lefts, rights, starts, sizes, is_leaf, label_at, good_nodes, tree_at, tree_of, no_leaf, one_tree, no_tree}
use Rattle.trees.proofs.ArrayLaws.{good_at, all_good, stands_tree, tree_stands, stands}
use Rattle.trees.proofs.EditionLaws.{keyed_nodes, leaf_of_key, valid_spelled}
use Rattle.trees.proofs.PostorderLaws.{length_postorder, laid_arrays, label_shown}
use Rattle.agreement.specs.Restrict.{restrict, restrict_in}
use Rattle.agreement.proofs.RestrictLaws.{kept_leaves}
use Rattle.restriction.specs.Kept.{kept_at, standing_of, kept_standing}
use Rattle.std.specs.Prelude.{None}
use Rattle.restriction.specs.KeptMachine.{NewNumber, up_to, Pass, start_of, arrays_at, pass_of, nodes_kept}
use Rattle.restriction.proofs.KeptLaws.{kept_few, kept_restrict}
use Rattle.restriction.proofs.EntryLaws.{SameAt, same_good, same_trees}
use Rattle.restriction.proofs.PassLaws.{Sized, new_nodes, Found, nothing, something, Passed, passed}

-- arrays of no node stand for no leaf, and only they do
no_nodes : (a : TreeArrays) (text : List ℕ) → a.nodes ≡ 0 → tree_of a text ≡ no_leaf
unfolding tree_of
no_nodes a text e = rw (eq-eqb a.nodes 0 e) refl

none_only : (z b : Bool) (t : Tree) → cond z no_leaf (cond b (one_tree t) no_tree) ≡ no_leaf → z ≡ true
none_only true b t h = refl
none_only false true t h = cc
none_only false false t h = cc

no_leaf_nodes : (a : TreeArrays) (text : List ℕ) → tree_of a text ≡ no_leaf → a.nodes ≡ 0
unfolding tree_of
no_leaf_nodes a text h =
    let t : Tree = tree_at a.nodes a text (a.nodes - 1) in
    eqb-true a.nodes 0
    (none_only (eqb a.nodes 0) (leb a.nodes node_limit && good_nodes a text a.nodes && leb (length (leaves t)) leaf_limit) t h)

-- the arrays cut behind a new number stand for the tree found there
cut_standing : (s : Pass) (text : List ℕ) → good_nodes (new_nodes s) text s.count ≡ true → s.count ≤ node_limit
    → {o : Option Tree} {p : NewNumber} → Found (new_nodes s) text o p → length (kept_leaves o) ≤ leaf_limit
    → tree_of (arrays_at (up_to p) s) text ≡ standing_of o
unfolding standing_of kept_leaves
cut_standing s text good fits nothing few = no_nodes (arrays_at 0 s) text refl
cut_standing s text good fits (something {p} {t} h e) few =
    (stands_tree (arrays_at (p + 1) s) text t
    (record {
      some = omega arith;
      fits = omega arith;
      good =
          all_good (arrays_at (p + 1) s) text (p + 1)
          (λ v k. sym (same_good (new_nodes s) (arrays_at (p + 1) s) v (same v) text) ∙ good_at (new_nodes s) text s.count good v (omega arith));
      tree =
          rw (add-sub_cancel) (sym (same_trees (new_nodes s) (arrays_at (p + 1) s) text good (λ v k. same v) (p + 1) p h (omega arith)) ∙ e);
      few = few;
    }))
  where
    same : (v : ℕ) → SameAt (new_nodes s) (arrays_at (p + 1) s) v
    same v = record { left = refl; right = refl; start = refl; size = refl }

-- the result of the pass over the first n nodes of arrays that have room for every node
module _ (a : TreeArrays) (kept : List Bool) (z : Sized (start_of a)) (s : Pass) (n m : ℕ)
    (d : n ≡ min a.nodes node_limit) (e : s ≡ pass_of (start_of a) kept n) (c : m ≡ nodes_kept s.moved n)
    (text : List ℕ) where
  pub pass_stands : (t : Tree) → tree_of a text ≡ one_tree t → tree_of (arrays_at m s) text ≡ kept_standing a text kept
  unfolding kept_standing nodes_kept
  pass_stands t h =
      let b = tree_stands a text t h in
      let k : n ≡ a.nodes = omega (arith, b.some, b.fits) in
      let i : Passed a text kept n s = rw e (passed a text kept z b.fits b.good n (omega arith)) in
      let q : suc (a.nodes - 1) ≡ a.nodes = omega (arith, b.some) in
      let f : Found (new_nodes s) text (kept_at a.nodes a text kept (a.nodes - 1)) (get_or s.moved (a.nodes - 1) None) =
      subst (λ r. Found (new_nodes s) text (kept_at r a text kept (a.nodes - 1)) (get_or s.moved (a.nodes - 1) None)) q
      (i.found (a.nodes - 1) (omega (arith, b.some)))
      in
      let g : m ≡ up_to (get_or s.moved (a.nodes - 1) None) =
      c ∙ (rw (k, ne_eqb a.nodes 0 (λ (o : a.nodes ≡ 0). omega (arith, b.some))) refl)
      in
      let o = kept_few a text kept b.good a.nodes (a.nodes - 1) (omega (arith, b.some)) (omega (arith, b.some)) in
      rw g
      (cut_standing s text i.good (omega (arith, i.few, b.fits)) f (omega (arith, o, ap (λ r. length (leaves r)) b.tree, b.few)))

  pub pass_empty : tree_of a text ≡ no_leaf → tree_of (arrays_at m s) text ≡ no_leaf
  unfolding nodes_kept
  pass_empty h =
      let k : n ≡ 0 = omega (arith, no_leaf_nodes a text h) in
      no_nodes (arrays_at m s) text (c ∙ (rw (eq-eqb n 0 k) refl))

-- what is left of arrays that stand for t is the restriction of t, where a leaf's flag tells whether the set has its token
pub kept_tokens : (a : TreeArrays) (text : List ℕ) (kept : List Bool) (t : Tree) (P : Token → Bool) → tree_of a text ≡ one_tree t
    → ((u : ℕ) → u < a.nodes → is_leaf a u ≡ true → get_or kept u false ≡ P (label_at a text u))
    → kept_standing a text kept ≡ standing_of (restrict P t)
unfolding kept_standing
kept_tokens a text kept t P h f =
    let s = tree_stands a text t h in
    ap standing_of
    (kept_restrict a text kept s.good P f a.nodes (a.nodes - 1) (omega (arith, s.some)) (omega (arith, s.some)) ∙ ap (restrict P) s.tree)

-- a leaf's flag, where it is laid out among the subtrees in postorder
own_flag : (e : Edition) (t : Tree) (kept : List Bool) (X : Label → Bool)
    → ((u : ℕ) → u < nodes_of (keyed e t) → (x : Label) → subtree (postorder (keyed e t)) u ≡ leaf x → get_or kept u false ≡ X x)
    → (u : ℕ) → u < nodes_of t → {l r : ℕ} {y : Tree} → LaidNode (postorder t) l r u y → l ≡ u → subtree (postorder t) u ≡ y
    → get_or kept u false ≡ X (key e (label_at (arrays_of t) (text_of t) u))
unfolding arrays_of label_at
own_flag e t kept X f u h (laid_leaf {x = x} d) i k =
    f u (omega (arith, keyed_nodes e t)) (key e x) (leaf_of_key e t u x h k)
    ∙ ap (λ (y : Token). X (key e y))
    (sym (label_shown t (replicate (node_limit - length (starts t 0)) 0) (replicate (node_limit - length (sizes t)) 0) u h x k))
own_flag e t kept X f u h (laid_node p q) i k = absurd (omega arith)

-- the same of a valid tree's own arrays, by the numbers of its leaves in postorder and the keys of its labels
pub own_kept : (e : Edition) (t : Tree) → ValidIn e t → (kept : List Bool) (X : Label → Bool)
    → ((u : ℕ) → u < nodes_of (keyed e t) → (x : Label) → subtree (postorder (keyed e t)) u ≡ leaf x → get_or kept u false ≡ X x)
    → kept_standing (arrays_of t) (text_of t) kept ≡ standing_of (restrict_in e X t)
unfolding arrays_of is_leaf
own_kept e t v kept X f =
    kept_tokens (arrays_of t) (text_of t) kept t (λ (y : Token). X (key e y)) (stands t (valid_spelled e t v))
    (λ u h d.
    own_flag e t kept X f u h
    (laid_arrays t (replicate (node_limit - length (lefts t 0)) 0) (replicate (node_limit - length (rights t 0)) 0) u (omega (arith, length_postorder t)))
    (eqb-true (get_or (arrays_of t).left u 0) u d) refl)
