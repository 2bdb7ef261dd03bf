-- A label is flagged exactly if its leaf has a flag, so what is kept of a valid tree stands for the decoded tree's restriction to
-- the flagged labels.
-- Assumes nothing.
use Prim.Native.Nat.{ℕ, zero, suc, ◌<◌}
use mathlib.Core.Path.{◌≡◌, refl, sym, ◌∙◌, ap}
use mathlib.Core.Bool.{Bool, true, false, ◌&&◌}
use mathlib.Core.Logic.{◌⊎◌, inl, inr, ◌↔◌}
use mathlib.Core.List.{List}
use native.Mathlib.Omega.{arith}
use native.Mathlib.Nat.{not-suc-le-zero}
use native.Mathlib.Decide.{dec_lt}
use lib.ListN.{get_or}
use Rattle.trees.specs.Label.{Label, distinct}
use Rattle.trees.specs.Tree.{Tree, leaf, node, leaves}
use Rattle.trees.specs.declared.Edition.{Edition}
use Rattle.trees.specs.Edition.{keyed, ValidIn}
use Rattle.trees.specs.Text.{text_of}
use Rattle.trees.specs.declared.TreeArrays.{TreeArrays}
use Rattle.trees.specs.Arrays.{nodes_of, arrays_of, tree_of, one_tree}
use Rattle.trees.specs.Postorder.{postorder, subtree, LeafIs}
use Rattle.trees.proofs.Bools.{bool_cases, clash, and_left, and_right, and_intro, or_cases, or_inl, or_inr}
use Rattle.trees.proofs.LabelLaws.{same_eq, same_refl}
use Rattle.trees.proofs.EditionLaws.{valid_spelled}
use Rattle.trees.proofs.ArrayLaws.{stands}
use Rattle.trees.proofs.PostorderLaws.{leaf_once}
use Rattle.agreement.specs.Restrict.{restrict_in}
use Rattle.restriction.specs.Flagged.{is_this_leaf, flagged_below, flagged}
use Rattle.restriction.specs.Kept.{kept_standing, standing_of}
use Rattle.restriction.proofs.RestrictionLaws.{own_kept}

-- a node below n that is the leaf x and has a flag
record FlaggedLeaf (n : ℕ) (ts : List Tree) (kept : List Bool) (x : Label) : Type 0 where
  at : ℕ
  below : at < n
  flag : get_or kept at false ≡ true
  is : subtree ts at ≡ leaf x

this_leaf : (t : Tree) (x : Label) → is_this_leaf t x ≡ true → t ≡ leaf x
unfolding is_this_leaf
this_leaf (leaf y) x h = ap leaf (sym (same_eq x y h))
this_leaf (node a b) x h = clash h refl

leaf_this : (t : Tree) (x : Label) → t ≡ leaf x → is_this_leaf t x ≡ true
unfolding is_this_leaf
leaf_this t x e = rw e (same_refl x)

flagged_leaf : (n : ℕ) (ts : List Tree) (kept : List Bool) (x : Label) → flagged_below n ts kept x ≡ true → FlaggedLeaf n ts kept x
unfolding flagged_below
flagged_leaf zero ts kept x h = clash h refl
flagged_leaf (suc n) ts kept x h =
    go (or_cases (get_or kept n false && is_this_leaf (subtree ts n) x) (flagged_below n ts kept x) h) (flagged_leaf n ts kept x)
  where
    go : ((get_or kept n false && is_this_leaf (subtree ts n) x) ≡ true) ⊎ (flagged_below n ts kept x ≡ true)
        → (flagged_below n ts kept x ≡ true → FlaggedLeaf n ts kept x) → FlaggedLeaf (suc n) ts kept x
    go (inl k) f =
        record {
          at = n;
          below = omega arith;
          flag = and_left (get_or kept n false) (is_this_leaf (subtree ts n) x) k;
          is = this_leaf (subtree ts n) x (and_right (get_or kept n false) (is_this_leaf (subtree ts n) x) k);
        }
    go (inr k) f =
        let r = f k in
        record { at = r.at; below = omega (arith, r.below); flag = r.flag; is = r.is }

leaf_flagged : (n : ℕ) (ts : List Tree) (kept : List Bool) (x : Label) → FlaggedLeaf n ts kept x → flagged_below n ts kept x ≡ true
unfolding flagged_below
leaf_flagged zero ts kept x r = absurd (not-suc-le-zero r.below)
leaf_flagged (suc n) ts kept x r = go (dec_lt r.at n) (leaf_flagged n ts kept x)
  where
    go : Dec (r.at < n) → (FlaggedLeaf n ts kept x → flagged_below n ts kept x ≡ true) → flagged_below (suc n) ts kept x ≡ true
    go (yes l) f =
        or_inr (get_or kept n false && is_this_leaf (subtree ts n) x) (flagged_below n ts kept x)
        (f (record { at = r.at; below = l; flag = r.flag; is = r.is }))
    go (no l) f =
        let e : r.at ≡ n = omega (arith, r.below) in
        or_inl (get_or kept n false && is_this_leaf (subtree ts n) x) (flagged_below n ts kept x)
        (and_intro (get_or kept n false) (is_this_leaf (subtree ts n) x) (rw e at r.flag) (leaf_this (subtree ts n) x (rw e at r.is)))

-- in a tree with different labels a leaf's flag tells whether its label is flagged
flag_tells : (t : Tree) → distinct (leaves t) ≡ true → (kept : List Bool) (u : ℕ) → u < nodes_of t → (x : Label)
    → subtree (postorder t) u ≡ leaf x → get_or kept u false ≡ flagged t kept x
unfolding flagged
flag_tells t d kept u h x e = go (bool_cases (get_or kept u false)) (bool_cases (flagged_below (nodes_of t) (postorder t) kept x))
  where
    go : (get_or kept u false ≡ true) ⊎ (get_or kept u false ≡ false)
        → (flagged_below (nodes_of t) (postorder t) kept x ≡ true) ⊎ (flagged_below (nodes_of t) (postorder t) kept x ≡ false)
        → get_or kept u false ≡ flagged_below (nodes_of t) (postorder t) kept x
    go (inl k) f =
        k ∙ sym (leaf_flagged (nodes_of t) (postorder t) kept x (record { at = u; below = h; flag = k; is = e }))
    go (inr k) (inr f) = k ∙ sym f
    go (inr k) (inl f) =
        let r = flagged_leaf (nodes_of t) (postorder t) kept x f in
        clash (ap (λ v. get_or kept v false) (leaf_once t d u r.at h r.below x e r.is) ∙ r.flag) k

pub kept_flagged : (e : Edition) (t : Tree) → ValidIn e t → (kept : List Bool)
    → kept_standing (arrays_of t) (text_of t) kept ≡ standing_of (restrict_in e (flagged (keyed e t) kept) t)
kept_flagged e t v kept = own_kept e t v kept (flagged (keyed e t) kept) (flag_tells (keyed e t) v.different kept)

-- a label is flagged exactly if some flagged node is its leaf
pub flagged_iff : (t : Tree) (kept : List Bool) (x : Label)
    → (flagged t kept x ≡ true) ↔ ((u : ℕ) × LeafIs t u x × (get_or kept u false ≡ true))
unfolding flagged
flagged_iff t kept x = (
  λ h. let r = flagged_leaf (nodes_of t) (postorder t) kept x h in (r.at, record { below = r.below; is = r.is }, r.flag),
  λ h. leaf_flagged (nodes_of t) (postorder t) kept x (record { at = h.0; below = h.1.below; flag = h.2; is = h.1.is }),
)

-- where each leaf's flag tells whether a set has its label, what is kept is the restriction to that set
pub set_kept : (e : Edition) (t : Tree) → ValidIn e t → (kept : List Bool) (X : Label → Bool)
    → ((u : ℕ) (x : Label) → LeafIs (keyed e t) u x → get_or kept u false ≡ X x)
    → kept_standing (arrays_of t) (text_of t) kept ≡ standing_of (restrict_in e X t)
set_kept e t v kept X f = own_kept e t v kept X (λ u h x k. f u x (record { below = h; is = k }))

-- so what the contract of `restrict_tree` says of its result over a valid tree's own arrays is this
pub result_flagged : (e : Edition) (t : Tree) → ValidIn e t → (kept : List Bool) (r : TreeArrays)
    → ((text : List ℕ) (s : Tree) → tree_of (arrays_of t) text ≡ one_tree s → tree_of r text ≡ kept_standing (arrays_of t) text kept)
    → tree_of r (text_of t) ≡ standing_of (restrict_in e (flagged (keyed e t) kept) t)
result_flagged e t v kept r k = k (text_of t) t (stands t (valid_spelled e t v)) ∙ kept_flagged e t v kept
