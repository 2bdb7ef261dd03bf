-- What this crate promises about restriction over tree arrays, for both editions at once. Each proof cites one name. Assumes nothing.
use Prim.Native.Nat.{ℕ, ◌<◌}
use mathlib.Core.Path.{◌≡◌}
use mathlib.Core.Bool.{Bool, true, false}
use mathlib.Core.Logic.{◌↔◌}
use mathlib.Core.List.{List}
use lib.ListN.{get_or}
use Rattle.trees.specs.declared.Edition.{Edition}
use Rattle.trees.specs.declared.TreeArrays.{TreeArrays}
use Rattle.trees.specs.Label.{Label}
use Rattle.trees.specs.Token.{Token}
use Rattle.trees.specs.Tree.{Tree}
use Rattle.trees.specs.Edition.{keyed, ValidIn}
use Rattle.trees.specs.Text.{text_of}
use Rattle.trees.specs.Arrays.{arrays_of, is_leaf, label_at, tree_of, one_tree}
use Rattle.trees.specs.Postorder.{LeafIs}
use Rattle.agreement.specs.Restrict.{restrict, restrict_in}
use Rattle.restriction.specs.Flagged.{flagged}
use Rattle.restriction.specs.Kept.{standing_of, kept_standing}
use Rattle.restriction.proofs.RestrictionLaws.{kept_tokens}
use Rattle.restriction.proofs.FlaggedLaws.{flagged_iff, set_kept, kept_flagged, result_flagged}

-- "Source document 003 defines restriction: drop the other leaves and the inner nodes left with one child." Over the arrays of a valid
-- tree, the contract of `restrict_tree` gives arrays that represent the restriction to the flagged labels.
pub result_is_restriction : (e : Edition) (t : Tree) → ValidIn e t → (kept : List Bool) (r : TreeArrays)
    → ((text : List ℕ) (s : Tree) → tree_of (arrays_of t) text ≡ one_tree s → tree_of r text ≡ kept_standing (arrays_of t) text kept)
    → tree_of r (text_of t) ≡ standing_of (restrict_in e (flagged (keyed e t) kept) t)
result_is_restriction = result_flagged

-- "the other leaves": those whose label is not flagged; a label is flagged exactly if some flagged node is its leaf
pub label_is_flagged : (t : Tree) (kept : List Bool) (x : Label)
    → (flagged t kept x ≡ true) ↔ ((u : ℕ) × LeafIs t u x × (get_or kept u false ≡ true))
label_is_flagged = flagged_iff

-- What is left of a valid tree's arrays represents the restriction to the flagged labels.
pub kept_is_restriction : (e : Edition) (t : Tree) → ValidIn e t → (kept : List Bool)
    → kept_standing (arrays_of t) (text_of t) kept ≡ standing_of (restrict_in e (flagged (keyed e t) kept) t)
kept_is_restriction = kept_flagged

-- "restriction of a tree to a set of leaves": if each leaf's flag states whether the set has its label, the result is the restriction to
-- the set.
pub set_is_kept : (e : Edition) (t : Tree) → ValidIn e t → (kept : List Bool) (X : Label → Bool)
    → ((u : ℕ) (x : Label) → LeafIs (keyed e t) u x → get_or kept u false ≡ X x)
    → kept_standing (arrays_of t) (text_of t) kept ≡ standing_of (restrict_in e X t)
set_is_kept = set_kept

-- The same for any arrays that represent a tree over a text, and any test of its tokens.
pub set_is_kept_of_arrays : (a : TreeArrays) (text : List ℕ) (kept : List Bool) (t : Tree) (P : Token → Bool) → tree_of a text ≡ one_tree t
    → ((u : ℕ) → u < a.nodes → is_leaf a u ≡ true → get_or kept u false ≡ P (label_at a text u))
    → kept_standing a text kept ≡ standing_of (restrict P t)
set_is_kept_of_arrays = kept_tokens
