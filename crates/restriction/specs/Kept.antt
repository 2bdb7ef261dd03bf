-- The tree that is left of tree arrays when only the leaves with these numbers are kept. 003, section 2.
use Rattle.std.specs.Prelude.{ℕ, zero, suc, ◌-◌, Bool, false, cond, List, get_or}
use Rattle.std.proofs.Math.Option.{Option, some, none}
use Rattle.trees.specs.declared.TreeArrays.{TreeArrays}
use Rattle.trees.specs.Tree.{Tree, leaf}
use Rattle.trees.specs.Arrays.{label_at, is_leaf, Standing, no_leaf, one_tree}
use Rattle.agreement.specs.Restrict.{join_kept}

-- what is left below node u, at most as deep as `room`
unfoldable pub kept_at : ℕ → TreeArrays → List ℕ → List Bool → ℕ → Option Tree
unfolding is_leaf label_at join_kept
kept_at zero a text kept u = none
kept_at (suc room) a text kept u =
    cond (is_leaf a u) (cond (get_or kept u false) (some (leaf (label_at a text u))) none)
    (join_kept (kept_at room a text kept (get_or a.left u 0)) (kept_at room a text kept (get_or a.right u 0)))

unfoldable pub standing_of : Option Tree → Standing
standing_of none = no_leaf
standing_of (some t) = one_tree t

-- what is left of the arrays, if they represent a tree
unfoldable pub kept_standing : TreeArrays → List ℕ → List Bool → Standing
unfolding kept_at standing_of
kept_standing a text kept = standing_of (kept_at a.nodes a text kept (a.nodes - 1))
