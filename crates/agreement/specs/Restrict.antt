-- Restriction of a tree to a set of leaves. 003, section 2: discard the other leaves and the inner nodes left
-- with one child. 01, "Agreement".
use Rattle.std.specs.Prelude.{Bool, cond}
use Rattle.std.proofs.Math.Option.{Option, some, none}
use Rattle.trees.specs.Label.{Label}
use Rattle.trees.specs.Tree.{Tree, leaf, node}
use Rattle.trees.specs.Token.{Token}
use Rattle.trees.specs.Edition.{key, keyed}
use Rattle.trees.specs.declared.Edition.{Edition}

-- a node with these children, each of which may have no leaf left
unfoldable pub join_kept : Option Tree → Option Tree → Option Tree
join_kept none none = none
join_kept none (some q) = some q
join_kept (some p) none = some p
join_kept (some p) (some q) = some (node p q)

-- none if no leaf is left
unfoldable pub restrict : (Label → Bool) → Tree → Option Tree
unfolding join_kept
restrict X (leaf x) = cond (X x) (some (leaf x)) none
restrict X (node a b) = join_kept (restrict X a) (restrict X b)

-- C-15: a tree of tokens restricted to the leaves whose keys are in the set; what is left keeps its spelling
abbrev pub restrict_in : Edition → (Label → Bool) → Tree → Option Tree
restrict_in e X t = restrict (λ (y : Token). X (key e y)) t

-- what is left of it by its keys
unfoldable pub keyed_kept : Edition → Option Tree → Option Tree
keyed_kept e none = none
keyed_kept e (some t) = some (keyed e t)
