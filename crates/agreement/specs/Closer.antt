-- Least common ancestor, closer pair and agreement. 01, "Agreement"; 003, section 2.
use Rattle.std.specs.Prelude.{◌≡◌, Bool, true, false, cond, not, ◌&&◌, ◌⊎◌}
use Rattle.trees.specs.Label.{Label, is_in}
use Rattle.trees.specs.Tree.{Tree, leaf, node, leaves}

-- the label is a leaf of the tree
unfoldable pub holds : Tree → Label → Bool
unfolding leaves is_in
holds t x = is_in x (leaves t)

-- the least common ancestor of two leaves, as the smallest subtree that contains both
unfoldable pub lca : Tree → Label → Label → Tree
unfolding holds
lca (leaf x) a b = leaf x
lca (node p q) a b =
    cond (holds p a && holds p b) (lca p a b) (cond (holds q a && holds q b) (lca q a b) (node p q))

-- a and b are the closer pair of a, b and c: their least common ancestor is below that of all three, since it does not contain c. "Closer
-- pair" is 01's term; the field says that the tree has the rooted triple ab|c.
unfoldable pub closer : Tree → Label → Label → Label → Bool
unfolding lca holds
closer t a b c = not (holds (lca t a b) c)

-- exactly one of three tests: "exactly one pair has its least common ancestor below that of all three"
abbrev pub OneOf : Bool → Bool → Bool → Type 0
OneOf x y z =
    ((x ≡ true) × (y ≡ false) × (z ≡ false))
    ⊎ (((x ≡ false) × (y ≡ true) × (z ≡ false)) ⊎ ((x ≡ false) × (y ≡ false) × (z ≡ true)))

-- "Trees agree on a set of leaves common to both exactly if each three of the set have the same closer pair in both"
abbrev pub Agree : Tree → Tree → (Label → Bool) → Type 0
Agree s t X =
    (a b c : Label) → X a ≡ true → X b ≡ true → X c ≡ true → (a ≡ b → ⊥) → (a ≡ c → ⊥) → (b ≡ c → ⊥)
    → closer s a b c ≡ closer t a b c

-- a set of leaves common to both
abbrev pub Common : Tree → Tree → (Label → Bool) → Type 0
Common s t X = (x : Label) → X x ≡ true → (holds s x ≡ true) × (holds t x ≡ true)
