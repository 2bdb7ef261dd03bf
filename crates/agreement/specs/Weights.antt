-- Weights of sets of leaves, and the recurrence over pairs of nodes. 001, Lemma 3.1, with weights for leaves:
-- with every weight 1 it is the lemma. The recurrence is a means, and no promise is stated by it.
use Rattle.std.specs.Prelude.{ℕ, ◌+◌, max, Bool, cond, List, [], ◌∷◌}
use Rattle.trees.specs.Label.{Label, is_in}
use Rattle.trees.specs.Tree.{Tree, leaf, node, leaves}
use Rattle.agreement.specs.Closer.{holds}
use Rattle.agreement.specs.Sets.{keep}

-- the sum of the weights of the labels of a list
unfoldable pub weigh : (Label → ℕ) → List Label → ℕ
weigh w [] = 0
weigh w (x ∷ xs) = w x + weigh w xs

-- the weight of the leaves of a tree that are in the set
unfoldable pub weight_in : (Label → ℕ) → Tree → (Label → Bool) → ℕ
unfolding weigh keep leaves
weight_in w t X = weigh w (keep X (leaves t))

-- a required label weighs more than all others together, since a tree has at most 80 leaves
abbrev pub required_unit : ℕ
required_unit = 128

unfoldable pub unit_in : List Label → Label → ℕ
unit_in F x = cond (is_in x F) required_unit 1

-- the greatest weight of a set on which two trees agree: below one child of either, or the children paired in one of two ways
unfoldable pub best : (Label → ℕ) → Tree → Tree → ℕ
unfolding holds
best w (leaf x) t = cond (holds t x) (w x) 0
best w (node a b) (leaf y) = cond (holds (node a b) y) (w y) 0
best w (node a b) (node c d) =
    max (max (best w a (node c d)) (best w b (node c d)))
    (max (max (best w (node a b) c) (best w (node a b) d)) (max (best w a c + best w b d) (best w a d + best w b c)))
