-- The labels of the `at` lines one after the other: C-17, "every label on the `at` lines, as often as it stands there". A line's required
-- label comes first, then the leaves that hang there.
use Rattle.std.specs.Prelude.{Bool, true, false, List, [], ◌∷◌, ◌++◌}
use Rattle.trees.specs.Label.{Label}
use Rattle.pieces.specs.Pieces.{Piece}

-- a label, and whether it is the required one of its line
pub record Item : Type 0 where
  pub label : Label
  pub head : Bool

-- what is past the end of a list of items
abbrev pub no_item : Item
no_item = record { label = []; head = false }

unfoldable pub items_with : Bool → List Label → List Item
items_with b [] = []
items_with b (x ∷ xs) = record { label = x; head = b } ∷ items_with b xs

-- the labels of all lines, in the order in which they are printed
unfoldable pub items_of : List Piece → List Item
unfolding items_with
items_of [] = []
items_of (p ∷ ps) = items_with true p.required ++ (items_with false p.others ++ items_of ps)
