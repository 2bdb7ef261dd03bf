-- Sets of labels as lists in label order. 01, "Agreement": largest and first.
use Rattle.std.specs.Prelude.{◌≡◌, Bool, true, false, cond, List, [], ◌∷◌, ◌++◌, map}
use Rattle.trees.specs.Label.{Label, label_less, is_in}
use Rattle.trees.specs.Tree.{Tree, leaves}
use Rattle.agreement.specs.Closer.{holds}

-- each label is less than every later one
unfoldable pub below : Label → List Label → Bool
below x [] = true
below x (y ∷ ys) = cond (label_less x y) (below x ys) false

unfoldable pub increasing : List Label → Bool
unfolding below
increasing [] = true
increasing (x ∷ xs) = cond (below x xs) (increasing xs) false

-- the labels in label order
unfoldable pub insert : Label → List Label → List Label
insert x [] = x ∷ []
insert x (y ∷ ys) = cond (label_less x y) (x ∷ y ∷ ys) (y ∷ insert x ys)

unfoldable pub sorted : List Label → List Label
unfolding insert
sorted [] = []
sorted (x ∷ xs) = insert x (sorted xs)

unfoldable pub keep : (Label → Bool) → List Label → List Label
keep X [] = []
keep X (y ∷ ys) = cond (X y) (y ∷ keep X ys) (keep X ys)

-- the leaves common to both trees, in label order
unfoldable pub common : Tree → Tree → List Label
unfolding sorted keep holds
common s t = sorted (keep (holds t) (leaves s))

-- the labels of a list as a set
abbrev pub set_of : List Label → Label → Bool
set_of xs = λ x. is_in x xs

-- all labels of the first list are in the second
unfoldable pub all_in : List Label → List Label → Bool
all_in [] ys = true
all_in (x ∷ xs) ys = cond (is_in x ys) (all_in xs ys) false

-- "Of two sets as large as each other, the first is the one that holds the smallest label standing in only one of them."
pub record First (X Y : Label → Bool) : Type 0 where
  pub at : Label
  pub held : X at ≡ true
  pub lacked : Y at ≡ false
  pub smallest : (x : Label) → label_less x at ≡ true → X x ≡ Y x

-- all sublists, in the order in which "first" compares those of one length: those that hold the first label come before
unfoldable pub sublists : List Label → List (List Label)
sublists [] = [] ∷ []
sublists (x ∷ xs) = map (◌∷◌ x) (sublists xs) ++ sublists xs
