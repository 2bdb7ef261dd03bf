-- Leaves in only one tree. C-11: "a leaf that stands in only one tree stops the job".
use Rattle.std.specs.Prelude.{◌≡◌, Bool, true, false, cond, List, [], ◌∷◌, ◌++◌}
use Rattle.std.proofs.Math.Option.{Option, some, none}
use Rattle.trees.specs.Label.{Label, is_in}
use Rattle.trees.specs.Tree.{Tree, leaves}
use Rattle.agreement.specs.Closer.{holds}

-- "Both trees must hold the same"
abbrev pub SameLeaves : Tree → Tree → Type 0
SameLeaves s t = (x : Label) → holds s x ≡ holds t x

-- x is the first label of the list outside the set
pub record FirstOutside (X : Label → Bool) (xs : List Label) (x : Label) : Type 0 where
  pub before : List Label
  pub after : List Label
  pub is : xs ≡ before ++ (x ∷ after)
  pub outside : X x ≡ false
  pub earlier : (y : Label) → is_in y before ≡ true → X y ≡ true

-- "the first such leaf" of a tree, in the order of its text: the other tree lacks it and has every leaf to the left of it
abbrev pub IsStray : Tree → Tree → Label → Type 0
IsStray t other x = FirstOutside (holds other) (leaves t) x

-- a leaf in only one tree
pub data Stray : Type 0 where
  in_first : Label → Stray
  in_second : Label → Stray
  nowhere : Stray

-- "the first such leaf in S or, if S has none, in T"
abbrev pub StrayTold : Tree → Tree → Stray → Type 0
StrayTold s t (in_first x) = IsStray s t x
StrayTold s t (in_second x) = ((y : Label) → holds s y ≡ true → holds t y ≡ true) × IsStray t s x
StrayTold s t nowhere = SameLeaves s t

-- the same by search
unfoldable pub first_outside : (Label → Bool) → List Label → Option Label
first_outside X [] = none
first_outside X (x ∷ xs) = cond (X x) (first_outside X xs) (some x)

unfoldable pub in_either : Option Label → Option Label → Stray
in_either (some x) other = in_first x
in_either none (some y) = in_second y
in_either none none = nowhere

unfoldable pub stray_of : Tree → Tree → Stray
unfolding first_outside in_either
stray_of s t = in_either (first_outside (holds t) (leaves s)) (first_outside (holds s) (leaves t))
