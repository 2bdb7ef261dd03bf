-- The answer to two trees and a required list, by trying all sets. 01, "Agreement" and rows 6 to 8 of "Why a job is
-- turned down".
use Rattle.std.specs.Prelude.{ℕ, suc, Bool, true, false, cond, not, ◌&&◌, ◌||◌, List, [], ◌∷◌, ltb, length}
use Rattle.std.proofs.Math.Option.{Option, some, none}
use Rattle.trees.specs.Label.{Label}
use Rattle.trees.specs.Tree.{Tree}
use Rattle.agreement.specs.Closer.{holds, closer}
use Rattle.agreement.specs.Sets.{sorted, common, all_in, sublists}

pub data Answer : Type 0 where
  -- 6: the first tree lacks the required label with this index in the list, counted from 0
  first_lacks : ℕ → Answer
  -- 7: only the second lacks it
  second_lacks : ℕ → Answer
  -- 8: three required labels with different closer pairs
  disagree : Label → Label → Label → Answer
  -- the set in label order
  largest : List Label → Answer

unfoldable pub differ : Bool → Bool → Bool
differ true b = not b
differ false b = b

-- the two trees have different closer pairs of these three
unfoldable pub clashing : Tree → Tree → Label → Label → Label → Bool
unfolding differ closer
clashing s t a b c =
    differ (closer s a b c) (closer t a b c) || (differ (closer s a c b) (closer t a c b) || differ (closer s b c a) (closer t b c a))

pub record Three : Type 0 where
  pub one : Label
  pub two : Label
  pub three : Label

-- the first of the two that is there
unfoldable pub or_else : Option Three → Option Three → Option Three
or_else none y = y
or_else (some x) y = some x

-- the first three with different closer pairs, compared label by label: with both a and b, with a, and of any
unfoldable pub clash_with_two : Tree → Tree → Label → Label → List Label → Option Three
unfolding clashing
clash_with_two s t a b [] = none
clash_with_two s t a b (c ∷ xs) =
    cond (clashing s t a b c) (some (record { one = a; two = b; three = c })) (clash_with_two s t a b xs)

unfoldable pub clash_with_one : Tree → Tree → Label → List Label → Option Three
unfolding clash_with_two or_else
clash_with_one s t a [] = none
clash_with_one s t a (b ∷ xs) = or_else (clash_with_two s t a b xs) (clash_with_one s t a xs)

unfoldable pub first_clash : Tree → Tree → List Label → Option Three
unfolding clash_with_one or_else
first_clash s t [] = none
first_clash s t (a ∷ xs) = or_else (clash_with_one s t a xs) (first_clash s t xs)

-- the trees agree on the labels of the list
unfoldable pub agree_on : Tree → Tree → List Label → Bool
unfolding first_clash
agree_on s t xs = elim (first_clash s t xs) [ none ↦ true | some c ↦ false ]

-- the sets of common leaves that contain the required ones and on which the trees agree
unfoldable pub allowed : Tree → Tree → List Label → List (List Label) → List (List Label)
unfolding agree_on all_in
allowed s t K [] = []
allowed s t K (X ∷ Xs) =
    cond (all_in K X && agree_on s t X) (X ∷ allowed s t K Xs) (allowed s t K Xs)

-- the first of the greatest length
unfoldable pub longest : List Label → List (List Label) → List Label
longest X [] = X
longest X (Y ∷ Ys) = cond (ltb (length X) (length Y)) (longest Y Ys) (longest X Ys)

unfoldable pub first_longest : List (List Label) → List Label
unfolding longest
first_longest [] = []
first_longest (X ∷ Xs) = longest X Xs

unfoldable pub largest_set : Tree → Tree → List Label → List Label
unfolding first_longest allowed sublists common
largest_set s t K = first_longest (allowed s t K (sublists (common s t)))

-- "Numbers 6 and 7 go to the first label in list order that either tree lacks"
unfoldable pub lacking : Tree → Tree → List Label → ℕ → Option Answer
unfolding holds
lacking s t [] n = none
lacking s t (x ∷ xs) n =
    cond (holds s x) (cond (holds t x) (lacking s t xs (suc n)) (some (second_lacks n))) (some (first_lacks n))

unfoldable pub answer : Tree → Tree → List Label → Answer
unfolding lacking first_clash sorted largest_set
answer s t K =
    elim (lacking s t K 0) [
      | some r ↦ r
      | none ↦
          elim (first_clash s t (sorted K)) [ some c ↦ disagree c.one c.two c.three | none ↦ largest (largest_set s t K) ]
    ]
