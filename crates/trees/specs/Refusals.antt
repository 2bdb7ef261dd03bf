-- The numbers of the reasons and the letters of the bodies. 01, "Why a job is turned down"; "Each number that a request adds
-- is a row of 01's table" (C-11).
use Rattle.std.specs.Prelude.{ℕ, List}
use Rattle.trees.specs.declared.Refusal.{Refusal}
use Rattle.trees.specs.declared.Reason.{Reason}
use Rattle.trees.specs.declared.Reason.TheVariants.{BadByte, EndsTooSoon, LabelTooLong, TooMany, Repeated, FirstLacks, SecondLacks}
use Rattle.trees.specs.declared.Reason.TheVariants.{Disagree, TooShort, Contents, JobTooLong, NotShared, ClaimLacks, ClaimDisagrees, ClaimSmall}
use Rattle.trees.specs.declared.Body.{Body}
use Rattle.trees.specs.declared.Body.TheVariants.{S, T, K, C, J, O}

unfoldable pub number_of : Reason → ℕ
number_of BadByte = 1
number_of EndsTooSoon = 2
number_of LabelTooLong = 3
number_of TooMany = 4
number_of Repeated = 5
number_of FirstLacks = 6
number_of SecondLacks = 7
number_of Disagree = 8
number_of TooShort = 9
number_of Contents = 10
number_of JobTooLong = 11
-- C-11: a leaf in only one tree of a strict job
number_of NotShared = 12
-- C-16: a required label that the claim lacks; three claimed leaves that disagree; a claim smaller than the largest size
number_of ClaimLacks = 13
number_of ClaimDisagrees = 14
number_of ClaimSmall = 15

-- the letter's byte: S, T, K, C (C-16: "A body with letter C"), J, O
unfoldable pub letter_of : Body → ℕ
letter_of S = 83
letter_of T = 84
letter_of K = 75
letter_of C = 67
letter_of J = 74
letter_of O = 79

-- what an answer means in 01's terms: a value, or a row of the table. "A refusal carries its number, and within it the body letter and a
-- place"; those that name three labels (8 and 14) carry these by places, or by places and sizes
pub data Said (A : Type 0) : Type 0 where
  value : A → Said A
  row : (number letter place : ℕ) → Said A
  row_naming : (number letter place : ℕ) → List ℕ → Said A

unfoldable pub row_of : {A : Type 0} → Refusal → Said A
unfolding number_of letter_of
row_of r = row (number_of r.reason) (letter_of r.body) r.place

unfoldable pub row_naming_of : {A : Type 0} → Refusal → List ℕ → Said A
unfolding number_of letter_of
row_naming_of r places = row_naming (number_of r.reason) (letter_of r.body) r.place places
