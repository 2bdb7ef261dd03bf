-- Decimal numbers. 01, "Job and printed result": "decimal, .. no leading zero except `0` itself".
use Rattle.std.specs.Prelude.{ℕ, zero, suc, ◌+◌, ◌-◌, ◌*◌, ◌/◌, ◌%◌, Bool, cond, ◌&&◌, List, [], ◌∷◌, ◌++◌, ltb, leb}

-- the digits of n, at most `room` of them
unfoldable pub decimal_from : ℕ → ℕ → List ℕ
decimal_from zero n = []
decimal_from (suc room) n = cond (ltb n 10) ((48 + n) ∷ []) (decimal_from room (n / 10) ++ ((48 + n % 10) ∷ []))

-- a number of the machine has at most 20 digits
abbrev pub digit_room : ℕ
digit_room = 20

unfoldable pub decimal_of : ℕ → List ℕ
unfolding decimal_from
decimal_of n = decimal_from digit_room n

unfoldable pub is_digit : ℕ → Bool
is_digit b = leb 48 b && leb b 57

-- the digits that a text begins with
unfoldable pub digit_run : List ℕ → List ℕ
unfolding is_digit
digit_run [] = []
digit_run (b ∷ rest) = cond (is_digit b) (b ∷ digit_run rest) []

-- the value of the digits, after those that make up n
unfoldable pub value_from : ℕ → List ℕ → ℕ
value_from n [] = n
value_from n (b ∷ rest) = value_from (n * 10 + (b - 48)) rest
