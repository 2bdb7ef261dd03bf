-- Weights that determine a set. A label weighs its unit and, by its rank among the common labels, a power of two, so the greatest weight
-- has the size and the set in one number. The recurrence is a means, and no promise is stated by these weights.
use Rattle.std.specs.Prelude.{ℕ, zero, suc, ◌+◌, ◌*◌, ◌-◌, Bool, cond, List, [], ◌∷◌, leb}
use Rattle.trees.specs.Label.{Label, same_label}
use Rattle.agreement.specs.Weights.{unit_in}

unfoldable pub power : ℕ → ℕ
power zero = 1
power (suc k) = power k + power k

-- 2 to the 80th, for at most 80 common labels
abbrev pub whole : ℕ
whole = 1208925819614629174706176

-- the powers of the labels of a list that are in the set; the first label has the highest of n places
unfoldable pub sum_in : ℕ → List Label → (Label → Bool) → ℕ
unfolding power
sum_in zero C X = 0
sum_in (suc n) [] X = 0
sum_in (suc n) (c ∷ C) X = cond (X c) (power n) 0 + sum_in n C X

-- the power of a label among those of a list
abbrev pub power_in : ℕ → List Label → Label → ℕ
power_in n C x = sum_in n C (same_label x)

-- the labels of a list whose powers make up a number
unfoldable pub decode : ℕ → List Label → ℕ → List Label
unfolding power
decode zero C p = []
decode (suc n) [] p = []
decode (suc n) (c ∷ C) p = cond (leb (power n) p) (c ∷ decode n C (p - power n)) (decode n C p)

-- the weight of a label: units for size and required labels F, and its power among the common labels C
unfoldable pub telling : ℕ → List Label → List Label → Label → ℕ
unfolding unit_in sum_in
telling n F C x = unit_in F x * whole + power_in n C x
