-- How all largest sets are had in one recurrence: the one of `best`, with another choice between two cells. A means: no promise is stated
-- by it.
use Rattle.std.specs.Prelude.{ℕ, ◌+◌, ◌*◌, ◌/◌, ◌≤◌, ◌≡◌, Bool, true, false, cond, List, ltb}
use Rattle.std.specs.Int.Bits.{bit_and}
use Rattle.trees.specs.Label.{Label}
use Rattle.trees.specs.Tree.{Tree, leaf, node}
use Rattle.agreement.specs.Closer.{holds}
use Rattle.agreement.specs.Powers.{whole, sum_in}

-- of a family P of sets: M is the greatest weight, and X the labels that are in every set of that weight
pub record Kernel (P : (Label → Bool) → Type 0) (weight : (Label → Bool) → ℕ) (M : ℕ) (X : Label → Bool) : Type 0 where
  pub bound : (Y : Label → Bool) → P Y → weight Y ≤ M
  pub some_set : Label → Bool
  pub some_in : P some_set
  pub some_reaches : weight some_set ≡ M
  pub held : (x : Label) → X x ≡ true → (Y : Label → Bool) → P Y → weight Y ≡ M → Y x ≡ true
  pub missed : (x : Label) → X x ≡ false → (Y : Label → Bool) × P Y × (weight Y ≡ M) × (Y x ≡ false)

-- `best` with a choice between cells in place of the greater one
unfoldable pub over : (ℕ → ℕ → ℕ) → (Label → ℕ) → Tree → Tree → ℕ
unfolding holds
over pick w (leaf x) t = cond (holds t x) (w x) 0
over pick w (node a b) (leaf y) = cond (holds (node a b) y) (w y) 0
over pick w (node a b) (node c d) =
    pick
    (pick (pick (over pick w a (node c d)) (over pick w b (node c d)))
    (pick (over pick w a c + over pick w b d) (over pick w a d + over pick w b c)))
    (pick (over pick w (node a b) c) (over pick w (node a b) d))

-- units and a set of the labels of C in one number
unfoldable pub pack : ℕ → List Label → ℕ → (Label → Bool) → ℕ
unfolding sum_in
pack n C M X = M * whole + sum_in n C X

-- the one with more units; of equal units the labels that both have
unfoldable pub meeting : ℕ → ℕ → ℕ
meeting a b = cond (ltb (a / whole) (b / whole)) b (cond (ltb (b / whole) (a / whole)) a (bit_and a b))
