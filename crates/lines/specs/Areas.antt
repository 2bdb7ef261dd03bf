-- Lines put together in an area, part by part. Intermediate: nothing public rests on this text.
use Rattle.std.specs.Prelude.{ℕ, zero, suc, ◌+◌, ◌≡◌, List, ◌∷◌, ◌++◌, length, take, drop}
use Rattle.trees.specs.Token.{Token}

-- A text was put into an area from `at` on. The next byte goes to `next`, and the bytes before `at` are unchanged.
pub record Put (area : List ℕ) (at : ℕ) (text : List ℕ) (next : ℕ) (after : List ℕ) : Type 0 where
  pub ends : next ≡ at + length text
  pub front : take next after ≡ take at area ++ text
  pub back : drop next after ≡ drop next area
  pub whole : length after ≡ length area

-- the label with index i as it is printed, after a comma unless it is the first
unfoldable pub item : ℕ → Token → List ℕ
item zero x = x
item (suc i) x = 44 ∷ x
