-- The labels of a list marked by rank, one after the other. Intermediate: nothing public rests on this text.
use Rattle.std.specs.Prelude.{ℕ, suc, ◌<◌, ◌≡◌, true, false, List, [], length, get_or, Option, Some, None, Result, Ok, Err}
use Rattle.trees.specs.Label.{Label, is_in}

-- r is the rank of x in C, or C lacks x
abbrev pub FoundRank : (C : List Label) → Label → Option ℕ → Type 0
FoundRank C x (Some r) = (r < length C) × (get_or C r [] ≡ x)
FoundRank C x None = is_in x C ≡ false

-- The first n labels of K are in C and marked there by their positions, counted from 1. Label n, if there is one, is not in C.
pub record FirstMarked (n : ℕ) (C K : List Label) (number : List ℕ) : Type 0 where
  pub size : length number ≡ 81
  pub inside : (k : ℕ) → k < n → is_in (get_or K k []) C ≡ true
  pub held : (r k : ℕ) → r < length C → k < n → get_or C r [] ≡ get_or K k [] → get_or number r 0 ≡ suc k
  pub other : (r : ℕ) → r < length C → ((k : ℕ) → k < n → get_or C r [] ≡ get_or K k [] → ⊥) → get_or number r 0 ≡ 0

-- label n of K is the first that is not in C
pub record NotIn (n : ℕ) (C K : List Label) : Type 0 where
  pub earlier : (k : ℕ) → k < n → is_in (get_or K k []) C ≡ true
  pub missing : is_in (get_or K n []) C ≡ false

-- all labels of K marked, or the first that is not in C
abbrev pub MarkedTo : (count : ℕ) → (C K : List Label) → Result (List ℕ) ℕ → Type 0
MarkedTo count C K (Ok number) = FirstMarked count C K number
MarkedTo count C K (Err n) = NotIn n C K
