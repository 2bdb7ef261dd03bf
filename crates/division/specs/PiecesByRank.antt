-- The pieces' labels by rank, and the leaves with these ranks. Intermediate: nothing public rests on this text.
use Rattle.std.specs.Prelude.{ℕ, ◌<◌, min, ◌≡◌, List, length, get_or}
use Rattle.places.specs.declared.PieceList.{PieceList}
use Rattle.places.specs.PieceRanks.{rank_at, head_at}
use Rattle.division.specs.declared.PiecePlace.{PiecePlace}
use Rattle.division.specs.declared.PiecePlaces.{PiecePlaces}
use Rattle.division.specs.PiecesAt.{no_piece}

-- the leaf of a rank, in range for any rank
abbrev pub leaf_of_rank : List ℕ → ℕ → ℕ
leaf_of_rank order r = min (get_or order (min r 79) 0) 158

-- the first n entries have what the leaves of these ranks have, with the marks of the list
pub record EntriesOf (n : ℕ) (list : PieceList) (order start size : List ℕ) (found : List PiecePlace) : Type 0 where
  pub whole : length found ≡ 159
  pub starts : (i : ℕ) → i < n → (get_or found i no_piece).start ≡ get_or start (leaf_of_rank order (rank_at list i)) 0
  pub sizes : (i : ℕ) → i < n → (get_or found i no_piece).size ≡ get_or size (leaf_of_rank order (rank_at list i)) 0
  pub heads : (i : ℕ) → i < n → (get_or found i no_piece).head ≡ head_at list i

pub record AtRanks (list : PieceList) (order start size : List ℕ) (p : PiecePlaces) : Type 0 where
  pub count_is : p.count ≡ list.count
  pub entries : EntriesOf list.count list order start size p.items
