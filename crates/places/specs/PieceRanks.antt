-- The pieces of a job by rank: C-17's `at` lines as one list, each label as its rank among the common ones.
use Rattle.std.specs.Prelude.{ℕ, ◌<◌, ◌≡◌, Bool, false, List, [], length, get_or}
use Rattle.trees.specs.Label.{Label}
use Rattle.trees.specs.Tree.{Tree}
use Rattle.agreement.specs.Sets.{common}
use Rattle.pieces.specs.Pieces.{pieces, total}
use Rattle.pieces.specs.Items.{items_of, no_item}
use Rattle.places.specs.declared.Mark.{Mark}
use Rattle.places.specs.declared.PieceList.{PieceList}

-- what stands past the last entry
abbrev pub no_mark : Mark
no_mark = record { rank = 0; head = false }

-- the rank of entry i, and whether it is a line's required label
abbrev pub rank_at : PieceList → ℕ → ℕ
rank_at list i = (get_or list.items i no_mark).rank

abbrev pub head_at : PieceList → ℕ → Bool
head_at list i = (get_or list.items i no_mark).head

-- the first `count` entries are the labels of all lines, with a mark on each line's required one
pub record PieceRanks (s t : Tree) (K : List Label) (list : PieceList) : Type 0 where
  pub count_is : list.count ≡ total (pieces s t K)
  pub common_rank : (i : ℕ) → i < list.count → rank_at list i < length (common s t)
  pub label_is : (i : ℕ) → i < list.count → get_or (common s t) (rank_at list i) [] ≡ (get_or (items_of (pieces s t K)) i no_item).label
  pub head_is : (i : ℕ) → i < list.count → head_at list i ≡ (get_or (items_of (pieces s t K)) i no_item).head
