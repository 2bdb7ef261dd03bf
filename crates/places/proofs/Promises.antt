-- What the list of `pieces_of` is, which its contract states by `PieceRanks`, in the order of C-17. Each theorem cites one name.
-- Assumes nothing.
use Prim.Native.Nat.{ℕ, ◌<◌, ◌≤◌}
use mathlib.Core.Path.{◌≡◌}
use mathlib.Core.Bool.{true, false}
use mathlib.Core.List.{List, []}
use lib.ListN.{length, get_or}
use Rattle.trees.specs.Label.{Label, distinct}
use Rattle.trees.specs.Tree.{Tree, leaves, leaf_limit}
use Rattle.agreement.specs.Closer.{Common}
use Rattle.agreement.specs.Sets.{common, set_of}
use Rattle.pieces.specs.Pieces.{pieces, total}
use Rattle.pieces.specs.Items.{items_of, no_item}
use Rattle.places.specs.declared.PieceList.{PieceList}
use Rattle.places.specs.PieceRanks.{PieceRanks, rank_at, head_at}
use Rattle.places.proofs.WholeLaws

module _ (s t : Tree) (K : List Label) (list : PieceList) (ranks : PieceRanks s t K list) where
  -- "the total counts every label on the `at` lines, as often as it stands there"
  pub count_promise : list.count ≡ total (pieces s t K)
  count_promise = ranks.count_is

  -- "the smallest required label below, the leaves that hang there": an entry is the rank of the label with that number on the lines.
  pub label_promise : (i : ℕ) → i < list.count → get_or (common s t) (rank_at list i) [] ≡ (get_or (items_of (pieces s t K)) i no_item).label
  label_promise = ranks.label_is

  pub rank_promise : (i : ℕ) → i < list.count → rank_at list i < length (common s t)
  rank_promise = ranks.common_rank

  -- The mark tells where a line begins.
  pub head_promise : (i : ℕ) → i < list.count → head_at list i ≡ (get_or (items_of (pieces s t K)) i no_item).head
  head_promise = ranks.head_is

  -- No job has more than 106: a line has a leaf, k required leaves have 2k - 1 places, and 80 labels are common at most.
  pub most_promise : distinct (leaves s) ≡ true → distinct K ≡ true → Common s t (set_of K) → length (common s t) ≤ leaf_limit → list.count ≤ 106
  most_promise = WholeLaws.count_most s t K list ranks

-- "A job with K empty is one piece, all common leaves and no required one": the ranks in their order.
pub whole_promise : (s t : Tree) (list : PieceList) → distinct (leaves s) ≡ true → PieceRanks s t [] list
    → (list.count ≡ length (common s t)) × ((i : ℕ) → i < list.count → (rank_at list i ≡ i) × (head_at list i ≡ false))
whole_promise = WholeLaws.whole_ranks
