-- How long the list of a job is, and the list of a job without required labels. C-17. Assumes nothing.
use Prim.Native.Nat.{ℕ, zero, suc, ◌<◌, ◌≤◌}
use mathlib.Core.Path.{◌≡◌, refl, sym, ◌∙◌, ap}
use mathlib.Core.Bool.{Bool, true, false}
use mathlib.Core.List.{List, [], ◌∷◌, append-nil}
use native.Mathlib.Omega.{arith}
use lib.ListN.{length, get_or}
use Rattle.trees.specs.Label.{Label, distinct}
use Rattle.trees.specs.Tree.{Tree, leaves, leaf_limit}
use Rattle.agreement.specs.Closer.{Common}
use Rattle.agreement.specs.Sets.{common, set_of}
use Rattle.agreement.proofs.SetLaws.{in_head, common_inc, inc_distinct}
use Rattle.pieces.specs.Pieces.{listed, pieces, total}
use Rattle.pieces.specs.Items.{Item, no_item, items_with, items_of}
use Rattle.pieces.proofs.JoinLaws.{unasked_pieces}
use Rattle.pieces.proofs.TotalLaws.{counted, total_whole}
use Rattle.places.specs.Nodes.{rank_among}
use Rattle.places.specs.declared.PieceList.{PieceList}
use Rattle.places.specs.PieceRanks.{PieceRanks, rank_at, head_at}
use Rattle.places.proofs.RankLaws.{rank_same}

total_most : (s t : Tree) (K : List Label) → distinct (leaves s) ≡ true → distinct K ≡ true → Common s t (set_of K)
    → length (common s t) ≤ leaf_limit → total (pieces s t K) ≤ 106
total_most s t [] ds dk held l = omega (arith, total_whole s t)
total_most s t (y ∷ K) ds dk held l =
    let c = counted s t (y ∷ K) y (in_head y K) ds dk held in
    omega (arith, c.lines, c.leaves_on_lines, c.others, c.labels)

pub count_most : (s t : Tree) (K : List Label) (list : PieceList) → PieceRanks s t K list
    → distinct (leaves s) ≡ true → distinct K ≡ true → Common s t (set_of K) → length (common s t) ≤ leaf_limit → list.count ≤ 106
count_most s t K list ranks ds dk held l = omega (arith, ranks.count_is, total_most s t K ds dk held l)

whole_items : (zs : List Label) → items_of (listed [] zs []) ≡ items_with false zs
unfolding items_of listed items_with
whole_items [] = refl
whole_items (z ∷ zs) = append-nil (items_with false (z ∷ zs))

with_at : (b : Bool) (xs : List Label) (i : ℕ) → i < length xs → get_or (items_with b xs) i no_item ≡ record { label = get_or xs i []; head = b }
unfolding items_with
with_at b [] i h = absurd (omega arith)
with_at b (x ∷ xs) zero h = refl
with_at b (x ∷ xs) (suc i) h = with_at b xs i (omega arith)

pub whole_ranks : (s t : Tree) (list : PieceList) → distinct (leaves s) ≡ true → PieceRanks s t [] list
    → (list.count ≡ length (common s t)) × ((i : ℕ) → i < list.count → (rank_at list i ≡ i) × (head_at list i ≡ false))
whole_ranks s t list ds ranks = (all, λ i h. (own i h, ranks.head_is i h ∙ ap (λ (x : Item). x.head) (item i h)))
  where
    all : list.count ≡ length (common s t)
    all = ranks.count_is ∙ total_whole s t

    once : distinct (common s t) ≡ true
    once = inc_distinct (common s t) (common_inc s t ds)

    item : (i : ℕ) → i < list.count
        → get_or (items_of (pieces s t [])) i no_item ≡ record { label = get_or (common s t) i []; head = false }
    item i h =
        ap (λ (l : List Item). get_or l i no_item) (ap items_of (unasked_pieces s t) ∙ whole_items (common s t))
        ∙ with_at false (common s t) i (omega (arith, all))

    own : (i : ℕ) → i < list.count → rank_at list i ≡ i
    own i h =
        sym (rank_same (common s t) (rank_at list i) once (ranks.common_rank i h))
        ∙ ap (rank_among (common s t)) (ranks.label_is i h ∙ ap (λ (x : Item). x.label) (item i h))
        ∙ rank_same (common s t) i once (omega (arith, all))
