-- The pieces that are found by places in the first tree's text are those of the definition. Assumes nothing.
use Prim.Native.Nat.{ℕ, zero, suc, ◌≤◌, ◌<◌, min}
use mathlib.Core.Path.{◌≡◌, refl, sym, ◌∙◌, ap, ap₂, subst}
use mathlib.Core.Bool.{Bool, true, false}
use mathlib.Core.List.{List, [], ◌∷◌, ◌++◌, map, append-nil}
use native.Mathlib.Omega.{arith}
use lib.ListN.{length, take, length-map}
use lib.Seq.{take_all, take-suc}
use Rattle.trees.specs.Label.{Label, distinct}
use Rattle.trees.specs.Token.{Token, token_of}
use Rattle.trees.specs.Tree.{Tree}
use Rattle.trees.specs.declared.Edition.{Edition}
use Rattle.trees.specs.Edition.{keyed}
use Rattle.trees.specs.Reading.{good}
use Rattle.trees.proofs.RelabelLaws.{map_at}
use Rattle.newick.specs.ReadTree.{read_tree_in}
use Rattle.lists.specs.ReadList.{keys_of}
use Rattle.agreement.specs.Closer.{holds, Common}
use Rattle.agreement.specs.Sets.{common, set_of}
use Rattle.agreement.specs.Places.{name_in}
use Rattle.agreement.proofs.EditionText.{spelled_size}
use Rattle.agreement.proofs.SetLaws.{in_head}
use Rattle.agreement.proofs.Tells.{common_few}
use Rattle.division.specs.declared.PiecePlaces.{PiecePlaces}
use Rattle.division.specs.PiecesAt.{pieces_for, label_at, start_at, size_at, PiecesAt}
use Rattle.pieces.specs.Pieces.{Piece, listed, pieces}
use Rattle.pieces.specs.Items.{Item, no_item, items_with, items_of}
use Rattle.pieces.proofs.ItemLaws.{AllMarked, pieces_marked, items_held, items_count}
use Rattle.pieces.proofs.TotalLaws.{total_few}
use Rattle.pieces.proofs.JoinLaws.{unasked_pieces}
use Rattle.lines.specs.Lines.{label_in}
use Rattle.lines.specs.PieceLines.{LineItem, Grouped, with_item, grouped, unmarked, pieces_from, items_in}
use Rattle.job.specs.Printed.{piece_by}
use Rattle.job.proofs.ShownLaws.{shown_label}
use Rattle.job.proofs.SolvedLaws.{read_shown, read_proper}

-- ---- the labels of pieces one after the other, and the pieces again

module _ (name : Label → Label) where
  abbrev pub item_of : Item → LineItem
  item_of x = record { token = token_of (name x.label); head = x.head }

  abbrev forms : List Label → List Token
  forms xs = map token_of (map name xs)

  -- leaves go before those that follow
  leaves_first : (xs : List Label) (rest : List Item)
      → grouped (map item_of (items_with false xs ++ rest))
      ≡ record { leaves = forms xs ++ (grouped (map item_of rest)).leaves; pieces = (grouped (map item_of rest)).pieces }
  unfolding items_with grouped with_item
  leaves_first [] rest = refl
  leaves_first (x ∷ xs) rest = ap (with_item false (token_of (name x))) (leaves_first xs rest)

  marked_back : (ps : List Piece) → AllMarked ps → grouped (map item_of (items_of ps)) ≡ record { leaves = []; pieces = map (piece_by token_of) (map (piece_by name) ps) }
  unfolding items_of items_with grouped with_item
  marked_back [] m = refl
  marked_back (p ∷ ps) m = go (marked_back ps m.1) p.required m.0.1
    where
      rest : List Item
      rest = items_with false p.others ++ items_of ps

      after : grouped (map item_of (items_of ps)) ≡ record { leaves = []; pieces = map (piece_by token_of) (map (piece_by name) ps) }
          → grouped (map item_of rest) ≡ record { leaves = forms p.others; pieces = map (piece_by token_of) (map (piece_by name) ps) }
      after ih =
          leaves_first p.others (items_of ps)
          ∙ ap (λ (g : Grouped). record { leaves = forms p.others ++ g.leaves; pieces = g.pieces }) ih
          ∙ ap (λ (l : List Token). record { leaves = l; pieces = map (piece_by token_of) (map (piece_by name) ps) }) (append-nil (forms p.others))

      go : grouped (map item_of (items_of ps)) ≡ record { leaves = []; pieces = map (piece_by token_of) (map (piece_by name) ps) } → (r : List Label) → r ≡ m.0.0 ∷ []
          → grouped (map item_of (items_with true r ++ rest))
          ≡ record { leaves = []; pieces = record { required = forms r; others = forms p.others } ∷ map (piece_by token_of) (map (piece_by name) ps) }
      go ih r e = rw e (ap (with_item true (token_of (name m.0.0))) (after ih))

  -- no label is required: one piece, or none
  one_back : (C : List Label) → pieces_from (map item_of (items_of (listed [] C []))) ≡ map (piece_by token_of) (map (piece_by name) (listed [] C []))
  unfolding pieces_from listed items_of items_with grouped unmarked with_item
  one_back [] = refl
  one_back (x ∷ xs) =
      let e = leaves_first (x ∷ xs) [] in
      ap (λ (g : Grouped). unmarked g.leaves g.pieces) e
      ∙ ap (λ (l : List Token). record { required = []; others = token_of (name x) ∷ l } ∷ []) (append-nil (forms xs))

  -- of a job
  pub pieces_back : (s t : Tree) (K : List Label) → Common s t (set_of K)
      → pieces_from (map item_of (items_of (pieces s t K))) ≡ map (piece_by token_of) (map (piece_by name) (pieces s t K))
  pieces_back s t [] h =
      subst (λ (ps : List Piece). pieces_from (map item_of (items_of ps)) ≡ map (piece_by token_of) (map (piece_by name) ps)) (sym (unasked_pieces s t)) (one_back (common s t))
  pieces_back s t (y ∷ K) h =
      unfold pieces_from unmarked in
      ap (λ (g : Grouped). unmarked g.leaves g.pieces)
      (marked_back (pieces s t (y ∷ K)) (pieces_marked s t (y ∷ K) y (in_head y K) (h y (in_head y K)).0))

-- ---- the labels by their places

module _ (e : Edition) (s t : Tree) (xs : List Token) (first : List ℕ) (read : read_tree_in e first ≡ good s)
    (different : distinct (keys_of e xs) ≡ true) (held : Common (keyed e s) (keyed e t) (set_of (keys_of e xs)))
    (p : PiecePlaces) (at : PiecesAt e s t xs p) where
  abbrev I : List Item
  I = items_of (pieces_for e s t xs)

  abbrev shown : ℕ → List LineItem
  shown n = items_in first p.items n

  count_is : p.count ≡ length I
  count_is = at.count_is ∙ sym (items_count (pieces_for e s t xs))

  label_is : (i : ℕ) → i < p.count → label_in first (start_at p i) (size_at p i) ≡ name_in e s (label_at e s t xs i)
  unfolding pieces_for
  label_is i h =
      let x : Label = label_at e s t xs i in
      let k : holds (keyed e s) x ≡ true = items_held (keyed e s) (keyed e t) (keys_of e xs) i (omega (arith, h, at.count_is)) in
      ap₂ (λ (a b : ℕ). label_in first a b) (at.start_is i h) (at.size_is i h ∙ sym (spelled_size e s x))
      ∙ shown_label first _ _ _ (read_shown e first s read x k)

  items_to_lem : (n : ℕ) → n ≤ p.count → shown n ≡ take n (map (item_of (name_in e s)) I)
  unfolding items_in
  items_to_lem zero h = refl
  items_to_lem (suc n) h =
      let w : n < length I = omega (arith, count_is) in
      ap₂ (λ (l : List LineItem) (y : LineItem). l ++ (y ∷ [])) (items_to_lem n (omega arith))
      (ap₂ (λ (a : Label) (b : Bool). record { token = token_of a; head = b }) (label_is n h) (at.head_is n h)
      ∙ sym (map_at (item_of (name_in e s)) I n no_item (record { token = []; head = false }) w))
      ∙ sym (take-suc (map (item_of (name_in e s)) I) n (record { token = []; head = false }) (omega (arith, w, length-map I (item_of (name_in e s)))))

  pub pieces_shown_lem : pieces_from (shown (min p.count 159)) ≡ map (piece_by token_of) (map (piece_by (name_in e s)) (pieces_for e s t xs))
  unfolding pieces_for
  pieces_shown_lem =
      let proper = read_proper e first s read in
      let few = total_few (keyed e s) (keyed e t) (keys_of e xs) proper.different different held (common_few (keyed e s) (keyed e t) proper) in
      let n : min p.count 159 ≡ p.count = omega (arith, few, at.count_is) in
      let size = length-map I (item_of (name_in e s)) in
      ap (λ (k : ℕ). pieces_from (shown k)) n
      ∙ ap pieces_from (items_to_lem p.count (omega arith) ∙ take_all p.count (map (item_of (name_in e s)) I) (omega (arith, size, count_is)))
      ∙ pieces_back (name_in e s) (keyed e s) (keyed e t) (keys_of e xs) held
