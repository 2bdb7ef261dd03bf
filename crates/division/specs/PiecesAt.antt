-- The pieces of a job by places in the first tree's text. C-17; C-15: "Labels are printed as the first tree spells them".
use Rattle.std.specs.Prelude.{ℕ, ◌<◌, ◌≡◌, Bool, false, List, length, get_or}
use Rattle.trees.specs.declared.Edition.{Edition}
use Rattle.trees.specs.Edition.{folded, keyed}
use Rattle.trees.specs.Label.{Label}
use Rattle.trees.specs.Token.{Token}
use Rattle.trees.specs.Tree.{Tree}
use Rattle.lists.specs.ReadList.{keys_of}
use Rattle.agreement.specs.Places.{place_in, token_in}
use Rattle.pieces.specs.Pieces.{Piece, pieces, total}
use Rattle.pieces.specs.Items.{items_of, no_item}
use Rattle.division.specs.declared.PiecePlace.{PiecePlace}
use Rattle.division.specs.declared.PiecePlaces.{PiecePlaces}

-- the `at` lines for two trees and a required list, by the keys of their labels
unfoldable pub pieces_for : Edition → Tree → Tree → List Token → List Piece
unfolding pieces
pieces_for e s t xs = pieces (keyed e s) (keyed e t) (keys_of e xs)

-- label i of all lines, one after the other
abbrev pub label_at : Edition → Tree → Tree → List Token → ℕ → Label
label_at e s t xs i = (get_or (items_of (pieces_for e s t xs)) i no_item).label

-- what stands past the end of the entries
abbrev pub no_piece : PiecePlace
no_piece = record { start = 0; size = 0; head = false }

-- the place, size and mark of entry i
abbrev pub start_at : PiecePlaces → ℕ → ℕ
start_at p i = (get_or p.items i no_piece).start

abbrev pub size_at : PiecePlaces → ℕ → ℕ
size_at p i = (get_or p.items i no_piece).size

abbrev pub mark_at : PiecePlaces → ℕ → Bool
mark_at p i = (get_or p.items i no_piece).head

-- the first `count` entries are these labels, each by its place and size in the first tree's text, with a mark on a line's required one
pub record PiecesAt (e : Edition) (s t : Tree) (xs : List Token) (p : PiecePlaces) : Type 0 where
  pub count_is : p.count ≡ total (pieces_for e s t xs)
  pub start_is : (i : ℕ) → i < p.count → start_at p i ≡ place_in (folded e s) 0 (label_at e s t xs i)
  pub size_is : (i : ℕ) → i < p.count → size_at p i ≡ length (token_in (folded e s) (label_at e s t xs i))
  pub head_is : (i : ℕ) → i < p.count → mark_at p i ≡ (get_or (items_of (pieces_for e s t xs)) i no_item).head
