-- C-17's lines before those of a set: `pieces` with the total, then an `at` line for each piece. The labels of a piece are tokens here.
use Rattle.std.specs.Prelude.{ℕ, zero, suc, ◌+◌, ◌*◌, min, Bool, true, false, cond, List, [], ◌∷◌, ◌++◌, map, get_or, take, Option, Some, None}
use Rattle.std.specs.Borrow.{Bor}
use Rattle.trees.specs.Label.{Label}
use Rattle.trees.specs.Token.{Token, token_of}
use Rattle.trees.specs.Text.{tree_room}
use Rattle.trees.specs.Tree.{leaf_limit}
use Rattle.trees.specs.Words.{bytes_of}
use Rattle.lists.specs.ReadList.{joined}
use Rattle.lists.specs.declared.LabelPlaces.{LabelPlaces}
use Rattle.pieces.specs.Pieces.{Piece, total}
use Rattle.division.specs.declared.PiecePlace.{PiecePlace}
use Rattle.division.specs.declared.PiecePlaces.{PiecePlaces}
use Rattle.division.specs.PiecesAt.{no_piece}
use Rattle.decimals.specs.Decimal.{decimal_of, digit_room}
use Rattle.contents.specs.Contents.{line}
use Rattle.lines.specs.Lines.{label_in, labels_in, record_lines, always_line, item_room, record_room}

-- "a line `at`, blank, the smallest required label below, blank, the leaves that hang there in both trees in label order, joined by commas"
unfoldable pub at_line : Piece → List ℕ
unfolding bytes_of joined line
at_line p = line (bytes_of "at " ++ (joined p.required ++ (32 ∷ joined p.others)))

unfoldable pub at_lines : List Piece → List ℕ
unfolding at_line
at_lines [] = []
at_lines (p ∷ ps) = at_line p ++ at_lines ps

-- "A line `pieces`, blank, total comes first; the total counts every label on the `at` lines, as often as it stands there"
unfoldable pub pieces_lines : List Piece → List ℕ
unfolding bytes_of decimal_of line at_lines total
pieces_lines ps = line (bytes_of "pieces " ++ decimal_of (total ps)) ++ at_lines ps

-- ---- pieces as one list, in which a mark begins a line

pub record LineItem : Type 0 where
  pub token : Token
  pub head : Bool

-- the leaves before the first mark, and the pieces that the marks begin
pub record Grouped : Type 0 where
  pub leaves : List Token
  pub pieces : List Piece

-- one item in front: a mark takes the leaves after it
unfoldable pub with_item : Bool → Token → Grouped → Grouped
with_item true x g = record { leaves = []; pieces = record { required = x ∷ []; others = g.leaves } ∷ g.pieces }
with_item false x g = record { leaves = x ∷ g.leaves; pieces = g.pieces }

unfoldable pub grouped : List LineItem → Grouped
unfolding with_item
grouped [] = record { leaves = []; pieces = [] }
grouped (x ∷ xs) = with_item x.head x.token (grouped xs)

-- leaves before any mark are a piece without a required label
unfoldable pub unmarked : List Token → List Piece → List Piece
unmarked [] ps = ps
unmarked (x ∷ xs) ps = record { required = []; others = x ∷ xs } ∷ ps

unfoldable pub pieces_from : List LineItem → List Piece
unfolding unmarked grouped
pieces_from xs = unmarked (grouped xs).leaves (grouped xs).pieces

-- what an entry names in a text, by its place, size and mark
abbrev pub item_in : List ℕ → PiecePlace → LineItem
item_in text x = record { token = token_of (label_in text x.start x.size); head = x.head }

-- the items that the first entries name
unfoldable pub items_in : List ℕ → List PiecePlace → ℕ → List LineItem
unfolding label_in
items_in text items zero = []
items_in text items (suc n) = items_in text items n ++ (item_in text (get_or items n no_piece) ∷ [])

-- ---- how long these lines get

-- an area for 159 labels, each with what may be put beside it; no job needs as much
abbrev pub pieces_room : ℕ
pieces_room = 8 + digit_room + 159 * (item_room + 4) + 1

-- the longest lines of a job: `pieces ` with three digits and a line end, the `at` lines (`lines_room_lem` in pieces Promises), and the lines of a
-- set; 9,656 bytes
abbrev pub lines_room : ℕ
lines_room = 11 + 3869 + record_room

-- ---- the lines of a set and its pieces, by places in the first tree's text

-- no set has more than 80 labels, no job more than 159 on its `at` lines, and no tree a longer text: what goes beyond is left out
abbrev pub placed_record : List ℕ → LabelPlaces → List ℕ → List ℕ
placed_record first set tree = record_lines (labels_in first set.start set.size (min set.count leaf_limit)) (take tree_room tree)

abbrev pub placed_labels : List ℕ → LabelPlaces → List Label
placed_labels first p = labels_in first p.start p.size (min p.count leaf_limit)

abbrev pub placed_always : List ℕ → LabelPlaces → List ℕ
placed_always first always = always_line (map token_of (placed_labels first always))

abbrev pub placed_pieces : List ℕ → PiecePlaces → List ℕ
placed_pieces first p = pieces_lines (pieces_from (items_in first p.items (min p.count 159)))

-- the lines of the pieces if they are asked for
abbrev pub asked_pieces : List ℕ → Option (Bor PiecePlaces) → List ℕ
asked_pieces first (Some p) = placed_pieces first p.now
asked_pieces first None = []

-- the lines of a set, after those of its pieces if they are asked for
unfoldable pub lines_at : Bool → List ℕ → PiecePlaces → LabelPlaces → List ℕ → List ℕ
unfolding pieces_lines pieces_from items_in labels_in
lines_at asked first p set tree = cond asked (placed_pieces first p) [] ++ placed_record first set tree
