-- Small jobs with their lines, totals and joined sets: 01's printed case, the starred cases that are answered with a set, and cases that
-- show a nearby definition wrong. Small trees with the numbers of their leaves' places. C-17.
use Rattle.std.specs.Prelude.{ℕ, ◌-◌, ◌*◌, List, [], ◌∷◌, map, length}
use Prim.Native.String.{String}
use Rattle.std.proofs.Math.Option.{Option, some, none}
use Rattle.trees.specs.Label.{Label}
use Rattle.trees.specs.Token.{spelling}
use Rattle.trees.specs.Tree.{Tree, leaves, decoded}
use Rattle.trees.specs.Words.{bytes_of}
use Rattle.trees.specs.Reading.{good, refused}
use Rattle.newick.specs.ReadTree.{read_tree}
use Rattle.lists.specs.ReadList.{read_list}
use Rattle.agreement.specs.Starred.{P, Q, R, a, b, c, d, e}
use Rattle.pieces.specs.Pieces.{Piece, pieces, total, joined_sets, line_in}

-- the `at` lines, the total, and the labels of the pieces' sets, one set after the other
pub record PiecesShown : Type 0 where
  pub lines : List Piece
  pub count : ℕ
  pub joined : List Label

pub record PieceRow : Type 0 where
  pub first : String
  pub second : String
  pub required : String
  pub expected : PiecesShown

unfoldable pub pieces_shown_of : Tree → Tree → List Label → PiecesShown
unfolding pieces total joined_sets
pieces_shown_of s t K = record { lines = pieces s t K; count = total (pieces s t K); joined = joined_sets s t (pieces s t K) }

-- what the texts of a row give; none if one of them cannot be read
unfoldable pub pieces_shown : PieceRow → Option PiecesShown
unfolding bytes_of pieces_shown_of
pieces_shown row =
    elim (read_tree (bytes_of row.first)) [
      | refused r at ↦ none
      | good s ↦
          elim (read_tree (bytes_of row.second)) [
            | refused r at ↦ none
            | good t ↦
                elim (read_list (bytes_of row.required)) [
                  | refused r at ↦ none
                  | good K ↦ some (pieces_shown_of (decoded s) (decoded t) (map spelling K))
                ]
          ]
    ]

abbrev pub u : Label
u = bytes_of "u"

abbrev pub v : Label
v = bytes_of "v"

abbrev pub x : Label
x = bytes_of "x"

abbrev pub y : Label
y = bytes_of "y"

abbrev pub z : Label
z = bytes_of "z"

abbrev pub piece_line : List Label → List Label → Piece
piece_line r xs = record { required = r; others = xs }

abbrev pub row : String → String → String → List Piece → ℕ → List Label → PieceRow
row s t K ls n J = record { first = s; second = t; required = K; expected = record { lines = ls; count = n; joined = J } }

unfoldable pub rows : List PieceRow
rows =
    -- 01's printed case
    row "((a,b),(c,d));" "((a,c),(b,d));" "a" (piece_line (a ∷ []) (b ∷ c ∷ d ∷ []) ∷ []) 4 (a ∷ b ∷ [])
    -- the starred cases, in 01's order; "A job with K empty is one piece", "or no piece if there are none"
    ∷ row P Q "" (piece_line [] (a ∷ b ∷ c ∷ d ∷ e ∷ []) ∷ []) 5 (a ∷ b ∷ d ∷ e ∷ [])
    ∷ row P Q "c" (piece_line (c ∷ []) (a ∷ b ∷ d ∷ e ∷ []) ∷ []) 5 (a ∷ c ∷ d ∷ e ∷ [])
    ∷ row P Q "b,c" (piece_line (b ∷ []) (d ∷ e ∷ []) ∷ []) 3 (b ∷ d ∷ e ∷ [])
    ∷ row P Q "a,b,d" (piece_line (a ∷ []) (e ∷ []) ∷ []) 2 (a ∷ e ∷ [])
    ∷ row P R "" (piece_line [] (a ∷ b ∷ c ∷ d ∷ e ∷ []) ∷ []) 5 (a ∷ b ∷ c ∷ d ∷ [])
    ∷ row P R "d,e" [] 0 []
    ∷ row "((a,b),c);" "((a,c),b);" "a" (piece_line (a ∷ []) (b ∷ c ∷ []) ∷ []) 3 (a ∷ b ∷ [])
    ∷ row "a;" "a;" "" (piece_line [] (a ∷ []) ∷ []) 1 (a ∷ [])
    ∷ row "(a,b);" "(c,d);" "" [] 0 []
    ∷ row P P "" (piece_line [] (a ∷ b ∷ c ∷ d ∷ e ∷ []) ∷ []) 5 (a ∷ b ∷ c ∷ d ∷ e ∷ [])
    -- b hangs above a in the first tree and above the root in the second
    ∷ row "((a,b),c);" "((a,c),b);" "a,c" [] 0 []
    -- the head is one of the piece's labels and is required there
    ∷ row "((a,b),c);" "((a,c),b);" "c" (piece_line (c ∷ []) (a ∷ b ∷ []) ∷ []) 3 (a ∷ c ∷ [])
    -- the piece is restricted before it is answered: a and b are no part of it
    ∷ row "(((d,(a,b)),c),e);" "((c,d),((a,b),e));" "d,e" (piece_line (d ∷ []) (c ∷ []) ∷ []) 2 (c ∷ d ∷ [])
    -- the lowest ancestor, not the highest; two lines with one head, the deeper place first
    ∷ row "(((a,x),b),y);" "(((a,x),b),y);" "a,b" (piece_line (a ∷ []) (x ∷ []) ∷ piece_line (a ∷ []) (y ∷ []) ∷ []) 4 (a ∷ x ∷ a ∷ y ∷ [])
    -- in the order of normal text, not of the first tree or of the list
    ∷ row "((c,x),(a,y));" "((a,y),(x,c));" "c,a" (piece_line (a ∷ []) (y ∷ []) ∷ piece_line (c ∷ []) (x ∷ []) ∷ []) 4 (a ∷ y ∷ c ∷ x ∷ [])
    -- a place without a leaf is skipped: z hangs above both in the first tree and above b in the second
    ∷ row "(((a,x),(b,y)),z);" "((z,(y,b)),(x,a));" "a,b" (piece_line (a ∷ []) (x ∷ []) ∷ piece_line (b ∷ []) (y ∷ []) ∷ []) 4
    (a ∷ x ∷ b ∷ y ∷ [])
    -- the total is n + k - 1
    ∷ row "(((a,x),(b,y)),z);" "(((a,x),(b,y)),z);" "b,a"
    (piece_line (a ∷ []) (x ∷ []) ∷ piece_line (b ∷ []) (y ∷ []) ∷ piece_line (a ∷ []) (z ∷ []) ∷ []) 6 (a ∷ x ∷ b ∷ y ∷ a ∷ z ∷ [])
    -- a head that is greater than the leaves of its line
    ∷ row "((b,a),c);" "(c,(a,b));" "c" (piece_line (c ∷ []) (a ∷ b ∷ []) ∷ []) 3 (a ∷ b ∷ c ∷ [])
    -- leaves of one tree only: p between x and its place, r beside b
    ∷ row "(((a,p),x),b);" "((a,x),(b,r));" "a,b" (piece_line (a ∷ []) (x ∷ []) ∷ []) 2 (a ∷ x ∷ [])
    -- every common leaf is required
    ∷ row "((a,b),c);" "(c,(a,b));" "a,b,c" [] 0 []
    -- ties in two pieces at once
    ∷ row "(((a,x),y),((b,u),v));" "(((a,y),x),((b,v),u));" "a,b" (piece_line (a ∷ []) (x ∷ y ∷ []) ∷ piece_line (b ∷ []) (u ∷ v ∷ []) ∷ []) 6
    (a ∷ x ∷ b ∷ u ∷ [])
    ∷ []

-- a tree with the numbers of its leaves' places, in the order of its text
pub record PlaceNumberRow : Type 0 where
  pub tree : String
  pub required : String
  pub expected : List ℕ

unfoldable pub numbers_of : Tree → List Label → List ℕ
unfolding line_in leaves
numbers_of t K = map (λ (x : Label). line_in K t x (2 * length K - 2)) (leaves t)

unfoldable pub numbers : PlaceNumberRow → Option (List ℕ)
unfolding bytes_of numbers_of
numbers row =
    elim (read_tree (bytes_of row.tree)) [
      | refused r at ↦ none
      | good t ↦
          elim (read_list (bytes_of row.required)) [
            | refused r at ↦ none
            | good K ↦ some (numbers_of (decoded t) (map spelling K))
          ]
    ]

abbrev pub number_row : String → String → List ℕ → PlaceNumberRow
number_row t K ns = record { tree = t; required = K; expected = ns }

unfoldable pub number_rows : List PlaceNumberRow
number_rows =
    -- one required leaf: one place
    number_row "((a,p),(q,r));" "a" (0 ∷ 0 ∷ 0 ∷ 0 ∷ [])
    -- the child with the smaller label is first in normal text, in whatever order the tree has them
    ∷ number_row "(((a,x),b),y);" "a,b" (0 ∷ 0 ∷ 1 ∷ 2 ∷ [])
    ∷ number_row "((c,x),(a,y));" "c,a" (1 ∷ 1 ∷ 0 ∷ 0 ∷ [])
    -- it stands before all places of the other child
    ∷ number_row "((c,b),(x,a));" "a,b,c" (2 ∷ 1 ∷ 0 ∷ 0 ∷ [])
    -- nodes with required leaves below one child only have the place of that child
    ∷ number_row "(((b,p),(q,(a,r))),(u,v));" "b,a" (1 ∷ 1 ∷ 0 ∷ 0 ∷ 0 ∷ 2 ∷ 2 ∷ [])
    ∷ number_row "((((d,p),(c,e)),q),(b,a));" "a,b,c,d" (4 ∷ 4 ∷ 3 ∷ 3 ∷ 5 ∷ 1 ∷ 0 ∷ [])
    ∷ []
