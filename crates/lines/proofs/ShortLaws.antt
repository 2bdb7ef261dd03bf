-- How long lines get. Assumes nothing.
use Prim.Native.Nat.{ℕ, ◌+◌, ◌-◌, ◌*◌, ◌≤◌}
use mathlib.Core.Path.{◌≡◌}
use mathlib.Core.Bool.{true}
use mathlib.Core.List.{List, [], ◌∷◌, ◌++◌, map}
use native.Mathlib.Omega.{arith}
use lib.ListN.{length, length-append, length-map}
use Rattle.trees.specs.declared.Refusal.{Refusal}
use Rattle.trees.specs.Label.{Label}
use Rattle.trees.specs.Text.{tree_room}
use Rattle.trees.specs.Token.{Token, token_of, good_labels}
use Rattle.trees.specs.Tree.{leaf_limit}
use Rattle.trees.specs.Words.{bytes_of}
use Rattle.trees.specs.Writable.{writable_labels}
use Rattle.trees.proofs.ListLaws.{good_head}
use Rattle.trees.proofs.TokenLaws.{good_short}
use Rattle.trees.proofs.WritableLaws.{tokens_good}
use Rattle.lists.specs.ReadList.{joined}
use Rattle.contents.specs.Contents.{line}
use Rattle.decimals.specs.Decimal.{decimal_of}
use Rattle.decimals.proofs.DecimalLaws.{decimal_short}
use Rattle.pieces.specs.Pieces.{Piece, total, hung}
use Rattle.lines.specs.Lines.{item_room, record_room, refused_words, refused_line, naming_line, set_lines, record_lines, claim_line, three_line}
use Rattle.lines.specs.Lines.{always_line, always_room}
use Rattle.lines.specs.PieceLines.{at_line, at_lines, pieces_lines}
use Rattle.lines.proofs.LineLaws.{size_short, total_short, words_short}

joined_short : (X : List Token) → good_labels X ≡ true → length (joined X) ≤ item_room * length X - 1
unfolding joined
joined_short [] good = omega arith
joined_short (x ∷ []) good = omega (arith, good_short x (good_head x [] good).0)
joined_short (x ∷ y ∷ ys) good =
    let g = good_head x (y ∷ ys) good in
    omega (arith, good_short x g.0, length-append x (44 ∷ joined (y ∷ ys)), joined_short (y ∷ ys) g.1)

-- labels as they are printed
forms_short : (X : List Label) → writable_labels X ≡ true → length (joined (map token_of X)) ≤ item_room * length X - 1
forms_short X can = omega (arith, joined_short (map token_of X) (tokens_good X can), length-map X token_of)

line_size : (w v : List ℕ) → length (line (w ++ v)) ≡ length w + length v + 1
unfolding line
line_size w v = omega (arith, length-append (w ++ v) (10 ∷ []), length-append w v)

pub record_short : (X : List Label) (text : List ℕ) → length X ≤ leaf_limit → writable_labels X ≡ true → length text ≤ tree_room
    → length (record_lines X text) ≤ record_room
unfolding set_lines bytes_of
record_short X text few can short =
    let one : List ℕ = line (bytes_of "size " ++ decimal_of (length (map token_of X))) in
    let two : List ℕ = line (bytes_of "set " ++ joined (map token_of X)) in
    let three : List ℕ = line (bytes_of "tree " ++ text) in
    omega (
      arith,
      length-append one (two ++ three),
      length-append two three,
      line_size (bytes_of "size ") (decimal_of (length (map token_of X))),
      line_size (bytes_of "set ") (joined (map token_of X)),
      forms_short X can,
      line_size (bytes_of "tree ") text,
      size_short (length (map token_of X)) (omega (arith, few, length-map X token_of)),
    )

always_short : (A : List Label) → length A ≤ leaf_limit → writable_labels A ≡ true → length (always_line (map token_of A)) ≤ always_room
unfolding always_line bytes_of
always_short A few can = omega (arith, line_size (bytes_of "always ") (joined (map token_of A)), forms_short A can)

pub refusal_short : (q : Refusal) → length (refused_line q) ≤ record_room
unfolding refused_line line
refusal_short q = omega (arith, length-append (refused_words q) (10 ∷ []), words_short q)

pub three_short : (q : Refusal) (a b c : Label) → writable_labels (a ∷ b ∷ c ∷ []) ≡ true → length (three_line q a b c) ≤ record_room
unfolding naming_line
three_short q a b c can =
    let three : List Label = a ∷ b ∷ c ∷ [] in
    omega (
      arith,
      line_size (refused_words q) (32 ∷ joined (map token_of three)),
      words_short q,
      forms_short three can,
    )

pub claim_short : (n : ℕ) → length (claim_line n) ≤ record_room
unfolding claim_line bytes_of
claim_short n = omega (arith, line_size (bytes_of "claim ok ") (decimal_of n), decimal_short n)

-- ---- the lines of pieces

-- each line has at most one required label, and a leaf; tokens are good
abbrev pub AllShort : List Piece → Type 0
AllShort [] = Prim.Unit {0}
AllShort (p ∷ ps) =
    (length p.required ≤ 1) × (1 ≤ length p.others) × (good_labels p.required ≡ true) × (good_labels p.others ≡ true) × AllShort ps

at_short : (p : Piece) → length p.required ≤ 1 → 1 ≤ length p.others → good_labels p.required ≡ true → good_labels p.others ≡ true
    → length (at_line p) ≤ 38 + 35 * length p.others
unfolding at_line bytes_of
at_short p one some g h =
    omega (
      arith,
      line_size (bytes_of "at ") (joined p.required ++ (32 ∷ joined p.others)),
      length-append (joined p.required) (32 ∷ joined p.others),
      joined_short p.required g,
      joined_short p.others h,
    )

at_lines_short : (ps : List Piece) → AllShort ps → length (at_lines ps) ≤ 38 * length ps + 35 * hung ps
unfolding at_lines hung
at_lines_short [] a = omega arith
at_lines_short (p ∷ ps) a =
    omega (arith, length-append (at_line p) (at_lines ps), at_short p a.0 a.1 a.2 a.3, at_lines_short ps a.4)

pub pieces_short : (ps : List Piece) → AllShort ps → total ps ≤ 159 → length (pieces_lines ps) ≤ 11 + 38 * length ps + 35 * hung ps
unfolding pieces_lines bytes_of
pieces_short ps a few =
    omega (
      arith,
      length-append (line (bytes_of "pieces " ++ decimal_of (total ps))) (at_lines ps),
      line_size (bytes_of "pieces ") (decimal_of (total ps)),
      total_short (total ps) few,
      at_lines_short ps a,
    )
