-- What is promised of printed lines, in 01's order. Each theorem cites one name. Assumes nothing.
use Prim.Native.Nat.{ℕ, ◌+◌, ◌*◌, ◌≤◌}
use mathlib.Core.Path.{◌≡◌, refl}
use mathlib.Core.Bool.{true}
use mathlib.Core.List.{List, [], ◌∷◌}
use lib.ListN.{length}
use Rattle.std.specs.Prelude.{Ok, Err}
use Rattle.trees.specs.declared.Refusal.{Refusal}
use Rattle.trees.specs.Refusals.{value, row}
use Rattle.trees.specs.Label.{Label}
use Rattle.trees.specs.Text.{tree_room}
use Rattle.trees.specs.Tree.{leaf_limit}
use Rattle.trees.specs.Writable.{writable_labels}
use Rattle.mast.specs.Largest.{too_short}
use Rattle.pieces.specs.Pieces.{Piece, total, hung}
use Rattle.lines.specs.Lines.{record_room, refused_line, record_lines, claim_line, three_line}
use Rattle.lines.specs.Output.{line_answer, line_output, written_part}
use Rattle.lines.specs.PaperNumbers.{said_of_line}
use Rattle.lines.proofs.OutputLaws
use Rattle.lines.specs.PieceLines.{pieces_lines}
use Rattle.lines.proofs.ShortLaws
use Rattle.lines.proofs.ShortLaws.{AllShort}

-- "An output is too short exactly if it has fewer bytes than the text that belongs in it": what is written into any other output is the
-- text.
pub written_promise : (text out : List ℕ) → length text ≤ length out
    → written_part (line_output text out) (line_answer text (length out)) ≡ text
written_promise = OutputLaws.written_whole

-- An output of `record_room` bytes suffices for the lines of any set that fits the limits, and for any other line than those of pieces.
pub set_room : (X : List Label) (text : List ℕ) → length X ≤ leaf_limit → writable_labels X ≡ true → length text ≤ tree_room
    → length (record_lines X text) ≤ record_room
set_room = ShortLaws.record_short

pub refusal_room : (q : Refusal) → length (refused_line q) ≤ record_room
refusal_room = ShortLaws.refusal_short

pub naming_room : (q : Refusal) (a b c : Label) → writable_labels (a ∷ b ∷ c ∷ []) ≡ true → length (three_line q a b c) ≤ record_room
naming_room = ShortLaws.three_short

pub claim_room_lem : (n : ℕ) → length (claim_line n) ≤ record_room
claim_room_lem = ShortLaws.claim_short

-- C-17: the bytes of the lines of pieces, by how many there are and how many leaves are on them.
pub pieces_room_lem : (ps : List Piece) → AllShort ps → total ps ≤ 159 → length (pieces_lines ps) ≤ 11 + 38 * length ps + 35 * hung ps
pieces_room_lem = ShortLaws.pieces_short

-- "If an answer is an enum, the promises use a definition that gives this paper's number and values for each of its cases."
pub line_rows_promise : (n : ℕ) → (said_of_line (Ok n) ≡ value n) × (said_of_line (Err too_short) ≡ row 9 79 0)
unfolding said_of_line
line_rows_promise n = (refl, refl)
