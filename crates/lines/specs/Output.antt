-- A text for a lent output: what is answered, and what the output then holds. 01, "Job and printed result" and row 9 of "Why a job is
-- turned down".
use Rattle.std.specs.Prelude.{ℕ, Bool, cond, List, [], ◌++◌, leb, length, drop, Result, Ok, Err}
use Rattle.trees.specs.declared.Refusal.{Refusal}
use Rattle.trees.specs.Stored.{part_of}
use Rattle.mast.specs.Largest.{too_short}

-- "An output is too short exactly if it has fewer bytes than the text that belongs in it"
abbrev pub fits : List ℕ → ℕ → Bool
fits text room = leb (length text) room

-- a text for an output of `room` bytes, or number 9, "O 0"
unfoldable pub line_answer : List ℕ → ℕ → Result ℕ Refusal
line_answer text room = cond (fits text room) (Ok (length text)) (Err too_short)

-- the output holds the text, further bytes unchanged; if it is too short, it keeps every byte
unfoldable pub line_output : List ℕ → List ℕ → List ℕ
line_output text out = cond (fits text (length out)) (text ++ drop (length text) out) out

-- the part of the output that the answer wrote
unfoldable pub written_part : List ℕ → Result ℕ Refusal → List ℕ
unfolding part_of
written_part out (Ok n) = part_of 0 n out
written_part out (Err q) = []
