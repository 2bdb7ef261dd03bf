-- The papers' number and values for each case of the answer for a line. 01, "Why a job is turned down".
use Rattle.std.specs.Prelude.{ℕ, Result, Ok, Err}
use Rattle.trees.specs.declared.Refusal.{Refusal}
use Rattle.trees.specs.Refusals.{Said, value, row_of}

-- the length of the line, or number 9
unfoldable pub said_of_line : Result ℕ Refusal → Said ℕ
unfolding row_of
said_of_line (Ok n) = value n
said_of_line (Err q) = row_of q
