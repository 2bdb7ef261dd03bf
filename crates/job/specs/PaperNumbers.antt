-- The papers' number and values for each case of the answers over jobs. 01, "Why a job is turned down".
use Rattle.std.specs.Prelude.{ℕ, Result, Ok, Err}
use Rattle.trees.specs.Refusals.{Said, value}
use Rattle.mast.specs.declared.Denied.{Denied}
use Rattle.mast.specs.PaperNumbers.{said_of_denied}

-- the length of the lines, number 8 or 14 with the places of its labels in the job, or another row
unfoldable pub said_of_job : Result ℕ Denied → Said ℕ
unfolding said_of_denied
said_of_job (Ok n) = value n
said_of_job (Err d) = said_of_denied d
