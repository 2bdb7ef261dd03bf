-- 01's number and values for each case of the answer to a claim. 01, "Why a job is turned down"; C-16.
use Rattle.std.specs.Prelude.{ℕ, Result, Ok, Err}
use Rattle.trees.specs.Refusals.{Said, value}
use Rattle.mast.specs.declared.Denied.{Denied}
use Rattle.mast.specs.PaperNumbers.{said_of_denied}

-- the size, or a row; 8 and 14 with the places of their labels in the list or the claim
unfoldable pub said_of_claim : Result ℕ Denied → Said ℕ
unfolding said_of_denied
said_of_claim (Ok n) = value n
said_of_claim (Err d) = said_of_denied d
