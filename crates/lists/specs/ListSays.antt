-- An answer of the list reader in 01's terms: how many labels, or a row of the table "Why a job is turned down" with its number, body
-- letter and place.
use Rattle.std.specs.Prelude.{ℕ, List, Result, Ok, Err}
use Rattle.trees.specs.declared.Body.{Body}
use Rattle.trees.specs.declared.Edition.{Edition}
use Rattle.trees.specs.declared.Refusal.{Refusal}
use Rattle.trees.specs.Refusals.{Said, value, row_of}
use Rattle.lists.specs.ReadList.{read_list_in, list_read}

unfoldable pub list_says : Result ℕ Refusal → Said ℕ
unfolding row_of
list_says (Ok n) = value n
list_says (Err r) = row_of r

-- the answer under an edition for a text given as a body
unfoldable pub says_of : Edition → Body → List ℕ → Said ℕ
unfolding list_read read_list_in list_says
says_of e body text = list_says (list_read body (read_list_in e text)).answer
