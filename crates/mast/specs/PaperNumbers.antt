-- 01's number and values for each case of the engine's answers. 01, "Why a job is turned down".
use Rattle.std.specs.Prelude.{ℕ, List, [], ◌∷◌, Result, Ok, Err}
use Rattle.trees.specs.Refusals.{Said, value, row_of, row_naming_of}
use Rattle.mast.specs.declared.Compared.{Compared}
use Rattle.mast.specs.declared.Named.{Named}
use Rattle.mast.specs.declared.Denied.{Denied}
use Rattle.mast.specs.declared.Denied.TheVariants.{Naming, Refused}
use Rattle.mast.specs.declared.Found.{Found}

-- the labels that a refusal names, by their places in their list
abbrev pub places_in : Named → List ℕ
places_in n = n.first.place ∷ n.second.place ∷ n.third.place ∷ []

-- a refusal's row
unfoldable pub said_of_denied : {A : Type 0} → Denied → Said A
unfolding row_of row_naming_of
said_of_denied (Naming q n) = row_naming_of q (places_in n)
said_of_denied (Refused q) = row_of q

-- the size and the text's length, or a row
unfoldable pub said_of_largest : Result Found Denied → Said (List ℕ)
unfolding said_of_denied
said_of_largest (Ok f) = value (f.size ∷ f.length ∷ [])
said_of_largest (Err d) = said_of_denied d

-- all that a comparison has, or a row
unfoldable pub said_of_compare : Result Compared Denied → Said Compared
unfolding said_of_denied
said_of_compare (Ok c) = value c
said_of_compare (Err d) = said_of_denied d
