-- The outcome of a step or of a whole query: a refusal, a refusal that names three labels, or what was found. 01, "Why a job is turned down":
-- "A body that fails to read ends the job there", and so does every other row. What comes after a step begins with what the step found.
use Rattle.std.specs.Prelude.{List}
use Rattle.trees.specs.declared.Refusal.{Refusal}
use Rattle.trees.specs.declared.Edition.{Edition}
use Rattle.trees.specs.Label.{Label}
use Rattle.trees.specs.Token.{Token}
use Rattle.trees.specs.Tree.{Tree}
use Rattle.agreement.specs.Answer.{Three}

-- Three labels of a list, by their keys, as number 8 names them. The first tree spells them.
pub record Trio : Type 0 where
  pub edition : Edition
  pub first : Tree
  pub list : List Token
  pub labels : Three

pub data Outcome (A : Type 0) : Type 0 where
  refused : Refusal → Outcome A
  naming : Refusal → Trio → Outcome A
  found : A → Outcome A

unfoldable pub and_then : {A B : Type 0} → Outcome A → (A → Outcome B) → Outcome B
and_then (refused q) next = refused q
and_then (naming q n) next = naming q n
and_then (found x) next = next x

abbrev pub trio : Edition → Tree → List Token → Label → Label → Label → Trio
trio e s xs a b c = record { edition = e; first = s; list = xs; labels = record { one = a; two = b; three = c } }
