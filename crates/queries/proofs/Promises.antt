-- What is promised of the steps that every query shares after both trees, in 01's order. Each theorem cites one name. Assumes nothing.
use Prim.Native.Nat.{ℕ}
use mathlib.Core.Path.{◌≡◌}
use mathlib.Core.List.{List}
use Rattle.trees.specs.declared.Body.{Body}
use Rattle.trees.specs.declared.Refusal.{Refusal}
use Rattle.trees.specs.declared.Edition.{Edition}
use Rattle.trees.specs.Token.{Token}
use Rattle.trees.specs.Reading.{good}
use Rattle.lists.specs.ReadList.{read_list_in}
use Rattle.pairs.specs.Outcome.{refused, found}
use Rattle.pairs.proofs.StepLaws.{Unread}
use Rattle.queries.specs.Query.{list_of}
use Rattle.queries.proofs.ListLaws

-- A list that cannot be read is refused with its own letter; otherwise the query goes on with its tokens.
pub list_refused : (e : Edition) (body : Body) (text : List ℕ) (q : Refusal) → Unread (List Token) (read_list_in e text) body q
    → list_of e body text ≡ refused q
list_refused = ListLaws.list_unread

pub list_found : (e : Edition) (body : Body) (text : List ℕ) (xs : List Token) → read_list_in e text ≡ good xs → list_of e body text ≡ found xs
list_found = ListLaws.list_read_lem
