-- What comes of reading a list, as a step of a query. Assumes nothing.
use Prim.Native.Nat.{ℕ}
use mathlib.Core.Path.{◌≡◌}
use mathlib.Core.List.{List}
use Rattle.trees.specs.declared.Body.{Body}
use Rattle.trees.specs.declared.Refusal.{Refusal}
use Rattle.trees.specs.declared.Edition.{Edition}
use Rattle.trees.specs.Token.{Token}
use Rattle.trees.specs.Reading.{good}
use Rattle.lists.specs.ReadList.{read_list_in}
use Rattle.pairs.specs.Outcome.{refused, found}
use Rattle.pairs.proofs.StepLaws.{Unread, body_unread, body_read}
use Rattle.queries.specs.Query.{list_of}

module _ (e : Edition) (body : Body) (text : List ℕ) where
  pub list_unread : (a : Refusal) → Unread (List Token) (read_list_in e text) body a → list_of e body text ≡ refused a
  unfolding list_of
  list_unread = body_unread body (read_list_in e text)

  pub list_read_lem : (xs : List Token) → read_list_in e text ≡ good xs → list_of e body text ≡ found xs
  unfolding list_of
  list_read_lem = body_read body (read_list_in e text)
