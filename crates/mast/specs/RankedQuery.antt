-- Three labels of a list with different closer pairs, once the list is marked by rank. Intermediate: nothing public rests on this text.
use Rattle.std.specs.Prelude.{ℕ, ◌<◌, ◌≡◌, List, get_or, Option}
use Rattle.trees.specs.declared.Body.{Body}
use Rattle.trees.specs.declared.Edition.{Edition}
use Rattle.trees.specs.Edition.{folded}
use Rattle.trees.specs.Token.{Token}
use Rattle.trees.specs.Tree.{Tree}
use Rattle.lists.specs.declared.LabelPlaces.{LabelPlaces}
use Rattle.lists.specs.ReadList.{folded_list}
use Rattle.mast.specs.declared.Named.{Named}
use Rattle.pairs.specs.declared.CommonOrder.{CommonOrder}
use Rattle.pairs.specs.declared.Pair.{Pair}
use Rattle.pairs.specs.Outcome.{found}
use Rattle.queries.specs.RankedList.{AskedOf}
use Rattle.queries.specs.Query.{AllHeld, answer_to, held_by}
use Rattle.mast.specs.Compare.{clash_of, named_if}
use Rattle.mast.specs.ListMarks.{ranks_from, Entries}

-- there are such trees and such a list: what keeps indices in range
pub record SomeAsked (p : Pair) (number : List ℕ) (places : LabelPlaces) : Type 0 where
  pub e : Edition
  pub s : Tree
  pub t : Tree
  pub xs : List Token
  pub of : AskedOf (folded e s) (folded e t) (folded_list e xs) p.tree1 p.tree2 p.order number places

-- the marked labels by their ranks, and their leaves in both trees
pub record RanksGathered (number : List ℕ) (order : CommonOrder) (count : ℕ) (ranks leaf1 leaf2 : List ℕ) : Type 0 where
  pub by_rank : Entries (ranks_from number 0 order.count) ranks
  pub first : (i : ℕ) → i < count → i < 80 → get_or leaf1 i 0 ≡ get_or order.first (get_or ranks i 0) 0
  pub second : (i : ℕ) → i < count → i < 80 → get_or leaf2 i 0 ≡ get_or order.second (get_or ranks i 0) 0

-- the first three labels of the list with different closer pairs, if there are any
pub record ClashIs (e : Edition) (s t : Tree) (xs : List Token) (r : Option Named) : Type 0 where
  pub held : AllHeld
  pub is : (body : Body) → held_by body xs (answer_to e (record { first = s; second = t }) xs) ≡ found held
  pub named_is : r ≡ named_if e s xs (clash_of held)
