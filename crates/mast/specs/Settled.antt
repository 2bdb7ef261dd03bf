-- The required list settled: 6, 7, 8, or the set by rank. Intermediate: nothing public rests on this text.
use Rattle.std.specs.Prelude.{ℕ, ◌≡◌, Bool, cond, List, ltb, length, get_or, Option, Some, None, Result, Ok, Err}
use Rattle.trees.specs.declared.Edition.{Edition}
use Rattle.trees.specs.declared.Refusal.{Refusal}
use Rattle.trees.specs.declared.TreeArrays.{TreeArrays}
use Rattle.trees.specs.Edition.{folded, keyed}
use Rattle.trees.specs.Label.{Label}
use Rattle.trees.specs.Token.{Token}
use Rattle.trees.specs.Tree.{Tree}
use Rattle.lists.specs.declared.LabelPlaces.{LabelPlaces}
use Rattle.lists.specs.ReadList.{folded_list}
use Rattle.agreement.specs.Sets.{common}
use Rattle.table.specs.Choice.{chosen_from}
use Rattle.mast.specs.declared.Named.{Named}
use Rattle.mast.specs.declared.Denied.{Denied}
use Rattle.mast.specs.declared.Denied.TheVariants.{Naming, Refused}
use Rattle.mast.specs.declared.settle.Settled.{Settled}
use Rattle.mast.specs.declared.query.Listed.{Listed}
use Rattle.mast.specs.declared.query.Query.{Query}
use Rattle.pairs.specs.declared.CommonOrder.{CommonOrder}
use Rattle.pairs.specs.Outcome.{Outcome, Trio, refused, naming, found}
use Rattle.pairs.specs.PairRead.{OwnTrees, trees_in}
use Rattle.mast.specs.NamedLabels.{named_of}
use Rattle.queries.specs.Query.{required_set}
use Rattle.queries.specs.ListRead.{OwnLabels}
use Rattle.queries.specs.RankedList.{AskedOf}

-- two trees that were read, by their pair
abbrev pub OwnPair : Query → Type 0
OwnPair q = OwnTrees q.edition q.first.now q.pair.now.tree1 q.pair.now.tree2 q.pair.now.order

-- a list that was read, as the query's edition reads it
abbrev pub OwnListed : Query → Listed → Type 0
OwnListed q list = OwnLabels q.edition list.text.now list.places

-- the labels chosen among the common ones
abbrev pub chosen_of : Edition → Tree → Tree → List Bool → List Label
chosen_of e s t chosen = chosen_from chosen 0 (common (keyed e s) (keyed e t))

-- a refusal that names three labels, given as n
pub record NamingIs (x : Outcome (List Label)) (q : Refusal) (n : Named) : Type 0 where
  pub labels : Trio
  pub is : x ≡ naming q labels
  pub named : n ≡ named_of labels

-- a refusal of a list, with the labels that it names
abbrev pub DeniedIs : Outcome (List Label) → Denied → Type 0
DeniedIs x (Naming q n) = NamingIs x q n
DeniedIs x (Refused q) = x ≡ refused q

-- for a list whose labels are all common, so that no label is lacked
abbrev pub ChosenIs : Edition → (s t : Tree) → List Token → List Bool → Result ℕ Denied → Type 0
ChosenIs e s t xs chosen (Ok size) =
    (required_set e (record { first = s; second = t }) xs ≡ found (chosen_of e s t chosen)) × (size ≡ length (chosen_of e s t chosen))
ChosenIs e s t xs chosen (Err (Naming q n)) = NamingIs (required_set e (record { first = s; second = t }) xs) q n
ChosenIs e s t xs chosen (Err (Refused q)) = ⊥

-- for two trees and a list that were read
module _ {e : Edition} {first : List ℕ} {tree1 tree2 : TreeArrays} {order : CommonOrder} {list : List ℕ} {places : LabelPlaces}
    (b : OwnTrees e first tree1 tree2 order) (l : OwnLabels e list places) where
  pub record AgreedOn (r : Settled) : Type 0 where
    pub asked : AskedOf (folded e b.s) (folded e b.t) (folded_list e l.xs) tree1 tree2 order r.number places
    pub set : required_set e (trees_in b) l.xs ≡ found (chosen_of e b.s b.t r.chosen)
    pub count : r.size ≡ length (chosen_of e b.s b.t r.chosen)

  abbrev pub SettledIs : Result Settled Denied → Type 0
  SettledIs (Ok r) = AgreedOn r
  SettledIs (Err d) = DeniedIs (required_set e (trees_in b) l.xs) d

-- the place in the required list of its label k, if it has so many
abbrev pub lacked_at : LabelPlaces → ℕ → Option ℕ
lacked_at places k = cond (ltb k places.count) (Some (get_or places.start k 0)) None
