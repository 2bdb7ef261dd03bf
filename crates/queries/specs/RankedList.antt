-- A list once texts are read and labels have ranks: two trees by their arrays, and the list's labels marked, or the first that is not common.
-- 01, rows 6 and 7 of "Why a job is turned down".
use Rattle.std.specs.Prelude.{ℕ, ◌≤◌, ◌≡◌, true, List, map, length, Result, Ok, Err}
use Rattle.trees.specs.declared.Body.{Body}
use Rattle.trees.specs.declared.Edition.{Edition}
use Rattle.trees.specs.declared.Refusal.{Refusal}
use Rattle.trees.specs.declared.TreeArrays.{TreeArrays}
use Rattle.trees.specs.Edition.{folded}
use Rattle.trees.specs.Label.{Label, distinct}
use Rattle.trees.specs.Token.{Token, spelling}
use Rattle.trees.specs.Tree.{Tree, decoded, Valid}
use Rattle.trees.specs.Arrays.{arrays_of}
use Rattle.lists.specs.declared.LabelPlaces.{LabelPlaces}
use Rattle.lists.specs.ReadList.{places_of, folded_list, list_limit}
use Rattle.agreement.specs.Closer.{Common}
use Rattle.agreement.specs.Sets.{increasing, common, set_of}
use Rattle.leaves.specs.Numbered.{Numbered}
use Rattle.table.specs.Choice.{Marked}
use Rattle.pairs.specs.declared.CommonOrder.{CommonOrder}
use Rattle.pairs.specs.Outcome.{refused}
use Rattle.queries.specs.Query.{answer_to, held_by}

-- a tree by its arrays, with its leaves by the rank in C of their decoded labels
pub record RankedArrays (t : Tree) (C : List Label) (tree : TreeArrays) (order : List ℕ) (m : ℕ) : Type 0 where
  pub valid : Valid t
  pub arrays_is : tree ≡ arrays_of t
  pub ordered : increasing C ≡ true
  pub count : m ≡ length C
  pub few : m ≤ 80
  pub numbered : Numbered (decoded t) C order

pub record Asked (s t : Tree) (K : List Token) (tree1 tree2 : TreeArrays) (order : CommonOrder) (number : List ℕ) (count : ℕ) : Type 0 where
  pub one : RankedArrays s (common (decoded s) (decoded t)) tree1 order.first order.count
  pub two : RankedArrays t (common (decoded s) (decoded t)) tree2 order.second order.count
  pub different : distinct (map spelling K) ≡ true
  pub few : length K ≤ list_limit
  pub held : Common (decoded s) (decoded t) (set_of (map spelling K))
  pub marked : Marked (common (decoded s) (decoded t)) (map spelling K) number
  pub count_is : count ≡ length K

-- with the places of the list
pub record AskedOf (s t : Tree) (K : List Token) (tree1 tree2 : TreeArrays) (order : CommonOrder) (number : List ℕ) (places : LabelPlaces)
    : Type 0 where
  pub asked : Asked s t K tree1 tree2 order number places.count
  pub list_places : places ≡ places_of K

-- a list looked up among the common labels: 6 or 7, or all marked
abbrev pub MarksAre : Edition → (s t : Tree) → List Token → Body → (tree1 tree2 : TreeArrays) → CommonOrder → LabelPlaces
    → Result (List ℕ) Refusal → Type 0
MarksAre e s t xs body tree1 tree2 order places (Ok number) =
    AskedOf (folded e s) (folded e t) (folded_list e xs) tree1 tree2 order number places
MarksAre e s t xs body tree1 tree2 order places (Err q) =
    held_by body xs (answer_to e (record { first = s; second = t }) xs) ≡ refused q
