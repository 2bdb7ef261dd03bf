-- The first label of a list that is not common. Intermediate: nothing public rests on this text.
use Rattle.std.specs.Prelude.{ℕ, ◌<◌, ◌≡◌, true, false, List, [], map, length, get_or}
use Rattle.trees.specs.declared.TreeArrays.{TreeArrays}
use Rattle.trees.specs.Label.{is_in}
use Rattle.trees.specs.Token.{Token, spelling}
use Rattle.trees.specs.Tree.{Tree, decoded}
use Rattle.lists.specs.declared.LabelPlaces.{LabelPlaces}
use Rattle.agreement.specs.Sets.{common}
use Rattle.pairs.specs.OwnLeaves.{OwnLeaves}
use Rattle.queries.specs.ListRead.{OwnList}

-- label n of the list is the first that is not common
pub record FirstMissing (s t : Tree) (K : List Token) (text1 list : List ℕ) (tree1 : TreeArrays) (places : LabelPlaces) (n : ℕ)
    : Type 0 where
  pub own : OwnLeaves s text1 tree1.left tree1.start tree1.size tree1.nodes
  pub own_list : OwnList K list places.start places.size places.count
  pub below : n < length K
  pub earlier : (k : ℕ) → k < n → is_in (get_or (map spelling K) k []) (common (decoded s) (decoded t)) ≡ true
  pub missing : is_in (get_or (map spelling K) n []) (common (decoded s) (decoded t)) ≡ false
