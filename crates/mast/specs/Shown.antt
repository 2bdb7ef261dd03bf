-- Labels by their places, as a caller finds them in the texts. C-12: "the part of the text shown for it has both quotes".
use Rattle.std.specs.Prelude.{ℕ, ◌≡◌, true, List}
use Rattle.trees.specs.declared.Edition.{Edition}
use Rattle.trees.specs.Edition.{key, keyed}
use Rattle.trees.specs.Label.{Label, is_in}
use Rattle.trees.specs.Token.{Token, good_label}
use Rattle.trees.specs.Stored.{part_of}
use Rattle.lists.specs.ReadList.{keys_of}
use Rattle.agreement.specs.Closer.{holds}
use Rattle.agreement.specs.Answer.{Three}
use Rattle.agreement.specs.Places.{LeafShown, Listed}
use Rattle.mast.specs.declared.Named.{Named}
use Rattle.mast.specs.declared.NamedLabel.{NamedLabel}
use Rattle.pairs.specs.Outcome.{Trio}

-- a label of the list that the first tree has
pub record HeldAndListed (n : Trio) (x : Label) : Type 0 where
  pub held : holds (keyed n.edition n.first) x ≡ true
  pub listed : is_in x (keys_of n.edition n.list) ≡ true

-- the part of a tree's text with this start and size is a leaf as a whole, a token that the edition reads as x
pub record ShownInTree (e : Edition) (text : List ℕ) (start size : ℕ) (x : Label) : Type 0 where
  pub whole : LeafShown text start (part_of start size text)
  pub good : good_label (part_of start size text) ≡ true
  pub is : key e (part_of start size text) ≡ x

-- at this place a list's text has a label as a whole, a token that the edition reads as x
pub record ShownInList (e : Edition) (text : List ℕ) (place : ℕ) (x : Label) : Type 0 where
  pub token : Token
  pub whole : Listed text place token
  pub is : key e token ≡ x

-- a label that is named: in the list, and in the first tree
pub record NameShown (e : Edition) (first list : List ℕ) (n : NamedLabel) (x : Label) : Type 0 where
  pub listed : ShownInList e list n.place x
  pub leaf : ShownInTree e first n.start n.size x

pub record NamesShown (e : Edition) (first list : List ℕ) (n : Named) (r : Three) : Type 0 where
  pub first_name : NameShown e first list n.first r.one
  pub second_name : NameShown e first list n.second r.two
  pub third_name : NameShown e first list n.third r.three
