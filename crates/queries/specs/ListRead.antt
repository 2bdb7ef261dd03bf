-- A list that was read, by its text and the places of its tokens there. 01, "Job and printed result"; C-12 for tokens, C-15 for editions.
use Rattle.std.specs.Prelude.{ℕ, ◌≤◌, ◌≡◌, true, List, map, length, Result, Ok, Err}
use Rattle.trees.specs.declared.Body.{Body}
use Rattle.trees.specs.declared.Edition.{Edition}
use Rattle.trees.specs.declared.Refusal.{Refusal}
use Rattle.trees.specs.Edition.{in_edition}
use Rattle.trees.specs.Label.{distinct}
use Rattle.trees.specs.Token.{Token, spelling, good_labels}
use Rattle.lists.specs.declared.LabelPlaces.{LabelPlaces}
use Rattle.lists.specs.ReadList.{joined, places_of, folded_list, list_limit}
use Rattle.pairs.specs.Outcome.{refused, found}
use Rattle.queries.specs.Query.{list_of}

-- the text of the list K and the places of its tokens
pub record OwnList (K : List Token) (text start size : List ℕ) (count : ℕ) : Type 0 where
  pub good : good_labels K ≡ true
  pub different : distinct (map spelling K) ≡ true
  pub few : length K ≤ list_limit
  pub text_is : text ≡ joined K
  pub start_is : start ≡ (places_of K).start
  pub size_is : size ≡ (places_of K).size
  pub count_is : count ≡ length K

-- a list, as the edition reads it
pub record OwnLabels (e : Edition) (text : List ℕ) (places : LabelPlaces) : Type 0 where
  pub xs : List Token
  pub own_list : OwnList (folded_list e xs) (in_edition e text) places.start places.size places.count
  pub list_places : places ≡ places_of (folded_list e xs)

-- what the reader of a list returns
abbrev pub ListedIs : Edition → Body → (text : List ℕ) → Result LabelPlaces Refusal → Type 0
ListedIs e body text (Ok places) = (l : OwnLabels e text places) × (list_of e body text ≡ found l.xs)
ListedIs e body text (Err q) = list_of e body text ≡ refused q
