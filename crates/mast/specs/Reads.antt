-- Texts that are read, and demand 3 for a set that is returned, sentence by sentence. 01, "Conditions of acceptance"; C-12: "The comparison
-- with the definition is made on decoded labels.", as the edition reads them (C-15).
use Rattle.std.specs.Prelude.{ℕ, ◌≤◌, ◌≡◌, true, List, length}
use Rattle.trees.specs.Label.{Label}
use Rattle.trees.specs.declared.Edition.{Edition}
use Rattle.trees.specs.Edition.{in_edition, keyed}
use Rattle.trees.specs.Token.{Token}
use Rattle.trees.specs.Tree.{Tree}
use Rattle.trees.specs.Reading.{good}
use Rattle.newick.specs.ReadTree.{read_tree_in}
use Rattle.lists.specs.ReadList.{read_list_in, keys_of}
use Rattle.agreement.specs.Demand.{IsAnswer}
use Rattle.agreement.specs.Strict.{SameLeaves}
use Rattle.queries.specs.Query.{Task}
use Rattle.mast.specs.Largest.{solution, solution_text}

-- The texts are read as these two trees and this list. If the job is strict, both trees have the same leaves (C-11). So no number before 6
-- is given.
pub record Reads (q : Task) (s t : Tree) (K : List Token) : Type 0 where
  pub first_is : read_tree_in q.options.edition q.first ≡ good s
  pub second_is : read_tree_in q.options.edition q.second ≡ good t
  pub shared : q.options.strict ≡ true → SameLeaves (keyed q.options.edition s) (keyed q.options.edition t)
  pub list_is : read_list_in q.options.edition q.required ≡ good K

-- A set is returned: it is the answer, and the text of the first tree's restriction fits. Up to spelling that is the text of the second
-- tree's restriction.
pub record SetGiven (e : Edition) (s t : Tree) (xs : List Token) (X : List Label) (room : ℕ) : Type 0 where
  pub is_answer : IsAnswer (keyed e s) (keyed e t) (keys_of e xs) X
  pub second_text : in_edition e (solution_text (solution e s t xs X)) ≡ in_edition e (solution_text (solution e t s xs X))
  pub fit : length (solution_text (solution e s t xs X)) ≤ room
