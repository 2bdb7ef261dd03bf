-- Jobs that differ in the order of children alone. 01, "Tree text": "Left and right children mean nothing."
use Rattle.std.specs.Prelude.{ℕ, List, [], ◌∷◌}
use Rattle.std.proofs.Math.Option.{some}
use Rattle.trees.specs.Tree.{Tree, Same}
use Rattle.trees.specs.Text.{text_of}
use Rattle.contents.specs.Contents.{Bodies, first_text, second_text, list_text, claim_text}
use Rattle.job.specs.JobOutcome.{Holds, edition_in, TreeBody, Shared}

-- the same lines and lists with the texts of other trees
abbrev pub with_trees : Tree → Tree → Bodies → Bodies
with_trees s t b =
    record { head = b.head; parts = some (text_of s) ∷ some (text_of t) ∷ some (list_text b) ∷ claim_text b ∷ [] }

-- the second job has equal trees. Number 12 is left out: its place is one in the text as it stands
pub record SidesExchanged (job other : List ℕ) : Type 0 where
  pub bodies : Bodies
  pub s : Tree
  pub t : Tree
  pub s' : Tree
  pub t' : Tree
  pub held : Holds job bodies
  pub other_held : Holds other (with_trees s' t' bodies)
  pub first : TreeBody (edition_in bodies) (first_text bodies) s
  pub second : TreeBody (edition_in bodies) (second_text bodies) t
  pub same_first : Same s s'
  pub same_second : Same t t'
  pub shared : Shared bodies s t
