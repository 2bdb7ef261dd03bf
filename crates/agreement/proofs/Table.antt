-- The starred cases and our own, read from their texts and answered by the definitions: a table, a theorem. Assumes nothing.
use mathlib.Core.Path.{◌≡◌, refl}
use mathlib.Core.Option.{some}
use mathlib.Core.List.{map}
use Rattle.trees.specs.Bytes.{kind_of, is_inner_byte}
use Rattle.trees.specs.Label.{same_label, label_less, is_in}
use Rattle.trees.specs.Token.{spelling}
use Rattle.trees.specs.Tree.{relabel, decoded}
use Rattle.trees.specs.Reading.{repeats}
use Rattle.newick.specs.ReadTree.{read_tree}
use Rattle.lists.specs.ReadList.{read_list}
use Rattle.agreement.specs.Answer.{answer}
use Rattle.agreement.specs.Starred.{Row, answered, rows}
use Rattle.agreement.specs.OwnCases.{own_rows}

-- "The starred cases are shown of the definitions, gathered in one table with one theorem."
pub starred_cases : map answered rows ≡ map (λ (r : Row). some r.expected) rows
unfolding answered rows read_tree read_list kind_of repeats is_in same_label label_less answer decoded relabel spelling
starred_cases = refl

pub own_cases : map answered own_rows ≡ map (λ (r : Row). some r.expected) own_rows
unfolding answered own_rows read_tree read_list kind_of is_inner_byte repeats is_in same_label label_less answer decoded relabel spelling
own_cases = refl
