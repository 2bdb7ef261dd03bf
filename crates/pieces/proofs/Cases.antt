-- Small jobs, read from their texts: lines, totals, joined sets and numbers of places as the definitions compute them. Assumes nothing.
use mathlib.Core.Path.{◌≡◌, refl}
use mathlib.Core.Option.{some}
use mathlib.Core.List.{map}
use Rattle.trees.specs.Bytes.{kind_of}
use Rattle.trees.specs.Label.{same_label, label_less, is_in}
use Rattle.trees.specs.Token.{spelling}
use Rattle.trees.specs.Tree.{relabel, decoded}
use Rattle.trees.specs.Reading.{repeats}
use Rattle.newick.specs.ReadTree.{read_tree}
use Rattle.lists.specs.ReadList.{read_list}
use Rattle.pieces.specs.PieceRows.{PieceRow, pieces_shown, rows, PlaceNumberRow, numbers, number_rows}

pub row_cases : map pieces_shown rows ≡ map (λ (r : PieceRow). some r.expected) rows
unfolding pieces_shown rows read_tree read_list kind_of repeats is_in same_label label_less decoded relabel spelling
row_cases = refl

pub number_cases : map numbers number_rows ≡ map (λ (r : PlaceNumberRow). some r.expected) number_rows
unfolding numbers number_rows read_tree read_list kind_of repeats is_in same_label label_less decoded relabel spelling
number_cases = refl
