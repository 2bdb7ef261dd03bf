-- `PieceList::push_leaves` meets its contract.
use mathlib.Core.List.{List, ◌++◌}
use Rattle.places.specs.declared.Mark.{Mark}
use Rattle.places.specs.Marks.{leaf_marks, ListHolds}
use Rattle.places.proofs.PieceList.push_leaves.Given as goal

abbrev pub invariant-loop-r : goal.invariant-loop-r
invariant-loop-r l = ((L : List Mark) → ListHolds l.initial.self L → ListHolds l.self (L ++ leaf_marks l.line l.j l.r))
