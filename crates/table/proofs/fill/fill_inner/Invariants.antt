-- `fill::fill_inner` meets its contract. Assumes nothing.
use Rattle.table.specs.Table.{InnerRow}
use Rattle.table.proofs.fill.fill_inner.Given as goal

abbrev pub invariant-loop-v : goal.invariant-loop-v
invariant-loop-v l = InnerRow l.v l.second l.left l.right l.row l.initial.area l.area
