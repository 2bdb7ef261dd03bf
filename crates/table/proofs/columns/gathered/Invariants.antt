-- `columns::gathered` meets its contract. Assumes nothing.
use Rattle.table.specs.Columns.{Gathered}
use Rattle.table.proofs.columns.gathered.Given as goal

abbrev pub invariant-loop-u : goal.invariant-loop-u
invariant-loop-u l = Gathered l.u l.left l.right l.rank l.nodes l.columns
