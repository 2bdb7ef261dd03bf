-- `columns::gathered` meets its contract. Assumes nothing.
use Rattle.table.proofs.ColumnLaws.{gathered_none, gathered_next}
use Rattle.table.proofs.columns.gathered.Goals as goal

pub loop-u-init : goal.loop-u-init
loop-u-init c = gathered_none _ _ _ _

pub loop-u-preserved : goal.loop-u-preserved
loop-u-preserved c =
    gathered_next _ _ _ _ _ _ _ c.loop-u.invariant
    (rw (c.from.ensures, c.from-in-loop-u.ensures, c.from-in-loop-u-2.ensures) at c.put.ensures)
