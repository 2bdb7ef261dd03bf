-- `fill::fill_inner` meets its contract. Assumes nothing.
use Rattle.std.proofs.Common.{◌<◌, arith}
use Rattle.table.proofs.RowLaws.{inner_row_next}
use Rattle.table.proofs.fill.fill_inner.Goals as goal

pub loop-v-preserved : goal.loop-v-preserved
loop-v-preserved c =
    let h : c.loop-v.v < c.args.second.now.nodes = omega arith in
    inner_row_next _ _ c.loop-v.v _ _ c.loop-v.area c.requires.shape c.requires.left_bound.2 h _ _ c.pair_cell.ensures c.loop-v.invariant
