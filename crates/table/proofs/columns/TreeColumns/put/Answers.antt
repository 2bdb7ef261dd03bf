-- `TreeColumns::put` meets its contract. Assumes nothing.
use Rattle.table.proofs.ColumnLaws.{node_put}
use Rattle.table.proofs.columns.TreeColumns.put.Goals as goal

pub returns : goal.returns
returns c =
    let one = c.child-a.ensures in let two = c.child-b.ensures in
    node_put _ _ _ _ _ _ _ _ _ _ _ _ _ _ _ _ _ c.requires one.value two.value one.upper_bound two.upper_bound c.needed-need.ensures
    c.first_below-low.ensures c.min-n.ensures c.leaf_place.ensures.value c.narrow.ensures c.narrow-2.ensures c.narrow-3.ensures
    c.narrow-4.ensures c.narrow-5.ensures c.narrow-6.ensures
