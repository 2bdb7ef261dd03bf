-- `columns::columns_of` meets its contract. Assumes nothing.
use Rattle.table.proofs.ColumnLaws.{rooted, own_columns}
use Rattle.table.proofs.columns.columns_of.Goals as goal

pub returns-clause-rooted : goal.returns-clause-rooted
returns-clause-rooted c =
    let n = c.nodes_in.ensures in
    rooted _ _ _ _ _ c.gathered.ensures n.0 n.1

pub returns-clause-own_columns : goal.returns-clause-own_columns
returns-clause-own_columns c =
    let n = c.nodes_in.ensures in
    λ t C few given. own_columns t C _ _ few given _ n.2 _ c.gathered.ensures
