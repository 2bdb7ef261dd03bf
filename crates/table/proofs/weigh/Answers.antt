-- `weigh` meets its contract. Assumes nothing.
use Rattle.table.proofs.SolveLaws.{weighed}
use Rattle.table.proofs.weigh.Goals as goal

pub returns : goal.returns
returns c =
    λ s t K m count posed ranks e.
    weighed s t K _ _ _ _ _ _ _ posed _ _
    c.columns_of-first.ensures.own_columns
    c.columns_of-second.ensures.own_columns _ ranks _ _
    (rw e at c.put_weights.ensures) _ c.root_weight.ensures
