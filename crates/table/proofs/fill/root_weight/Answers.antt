-- `fill::root_weight` meets its contract. Assumes nothing.
use Rattle.std.proofs.Common.{refl}
use Rattle.table.proofs.FillLaws.{top_made}
use Rattle.table.proofs.fill.root_weight.Goals as goal

pub returns : goal.returns
returns c =
    let p = c.requires in top_made _ _ _ _ _ _ _ refl refl p.1.root p.1.shape.few
    c.fill_node.ensures refl
