-- `PieceList::push_leaves` meets its contract. Assumes nothing.
use Rattle.places.proofs.MarkLaws.{hold_as, leaves_none, leaves_next}
use Rattle.places.proofs.PieceList.push_leaves.Goals as goal

pub loop-r-init : goal.loop-r-init
loop-r-init c = λ L h. hold_as (leaves_none L c.args.line.now c.args.j) h

pub loop-r-preserved : goal.loop-r-preserved
loop-r-preserved c =
    let a = c.args in
    λ L h. hold_as (leaves_next L a.line.now a.j c.loop-r.r) (c.push_leaf.ensures _ (c.loop-r.invariant L h))
