-- `PieceList::push_line` meets its contract. Assumes nothing.
use native.Mathlib.Omega.{arith}
use Rattle.places.proofs.MarkLaws.{hold_as, line_none, line_bare, line_headed}
use Rattle.places.proofs.PieceList.push_line.Goals as goal
use Rattle.places.proofs.PieceList.push_line.Goals.{then-from-lt-LEAF_LIMIT, else-from-lt-LEAF_LIMIT}

pub returns-in_default : goal.returns-in_default
returns-in_default c = λ L h. hold_as (line_none L c.args.line.now c.args.m c.args.j c.args.top c.in_default.is) h

pub returns : goal.returns
returns c =
    let a = c.args in
    let top = c.in-Some.top in
    λ L h. rw c.in-Some.is (elim c.if-from-lt-LEAF_LIMIT.branch [
      | then-from-lt-LEAF_LIMIT w ↦
          hold_as (line_headed L a.line.now a.m a.j top (omega (arith, w.if-from-lt-LEAF_LIMIT.true, c.from.ensures)))
          (c.push_leaves.ensures _ (rw w.self-is (w.push.ensures L h)))
      | else-from-lt-LEAF_LIMIT w ↦
          hold_as (line_bare L a.line.now a.m a.j top (omega (arith, w.if-from-lt-LEAF_LIMIT.false, c.from.ensures)))
          (c.push_leaves.ensures L (rw w.self-is h))
    ])
