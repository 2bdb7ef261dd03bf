-- `downward::pass_on` meets its contract. Assumes nothing.
use Rattle.places.proofs.ArrayLaws.{passed}
use Rattle.places.proofs.downward.pass_on.Goals as goal

pub returns : goal.returns
returns c =
    let x = c.child_place.ensures in
    let y = c.child_place-2.ensures in
    passed c.args.below.now c.args.places.now c.args.a c.args.b c.args.u _ _ (c.is_inner.ensures.a_lt_u c.if-not-is_inner.false).0
    x.number x.top y.number y.top
