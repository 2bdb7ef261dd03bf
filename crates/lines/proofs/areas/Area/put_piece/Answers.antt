-- `Area::put_piece` meets its contract. Assumes nothing.
use borrow.Author.Rules.{rules}
use native.Mathlib.Omega.{arith}
use Rattle.lines.specs.ItemText.{item_text, leaf_text}
use Rattle.lines.proofs.PieceLineLaws.{before_short}
use Rattle.lines.proofs.AreaLaws.{put_then}
use Rattle.lines.proofs.areas.Area.put_piece.Goals as goal

pub returns-then-head : goal.returns-then-head
unfolding item_text
returns-then-head g c = rw c.if-head.true c.put_head.ensures

pub put_shown-requires : goal.put_shown-requires
put_shown-requires g c =
    (search rules, omega (arith, c.put_before.ensures, before_short c.args.first c.args.after, c.requires))

pub returns : goal.returns
unfolding item_text leaf_text
returns g c = rw c.if-head.false (put_then c.put_before.ensures c.put_shown.ensures)
