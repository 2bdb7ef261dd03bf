-- `Area::put_item` meets its contract: a comma unless it is the first. Assumes nothing.
use Rattle.trees.specs.Stored.{shown_bytes}
use Rattle.lines.proofs.AreaLaws.{put_as, put_then, item_first, item_later}
use Rattle.lines.proofs.areas.Area.put_item.Goals as goal

pub returns-then-i-eq0 : goal.returns-then-i-eq0
returns-then-i-eq0 g c = put_as _ _ (item_first c.args.i (shown_bytes c.args.x) c.if-i-eq0.true) c.put_shown.ensures

pub returns : goal.returns
returns g c =
    put_as _ _ (item_later c.args.i (shown_bytes c.args.x) c.if-i-eq0.false) (put_then c.put_byte.ensures c.put_shown-2.ensures)
