-- `listing::list_lines` meets its contract. Assumes nothing.
use mathlib.Core.Path.{refl}
use Rattle.places.proofs.MarkLaws.{hold_as, lines_none_listed, lines_next}
use Rattle.places.proofs.listing.list_lines.Goals as goal

pub loop-j-init : goal.loop-j-init
loop-j-init c = hold_as (lines_none_listed c.args.line.now c.args.tops.now c.args.m) c.new-list.ensures

pub loop-j-preserved : goal.loop-j-preserved
loop-j-preserved c =
    let a = c.args in
    hold_as (lines_next a.line.now a.tops.now a.m c.loop-j.j _ refl) (c.push_line.ensures _ c.loop-j.invariant)
