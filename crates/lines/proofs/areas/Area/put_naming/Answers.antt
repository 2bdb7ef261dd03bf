-- `Area::put_naming` meets its contract: the words, a blank, three labels and a line end. Assumes nothing.
use borrow.Author.Rules.{rules}
use mathlib.Core.Path.{ap}
use native.Mathlib.Omega.{arith}
use Rattle.lines.specs.Areas.{item}
use Rattle.lines.proofs.AreaLaws.{put_then, put_as}
use Rattle.lines.proofs.LineLaws.{words_short, named_parts, named_short, item_named}
use Rattle.lines.proofs.areas.Area.put_naming.Goals as goal

pub put_bytes-requires : goal.put_bytes-requires
put_bytes-requires g c =
    (search rules, omega (arith, c.put_refusal.ensures, words_short c.args.refusal, c.requires))

pub put_item-requires : goal.put_item-requires
put_item-requires g c = (
  search rules,
  omega (
    arith,
    words_short c.args.refusal,
    c.put_refusal.ensures,
    c.put_bytes.ensures,
    named_short _ _ _ c.label_in.ensures,
    c.requires,
  ),
)

pub put_item-requires-2 : goal.put_item-requires-2
put_item-requires-2 g c = (
  search rules,
  omega (
    arith,
    words_short c.args.refusal,
    c.put_refusal.ensures,
    c.put_bytes.ensures,
    item_named 0 _ _ _ c.label_in.ensures,
    c.put_item.ensures,
    named_short _ _ _ c.label_in-2.ensures,
    c.requires,
  ),
)

pub put_item-requires-3 : goal.put_item-requires-3
put_item-requires-3 g c = (
  search rules,
  omega (
    arith,
    words_short c.args.refusal,
    c.put_refusal.ensures,
    c.put_bytes.ensures,
    item_named 0 _ _ _ c.label_in.ensures,
    c.put_item.ensures,
    item_named 1 _ _ _ c.label_in-2.ensures,
    c.put_item-2.ensures,
    named_short _ _ _ c.label_in-3.ensures,
    c.requires,
  ),
)

pub put_byte-requires : goal.put_byte-requires
put_byte-requires g c = (
  search rules,
  omega (
    arith,
    words_short c.args.refusal,
    c.put_refusal.ensures,
    c.put_bytes.ensures,
    item_named 0 _ _ _ c.label_in.ensures,
    c.put_item.ensures,
    item_named 1 _ _ _ c.label_in-2.ensures,
    c.put_item-2.ensures,
    item_named 1 _ _ _ c.label_in-3.ensures,
    c.put_item-3.ensures,
    c.requires,
  ),
)

pub returns : goal.returns
returns g c =
    put_as _ _ (named_parts c.args.job.now c.args.refusal c.args.named)
    (put_then (put_then (put_then (put_then (put_then c.put_refusal.ensures c.put_bytes.ensures)
    (put_as _ _ (ap (item 0) c.label_in.ensures) c.put_item.ensures))
    (put_as _ _ (ap (item 1) c.label_in-2.ensures) c.put_item-2.ensures))
    (put_as _ _ (ap (item 1) c.label_in-3.ensures) c.put_item-3.ensures)) c.put_byte.ensures)
