-- `Area::put_record` meets its contract: the parts of the three lines, one after another. Assumes nothing.
use borrow.Author.Rules.{rules}
use Prim.Native.Nat.{ℕ}
use mathlib.Core.Path.{sym, ◌∙◌, ap}
use native.Mathlib.Omega.{arith}
use lib.ListN.{length, take, length-take}
use Rattle.trees.specs.Text.{tree_room}
use Rattle.trees.specs.Words.{bytes_of}
use Rattle.lines.specs.Lines.{labels_in, record_lines}
use Rattle.lines.proofs.AreaLaws.{put_then, put_as, length_labels}
use Rattle.lines.proofs.LineLaws.{record_parts, size_short}
use Rattle.lines.proofs.areas.Area.put_record.Goals as goal

pub put_bytes-requires-2 : goal.put_bytes-requires-2
put_bytes-requires-2 g c = (
  search rules,
  omega (
    arith,
    size_short c.min-count.result (omega (arith, c.min-count.ensures)),
    c.min-count.ensures,
    c.put_bytes.ensures,
    c.put_number.ensures,
    c.requires,
  ),
)

pub put_labels-requires : goal.put_labels-requires
put_labels-requires g c = (
  search rules,
  (
    omega (arith, c.min-count.ensures),
    omega (
      arith,
      size_short c.min-count.result (omega (arith, c.min-count.ensures)),
      c.min-count.ensures,
      c.put_bytes.ensures,
      c.put_number.ensures,
      c.put_bytes-2.ensures,
      c.requires,
    ),
  ),
)

pub put_bytes-requires-3 : goal.put_bytes-requires-3
put_bytes-requires-3 g c = (
  search rules,
  omega (
    arith,
    size_short c.min-count.result (omega (arith, c.min-count.ensures)),
    c.min-count.ensures,
    c.put_bytes.ensures,
    c.put_number.ensures,
    c.put_bytes-2.ensures,
    c.put_labels.ensures.put.whole,
    c.put_labels.ensures.short,
    c.requires,
  ),
)

pub put_bytes-requires-4 : goal.put_bytes-requires-4
put_bytes-requires-4 g c = (
  search rules,
  omega (
    arith,
    size_short c.min-count.result (omega (arith, c.min-count.ensures)),
    c.min-count.ensures,
    c.put_bytes.ensures,
    c.put_number.ensures,
    c.put_bytes-2.ensures,
    c.put_labels.ensures.put.whole,
    c.put_labels.ensures.short,
    c.put_bytes-3.ensures,
    ap length c.front.ensures,
    length-take tree_room c.args.tree.now,
    c.requires,
  ),
)

pub put_byte-requires : goal.put_byte-requires
put_byte-requires g c = (
  search rules,
  omega (
    arith,
    size_short c.min-count.result (omega (arith, c.min-count.ensures)),
    c.min-count.ensures,
    c.put_bytes.ensures,
    c.put_number.ensures,
    c.put_bytes-2.ensures,
    c.put_labels.ensures.put.whole,
    c.put_labels.ensures.short,
    c.put_bytes-3.ensures,
    c.put_bytes-4.ensures,
    ap length c.front.ensures,
    length-take tree_room c.args.tree.now,
    c.requires,
  ),
)

pub returns : goal.returns
unfolding bytes_of
returns g c =
    let a = c.args in let s = a.set.now in let n = c.min-count.result in
    let e = ap (λ (k : ℕ). record_lines (labels_in a.first.now s.start s.size k) (take tree_room a.tree.now)) c.min-count.ensures in
    put_as _ _ (record_parts (labels_in a.first.now s.start s.size n) _ n (sym (length_labels a.first.now s.start s.size n)) ∙ e)
    (put_then (put_then (put_then (put_then (put_then (put_then c.put_bytes.ensures c.put_number.ensures) c.put_bytes-2.ensures)
    c.put_labels.ensures.put) c.put_bytes-3.ensures) (put_as _ _ c.front.ensures c.put_bytes-4.ensures)) c.put_byte.ensures)
