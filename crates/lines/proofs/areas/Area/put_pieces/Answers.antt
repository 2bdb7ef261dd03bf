-- `Area::put_pieces` meets its contract. Assumes nothing.
use borrow.Author.Rules.{rules}
use native.Mathlib.Omega.{arith}
use Rattle.trees.specs.Words.{bytes_of}
use Rattle.decimals.proofs.DecimalLaws.{decimal_short}
use Rattle.lines.proofs.AreaLaws.{put_then, put_as}
use Rattle.lines.proofs.PieceLineLaws.{pieces_parts, end_short}
use Rattle.lines.proofs.areas.Area.put_pieces.Goals as goal

pub put_byte-requires : goal.put_byte-requires
put_byte-requires g c =
    (search rules, omega (arith, c.put_bytes.ensures, c.put_number.ensures, decimal_short c.min-labels.result, c.requires))

pub put_items-requires : goal.put_items-requires
put_items-requires g c = (
  search rules,
  (
    omega (arith, c.min-labels.ensures),
    omega (
      arith,
      c.min-labels.ensures,
      c.put_bytes.ensures,
      c.put_number.ensures,
      c.put_byte.ensures,
      decimal_short c.min-labels.result,
      c.requires,
    ),
  ),
)

pub put_end-requires : goal.put_end-requires
put_end-requires g c = (
  search rules,
  omega (
    arith,
    c.min-labels.ensures,
    c.put_bytes.ensures,
    c.put_number.ensures,
    c.put_byte.ensures,
    c.put_items.ensures.put.whole,
    c.put_items.ensures.short,
    decimal_short c.min-labels.result,
    c.requires,
  ),
)

pub returns-clause-put : goal.returns-clause-put
unfolding bytes_of
returns-clause-put g c =
    let a = c.args in let p = a.pieces.now in
    rw (← c.min-labels.ensures)
    (put_as _ _ (pieces_parts a.text.now p.items c.min-labels.result)
    (put_then (put_then (put_then (put_then c.put_bytes.ensures c.put_number.ensures) c.put_byte.ensures) c.put_items.ensures.put)
    c.put_end.ensures))

pub returns-clause-short : goal.returns-clause-short
unfolding bytes_of
returns-clause-short g c =
    omega (
      arith,
      c.min-labels.ensures,
      c.put_bytes.ensures,
      c.put_number.ensures,
      c.put_byte.ensures,
      c.put_items.ensures.short,
      c.put_end.ensures.ends,
      end_short c.min-labels.result,
      decimal_short c.min-labels.result,
    )
