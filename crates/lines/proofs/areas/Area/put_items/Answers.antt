-- `Area::put_items` meets its contract. The invariant: the labels passed are put. Assumes nothing.
use borrow.Author.Rules.{rules}
use Prim.Native.Nat.{ℕ}
use mathlib.Core.Path.{sym, ap, ap₂}
use mathlib.Core.Bool.{Bool, false}
use native.Mathlib.Omega.{arith}
use lib.Dec.{eqb}
use lib.ListN.{length, get_or}
use Rattle.trees.specs.Token.{Token}
use Rattle.division.specs.PiecesAt.{no_piece}
use Rattle.lines.specs.PieceLines.{items_in}
use Rattle.lines.specs.ItemText.{item_text, last_head}
use Rattle.lines.proofs.AreaLaws.{put_as, form_short}
use Rattle.lines.proofs.PieceLineLaws.{item_long, item_at, items_next, last_next, items_none, last_none}
use Rattle.lines.proofs.areas.Area.put_items.Goals as goal

pub loop-i-init : goal.loop-i-init
loop-i-init g c =
    let a = c.args in let p = a.pieces.now in (
      omega arith,
      sym (last_none a.text.now p.items),
      items_none a.text.now p.items _ _,
    )

pub put_piece-requires : goal.put_piece-requires
put_piece-requires g c =
    let a = c.args in let i = c.loop-i.i in (
      search rules,
      omega (
        arith,
        ap (length {A = ℕ}) (rw (c.from.ensures, c.from-in-loop-i.ensures) at c.label_in-x.ensures),
        form_short a.text.now (get_or a.pieces.now.items i no_piece).start (get_or a.pieces.now.items i no_piece).size,
        c.loop-i.invariant.2.whole,
        c.loop-i.invariant.0,
        c.requires,
      ),
    )

pub loop-i-preserved : goal.loop-i-preserved
loop-i-preserved g c =
    let a = c.args in let w = a.pieces.now in let i = c.loop-i.i in
    let shown = rw (c.from.ensures, c.from-in-loop-i.ensures) at c.label_in-x.ensures in
    let it = item_at a.text.now w.items i in
    let q = put_as _ (item_text (eqb i 0) (last_head false (items_in a.text.now w.items i)) it)
    (ap₂ (λ (b : Bool) (y : Token). item_text (eqb i 0) b (record { token = y; head = (get_or w.items i no_piece).head })) c.loop-i.invariant.1 shown)
    c.put_piece.ensures in (
      omega (
        arith,
        q.ends,
        item_long (eqb i 0) (last_head false (items_in a.text.now w.items i)) it,
        form_short a.text.now (get_or w.items i no_piece).start (get_or w.items i no_piece).size,
        c.loop-i.invariant.0,
      ),
      sym (last_next a.text.now w.items i),
      items_next a.text.now w.items i c.loop-i.invariant.2 q,
    )
