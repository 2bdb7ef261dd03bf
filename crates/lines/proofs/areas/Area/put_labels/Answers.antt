-- `Area::put_labels` meets its contract. The invariant: the labels passed are put, joined by commas. Assumes nothing.
use borrow.Author.Rules.{rules}
use Prim.Native.Nat.{ℕ}
use mathlib.Core.Path.{ap}
use native.Mathlib.Omega.{arith}
use lib.ListN.{length, get_or}
use Rattle.trees.specs.Token.{token_of}
use Rattle.lines.specs.Areas.{item}
use Rattle.lines.specs.Lines.{label_in}
use Rattle.lines.proofs.AreaLaws.{first_none, put_as, put_label, item_grows, form_short}
use Rattle.lines.proofs.areas.Area.put_labels.Goals as goal

pub loop-i-init : goal.loop-i-init
loop-i-init g c = (omega arith, first_none _ _ _ _ _)

pub put_item-requires : goal.put_item-requires
put_item-requires g c =
    let a = c.args in let i = c.loop-i.i in (
      search rules,
      omega (
        arith,
        ap (length {A = ℕ}) (rw (c.from.ensures, c.from-in-loop-i.ensures) at c.label_in-x.ensures),
        form_short a.text.now (get_or a.places.now.start i 0) (get_or a.places.now.size i 0),
        c.loop-i.invariant.1.whole,
        c.loop-i.invariant.0,
        c.requires,
      ),
    )

pub loop-i-preserved : goal.loop-i-preserved
loop-i-preserved g c =
    let a = c.args in let l = c.loop-i in let i = l.i in
    let x = token_of (label_in a.text.now (get_or a.places.now.start i 0) (get_or a.places.now.size i 0)) in
    let shown = rw (c.from.ensures, c.from-in-loop-i.ensures) at c.label_in-x.ensures in
    let p = put_as _ (item i x) (ap (item i) shown) c.put_item.ensures in (
      omega (
        arith,
        p.ends,
        item_grows i x a.self.now.at l.self.at (form_short a.text.now (get_or a.places.now.start i 0) (get_or a.places.now.size i 0))
            l.invariant.0,
      ),
      put_label a.text.now a.places.now.start a.places.now.size i l.invariant.1 p,
    )
