-- `finish::set_places` meets its contract. Assumes nothing.
use mathlib.Core.Path.{◌∙◌, ap}
use native.Mathlib.Omega.{arith}
use Rattle.mast.specs.Largest.{set_places}
use Rattle.mast.proofs.FinishLaws.{places_none, places_next, stored_count, chosen_all}
use Rattle.mast.proofs.finish.set_places.Goals as goal

pub loop-r-init : goal.loop-r-init
loop-r-init c =
    (omega arith, λ s C v e f k n. places_none s c.args.chosen.now C)

pub loop-r-preserved : goal.loop-r-preserved
loop-r-preserved c =
    let a = c.args in (
      omega (arith, c.loop-r.invariant.0, stored_count _ _ _ _ _ c.add_place-count.ensures),
      λ s C v e f k n.
          places_next s v a.chosen.now a.order1.now C n c.loop-r.r (omega arith) (omega arith) _ _
          (c.loop-r.invariant.1 s C v e f k n) (rw (c.from-u.ensures, e, f) at c.add_place-count.ensures),
    )

pub returns : goal.returns
returns c =
    let a = c.args in λ s C v e f k n.
    c.loop-r.invariant.1 s C v e f k n ∙ ap (set_places s) (chosen_all a.chosen.now C c.loop-r.r (omega arith))
