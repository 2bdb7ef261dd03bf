-- `finish::kept_leaves` meets its contract. Assumes nothing.
use mathlib.Core.Path.{refl, subst}
use mathlib.Core.Bool.{false}
use mathlib.Core.List.{List}
use lib.ListN.{get_or}
use native.Mathlib.Omega.{arith}
use Rattle.trees.specs.Label.{Label}
use Rattle.mast.specs.SetByRank.{Flagged}
use Rattle.mast.proofs.FinishLaws.{flags_none, flags_next, flags_length, chosen_all}
use Rattle.mast.proofs.finish.kept_leaves.Goals as goal

pub loop-r-init : goal.loop-r-init
loop-r-init c =
    (refl, λ s C v k n. flags_none s v c.args.chosen.now C)

pub loop-r-preserved : goal.loop-r-preserved
loop-r-preserved c =
    let a = c.args in let r = c.loop-r.r in let put = rw c.from.ensures at c.flag.ensures in (
      flags_length (get_or a.chosen.now r false) c.loop-r.kept _ (get_or a.order1.now r 0) c.loop-r.invariant.0 put,
      λ s C v k n.
          flags_next s v a.chosen.now a.order1.now C n r (omega arith) c.loop-r.kept _ c.loop-r.invariant.0
          (c.loop-r.invariant.1 s C v k n) put,
    )

pub returns : goal.returns
returns c =
    let a = c.args in λ s C v k n.
    subst (λ (X : List Label). Flagged s X c.loop-r.kept) (chosen_all a.chosen.now C c.loop-r.r (omega arith))
    (c.loop-r.invariant.1 s C v k n)
