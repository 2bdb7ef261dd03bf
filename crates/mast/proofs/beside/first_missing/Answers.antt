-- `beside::first_missing` meets its contract. Assumes nothing.
use mathlib.Core.Path.{◌≡◌, ◌∙◌, refl, ap}
use Prim.Native.Nat.{ℕ, suc, ◌+◌}
use native.Mathlib.Omega.{arith}
use lib.ListN.{get_or}
use Rattle.mast.specs.ListMarks.{nearer_of, least_missing}
use Rattle.mast.proofs.beside.first_missing.Goals as goal

pub loop-r-init : goal.loop-r-init
unfolding least_missing
loop-r-init c = refl

pub loop-r-preserved : goal.loop-r-preserved
unfolding least_missing
loop-r-preserved c =
    let l = c.loop-r in let k : l.r + 1 ≡ suc l.r = omega arith in
    rw k (c.nearer-best.ensures ∙ ap (λ (b : ℕ). nearer_of b (get_or c.args.number.now l.r 0) (get_or c.args.other.now l.r 0)) l.invariant)
