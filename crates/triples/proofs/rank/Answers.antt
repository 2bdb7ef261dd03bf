-- The invariant: so many of the labels passed come before label k. Assumes nothing.
use mathlib.Core.Path.{ap, ap₂, ◌≡◌, refl, sym, ◌∙◌}
use Prim.Native.Nat.{◌+◌}
use mathlib.Core.Bool.{Bool, true, false, cond}
use mir.Val.{bool_byte}
use Rattle.triples.proofs.LoopLaws.{count_fits, less_count_next}
use native.Mathlib.Omega.{arith}
use Rattle.triples.specs.Loops.{less_count, rank_in}
use Rattle.triples.proofs.rank.Goals as goal

byte_cond : (b : Bool) → bool_byte b ≡ cond b 1 0
byte_cond true = refl
byte_cond false = refl

pub loop-j-init : goal.loop-j-init
unfolding less_count
loop-j-init c =
    refl

pub overflow_add-r : goal.overflow_add-r
overflow_add-r c =
    let b = c.from-r.ensures ∙ ap bool_byte c.before-in-loop-j.ensures ∙ byte_cond _ in
    omega (arith, count_fits _ _ c.loop-j.j _ _ c.loop-j.invariant b)

pub loop-j-preserved : goal.loop-j-preserved
loop-j-preserved c =
    ap₂ ◌+◌ c.loop-j.invariant (c.from-r.ensures ∙ ap bool_byte c.before-in-loop-j.ensures ∙ byte_cond _)
    ∙ sym (less_count_next _ _ _)

pub returns : goal.returns
unfolding rank_in
returns c =
    let e : c.loop-j.j ≡ c.args.places.now.count = omega arith in c.loop-j.invariant ∙ ap (less_count _ _) e
