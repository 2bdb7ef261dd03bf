-- `leaves::find_leaf` meets its contract. Assumes nothing.
use native.Mathlib.Nat.{sub-zero}
use mathlib.Core.Path.{◌≡◌, refl, sym, ◌∙◌}
use native.Mathlib.Omega.{arith}
use Rattle.leaves.specs.Find.{found_leaf}
use Rattle.leaves.proofs.FindLaws.{from_hit, from_miss, from_end, found_here, found_none}
use Rattle.leaves.proofs.find_leaf.Goals as goal

pub loop-u-init : goal.loop-u-init
unfolding found_leaf
loop-u-init c = rw (sub-zero, c.min-u-end.ensures) refl

pub returns-then-has_label : goal.returns-then-has_label
returns-then-has_label c =
    found_here _ _ _ _ _ _ _ (omega arith) (sym (from_hit _ c.min-u-end.result c.loop-u.u (sym c.has_label.ensures ∙ c.if-has_label.true)) ∙ c.loop-u.invariant)

pub loop-u-preserved : goal.loop-u-preserved
loop-u-preserved c =
    sym (from_miss _ c.min-u-end.result c.loop-u.u c.loop-u-test.true (sym c.has_label.ensures ∙ c.if-has_label.false)) ∙ c.loop-u.invariant

pub returns : goal.returns
returns c =
    let end : c.loop-u.u ≡ c.min-u-end.result = omega arith in
    found_none _ _ _ _ _ _ (sym c.min-u-end.ensures ∙ sym end ∙ sym (from_end _ c.min-u-end.result c.loop-u.u (omega arith)) ∙ c.loop-u.invariant)
