-- `form_byte` meets its contract. Assumes nothing.
use native.Mathlib.Omega.{arith}
use Rattle.trees.proofs.DecodeLaws.{form_past, plain_size, plain_blank, plain_other}
use Rattle.trees.proofs.form_byte.Goals as goal

pub returns-then-label-i : goal.returns-then-label-i
returns-then-label-i c =
    let a = c.args in rw c.if-quoted.false (form_past a.label.now a.i _ (omega (arith, plain_size a.label.now)))

pub returns-then-label-i-eq-BLANK : goal.returns-then-label-i-eq-BLANK
returns-then-label-i-eq-BLANK c =
    let a = c.args in rw c.if-quoted.false (plain_blank a.label.now a.i (omega arith) c.if-label-i-eq-BLANK.true)

pub returns-else-label-i-eq-BLANK : goal.returns-else-label-i-eq-BLANK
returns-else-label-i-eq-BLANK c =
    let a = c.args in rw c.if-quoted.false (plain_other a.label.now a.i (omega arith) c.if-label-i-eq-BLANK.false)
