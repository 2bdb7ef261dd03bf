-- `quoted_byte` meets its contract, place by place. Assumes nothing.
use native.Mathlib.Omega.{arith}
use Rattle.trees.proofs.DecodeLaws.{quote_first_lem, quote_inside, quote_last, form_past, quoted_size}
use Rattle.trees.proofs.quoted_byte.Goals as goal

pub returns-then-i-eq0 : goal.returns-then-i-eq0
returns-then-i-eq0 c =
    quote_first_lem _ _ c.if-i-eq0.true

pub returns-then-i-label : goal.returns-then-i-label
returns-then-i-label c =
    let a = c.args in quote_inside a.label.now a.i (omega arith) (omega arith)

pub returns-then-i-label-2 : goal.returns-then-i-label-2
returns-then-i-label-2 c =
    let a = c.args in quote_last a.label.now a.i (omega arith) (omega arith)

pub returns-else-i-label-2 : goal.returns-else-i-label-2
returns-else-i-label-2 c =
    let a = c.args in form_past a.label.now a.i _ (omega (arith, quoted_size a.label.now))
