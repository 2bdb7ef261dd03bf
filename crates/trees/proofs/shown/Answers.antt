-- `shown` meets its contract. The loop keeps that the first i bytes of the form are written and 0 stands after them. Assumes nothing.
use mathlib.Core.Path.{◌≡◌, ◌∙◌}
use native.Mathlib.Omega.{arith}
use Rattle.trees.specs.Token.{token_limit}
use Rattle.trees.specs.Stored.{stored_bytes, form_of}
use Rattle.trees.proofs.StoredLaws.{copy_next, shown_made}
use Rattle.trees.proofs.DecodeLaws.{form_told}
use Rattle.trees.proofs.shown.Goals as goal

pub loop-i-preserved : goal.loop-i-preserved
loop-i-preserved c =
    let l = c.loop-i in let form = form_of c.holds_underscore-quoted.result c.as_slice-x.result.now in
    copy_next token_limit form l.i _ l.bytes l.invariant c.form_byte.ensures (omega arith) (omega arith)

pub returns : goal.returns
unfolding stored_bytes
returns c =
    let l = c.loop-i in let form = form_of c.holds_underscore-quoted.result c.as_slice-x.result.now in
    let told = form_told (stored_bytes c.args.label) _ _ c.holds_underscore-quoted.ensures c.as_slice-x.ensures in
    let e : l.i ≡ c.form_size-len.result = omega arith in
    rw (← e) (shown_made (stored_bytes c.args.label) form l.bytes l.i told (e ∙ c.form_size-len.ensures) l.invariant)
