-- `form_size` meets its contract: with quotes there are two bytes more. Assumes nothing.
use native.Mathlib.Omega.{arith}
use Rattle.trees.proofs.DecodeLaws.{quoted_size, plain_size}
use Rattle.trees.proofs.form_size.Goals as goal

pub returns-then-quoted : goal.returns-then-quoted
returns-then-quoted c =
    rw c.if-quoted.true (omega (arith, quoted_size c.args.label.now))

pub returns : goal.returns
returns c =
    rw c.if-quoted.false (omega (arith, plain_size c.args.label.now))
