-- `Spelled::same_all` meets its contract. Assumes nothing.
use mathlib.Core.Path.{sym, ◌∙◌}
use native.Mathlib.Omega.{arith}
use borrow.Author.Tests.{eqb-true, eqb-false}
use Rattle.trees.proofs.DecodeLaws.{read_differ, read_same, read_agrees}
use Rattle.trees.proofs.Spelled.same_all.Goals as goal

pub returns-then-not-same_byte : goal.returns-then-not-same_byte
returns-then-not-same_byte c =
    let a = c.args in let told = sym c.same_byte.ensures ∙ c.if-not-same_byte.true in
    sym (read_differ a.edition a.self.quoted a.other.quoted a.self.bytes.now a.other.bytes.now _ (omega arith) (omega arith) (eqb-false _ _ told))

pub loop-i-preserved : goal.loop-i-preserved
loop-i-preserved c =
    let a = c.args in let l = c.loop-i in let told = sym c.same_byte.ensures ∙ c.if-not-same_byte.false in
    read_agrees a.edition a.self.quoted a.other.quoted a.self.bytes.now a.other.bytes.now l.i l.invariant (omega arith) (omega arith) (eqb-true _ _ told)

pub returns : goal.returns
returns c =
    let a = c.args in let l = c.loop-i in read_same a.edition a.self.quoted a.other.quoted a.self.bytes.now a.other.bytes.now l.i l.invariant (omega arith) (omega arith)
