-- `Spelled::compare_by` meets its contract. Assumes nothing.
use mathlib.Core.Path.{sym, ◌∙◌, ap₂}
use native.Mathlib.Omega.{arith}
use Rattle.std.specs.Ordering.{nat_cmp}
use Rattle.trees.proofs.DecodeLaws.{read_ends, read_decides, read_level}
use Rattle.trees.proofs.Spelled.compare_by.Goals as goal

pub returns-then-x-y : goal.returns-then-x-y
returns-then-x-y c =
    let a = c.args in let l = c.loop-i in let x = c.decode-x.ensures in let y = c.decode-y.ensures in
    read_decides a.edition a.self.quoted a.other.quoted a.self.bytes.now a.other.bytes.now l.i l.invariant (omega arith) (omega arith)
    (λ e. c.if-x-y.true (x ∙ e ∙ sym y)) _ (c.cmp.ensures ∙ ap₂ nat_cmp x y)

pub loop-i-preserved : goal.loop-i-preserved
loop-i-preserved c =
    let a = c.args in let l = c.loop-i in
    read_level a.edition a.self.quoted a.other.quoted a.self.bytes.now a.other.bytes.now l.i l.invariant (omega arith) (omega arith)
    (sym c.decode-x.ensures ∙ c.if-x-y.false ∙ c.decode-y.ensures)

pub returns : goal.returns
returns c =
    let a = c.args in let l = c.loop-i in
    read_ends a.edition a.self.quoted a.other.quoted a.self.bytes.now a.other.bytes.now l.i l.invariant (omega arith) (omega arith) (omega arith) _ c.cmp-2.ensures
