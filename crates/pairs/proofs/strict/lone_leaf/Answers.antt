-- `strict::lone_leaf` meets its contract. Assumes nothing.
use mathlib.Core.Path.{sym, ◌∙◌}
use native.Mathlib.Omega.{arith}
use Rattle.pairs.proofs.StrayLaws.{lone_start, lone_found, lone_next, lone_none}
use Rattle.pairs.proofs.strict.lone_leaf.Goals as goal

pub loop-u-init : goal.loop-u-init
loop-u-init c = λ s t left_is nodes_is v p. lone_start s t

pub returns-then-is_lone-clause-lone : goal.returns-then-is_lone-clause-lone
returns-then-is_lone-clause-lone c = λ s t left_is nodes_is v p.
    lone_found left_is nodes_is v p _ (c.loop-u.invariant s t left_is nodes_is v p) (omega arith)
    (sym (rw c.from.ensures at c.is_lone.ensures) ∙ c.if-is_lone.true)

pub loop-u-preserved : goal.loop-u-preserved
loop-u-preserved c = λ s t left_is nodes_is v p.
    lone_next left_is nodes_is v p _ (c.loop-u.invariant s t left_is nodes_is v p) (omega arith)
    (sym (rw c.from.ensures at c.is_lone.ensures) ∙ c.if-is_lone.false)

pub returns-clause-lone : goal.returns-clause-lone
returns-clause-lone c = λ s t left_is nodes_is v p.
    lone_none left_is nodes_is v p c.loop-u.u (c.loop-u.invariant s t left_is nodes_is v p) (omega arith)
