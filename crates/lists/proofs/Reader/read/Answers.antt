-- `read` gives the definition's answer. The loop's invariant: from here the machine goes on to it. Assumes nothing.
use native.Mathlib.Omega.{arith}
use Rattle.std.proofs.lemmas.Result.{err_from_is_err_and}
use Rattle.trees.proofs.ByteLaws.{kind_told}
use Rattle.lists.proofs.ReaderLoop.{going_start, going_ready, going_next, going_stop, going_ends, going_end}
use Rattle.lists.proofs.Reader.read.Goals as goal

pub loop-at-init : goal.loop-at-init
loop-at-init c = going_start _ c.requires

pub step-requires : goal.step-requires
step-requires c = going_ready _ _ _ _ c.loop-at.invariant

pub returns-in_err-mode : goal.returns-in_err-mode
returns-in_err-mode c body =
    let r = err_from_is_err_and c.from_residual.result c.from_residual.ensures.1 in
    let kind = kind_told _ _ _ c.classes-table.ensures (omega (arith, c)) c.kind_in.ensures in
    rw (r.1, r.2) (going_stop _ _ _ _ c.loop-at.invariant _ _ _ c.loop-at-test.true kind c.step.ensures _ c.in_err-mode.was body _)

pub loop-at-preserved : goal.loop-at-preserved
loop-at-preserved c =
    let kind = kind_told _ _ _ c.classes-table.ensures (omega (arith, c)) c.kind_in.ensures in
    going_next _ _ _ _ c.loop-at.invariant _ _ _ c.loop-at-test.true kind c.step.ensures _ c.in_ok-mode.was

pub at_end-requires : goal.at_end-requires
at_end-requires c = going_ends _ _ _ _ c.loop-at.invariant c.loop-at-test.false

pub returns : goal.returns
returns c body = going_end _ _ _ _ c.loop-at.invariant body _ _ c.loop-at-test.false (c.at_end.ensures body)
