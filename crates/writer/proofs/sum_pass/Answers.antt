-- `writer::sum_pass` meets its contract. The invariant: the entries are those of the pass so far. Assumes nothing.
use mathlib.Core.Path.{refl}
use Rattle.writer.specs.Passes.{pass, sum_at}
use Rattle.writer.proofs.PassLaws.{pass_step}
use Rattle.writer.proofs.sum_pass.Goals as goal

pub loop-u-init : goal.loop-u-init
unfolding pass
loop-u-init c = refl

pub loop-u-preserved : goal.loop-u-preserved
loop-u-preserved c =
    let a = c.args in
    pass_step (sum_at a.tree.now.left a.tree.now.right a.weights.now.entry a.weights.now.plus a.weights.now.cap) a.sums.now c.loop-u.sums c.loop-u.u
    c.sum_at.result c.loop-u.invariant c.sum_at.ensures
