-- `writer::least_pass` meets its contract. The invariant: the entries are those of the pass so far. Assumes nothing.
use mathlib.Core.Path.{refl}
use Rattle.trees.specs.Edition.{in_edition}
use Rattle.writer.specs.Passes.{pass, least_at}
use Rattle.writer.proofs.PassLaws.{pass_step}
use Rattle.writer.proofs.least_pass.Goals as goal

pub loop-u-init : goal.loop-u-init
unfolding pass
loop-u-init c = refl

pub loop-u-preserved : goal.loop-u-preserved
loop-u-preserved c =
    let a = c.args in
    pass_step (least_at (in_edition a.edition a.text.now) a.tree.now.left a.tree.now.right a.tree.now.start a.tree.now.size) a.least.now c.loop-u.least c.loop-u.u
    c.least_at.result c.loop-u.invariant c.least_at.ensures
