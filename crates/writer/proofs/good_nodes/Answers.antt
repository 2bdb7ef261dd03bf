-- `writer::good_nodes` meets its contract. The invariant: every node passed is good. Assumes nothing.
use mathlib.Core.Path.{refl, sym, ◌∙◌}
use native.Mathlib.Omega.{arith}
use Rattle.trees.specs.Arrays.{good_nodes}
use Rattle.writer.proofs.StepLaws.{good_fails, good_more}
use Rattle.writer.proofs.good_nodes.Goals as goal

pub loop-u-init : goal.loop-u-init
unfolding good_nodes
loop-u-init c = refl

pub returns-then-not-good_node : goal.returns-then-not-good_node
returns-then-not-good_node c =
    good_fails c.args.tree.now c.args.text.now c.args.tree.now.nodes c.loop-u.u (omega arith) (sym c.good_node.ensures ∙ c.if-not-good_node.true)

pub loop-u-preserved : goal.loop-u-preserved
loop-u-preserved c =
    good_more c.args.tree.now c.args.text.now c.loop-u.u c.loop-u.invariant (sym c.good_node.ensures ∙ c.if-not-good_node.false)
