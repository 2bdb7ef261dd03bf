-- `writer::put_tree` meets its contract. The invariant: what is stored and what the stack will store is the whole text; the measure is
-- the number of steps that are left. The loop never reads the edition, so the invariant is for each that orders the children so. Assumes
-- nothing.
use Prim.Native.Nat.{◌-◌}
use Rattle.trees.specs.declared.Edition.{Edition}
use Rattle.writer.specs.Passes.{node_text, stack_steps, ChildNodes}
use Rattle.writer.proofs.StackLaws.{Writing}
use Rattle.writer.proofs.put_tree.Given as goal

abbrev pub invariant-loop-thing : goal.invariant-loop-thing
invariant-loop-thing l = (e : Edition) → ChildNodes e l.tree l.text l.first l.tree.nodes
    → Writing e l.tree l.text l.tree.nodes (node_text e l.tree l.text (l.tree.nodes - 1)) l.initial.out
    l.out l.stack.things l.stack.depth l.at

abbrev pub decreases-loop-thing : goal.decreases-loop-thing
decreases-loop-thing l = stack_steps l.tree l.text l.stack.things l.stack.depth
