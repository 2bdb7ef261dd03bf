-- `writer::sum_pass` meets its contract. The invariant: the entries are those of the pass so far. Assumes nothing.
use mathlib.Core.Path.{◌≡◌}
use Rattle.writer.specs.Passes.{pass, sum_at}
use Rattle.writer.proofs.sum_pass.Given as goal

abbrev pub invariant-loop-u : goal.invariant-loop-u
invariant-loop-u l = l.sums ≡ pass (sum_at l.tree.left l.tree.right l.weights.entry l.weights.plus l.weights.cap) l.initial.sums l.u
