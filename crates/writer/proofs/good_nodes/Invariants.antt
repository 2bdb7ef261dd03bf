-- `writer::good_nodes` meets its contract. The invariant: every node passed is good. Assumes nothing.
use mathlib.Core.Path.{◌≡◌}
use mathlib.Core.Bool.{true}
use Rattle.trees.specs.Arrays.{good_nodes}
use Rattle.writer.proofs.good_nodes.Given as goal

abbrev pub invariant-loop-u : goal.invariant-loop-u
invariant-loop-u l = good_nodes l.tree l.text l.u ≡ true
