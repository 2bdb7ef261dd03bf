-- `writer::least_pass` meets its contract. The invariant: the entries are those of the pass so far. Assumes nothing.
use mathlib.Core.Path.{◌≡◌}
use Rattle.trees.specs.Edition.{in_edition}
use Rattle.writer.specs.Passes.{pass, least_at}
use Rattle.writer.proofs.least_pass.Given as goal

abbrev pub invariant-loop-u : goal.invariant-loop-u
invariant-loop-u l = l.least ≡ pass (least_at (in_edition l.edition l.text) l.tree.left l.tree.right l.tree.start l.tree.size) l.initial.least l.u
