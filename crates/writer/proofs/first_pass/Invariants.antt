-- `writer::first_pass` meets its contract. The invariant: each node passed has its first child. Assumes nothing.
use Prim.Native.Nat.{ℕ, ◌<◌}
use mathlib.Core.Path.{◌≡◌}
use lib.ListN.{get_or}
use Rattle.trees.specs.Edition.{in_edition}
use Rattle.writer.specs.Passes.{first_at}
use Rattle.writer.proofs.first_pass.Given as goal

abbrev pub invariant-loop-u : goal.invariant-loop-u
invariant-loop-u l = (k : ℕ) → k < l.u → get_or l.first k 0 ≡ first_at (in_edition l.edition l.text) l.tree.left l.tree.right l.tree.start l.tree.size l.least k
