-- `writer::weight_pass` meets its contract. The invariant: each node passed has its weight. Assumes nothing.
use Prim.Native.Nat.{ℕ, ◌<◌}
use mathlib.Core.Path.{◌≡◌}
use lib.ListN.{get_or}
use Rattle.writer.specs.Passes.{weight_at}
use Rattle.writer.proofs.weight_pass.Given as goal

abbrev pub invariant-loop-u : goal.invariant-loop-u
invariant-loop-u l = (k : ℕ) → k < l.u → get_or l.weight k 0 ≡ weight_at l.text l.tree.left l.tree.start l.tree.size k
