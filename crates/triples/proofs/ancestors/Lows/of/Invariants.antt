-- The invariant: each node passed has the number of the first node below it. Assumes nothing.
use Prim.Native.Nat.{ℕ, ◌<◌}
use mathlib.Core.Path.{◌≡◌}
use lib.ListN.{length}
use Rattle.triples.specs.Loops.{LowAt}
use Rattle.triples.proofs.ancestors.Lows.of.Given as goal

abbrev pub invariant-loop-u : goal.invariant-loop-u
invariant-loop-u l = (length l.low ≡ 159) × ((v : ℕ) → v < l.u → LowAt l.left l.low v)
