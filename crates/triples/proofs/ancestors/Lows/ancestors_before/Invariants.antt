-- The invariant: each node passed, from u down, has its ancestor with u, and lower ones search on from w. Assumes nothing.
use Prim.Native.Nat.{ℕ, ◌≤◌, ◌<◌, ◌%◌}
use mathlib.Core.Path.{◌≡◌}
use lib.ListN.{length, get_or}
use Rattle.triples.specs.Loops.{span_from}
use Rattle.triples.proofs.ancestors.Lows.ancestors_before.Given as goal

abbrev pub invariant-loop-v : goal.invariant-loop-v
invariant-loop-v l = (length l.at ≡ 159) × ((a : ℕ) → a < l.v → span_from l.self.low a l.self.nodes l.w ≡ span_from l.self.low a l.self.nodes l.u)
    × ((a : ℕ) → l.v ≤ a → a < l.u → get_or l.at a 0 ≡ span_from l.self.low a l.self.nodes l.u % 256)
