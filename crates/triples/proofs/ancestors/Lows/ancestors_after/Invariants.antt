-- The invariant: each node passed, from the root down, has the first node past it that spans u. Assumes nothing.
use Prim.Native.Nat.{ℕ, ◌≤◌, ◌<◌, ◌%◌}
use mathlib.Core.Path.{◌≡◌}
use lib.ListN.{length, get_or}
use Rattle.triples.specs.Loops.{span_from}
use Rattle.triples.proofs.ancestors.Lows.ancestors_after.Given as goal

abbrev pub invariant-loop-w : goal.invariant-loop-w
invariant-loop-w l = (length l.at ≡ 159) × (l.nearest ≡ span_from l.self.low l.u l.self.nodes l.w)
    × ((v : ℕ) → l.w ≤ v → v < l.self.nodes → get_or l.at v 0 ≡ span_from l.self.low l.u l.self.nodes v % 256)
