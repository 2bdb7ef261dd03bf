-- The invariant: each rank passed has its leaf. Assumes nothing.
use Prim.Native.Nat.{ℕ, ◌<◌}
use mathlib.Core.Path.{◌≡◌}
use lib.ListN.{length, get_or}
use Rattle.std.specs.Prelude.{None}
use Rattle.std.specs.Option.{unwrap_or}
use Rattle.triples.proofs.ranked.Given as goal

abbrev pub invariant-loop-i : goal.invariant-loop-i
invariant-loop-i l = (length l.by_rank ≡ 80) × ((r : ℕ) → r < l.i → get_or l.by_rank r 0 ≡ unwrap_or (get_or l.leaf (get_or l.order r 0) None) 0)
