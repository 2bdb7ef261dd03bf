-- `ranks::second_leaves` meets its contract. Assumes nothing.
use Prim.Native.Nat.{ℕ, ◌<◌}
use mathlib.Core.Path.{◌≡◌}
use lib.ListN.{length, get_or}
use Rattle.std.proofs.Common.{Some, None}
use Rattle.pairs.proofs.ranks.second_leaves.Given as goal

abbrev pub invariant-loop-i : goal.invariant-loop-i
invariant-loop-i l = (length l.found ≡ 80) × ((j v : ℕ) → j < l.i → get_or l.first j 0 < 159
    → get_or l.partner (get_or l.first j 0) None ≡ Some v → get_or l.found j 0 ≡ v)
