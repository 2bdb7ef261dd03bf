-- Ranks: the invariant says that those of the first r common leaves are stored. Assumes nothing.
use mathlib.Core.Path.{◌≡◌}
use Rattle.pairs.specs.CommonRanks.{ranks_of}
use Rattle.pairs.proofs.rank_leaves.Given as goal

abbrev pub invariant-loop-r : goal.invariant-loop-r
invariant-loop-r l = l.rank ≡ ranks_of l.order l.r
