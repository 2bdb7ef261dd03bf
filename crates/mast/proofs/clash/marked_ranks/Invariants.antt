-- `clash::marked_ranks` meets its contract. Assumes nothing.
use Rattle.mast.proofs.RequiredLaws.{RanksTo}
use Rattle.mast.proofs.clash.marked_ranks.Given as goal

abbrev pub invariant-loop-r : goal.invariant-loop-r
invariant-loop-r l = RanksTo l.number l.r l.n l.ranks
