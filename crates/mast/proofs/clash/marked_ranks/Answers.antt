-- `clash::marked_ranks` meets its contract. Assumes nothing.
use native.Mathlib.Omega.{arith}
use Rattle.mast.proofs.RequiredLaws.{ranks_none, ranks_next}
use Rattle.mast.proofs.clash.marked_ranks.Goals as goal

pub loop-r-init : goal.loop-r-init
loop-r-init c = ranks_none _

pub loop-r-preserved : goal.loop-r-preserved
loop-r-preserved c = ranks_next _ c.loop-r.r _ _ _ _ (omega arith) c.loop-r.invariant c.add_rank-n.ensures
