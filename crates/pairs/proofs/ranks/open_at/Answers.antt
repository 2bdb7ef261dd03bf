-- `ranks::open_at` meets its contract. Assumes nothing.
use native.Mathlib.Omega.{arith}
use Rattle.pairs.proofs.RankLaws.{opened_at}
use Rattle.pairs.proofs.ranks.open_at.Goals as goal

pub returns : goal.returns
returns c =
    λ size.
    let w = c.copy_within.ensures in
    opened_at c.args.p c.args.m c.args.u _ _ c.requires.0 (omega arith) w.len w.by_index.0 w.by_index.1
