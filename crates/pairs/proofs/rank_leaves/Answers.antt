-- Ranks: the invariant says that those of the first r common leaves are stored. Assumes nothing.
use Prim.Native.Nat.{ℕ}
use mathlib.Core.Path.{◌≡◌, sym, ◌∙◌, ap, subst}
use mathlib.Core.List.{List}
use Rattle.table.specs.Choice.{Ranked}
use Rattle.pairs.specs.CommonRanks.{ranks_of}
use Rattle.pairs.proofs.RankLaws.{ranks_start, ranks_next, ranked}
use native.Mathlib.Omega.{arith}
use Rattle.pairs.proofs.rank_leaves.Goals as goal

pub loop-r-init : goal.loop-r-init
loop-r-init c = ranks_start _

pub loop-r-preserved : goal.loop-r-preserved
loop-r-preserved c =
    ranks_next _ _ _ _ c.loop-r.invariant (λ k. rw c.from.ensures at (c.put_at.ensures k))

pub returns : goal.returns
returns c =
    λ t C v inc e few n.
    let a = c.args in let r-is : c.loop-r.r ≡ a.m = omega arith in
    subst (λ (k : List ℕ). Ranked t C k) (sym (c.loop-r.invariant ∙ ap (ranks_of a.order.now) r-is)) (ranked t C _ _ v inc e n)
