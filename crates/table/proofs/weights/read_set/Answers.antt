-- `weights::read_set` meets its contract. Assumes nothing.
use Rattle.std.proofs.Common.{◌≡◌, ◌-◌, ◌<◌, Bool, false, ◌∙◌, arith, get_or-set_other}
use Rattle.trees.proofs.EntryLaws.{filled_at}
use lib.ListN.{length-replicate}
use Rattle.table.proofs.WeighingLaws.{read_none, read_next, taken}
use Rattle.table.proofs.weights.read_set.Goals as goal

pub loop-r-init : goal.loop-r-init
loop-r-init c = (λ h. read_none 80 _ _ (length-replicate {A = Bool} 80 false), λ q h. filled_at false 80 q)

pub loop-r-preserved : goal.loop-r-preserved
loop-r-preserved c =
    let i = c.loop-r.invariant in
    let small : c.loop-r.r < 80 = omega arith in
    let t = taken c.checked_sub-less.result _ _ c.checked_sub-less.ensures in (
      λ powers.
          let e : 79 - c.loop-r.r ≡ 80 - 1 - c.loop-r.r = omega arith in
          read_next 80 c.loop-r.r _ _ _ _ _ c.loop-r.chosen small small (i.0 powers)
          (powers c.loop-r.r c.loop-r-test.true) (c.is_some.ensures ∙ t.0) (c.unwrap_or-rest.ensures ∙ t.1),
      λ q k. get_or-set_other c.loop-r.chosen c.loop-r.r q c.is_some.result false (omega arith) ∙ i.1 q (omega arith),
    )
