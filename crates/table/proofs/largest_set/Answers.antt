-- `largest_set` meets its contract. Assumes nothing.
use Rattle.std.proofs.Common.{sym, refl, ◌∙◌}
use Rattle.table.proofs.SolveLaws.{solved_set, solved_eight}
use Rattle.table.proofs.largest_set.Goals as goal

pub returns-then-held-count-clause-solved : goal.returns-then-held-count-clause-solved
returns-then-held-count-clause-solved c =
    λ s t K posed.
    solved_eight s t K _ _ _ _ _ _ _ posed _ c.min-common.ensures _ _
    (c.weigh-top.ensures s t K _ _ posed c.min-common.ensures refl) _ (λ e. c.if-held-count.true (c.held.ensures ∙ e))

pub returns-clause-solved : goal.returns-clause-solved
returns-clause-solved c =
    let g = c.min-common.ensures in
    λ s t K posed.
    solved_set s t K _ _ _ _ _ _ _ posed _ g _ _ (c.weigh-top.ensures s t K _ _ posed g refl) _ _
    (sym c.held.ensures ∙ c.if-held-count.false) c.read_set.ensures.bits c.labels.ensures
