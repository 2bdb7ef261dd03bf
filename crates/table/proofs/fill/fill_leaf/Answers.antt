-- `fill::fill_leaf` meets its contract. Assumes nothing.
use Rattle.std.proofs.Common.{◌<◌, ℕ, sym, ◌∙◌, ap₂, arith, slice_index}
use Rattle.table.specs.Table.{span_at}
use Rattle.table.proofs.RowLaws.{span_before, span_row_next}
use Rattle.table.proofs.fill.fill_leaf.Goals as goal

pub loop-v-preserved : goal.loop-v-preserved
loop-v-preserved c =
    let h : c.loop-v.v < slice_index c.args.second.now.leaf c.from-rank.result = omega arith in
    span_row_next _ _ c.loop-v.v 0 _ c.loop-v.area c.requires.u_bound.2 (omega arith) _ (sym (span_before _ _ _ _ h)) c.loop-v.invariant

pub loop-v-2-preserved : goal.loop-v-2-preserved
loop-v-2-preserved c =
    λ area e first.
    span_row_next _ _ c.loop-v-2.v _ area c.loop-v-2.area c.requires.u_bound.2 (omega arith) _
    (c.span_cell.ensures ∙ ap₂ (λ (w at : ℕ). span_at c.args.second.now w at c.loop-v-2.v) e c.from-at.ensures)
    (c.loop-v-2.invariant area e first)
