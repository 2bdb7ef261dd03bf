-- `fill::fill_leaf` meets its contract. Assumes nothing.
use Rattle.std.proofs.Common.{◌≡◌, List, ℕ, slice_index}
use Rattle.table.specs.Table.{weight_place, SpanRow}
use Rattle.table.proofs.fill.fill_leaf.Given as goal

abbrev pub invariant-loop-v : goal.invariant-loop-v
invariant-loop-v l = SpanRow l.v l.second l.rank l.row l.initial.area l.area

-- it adds to what the first loop made of any area with that weight
abbrev pub invariant-loop-v-2 : goal.invariant-loop-v-2
invariant-loop-v-2 l = (area : List ℕ) → l.weight ≡ slice_index area (weight_place l.rank)
    → SpanRow l.clear l.second l.rank l.row area l.initial.area
    → SpanRow l.v l.second l.rank l.row area l.area
