-- `weights::put_weights` meets its contract. Assumes nothing.
use Rattle.std.proofs.Common.{◌≡◌, ◌-◌, ◌<◌, ◌≤◌}
use Rattle.agreement.specs.Powers.{power}
use Rattle.table.specs.Weighing.{WeightsPut}
use Rattle.table.proofs.weights.put_weights.Given as goal

abbrev pub invariant-loop-r : goal.invariant-loop-r
invariant-loop-r l = (l.power ≤ 604462909807314587353088) × (l.r < 80 → l.power ≡ power (79 - l.r)) × WeightsPut l.r l.number l.initial.area l.area
