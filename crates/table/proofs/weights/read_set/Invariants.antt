-- `weights::read_set` meets its contract. Assumes nothing.
use Rattle.std.proofs.Common.{◌≡◌, ℕ, ◌≤◌, false, get_or}
use Rattle.table.specs.Weighing.{Powers}
use Rattle.table.proofs.WeighingLaws.{ReadTo}
use Rattle.table.proofs.weights.read_set.Given as goal

abbrev pub invariant-loop-r : goal.invariant-loop-r
invariant-loop-r l = (Powers l.m l.area → ReadTo 80 l.r l.initial.rest l.rest l.chosen)
    × ((q : ℕ) → l.r ≤ q → get_or l.chosen q false ≡ false)
