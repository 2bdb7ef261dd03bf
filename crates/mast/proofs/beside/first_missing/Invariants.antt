-- `beside::first_missing` meets its contract. Assumes nothing.
use mathlib.Core.Path.{◌≡◌}
use Rattle.mast.specs.ListMarks.{least_missing}
use Rattle.mast.proofs.beside.first_missing.Given as goal

abbrev pub invariant-loop-r : goal.invariant-loop-r
invariant-loop-r l = l.best ≡ least_missing l.number l.other l.r l.count
