-- `lines::lines_of` meets its contract. Assumes nothing.
use lib.ListN.{length}
use mathlib.Core.Path.{◌≡◌}
use Rattle.places.specs.Nodes.{LinesByRank, numbers, tops}
use Rattle.places.proofs.lines.lines_of.Given as goal

abbrev pub invariant-loop-r : goal.invariant-loop-r
invariant-loop-r l = record {
  line_size : length l.line ≡ 81;
  heads_size : length l.heads ≡ 160;
  right : LinesByRank l.r l.number (numbers l.one) (numbers l.two) (tops l.one) l.line l.heads;
}
