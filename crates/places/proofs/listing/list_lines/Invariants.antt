-- `listing::list_lines` meets its contract. Assumes nothing.
use Rattle.places.specs.Marks.{marks_to, ListHolds}
use Rattle.places.proofs.listing.list_lines.Given as goal

abbrev pub invariant-loop-j : goal.invariant-loop-j
invariant-loop-j l = ListHolds l.list (marks_to l.line l.tops l.m l.j)
