-- `places_at` meets its contract. Assumes nothing.
use Rattle.division.specs.PiecesByRank.{EntriesOf}
use Rattle.division.proofs.places_at.Given as goal

abbrev pub invariant-loop-i : goal.invariant-loop-i
invariant-loop-i l = EntriesOf l.i l.list l.order1 l.start1 l.size1 l.items
