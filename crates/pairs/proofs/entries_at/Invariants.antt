-- `entries_at` meets its contract. Assumes nothing.
use Rattle.pairs.proofs.RankLaws.{EntriesTo}
use Rattle.pairs.proofs.entries_at.Given as goal

abbrev pub invariant-loop-i : goal.invariant-loop-i
invariant-loop-i l = EntriesTo l.i l.places l.values l.found
