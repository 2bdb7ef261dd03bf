-- `Spelled::compare_by`: the rests from place i on compare as the wholes do. Assumes nothing.
use Rattle.trees.proofs.DecodeLaws.{OrderFrom}
use Rattle.trees.proofs.Spelled.compare_by.Given as goal

abbrev pub invariant-loop-i : goal.invariant-loop-i
invariant-loop-i l = OrderFrom l.edition l.self.quoted l.other.quoted l.a l.b l.i
