-- `Spelled::same_all`: the rests from place i on are the same exactly if the wholes are. Assumes nothing.
use Rattle.trees.proofs.DecodeLaws.{SameFrom}
use Rattle.trees.proofs.Spelled.same_all.Given as goal

abbrev pub invariant-loop-i : goal.invariant-loop-i
invariant-loop-i l = SameFrom l.edition l.self.quoted l.other.quoted l.a l.b l.i
