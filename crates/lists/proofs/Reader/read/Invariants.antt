-- `read` gives the definition's answer. The loop's invariant: from here the machine goes on to it. Assumes nothing.
use Rattle.lists.proofs.ReaderLoop.{Going}
use Rattle.lists.proofs.Reader.read.Given as goal

abbrev pub invariant-loop-at : goal.invariant-loop-at
invariant-loop-at l = Going l.initial.self l.self l.mode l.at
