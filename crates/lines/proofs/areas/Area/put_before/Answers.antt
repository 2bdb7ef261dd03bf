-- `Area::put_before` meets its contract. Assumes nothing.
use Rattle.trees.specs.Words.{bytes_of}
use Rattle.lines.proofs.areas.Area.put_before.Goals as goal

pub returns-then-first : goal.returns-then-first
unfolding bytes_of
returns-then-first g c = rw c.if-first.true c.put_bytes.ensures
