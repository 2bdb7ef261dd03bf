-- `stored` meets its contract. The loop keeps that the first i bytes are copied and 0 stands after them. Assumes nothing.
use mathlib.Core.Path.{◌≡◌}
use Rattle.trees.specs.Label.{label_limit}
use Rattle.trees.specs.Stored.{read_as}
use Rattle.trees.proofs.StoredLaws.{copied}
use Rattle.trees.proofs.stored.Given as goal

abbrev pub invariant-loop-i : goal.invariant-loop-i
invariant-loop-i l = l.bytes ≡ copied label_limit (read_as l.edition l.x.quoted l.x.bytes.now) l.i
