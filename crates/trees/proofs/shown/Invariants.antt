-- `shown` meets its contract. The loop keeps that the first i bytes of the form are written and 0 stands after them. Assumes nothing.
use mathlib.Core.Path.{◌≡◌}
use Rattle.trees.specs.Token.{token_limit}
use Rattle.trees.specs.Stored.{form_of}
use Rattle.trees.proofs.StoredLaws.{copied}
use Rattle.trees.proofs.shown.Given as goal

abbrev pub invariant-loop-i : goal.invariant-loop-i
invariant-loop-i l = l.bytes ≡ copied token_limit (form_of l.quoted l.x) l.i
