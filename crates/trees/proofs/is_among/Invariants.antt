-- `is_among`: the loop's count is the definition's. Assumes nothing.
use mathlib.Core.Path.{◌≡◌}
use Rattle.trees.specs.Stored.{is_among}
use Rattle.trees.specs.Edition.{in_edition}
use Rattle.trees.proofs.is_among.Given as goal

abbrev pub invariant-loop-u : goal.invariant-loop-u
invariant-loop-u l = is_among (in_edition l.edition l.text) l.start l.size l.u (in_edition l.edition l.token) ≡ is_among (in_edition l.edition l.text) l.start l.size l.count (in_edition l.edition l.token)
