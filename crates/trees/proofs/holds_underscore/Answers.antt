-- `holds_underscore` meets its contract. Assumes nothing.
use mathlib.Core.Path.{◌∙◌}
use Rattle.trees.proofs.DecodeLaws.{under_any}
use Rattle.trees.proofs.holds_underscore.Goals as goal

pub returns : goal.returns
returns c = c.contains.ensures.value ∙ under_any _
