-- `compare` meets its contract: bytes between quotes are read as themselves. Assumes nothing.
use mathlib.Core.Path.{ap₂, ◌∙◌}
use Rattle.trees.specs.Label.{order_of}
use Rattle.trees.proofs.DecodeLaws.{read_plain}
use Rattle.trees.proofs.compare.Goals as goal

pub returns : goal.returns
returns c =
    c.compare.ensures ∙ ap₂ order_of (read_plain _) (read_plain _)
