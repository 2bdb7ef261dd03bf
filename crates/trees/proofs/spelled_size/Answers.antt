-- `spelled_size` meets its contract: each byte that counts is one of the label. Assumes nothing.
use mathlib.Core.Path.{◌∙◌, ap}
use lib.ListN.{length}
use Rattle.trees.proofs.DecodeLaws.{spelling_size}
use Rattle.trees.proofs.spelled_size.Goals as goal

pub returns : goal.returns
returns c =
    ap length c.of.ensures.bytes ∙ spelling_size _
