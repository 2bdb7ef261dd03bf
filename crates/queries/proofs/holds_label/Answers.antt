-- `queries::holds_label` meets its contract. Assumes nothing.
use mathlib.Core.Path.{◌∙◌, ap}
use Rattle.std.specs.Prelude.{is_some}
use Rattle.queries.proofs.LookupLaws.{search_some}
use Rattle.queries.proofs.holds_label.Goals as goal

pub returns : goal.returns
returns c =
    λ t o. c.is_some.ensures ∙ ap is_some c.find_leaf.ensures ∙ search_some o _
