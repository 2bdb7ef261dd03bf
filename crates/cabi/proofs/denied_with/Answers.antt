-- `cabi::denied_with` meets its contract: case by case. Assumes nothing.
use mathlib.Core.Path.{◌∙◌, sym, ap}
use Rattle.cabi.specs.Numbers.{denied_with}
use Rattle.cabi.proofs.denied_with.Goals as goal

pub returns-in-Naming : goal.returns-in-Naming
returns-in-Naming c = c.named_with.ensures ∙ ap denied_with (sym c.in-Naming.is)

pub returns-in-Refused : goal.returns-in-Refused
returns-in-Refused c = c.refused_with.ensures ∙ ap denied_with (sym c.in-Refused.is)
