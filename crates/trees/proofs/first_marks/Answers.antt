-- `first_marks` meets its contract. Assumes nothing.
use mathlib.Core.Path.{refl}
use Rattle.trees.specs.Slots.{first_marks}
use Rattle.trees.proofs.first_marks.Goals as goal

pub returns : goal.returns
unfolding first_marks
returns c = refl
