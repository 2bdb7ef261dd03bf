-- `job::label_in` meets its contract. Assumes nothing.
use mathlib.Core.Path.{refl}
use Rattle.job.specs.Answered.{moved_label}
use Rattle.job.proofs.label_in.Goals as goal

pub returns : goal.returns
unfolding moved_label
returns c = refl
