-- `job::named_in` meets its contract. Assumes nothing.
use mathlib.Core.Path.{refl}
use Rattle.job.specs.Answered.{moved_by}
use Rattle.job.proofs.named_in.Goals as goal

pub returns : goal.returns
unfolding moved_by
returns c = rw (c.label_in.ensures, c.label_in-2.ensures, c.label_in-3.ensures) refl
