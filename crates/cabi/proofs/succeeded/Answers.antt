-- `cabi::succeeded` meets its contract. Assumes nothing.
use Rattle.cabi.specs.Numbers as numbers
use mathlib.Core.Path.{refl}
use Rattle.cabi.proofs.succeeded.Goals as goal

pub returns : goal.returns
unfolding numbers.succeeded
returns c =
    refl
