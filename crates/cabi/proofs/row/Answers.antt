-- `cabi::row` meets its contract. Assumes nothing.
use Rattle.cabi.specs.Numbers.{naming_with}
use mathlib.Core.Path.{refl}
use Rattle.cabi.proofs.row.Goals as goal

pub returns : goal.returns
unfolding naming_with
returns c =
    rw (c.from-number.ensures, c.from.ensures, c.from-letter.ensures, c.from-2.ensures) refl
