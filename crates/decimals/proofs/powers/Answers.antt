-- `powers` meets its contract: the numbers are the powers. Assumes nothing.
use mathlib.Core.Path.{refl}
use Rattle.decimals.specs.Numeral.{ten_powers}
use Rattle.decimals.proofs.powers.Goals as goal

pub returns : goal.returns
unfolding ten_powers
returns c = refl
