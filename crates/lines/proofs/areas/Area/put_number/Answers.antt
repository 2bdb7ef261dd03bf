-- `Area::put_number` meets its contract: a number has at most twenty digits. Assumes nothing.
use mathlib.Core.Path.{◌∙◌}
use Rattle.decimals.specs.Numeral.{numeral_bytes}
use Rattle.lines.proofs.AreaLaws.{put_as}
use Rattle.lines.proofs.areas.Area.put_number.Goals as goal

pub returns : goal.returns
unfolding numeral_bytes
returns g c = put_as _ _ (c.as_slice.ensures ∙ c.digits-numeral.ensures.digits) c.put_bytes.ensures
