-- `Area::put_refusal` meets its contract: the words of a refusal, one after another. Assumes nothing.
use borrow.Author.Rules.{rules}
use mathlib.Core.Path.{◌∙◌}
use native.Mathlib.Omega.{arith}
use Rattle.decimals.proofs.DecimalLaws.{decimal_short}
use Rattle.trees.specs.Words.{bytes_of}
use Rattle.lines.proofs.AreaLaws.{put_then, put_as}
use Rattle.lines.proofs.LineLaws.{refusal_parts}
use Rattle.lines.proofs.areas.Area.put_refusal.Goals as goal

pub put_bytes-requires-2 : goal.put_bytes-requires-2
put_bytes-requires-2 g c =
    (search rules, omega (arith, c.put_bytes.ensures, c.put_number.ensures, decimal_short c.from-2.result, c.requires))

pub put_number-requires-2 : goal.put_number-requires-2
put_number-requires-2 g c =
    (search rules, omega (arith, c.put_bytes.ensures, c.put_number.ensures, c.put_bytes-2.ensures, decimal_short c.from-2.result, c.requires))

pub returns : goal.returns
unfolding bytes_of
returns g c =
    put_as _ _ (refusal_parts c.args.refusal c.from-2.result c.from-3.result (c.from-2.ensures ∙ c.from.ensures) c.from-3.ensures)
    (put_then (put_then (put_then c.put_bytes.ensures c.put_number.ensures) c.put_bytes-2.ensures) c.put_number-2.ensures)
