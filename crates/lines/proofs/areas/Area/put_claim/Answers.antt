-- `Area::put_claim` meets its contract: the words, the size and a line end. Assumes nothing.
use borrow.Author.Rules.{rules}
use native.Mathlib.Omega.{arith}
use Rattle.decimals.proofs.DecimalLaws.{decimal_short}
use Rattle.trees.specs.Words.{bytes_of}
use Rattle.lines.proofs.AreaLaws.{put_then, put_as}
use Rattle.lines.proofs.LineLaws.{claim_parts}
use Rattle.lines.proofs.areas.Area.put_claim.Goals as goal

pub put_byte-requires : goal.put_byte-requires
put_byte-requires g c =
    (search rules, omega (arith, c.put_bytes.ensures, c.put_number.ensures, decimal_short c.args.size, c.requires))

pub returns : goal.returns
unfolding bytes_of
returns g c =
    put_as _ _ (claim_parts c.args.size) (put_then (put_then c.put_bytes.ensures c.put_number.ensures) c.put_byte.ensures)
