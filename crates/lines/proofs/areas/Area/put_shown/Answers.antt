-- `Area::put_shown` meets its contract. Assumes nothing.
use borrow.Author.Rules.{rules}
use Prim.Native.Nat.{ℕ}
use mathlib.Core.Path.{ap}
use native.Mathlib.Omega.{arith}
use lib.ListN.{length}
use Rattle.trees.specs.Stored.{shown_bytes}
use Rattle.lines.proofs.AreaLaws.{put_as}
use Rattle.lines.proofs.areas.Area.put_shown.Goals as goal

pub put_bytes-requires : goal.put_bytes-requires
unfolding shown_bytes
put_bytes-requires g c =
    (search rules, omega (arith, ap (length {A = ℕ}) c.as_slice.ensures, c.requires))

pub returns : goal.returns
unfolding shown_bytes
returns g c = put_as _ _ c.as_slice.ensures c.put_bytes.ensures
