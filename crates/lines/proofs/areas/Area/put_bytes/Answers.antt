-- `Area::put_bytes` meets its contract: the part is that of x. Assumes nothing.
use native.Mathlib.Omega.{arith}
use Rattle.lines.proofs.AreaLaws.{put_over}
use Rattle.lines.proofs.areas.Area.put_bytes.Goals as goal

pub returns : goal.returns
returns g c =
    let a = c.args in
    put_over a.self.now.bytes c.copy_from_slice.new.self a.x.now a.self.now.at _ c.copy_from_slice.ensures.after (omega arith)
    (omega (arith, c.requires))
