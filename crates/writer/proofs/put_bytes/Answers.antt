-- `writer::put_bytes` meets its contract. Assumes nothing.
use native.Mathlib.Omega.{arith}
use Rattle.writer.proofs.WriteLaws.{copied}
use Rattle.writer.proofs.put_bytes.Goals as goal

pub returns-clause-stored : goal.returns-clause-stored
returns-clause-stored c =
    let a = c.args in copied a.x.now _ a.out.now a.at _ c.copy_from_slice.ensures.after (omega arith) (omega (arith, c.requires))
