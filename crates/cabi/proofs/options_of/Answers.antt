-- `cabi::options_of` meets its contract. Assumes nothing.
use mathlib.Core.Path.{sym}
use native.Mathlib.Omega.{arith}
use Rattle.cabi.proofs.HostLaws.{unknown, flags_first, flags_second}
use Rattle.cabi.proofs.options_of.Goals as goal

pub returns-then-flags : goal.returns-then-flags
returns-then-flags c = sym (unknown c.args.flags (omega arith))

pub returns-then-flags-lt-EDITION_2 : goal.returns-then-flags-lt-EDITION_2
returns-then-flags-lt-EDITION_2 c = flags_first c.args.flags (omega arith)

pub returns : goal.returns
returns c = flags_second c.args.flags (omega arith) (omega arith)
