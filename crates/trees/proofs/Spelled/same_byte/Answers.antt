-- `Spelled::same_byte` meets its contract. Assumes nothing.
use mathlib.Core.Path.{sym}
use borrow.Author.Tests.{eq-eqb}
use Rattle.trees.proofs.DecodeLaws.{byte_alike}
use Rattle.trees.proofs.Spelled.same_byte.Goals as goal

pub returns-then-x-ne-UNDERSCORE : goal.returns-then-x-ne-UNDERSCORE
returns-then-x-ne-UNDERSCORE c =
    let a = c.args in sym (eq-eqb _ _ (byte_alike a.edition a.self.quoted a.other.quoted a.x a.y c.if-x-y.true c.if-x-ne-UNDERSCORE.true))
