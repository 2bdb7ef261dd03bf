-- `Spelled::decode` meets its contract: only an underscore is told apart. Assumes nothing.
use Rattle.trees.proofs.DecodeLaws.{byte_plain, byte_under, byte_blank}
use Rattle.trees.proofs.Spelled.decode.Goals as goal

pub returns-then-c-ne-UNDERSCORE : goal.returns-then-c-ne-UNDERSCORE
returns-then-c-ne-UNDERSCORE c =
    let a = c.args in byte_plain a.edition a.self.quoted a.b _ c.fold-c.ensures c.if-c-ne-UNDERSCORE.true

pub returns-then-self : goal.returns-then-self
returns-then-self c =
    let a = c.args in byte_under a.edition a.self.quoted a.b _ c.fold-c.ensures c.if-c-ne-UNDERSCORE.false c.if-self.true

pub returns-else-self : goal.returns-else-self
returns-else-self c =
    let a = c.args in byte_blank a.edition a.self.quoted a.b _ c.fold-c.ensures c.if-c-ne-UNDERSCORE.false c.if-self.false
