-- `Spelled::same_by` meets its contract: lengths, last bytes, then all. Assumes nothing.
use mathlib.Core.Path.{refl, sym, ◌∙◌}
use native.Mathlib.Omega.{arith}
use Rattle.trees.proofs.DecodeLaws.{read_lengths, read_differ, read_same}
use Rattle.trees.proofs.Spelled.same_by.Goals as goal

pub returns-then-n-b : goal.returns-then-n-b
returns-then-n-b c =
    let a = c.args in sym (read_lengths a.edition a.self.quoted a.other.quoted a.self.bytes.now a.other.bytes.now c.if-n-b.true)

pub returns-then-n-eq0 : goal.returns-then-n-eq0
returns-then-n-eq0 c =
    let a = c.args in read_same a.edition a.self.quoted a.other.quoted a.self.bytes.now a.other.bytes.now 0 refl (omega arith) (omega arith)

pub returns-then-decode : goal.returns-then-decode
returns-then-decode c =
    let a = c.args in let x = c.decode.ensures in let y = c.decode-2.ensures in sym (read_differ a.edition a.self.quoted a.other.quoted a.self.bytes.now a.other.bytes.now _ (omega arith) (omega arith) (λ e. c.if-decode.true (x ∙ e ∙ sym y)))
