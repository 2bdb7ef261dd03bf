-- `comes_before` meets its contract: the comparison says less. Assumes nothing.
use mathlib.Core.Path.{ap, ◌∙◌}
use Rattle.std.specs.Ordering.{is_lt}
use Rattle.trees.specs.Label.{order_of}
use Rattle.trees.proofs.LabelLaws.{order_before}
use Rattle.trees.proofs.DecodeLaws.{both_told}
use Rattle.trees.proofs.comes_before.Goals as goal

pub returns : goal.returns
returns c =
    let a = c.args in let same = both_told a.edition order_of a.a.now a.b.now _ _ _ _ c.of.ensures.bytes c.of.ensures.quoted
    c.of-2.ensures.bytes c.of-2.ensures.quoted in
    c.is_lt.ensures ∙ ap is_lt (c.compare.ensures ∙ same) ∙ order_before _ _
