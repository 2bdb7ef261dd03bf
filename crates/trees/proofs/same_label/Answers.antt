-- `same_label` meets its contract: what is compared is read of the tokens. Assumes nothing.
use mathlib.Core.Path.{◌∙◌}
use Rattle.trees.specs.Label.{same_label}
use Rattle.trees.proofs.DecodeLaws.{both_told}
use Rattle.trees.proofs.same_label.Goals as goal

pub returns : goal.returns
returns c =
    let a = c.args in c.same.ensures
    ∙ both_told a.edition same_label a.a.now a.b.now _ _ _ _ c.of.ensures.bytes c.of.ensures.quoted c.of-2.ensures.bytes c.of-2.ensures.quoted
