-- `stored_leaf` meets its contract: what is stored is read of the part of the text that shows the leaf. Assumes nothing.
use mathlib.Core.Path.{sym, ap, ◌∙◌}
use Rattle.trees.specs.Edition.{in_edition}
use Rattle.trees.specs.Stored.{stored_of}
use Rattle.trees.specs.Token.{Token, spelling}
use Rattle.trees.proofs.FoldLaws.{fold_part}
use Rattle.trees.proofs.stored_leaf.Goals as goal

pub returns : goal.returns
returns c =
    let a = c.args in c.stored.ensures
    ∙ ap (λ (x : Token). stored_of (spelling x)) (ap (in_edition a.edition) c.leaf_label.ensures ∙ sym (fold_part a.edition _ _ a.text.now))
