-- The outcome of the test of two labels. Assumes nothing.
use Rattle.std.proofs.Common.{sym, ◌∙◌, ap, ap₂}
use Rattle.trees.specs.Label.{label_less}
use Rattle.trees.specs.Token.{Token, spelling}
use Rattle.triples.specs.Loops.{label_in}
use Rattle.trees.specs.Edition.{in_edition}
use Rattle.trees.proofs.FoldLaws.{fold_part}
use Rattle.triples.proofs.before.Goals as goal

pub returns : goal.returns
unfolding label_in
returns c =
    let a = c.args in
    c.comes_before.ensures ∙ sym (ap₂ (λ (x y : Token). label_less (spelling x) (spelling y))
    (fold_part a.edition _ _ a.list.now ∙ ap (in_edition a.edition) (sym c.leaf_label.ensures))
    (fold_part a.edition _ _ a.list.now ∙ ap (in_edition a.edition) (sym c.leaf_label-2.ensures)))
