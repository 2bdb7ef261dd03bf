-- `fold` meets its contract, edition by edition. Assumes nothing.
use mathlib.Core.Path.{sym, ap, ◌∙◌}
use Rattle.trees.specs.Edition.{fold_byte}
use Rattle.trees.proofs.FoldLaws.{fold_one, fold_lower}
use Rattle.trees.proofs.fold.Goals as goal

pub returns-in-One : goal.returns-in-One
returns-in-One c = fold_one _ _ c.in-One.is

pub returns-in-Two : goal.returns-in-Two
returns-in-Two c = fold_lower _ _ c.to_ascii_lowercase.ensures.cases ∙ ap (λ e. fold_byte e c.args.b) (sym c.in-Two.is)
