-- `Spelled::of` meets its contract: the first byte tells. Assumes nothing.
use mathlib.Core.Path.{sym, ap, ◌∙◌}
use Rattle.trees.proofs.DecodeLaws.{quote_starts, inner_bare, inner_cut}
use Rattle.trees.proofs.Spelled.of.Goals.{then-quoted, else-quoted}
use Rattle.trees.proofs.Spelled.of.Goals as goal

pub returns-clause-quoted : goal.returns-clause-quoted
returns-clause-quoted c = c.starts_with-quoted.ensures.value ∙ quote_starts _

pub returns-clause-bytes : goal.returns-clause-bytes
returns-clause-bytes c =
    let x = c.args.token.now in let told = sym (c.starts_with-quoted.ensures.value ∙ quote_starts x) in
    elim c.if-quoted.branch [
      | then-quoted w ↦ ap (λ y. y.now) w.bytes-is ∙ inner_cut x _ (told ∙ w.if-quoted.true) w.max.ensures
      | else-quoted w ↦ ap (λ y. y.now) w.bytes-is ∙ inner_bare x (told ∙ w.if-quoted.false)
    ]
