-- `lines::areas::label_in` meets its contract: what is kept of the part is short, so its written form is shown whole. Assumes nothing.
use mathlib.Core.Path.{◌∙◌, ap}
use Rattle.trees.proofs.FoldLaws.{one_itself}
use Rattle.trees.specs.Stored.{stored_of, stored_bytes, shown_of, shown_bytes}
use Rattle.trees.specs.Token.{Token, spelling}
use Rattle.lines.proofs.AreaLaws.{shown_part}
use Rattle.lines.proofs.areas.label_in.Goals as goal

pub returns : goal.returns
returns c =
    let a = c.args in let e = c.part.ensures in let f = c.stored.ensures ∙ ap (λ (l : Token). stored_of (spelling l)) (one_itself c.part.result.now ∙ e) in
    ap shown_bytes (c.shown.ensures ∙ ap (λ l. shown_of (stored_bytes l)) f) ∙ shown_part a.text.now a.start a.size
