-- `beside::lacked_label` meets its contract. Assumes nothing.
use mathlib.Core.Path.{refl, ◌∙◌, ap}
use Rattle.std.specs.Prelude.{Some}
use Rattle.mast.proofs.MissingLaws.{lacked_none, lacked_some}
use Rattle.mast.proofs.beside.lacked_label.Goals as goal

pub returns-in_err-k : goal.returns-in_err-k
returns-in_err-k c = rw c.from_residual.ensures (lacked_none c.args.places _ c.in_err-k.ensures)

pub returns : goal.returns
returns c = ap Some (c.entry.ensures.value 0 refl) ∙ lacked_some c.args.places _ _ c.in_ok-k.ensures
