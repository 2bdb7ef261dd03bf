-- `Query::compare` meets its contract. Assumes nothing.
use mathlib.Core.Path.{sym, ◌∙◌, ap}
use Rattle.std.proofs.lemmas.Result.{err_from_is_err_and}
use Rattle.mast.specs.Compare.{compared_of}
use Rattle.mast.proofs.SettleLaws.{lists_denied, lists_found}
use Rattle.mast.proofs.query.Query.compare.Goals as goal

pub returns-in_err-settled : goal.returns-in_err-settled
returns-in_err-settled c =
    λ b l k.
    let r = err_from_is_err_and c.from_residual.result c.from_residual.ensures.1 in
    rw (r.1, r.2) (lists_denied _ b.s b.t l.xs k.xs _ (c.in_err-settled.ensures b l))

pub returns : goal.returns
returns c =
    λ b l k.
    let a = c.in_ok-settled.ensures b l in
    c.beside.ensures b l k a ∙ ap compared_of (sym (lists_found _ b.s b.t l.xs k.xs _ a.set))
