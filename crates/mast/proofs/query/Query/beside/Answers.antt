-- `Query::beside` meets its contract. Assumes nothing.
use mathlib.Core.Path.{◌∙◌}
use lib.ListN.{length-map}
use Rattle.std.proofs.lemmas.Result.{err_from_is_err_and}
use Rattle.mast.proofs.MissingLaws.{missing_asked}
use Rattle.mast.proofs.SettleLaws.{other_lacking, other_compared}
use Rattle.mast.proofs.query.Query.beside.Goals as goal

pub returns-in_err-claimed : goal.returns-in_err-claimed
returns-in_err-claimed c =
    λ b l k a.
    let r = err_from_is_err_and c.from_residual.result c.from_residual.ensures.1 in
    rw (r.1, r.2) (other_lacking _ b.s l.xs k.xs _ _ _ (c.in_err-claimed.ensures b k))

pub clash_in-requires : goal.clash_in-requires
clash_in-requires c =
    let p = c.requires in record { e = _; s = _; t = _; xs = _; of = c.in_ok-claimed.ensures p.0 p.1 }

pub returns : goal.returns
returns c =
    λ b l k a.
    let d = c.in_ok-claimed.ensures b k in
    other_compared _ b.s l.xs k.xs _ b.t _ (c.clash_in.ensures _ b.s b.t k.xs d) _ _ _ a.count
    (k.own_list.count_is ∙ length-map k.xs _) (c.lacked_label.ensures ∙ missing_asked _ b.s b.t l.xs k.xs a.asked d)
