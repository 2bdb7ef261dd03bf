-- `Query::settle` meets its contract. Assumes nothing.
use Rattle.std.proofs.lemmas.Result.{err_from_is_err_and}
use Rattle.mast.proofs.SettleLaws.{set_lacking, chosen_denied}
use Rattle.mast.proofs.query.Query.settle.Goals as goal

pub returns-in_err-number : goal.returns-in_err-number
returns-in_err-number c =
    λ b l.
    let r = err_from_is_err_and c.from_residual.result c.from_residual.ensures.1 in
    rw (r.1, r.2) (set_lacking _ b.s b.t l.xs _ (c.in_err-number.ensures b l))

pub choose-requires : goal.choose-requires
choose-requires c =
    let p = c.requires in record { e = _; s = _; t = _; xs = _; of = c.in_ok-number.ensures p.0 p.1 }

pub returns-in_err-size : goal.returns-in_err-size
returns-in_err-size c =
    λ b l.
    let r = err_from_is_err_and c.from_residual-in_err-size.result c.from_residual-in_err-size.ensures.1 in
    rw (r.1, r.2) (chosen_denied _ b.s b.t l.xs c.choose.new.chosen _ (c.in_err-size.ensures _ b.s b.t l.xs (c.in_ok-number.ensures b l)))

pub returns : goal.returns
returns c =
    λ b l.
    let a = c.in_ok-number.ensures b l in
    let h = c.in_ok-size.ensures _ b.s b.t l.xs a in
    record { asked = a; set = h.0; count = h.1 }
