-- `judge` meets its contract. Assumes nothing.
use mathlib.Core.Path.{◌∙◌, sym, ap}
use Rattle.std.proofs.lemmas.Result.{err_from_is_err_and}
use Rattle.pairs.specs.Outcome.{and_then}
use Rattle.mast.specs.Compare.{compared_parts}
use Rattle.mast.proofs.DeniedLaws.{result_ok, result_err}
use Rattle.claims.specs.Judge.{verdict_on, judge, claim_of}
use Rattle.claims.proofs.judge.Goals as goal

pub returns-in_err-compared : goal.returns-in_err-compared
unfolding judge
returns-in_err-compared c =
    let r = err_from_is_err_and c.from_residual.result c.from_residual.ensures.1 in
    rw (r.1, r.2) (result_err compared_parts _ verdict_on _ _ c.in_err-compared.ensures)

pub returns : goal.returns
unfolding judge and_then
returns c =
    let w = result_ok compared_parts _ _ c.in_ok-compared.ensures in
    c.verdict.ensures w.0 w.2 ∙ ap (λ x. claim_of (and_then x verdict_on)) (sym w.1)
