-- `compare` meets its contract. Assumes nothing.
use mathlib.Core.Path.{◌∙◌, sym, ap}
use Rattle.std.proofs.lemmas.Result.{err_from_is_err_and}
use Rattle.mast.specs.Compare.{compared_of}
use Rattle.mast.proofs.DeniedLaws.{refused_result}
use Rattle.mast.proofs.WayLaws.{compare_stopped, compare_unlisted, compare_unclaimed, compare_listed}
use Rattle.mast.proofs.compare.Goals as goal

pub returns-in_err-pair : goal.returns-in_err-pair
returns-in_err-pair c =
    let a = c.args in
    let r = err_from_is_err_and c.from_residual.result c.from_residual.ensures.1 in
    rw (r.1, r.2) (refused_result _ _ _ (compare_stopped _ a.other.now _ c.in_err-pair.ensures))

pub returns-in_err-listed : goal.returns-in_err-listed
returns-in_err-listed c =
    let a = c.args in
    let p = c.in_ok-pair.ensures in
    let r = err_from_is_err_and c.from_residual-in_err-listed.result c.from_residual-in_err-listed.ensures.1 in
    rw (r.1, r.2) (refused_result _ _ _ (compare_unlisted _ a.other.now _ p.1 _ c.in_err-listed.ensures))

pub returns-in_err-further : goal.returns-in_err-further
returns-in_err-further c =
    let a = c.args in
    let p = c.in_ok-pair.ensures in
    let list = c.in_ok-listed.ensures in
    let r = err_from_is_err_and c.from_residual-in_err-further.result c.from_residual-in_err-further.ensures.1 in
    rw (r.1, r.2) (refused_result _ _ _ (compare_unclaimed _ a.other.now _ p.1 _ list.1 _ c.in_err-further.ensures))

pub returns : goal.returns
returns c =
    let a = c.args in
    let p = c.in_ok-pair.ensures in
    let list = c.in_ok-listed.ensures in
    let further = c.in_ok-further.ensures in
    c.compare.ensures p.0 list.0 further.0
    ∙ ap compared_of (sym (compare_listed _ a.other.now _ p.1 _ list.1 _ further.1))
