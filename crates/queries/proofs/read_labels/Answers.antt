-- `queries::read_labels` meets its contract. Assumes nothing.
use Rattle.std.proofs.lemmas.Result.{err_from_is_err_and}
use Rattle.queries.proofs.ReadLaws.{listed_stopped, listed_clear}
use Rattle.queries.proofs.read_labels.Goals as goal

pub returns-in_err-read : goal.returns-in_err-read
returns-in_err-read c =
    let a = c.args in let r = err_from_is_err_and c.from_residual.result c.from_residual.ensures.1 in
    rw (r.1, r.2) (listed_stopped a.edition a.body a.text.now _ c.read_list-read.ensures _ c.in_err-read.was)

pub returns : goal.returns
returns c =
    let a = c.args in listed_clear a.edition a.body a.text.now _ c.read_list-read.ensures _ c.in_ok-read.was
