-- What the loops give, handed to the laws of Composed. Assumes nothing.
use Rattle.std.proofs.lemmas.Result.{err_from_is_err_and}
use Rattle.triples.proofs.Composed.{lacked, compared_verdict}
use Rattle.triples.proofs.compared.Goals as goal

pub returns-in_err-lacking : goal.returns-in_err-lacking
returns-in_err-lacking c =
    λ s t xs g.
    let r = err_from_is_err_and c.from_residual.result c.from_residual.ensures.1 in
    rw (r.1, r.2)
    (lacked s t xs _ _ _ _ _ _ g _ _ c.list_leaves-leaf1.ensures c.list_leaves-leaf2.ensures _ c.lacking.ensures _ c.in_err-lacking.was)

pub returns : goal.returns
returns c =
    λ s t xs g.
    compared_verdict s t xs _ _ _ _ _ _ g _ _ c.list_leaves-leaf1.ensures c.list_leaves-leaf2.ensures _ c.lacking.ensures
    c.in_ok-lacking.was c.label_order-order.result c.ranked.result c.ranked-2.result c.label_order-order.ensures.in_order
    c.ranked.ensures c.ranked-2.ensures c.requires c.first_clash-three.result c.first_clash-three.ensures.value _ c.told.ensures
