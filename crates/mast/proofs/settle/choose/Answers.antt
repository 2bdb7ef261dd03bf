-- `settle::choose` meets its contract. Assumes nothing.
use mathlib.Core.Path.{refl, sym, ◌∙◌}
use Rattle.queries.specs.Query.{answer_to}
use Rattle.mast.proofs.SettleLaws.{posed_asked, eight_named, eight_found, set_found}
use Rattle.mast.proofs.settle.choose.Goals as goal

pub returns-in-Some : goal.returns-in-Some
unfolding answer_to
returns-in-Some c =
    λ e s t xs h.
    let k = c.largest_set-answer.ensures.solved _ _ _ (posed_asked e s t xs h c.rank_leaves.ensures c.rank_leaves-2.ensures) in
    (set_found e s t xs _ (k.set _ c.in-Some.is), k.count _ c.in-Some.is)

pub unwrap-named-requires : goal.unwrap-named-requires
unfolding answer_to
unwrap-named-requires c =
    let w = c.requires in
    let k = (c.largest_set-answer.ensures.solved _ _ _ (posed_asked w.e w.s w.t w.xs w.of c.rank_leaves.ensures c.rank_leaves-2.ensures)
    ).disagreement c.in_default.is in
    rw ((eight_found w.e w.s w.t w.xs _ k.0 k.1 k.2 k.3 (c.clash_in.ensures _ _ _ _ w.of))) refl

pub returns : goal.returns
unfolding answer_to
returns c =
    λ e s t xs h.
    let k = (c.largest_set-answer.ensures.solved _ _ _ (posed_asked e s t xs h c.rank_leaves.ensures c.rank_leaves-2.ensures)
    ).disagreement c.in_default.is in
    rw c.disagreement.ensures
    (eight_named e s t xs _ k.0 k.1 k.2 k.3
    (sym c.unwrap-named.ensures ∙ eight_found e s t xs _ k.0 k.1 k.2 k.3 (c.clash_in.ensures e s t xs h)))
