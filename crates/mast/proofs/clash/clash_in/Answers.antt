-- `clash::clash_in` meets its contract. Assumes nothing.
use mathlib.Core.Path.{◌∙◌}
use Rattle.trees.specs.Edition.{folded}
use Rattle.lists.specs.ReadList.{folded_list}
use Rattle.queries.specs.Query.{answer_to}
use Rattle.mast.proofs.ClashLaws.{none_clash, some_clash, named, first_named, second_named, third_named}
use Rattle.mast.proofs.SettleLaws.{clash_none, clash_some, named_trio}
use Rattle.mast.proofs.clash.clash_in.Goals as goal

pub returns-in_err-three : goal.returns-in_err-three
unfolding answer_to
returns-in_err-three c =
    λ e s t xs h.
    let g = c.gather-ranks.ensures in let z = none_clash (folded e s) (folded e t) (folded_list e xs) _ _ _ _ _ h _ g.by_rank _ _ _
    g.first g.second c.first_clash.ensures.value c.in_err-three.was in
    rw c.from_residual.ensures (clash_none e s t xs z.0 z.1)

pub named_three-requires : goal.named_three-requires
named_three-requires c =
    let g = c.gather-ranks.ensures in let h = c.requires in let one = first_named (folded h.e h.s) (folded h.e h.t) (folded_list h.e h.xs) _ _ _ _ _ h.of _ g.by_rank _ _ _ g.first g.second c.first_clash.ensures.value
    _ c.in_ok-three.was in
    let two = second_named (folded h.e h.s) (folded h.e h.t) (folded_list h.e h.xs) _ _ _ _ _ h.of _ g.by_rank _ _ _ g.first g.second c.first_clash.ensures.value
    _ c.in_ok-three.was in
    let three = third_named (folded h.e h.s) (folded h.e h.t) (folded_list h.e h.xs) _ _ _ _ _ h.of _ g.by_rank _ _ _ g.first g.second c.first_clash.ensures.value
    _ c.in_ok-three.was in
    (one.0, two.0, three.0)

pub returns : goal.returns
unfolding answer_to
returns c =
    λ e s t xs h.
    let g = c.gather-ranks.ensures in let three = (some_clash (folded e s) (folded e t) (folded_list e xs) _ _ _ _ _ h _ g.by_rank _ _ _
    g.first g.second c.first_clash.ensures.value _ c.in_ok-three.was).0 in
    let x = first_named (folded e s) (folded e t) (folded_list e xs) _ _ _ _ _ h _ g.by_rank _ _ _
    g.first g.second c.first_clash.ensures.value _ c.in_ok-three.was in
    let y = second_named (folded e s) (folded e t) (folded_list e xs) _ _ _ _ _ h _ g.by_rank _ _ _
    g.first g.second c.first_clash.ensures.value _ c.in_ok-three.was in
    let z = third_named (folded e s) (folded e t) (folded_list e xs) _ _ _ _ _ h _ g.by_rank _ _ _
    g.first g.second c.first_clash.ensures.value _ c.in_ok-three.was in
    clash_some e s t xs _ three.one three.two three.three
    (named (folded e s) (folded e t) (folded_list e xs) _ _ _ _ _ h _ g.by_rank _ _ _
    g.first g.second c.first_clash.ensures.value _ c.in_ok-three.was)
    (c.named_three.ensures ∙ named_trio e s xs three.one three.two three.three _ _ _ x.1 y.1 z.1)
