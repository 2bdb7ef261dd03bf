-- The invariant: the search from rank i on finds what the search of all ranks finds. Assumes nothing.
use Rattle.std.proofs.Common.{◌≡◌, ℕ, Bool, ltb, length, get_or, Some, refl, sym, ◌∙◌, subst, arith}
use Rattle.agreement.proofs.SetLaws.{inc_distinct}
use Rattle.leaves.proofs.FindLaws.{from_hit, from_miss, from_end}
use Rattle.triples.specs.Clash.{Ranks}
use Rattle.triples.specs.Loops.{apart_of, clash_at, second_of, first_of}
use Rattle.triples.proofs.ClashSearch.{ranks_found, three_some, three_none, found_is, none_is}
use Rattle.triples.proofs.RowLaws.{rows_tell}
use Rattle.triples.proofs.first_clash.Goals as goal

pub loop-i-init : goal.loop-i-init
unfolding first_of
loop-i-init c = λ s t xs h l p q. refl

pub returns-in-Some-clause-ranks : goal.returns-in-Some-clause-ranks
returns-in-Some-clause-ranks c =
    let row1 = c.lca_row-row1.result in
    let row2 = c.lca_row-row2.result in
    let own : ℕ → ℕ → Bool = λ p q. apart_of (get_or row1 p 0) (get_or row1 q 0) (get_or row2 p 0) (get_or row2 q 0) in
    subst (λ (m : ℕ). Ranks m (Some c.in-Some.three)) c.min-most.ensures
    (ranks_found own c.min-most.result c.loop-i.i c.in-Some.three c.loop-i-test.true
    (sym c.in-Some.is ∙ c.clash_with.ensures own (λ p q _ _ _. refl)))

pub returns-in-Some-clause-value : goal.returns-in-Some-clause-value
returns-in-Some-clause-value c =
    let n = c.min-most.result in let i = c.loop-i.i in let a = c.args in
    λ s t xs inc len few p q.
    let d = inc_distinct xs inc in
    let l : n ≡ length xs = omega (arith, c.min-most.ensures) in
    let tells = rows_tell s t xs d a.one.now.left a.one.now.nodes a.one.now.leaf a.two.now.left a.two.now.nodes a.two.now.leaf p q
    c.of-lows1.result.low c.of-lows2.result.low _ _ c.of-lows1.ensures.end c.of-lows2.ensures.end c.of-lows1.ensures.each c.of-lows2.ensures.each
    n i c.lca_row-row1.result c.lca_row-row2.result l c.loop-i-test.true c.lca_row-row1.ensures c.lca_row-row2.ensures in
    let told = sym c.in-Some.is ∙ c.clash_with.ensures (clash_at s t xs i) tells in
    let first = sym (from_hit (λ k. ltb (second_of (clash_at s t xs k) n k) n) n i (three_some (clash_at s t xs i) n i c.in-Some.three told))
    ∙ c.loop-i.invariant s t xs inc l p q in
    found_is s t xs n (sym l) d i c.in-Some.three first c.loop-i-test.true told

pub loop-i-preserved : goal.loop-i-preserved
loop-i-preserved c =
    let n = c.min-most.result in let i = c.loop-i.i in let a = c.args in
    λ s t xs inc l p q.
    let tells = rows_tell s t xs (inc_distinct xs inc) a.one.now.left a.one.now.nodes a.one.now.leaf a.two.now.left a.two.now.nodes
    a.two.now.leaf p q c.of-lows1.result.low c.of-lows2.result.low _ _ c.of-lows1.ensures.end c.of-lows2.ensures.end c.of-lows1.ensures.each
    c.of-lows2.ensures.each n i c.lca_row-row1.result c.lca_row-row2.result l c.loop-i-test.true c.lca_row-row1.ensures
    c.lca_row-row2.ensures in
    sym (from_miss (λ k. ltb (second_of (clash_at s t xs k) n k) n) n i c.loop-i-test.true
    (three_none (clash_at s t xs i) n i (sym c.in_default.is ∙ c.clash_with.ensures (clash_at s t xs i) tells)))
    ∙ c.loop-i.invariant s t xs inc l p q

pub returns-clause-value : goal.returns-clause-value
returns-clause-value c =
    let n = c.min-most.result in let i = c.loop-i.i in let end : i ≡ n = omega arith in
    λ s t xs inc len few p q.
    let l : n ≡ length xs = omega (arith, c.min-most.ensures) in
    none_is s t xs n (sym l) (inc_distinct xs inc)
    (sym (c.loop-i.invariant s t xs inc l p q) ∙ from_end (λ k. ltb (second_of (clash_at s t xs k) n k) n) n i (omega arith) ∙ end)
