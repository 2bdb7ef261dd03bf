-- `queries::rank_in` meets its contract. Assumes nothing.
use Prim.Native.Nat.{◌<◌}
use mathlib.Core.Path.{◌≡◌, sym, ◌∙◌}
use mathlib.Core.List.{[]}
use lib.ListN.{length, get_or}
use native.Mathlib.Omega.{arith}
use Rattle.trees.specs.Edition.{key}
use Rattle.trees.proofs.EntryLaws.{below_next}
use Rattle.queries.proofs.LookupLaws.{label_read, rank_here, not_here, rank_missing}
use Rattle.queries.proofs.rank_in.Goals as goal

pub returns-then-same_label-clause-found_rank : goal.returns-then-same_label-clause-found_rank
returns-then-same_label-clause-found_rank c =
    let a = c.args in
    λ s C o e n.
    let h : c.loop-r.r < length C = omega arith in
    rank_here o C a.order1.now n (key a.edition a.token.now) c.loop-r.r h
    (label_read a.edition a.text1.now a.token.now a.tree1.now.start a.tree1.now.size (get_or a.order1.now c.loop-r.r 0) (rw c.from.ensures at c.leaf_label-label.ensures)
    ∙ sym c.same_label.ensures ∙ c.if-same_label.true)

pub loop-r-preserved : goal.loop-r-preserved
loop-r-preserved c =
    let a = c.args in
    λ s C o e n.
    let h : c.loop-r.r < length C = omega arith in
    below_next (λ q. get_or C q [] ≡ key a.edition a.token.now → ⊥) c.loop-r.r (c.loop-r.invariant s C o e n)
    (not_here o C a.order1.now n (key a.edition a.token.now) c.loop-r.r h
    (label_read a.edition a.text1.now a.token.now a.tree1.now.start a.tree1.now.size (get_or a.order1.now c.loop-r.r 0) (rw c.from.ensures at c.leaf_label-label.ensures)
    ∙ sym c.same_label.ensures ∙ c.if-same_label.false))

pub returns-clause-found_rank : goal.returns-clause-found_rank
returns-clause-found_rank c = λ s C o e n. rank_missing C _ (λ q h. c.loop-r.invariant s C o e n q (omega arith))
