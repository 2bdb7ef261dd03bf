-- The invariant: some rank is found, here or later, exactly if the search finds one. Assumes nothing.
use Rattle.std.proofs.Common.{◌-◌, ◌+◌, Bool, ◌||◌, ltb, refl, sym, ◌∙◌, ap, arith}
use Rattle.leaves.specs.Find.{leaf_from}
use Rattle.triples.specs.Loops.{third_of}
use Rattle.triples.proofs.SpanLaws.{some_step, some_end, or_assoc, or-false}
use Rattle.triples.proofs.search.any_apart.Goals as goal

pub loop-k-init : goal.loop-k-init
unfolding third_of
loop-k-init c = λ clash i h t. refl

pub loop-k-preserved : goal.loop-k-preserved
loop-k-preserved c =
    let k = c.loop-k.k in let a = c.args in
    λ clash i h t. c.loop-k.invariant clash i h t
    ∙ ap (λ (b : Bool). c.loop-k.found || b) (some_step (clash a.j) a.count k (omega arith))
    ∙ ap (λ (b : Bool). c.loop-k.found || (b || ltb (leaf_from (clash a.j) (a.count - (k + 1)) (k + 1)) a.count))
    (t a.j k h (omega arith) (omega arith) ∙ sym c.apart-found.ensures)
    ∙ or_assoc c.loop-k.found c.apart-found.result
    (ltb (leaf_from (clash a.j) (a.count - (k + 1)) (k + 1)) a.count)

pub returns : goal.returns
returns c =
    λ clash i h t. sym (c.loop-k.invariant clash i h t ∙ ap (λ (b : Bool). c.loop-k.found || b) (some_end _ _ _ (omega arith)) ∙ or-false _)
