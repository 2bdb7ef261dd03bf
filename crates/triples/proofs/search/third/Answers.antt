-- The invariant: the search from here on finds what the search of all later ranks finds. Assumes nothing.
use Rattle.std.proofs.Common.{refl, sym, ◌∙◌, arith}
use Rattle.leaves.proofs.FindLaws.{from_hit, from_miss, from_end}
use Rattle.triples.specs.Loops.{third_of}
use Rattle.triples.proofs.ClashSearch.{below_at, below_end}
use Rattle.triples.proofs.search.third.Goals as goal

pub loop-k-init : goal.loop-k-init
unfolding third_of
loop-k-init c = λ clash i h t. refl

pub returns-then-apart : goal.returns-then-apart
returns-then-apart c =
    let k = c.loop-k.k in let a = c.args in λ clash i h t.
    below_at _ _ _ (omega arith)
    (sym (from_hit (clash a.j) a.count k (t a.j k h (omega arith) (omega arith) ∙ sym c.apart.ensures ∙ c.if-apart.true))
    ∙ c.loop-k.invariant clash i h t)

pub loop-k-preserved : goal.loop-k-preserved
loop-k-preserved c =
    let k = c.loop-k.k in let a = c.args in λ clash i h t.
    sym (from_miss (clash a.j) a.count k c.loop-k-test.true
    (t a.j k h (omega arith) (omega arith) ∙ sym c.apart.ensures ∙ c.if-apart.false))
    ∙ c.loop-k.invariant clash i h t

pub returns : goal.returns
returns c =
    λ clash i h t. below_end _ _ _ (omega arith) (sym (from_end _ _ _ (omega arith)) ∙ c.loop-k.invariant clash i h t)
