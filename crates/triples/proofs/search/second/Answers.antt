-- The invariant: the search from here on finds what the search of all later ranks finds. Assumes nothing.
use Rattle.std.proofs.Common.{ltb, refl, sym, ◌∙◌, arith}
use Rattle.leaves.proofs.FindLaws.{from_hit, from_miss, from_end}
use Rattle.triples.specs.Loops.{third_of, second_of}
use Rattle.triples.proofs.ClashSearch.{below_at, below_end}
use Rattle.triples.proofs.search.second.Goals as goal

pub loop-j-init : goal.loop-j-init
unfolding second_of
loop-j-init c = λ clash t. refl

pub returns-then-any_apart-clause-value : goal.returns-then-any_apart-clause-value
returns-then-any_apart-clause-value c =
    let a = c.args in λ clash t.
    below_at _ _ _ (omega arith)
    (sym (from_hit (λ k. ltb (third_of clash a.count k) a.count) a.count c.loop-j.j
    (sym (c.any_apart.ensures clash a.i (omega arith) t) ∙ c.if-any_apart.true))
    ∙ c.loop-j.invariant clash t)

pub loop-j-preserved : goal.loop-j-preserved
loop-j-preserved c =
    let a = c.args in λ clash t.
    sym (from_miss (λ k. ltb (third_of clash a.count k) a.count) a.count c.loop-j.j c.loop-j-test.true
    (sym (c.any_apart.ensures clash a.i (omega arith) t) ∙ c.if-any_apart.false))
    ∙ c.loop-j.invariant clash t

pub returns-clause-value : goal.returns-clause-value
returns-clause-value c =
    λ clash t. below_end _ _ _ (omega arith) (sym (from_end _ _ _ (omega arith)) ∙ c.loop-j.invariant clash t)
