-- By the two searches. Assumes nothing.
use Rattle.std.proofs.Common.{sym, ◌∙◌}
use Rattle.triples.proofs.ClashSearch.{some_later, second_none, third_some, three_told}
use Rattle.triples.proofs.search.clash_with.Goals as goal

pub returns-in_err-j : goal.returns-in_err-j
returns-in_err-j c =
    λ clash t. c.from_residual.ensures ∙ second_none clash _ _ (sym c.in_err-j.was ∙ c.second.ensures.value clash t)

pub returns-in_err-k : goal.returns-in_err-k
returns-in_err-k c =
    λ clash t.
    let e = sym c.in_ok-j.was ∙ c.second.ensures.value clash t in
    absurd (third_some clash _ _ _ e (sym c.in_err-k.was ∙ c.third.ensures clash _ (some_later clash _ _ _ e) t))

pub returns : goal.returns
returns c =
    λ clash t.
    let e = sym c.in_ok-j.was ∙ c.second.ensures.value clash t in
    three_told clash _ _ _ _ e (sym c.in_ok-k.was ∙ c.third.ensures clash _ (some_later clash _ _ _ e) t)
