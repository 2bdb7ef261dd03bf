-- `agree_largest_with` meets its contract. Assumes nothing.
use mathlib.Core.Path.{◌∙◌, sym, ap}
use lib.ListN.{length}
use Rattle.pairs.specs.Outcome.{Outcome}
use Rattle.mast.specs.Largest.{Solution, output_of}
use Rattle.cabi.specs.Numbers.{numbers_of}
use Rattle.cabi.proofs.HostLaws.{flags_denied, flags_known}
use Rattle.cabi.proofs.agree_largest_with.Goals as goal

pub returns-in-Err-clause-numbers : goal.returns-in-Err-clause-numbers
unfolding numbers_of
returns-in-Err-clause-numbers c =
    let a = c.args in let e = flags_denied a.flags a.first.now a.second.now a.required.now (length a.out.now) _ c.in-Err.ensures in
    c.refused_with.ensures ∙ ap numbers_of (sym e)

pub returns-in-Err-clause-output : goal.returns-in-Err-clause-output
unfolding output_of
returns-in-Err-clause-output c =
    let a = c.args in let e = flags_denied a.flags a.first.now a.second.now a.required.now (length a.out.now) _ c.in-Err.ensures in
    ap (λ (x : Outcome Solution). output_of x a.out.now) (sym e)

pub returns-clause-numbers : goal.returns-clause-numbers
returns-clause-numbers c =
    let a = c.args in let e = flags_known a.flags a.first.now a.second.now a.required.now (length a.out.now) _ c.in-Ok.ensures in
    c.answered.ensures.numbers ∙ ap numbers_of (sym e)

pub returns-clause-output : goal.returns-clause-output
returns-clause-output c =
    let a = c.args in let e = flags_known a.flags a.first.now a.second.now a.required.now (length a.out.now) _ c.in-Ok.ensures in
    c.answered.ensures.output ∙ ap (λ (x : Outcome Solution). output_of x a.out.now) (sym e)
