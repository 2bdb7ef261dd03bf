-- `agree_claim` meets its contract. Assumes nothing.
use Prim.Native.Nat.{ℕ}
use mathlib.Core.Path.{◌∙◌, sym, ap}
use Rattle.cabi.specs.Numbers.{succeeded, claim_numbers}
use Rattle.cabi.proofs.HostLaws.{claim_flags_denied, claim_flags_known}
use Rattle.cabi.proofs.NumberLaws.{told_numbers_lem}
use Rattle.cabi.proofs.agree_claim.Goals as goal

pub returns-in-Err : goal.returns-in-Err
unfolding claim_numbers
returns-in-Err c =
    let a = c.args in let e = claim_flags_denied a.flags a.first.now a.second.now a.required.now a.claim.now _ c.in-Err.ensures in
    c.refused_with.ensures ∙ ap claim_numbers (sym e)

pub returns-in-Ok-judge : goal.returns-in-Ok-judge
unfolding claim_numbers
returns-in-Ok-judge c =
    let a = c.args in let e = claim_flags_known a.flags a.first.now a.second.now a.required.now a.claim.now _ c.in-Ok.ensures in
    c.succeeded.ensures ∙ told_numbers_lem (λ (n : ℕ). n) (λ (n : ℕ). succeeded n 0) _ _ c.in-Ok-judge.ensures ∙ ap claim_numbers (sym e)

pub returns-in-Err-judge : goal.returns-in-Err-judge
unfolding claim_numbers
returns-in-Err-judge c =
    let a = c.args in let e = claim_flags_known a.flags a.first.now a.second.now a.required.now a.claim.now _ c.in-Ok.ensures in
    c.denied_with.ensures ∙ told_numbers_lem (λ (n : ℕ). n) (λ (n : ℕ). succeeded n 0) _ _ c.in-Err-judge.ensures ∙ ap claim_numbers (sym e)
