-- `verdict` meets its contract. Assumes nothing.
use Rattle.claims.proofs.TellLaws.{lacking_told, clash_told_lem, small_told, passed_told}
use Rattle.claims.proofs.verdict.Goals as goal

pub returns-in-Some : goal.returns-in-Some
returns-in-Some c = λ x h. lacking_told _ x h _ c.in-Some.is

pub returns-in-Some-clash : goal.returns-in-Some-clash
returns-in-Some-clash c = λ x h. clash_told_lem _ x h c.in_default.is _ c.in-Some-clash.is

pub returns-then-c : goal.returns-then-c
returns-then-c c = λ x h. small_told _ x h c.in_default.is c.in_default-clash.is c.if-c.true

pub returns : goal.returns
returns c = λ x h. passed_told _ x h c.in_default.is c.in_default-clash.is c.if-c.false
