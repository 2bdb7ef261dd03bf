-- `joined` meets its contract, case by case. Assumes nothing.
use mathlib.Core.Path.{refl, sym}
use Rattle.restriction.specs.KeptMachine.{joined}
use Rattle.restriction.proofs.PassLaws.{joined_first}
use Rattle.restriction.proofs.joined.Goals as goal

pub returns-in_default : goal.returns-in_default
returns-in_default c = rw c.in_default.is (sym (joined_first c.args.p))

pub returns-in_default-p : goal.returns-in_default-p
unfolding joined
returns-in_default-p c = rw (c.in-Some.is, c.in_default-p.is) refl

pub returns : goal.returns
unfolding joined
returns c = rw (c.in-Some.is, c.in-Some-p.is) refl
