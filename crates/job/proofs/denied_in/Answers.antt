-- `job::denied_in` meets its contract: case by case. Assumes nothing.
use mathlib.Core.Path.{sym, ap}
use Rattle.job.specs.Answered.{denied_at}
use Rattle.job.proofs.denied_in.Goals as goal

pub named_in-requires : goal.named_in-requires
named_in-requires c = rw c.base_of.ensures (rw c.in-Naming.is at c.requires)

pub returns-in-Naming : goal.returns-in-Naming
unfolding denied_at
returns-in-Naming c = rw (c.named_in.ensures, c.base_of.ensures) (ap (denied_at c.args.at) (sym c.in-Naming.is))

pub returns-in-Refused : goal.returns-in-Refused
unfolding denied_at
returns-in-Refused c = ap (denied_at c.args.at) (sym c.in-Refused.is)
