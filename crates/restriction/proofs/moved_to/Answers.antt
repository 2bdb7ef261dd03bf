-- `moved_to` meets its contract: its test is that of `moved_to`. Assumes nothing.
use mathlib.Core.Path.{refl}
use borrow.Author.Tests.{lt-ltb, le-ltb}
use Rattle.restriction.specs.KeptMachine.{moved_to}
use Rattle.restriction.proofs.moved_to.Goals as goal

pub returns-then-child-u : goal.returns-then-child-u
unfolding moved_to
returns-then-child-u c = let a = c.args in rw (lt-ltb a.child a.u c.if-child-u.true) refl

pub returns-else-child-u : goal.returns-else-child-u
unfolding moved_to
returns-else-child-u c = let a = c.args in rw (le-ltb a.child a.u c.if-child-u.false) refl
