-- `fate_of` meets its contract: each return follows the tests of `fate_of`. Assumes nothing.
use mathlib.Core.Path.{refl}
use borrow.Author.Tests.{eq-eqb, ne_eqb}
use Rattle.restriction.specs.KeptMachine.{fate_of}
use Rattle.restriction.proofs.fate_of.Goals as goal

pub returns-then-kept-u : goal.returns-then-kept-u
unfolding fate_of
returns-then-kept-u c =
    rw (← c.from-l.ensures, eq-eqb c.from-l.result c.args.u c.if-l-u.true, c.if-kept-u.true) refl

pub returns-then-l-u : goal.returns-then-l-u
unfolding fate_of
returns-then-l-u c =
    rw (← c.from-l.ensures, eq-eqb c.from-l.result c.args.u c.if-l-u.true, c.if-kept-u.false) refl

pub returns : goal.returns
unfolding fate_of
returns c =
    rw (
      ← c.from-l.ensures,
      ← c.from-r.ensures,
      ne_eqb c.from-l.result c.args.u c.if-l-u.false,
      ← c.moved_to.ensures,
      ← c.moved_to-2.ensures,
    )
    c.joined.ensures
