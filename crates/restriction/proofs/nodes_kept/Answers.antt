-- `nodes_kept` meets its contract: each return follows the tests of `nodes_kept`. Assumes nothing.
use Prim.Native.Nat.{ℕ, ◌+◌}
use mathlib.Core.Path.{refl, ap}
use borrow.Author.Tests.{eq-eqb, ne_eqb}
use Rattle.restriction.specs.KeptMachine.{nodes_kept}
use Rattle.restriction.proofs.nodes_kept.Goals as goal

pub returns-then-n-eq0 : goal.returns-then-n-eq0
unfolding nodes_kept
returns-then-n-eq0 c = rw (eq-eqb c.args.n 0 c.if-n-eq0.true) refl

pub returns-in-Some : goal.returns-in-Some
unfolding nodes_kept
returns-in-Some c = rw (ne_eqb c.args.n 0 c.if-n-eq0.false, c.in-Some.is) (ap (λ (k : ℕ). k + 1) c.from.ensures)

pub returns-in-None : goal.returns-in-None
unfolding nodes_kept
returns-in-None c = rw (ne_eqb c.args.n 0 c.if-n-eq0.false, c.in-None.is) refl
