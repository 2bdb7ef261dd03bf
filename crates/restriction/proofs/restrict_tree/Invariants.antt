-- `restrict_tree` meets its contract. The loop's invariant: the arrays are those of the pass over the first u nodes. Assumes nothing.
use mathlib.Core.Path.{◌≡◌}
use Rattle.restriction.specs.KeptMachine.{pass_in, pass_of}
use Rattle.restriction.proofs.restrict_tree.Given as goal

abbrev pub invariant-loop-u : goal.invariant-loop-u
invariant-loop-u l = pass_in l.rest l.moved ≡ pass_of (pass_in l.initial.rest l.initial.moved) l.kept l.u
