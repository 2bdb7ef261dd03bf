-- `keep_node` meets its contract: each arm stores what `settled` says. Assumes nothing.
use mathlib.Core.Path.{refl, ◌∙◌, ap}
use native.Mathlib.Omega.{arith}
use Rattle.trees.proofs.EntryLaws.{fits_byte}
use Rattle.restriction.specs.KeptMachine.{fate_of, step_of, settled}
use Rattle.restriction.proofs.keep_node.Goals as goal

pub returns-in-Known : goal.returns-in-Known
unfolding step_of settled
returns-in-Known c =
    let a = c.args in
    let n = c.narrow-next.ensures ∙ fits_byte a.tree.now.nodes (omega arith) in
    rw (← (c.in-Known.ensures ∙ ap (fate_of a.tree.now.left a.tree.now.right a.moved.now a.kept.now a.u) n)) refl

pub returns-in-Fresh : goal.returns-in-Fresh
unfolding step_of settled
returns-in-Fresh c =
    let a = c.args in
    let n = c.narrow-next.ensures ∙ fits_byte a.tree.now.nodes (omega arith) in
    rw (← (c.in-Fresh.ensures ∙ ap (fate_of a.tree.now.left a.tree.now.right a.moved.now a.kept.now a.u) n), n) refl
