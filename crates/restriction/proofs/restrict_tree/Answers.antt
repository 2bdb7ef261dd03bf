-- `restrict_tree` meets its contract. The loop's invariant: the arrays are those of the pass over the first u nodes. Assumes nothing.
use mathlib.Core.Path.{◌≡◌, refl, ◌∙◌, ap}
use native.Mathlib.Omega.{arith}
use native.Mathlib.Numerals.{add-one}
use lib.ListN.{length}
use Rattle.restriction.specs.KeptMachine.{Pass, pass_in, start_of, pass_of}
use Rattle.restriction.proofs.PassLaws.{sized_start, pass_count}
use Rattle.restriction.proofs.ResultLaws.{restricted}
use borrow.Author.Rules.{rules}
use Rattle.restriction.proofs.restrict_tree.Goals as goal

pub loop-u-init : goal.loop-u-init
unfolding pass_of
loop-u-init c = refl

pub keep_node-requires : goal.keep_node-requires
keep_node-requires c =
    let a = c.args in let k = c.loop-u in (
      omega (arith, pass_count (start_of a.tree) a.kept k.u, ap (λ (s : Pass). s.count) k.invariant),
      omega (arith, c.min-n.ensures),
    )

pub loop-u-preserved : goal.loop-u-preserved
unfolding pass_of
loop-u-preserved c = let k = c.loop-u in rw (add-one k.u, ← k.invariant) c.keep_node.ensures

pub returns : goal.returns
returns c =
    let a = c.args in let l : length a.tree.left ≡ 159 = search rules in
    let r : length a.tree.right ≡ 159 = search rules in
    let b : length a.tree.start ≡ 159 = search rules in
    let z : length a.tree.size ≡ 159 = search rules in
    let n = c.min-n in let k = c.loop-u in let m = c.nodes_kept in
    let e : k.u ≡ n.result = omega arith in
    let w = restricted a.tree a.kept (sized_start a.tree l r b z) (pass_in k.rest k.moved) n.result m.result n.ensures
    (k.invariant ∙ ap (pass_of (start_of a.tree) a.kept) e) m.ensures in
    record { tree = w.tree; empty = w.empty; leaves = w.leaves; fits = w.fits }
