-- `leaves::find_leaf`: what is left of the search gives what the whole search gives. Assumes nothing.
use Prim.Native.Nat.{◌-◌}
use mathlib.Core.Path.{◌≡◌}
use Rattle.trees.specs.Edition.{in_edition, key}
use Rattle.leaves.specs.Find.{labelled, leaf_from, found_leaf}
use Rattle.leaves.proofs.find_leaf.Given as goal

abbrev pub invariant-loop-u : goal.invariant-loop-u
invariant-loop-u l = leaf_from (labelled (in_edition l.edition l.text) l.tree.left l.tree.start l.tree.size (key l.edition l.token)) (l.u-end - l.u) l.u
    ≡ found_leaf (in_edition l.edition l.text) l.tree.left l.tree.start l.tree.size (key l.edition l.token) l.tree.nodes
