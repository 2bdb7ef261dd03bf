-- `new` gives a reader that has read nothing, with the marks that it begins with. Assumes nothing.
use mathlib.Core.List.{List}
use mathlib.Core.Path.{sym, subst}
use Prim.Native.Nat.{ℕ}
use native.Mathlib.Omega.{arith}
use Rattle.trees.specs.declared.TreeArrays.{TreeArrays}
use Rattle.trees.specs.Arrays.{node_limit, no_arrays}
use Rattle.trees.specs.Edition.{in_edition}
use Rattle.trees.specs.Slots.{SlotMarks}
use Rattle.trees.proofs.SlotLaws.{marked_start}
use Rattle.newick.proofs.Reader.new.Goals as goal

pub invariant_of-result : goal.invariant_of-result
unfolding no_arrays
invariant_of-result c =
    let text = in_edition c.args.edition c.args.text.now in
    record {
      few = omega arith;
      deep = omega arith;
      marked = subst (λ (t : TreeArrays). SlotMarks node_limit text t.start t.size c.first_marks.result) (sym c.no_tree.ensures)
          (subst (λ (m : List ℕ). SlotMarks node_limit text no_arrays.start no_arrays.size m) (sym c.first_marks.ensures) (marked_start text node_limit));
    }
