-- `leaves::has_label` meets its contract: no leaf, or one whose shown label is compared. Assumes nothing.
use borrow.Author.Tests.{ne_eqb, eq-eqb}
use Rattle.leaves.specs.Find.{labelled}
use lib.ListN.{get_or}
use Rattle.trees.proofs.FoldLaws.{fold_part}
use Rattle.leaves.proofs.has_label.Goals as goal

pub returns-then-from-u : goal.returns-then-from-u
unfolding labelled
returns-then-from-u c =
    rw (← c.from.ensures) (simp (ne_eqb _ _ c.if-from-u.true))

pub returns : goal.returns
unfolding labelled
returns c =
    let a = c.args in let tree = a.tree.now in rw (
      ← c.from.ensures,
      c.same_label.ensures,
      c.leaf_label.ensures,
      fold_part a.edition (get_or tree.start a.u 0) (get_or tree.size a.u 0) a.text.now,
    )
    (simp (eq-eqb _ _ c.if-from-u.false))
