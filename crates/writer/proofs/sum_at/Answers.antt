-- `writer::sum_at` meets its contract. Assumes nothing.
use mathlib.Core.Path.{refl, sym, ◌∙◌}
use Rattle.writer.proofs.StepLaws.{sum_leaf, sum_node}
use Rattle.writer.proofs.sum_at.Goals as goal

pub returns-then-l-u : goal.returns-then-l-u
returns-then-l-u c =
    let a = c.args in sum_leaf a.tree.now.left a.tree.now.right a.weights.now.entry a.weights.now.plus a.weights.now.cap a.sums.now a.u
    (sym (c.entry-l.ensures.value 0 refl) ∙ c.if-l-u.true)
    c.entry.result (c.entry.ensures.value 0 refl) c.capped.result c.capped.ensures

pub returns : goal.returns
returns c =
    let a = c.args in let r = c.entry-r in sum_node a.tree.now.left a.tree.now.right a.weights.now.entry a.weights.now.plus a.weights.now.cap a.sums.now a.u c.entry-l.result r.result
    (c.entry-l.ensures.value 0 refl)
    (r.ensures.value 0 refl) c.if-l-u.false c.entry-2.result c.entry-3.result
    (c.entry-2.ensures.value 0 refl) (c.entry-3.ensures.value 0 refl)
    c.capped-2.result c.capped-2.ensures
