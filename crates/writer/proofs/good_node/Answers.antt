-- `writer::good_node` meets its contract. Assumes nothing.
use mathlib.Core.Path.{refl}
use native.Mathlib.Omega.{arith}
use Rattle.writer.proofs.StepLaws.{past_end, label_test, children_test, children_late}
use Rattle.writer.proofs.good_node.Goals as goal

pub returns-then-text-n : goal.returns-then-text-n
returns-then-text-n c =
    let p = c.entry-s in let n = c.entry-n in past_end c.args.tree.now c.args.text.now c.args.u c.entry-l.result (c.entry-l.ensures.value 0 refl) p.result n.result (p.ensures.value 0 refl)
    (n.ensures.value 0 refl) c.if-l-u.true (omega (arith, c.if-text-n.true))

pub returns-then-text-n-2 : goal.returns-then-text-n-2
returns-then-text-n-2 c =
    let p = c.entry-s in let n = c.entry-n in past_end c.args.tree.now c.args.text.now c.args.u c.entry-l.result (c.entry-l.ensures.value 0 refl) p.result n.result (p.ensures.value 0 refl)
    (n.ensures.value 0 refl) c.if-l-u.true (omega (arith, c.if-text-n-2.true, c.if-text-n.false))

pub returns-then-l-u : goal.returns-then-l-u
returns-then-l-u c =
    let p = c.entry-s in let n = c.entry-n in label_test c.args.tree.now c.args.text.now c.args.u c.entry-l.result (c.entry-l.ensures.value 0 refl) p.result n.result (p.ensures.value 0 refl)
    (n.ensures.value 0 refl) c.if-l-u.true (omega (arith, c.if-text-n-2.false, c.if-text-n.false)) _
    c.part.ensures c.spelled_size.result c.spelled_size.ensures

pub returns-then-l-u-2 : goal.returns-then-l-u-2
returns-then-l-u-2 c =
    let r = c.entry-r in children_test c.args.tree.now c.args.text.now c.args.u c.entry-l.result (c.entry-l.ensures.value 0 refl) r.result (r.ensures.value 0 refl)
    c.if-l-u.false c.if-l-u-2.true

pub returns-else-l-u-2 : goal.returns-else-l-u-2
returns-else-l-u-2 c =
    children_late c.args.tree.now c.args.text.now c.args.u c.entry-l.result (c.entry-l.ensures.value 0 refl) c.if-l-u.false
    c.if-l-u-2.false
