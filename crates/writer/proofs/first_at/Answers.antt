-- `writer::first_at` meets its contract: a leaf, or the child that goes first. Assumes nothing.
use mathlib.Core.Path.{◌≡◌, sym, ◌∙◌}
use Rattle.trees.specs.Edition.{in_edition}
use Rattle.writer.proofs.StackLaws.{first_leaf, first_node}
use Rattle.writer.proofs.first_at.Goals as goal

pub returns-then-from-u : goal.returns-then-from-u
returns-then-from-u c =
    let a = c.args in let e = sym c.from.ensures ∙ c.if-from-u.true in
    e ∙ first_leaf (in_edition a.edition a.text.now) a.tree.now.left a.tree.now.right a.tree.now.start a.tree.now.size a.least.now a.u
    (sym c.byte_at-l.ensures ∙ e)

pub returns : goal.returns
returns c =
    let a = c.args in first_node (in_edition a.edition a.text.now) a.tree.now.left a.tree.now.right a.tree.now.start a.tree.now.size a.least.now a.u
    c.byte_at-l.result c.byte_at-r.result c.byte_at-l.ensures c.byte_at-r.ensures
    (λ (e : c.byte_at-l.result ≡ a.u). c.if-from-u.false (c.from.ensures ∙ e)) c.goes_first-first.result
    c.goes_first-first.ensures c.pick.result c.pick.ensures
