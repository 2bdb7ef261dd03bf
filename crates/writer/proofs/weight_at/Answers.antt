-- `writer::weight_at` meets its contract. Assumes nothing.
use mathlib.Core.Path.{◌≡◌, refl, sym, ◌∙◌}
use native.Mathlib.Omega.{arith}
use lib.ListN.{get_or}
use Rattle.trees.proofs.EntryLaws.{fits_byte}
use Rattle.writer.proofs.StepLaws.{weight_leaf, weight_node}
use Rattle.writer.proofs.weight_at.Goals as goal

pub returns-then-entry-u : goal.returns-then-entry-u
returns-then-entry-u c =
    let a = c.args in let y = c.leaf_token in
    c.narrow.ensures
    ∙ fits_byte y.result.len (omega (arith, y.ensures.short))
    ∙ y.ensures.count
    ∙ weight_leaf a.text.now a.tree.now.left a.tree.now.start a.tree.now.size a.u (sym (c.entry.ensures.value 0 refl) ∙ c.if-entry-u.true)

pub returns : goal.returns
returns c =
    let a = c.args in weight_node a.text.now a.tree.now.left a.tree.now.start a.tree.now.size a.u
    (λ (e : get_or a.tree.now.left a.u 0 ≡ a.u). c.if-entry-u.false ((c.entry.ensures.value 0 refl) ∙ e))
