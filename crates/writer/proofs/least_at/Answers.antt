-- `writer::least_at` meets its contract. Assumes nothing.
use Prim.Native.Nat.{ℕ}
use mathlib.Core.Path.{◌≡◌, sym, ◌∙◌, ap}
use lib.ListN.{get_or}
use Rattle.trees.specs.Edition.{in_edition}
use Rattle.writer.proofs.StepLaws.{least_leaf, least_node}
use Rattle.writer.proofs.least_at.Goals as goal

pub returns-then-from-u : goal.returns-then-from-u
returns-then-from-u c =
    let a = c.args in let e = sym c.from.ensures ∙ c.if-from-u.true in
    e ∙ least_leaf (in_edition a.edition a.text.now) a.tree.now.left a.tree.now.right a.tree.now.start a.tree.now.size a.least.now a.u
    (sym c.byte_at-l.ensures ∙ e)

pub returns : goal.returns
returns c =
    let a = c.args in least_node (in_edition a.edition a.text.now) a.tree.now.left a.tree.now.right a.tree.now.start a.tree.now.size a.least.now a.u
    c.byte_at-l.result c.byte_at-r.result c.byte_at-l.ensures c.byte_at-r.ensures
    (λ (e : c.byte_at-l.result ≡ a.u). c.if-from-u.false (c.from.ensures ∙ e)) c.goes_first-first.result c.goes_first-first.ensures
    c.byte_at.result c.byte_at-2.result (c.byte_at.ensures ∙ ap (λ (k : ℕ). get_or a.least.now k 0) c.from-2.ensures)
    (c.byte_at-2.ensures ∙ ap (λ (k : ℕ). get_or a.least.now k 0) c.from-3.ensures) c.pick.result c.pick.ensures
