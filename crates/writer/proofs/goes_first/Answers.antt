-- `writer::goes_first` meets its contract. Assumes nothing.
use Prim.Native.Nat.{ℕ}
use mathlib.Core.Path.{refl, ◌∙◌, ap}
use lib.ListN.{get_or}
use Rattle.writer.proofs.StepLaws.{order_told}
use Rattle.writer.proofs.goes_first.Goals as goal

pub returns : goal.returns
returns c =
    let a = c.args in let x = c.leaf_label-a in let y = c.leaf_label-b in order_told a.edition a.text.now a.tree.now.start a.tree.now.size a.least.now a.i a.j c.entry-x.result
    c.entry-y.result ((c.entry-x.ensures.value 0 refl) ∙ ap (λ (k : ℕ). get_or a.least.now k 0) c.from.ensures)
    ((c.entry-y.ensures.value 0 refl) ∙ ap (λ (k : ℕ). get_or a.least.now k 0) c.from-2.ensures)
    x.result.now y.result.now x.ensures y.ensures c.comes_before.result c.comes_before.ensures
