-- `ranks::comes_first` meets its contract: a leaf's label is read as an edition reads its part of the text. Assumes nothing.
use Prim.Native.Nat.{ℕ}
use mathlib.Core.List.{List}
use mathlib.Core.Path.{ap, ◌∙◌}
use Rattle.trees.specs.Edition.{key}
use Rattle.trees.specs.Label.{label_less}
use Rattle.trees.proofs.FoldLaws.{leaf_key}
use Rattle.pairs.proofs.ranks.comes_first.Goals as goal

pub returns : goal.returns
returns c =
    let a = c.args in let first = label_less (key a.edition a.token.now) in
    c.comes_before.ensures
    ∙ ap (λ (x : List ℕ). first (key a.edition x)) c.leaf_label-other.ensures
    ∙ ap first (leaf_key a.edition a.text.now a.tree.now.start a.tree.now.size a.u)
