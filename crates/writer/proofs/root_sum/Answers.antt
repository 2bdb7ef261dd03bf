-- `writer::root_sum` meets its contract. Assumes nothing.
use mathlib.Core.Path.{refl, ◌∙◌, ap}
use mathlib.Core.List.{List}
use Prim.Native.Nat.{ℕ, ◌-◌}
use lib.ListN.{get_or}
use Rattle.writer.specs.Passes.{root_sum}
use Rattle.writer.proofs.root_sum.Goals as goal

pub returns : goal.returns
unfolding root_sum
returns c =
    (c.entry.ensures.value 0 refl)
    ∙ ap (λ (s : List ℕ). get_or s (c.args.tree.now.nodes - 1) 0)
    c.sum_pass.ensures
