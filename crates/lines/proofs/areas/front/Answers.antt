-- `lines::areas::front` meets its contract: what is no longer than a tree's text can be. Assumes nothing.
use Prim.Native.Nat.{ℕ}
use mathlib.Core.Path.{◌∙◌, ap}
use Rattle.trees.specs.Stored.{part_of}
use Rattle.trees.specs.Text.{tree_room}
use Rattle.lines.proofs.OutputLaws.{part_front}
use Rattle.lines.proofs.areas.front.Goals as goal

pub returns : goal.returns
returns c =
    let text = c.args.tree.now in c.part.ensures ∙ ap (λ (k : ℕ). part_of 0 k text) c.min.ensures ∙ part_front text tree_room
