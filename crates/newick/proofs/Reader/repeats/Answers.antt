-- `repeats` looks as `is_among` does: a label without a mark is none of the leaves'. Assumes nothing.
use mathlib.Core.Path.{◌∙◌}
use Rattle.trees.proofs.Promises.{marked_search}
use Rattle.newick.proofs.Reader.repeats.Goals as goal

pub returns : goal.returns
returns c = c.is_met.ensures ∙ marked_search _ _ _ _ _ c.args.self.now.marked _ _ _ c.requires
