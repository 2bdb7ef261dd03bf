-- `writer::leaf_count` meets its contract: the root's sum of ones. Assumes nothing.
use mathlib.Core.Path.{◌∙◌}
use Rattle.writer.proofs.WriteLaws.{root_leaves}
use Rattle.writer.proofs.leaf_count.Goals as goal

pub returns : goal.returns
returns c = c.root_sum.ensures ∙ root_leaves c.args.tree.now c.args.text.now c.requires
