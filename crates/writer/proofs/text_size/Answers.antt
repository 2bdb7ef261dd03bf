-- `writer::text_size` meets its contract: the root's sum of the weights. Assumes nothing.
use Rattle.writer.proofs.WriteLaws.{found_length}
use Rattle.writer.proofs.text_size.Goals as goal

pub overflow_sub-result : goal.overflow_sub-result
overflow_sub-result c =
    (found_length c.args.tree.now c.args.text.now c.requires _ c.weight_pass.ensures c.root_sum.result c.root_sum.ensures).some

pub returns : goal.returns
returns c =
    (found_length c.args.tree.now c.args.text.now c.requires _ c.weight_pass.ensures c.root_sum.result c.root_sum.ensures).exact
