-- `writer::leaf_token` meets its contract. Assumes nothing.
use Rattle.writer.proofs.StepLaws.{token_bytes, token_count, token_few}
use Rattle.writer.proofs.leaf_token.Goals as goal

pub returns : goal.returns
returns c =
    let a = c.args in
    let x = c.stored_leaf in
    let y = c.shown in
    record {
      token = token_bytes a.text.now a.tree.now.start a.tree.now.size a.u x.result x.ensures y.result y.ensures;
      count = token_count a.text.now a.tree.now.start a.tree.now.size a.u x.result x.ensures y.result y.ensures;
      short = token_few a.text.now a.tree.now.start a.tree.now.size a.u x.result x.ensures y.result y.ensures;
    }
