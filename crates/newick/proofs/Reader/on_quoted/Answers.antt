-- `on_quoted` takes the step `quoted_of`. Assumes nothing.
use borrow.Author.Tests.{ne_eqb}
use Rattle.newick.specs.declared.Mode.TheVariants.{Quoted}
use Rattle.newick.specs.Machine.{quoted_of, closing_of}
use Rattle.newick.proofs.Reader.on_quoted.Goals as goal

pub returns-else-len-eq0 : goal.returns-else-len-eq0
unfolding quoted_of closing_of
returns-else-len-eq0 c = rw c.in-Quote.is (rw (ne_eqb _ _ c.if-len-eq0.false) (c.on_leaf.ensures (Quoted c.args.first c.args.len)))
