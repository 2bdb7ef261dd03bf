-- `Query::marks` meets its contract. Assumes nothing.
use Rattle.mast.proofs.query.Query.marks.Goals as goal

pub returns : goal.returns
returns c = λ b l. c.mark_list.ensures _ b l
