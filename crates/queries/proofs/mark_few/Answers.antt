-- `queries::mark_few` meets its contract. Assumes nothing.
use Rattle.std.proofs.Common.{rules}
use Rattle.trees.specs.Edition.{folded, keyed}
use Rattle.lists.specs.ReadList.{folded_list}
use Rattle.agreement.specs.Sets.{common}
use Rattle.queries.proofs.MarkLaws.{common_ordered, marks_told}
use Rattle.queries.proofs.mark_few.Goals as goal

pub returns : goal.returns
returns c =
    λ tree2 b l.
    let e = c.args.edition in
    marks_told b l c.args.body c.mark.result c.map_err.result (λ n q told. search rules)
    (c.mark.ensures.marked_to (folded e b.s) (common (keyed e b.s) (keyed e b.t)) (folded_list e l.xs) b.one l.own_list (common_ordered b)
    b.ordered.count b.ordered.first)
    c.mark.ensures.upper_bound
    c.map_err.ensures.cases
