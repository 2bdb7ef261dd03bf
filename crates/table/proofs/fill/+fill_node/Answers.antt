-- `fill::fill_node` meets its contract. Children have smaller numbers.
use Rattle.std.proofs.Common.{sym, ◌∙◌, arith}
use Rattle.table.proofs.FillLaws.{leaf_made, node_made, nothing_made}
use Rattle.table.proofs.fill.+fill_node.Goals as goal

pub returns-then-from-u : goal.returns-then-from-u
returns-then-from-u t c =
    let s = c.requires.shape in
    let b = c.requires.u_bound in
    leaf_made _ _ _ _ _ _ b.0 _ _ s.1.few (sym c.from.ensures ∙ c.if-from-u.true) (s.0.ranked _ b.0) c.fill_leaf.ensures

pub returns-then-next-ge-ROWS : goal.returns-then-next-ge-ROWS
returns-then-next-ge-ROWS t c =
    nothing_made _ _ _ _ _ _ _ c.if-next-ge-ROWS.true (λ e. c.if-from-u.false (c.from.ensures ∙ e)) c.requires.u_bound.0

pub returns : goal.returns
returns t c =
    let s = c.requires.shape in
    let b = c.requires.u_bound in
    node_made _ _ _ _ _ _ b.0 _ _ c.children_of-children.result _ _ s.0 s.1.few (λ e. c.if-from-u.false (c.from.ensures ∙ e))
    (omega (arith, c.if-next-ge-ROWS.false)) c.children_of-children.ensures c.fill_node.ensures c.fill_node-2.ensures c.join_rows.ensures
