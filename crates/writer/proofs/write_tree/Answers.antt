-- `writer::write_tree` meets its contract. Arrays that fail a test stand for no tree. Assumes nothing.
use mathlib.Core.Path.{sym, ◌∙◌}
use native.Mathlib.Omega.{arith}
use Rattle.writer.proofs.WriteLaws.{tree_empty, tree_long, tree_bad}
use Rattle.writer.proofs.write_tree.Goals as goal

pub returns-then-nodes-eq0 : goal.returns-then-nodes-eq0
returns-then-nodes-eq0 c =
    let a = c.args in
    let d = tree_empty a.edition a.tree a.text.now a.out.now (omega arith) in
    record { answer = d.0; output = d.1 }

pub returns-then-nodes-gt-NODE_LIMIT : goal.returns-then-nodes-gt-NODE_LIMIT
returns-then-nodes-gt-NODE_LIMIT c =
    let a = c.args in
    let d = tree_long a.edition a.tree a.text.now a.out.now c.if-nodes-gt-NODE_LIMIT.true in
    record { answer = d.0; output = d.1 }

pub returns-then-not-good_nodes : goal.returns-then-not-good_nodes
returns-then-not-good_nodes c =
    let a = c.args in
    let d = tree_bad a.edition a.tree a.text.now a.out.now c.if-nodes-eq0.false (sym c.good_nodes.ensures ∙ c.if-not-good_nodes.true) in
    record { answer = d.0; output = d.1 }

pub write_nodes-requires : goal.write_nodes-requires
write_nodes-requires c =
    record { some = omega arith; few = omega arith; each = sym c.good_nodes.ensures ∙ c.if-not-good_nodes.false }
