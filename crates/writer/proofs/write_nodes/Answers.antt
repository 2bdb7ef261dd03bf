-- `writer::write_nodes` meets its contract. The root's sums decide, and then its text is stored and closed by `;`. Assumes nothing.
use Prim.Native.Nat.{ℕ}
use mathlib.Core.Path.{sym, subst}
use mathlib.Core.List.{List}
use native.Mathlib.Omega.{arith}
use lib.ListN.{replicate}
use Rattle.writer.specs.Write.{output_too_short}
use Rattle.writer.specs.Passes.{Leasts}
use Rattle.writer.proofs.PassLaws.{leasts_found}
use Rattle.writer.proofs.StackLaws.{children_found}
use Rattle.writer.proofs.WriteLaws.{nodes_many, few_leaves, nodes_short, root_fits, nodes_stored}
use Rattle.writer.proofs.write_nodes.Goals as goal

pub returns-then-leaf_count-gt80 : goal.returns-then-leaf_count-gt80
returns-then-leaf_count-gt80 c =
    let a = c.args in
    let d = nodes_many a.edition a.tree.now a.text.now c.requires a.out.now _ c.leaf_count.ensures c.if-leaf_count-gt80.true in
    record { answer = d.0; output = d.1 }

pub returns-then-out-bytes : goal.returns-then-out-bytes
unfolding output_too_short
returns-then-out-bytes c =
    let a = c.args in
    let d = nodes_short a.edition a.tree.now a.text.now c.requires a.out.now _ c.leaf_count.ensures c.if-leaf_count-gt80.false _
    c.text_size-bytes.ensures c.if-out-bytes.true in
    record { answer = d.0; output = d.1 }

pub put_tree-end-requires : goal.put_tree-end-requires
put_tree-end-requires c =
    let a = c.args in
    let g = c.requires in
    let few = c.if-leaf_count-gt80.false in
    let least = subst (λ (t : List ℕ). Leasts a.edition a.tree.now a.text.now t a.tree.now.nodes) (sym c.least_pass.ensures)
    (leasts_found a.tree.now a.text.now a.tree.now.nodes g.each a.edition (replicate 159 0) g.few) in
    record {
      good = g;
      child_nodes = children_found a.edition a.tree.now a.text.now a.tree.now.nodes g.each _ c.first_pass.new.first least c.first_pass.ensures;
      few_leaves = few_leaves a.edition a.tree.now a.text.now g a.out.now _ c.leaf_count.ensures few;
      room = omega (arith, root_fits a.edition a.tree.now a.text.now g a.out.now _ c.leaf_count.ensures few _ c.text_size-bytes.ensures c.if-out-bytes.false);
    }

pub bounds-out-end : goal.bounds-out-end
bounds-out-end c =
    let a = c.args in
    let p = c.put_tree-end in
    omega (
      arith,
      p.auto.out,
      p.ensures.next,
      root_fits a.edition a.tree.now a.text.now c.requires a.out.now _ c.leaf_count.ensures c.if-leaf_count-gt80.false _
          c.text_size-bytes.ensures c.if-out-bytes.false,
    )

pub overflow_add-result : goal.overflow_add-result
overflow_add-result c =
    let a = c.args in
    omega (
      arith,
      c.put_tree-end.ensures.next,
      root_fits a.edition a.tree.now a.text.now c.requires a.out.now _ c.leaf_count.ensures c.if-leaf_count-gt80.false _
          c.text_size-bytes.ensures c.if-out-bytes.false,
      c,
    )

pub returns : goal.returns
returns c =
    let a = c.args in
    let p = c.put_tree-end in
    let d = nodes_stored a.edition a.tree.now a.text.now c.requires a.out.now _ c.leaf_count.ensures c.if-leaf_count-gt80.false _
    c.text_size-bytes.ensures c.if-out-bytes.false _ _ p.ensures.next p.ensures.stored in
    record { answer = d.0; output = d.1 }
