-- `writer::put_tree` meets its contract. The invariant: what is stored and what the stack will store is the whole text; the measure is
-- the number of steps that are left. The loop never reads the edition, so the invariant is for each that orders the children so. Assumes
-- nothing.
use Prim.Native.Nat.{◌-◌}
use mathlib.Core.Path.{◌∙◌}
use native.Mathlib.Omega.{arith}
use Rattle.trees.proofs.EntryLaws.{fits_byte}
use Rattle.writer.proofs.StackLaws.{depth_few, writing_start, has_room, own_fits, writing_next, fewer_steps, writing_end}
use Rattle.writer.proofs.put_tree.Goals as goal

pub loop-thing-init : goal.loop-thing-init
loop-thing-init c =
    let a = c.args in λ e children.
    writing_start e a.tree.now a.text.now a.tree.now.nodes a.out.now (a.tree.now.nodes - 1) (omega arith) c.requires.few_leaves
    c.narrow.result (c.narrow.ensures ∙ fits_byte (a.tree.now.nodes - 1) (omega arith))
    _ _ c.push.ensures.stored c.push.ensures.depth

pub pop-requires : goal.pop-requires
pop-requires c =
    omega (arith, depth_few (c.loop-thing.invariant c.args.edition c.requires.child_nodes))

pub put_own-at-requires : goal.put_own-at-requires
put_own-at-requires c =
    let a = c.args in let l = c.loop-thing in let p = c.in-Some.ensures in
    own_fits a.edition a.tree.now a.text.now a.tree.now.nodes a.out.now a.first.now c.requires.child_nodes
    _ _ _ _ _ c.pop.new.self.depth (omega (arith, p.0)) (l.invariant a.edition c.requires.child_nodes) c.in-Some.thing p.1.0 c.requires.room

pub push_rest-requires : goal.push_rest-requires
push_rest-requires c =
    let a = c.args in let l = c.loop-thing in let p = c.in-Some.ensures in
    has_room a.edition a.tree.now a.text.now a.tree.now.nodes a.out.now a.first.now c.requires.child_nodes
    _ _ _ _ _ c.pop.new.self.depth (omega (arith, p.0)) (l.invariant a.edition c.requires.child_nodes)

pub loop-thing-smaller : goal.loop-thing-smaller
loop-thing-smaller c =
    let a = c.args in let l = c.loop-thing in let p = c.in-Some.ensures in
    fewer_steps a.edition a.tree.now a.text.now a.tree.now.nodes a.out.now a.first.now c.requires.child_nodes
    _ _ _ _ _ c.pop.new.self.depth (omega (arith, p.0)) (l.invariant a.edition c.requires.child_nodes) c.in-Some.thing p.1.0
    c.pop.new.self.things p.1.1 c.put_own-at.new.out _ _ c.put_own-at.result c.push_rest.ensures.stored c.push_rest.ensures.depth

pub loop-thing-preserved : goal.loop-thing-preserved
loop-thing-preserved c =
    let a = c.args in let l = c.loop-thing in let p = c.in-Some.ensures in λ e children.
    writing_next e a.tree.now a.text.now a.tree.now.nodes a.out.now a.first.now children
    _ _ _ _ _ c.pop.new.self.depth (omega (arith, p.0)) (l.invariant e children) c.in-Some.thing p.1.0
    c.pop.new.self.things p.1.1 c.put_own-at.new.out _ _ c.put_own-at.result c.push_rest.ensures.stored c.push_rest.ensures.depth
    c.put_own-at.ensures.next c.put_own-at.ensures.stored c.put_own-at.auto.out

pub returns : goal.returns
returns c =
    let a = c.args in let l = c.loop-thing in
    let d = writing_end a.edition a.tree.now a.text.now a.tree.now.nodes a.out.now _ l.out l.stack.things l.stack.depth l.at
    c.in_default.ensures (l.invariant a.edition c.requires.child_nodes) in
    record { next = d.0; stored = d.1 }
