-- `slot` meets its contract: the loop takes the definition's steps. Assumes nothing.
use mathlib.Core.Path.{sym, ap, ◌∙◌}
use native.Mathlib.Omega.{arith}
use Rattle.trees.specs.Stored.{read_as}
use Rattle.trees.specs.Slots.{slot_of}
use Rattle.trees.proofs.DecodeLaws.{read_size, read_at, spelling_told}
use Rattle.trees.proofs.SlotLaws.{step_small, slot_start, slot_next, slot_end}
use Rattle.trees.proofs.slot.Goals as goal

pub loop-b-init : goal.loop-b-init
loop-b-init c = (omega arith, slot_start _)

pub loop-b-preserved : goal.loop-b-preserved
loop-b-preserved c =
    let e = c.args.edition in let l = c.loop-b in let q = c.of-x.result.quoted in let x = c.of-x.result.bytes.now in let f = c.from.ensures ∙ c.decode-c.ensures ∙ sym (read_at e q x l.b-index (omega arith)) in
    (step_small _ _, slot_next (read_as e q x) l.b-index l.n l.invariant.1 _ (omega (arith, read_size e q x)) f)

pub returns : goal.returns
returns c =
    let e = c.args.edition in let l = c.loop-b in let q = c.of-x.result.quoted in let x = c.of-x.result.bytes.now in slot_end (read_as e q x) l.b-index l.n l.invariant.1 (omega (arith, read_size e q x))
    ∙ ap slot_of (spelling_told e _ q x c.of-x.ensures.quoted c.of-x.ensures.bytes)
