-- `is_met` meets its contract, test by test. Assumes nothing.
use mathlib.Core.Path.{◌∙◌}
use native.Mathlib.Omega.{arith}
use Rattle.trees.proofs.SlotLaws.{no_slot, no_mark_lem, a_mark}
use Rattle.trees.proofs.is_met.Goals as goal

pub returns-then-seen-slot : goal.returns-then-seen-slot
returns-then-seen-slot c = no_slot _ _ _ (omega arith)

pub returns-then-seen-slot-eq0 : goal.returns-then-seen-slot-eq0
returns-then-seen-slot-eq0 c = no_mark_lem _ _ _ c.if-seen-slot-eq0.true

pub returns : goal.returns
returns c = c.is_among.ensures ∙ a_mark _ _ _ c.if-seen-slot-eq0.false
