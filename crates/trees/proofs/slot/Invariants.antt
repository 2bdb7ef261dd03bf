-- `slot`: the loop takes the definition's steps. Assumes nothing.
use Prim.Native.Nat.{◌<◌}
use Rattle.trees.specs.Stored.{read_as}
use Rattle.trees.specs.Slots.{slot_count}
use Rattle.trees.proofs.SlotLaws.{SlotFrom}
use Rattle.trees.proofs.slot.Given as goal

abbrev pub invariant-loop-b : goal.invariant-loop-b
invariant-loop-b l = (l.n < slot_count) × SlotFrom (read_as l.edition l.x.quoted l.x.bytes.now) l.b-index l.n
