-- `new` starts with a mark for the label of no bytes. Assumes nothing.
use Rattle.trees.proofs.SlotLaws.{marked_start}
use Rattle.lists.specs.ReadList.{places_of}
use Rattle.lists.proofs.Reader.new.Goals as goal

pub invariant_of-result : goal.invariant_of-result
unfolding places_of
invariant_of-result c = record { marked = rw (c.no_labels.ensures, c.first_marks.ensures) (marked_start _ _) }
