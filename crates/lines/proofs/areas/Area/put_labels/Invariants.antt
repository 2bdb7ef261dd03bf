-- `Area::put_labels` meets its contract. The invariant: the labels passed are put, joined by commas. Assumes nothing.
use Prim.Native.Nat.{◌+◌, ◌-◌, ◌*◌, ◌≤◌}
use mathlib.Core.List.{map}
use Rattle.trees.specs.Token.{token_of}
use Rattle.lists.specs.ReadList.{joined}
use Rattle.lines.specs.Areas.{Put}
use Rattle.lines.specs.Lines.{labels_in, item_room}
use Rattle.lines.proofs.areas.Area.put_labels.Given as goal

abbrev pub invariant-loop-i : goal.invariant-loop-i
invariant-loop-i g l = (l.self.at ≤ l.initial.self.at + (item_room * l.i - 1))
    × Put l.initial.self.bytes l.initial.self.at (joined (map token_of (labels_in l.text l.places.start l.places.size l.i))) l.self.at l.self.bytes
