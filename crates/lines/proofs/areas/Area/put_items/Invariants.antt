-- `Area::put_items` meets its contract. The invariant: the labels passed are put. Assumes nothing.
use Prim.Native.Nat.{◌+◌, ◌*◌, ◌≤◌}
use mathlib.Core.Path.{◌≡◌}
use mathlib.Core.Bool.{true, false}
use Rattle.lines.specs.Areas.{Put}
use Rattle.lines.specs.PieceLines.{items_in}
use Rattle.lines.specs.ItemText.{run_text, last_head}
use Rattle.lines.proofs.areas.Area.put_items.Given as goal

abbrev pub invariant-loop-i : goal.invariant-loop-i
invariant-loop-i g l = (l.self.at ≤ l.initial.self.at + 39 * l.i)
    × (l.after ≡ last_head false (items_in l.text l.pieces.items l.i))
    × Put l.initial.self.bytes l.initial.self.at (run_text true false (items_in l.text l.pieces.items l.i)) l.self.at
    l.self.bytes
