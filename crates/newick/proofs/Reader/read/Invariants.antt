-- `read` answers what reading the text gives: the loop's state simulates the reading. Assumes nothing.
use Rattle.std.proofs.Common.{◌≡◌}
use Rattle.newick.specs.Machine.{scan_in, arrays_in, text_in}
use Rattle.newick.proofs.Simulation.{Simulates}
use Rattle.newick.proofs.Reader.read.Given as goal

abbrev pub invariant-loop-at : goal.invariant-loop-at
invariant-loop-at l =
    (l.self.edition ≡ l.initial.self.edition) × (l.self.text.now ≡ l.text)
    × Simulates (text_in l.self) (scan_in l.mode l.self) (arrays_in l.self) l.at
