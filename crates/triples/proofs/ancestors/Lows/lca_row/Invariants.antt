-- The invariant: each rank passed has its number, by the side of u that its leaf is on. Assumes nothing.
use Rattle.triples.specs.Loops.{LcaRow}
use mathlib.Core.Path.{◌≡◌}
use lib.ListN.{length}
use Rattle.triples.proofs.ancestors.Lows.lca_row.Given as goal

abbrev pub invariant-loop-q : goal.invariant-loop-q
invariant-loop-q l = (length l.row ≡ 80) × LcaRow l.self.low l.self.nodes l.leaf l.q l.i l.row
