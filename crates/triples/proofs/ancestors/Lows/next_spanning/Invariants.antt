-- The invariant: the search from here on finds what the search from w finds. Assumes nothing.
use mathlib.Core.Path.{◌≡◌}
use Rattle.triples.specs.Loops.{span_from}
use Rattle.triples.proofs.ancestors.Lows.next_spanning.Given as goal

abbrev pub invariant-loop-k : goal.invariant-loop-k
invariant-loop-k l = span_from l.self.low l.v l.self.nodes l.k ≡ span_from l.self.low l.v l.self.nodes l.w
