-- The invariant: the search from here on finds what the whole search finds. Assumes nothing.
use Prim.Native.Nat.{◌-◌}
use mathlib.Core.Path.{◌≡◌}
use Rattle.triples.specs.Loops.{lack_from}
use Rattle.triples.proofs.lacking.Given as goal

abbrev pub invariant-loop-k : goal.invariant-loop-k
invariant-loop-k l = (lack_from l.leaf1 l.leaf2 l.places.start (l.places.count - l.k) l.k ≡ lack_from l.leaf1 l.leaf2 l.places.start l.places.count 0)
