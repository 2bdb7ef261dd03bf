-- The invariant: so many of the labels passed come before label k. Assumes nothing.
use mathlib.Core.Path.{◌≡◌}
use Rattle.trees.specs.Edition.{in_edition}
use Rattle.triples.specs.Loops.{label_in, less_count}
use Rattle.triples.proofs.rank.Given as goal

abbrev pub invariant-loop-j : goal.invariant-loop-j
invariant-loop-j l = (l.r ≡ less_count (label_in (in_edition l.edition l.list) l.places.start l.places.size) (label_in (in_edition l.edition l.list) l.places.start l.places.size l.k) l.j)
