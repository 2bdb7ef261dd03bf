-- The invariant: each label passed has a label of its rank stored at its rank. Assumes nothing.
use Prim.Native.Nat.{ℕ, ◌<◌}
use mathlib.Core.Path.{◌≡◌}
use lib.ListN.{length, get_or}
use Rattle.trees.specs.Edition.{in_edition}
use Rattle.triples.specs.Loops.{rank_in, InOrder}
use Rattle.triples.proofs.label_order.Given as goal

abbrev pub invariant-loop-k : goal.invariant-loop-k
invariant-loop-k l = (length l.order ≡ 80) × ((i : ℕ) → get_or l.order i 0 < 80) × InOrder (rank_in (in_edition l.edition l.list) l.places.start l.places.size l.places.count) l.places.count l.k l.order
