-- The invariant: each label passed has its leaf. Assumes nothing.
use Rattle.std.proofs.Common.{◌≡◌, ℕ, ◌<◌, None, length, get_or}
use Rattle.trees.specs.Edition.{in_edition}
use Rattle.leaves.specs.Find.{leaf_found}
use Rattle.triples.specs.Loops.{label_in}
use Rattle.triples.proofs.list_leaves.Given as goal

abbrev pub invariant-loop-k : goal.invariant-loop-k
invariant-loop-k l = (length l.leaf ≡ 80) × ((i : ℕ) → i < l.k → get_or l.leaf i None ≡ leaf_found (in_edition l.edition l.text) l.tree.left l.tree.start l.tree.size
    (label_in (in_edition l.edition l.list) l.places.start l.places.size i) l.tree.nodes)
