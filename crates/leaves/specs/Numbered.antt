-- Leaves of a tree by their node numbers, as contracts over arrays name them.
use Rattle.std.specs.Prelude.{ℕ, ◌<◌, List, [], length, get_or}
use Rattle.trees.specs.Label.{Label}
use Rattle.trees.specs.Tree.{Tree}
pub use Rattle.trees.specs.Postorder.{LeafIs}

-- the leaves of t by the rank of their labels in C
abbrev pub Numbered : Tree → List Label → List ℕ → Type 0
Numbered t C order = (r : ℕ) → r < length C → LeafIs t (get_or order r 0) (get_or C r [])
