-- How many leaves a tree has. Assumes nothing.
use Prim.Native.Nat.{◌+◌, ◌≤◌}
use mathlib.Core.Path.{◌≡◌}
use native.Mathlib.Omega.{arith}
use lib.ListN.{length, length-append}
use Rattle.trees.specs.Tree.{Tree, leaf, node, leaves}

pub leaves_node : (a b : Tree) → length (leaves (node a b)) ≡ length (leaves a) + length (leaves b)
unfolding leaves
leaves_node a b = length-append (leaves a) (leaves b)

pub leaves_some : (t : Tree) → 1 ≤ length (leaves t)
leaves_some (leaf x) = unfold leaves in omega arith
leaves_some (node a b) = omega (arith, leaves_node a b, leaves_some a)
