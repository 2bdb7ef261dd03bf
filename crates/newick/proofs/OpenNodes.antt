-- The open `(` of a reading as the text, the nodes and the labels that they stand for, and how many there can be.
-- Assumes nothing.
use Prim.Native.Nat.{ℕ, ◌+◌, ◌*◌, ◌≤◌}
use mathlib.Core.Path.{◌≡◌, refl}
use mathlib.Core.List.{List, [], ◌∷◌, ◌++◌}
use native.Mathlib.Omega.{arith}
use lib.ListN.{length, length-append}
use Rattle.trees.specs.Bytes.{open_byte, comma_byte, quote_byte}
use Rattle.trees.specs.Label.{Label}
use Rattle.trees.specs.Tree.{Tree, leaf, node, leaves}
use Rattle.trees.specs.Text.{written, text_of}
use Rattle.trees.specs.Arrays.{nodes_of}
use Rattle.newick.specs.ReadTree.{Opened, first, second, Phase, node_due, in_label, in_quotes, after_node, ended}

-- the `(` of a tree
unfoldable pub inner : Tree → ℕ
inner (leaf x) = 0
inner (node a b) = inner a + inner b + 1

pub nodes_inner : (t : Tree) → nodes_of t ≡ 2 * inner t + 1
unfolding inner nodes_of
nodes_inner (leaf x) = refl
nodes_inner (node a b) = omega (arith, nodes_inner a, nodes_inner b)

pub leaves_inner : (t : Tree) → length (leaves t) ≡ inner t + 1
unfolding inner leaves
leaves_inner (leaf x) = refl
leaves_inner (node a b) = omega (arith, length-append (leaves a) (leaves b), leaves_inner a, leaves_inner b)

-- the text up to the place where the innermost `(` is being read, the nodes and leaves complete by then, the `(` read
unfoldable pub text_in : List Opened → List ℕ
text_in [] = []
text_in (first ∷ s) = text_in s ++ (open_byte ∷ [])
text_in (second t ∷ s) = text_in s ++ (open_byte ∷ (written t ++ (comma_byte ∷ [])))

unfoldable pub nodes_in : List Opened → ℕ
nodes_in [] = 0
nodes_in (first ∷ s) = nodes_in s
nodes_in (second t ∷ s) = nodes_in s + nodes_of t

unfoldable pub leaves_in : List Opened → List Label
leaves_in [] = []
leaves_in (first ∷ s) = leaves_in s
leaves_in (second t ∷ s) = leaves_in s ++ leaves t

unfoldable pub opens_in : List Opened → ℕ
unfolding inner
opens_in [] = 0
opens_in (first ∷ s) = opens_in s + 1
opens_in (second t ∷ s) = opens_in s + 1 + inner t

-- where the second child's text starts
pub second_place : (a : Tree) (s : List Opened) → length (text_in (second a ∷ s)) ≡ length (text_in s) + 1 + length (written a) + 1
unfolding text_in
second_place a s = simp length-append (omega arith)

-- bounds on nodes and depth by the `(` read
pub nodes_bound : (s : List Opened) → nodes_in s + length s ≤ 2 * opens_in s
unfolding nodes_in opens_in
nodes_bound [] = omega arith
nodes_bound (first ∷ s) = omega (arith, nodes_bound s)
nodes_bound (second t ∷ s) = omega (arith, nodes_bound s, nodes_inner t)

pub depth_bound : (s : List Opened) → length s ≤ opens_in s
unfolding opens_in
depth_bound [] = omega arith
depth_bound (first ∷ s) = omega (arith, depth_bound s)
depth_bound (second t ∷ s) = omega (arith, depth_bound s)

-- what the phase adds: text, `(`, nodes
abbrev pub heading : Phase → List ℕ
heading node_due = []
heading (in_label x) = x
heading (in_quotes x) = quote_byte ∷ x
heading (after_node t) = written t
heading (ended t) = text_of t

abbrev pub opens_here : Phase → ℕ
opens_here node_due = 0
opens_here (in_label x) = 0
opens_here (in_quotes x) = 0
opens_here (after_node t) = inner t
opens_here (ended t) = inner t

abbrev pub nodes_here : Phase → ℕ
nodes_here node_due = 0
nodes_here (in_label x) = 0
nodes_here (in_quotes x) = 0
nodes_here (after_node t) = nodes_of t
nodes_here (ended t) = nodes_of t

-- the labels that are complete, as they stand in the text
abbrev pub labels_by : List Opened → Phase → List Label
labels_by s node_due = leaves_in s
labels_by s (in_label x) = leaves_in s
labels_by s (in_quotes x) = leaves_in s
labels_by s (after_node t) = leaves_in s ++ leaves t
labels_by s (ended t) = leaves_in s ++ leaves t
