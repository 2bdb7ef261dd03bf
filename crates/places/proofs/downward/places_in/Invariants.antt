-- `downward::places_in` meets its contract. Assumes nothing.
use Prim.Native.Nat.{ℕ}
use lib.ListN.{length}
use mathlib.Core.List.{List}
use mathlib.Core.Path.{◌≡◌}
use Rattle.trees.specs.Arrays.{nodes_of}
use Rattle.trees.specs.Label.{Label}
use Rattle.trees.specs.Tree.{Tree}
use Rattle.places.proofs.DownwardLaws.{Reaching}
use Rattle.places.specs.Nodes.{TreeRanks, BelowIs, manys, leasts, numbers, tops}
use Rattle.places.proofs.downward.places_in.Given as goal

abbrev pub invariant-loop-u : goal.invariant-loop-u
invariant-loop-u l = record {
  size : length l.places ≡ 159;
  right : (t : Tree) (C K : List Label) (rank : List ℕ) (m : ℕ) (ks : List ℕ) → TreeRanks t C K l.tree rank m ks
      → BelowIs t C K (nodes_of t) (manys l.below) (leasts l.below) → l.count ≡ length K
      → Reaching t C K l.tree l.u (numbers l.places) (tops l.places);
}
