-- `lines::by_rank` meets its contract. Assumes nothing.
use Prim.Native.Nat.{ℕ}
use lib.ListN.{length}
use mathlib.Core.List.{List}
use mathlib.Core.Path.{◌≡◌}
use Rattle.trees.specs.Label.{Label}
use Rattle.trees.specs.Tree.{Tree}
use Rattle.places.specs.Nodes.{TreeRanks, ValuesByRank, numbers, tops}
use Rattle.places.proofs.lines.by_rank.Given as goal

abbrev pub invariant-loop-u : goal.invariant-loop-u
invariant-loop-u l = record {
  size : length l.out ≡ 81;
  right : (t : Tree) (C K : List Label) (m : ℕ) (ks : List ℕ) → TreeRanks t C K l.tree l.rank m ks
      → ValuesByRank t C l.u (numbers l.places) (numbers l.out) × ValuesByRank t C l.u (tops l.places) (tops l.out);
}
