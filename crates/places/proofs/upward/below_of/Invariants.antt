-- `upward::below_of` meets its contract. Assumes nothing.
use lib.ListN.{length}
use mathlib.Core.List.{List}
use mathlib.Core.Path.{◌≡◌}
use Rattle.trees.specs.Label.{Label}
use Rattle.trees.specs.Tree.{Tree}
use Rattle.places.specs.Nodes.{TreeRanks, BelowIs, manys, leasts}
use Rattle.places.proofs.upward.below_of.Given as goal

abbrev pub invariant-loop-u : goal.invariant-loop-u
invariant-loop-u l = record {
  size : length l.below ≡ 159;
  right : (t : Tree) (C K : List Label) → TreeRanks t C K l.tree l.rank l.m l.number → BelowIs t C K l.u (manys l.below) (leasts l.below);
}
