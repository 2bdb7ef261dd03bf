-- The clauses of `restrict_tree`, of the pass over the first n nodes of arrays that have room for every node. Assumes nothing.
use Prim.Native.Nat.{ℕ, ◌<◌, ◌≤◌, min}
use mathlib.Core.Path.{◌≡◌, refl}
use mathlib.Core.Bool.{Bool}
use mathlib.Core.List.{List}
use native.Mathlib.Omega.{arith}
use lib.ListN.{get_or}
use Rattle.trees.specs.declared.TreeArrays.{TreeArrays}
use Rattle.trees.specs.Tree.{Tree}
use Rattle.trees.specs.Arrays.{node_limit, tree_of, no_leaf, one_tree}
use Rattle.restriction.specs.Kept.{kept_standing}
use Rattle.restriction.specs.KeptMachine.{Pass, start_of, arrays_at, pass_of, nodes_kept}
use Rattle.restriction.proofs.PassLaws.{Sized}
use Rattle.restriction.proofs.LeafLaws.{owned_start, result_own, result_fits}
use Rattle.restriction.proofs.RestrictionLaws.{pass_stands, pass_empty}

pub record Restricted (a : TreeArrays) (kept : List Bool) (r : TreeArrays) : Type 0 where
  pub tree : (text : List ℕ) (t : Tree) → tree_of a text ≡ one_tree t → tree_of r text ≡ kept_standing a text kept
  pub empty : (text : List ℕ) → tree_of a text ≡ no_leaf → tree_of r text ≡ no_leaf
  pub leaves : (u : ℕ) → u < r.nodes → get_or r.left u 0 ≡ u → get_or r.right u 0 ≡ u
  pub fits : r.nodes ≤ 159

pub restricted : (a : TreeArrays) (kept : List Bool) → Sized (start_of a) → (s : Pass) (n m : ℕ) → n ≡ min a.nodes node_limit
    → s ≡ pass_of (start_of a) kept n → m ≡ nodes_kept s.moved n → Restricted a kept (arrays_at m s)
restricted a kept z s n m d e c =
    let o = owned_start (start_of a) refl z in
    record {
      tree = pass_stands a kept z s n m d e c;
      empty = pass_empty a kept z s n m d e c;
      leaves = result_own (start_of a) kept o n m (omega arith) s e c;
      fits = result_fits (start_of a) kept o n m (omega arith) s e c;
    }
