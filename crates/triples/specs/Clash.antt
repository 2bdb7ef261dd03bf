-- The first three labels with different closer pairs ("that clash"), by their ranks. 01, row 8 of "Why a job is turned down": "Number 8
-- names the first such three, sorted, compared label by label".
use Rattle.std.specs.Prelude.{ℕ, suc, ◌<◌, ◌≡◌, cond, Option, Some, None, List, [], ◌∷◌}
use Rattle.std.proofs.Math.Option as Math
use Rattle.trees.specs.Label.{Label, same_label}
use Rattle.trees.specs.Tree.{Tree, Proper}
use Rattle.trees.specs.Arrays.{arrays_of, nodes_of}
use Rattle.agreement.specs.Answer as Answer
use Rattle.leaves.specs.Numbered.{Numbered}
use Rattle.triples.specs.declared.Indices.{Indices}

-- how many labels are before x in the list
unfoldable pub rank_of : List Label → Label → ℕ
rank_of [] x = 0
rank_of (y ∷ ys) x = cond (same_label x y) 0 (suc (rank_of ys x))

-- the ranks of three labels
unfoldable pub clash_ranks : List Label → Math.Option Answer.Three → Option Indices
unfolding rank_of
clash_ranks xs Math.none = None
clash_ranks xs (Math.some c) = Some (record { first = rank_of xs c.one; second = rank_of xs c.two; third = rank_of xs c.three })

-- a tree by its left children, with the leaves that have the list's labels
pub record RankedTree (t : Tree) (xs : List Label) (left : List ℕ) (nodes : ℕ) (leaf : List ℕ) : Type 0 where
  pub proper : Proper t
  pub children : left ≡ (arrays_of t).left
  pub size : nodes ≡ nodes_of t
  pub numbered : Numbered t xs leaf

-- three ranks in order, or none: what holds of the result for any arrays
pub record Ranks (n : ℕ) (o : Option Indices) : Type 0 where
  pub found : (r : Indices) → o ≡ Some r → (r.first < r.second) × (r.second < r.third) × (r.third < n)
