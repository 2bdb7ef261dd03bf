-- The greatest weight of a set on which two trees agree, stated over every set. 01, "Agreement"; 001, section 3.
use Rattle.std.specs.Prelude.{ℕ, ◌≤◌, ◌≡◌, Bool}
use Rattle.trees.specs.Label.{Label}
use Rattle.trees.specs.Tree.{Tree}
use Rattle.agreement.specs.Closer.{Agree, Common}
use Rattle.agreement.specs.Weights.{weight_in}

-- some set of common leaves on which the trees agree has this weight, and none has more
pub record Greatest (w : Label → ℕ) (s t : Tree) (M : ℕ) : Type 0 where
  pub bound : (X : Label → Bool) → Common s t X → Agree s t X → weight_in w s X ≤ M
  pub set : Label → Bool
  pub common_leaves : Common s t set
  pub agreed : Agree s t set
  pub reached : weight_in w s set ≡ M
