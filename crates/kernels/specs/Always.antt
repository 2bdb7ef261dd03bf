-- C-18: "the leaves that stand in every largest set for this job, in label order (with K empty, source document 000's kernel). A leaf is
-- listed exactly if no largest set does without it, ties included". 000, section 2: the kernel is "the intersection of the leaf sets of all
-- MASTs".
use Rattle.std.specs.Prelude.{ℕ, ◌≤◌, ◌≡◌, Bool, true, false, cond, List, [], ◌∷◌, eqb, length}
use Rattle.trees.specs.Label.{Label, is_in}
use Rattle.trees.specs.Tree.{Tree}
use Rattle.agreement.specs.Sets.{increasing, common, keep, sublists}
use Rattle.agreement.specs.Answer.{allowed, largest_set}
use Rattle.agreement.specs.Demand.{Allowed}

-- ---- over every set

-- a largest set, be it the first or not
pub record IsLargest (s t : Tree) (K X : List Label) : Type 0 where
  pub allowed_set : Allowed s t K X
  -- no larger such set exists
  pub largest_size : (Y : List Label) → Allowed s t K Y → length Y ≤ length X

-- the leaves that every largest set holds
pub record IsAlways (s t : Tree) (K A : List Label) : Type 0 where
  -- in label order, each once
  pub ordered : increasing A ≡ true
  -- a leaf that is listed is in every largest set
  pub held : (x : Label) → is_in x A ≡ true → (X : List Label) → IsLargest s t K X → is_in x X ≡ true
  -- some largest set does without a leaf that is not
  pub missed : (x : Label) → is_in x A ≡ false → (X : List Label) × IsLargest s t K X × (is_in x X ≡ false)

-- ---- by trying all sets

-- the label is in each of these sets
unfoldable pub in_each : List (List Label) → Label → Bool
unfolding is_in
in_each [] x = true
in_each (Y ∷ Ys) x = cond (is_in x Y) (in_each Ys x) false

-- the sets of this size
unfoldable pub of_size : ℕ → List (List Label) → List (List Label)
of_size n [] = []
of_size n (X ∷ Xs) = cond (eqb (length X) n) (X ∷ of_size n Xs) (of_size n Xs)

-- all largest sets
unfoldable pub largest_sets : Tree → Tree → List Label → List (List Label)
unfolding of_size largest_set allowed sublists common
largest_sets s t K = of_size (length (largest_set s t K)) (allowed s t K (sublists (common s t)))

-- the labels of the answer that are in each of them
unfoldable pub always : Tree → Tree → List Label → List Label
unfolding keep in_each largest_sets largest_set
always s t K = keep (in_each (largest_sets s t K)) (largest_set s t K)
