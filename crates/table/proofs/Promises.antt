-- What the table promises: the result of `largest_set`, which its contract states by `Solved`, meets demand 3. Each proof cites one name.
-- Assumes nothing.
use Rattle.std.proofs.Common.{◌≡◌, ℕ, Bool, true, Option, Some, None, ◌↔◌, List, length}
use Rattle.trees.specs.Label.{Label, distinct}
use Rattle.trees.specs.Tree.{Tree, Proper}
use Rattle.trees.specs.declared.Edition.{Edition}
use Rattle.trees.specs.Edition.{keyed, ValidIn}
use Rattle.trees.specs.Arrays.{arrays_of}
use Rattle.agreement.specs.Closer.{Common}
use Rattle.agreement.specs.Sets.{common, set_of}
use Rattle.agreement.specs.Demand.{IsAnswer, Clash}
use Rattle.table.specs.Choice.{Ranked, Given, chosen_from, Solved}
use Rattle.table.proofs.ColumnLaws.{given_in}
use Rattle.table.proofs.SolveLaws.{set_told, eight_told}

-- The arrays of a tree that was read meet what `largest_set` takes for granted.
pub read_is_given : (e : Edition) (t : Tree) (C : List Label) (rank : List ℕ) → ValidIn e t → Ranked (keyed e t) C rank
    → Given (keyed e t) C (arrays_of t) rank
read_is_given = given_in

module _ (s t : Tree) (K : List Label) (proper : Proper s) (different : distinct K ≡ true) (size : Option ℕ) (chosen : List Bool)
    (solved : Solved s t K size chosen) where
  -- "Largest is meant over all sets of common leaves that contain the required ones and on which the trees agree": the chosen labels are
  -- the answer.
  pub chosen_promise : (n : ℕ) → size ≡ Some n → IsAnswer s t K (chosen_from chosen 0 (common s t))
  chosen_promise = set_told s t K proper different size chosen solved

  -- 8 exactly if three required labels have different closer pairs.
  pub eight_promise : Common s t (set_of K) → (size ≡ None) ↔ ((a : Label) × (b : Label) × (c : Label) × Clash s t K a b c)
  eight_promise = eight_told s t K proper different size chosen solved

  -- C-16, "the largest size"
  pub size_promise : (n : ℕ) → size ≡ Some n → n ≡ length (chosen_from chosen 0 (common s t))
  size_promise = solved.count
