-- The marked labels of a list by rank: gathered, named, and compared with those of another list. Intermediate: nothing public rests on this text.
use Rattle.std.specs.Prelude.{ℕ, zero, suc, ◌+◌, ◌-◌, ◌<◌, ◌≤◌, min, ◌≡◌, cond, List, [], ◌∷◌, eqb, length, get_or, set}
use Rattle.mast.specs.declared.NamedLabel.{NamedLabel}

-- of n ranks from r on those that are marked
unfoldable pub ranks_from : List ℕ → ℕ → ℕ → List ℕ
ranks_from number r zero = []
ranks_from number r (suc n) = cond (eqb (get_or number r 0) 0) (ranks_from number (suc r) n) (r ∷ ranks_from number (suc r) n)

-- the array begins with the list
pub record Entries (xs array : List ℕ) : Type 0 where
  pub each : (i : ℕ) → i < length xs → get_or array i 0 ≡ get_or xs i 0

-- one rank is stored behind n others exactly if it is marked
pub record Added (n number r : ℕ) (old : List ℕ) (k : ℕ) (new : List ℕ) : Type 0 where
  pub count : k ≡ cond (eqb number 0) n (n + 1)
  pub stored : new ≡ cond (eqb number 0) old (set old n r)

-- label i of the marked ones has a rank, a number in the list and a leaf: what keeps indices in range
pub record Nameable (number ranks leaf1 : List ℕ) (i : ℕ) : Type 0 where
  pub small : i < 80
  pub rank_small : get_or ranks i 0 < 81
  pub some_number : 0 < get_or number (get_or ranks i 0) 0
  pub number_small : get_or number (get_or ranks i 0) 0 ≤ 80
  pub leaf_small : get_or leaf1 i 0 < 159

-- label i by its place in the list, and its place and size in the first tree's text
abbrev pub named_at : List ℕ → List ℕ → List ℕ → List ℕ → List ℕ → List ℕ → ℕ → NamedLabel
named_at starts number ranks start1 size1 leaf1 i =
    record {
      place = get_or starts (get_or number (get_or ranks i 0) 0 - 1) 0;
      start = get_or start1 (get_or leaf1 i 0) 0;
      size = get_or size1 (get_or leaf1 i 0) 0;
    }

-- Smallest index so far of a required label that the other list lacks. `number` and `other` are the label's position in each list, counted
-- from 1; 0 means the list does not contain it.
unfoldable pub nearer_of : ℕ → ℕ → ℕ → ℕ
nearer_of best number other = cond (eqb number 0) best (cond (eqb other 0) (min best (number - 1)) best)

-- the smallest such index over the first m ranks, or `count`
unfoldable pub least_missing : List ℕ → List ℕ → ℕ → ℕ → ℕ
unfolding nearer_of
least_missing number other zero count = count
least_missing number other (suc m) count = nearer_of (least_missing number other m count) (get_or number m 0) (get_or other m 0)
