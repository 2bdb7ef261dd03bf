-- A number for each label, by which a reader sees at once that most labels are new. Intermediate: of public contracts only those of
-- `slot`, `first_marks` and `is_met` cite it. With any other function of a label to the slots the readers would answer the same;
-- `marked_search` in Promises ties it to `is_among`.
use Rattle.std.specs.Prelude.{ℕ, ◌+◌, ◌*◌, ◌%◌, ◌≡◌, Bool, true, List, [], ◌∷◌, ltb, length, get_or, set, replicate}
use Rattle.trees.specs.Label.{Label}
use Rattle.trees.specs.Token.{spelling}
use Rattle.trees.specs.Stored.{leaf_label}

abbrev pub slot_count : ℕ
slot_count = 1024

-- n so far, then the bytes one after the other
unfoldable pub slot_from : ℕ → Label → ℕ
slot_from n [] = n
slot_from n (b ∷ x) = slot_from ((n * 139 + b) % slot_count) x

unfoldable pub slot_of : Label → ℕ
unfolding slot_from
slot_of x = slot_from 0 x

unfoldable pub is_marked : List ℕ → ℕ → Bool
is_marked seen k = ltb 0 (get_or seen k 0)

-- arrays of m starts and sizes, and a mark for the slot of every part that they name
pub record SlotMarks (m : ℕ) (text start size seen : List ℕ) : Type 0 where
  pub starts : length start ≡ m
  pub sizes : length size ≡ m
  pub slots : length seen ≡ slot_count
  pub each : (u : ℕ) → is_marked seen (slot_of (spelling (leaf_label text start size u))) ≡ true

-- a mark for the label of no bytes: before an entry is filled, its part has none
unfoldable pub first_marks : List ℕ
first_marks = set (replicate slot_count 0) 0 1
