-- The list of ranks as it is stored line by line. Intermediate: nothing public rests on this text.
use Rattle.std.specs.Prelude.{ℕ, zero, suc, ◌<◌, min, ◌≡◌, true, false, cond, List, [], ◌∷◌, ◌++◌, eqb, ltb, length, get_or, Option, Some, None}
use Rattle.places.specs.declared.Mark.{Mark}
use Rattle.places.specs.declared.PieceList.{PieceList}
use Rattle.places.specs.PieceRanks.{no_mark}

-- the leaves of line j among the first ranks
unfoldable pub leaf_marks : List ℕ → ℕ → ℕ → List Mark
leaf_marks line j zero = []
leaf_marks line j (suc r) = leaf_marks line j r ++ cond (eqb (get_or line r 0) j) (record { rank = r; head = false } ∷ []) []

-- the head of a line, by its rank; none if it is 80
unfoldable pub head_marks : ℕ → List Mark
head_marks h = cond (ltb h 80) (record { rank = h; head = true } ∷ []) []

-- line j with its stored head; nothing if it has none, for lack of a leaf
unfoldable pub line_marks : List ℕ → ℕ → ℕ → Option ℕ → List Mark
unfolding head_marks leaf_marks
line_marks line m j None = []
line_marks line m j (Some h) = head_marks h ++ leaf_marks line j m

-- the first n lines
unfoldable pub marks_to : List ℕ → List (Option ℕ) → ℕ → ℕ → List Mark
unfolding line_marks
marks_to line heads m zero = []
marks_to line heads m (suc j) = marks_to line heads m j ++ line_marks line m j (get_or heads j None)

-- the first entries are these marks, as many as there is room for
pub record ListHolds (list : PieceList) (marks : List Mark) : Type 0 where
  pub size : length list.items ≡ 159
  pub count_is : list.count ≡ min 159 (length marks)
  pub item_is : (i : ℕ) → i < list.count → get_or list.items i no_mark ≡ get_or marks i no_mark
