-- The `at` lines put together item by item. Intermediate: nothing public rests on this text.
use Rattle.std.specs.Prelude.{ℕ, Bool, true, false, cond, List, [], ◌∷◌, ◌++◌}
use Rattle.trees.specs.Token.{Token}
use Rattle.trees.specs.Words.{bytes_of}
use Rattle.lines.specs.PieceLines.{LineItem}

-- what an item adds: `first`, no item is before it; `after`, the one before it is marked
unfoldable pub head_text : Bool → Token → List ℕ
unfolding bytes_of
head_text first x = cond first [] (10 ∷ []) ++ (bytes_of "at " ++ (x ++ (32 ∷ [])))

unfoldable pub leaf_text : Bool → Bool → Token → List ℕ
unfolding bytes_of
leaf_text first after x = cond first (bytes_of "at  ") (cond after [] (44 ∷ [])) ++ x

unfoldable pub item_text : Bool → Bool → LineItem → List ℕ
unfolding head_text leaf_text
item_text first after x = cond x.head (head_text first x.token) (leaf_text first after x.token)

-- all of them
unfoldable pub run_text : Bool → Bool → List LineItem → List ℕ
unfolding item_text
run_text first after [] = []
run_text first after (x ∷ xs) = item_text first after x ++ run_text false x.head xs

-- whether the last item is marked
unfoldable pub last_head : Bool → List LineItem → Bool
last_head after [] = after
last_head after (x ∷ xs) = last_head x.head xs

abbrev pub is_none : List LineItem → Bool
is_none [] = true
is_none (x ∷ xs) = false
