-- Labels as lists of decoded bytes, and their order. 01, "Tree text"; C-12: "Label order reads the decoded bytes". Token.antt has labels as
-- they are written in a text.
use Rattle.std.specs.Prelude.{ℕ, Bool, true, false, cond, ◌&&◌, ◌||◌, List, [], ◌∷◌, eqb, ltb}
use Rattle.std.specs.declared.cmp.Ordering.{Ordering}
use Rattle.std.specs.declared.cmp.Ordering.TheVariants.{Less, Equal, Greater}

abbrev pub Label : Type 0
Label = List ℕ

-- "The label's capacity becomes 32 bytes wherever a label is stored" (C-14)
abbrev pub label_limit : ℕ
label_limit = 32

-- labels are equal byte for byte; keys of an edition are compared in the same way
unfoldable pub same_label : Label → Label → Bool
same_label [] [] = true
same_label [] (b ∷ y) = false
same_label (a ∷ x) [] = false
same_label (a ∷ x) (b ∷ y) = eqb a b && same_label x y

-- "Label order is by byte value, a shorter label before any longer one that begins with it"
unfoldable pub label_less : Label → Label → Bool
label_less [] [] = false
label_less [] (b ∷ y) = true
label_less (a ∷ x) [] = false
label_less (a ∷ x) (b ∷ y) = ltb a b || (eqb a b && label_less x y)

-- the three outcomes of a comparison
unfoldable pub order_of : Label → Label → Ordering
order_of x y = cond (label_less x y) Less (cond (label_less y x) Greater Equal)

unfoldable pub is_in : Label → List Label → Bool
is_in x [] = false
is_in x (y ∷ ys) = same_label x y || is_in x ys

-- no label occurs twice
unfoldable pub distinct : List Label → Bool
distinct [] = true
distinct (x ∷ xs) = cond (is_in x xs) false (distinct xs)
