-- The items one after another are the `at` lines of the pieces that they make. Assumes nothing.
use Prim.Native.Nat.{ℕ, zero, suc, ◌+◌, ◌≤◌}
use mathlib.Core.Path.{◌≡◌, refl, sym, ◌∙◌, ap, ap₂}
use mathlib.Core.Bool.{Bool, true, false, cond}
use mathlib.Core.List.{List, [], ◌∷◌, ◌++◌, append_assoc, append-nil}
use native.Mathlib.Omega.{arith}
use native.Mathlib.Numerals.{add-one}
use lib.Dec.{eqb}
use lib.ListN.{length, get_or, length-append}
use borrow.Author.Tests.{ne_eqb}
use Rattle.trees.specs.Token.{Token}
use Rattle.trees.specs.Words.{bytes_of}
use Rattle.lists.specs.ReadList.{joined}
use Rattle.decimals.specs.Decimal.{decimal_of}
use Rattle.contents.specs.Contents.{line}
use Rattle.pieces.specs.Pieces.{Piece, total}
use Rattle.lines.specs.Areas.{Put}
use Rattle.division.specs.declared.PiecePlace.{PiecePlace}
use Rattle.division.specs.PiecesAt.{no_piece}
use Rattle.lines.specs.PieceLines.{item_in, items_in, pieces_lines, at_line, at_lines, LineItem, Grouped, with_item, grouped, unmarked, pieces_from}
use Rattle.lines.specs.ItemText.{head_text, leaf_text, item_text, run_text, last_head, is_none}
use Rattle.lines.proofs.AreaLaws.{put_same, put_then, put_as}

-- one item more
pub run_snoc : (first after : Bool) (xs : List LineItem) (x : LineItem)
    → run_text first after (xs ++ (x ∷ [])) ≡ run_text first after xs ++ item_text (cond (is_none xs) first false) (last_head after xs) x
unfolding run_text last_head
run_snoc first after [] x = append-nil (item_text first after x)
run_snoc first after (y ∷ xs) x =
    ap (λ (l : List ℕ). item_text first after y ++ l) (run_snoc false y.head xs x ∙ settle xs)
    ∙ sym (append_assoc (item_text first after y) (run_text false y.head xs) (item_text false (last_head y.head xs) x))
  where
    settle : (zs : List LineItem)
        → run_text false y.head xs ++ item_text (cond (is_none zs) false false) (last_head y.head xs) x
        ≡ run_text false y.head xs ++ item_text false (last_head y.head xs) x
    settle [] = refl
    settle (z ∷ zs) = refl

pub last_snoc : (after : Bool) (xs : List LineItem) (x : LineItem) → last_head after (xs ++ (x ∷ [])) ≡ x.head
unfolding last_head
last_snoc after [] x = refl
last_snoc after (y ∷ xs) x = last_snoc y.head xs x

-- leaves after a label: the first has no comma after a mark
leaves_text : Bool → List Token → List ℕ
leaves_text true xs = joined xs
leaves_text false [] = []
leaves_text false (x ∷ xs) = 44 ∷ (x ++ leaves_text false xs)

joined_leaves : (x : Token) (xs : List Token) → joined (x ∷ xs) ≡ x ++ leaves_text false xs
unfolding joined leaves_text
joined_leaves x [] = sym (append-nil x)
joined_leaves x (y ∷ ys) = ap (λ (l : List ℕ). x ++ (44 ∷ l)) (joined_leaves y ys)

abbrev end : List ℕ
end = 10 ∷ []

head_opens : (a : Bool) (t : Token) (ls : List Token) (ps : List Piece)
    → head_text false t ++ (leaves_text true ls ++ (end ++ at_lines ps))
    ≡ leaves_text a [] ++ (end ++ at_lines (record { required = t ∷ []; others = ls } ∷ ps))
unfolding head_text leaves_text at_lines at_line joined line bytes_of
head_opens true t ls ps = simp append_assoc
head_opens false t ls ps = simp append_assoc

leaf_goes : (a : Bool) (t : Token) (ls : List Token) (rest : List ℕ)
    → leaf_text false a t ++ (leaves_text false ls ++ rest) ≡ leaves_text a (t ∷ ls) ++ rest
unfolding leaf_text leaves_text
leaf_goes true t ls rest = sym (append_assoc t (leaves_text false ls) rest) ∙ ap (λ (l : List ℕ). l ++ rest) (sym (joined_leaves t ls))
leaf_goes false t ls rest = ap (λ (l : List ℕ). 44 ∷ l) (sym (append_assoc t (leaves_text false ls) rest))

head_first : (t : Token) (ls : List Token) (ps : List Piece)
    → head_text true t ++ (leaves_text true ls ++ (end ++ at_lines ps)) ≡ at_lines (record { required = t ∷ []; others = ls } ∷ ps)
unfolding head_text leaves_text at_lines at_line joined line bytes_of
head_first t ls ps = simp append_assoc

leaf_first : (t : Token) (ls : List Token) (ps : List Piece)
    → leaf_text true false t ++ (leaves_text false ls ++ (end ++ at_lines ps)) ≡ at_lines (record { required = []; others = t ∷ ls } ∷ ps)
unfolding leaf_text at_lines at_line joined line bytes_of
leaf_first t ls ps =
    ap (λ (l : List ℕ). bytes_of "at  " ++ l)
    (sym (append_assoc t (leaves_text false ls) (end ++ at_lines ps)) ∙ ap (λ (l : List ℕ). l ++ (end ++ at_lines ps)) (sym (joined_leaves t ls))) ∙ simp append_assoc

-- what is left of a line that is open, with its end and the lines after it
run_rest : (after : Bool) (xs : List LineItem)
    → run_text false after xs ++ end ≡ leaves_text after (grouped xs).leaves ++ (end ++ at_lines (grouped xs).pieces)
unfolding run_text grouped at_lines leaves_text joined
run_rest true [] = refl
run_rest false [] = refl
run_rest after (x ∷ xs) = go after x.head (run_rest x.head xs)
  where
    t : Token
    t = x.token

    G : Grouped
    G = grouped xs

    go : (a h : Bool) → run_text false h xs ++ end ≡ leaves_text h G.leaves ++ (end ++ at_lines G.pieces)
        → (cond h (head_text false t) (leaf_text false a t) ++ run_text false h xs) ++ end
        ≡ leaves_text a (with_item h t G).leaves ++ (end ++ at_lines (with_item h t G).pieces)
    go a true ih =
        append_assoc (head_text false t) (run_text false true xs) end
        ∙ ap (λ (l : List ℕ). head_text false t ++ l) ih
        ∙ head_opens a t G.leaves G.pieces
    go a false ih =
        append_assoc (leaf_text false a t) (run_text false false xs) end
        ∙ ap (λ (l : List ℕ). leaf_text false a t ++ l) ih
        ∙ leaf_goes a t G.leaves (end ++ at_lines G.pieces)

-- the lines of the pieces, if there is an item
pub run_lines : (xs : List LineItem) → run_text true false xs ++ cond (is_none xs) [] end ≡ at_lines (pieces_from xs)
unfolding run_text pieces_from unmarked grouped at_lines
run_lines [] = refl
run_lines (x ∷ xs) = go x.head (run_rest x.head xs)
  where
    t : Token
    t = x.token

    G : Grouped
    G = grouped xs

    go : (h : Bool) → run_text false h xs ++ end ≡ leaves_text h G.leaves ++ (end ++ at_lines G.pieces)
        → (cond h (head_text true t) (leaf_text true false t) ++ run_text false h xs) ++ end
        ≡ at_lines (unmarked (with_item h t G).leaves (with_item h t G).pieces)
    go true ih =
        append_assoc (head_text true t) (run_text false true xs) end
        ∙ ap (λ (l : List ℕ). head_text true t ++ l) ih
        ∙ head_first t G.leaves G.pieces
    go false ih =
        append_assoc (leaf_text true false t) (run_text false false xs) end
        ∙ ap (λ (l : List ℕ). leaf_text true false t ++ l) ih
        ∙ leaf_first t G.leaves G.pieces

-- ---- the total is the number of items

grouped_count : (xs : List LineItem) → length (grouped xs).leaves + total (grouped xs).pieces ≡ length xs
unfolding grouped total
grouped_count [] = refl
grouped_count (x ∷ xs) = go x.head (grouped_count xs)
  where
    go : (h : Bool) → length (grouped xs).leaves + total (grouped xs).pieces ≡ length xs
        → length (with_item h x.token (grouped xs)).leaves + total (with_item h x.token (grouped xs)).pieces ≡ suc (length xs)
    go true e = omega (arith, e)
    go false e = omega (arith, e)

unmarked_count : (xs : List Token) (ps : List Piece) → total (unmarked xs ps) ≡ length xs + total ps
unfolding unmarked total
unmarked_count [] ps = omega arith
unmarked_count (x ∷ xs) ps = omega arith

pub labels_on : (xs : List LineItem) → total (pieces_from xs) ≡ length xs
unfolding pieces_from
labels_on xs = unmarked_count (grouped xs).leaves (grouped xs).pieces ∙ grouped_count xs

-- ---- how long an item gets

pub break_short : (first : Bool) → length (cond first [] end) ≤ 1
break_short true = omega arith
break_short false = omega arith

pub before_short : (first after : Bool) → length (cond first (bytes_of "at  ") (cond after [] (44 ∷ []))) ≤ 4
unfolding bytes_of
before_short true after = omega arith
before_short false true = omega arith
before_short false false = omega arith

pub item_long : (first after : Bool) (x : LineItem) → length (item_text first after x) ≤ length x.token + 5
unfolding item_text head_text leaf_text bytes_of
item_long first after x = go x.head
  where
    go : (h : Bool)
        → length (cond h (head_text first x.token) (leaf_text first after x.token)) ≤ length x.token + 5
    go true =
        omega (arith, length-append (cond first [] end) (bytes_of "at " ++ (x.token ++ (32 ∷ []))), length-append x.token (32 ∷ []), break_short first)
    go false =
        omega (arith, length-append (cond first (bytes_of "at  ") (cond after [] (44 ∷ []))) x.token, before_short first after)

-- ---- one item more, by places

module _ (text : List ℕ) (items : List PiecePlace) where
  abbrev pub item_at : ℕ → LineItem
  item_at n = item_in text (get_or items n no_piece)

  abbrev pub items_to : ℕ → List LineItem
  items_to n = items_in text items n

  snoc_some : (xs : List LineItem) (x : LineItem) → is_none (xs ++ (x ∷ [])) ≡ false
  snoc_some [] x = refl
  snoc_some (y ∷ ys) x = refl

  none_at : (n : ℕ) → cond (is_none (items_to n)) true false ≡ eqb n 0
  unfolding items_in
  none_at zero = refl
  none_at (suc n) = ap (λ (b : Bool). cond b true false) (snoc_some (items_to n) (item_at n)) ∙ sym (ne_eqb (suc n) 0 (λ e. omega arith))

  pub items_next : {a b d : List ℕ} {at i j : ℕ} (n : ℕ) → Put a at (run_text true false (items_to n)) i b
      → Put b i (item_text (eqb n 0) (last_head false (items_to n)) (item_at n)) j d → Put a at (run_text true false (items_to (n + 1))) j d
  unfolding items_in
  items_next n p q =
      put_as (run_text true false (items_to n) ++ item_text (eqb n 0) (last_head false (items_to n)) (item_at n)) (run_text true false (items_to (n + 1)))
      (ap (λ (f : Bool). run_text true false (items_to n) ++ item_text f (last_head false (items_to n)) (item_at n)) (sym (none_at n))
      ∙ sym (run_snoc true false (items_to n) (item_at n)) ∙ ap (λ (k : ℕ). run_text true false (items_to k)) (sym (add-one n)))
      (put_then p q)

  pub last_next : (n : ℕ) → last_head false (items_to (n + 1)) ≡ (get_or items n no_piece).head
  unfolding items_in
  last_next n = ap (λ (k : ℕ). last_head false (items_to k)) (add-one n) ∙ last_snoc false (items_to n) (item_at n)

  pub items_none : (a : List ℕ) (at : ℕ) → Put a at (run_text true false (items_to 0)) at a
  unfolding items_in run_text
  items_none a at = put_same a at

  pub last_none : last_head false (items_to 0) ≡ false
  unfolding items_in last_head
  last_none = refl

  pub items_count : (n : ℕ) → length (items_to n) ≡ n
  unfolding items_in
  items_count zero = refl
  items_count (suc n) = length-append (items_to n) (item_at n ∷ []) ∙ ap (λ (k : ℕ). k + 1) (items_count n) ∙ add-one n

  ended : (n : ℕ) → cond (is_none (items_to n)) [] end ≡ cond (eqb n 0) [] end
  ended n = go (is_none (items_to n)) (none_at n)
    where
      go : (b : Bool) → cond b true false ≡ eqb n 0 → cond b [] end ≡ cond (eqb n 0) [] end
      go true e = ap (λ (q : Bool). cond q [] end) e
      go false e = ap (λ (q : Bool). cond q [] end) e

  -- the parts of the lines, one after another
  pub pieces_parts : (n : ℕ)
      → bytes_of "pieces " ++ decimal_of n ++ end ++ run_text true false (items_to n) ++ cond (eqb n 0) [] end ≡ pieces_lines (pieces_from (items_to n))
  unfolding pieces_lines line
  pieces_parts n =
      append_assoc (bytes_of "pieces " ++ decimal_of n ++ end) (run_text true false (items_to n)) (cond (eqb n 0) [] end)
      ∙ ap₂ (λ (k : ℕ) (l : List ℕ). (bytes_of "pieces " ++ decimal_of k ++ end) ++ l)
      (sym (labels_on (items_to n) ∙ items_count n))
      (ap (λ (l : List ℕ). run_text true false (items_to n) ++ l) (sym (ended n)) ∙ run_lines (items_to n))

pub end_short : (n : ℕ) → length (cond (eqb n 0) [] end) ≤ 1
end_short n = break_short (eqb n 0)
