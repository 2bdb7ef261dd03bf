-- The stored list of ranks, entry by entry and line by line, and the labels that it shows. Assumes nothing.
use Prim.Native.Nat.{ℕ, zero, suc, ◌+◌, ◌<◌, ◌≤◌}
use mathlib.Core.Path.{◌≡◌, refl, sym, ◌∙◌, ap, subst}
use mathlib.Core.Bool.{Bool, true, false, cond}
use mathlib.Core.List.{List, [], ◌∷◌, ◌++◌, append_assoc, append-nil}
use native.Mathlib.Omega.{arith}
use lib.Dec.{eqb}
use lib.ListN.{length, get_or, take}
use lib.Seq.{take-suc, take-length}
use borrow.Author.Tests.{eq-eqb, ne_eqb, lt-ltb, le-ltb}
use Rattle.std.specs.Prelude.{Option, Some, None}
use Rattle.trees.specs.Label.{Label, is_in}
use Rattle.agreement.specs.Sets.{keep}
use Rattle.agreement.proofs.KeepLaws.{keep_append}
use Rattle.pieces.specs.Pieces.{Piece, listed}
use Rattle.pieces.specs.Items.{Item, no_item, items_with, items_of}
use Rattle.places.specs.Nodes.{HeadOn, no_leaf, leaf_there}
use Rattle.places.specs.declared.Mark.{Mark}
use Rattle.places.specs.declared.PieceList.{PieceList}
use Rattle.places.specs.Marks.{leaf_marks, head_marks, line_marks, marks_to, ListHolds}
use Rattle.places.specs.PieceRanks.{no_mark}

-- the same list in another form
pub hold_as : {list : PieceList} {L M : List Mark} → L ≡ M → ListHolds list L → ListHolds list M
hold_as e h = rw (← e) h

pub leaves_none : (L : List Mark) (line : List ℕ) (j : ℕ) → L ≡ L ++ leaf_marks line j 0
unfolding leaf_marks
leaves_none L line j = sym (append-nil L)

pub leaves_next : (L : List Mark) (line : List ℕ) (j r : ℕ)
    → (L ++ leaf_marks line j r) ++ cond (eqb (get_or line r 0) j) (record { rank = r; head = false } ∷ []) [] ≡ L ++ leaf_marks line j (r + 1)
unfolding leaf_marks
leaves_next L line j r =
    let e : r + 1 ≡ suc r = omega arith in
    rw e (append_assoc L (leaf_marks line j r) (cond (eqb (get_or line r 0) j) (record { rank = r; head = false } ∷ []) []))

-- a line with its head

pub line_none : (L : List Mark) (line : List ℕ) (m j : ℕ) (h : Option ℕ) → h ≡ None → L ≡ L ++ line_marks line m j h
unfolding line_marks
line_none L line m j h e = rw e (sym (append-nil L))

pub line_bare : (L : List Mark) (line : List ℕ) (m j h : ℕ) → 80 ≤ h → L ++ leaf_marks line j m ≡ L ++ line_marks line m j (Some h)
unfolding line_marks head_marks
line_bare L line m j h l = rw (le-ltb h 80 l) refl

pub line_headed : (L : List Mark) (line : List ℕ) (m j h : ℕ) → h < 80
    → (L ++ (record { rank = h; head = true } ∷ [])) ++ leaf_marks line j m ≡ L ++ line_marks line m j (Some h)
unfolding line_marks head_marks
line_headed L line m j h l =
    rw (lt-ltb h 80 l) (append_assoc L (record { rank = h; head = true } ∷ []) (leaf_marks line j m))

pub lines_none_listed : (line : List ℕ) (heads : List (Option ℕ)) (m : ℕ) → [] ≡ marks_to line heads m 0
unfolding marks_to
lines_none_listed line heads m = refl

pub lines_next : (line : List ℕ) (heads : List (Option ℕ)) (m j : ℕ) (h : Option ℕ) → h ≡ get_or heads j None
    → marks_to line heads m j ++ line_marks line m j h ≡ marks_to line heads m (j + 1)
unfolding marks_to
lines_next line heads m j h e =
    let s : j + 1 ≡ suc j = omega arith in
    rw (s, e) refl

-- marks that show labels

pub data Shows (C : List Label) : List Mark → List Item → Type 0 where
  shows_none : Shows C [] []
  shows_one : {e : Mark} {es : List Mark} {i : Item} {is : List Item} → e.rank < length C → get_or C e.rank [] ≡ i.label
      → e.head ≡ i.head → Shows C es is → Shows C (e ∷ es) (i ∷ is)

pub shows_append : {C : List Label} {ds fs : List Mark} {is js : List Item} → Shows C ds is → Shows C fs js → Shows C (ds ++ fs) (is ++ js)
shows_append shows_none g = g
shows_append (shows_one a b c f) g = shows_one a b c (shows_append f g)

pub shows_length : {C : List Label} {ds : List Mark} {is : List Item} → Shows C ds is → length ds ≡ length is
shows_length shows_none = refl
shows_length (shows_one a b c f) = ap suc (shows_length f)

pub shows_at : {C : List Label} {ds : List Mark} {is : List Item} → Shows C ds is → (i : ℕ) → i < length ds
    → ((get_or ds i no_mark).rank < length C) × (get_or C (get_or ds i no_mark).rank [] ≡ (get_or is i no_item).label)
    × ((get_or ds i no_mark).head ≡ (get_or is i no_item).head)
shows_at shows_none i h = absurd (omega arith)
shows_at (shows_one a b c f) zero h = (a, b, c)
shows_at (shows_one a b c f) (suc i) h = shows_at f i (omega arith)

shows_nothing : {C : List Label} {ds : List Mark} {is : List Item} → ds ≡ [] → Shows C ds is → is ≡ []
shows_nothing e shows_none = refl
shows_nothing e (shows_one a b c f) = let z : ◌≡◌ {A = ℕ} 0 1 = cc in absurd (omega arith)

with_append : (b : Bool) (xs ys : List Label) → items_with b (xs ++ ys) ≡ items_with b xs ++ items_with b ys
unfolding items_with
with_append b [] ys = refl
with_append b (x ∷ xs) ys = ap (◌∷◌ (record { label = x; head = b })) (with_append b xs ys)

pub items_append : (ps qs : List Piece) → items_of (ps ++ qs) ≡ items_of ps ++ items_of qs
unfolding items_of
items_append [] qs = refl
items_append (p ∷ ps) qs =
    ap (λ (l : List Item). items_with true p.required ++ (items_with false p.others ++ l)) (items_append ps qs)
    ∙ ap (λ (l : List Item). items_with true p.required ++ l)
    (sym (append_assoc (items_with false p.others) (items_of ps) (items_of qs)))
    ∙ sym (append_assoc (items_with true p.required) (items_with false p.others ++ items_of ps) (items_of qs))

-- the leaves of a line
module _ (C : List Label) (line : List ℕ) (j : ℕ) (X : Label → Bool) where
  one_leaf : (r : ℕ) → r < length C → (b : Bool)
      → Shows C (cond b (record { rank = r; head = false } ∷ []) []) (items_with false (cond b (get_or C r [] ∷ []) []))
  unfolding items_with
  one_leaf r h true = shows_one h refl refl shows_none
  one_leaf r h false = shows_none

  pub leaves_show : (m : ℕ) → m ≤ length C → ((r : ℕ) → r < m → eqb (get_or line r 0) j ≡ X (get_or C r []))
      → Shows C (leaf_marks line j m) (items_with false (keep X (take m C)))
  unfolding leaf_marks keep items_with
  leaves_show zero h f = shows_none
  leaves_show (suc m) h f =
      let e : items_with false (keep X (take (suc m) C))
      ≡ items_with false (keep X (take m C)) ++ items_with false (cond (X (get_or C m [])) (get_or C m [] ∷ []) []) =
      ap (λ (l : List Label). items_with false (keep X l)) (take-suc C m [] (omega arith))
      ∙ ap (items_with false) (keep_append X (take m C) (get_or C m [] ∷ []))
      ∙ with_append false (keep X (take m C)) (cond (X (get_or C m [])) (get_or C m [] ∷ []) []) in
      rw (e, f m (omega arith))
      (shows_append (leaves_show m (omega arith) (λ r l. f r (omega arith))) (one_leaf m (omega arith) (X (get_or C m []))))

-- no leaf on the line
pub no_marks : (line : List ℕ) (j m : ℕ) → ((r : ℕ) → r < m → get_or line r 0 ≡ j → ⊥) → leaf_marks line j m ≡ []
unfolding leaf_marks
no_marks line j zero f = refl
no_marks line j (suc m) f =
    rw (no_marks line j m (λ r h. f r (omega arith)), ne_eqb (get_or line m 0) j (f m (omega arith))) refl

-- the stored head h is the line's required label, or 80 if there is none
pub data HeadFits (C : List Label) (h : ℕ) : List Label → Type 0 where
  fits_none : h ≡ 80 → HeadFits C h []
  fits_one : {x : Label} → h < length C → get_or C h [] ≡ x → HeadFits C h (x ∷ [])

module _ (C : List Label) (line tops : List ℕ) (few : length C ≤ 80) (j : ℕ) (X : Label → Bool)
    (test : (r : ℕ) → r < length C → eqb (get_or line r 0) j ≡ X (get_or C r [])) where
  all_leaves : Shows C (leaf_marks line j (length C)) (items_with false (keep X C))
  all_leaves =
      subst (λ (l : List Label). Shows C (leaf_marks line j (length C)) (items_with false (keep X l))) (take-length C)
      (leaves_show C line j X (length C) (omega arith) test)

  fits_shows : {h : ℕ} {req : List Label} → HeadFits C h req → Shows C (head_marks h) (items_with true req)
  unfolding head_marks items_with
  fits_shows {h} (fits_none e) = rw (le-ltb h 80 (omega arith)) shows_none
  fits_shows {h} (fits_one l e) = rw (lt-ltb h 80 (omega arith)) (shows_one l e refl shows_none)

  empty_line : (req others : List Label) → items_with false others ≡ [] → items_of (listed req others []) ≡ []
  unfolding items_with items_of listed
  empty_line req [] e = refl
  empty_line req (o ∷ os) e = let z : ◌≡◌ {A = ℕ} 0 1 = cc in absurd (omega arith)

  full_line : (req others : List Label) → (others ≡ [] → ⊥)
      → items_of (listed req others []) ≡ items_with true req ++ items_with false others
  unfolding items_of listed
  full_line req [] ne = absurd (ne refl)
  full_line req (o ∷ os) ne = ap (λ (l : List Item). items_with true req ++ l) (append-nil (items_with false (o ∷ os)))

  in_line : (r : ℕ) → r < length C → get_or line r 0 ≡ j → keep X C ≡ [] → ⊥
  in_line r h e k =
      let m : is_in (get_or C r []) (keep X C) ≡ true =
      Rattle.agreement.proofs.SetLaws.keep_in X (get_or C r []) C (Rattle.trees.proofs.ListLaws.at_in C r h)
      (sym (test r h) ∙ eq-eqb (get_or line r 0) j e) in
      Rattle.agreement.proofs.SetLaws.in_nil (get_or C r []) (ap (is_in (get_or C r [])) (sym k) ∙ m)

  -- a line with its head
  pub line_shows : (h : Option ℕ) (req : List Label) → HeadOn (length C) line tops j h
      → ((r : ℕ) → r < length C → get_or line r 0 ≡ j → HeadFits C (get_or tops r 0) req)
      → Shows C (line_marks line (length C) j h) (items_of (listed req (keep X C) []))
  unfolding line_marks
  line_shows h req (no_leaf e f) fits =
      rw (e, empty_line req (keep X C) (shows_nothing (no_marks line j (length C) f) all_leaves)) shows_none
  line_shows h req (leaf_there r l k e) fits =
      rw (e, full_line req (keep X C) (in_line r l k)) (shows_append (fits_shows (fits r l k)) all_leaves)

-- line by line

unfoldable pub listed_all : List Piece → List Piece
unfolding listed
listed_all [] = []
listed_all (p ∷ ps) = listed p.required p.others (listed_all ps)

listed_append : (req others : List Label) (ps qs : List Piece) → listed req others (ps ++ qs) ≡ listed req others ps ++ qs
unfolding listed
listed_append req [] ps qs = refl
listed_append req (o ∷ os) ps qs = refl

all_append : (ps qs : List Piece) → listed_all (ps ++ qs) ≡ listed_all ps ++ listed_all qs
unfolding listed_all
all_append [] qs = refl
all_append (p ∷ ps) qs =
    ap (listed p.required p.others) (all_append ps qs) ∙ listed_append p.required p.others (listed_all ps) (listed_all qs)

abbrev pub no_piece : Piece
no_piece = record { required = []; others = [] }

module _ (C : List Label) (line : List ℕ) (heads : List (Option ℕ)) (m : ℕ) where
  pub lines_show : (ps : List Piece)
      → ((j : ℕ) → j < length ps
      → Shows C (line_marks line m j (get_or heads j None)) (items_of (listed (get_or ps j no_piece).required (get_or ps j no_piece).others [])))
      → (n : ℕ) → n ≤ length ps → Shows C (marks_to line heads m n) (items_of (listed_all (take n ps)))
  unfolding marks_to listed_all items_of
  lines_show ps f zero h = shows_none
  lines_show ps f (suc n) h =
      let e : items_of (listed_all (take (suc n) ps))
      ≡ items_of (listed_all (take n ps)) ++ items_of (listed (get_or ps n no_piece).required (get_or ps n no_piece).others []) =
      ap (λ (l : List Piece). items_of (listed_all l)) (take-suc ps n no_piece (omega arith))
      ∙ ap items_of (all_append (take n ps) (get_or ps n no_piece ∷ []))
      ∙ items_append (listed_all (take n ps)) (listed_all (get_or ps n no_piece ∷ [])) in
      rw e (shows_append (lines_show ps f n (omega arith)) (f n (omega arith)))

  pub marks_rest : (k n N : ℕ) → N ≡ n + k → ((j : ℕ) → n ≤ j → j < N → line_marks line m j (get_or heads j None) ≡ [])
      → marks_to line heads m N ≡ marks_to line heads m n
  unfolding marks_to
  marks_rest zero n N e f = let same : N ≡ n = omega arith in ap (marks_to line heads m) same
  marks_rest (suc k) n zero e f = absurd (omega arith)
  marks_rest (suc k) n (suc N) e f =
      rw (f N (omega arith) (omega arith)) (append-nil (marks_to line heads m N) ∙ marks_rest k n N (omega arith) (λ j a b. f j a (omega arith)))
