-- The labels of the lines as one list: there are as many as the total says, and each is a leaf of the first tree. Each line has one
-- required label if any label is required. C-17. Assumes nothing.
use Prim.Native.Nat.{ℕ, zero, suc, ◌≤◌, ◌<◌}
use mathlib.Core.Path.{◌≡◌, refl, sym, ◌∙◌, ap}
use mathlib.Core.Bool.{Bool, true, false}
use mathlib.Core.Logic.{⊎_elim}
use mathlib.Core.List.{List, [], ◌∷◌, ◌++◌}
use mathlib.Core.Option.{Option, some, none}
use native.Mathlib.Omega.{arith}
use lib.ListN.{length, get_or, length-append}
use Rattle.trees.specs.Label.{Label, is_in}
use Rattle.trees.specs.Tree.{Tree, leaves, normal}
use Rattle.trees.proofs.Bools.{clash}
use Rattle.trees.proofs.ListLaws
use Rattle.trees.proofs.ListLaws.{in_left, in_right, in_one_eq}
use Rattle.trees.proofs.SameLaws.{same_in}
use Rattle.trees.proofs.NormalLaws.{normal_same}
use Rattle.agreement.specs.Closer.{holds}
use Rattle.agreement.specs.Restrict.{restrict}
use Rattle.agreement.specs.Sets.{common, set_of}
use Rattle.agreement.proofs.SetLaws.{in_nil, in_head, in_tail, in_keep, in_common}
use Rattle.agreement.proofs.RestrictLaws.{kept_leaves, restrict_leaves, restrict_empty}
use Rattle.pieces.specs.Pieces.{first_only, clades_of, hangs_at, hanging, Piece, listed, pieces_at, pieces_over, pieces, total}
use Rattle.pieces.specs.Pieces.{labels_of, At}
use Rattle.pieces.specs.Items.{Item, no_item, items_with, items_of}
use Rattle.pieces.proofs.CladesLaws.{place_in}

pub items_with_count : (b : Bool) (xs : List Label) → length (items_with b xs) ≡ length xs
unfolding items_with
items_with_count b [] = refl
items_with_count b (x ∷ xs) = omega (arith, items_with_count b xs)

pub items_count : (ps : List Piece) → length (items_of ps) ≡ total ps
unfolding items_of total
items_count [] = refl
items_count (p ∷ ps) =
    omega (
      arith,
      items_with_count true p.required,
      items_with_count false p.others,
      items_count ps,
      length-append (items_with true p.required) (items_with false p.others ++ items_of ps),
      length-append (items_with false p.others) (items_of ps),
    )

-- ---- one required label

-- each line has exactly one required label
abbrev pub AllMarked : List Piece → Type 0
AllMarked [] = Prim.Unit {0}
AllMarked (p ∷ ps) = ((x : Label) × (p.required ≡ x ∷ [])) × AllMarked ps

marked_line : (r zs : List Label) (ps : List Piece) → (x : Label) × (r ≡ x ∷ []) → AllMarked ps → AllMarked (listed r zs ps)
unfolding listed
marked_line r [] ps m f = f
marked_line r (z ∷ zs) ps m f = (m, f)

-- the first label of a list that has one
first_marked : (q : List Label) (y : Label) → is_in y q ≡ true → (x : Label) × (first_only q ≡ x ∷ [])
unfolding first_only
first_marked [] y m = in_nil y m
first_marked (x ∷ q) y m = (x, refl)

places_marked : (s t : Tree) (K : List Label) (qs : List (List Label))
    → ((j : ℕ) (q : List Label) → At qs j q → (y : Label) × (is_in y q ≡ true)) → AllMarked (pieces_at s t K qs)
unfolding pieces_at
places_marked s t K [] f = tt
places_marked s t K (q ∷ qs) f =
    let m = f zero q refl in
    marked_line (first_only q) (hanging s t K q) (pieces_at s t K qs) (first_marked q m.0 m.1)
    (places_marked s t K qs (λ j p h. f (suc j) p h))

-- "the smallest required label below": each place has required leaves below it
pub pieces_marked : (s t : Tree) (K : List Label) (y : Label) → is_in y K ≡ true → holds s y ≡ true → AllMarked (pieces s t K)
unfolding pieces pieces_over
pieces_marked s t K y k h = go (restrict (set_of K) s) refl
  where
    go : (o : Option Tree) → restrict (set_of K) s ≡ o → AllMarked (pieces_over s t K o)
    go none e = clash h (restrict_empty (set_of K) s e y k)
    go (some r) e = places_marked s t K (clades_of (normal r)) (λ j q a. let i = place_in (normal r) j q a in (i.one, i.member))

-- ---- few required labels, and some leaf

-- each line has at most one required label, and a leaf
abbrev pub AllFull : List Piece → Type 0
AllFull [] = Prim.Unit {0}
AllFull (p ∷ ps) = (length p.required ≤ 1) × (1 ≤ length p.others) × AllFull ps

full_line : (r zs : List Label) (ps : List Piece) → length r ≤ 1 → AllFull ps → AllFull (listed r zs ps)
unfolding listed
full_line r [] ps l f = f
full_line r (z ∷ zs) ps l f = (l, omega arith, f)

first_few : (q : List Label) → length (first_only q) ≤ 1
unfolding first_only
first_few [] = omega arith
first_few (x ∷ q) = omega arith

places_full : (s t : Tree) (K : List Label) (qs : List (List Label)) → AllFull (pieces_at s t K qs)
unfolding pieces_at
places_full s t K [] = tt
places_full s t K (q ∷ qs) = full_line (first_only q) (hanging s t K q) (pieces_at s t K qs) (first_few q) (places_full s t K qs)

-- "places with no such leaf are skipped"
pub pieces_full : (s t : Tree) (K : List Label) → AllFull (pieces s t K)
unfolding pieces pieces_over
pieces_full s t K = go (restrict (set_of K) s)
  where
    go : (o : Option Tree) → AllFull (pieces_over s t K o)
    go none = full_line [] (common s t) [] (omega arith) tt
    go (some r) = places_full s t K (clades_of (normal r))

-- ---- leaves of the first tree

-- each label of each line is a leaf of the tree
abbrev pub AllHeld : Tree → List Piece → Type 0
AllHeld s [] = Prim.Unit {0}
AllHeld s (p ∷ ps) = ((x : Label) → is_in x (labels_of p) ≡ true → holds s x ≡ true) × AllHeld s ps

held_line : (s : Tree) (r zs : List Label) (ps : List Piece) → ((x : Label) → is_in x r ≡ true → holds s x ≡ true)
    → ((x : Label) → is_in x zs ≡ true → holds s x ≡ true) → AllHeld s ps → AllHeld s (listed r zs ps)
unfolding listed
held_line s r [] ps f g h = h
held_line s r (z ∷ zs) ps f g h = (λ x m. ⊎_elim (f x) (g x) (ListLaws.in_cases x r (z ∷ zs) m), h)

first_in : (q : List Label) (x : Label) → is_in x (first_only q) ≡ true → is_in x q ≡ true
unfolding first_only
first_in [] x m = m
first_in (y ∷ q) x m = rw (in_one_eq x y m) (in_head y q)

-- the leaves of a line are common ones
hanging_held : (s t : Tree) (K q : List Label) (x : Label) → is_in x (hanging s t K q) ≡ true → holds s x ≡ true
unfolding hanging
hanging_held s t K q x m = (in_common s t x (in_keep (hangs_at s t K q) x (common s t) m).0).0

places_held : (s t : Tree) (K : List Label) (qs : List (List Label))
    → ((j : ℕ) (q : List Label) → At qs j q → (x : Label) → is_in x q ≡ true → holds s x ≡ true) → AllHeld s (pieces_at s t K qs)
unfolding pieces_at
places_held s t K [] f = tt
places_held s t K (q ∷ qs) f =
    held_line s (first_only q) (hanging s t K q) (pieces_at s t K qs) (λ x m. f zero q refl x (first_in q x m)) (hanging_held s t K q)
    (places_held s t K qs (λ j p h. f (suc j) p h))

-- a leaf of what a restriction leaves is one of the tree
kept_held : (X : Label → Bool) (s r : Tree) (x : Label) → restrict X s ≡ some r → is_in x (leaves (normal r)) ≡ true → holds s x ≡ true
unfolding kept_leaves holds
kept_held X s r x e m =
    (in_keep X x (leaves s)
    (ap (is_in x) (sym (restrict_leaves X s)) ∙ ap (λ (o : Option Tree). is_in x (kept_leaves o)) e ∙ sym (same_in (normal_same r) x) ∙ m)).0

-- the required labels on the lines are those that the restricted tree has, so K may have labels that are leaves of no tree
pub pieces_held : (s t : Tree) (K : List Label) → AllHeld s (pieces s t K)
unfolding pieces pieces_over
pieces_held s t K = go (restrict (set_of K) s) refl
  where
    go : (o : Option Tree) → restrict (set_of K) s ≡ o → AllHeld s (pieces_over s t K o)
    go none e = held_line s [] (common s t) [] (λ x m. in_nil x m) (λ x m. (in_common s t x m).0) tt
    go (some r) e =
        places_held s t K (clades_of (normal r)) (λ j q a x m. kept_held (set_of K) s r x e ((place_in (normal r) j q a).within x m))

-- the same of the labels one after the other
abbrev ItemsHeld : Tree → List Item → Type 0
ItemsHeld s [] = Prim.Unit {0}
ItemsHeld s (i ∷ is) = (holds s i.label ≡ true) × ItemsHeld s is

held_with : (s : Tree) (b : Bool) (xs : List Label) (is : List Item) → ((x : Label) → is_in x xs ≡ true → holds s x ≡ true)
    → ItemsHeld s is → ItemsHeld s (items_with b xs ++ is)
unfolding items_with
held_with s b [] is f h = h
held_with s b (x ∷ xs) is f h = (f x (in_head x xs), held_with s b xs is (λ y m. f y (in_tail y x xs m)) h)

held_items : (s : Tree) (ps : List Piece) → AllHeld s ps → ItemsHeld s (items_of ps)
unfolding items_of
held_items s [] h = tt
held_items s (p ∷ ps) h =
    held_with s true p.required (items_with false p.others ++ items_of ps) (λ x m. h.0 x (in_left x p.required p.others m))
    (held_with s false p.others (items_of ps) (λ x m. h.0 x (in_right x p.required p.others m)) (held_items s ps h.1))

held_at : (s : Tree) (is : List Item) (i : ℕ) → ItemsHeld s is → i < length is → holds s (get_or is i no_item).label ≡ true
held_at s [] i h l = absurd (omega arith)
held_at s (x ∷ is) zero h l = h.0
held_at s (x ∷ is) (suc i) h l = held_at s is i h.1 (omega arith)

pub items_held : (s t : Tree) (K : List Label) (i : ℕ) → i < total (pieces s t K)
    → holds s (get_or (items_of (pieces s t K)) i no_item).label ≡ true
items_held s t K i l =
    held_at s (items_of (pieces s t K)) i (held_items s (pieces s t K) (pieces_held s t K)) (omega (arith, items_count (pieces s t K)))
