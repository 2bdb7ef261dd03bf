-- Laws of sets of labels as increasing lists: members, order, sorting, common leaves, sublists. Assumes nothing.
use Prim.Native.Nat.{ℕ, suc, ◌<◌, ◌≤◌}
use mathlib.Core.Path.{◌≡◌, refl, sym, ◌∙◌, ap, ap₂, fun_ext}
use mathlib.Core.Bool.{Bool, true, false, cond, ◌&&◌, ◌||◌}
use mathlib.Core.Logic.{◌⊎◌, inl, inr, ⊎_elim, ⊎_map}
use mathlib.Core.List.{List, [], ◌∷◌, ◌++◌, map}
use mathlib.Core.List.Memᴰ
use mathlib.Core.List.Memᴰ.{head as among-head}
use mathlib.Core.List.Memᴰ.{tail as among-tail}
use mathlib.Core.List.{Memᴰ as Among}
use mathlib.Core.List.Memᴰ.{append_cases as among-append}
use mathlib.Core.List.Memᴰ.{cases_cons as among_cases}
use mathlib.Core.List.Memᴰ.{not-nil as among-nil}
use native.Mathlib.Omega.{arith}
use lib.ListN.{length, get_or}
use Rattle.trees.specs.Label.{Label, same_label, label_less, is_in, distinct}
use Rattle.trees.specs.Tree.{Tree, leaves}
use Rattle.trees.proofs.Bools.{clash, or_cases, or_inl, or_inr, refute, and_left, and_right, and_intro}
use Rattle.trees.proofs.LabelLaws.{same_refl, same_eq, same_cases, same_ne, ne_same, less_irrefl, less_trans, less_asym, less_ne, not_less}
use Rattle.trees.proofs.ListLaws.{distinct_head, distinct_tail, distinct_cons}
use Rattle.agreement.specs.Closer.{holds, Common}
use Rattle.agreement.specs.Sets.{below, increasing, insert, sorted, keep, common, set_of, all_in, First, sublists}
use Rattle.agreement.proofs.KeepLaws.{is_in_keep, distinct_keep}

-- two tests are equal if each passes where the other does
pub test_ext : (a b : Bool) → (a ≡ true → b ≡ true) → (b ≡ true → a ≡ true) → a ≡ b
test_ext true b f g = sym (f refl)
test_ext false true f g = g refl
test_ext false false f g = refl

or_swap : (a b c : Bool) → (a || (b || c)) ≡ (b || (a || c))
or_swap true true c = refl
or_swap true false c = refl
or_swap false b c = refl

-- a test that passes only if both pass
pub both_left : (a b : Bool) → cond a b false ≡ true → a ≡ true
both_left true b h = refl
both_left false b h = h

pub both_right : (a b : Bool) → cond a b false ≡ true → b ≡ true
both_right true b h = h
both_right false b h = clash h refl

pub both_intro : (a b : Bool) → a ≡ true → b ≡ true → cond a b false ≡ true
both_intro true b p q = q
both_intro false b p q = p

-- members

pub in_nil {ℓ} : {G : Type ℓ} (x : Label) → is_in x [] ≡ true → G
unfolding is_in
in_nil x h = clash h refl

pub in_head : (x : Label) (xs : List Label) → is_in x (x ∷ xs) ≡ true
unfolding is_in
in_head x xs = or_inl (same_label x x) (is_in x xs) (same_refl x)

pub in_tail : (x y : Label) (ys : List Label) → is_in x ys ≡ true → is_in x (y ∷ ys) ≡ true
unfolding is_in
in_tail x y ys h = or_inr (same_label x y) (is_in x ys) h

pub in_cases : (x y : Label) (ys : List Label) → is_in x (y ∷ ys) ≡ true → (x ≡ y) ⊎ (is_in x ys ≡ true)
unfolding is_in
in_cases x y ys h = ⊎_map (same_eq x y) (λ (k : is_in x ys ≡ true). k) (or_cases (same_label x y) (is_in x ys) h)

-- a label of a list by its number
pub record HasNumber (xs : List Label) (x : Label) : Type 0 where
  pub at : ℕ
  pub below : at < length xs
  pub is : get_or xs at [] ≡ x

pub number_of : (xs : List Label) (x : Label) → is_in x xs ≡ true → HasNumber xs x
number_of [] x h = in_nil x h
number_of (y ∷ ys) x h = go (in_cases x y ys h) (number_of ys x)
  where
    go : (x ≡ y) ⊎ (is_in x ys ≡ true) → (is_in x ys ≡ true → HasNumber ys x) → HasNumber (y ∷ ys) x
    go (inl e) f = record { at = 0; below = omega arith; is = sym e }
    go (inr m) f = let n = f m in record { at = suc n.at; below = omega (arith, n.below); is = n.is }

-- a label other than the first stands in the list exactly if it stands in the rest
pub in_other : (x y : Label) (ys : List Label) → (x ≡ y → ⊥) → is_in x (y ∷ ys) ≡ is_in x ys
unfolding is_in
in_other x y ys n = rw (ne_same x y n)

-- every label of the first list stands in the second
abbrev pub Within : List Label → List Label → Type 0
Within X Y = (x : Label) → is_in x X ≡ true → is_in x Y ≡ true

pub all_in_within : (K X : List Label) → all_in K X ≡ true → Within K X
unfolding all_in
all_in_within [] X h x m = in_nil x m
all_in_within (k ∷ K) X h x m =
    ⊎_elim (λ (e : x ≡ k). rw e (both_left (is_in k X) (all_in K X) h)) (all_in_within K X (both_right (is_in k X) (all_in K X) h) x)
    (in_cases x k K m)

pub within_all_in : (K X : List Label) → Within K X → all_in K X ≡ true
unfolding all_in
within_all_in [] X f = refl
within_all_in (k ∷ K) X f =
    both_intro (is_in k X) (all_in K X) (f k (in_head k K)) (within_all_in K X (λ x m. f x (in_tail x k K m)))

-- increasing lists

below_less : (x : Label) (ys : List Label) → below x ys ≡ true → (z : Label) → is_in z ys ≡ true → label_less x z ≡ true
unfolding below
below_less x [] h z m = in_nil z m
below_less x (y ∷ ys) h z m =
    ⊎_elim (λ (e : z ≡ y). rw e (both_left (label_less x y) (below x ys) h))
    (below_less x ys (both_right (label_less x y) (below x ys) h) z) (in_cases z y ys m)

less_below : (x : Label) (ys : List Label) → ((z : Label) → is_in z ys ≡ true → label_less x z ≡ true) → below x ys ≡ true
unfolding below
less_below x [] f = refl
less_below x (y ∷ ys) f =
    both_intro (label_less x y) (below x ys) (f y (in_head y ys)) (less_below x ys (λ z m. f z (in_tail z y ys m)))

pub inc_nil : increasing [] ≡ true
unfolding increasing
inc_nil = refl

pub inc_head : (x : Label) (xs : List Label) → increasing (x ∷ xs) ≡ true → (z : Label) → is_in z xs ≡ true → label_less x z ≡ true
unfolding increasing
inc_head x xs h = below_less x xs (both_left (below x xs) (increasing xs) h)

pub inc_tail : (x : Label) (xs : List Label) → increasing (x ∷ xs) ≡ true → increasing xs ≡ true
unfolding increasing
inc_tail x xs h = both_right (below x xs) (increasing xs) h

pub inc_cons : (x : Label) (xs : List Label) → ((z : Label) → is_in z xs ≡ true → label_less x z ≡ true) → increasing xs ≡ true
    → increasing (x ∷ xs) ≡ true
unfolding increasing
inc_cons x xs f h = both_intro (below x xs) (increasing xs) (less_below x xs f) h

pub inc_new : (x : Label) (xs : List Label) → increasing (x ∷ xs) ≡ true → is_in x xs ≡ false
inc_new x xs h = refute (is_in x xs) (λ m. clash (inc_head x xs h x m) (less_irrefl x))

pub inc_distinct : (xs : List Label) → increasing xs ≡ true → distinct xs ≡ true
unfolding distinct
inc_distinct [] h = refl
inc_distinct (x ∷ xs) h = distinct_cons x xs (inc_new x xs h) (inc_distinct xs (inc_tail x xs h))

-- no member is less than the first
pub inc_least : (x : Label) (xs : List Label) → increasing (x ∷ xs) ≡ true → (z : Label) → label_less z x ≡ true → is_in z (x ∷ xs) ≡ false
inc_least x xs h z l = refute (is_in z (x ∷ xs)) (λ m. ⊎_elim (less_ne z x l) later (in_cases z x xs m))
  where
    later : is_in z xs ≡ true → ⊥
    later m = clash (inc_head x xs h z m) (less_asym z x l)

-- what is greater than a member is not the first
pub inc_later : (x : Label) (xs : List Label) → increasing (x ∷ xs) ≡ true → (u v : Label) → label_less u v ≡ true
    → is_in u (x ∷ xs) ≡ true → is_in v (x ∷ xs) ≡ true → is_in v xs ≡ true
inc_later x xs h u v l p q =
    ⊎_elim (λ (e : v ≡ x). clash p (inc_least x xs h u (rw e at l))) (λ (k : is_in v xs ≡ true). k) (in_cases v x xs q)

tail_within : (x y : Label) (xs ys : List Label) → x ≡ y → increasing (x ∷ xs) ≡ true → Within (x ∷ xs) (y ∷ ys) → Within xs ys
tail_within x y xs ys e h f z m = ⊎_elim first (λ (k : is_in z ys ≡ true). k) (in_cases z y ys (f z (in_tail z x xs m)))
  where
    first : z ≡ y → is_in z ys ≡ true
    first d = absurd (less_ne x z (inc_head x xs h z m) (e ∙ sym d))

same_heads : (x y : Label) (xs ys : List Label) → increasing (x ∷ xs) ≡ true → increasing (y ∷ ys) ≡ true
    → Within (x ∷ xs) (y ∷ ys) → Within (y ∷ ys) (x ∷ xs) → x ≡ y
same_heads x y xs ys p q f g = go (in_cases x y ys (f x (in_head x xs))) (in_cases y x xs (g y (in_head y ys)))
  where
    go : (x ≡ y) ⊎ (is_in x ys ≡ true) → (y ≡ x) ⊎ (is_in y xs ≡ true) → x ≡ y
    go (inl e) k = e
    go (inr m) (inl e) = sym e
    go (inr m) (inr k) = clash (inc_head x xs p y k) (less_asym y x (inc_head y ys q x m))

-- lists in label order with the same members are equal
pub inc_ext : (X Y : List Label) → increasing X ≡ true → increasing Y ≡ true → Within X Y → Within Y X → X ≡ Y
inc_ext [] [] p q f g = refl
inc_ext [] (y ∷ ys) p q f g = in_nil y (g y (in_head y ys))
inc_ext (x ∷ xs) [] p q f g = in_nil x (f x (in_head x xs))
inc_ext (x ∷ xs) (y ∷ ys) p q f g =
    ap₂ ◌∷◌ e
    (inc_ext xs ys (inc_tail x xs p) (inc_tail y ys q) (tail_within x y xs ys e p f) (tail_within y x ys xs (sym e) q g))
  where
    e : x ≡ y
    e = same_heads x y xs ys p q f g

-- sorting

pub in_insert : (z x : Label) (ys : List Label) → is_in z (insert x ys) ≡ is_in z (x ∷ ys)
unfolding insert is_in
in_insert z x [] = refl
in_insert z x (y ∷ ys) = go (label_less x y) (in_insert z x ys)
  where
    go : (b : Bool) → is_in z (insert x ys) ≡ is_in z (x ∷ ys) → is_in z (cond b (x ∷ y ∷ ys) (y ∷ insert x ys)) ≡ is_in z (x ∷ y ∷ ys)
    go true ih = refl
    go false ih = rw ih (or_swap (same_label z y) (same_label z x) (is_in z ys))

pub length_insert : (x : Label) (ys : List Label) → length (insert x ys) ≡ suc (length ys)
unfolding insert
length_insert x [] = refl
length_insert x (y ∷ ys) = go (label_less x y) (length_insert x ys)
  where
    go : (b : Bool) → length (insert x ys) ≡ suc (length ys) → length (cond b (x ∷ y ∷ ys) (y ∷ insert x ys)) ≡ suc (suc (length ys))
    go true ih = refl
    go false ih = ap suc ih

pub insert_inc : (x : Label) (ys : List Label) → increasing ys ≡ true → is_in x ys ≡ false → increasing (insert x ys) ≡ true
unfolding insert
insert_inc x [] h n = inc_cons x [] (λ z m. in_nil z m) inc_nil
insert_inc x (y ∷ ys) h n = go (label_less x y) refl (insert_inc x ys (inc_tail y ys h) fresh)
  where
    other : x ≡ y → ⊥
    other e = clash (rw e (in_head y ys)) n

    fresh : is_in x ys ≡ false
    fresh = refute (is_in x ys) (λ m. clash (in_tail x y ys m) n)

    before : label_less x y ≡ true → (z : Label) → (z ≡ y) ⊎ (is_in z ys ≡ true) → label_less x z ≡ true
    before l z (inl e) = rw e l
    before l z (inr m) = less_trans x y z l (inc_head y ys h z m)

    after : label_less x y ≡ false → (z : Label) → (z ≡ x) ⊎ (is_in z ys ≡ true) → label_less y z ≡ true
    after l z (inl e) = rw e (not_less x y l other)
    after l z (inr m) = inc_head y ys h z m

    go : (b : Bool) → label_less x y ≡ b → increasing (insert x ys) ≡ true → increasing (cond b (x ∷ y ∷ ys) (y ∷ insert x ys)) ≡ true
    go true l ih = inc_cons x (y ∷ ys) (λ z m. before l z (in_cases z y ys m)) h
    go false l ih = inc_cons y (insert x ys) (λ z m. after l z (in_cases z x ys (sym (in_insert z x ys) ∙ m))) ih

-- sorting keeps the members
pub in_sorted : (z : Label) (xs : List Label) → is_in z (sorted xs) ≡ is_in z xs
unfolding sorted is_in
in_sorted z [] = refl
in_sorted z (x ∷ xs) = in_insert z x (sorted xs) ∙ ap (λ (b : Bool). same_label z x || b) (in_sorted z xs)

pub length_sorted : (xs : List Label) → length (sorted xs) ≡ length xs
unfolding sorted
length_sorted [] = refl
length_sorted (x ∷ xs) = length_insert x (sorted xs) ∙ ap suc (length_sorted xs)

-- different labels, sorted, are in label order
pub sorted_inc : (xs : List Label) → distinct xs ≡ true → increasing (sorted xs) ≡ true
unfolding sorted
sorted_inc [] h = inc_nil
sorted_inc (x ∷ xs) h =
    insert_inc x (sorted xs) (sorted_inc xs (distinct_tail x xs h)) (in_sorted x xs ∙ distinct_head x xs h)

-- the part of a list that is in a set

pub in_keep : (X : Label → Bool) (z : Label) (ys : List Label) → is_in z (keep X ys) ≡ true → (is_in z ys ≡ true) × (X z ≡ true)
in_keep X z ys m =
    let k : (X z && is_in z ys) ≡ true = sym (is_in_keep X z ys) ∙ m in
    (and_right (X z) (is_in z ys) k, and_left (X z) (is_in z ys) k)

pub keep_in : (X : Label → Bool) (z : Label) (ys : List Label) → is_in z ys ≡ true → X z ≡ true → is_in z (keep X ys) ≡ true
keep_in X z ys m h = is_in_keep X z ys ∙ and_intro (X z) (is_in z ys) h m

pub keep_inc : (X : Label → Bool) (ys : List Label) → increasing ys ≡ true → increasing (keep X ys) ≡ true
unfolding keep
keep_inc X [] h = h
keep_inc X (y ∷ ys) h = go (X y) (keep_inc X ys (inc_tail y ys h))
  where
    go : (b : Bool) → increasing (keep X ys) ≡ true → increasing (cond b (y ∷ keep X ys) (keep X ys)) ≡ true
    go true ih = inc_cons y (keep X ys) (λ z m. inc_head y ys h z (in_keep X z ys m).0) ih
    go false ih = ih

-- the leaves common to both trees

-- in label order, if the labels of the first tree are all different
pub common_inc : (s t : Tree) → distinct (leaves s) ≡ true → increasing (common s t) ≡ true
unfolding common
common_inc s t h = sorted_inc (keep (holds t) (leaves s)) (distinct_keep (holds t) (leaves s) h)

-- exactly the labels that both trees hold
pub in_common : (s t : Tree) (x : Label) → is_in x (common s t) ≡ true → (holds s x ≡ true) × (holds t x ≡ true)
unfolding common holds
in_common s t x m = in_keep (holds t) x (leaves s) (sym (in_sorted x (keep (holds t) (leaves s))) ∙ m)

pub common_in : (s t : Tree) (x : Label) → holds s x ≡ true → holds t x ≡ true → is_in x (common s t) ≡ true
unfolding common holds
common_in s t x p q = in_sorted x (keep (holds t) (leaves s)) ∙ keep_in (holds t) x (leaves s) p q

-- a set of common leaves is the set of the list that it keeps of them
pub set_keep : (s t : Tree) (X : Label → Bool) → Common s t X → set_of (keep X (common s t)) ≡ X
set_keep s t X c =
    fun_ext (λ x. test_ext (is_in x (keep X (common s t))) (X x) (λ m. (in_keep X x (common s t) m).1)
    (λ m. keep_in X x (common s t) (common_in s t x (c x m).0 (c x m).1) m))

-- and a list of them in label order is what its set keeps
pub keep_set : (s t : Tree) (Y : List Label) → distinct (leaves s) ≡ true → increasing Y ≡ true → Common s t (set_of Y)
    → keep (set_of Y) (common s t) ≡ Y
keep_set s t Y d h c =
    inc_ext (keep (set_of Y) (common s t)) Y (keep_inc (set_of Y) (common s t) (common_inc s t d)) h
    (λ x m. (in_keep (set_of Y) x (common s t) m).1)
    (λ x m. keep_in (set_of Y) x (common s t) (common_in s t x (c x m).0 (c x m).1) m)

pub keep_few : (X : Label → Bool) (ys : List Label) → length (keep X ys) ≤ length ys
unfolding keep
keep_few X [] = omega arith
keep_few X (y ∷ ys) = go (X y) (keep_few X ys)
  where
    go : (b : Bool) → length (keep X ys) ≤ length ys → length (cond b (y ∷ keep X ys) (keep X ys)) ≤ length (y ∷ ys)
    go true h = omega arith
    go false h = omega arith

-- the labels of a list in label order, counted among others
pub count_held : (Y L : List Label) → increasing Y ≡ true → distinct L ≡ true → Within Y L → length (keep (set_of Y) L) ≡ length Y
count_held Y L h d f =
    sym (length_sorted (keep (set_of Y) L))
    ∙ ap length
    (inc_ext (sorted (keep (set_of Y) L)) Y (sorted_inc (keep (set_of Y) L) (distinct_keep (set_of Y) L d)) h
    (λ x m. (in_keep (set_of Y) x L (sym (in_sorted x (keep (set_of Y) L)) ∙ m)).1)
    (λ x m. in_sorted x (keep (set_of Y) L) ∙ keep_in (set_of Y) x L (f x m) m))

-- and they are no more than those
pub within_few : (Y L : List Label) → increasing Y ≡ true → distinct L ≡ true → Within Y L → length Y ≤ length L
within_few Y L h d f = omega (arith, count_held Y L h d f, keep_few (set_of Y) L)

pub common_short : (s t : Tree) → length (common s t) ≤ length (leaves s)
unfolding common
common_short s t = omega (arith, length_sorted (keep (holds t) (leaves s)), keep_few (holds t) (leaves s))

-- sublists

among_map : (x : Label) (Xs : List (List Label)) (Y : List Label) → Among Y (map (◌∷◌ x) Xs) → (Z : List Label) × Among Z Xs × (Y ≡ x ∷ Z)
among_map x [] Y m = absurd (among-nil m)
among_map x (X ∷ Xs) Y m = go (among_cases m) (among_map x Xs Y)
  where
    go : (Y ≡ x ∷ X) ⊎ Among Y (map (◌∷◌ x) Xs) → (Among Y (map (◌∷◌ x) Xs) → (Z : List Label) × Among Z Xs × (Y ≡ x ∷ Z))
        → (Z : List Label) × Among Z (X ∷ Xs) × (Y ≡ x ∷ Z)
    go (inl e) ih = (X, among-head refl, e)
    go (inr k) ih = let r = ih k in (r.0, among-tail r.1, r.2)

map_among : (x : Label) (Xs : List (List Label)) (Y Z : List Label) → Y ≡ x ∷ Z → Among Z Xs → Among Y (map (◌∷◌ x) Xs)
map_among x [] Y Z e m = absurd (among-nil m)
map_among x (X ∷ Xs) Y Z e m = go (among_cases m) (map_among x Xs Y Z e)
  where
    go : (Z ≡ X) ⊎ Among Z Xs → (Among Z Xs → Among Y (map (◌∷◌ x) Xs)) → Among Y (map (◌∷◌ x) (X ∷ Xs))
    go (inl d) ih = among-head (e ∙ ap {B = List Label} (◌∷◌ x) d)
    go (inr k) ih = among-tail (ih k)

within_cons : (x : Label) (Z C : List Label) → Within Z C → Within (x ∷ Z) (x ∷ C)
within_cons x Z C f z m =
    ⊎_elim (λ (e : z ≡ x). rw e (in_head x C)) (λ (k : is_in z Z ≡ true). in_tail z x C (f z k)) (in_cases z x Z m)

-- every sublist of a list in label order is in label order and has its labels from it
pub sublist_in : (C : List Label) → increasing C ≡ true → (X : List Label) → Among X (sublists C) → (increasing X ≡ true) × Within X C
unfolding sublists
sublist_in [] h X m = rw (⊎_elim (λ (e : X ≡ []). e) (λ (k : Among X []). absurd (among-nil k)) (among_cases m)) (inc_nil, λ x k. k)
sublist_in (c ∷ C) h X m = go (among-append (map (◌∷◌ c) (sublists C)) m) (sublist_in C (inc_tail c C h))
  where
    go : Among X (map (◌∷◌ c) (sublists C)) ⊎ Among X (sublists C)
        → ((Y : List Label) → Among Y (sublists C) → (increasing Y ≡ true) × Within Y C) → (increasing X ≡ true) × Within X (c ∷ C)
    go (inl k) ih =
        let r = among_map c (sublists C) X k in
        let p = ih r.0 r.1 in
        rw r.2 (inc_cons c r.0 (λ z l. inc_head c C h z (p.1 z l)) p.0, within_cons c r.0 C p.1)
    go (inr k) ih = ((ih X k).0, λ x l. in_tail x c C ((ih X k).1 x l))

-- every list in label order with labels from it is a sublist
pub sublist_of : (C X : List Label) → increasing C ≡ true → increasing X ≡ true → Within X C → Among X (sublists C)
unfolding sublists
sublist_of [] [] h k f = among-head refl
sublist_of [] (x ∷ X) h k f = in_nil x (f x (in_head x X))
sublist_of (c ∷ C) [] h k f =
    Memᴰ.append_right (map (◌∷◌ c) (sublists C)) (sublist_of C [] (inc_tail c C h) k (λ x m. in_nil x m))
sublist_of (c ∷ C) (x ∷ X) h k f =
    go (same_cases x c) (sublist_of C X (inc_tail c C h) (inc_tail x X k)) (sublist_of C (x ∷ X) (inc_tail c C h) k)
  where
    later : (x ≡ c → ⊥) → (z : Label) → is_in z (x ∷ X) ≡ true → z ≡ c → ⊥
    later n z m e =
        ⊎_elim (λ (d : z ≡ x). n (sym d ∙ e)) above (in_cases z x X m)
      where
        below' : label_less c x ≡ true
        below' = inc_head c C h x (sym (in_other x c C n) ∙ f x (in_head x X))

        above : is_in z X ≡ true → ⊥
        above l = clash (rw e at (inc_head x X k z l)) (less_asym c x below')

    go : (x ≡ c) ⊎ (same_label x c ≡ false) → (Within X C → Among X (sublists C)) → (Within (x ∷ X) C → Among (x ∷ X) (sublists C))
        → Among (x ∷ X) (map (◌∷◌ c) (sublists C) ++ sublists C)
    go (inl e) with without =
        Memᴰ.append_left (sublists C)
        (map_among c (sublists C) (x ∷ X) X (ap (λ (y : Label). y ∷ X) e) (with (tail_within x c X C e k f)))
    go (inr n) with without =
        Memᴰ.append_right (map (◌∷◌ c) (sublists C))
        (without (λ z m. sym (in_other z c C (later (same_ne x c n) z m)) ∙ f z m))

-- each list comes before every later one as "first" orders them
abbrev pub Ordered : List (List Label) → Type 0
Ordered [] = Unit {0}
Ordered (X ∷ Xs) = ((Y : List Label) → Among Y Xs → First (set_of X) (set_of Y)) × Ordered Xs

ordered_append : (A B : List (List Label)) → Ordered A → Ordered B
    → ((X Y : List Label) → Among X A → Among Y B → First (set_of X) (set_of Y)) → Ordered (A ++ B)
ordered_append [] B p q f = q
ordered_append (X ∷ A) B p q f = (
  λ Y m. ⊎_elim (p.0 Y) (f X Y (among-head refl)) (among-append A m),
  ordered_append A B p.1 q (λ Z Y m k. f Z Y (among-tail m) k),
)

first_cons : (x : Label) (X Y : List Label) → ((z : Label) → is_in z X ≡ true → label_less x z ≡ true) → First (set_of X) (set_of Y)
    → First (set_of (x ∷ X)) (set_of (x ∷ Y))
unfolding is_in
first_cons x X Y f p = record {
  at = p.at;
  held = in_tail p.at x X p.held;
  lacked = in_other p.at x Y (λ e. less_ne x p.at (f p.at p.held) (sym e)) ∙ p.lacked;
  smallest = λ z l. ap (λ (b : Bool). same_label z x || b) (p.smallest z l);
}

ordered_map : (x : Label) (Xs : List (List Label))
    → ((X : List Label) → Among X Xs → (z : Label) → is_in z X ≡ true → label_less x z ≡ true) → Ordered Xs → Ordered (map (◌∷◌ x) Xs)
ordered_map x [] f p = tt
ordered_map x (X ∷ Xs) f p = (
  λ Y m. let r = among_map x Xs Y m in rw r.2 (first_cons x X r.0 (f X (among-head refl)) (p.0 r.0 r.1)),
  ordered_map x Xs (λ Z m. f Z (among-tail m)) p.1,
)

-- of two sublists the one that holds the first label comes first
first_with : (c : Label) (C X Y : List Label) → increasing (c ∷ C) ≡ true → Within X C → Within Y C
    → First (set_of (c ∷ X)) (set_of Y)
first_with c C X Y h f g = record {
  at = c;
  held = in_head c X;
  lacked = refute (is_in c Y) (λ m. clash (g c m) (inc_new c C h));
  smallest = λ z l. none z l (c ∷ X) (within_cons c X C f) ∙ sym (none z l Y (λ x m. in_tail x c C (g x m)));
}
  where
    none : (z : Label) → label_less z c ≡ true → (Z : List Label) → Within Z (c ∷ C) → is_in z Z ≡ false
    none z l Z w = refute (is_in z Z) (λ m. clash (w z m) (inc_least c C h z l))

-- sublists stand in the order in which "first" compares sets
pub sublists_ordered : (C : List Label) → increasing C ≡ true → Ordered (sublists C)
unfolding sublists
sublists_ordered [] h = (λ Y m. absurd (among-nil m), tt)
sublists_ordered (c ∷ C) h =
    ordered_append (map (◌∷◌ c) (sublists C)) (sublists C) (ordered_map c (sublists C) above (sublists_ordered C inc))
    (sublists_ordered C inc) across
  where
    inc : increasing C ≡ true
    inc = inc_tail c C h

    above : (X : List Label) → Among X (sublists C) → (z : Label) → is_in z X ≡ true → label_less c z ≡ true
    above X m z k = inc_head c C h z ((sublist_in C inc X m).1 z k)

    across : (X Y : List Label) → Among X (map (◌∷◌ c) (sublists C)) → Among Y (sublists C) → First (set_of X) (set_of Y)
    across X Y m k =
        let r = among_map c (sublists C) X m in
        let p = sublist_in C inc r.0 r.1 in
        rw r.2 (first_with c C r.0 Y h p.1 (sublist_in C inc Y k).1)
