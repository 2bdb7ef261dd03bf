-- A list that stands inside a longer one from a place on, and its parts. Assumes nothing.
use Prim.Native.Nat.{ℕ, ◌+◌, ◌<◌, ◌≤◌}
use mathlib.Core.Path.{◌≡◌, refl, ◌∙◌}
use mathlib.Core.List.{List, [], ◌∷◌, ◌++◌}
use native.Mathlib.Omega.{arith}
use native.Mathlib.Nat.{add-zero, zero-add, add_assoc}
use lib.ListN.{length, get_or, take, drop, length-append, length-drop, get_or-append}
use lib.Seq.{get_or-append-add, get_or-take, get_or-drop, length-take-le, ext_get_or}

-- l stands in xs from place n on
abbrev pub At : List ℕ → ℕ → List ℕ → Type 0
At xs n l = (k : ℕ) → k < length l → get_or xs (n + k) 0 ≡ get_or l k 0

pub at_whole : (l r : List ℕ) → At (l ++ r) 0 l
at_whole l r k h = rw (zero-add k) (get_or-append l r 0 k h)

pub at_left : (xs : List ℕ) (n : ℕ) (l m : List ℕ) → At xs n (l ++ m) → At xs n l
at_left xs n l m f k h = f k (omega (arith, length-append l m)) ∙ get_or-append l m 0 k h

pub at_right : (xs : List ℕ) (n : ℕ) (l m : List ℕ) (i : ℕ) → length l ≡ i → At xs n (l ++ m) → At xs (n + i) m
at_right xs n l m i e f k h =
    rw (← e, add_assoc n (length l) k) (f (length l + k) (omega (arith, length-append l m)) ∙ get_or-append-add l m k 0)

pub at_tail : (xs : List ℕ) (n x : ℕ) (m : List ℕ) → At xs n (x ∷ m) → At xs (n + 1) m
at_tail xs n x m f = at_right xs n (x ∷ []) m 1 refl f

pub at_head : (xs : List ℕ) (n x : ℕ) (m : List ℕ) → At xs n (x ∷ m) → get_or xs n 0 ≡ x
at_head xs n x m f = rw (add-zero n) at (f 0 (omega arith))

-- what stands there can be cut out
pub at_take : (xs : List ℕ) (n : ℕ) (l : List ℕ) → n + length l ≤ length xs → At xs n l → take (length l) (drop n xs) ≡ l
at_take xs n l b f =
    ext_get_or 0 (take (length l) (drop n xs)) l size
    (λ (i : ℕ) (h : i < length (take (length l) (drop n xs))).
    get_or-take (length l) (drop n xs) i 0 (rw size at h) ∙ get_or-drop n xs i 0 ∙ f i (rw size at h))
  where
    size : length (take (length l) (drop n xs)) ≡ length l
    size = length-take-le (length l) (drop n xs) (omega (arith, length-drop n xs))

-- two parts and one element more, as the arrays of a tree are made
module _ (xs : List ℕ) (n : ℕ) (l m : List ℕ) (x : ℕ) (i : ℕ) (e : length l ≡ i) (f : At xs n (l ++ (m ++ (x ∷ [])))) where
  pub second_part : At xs (n + i) m
  second_part = at_left xs (n + i) m (x ∷ []) (at_right xs n l (m ++ (x ∷ [])) i e f)

  pub last_element : (j : ℕ) → length m ≡ j → get_or xs (n + i + j) 0 ≡ x
  last_element j d = at_head xs (n + i + j) x [] (at_right xs (n + i) m (x ∷ []) j d (at_right xs n l (m ++ (x ∷ [])) i e f))
