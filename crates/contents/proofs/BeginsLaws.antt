-- A text that begins with these bytes, or with one of some bytes. Assumes nothing.
use Prim.Native.Nat.{ℕ, ◌+◌, ◌≤◌}
use mathlib.Core.Path.{◌≡◌, refl, sym, ◌∙◌, ap, ap₂, subst}
use mathlib.Core.Bool.{Bool, true, false, ◌&&◌, ◌||◌}
use mathlib.Core.Logic.{◌⊎◌, inl, inr}
use mathlib.Core.List.{List, [], ◌∷◌, ◌++◌}
use native.Mathlib.Omega.{arith}
use lib.Dec.{eqb}
use lib.ListN.{length, take, drop, length-append, length-drop}
use borrow.Author.Tests.{eq-eqb, eqb-true}
use Rattle.std.specs.Cmp.Lexicographic.{pointwise}
use Rattle.std.proofs.lemmas.Bool.Decides.{nat_tests}
use Rattle.trees.proofs.Bools.{bool_cases, clash, and_left, and_right, or_inl, or_inr}
use Rattle.contents.specs.Contents.{begins}

eqb_turned : (b x : ℕ) → eqb b x ≡ eqb x b
eqb_turned b x = grind (arith, nat_tests)

starts_begins : (word text : List ℕ) → pointwise eqb word (take (length word) text) ≡ begins word text
unfolding begins
starts_begins [] text = refl
starts_begins (b ∷ word) [] = refl
starts_begins (b ∷ word) (x ∷ text) = ap₂ (λ (p q : Bool). p && q) (eqb_turned b x) (starts_begins word text)

-- as `starts_with` tests what is left of a text
pub begins_tested : (word text left : List ℕ) (r : Bool) → r ≡ pointwise eqb word (take (length word) left) → left ≡ text → begins word text ≡ r
begins_tested word text left r e f = sym (e ∙ starts_begins word left ∙ ap (begins word) f)

pub begins_own : (word rest : List ℕ) → begins word (word ++ rest) ≡ true
unfolding begins
begins_own [] rest = refl
begins_own (b ∷ word) rest = rw (eq-eqb b b refl, begins_own word rest) refl

pub begins_split : (word text : List ℕ) → begins word text ≡ true → text ≡ word ++ drop (length word) text
unfolding begins
begins_split [] text h = refl
begins_split (b ∷ word) [] h = clash h refl
begins_split (b ∷ word) (x ∷ text) h =
    ap₂ (λ (y : ℕ) (ys : List ℕ). y ∷ ys) (eqb-true x b (and_left (eqb x b) (begins word text) h))
    (begins_split word text (and_right (eqb x b) (begins word text) h))

-- bytes that are there end in the text
pub begins_inside : (word text : List ℕ) (k : ℕ) → begins word (drop k text) ≡ true → (length word ≡ 0) ⊎ (k + length word ≤ length text)
begins_inside [] text k e = inl refl
begins_inside (b ∷ word) text k e =
    inr (omega (
      arith,
      ap (length {A = ℕ}) (begins_split (b ∷ word) (drop k text) e) ∙ length-append (b ∷ word) (drop (length (b ∷ word)) (drop k text)),
      length-drop k text,
    ))

-- the same bytes in front of both
pub begins_both : (front word text : List ℕ) → begins (front ++ word) (front ++ text) ≡ begins word text
unfolding begins
begins_both [] word text = refl
begins_both (b ∷ front) word text = rw (eq-eqb b b refl) (begins_both front word text)

-- a text's first byte is one of these, if it has one
unfoldable pub among : ℕ → List ℕ → Bool
among x [] = false
among x (b ∷ bs) = eqb x b || among x bs

abbrev pub Opens : List ℕ → List ℕ → Type 0
Opens bs [] = Prim.Unit {0}
Opens bs (x ∷ text) = among x bs ≡ true

pub opens_more : (b : ℕ) (bs text : List ℕ) → Opens bs text → Opens (b ∷ bs) text
unfolding among
opens_more b bs [] o = tt
opens_more b bs (x ∷ text) o = or_inr (eqb x b) (among x bs) o

pub opens_own : (b : ℕ) (bs text : List ℕ) → Opens (b ∷ bs) (b ∷ text)
unfolding among
opens_own b bs text = or_inl (eqb b b) (among b bs) (eq-eqb b b refl)

-- other bytes do not stand there
pub opens_other : (x : ℕ) (word text bs : List ℕ) → Opens bs text → among x bs ≡ false → begins (x ∷ word) text ≡ false
unfolding begins
opens_other x word [] bs o h = refl
opens_other x word (y ∷ text) bs o h = go (bool_cases (eqb y x))
  where
    go : (eqb y x ≡ true) ⊎ (eqb y x ≡ false) → eqb y x && begins word text ≡ false
    go (inl e) = clash (subst (λ (z : ℕ). among z bs ≡ true) (eqb-true y x e) o) h
    go (inr e) = rw e refl
