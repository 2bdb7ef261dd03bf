-- How a set on which two nodes agree falls to their children. Assumes nothing.
use mathlib.Core.Path.{◌≡◌, sym, ◌∙◌}
use mathlib.Core.Bool.{Bool, true, false, ◌&&◌}
use mathlib.Core.Logic.{◌⊎◌, inl, inr}
use Rattle.trees.specs.Label.{Label}
use Rattle.trees.specs.Tree.{Tree}
use Rattle.trees.proofs.Bools.{clash, and_left, and_right, and_intro, refute}
use Rattle.agreement.specs.Closer.{holds, closer, Agree, Common}
use Rattle.agreement.proofs.HoldsLaws.{Found, search_tree, held_ne}
use Rattle.agreement.proofs.Children.{Children, not_one, closer_apart}

-- what the set has of s lies in t too
abbrev pub Within : Tree → Tree → (Label → Bool) → Type 0
Within s t X = (x : Label) → X x ≡ true → holds s x ≡ true → holds t x ≡ true

-- the set has nothing of t
abbrev pub Empty : Tree → (Label → Bool) → Type 0
Empty t X = (x : Label) → holds t x ≡ true → X x ≡ false

-- what the set has of s lies in t, and the two agree on it: so a set serves a tree and its subtrees alike
pub record Fits (s t : Tree) (X : Label → Bool) : Type 0 where
  pub within : Within s t X
  pub agrees : (a b c : Label) → X a ≡ true → X b ≡ true → X c ≡ true → holds s a ≡ true → holds s b ≡ true → holds s c ≡ true
      → (a ≡ b → ⊥) → (a ≡ c → ⊥) → (b ≡ c → ⊥) → closer s a b c ≡ closer t a b c

pub fits : (s t : Tree) (X : Label → Bool) → Common s t X → Agree s t X → Fits s t X
fits s t X m g =
    record {
      within = λ x h k. (m x h).1;
      agrees = λ a b c xa xb xc ha hb hc. g a b c xa xb xc;
    }

-- below one child of the first tree
pub fits_below : {s p q t : Tree} {X : Label → Bool} → Children s p q → Fits s t X → Fits p t X
fits_below k f =
    record {
      within = λ x h l. f.within x h (k.one x l);
      agrees = λ a b c xa xb xc ha hb hc ab ac bc.
          sym (k.below_one a b c ha hb) ∙ f.agrees a b c xa xb xc (k.one a ha) (k.one b hb) (k.one c hc) ab ac bc;
    }

-- into one child of the second
pub fits_into : {s t c d : Tree} {X : Label → Bool} → Children t c d → Within s c X → Fits s t X → Fits s c X
fits_into k i f =
    record {
      within = i;
      agrees = λ a b c xa xb xc ha hb hc ab ac bc.
          f.agrees a b c xa xb xc ha hb hc ab ac bc ∙ k.below_one a b c (i a xa ha) (i b xb hb);
    }

-- both children's parts in v
pub within_both : {s p q : Tree} {X : Label → Bool} → Children s p q → (v : Tree) → Within p v X → Within q v X → Within s v X
within_both {p = p} {q = q} k v i j x h n = pick (k.cover x n)
  where
    pick : (holds p x ≡ true) ⊎ (holds q x ≡ true) → holds v x ≡ true
    pick (inl e) = i x h e
    pick (inr e) = j x h e

-- labels of both children of t below one child of s leave nothing for the other: their pair is closer in s and not in t
none_left : {s p q t c d : Tree} {X : Label → Bool} → Children s p q → Children t c d → Fits s t X → (a b : Label)
    → X a ≡ true → X b ≡ true → holds p a ≡ true → holds p b ≡ true → holds c a ≡ true → holds d b ≡ true → Empty q X
none_left {s = s} {c = c} {X = X} k l f a b xa xb pa pb ca db z qz = refute (X z) (λ h. clash (closer_apart k a b z pa pb qz) (split h))
  where
    split : X z ≡ true → closer s a b z ≡ false
    split h =
        f.agrees a b z xa xb h (k.one a pa) (k.one b pb) (k.two z qz)
        (held_ne c a b ca (not_one l b db))
        (λ e. k.apart a pa (rw (← e) at qz))
        (λ e. k.apart b pb (rw (← e) at qz))
        ∙ l.never a b z ca db (f.within z h (k.two z qz))

-- the part below p lies in one child of t, or nothing lies below q
pub divide : {s p q t c d : Tree} {X : Label → Bool} → Children s p q → Children t c d → Fits s t X
    → Within p c X ⊎ (Within p d X ⊎ Empty q X)
divide {p = p} {q = q} {t = t} {c = c} {d = d} {X = X} k l f = go (search_tree (λ x. X x && holds c x) p) (search_tree (λ x. X x && holds d x) p)
  where
    inside : (x : Label) → X x ≡ true → holds p x ≡ true → (holds c x ≡ true) ⊎ (holds d x ≡ true)
    inside x h m = l.cover x (f.within x h (k.one x m))

    go : Found (λ x. X x && holds c x) p ⊎ ((x : Label) → holds p x ≡ true → (X x && holds c x) ≡ false)
        → Found (λ x. X x && holds d x) p ⊎ ((x : Label) → holds p x ≡ true → (X x && holds d x) ≡ false)
        → Within p c X ⊎ (Within p d X ⊎ Empty q X)
    go (inr n) m = inr (inl (λ x h i. pick x h i (inside x h i)))
      where
        pick : (x : Label) → X x ≡ true → holds p x ≡ true → (holds c x ≡ true) ⊎ (holds d x ≡ true) → holds d x ≡ true
        pick x h i (inl j) = clash (and_intro (X x) (holds c x) h j) (n x i)
        pick x h i (inr j) = j
    go (inl u) (inr n) = inl (λ x h i. pick x h i (inside x h i))
      where
        pick : (x : Label) → X x ≡ true → holds p x ≡ true → (holds c x ≡ true) ⊎ (holds d x ≡ true) → holds c x ≡ true
        pick x h i (inl j) = j
        pick x h i (inr j) = clash (and_intro (X x) (holds d x) h j) (n x i)
    go (inl u) (inl v) = inr (inr (none_left k l f a b (and_left (X a) (holds c a) u.chosen) (and_left (X b) (holds d b) v.chosen)
        u.held v.held (and_right (X a) (holds c a) u.chosen) (and_right (X b) (holds d b) v.chosen)))
      where
        a : Label
        a = u.label

        b : Label
        b = v.label
