-- A body read by an edition: turned down as the edition reads it, and else read as it stands. Assumes nothing.
use Prim.Native.Nat.{ℕ}
use mathlib.Core.Path.{◌≡◌, refl, sym, ◌∙◌, ap, subst}
use mathlib.Core.Bool.{Bool, true, false}
use Rattle.trees.specs.declared.Reason.{Reason}
use Rattle.trees.specs.Reading.{Reading, good, refused, as_stands}
use Rattle.trees.proofs.Bools.{clash}

module _ {A : Type 0} where
  pub stands_good : (x y : A) (folded plain : Reading A) → folded ≡ good y → plain ≡ good x → as_stands folded plain ≡ good x
  unfolding as_stands
  stands_good x y folded plain h k = rw h k

  pub stands_refused : (r : Reason) (i : ℕ) (folded plain : Reading A) → folded ≡ refused r i → as_stands folded plain ≡ refused r i
  unfolding as_stands
  stands_refused r i folded plain h = rw h refl

  -- of a body that is read alike nothing changes
  pub stands_alike : (w : Reading A) → as_stands w w ≡ w
  unfolding as_stands
  stands_alike (good x) = refl
  stands_alike (refused r i) = refl

  abbrev is_good : Reading A → Bool
  is_good (good x) = true
  is_good (refused r i) = false

  abbrev read_or : A → Reading A → A
  read_or x (good y) = y
  read_or x (refused r i) = x

  -- both readings at once: what is read by the edition is x with other labels, and x is the body's
  pub data ReadView (fold : A → A) (Is : A → Type 0) (folded plain : Reading A) : Type 0 where
    read_as : (x : A) → folded ≡ good (fold x) → plain ≡ good x → Is x → ReadView fold Is folded plain
    turned_as : (r : Reason) (i : ℕ) → folded ≡ refused r i → ReadView fold Is folded plain

  module _ (fold : A → A) (Is : A → Type 0) (folded plain : Reading A) (view : ReadView fold Is folded plain) where
    record Read (x : A) : Type 0 where
      by : folded ≡ good (fold x)
      is : Is x

    read_of : (x : A) → as_stands folded plain ≡ good x → Read x
    read_of x h = go view
      where
        go : ReadView fold Is folded plain → Read x
        go (read_as y f p i) =
            subst (λ (z : A). Read z) (ap (read_or x) (sym (stands_good y (fold y) folded plain f p) ∙ h)) (record { by = f; is = i })
        go (turned_as r i f) = clash refl (ap is_good (sym h ∙ stands_refused r i folded plain f))

    pub view_is : (x : A) → as_stands folded plain ≡ good x → Is x
    view_is x h = (read_of x h).is

    pub view_folded : (x : A) → as_stands folded plain ≡ good x → folded ≡ good (fold x)
    view_folded x h = (read_of x h).by

    pub view_refused : (r : Reason) (i : ℕ) → as_stands folded plain ≡ refused r i → folded ≡ refused r i
    view_refused r i h = go view
      where
        go : ReadView fold Is folded plain → folded ≡ refused r i
        go (read_as y f p q) = clash refl (ap is_good (sym (stands_good y (fold y) folded plain f p) ∙ h))
        go (turned_as q j f) = f ∙ sym (stands_refused q j folded plain f) ∙ h

    -- what is told alike of x and of x with other labels is told by either reading
    pub view_told : {B : Type 0} (tell : Reading A → B) → ((x : A) → tell (good (fold x)) ≡ tell (good x)) → tell (as_stands folded plain) ≡ tell folded
    view_told tell e = go view
      where
        go : ReadView fold Is folded plain → tell (as_stands folded plain) ≡ tell folded
        go (read_as y f p i) = ap tell (stands_good y (fold y) folded plain f p) ∙ sym (e y) ∙ ap tell (sym f)
        go (turned_as r i f) = ap tell (stands_refused r i folded plain f ∙ sym f)
