-- One tree: which leaves are below the ancestor of a leaf and its place, and what that says of closer pairs. 003, sections 3 and 4. Assumes
-- nothing.
use mathlib.Core.Path.{◌≡◌, sym, ◌∙◌, ap}
use mathlib.Core.Bool.{true, false}
use mathlib.Core.Logic.{◌⊎◌, inl, inr}
use mathlib.Core.List.{List}
use Rattle.trees.specs.Label.{Label, is_in, distinct}
use Rattle.trees.specs.Tree.{Tree, leaves}
use Rattle.trees.proofs.Bools.{bool_cases, clash, refute}
use Rattle.agreement.specs.Closer.{holds, closer}
use Rattle.agreement.specs.Sets.{increasing}
use Rattle.agreement.proofs.SetLaws.{Within, inc_ext}
use Rattle.agreement.proofs.CloserLaws.{closer_swap}
use Rattle.agreement.proofs.CladeLaws.{closer_held, own_first, own_second, clade}
use Rattle.pieces.specs.Pieces.{head_of, place_of, IsPlace}
use Rattle.pieces.proofs.PlaceLaws.{place_inc, place_is, place_some}
use Rattle.pieces.proofs.HangsAtLaws.{head_in}
use Rattle.pieces.proofs.TrioLaws.{LeafTrio, swap, turn, pair_only, pair_last, wider, Exchanged, exchange}

-- the leaf a has the place p, which is not empty
pub record Sits (t : Tree) (K : List Label) (a : Label) (p : List Label) : Type 0 where
  pub different : distinct (leaves t) ≡ true
  pub here : holds t a ≡ true
  pub ordered : increasing p ≡ true
  pub some : is_in (head_of p) p ≡ true
  pub place : IsPlace t K a p

-- labels of which only one is required are different
pub required_ne : (K : List Label) (x y : Label) → is_in x K ≡ false → is_in y K ≡ true → x ≡ y → ⊥
required_ne K x y n k e = clash (ap (λ (w : Label). is_in w K) e ∙ k) n

module _ {t : Tree} {K : List Label} {a : Label} {p : List Label} (h : Sits t K a p) where
  pub head_required : is_in (head_of p) K ≡ true
  head_required = h.place.chosen (head_of p) h.some

  pub head_held : holds t (head_of p) ≡ true
  head_held = h.place.held (head_of p) h.some

  -- the required leaves below the ancestor of a and the place's head are the place
  pub in_inside : (b : Label) → is_in b p ≡ true → closer t a (head_of p) b ≡ false
  in_inside b m = h.place.nearest b m (head_of p) head_required head_held

  pub inside_in : (b : Label) → is_in b K ≡ true → closer t a (head_of p) b ≡ false → is_in b p ≡ true
  inside_in b k e =
      h.place.all b k (closer_held t a (head_of p) b e)
      (λ z m n. wider t a z (head_of p) b h.different h.here n (h.place.nearest (head_of p) h.some z m n) e)

  self_inside : closer t a (head_of p) a ≡ false
  self_inside = own_first t a (head_of p) h.different h.here head_held

  head_inside : closer t a (head_of p) (head_of p) ≡ false
  head_inside = own_second t a (head_of p) h.different h.here head_held

  -- the same by any other leaf of the place
  pub any_inside : (r c : Label) → is_in r p ≡ true → closer t a (head_of p) c ≡ false → closer t a r c ≡ false
  any_inside r c m e =
      wider t a r (head_of p) c h.different h.here (h.place.held r m)
      (h.place.nearest (head_of p) h.some r (h.place.chosen r m) (h.place.held r m)) e

module _ {t : Tree} {K : List Label} {a b : Label} {p q : List Label} (h : Sits t K a p) (k : Sits t K b q) where
  -- what is inside has its place inside
  pub inside_within : closer t a (head_of p) b ≡ false → Within q p
  inside_within e y m = inside_in h y (k.place.chosen y m) (refute (closer t a (head_of p) y) apart)
    where
      apart : closer t a (head_of p) y ≡ true → ⊥
      apart o =
          clash (clade t a (head_of p) b (head_of p) y h.different e (head_inside h) o)
          (k.place.nearest y m (head_of p) (head_required h) (head_held h))

  -- places inside each other are one
  both_within : Within q p → Within p q → p ≡ q
  both_within f g = inc_ext p q h.ordered k.ordered g f

module _ {t : Tree} {K : List Label} {a b : Label} {p q : List Label} (h : Sits t K a p) (k : Sits t K b q)
    (na : is_in a K ≡ false) (nb : is_in b K ≡ false) (ab : a ≡ b → ⊥) where
  -- a, b and the head of b's place
  with_head : LeafTrio t a b (head_of q)
  with_head = record {
    different = h.different;
    ab = ab;
    ac = required_ne K a (head_of q) na (head_required k);
    bc = required_ne K b (head_of q) nb (head_required k);
    held_a = h.here;
    held_b = k.here;
    held_c = head_held k;
  }

  -- what has another place inside is inside
  pub within_inside : (p ≡ q → ⊥) → Within q p → closer t a (head_of p) b ≡ false
  within_inside n f = refute (closer t a (head_of p) b) around
    where
      around : closer t a (head_of p) b ≡ true → ⊥
      around o =
          let w : closer t a (head_of q) b ≡ true =
          clade t a (head_of p) a (head_of q) b h.different (self_inside h) (in_inside h (head_of q) (f (head_of q) k.some)) o in
          let i : closer t b (head_of q) a ≡ false = closer_swap t b (head_of q) a ∙ (pair_only (turn with_head) w).1 in
          n (both_within h k f (inside_within k h i))

  -- if b is inside with another place, then all that is below the ancestor of a and its place is below that of a and b
  pub under : (p ≡ q → ⊥) → closer t a (head_of p) b ≡ false → (c : Label) → closer t a (head_of p) c ≡ false → closer t a b c ≡ false
  under n e c f =
      wider t a b (head_of q) c h.different h.here k.here
      (closer_swap t a b (head_of q) ∙ (pair_only (turn (swap with_head)) (outside (bool_cases (closer t b (head_of q) a)))).0)
      (any_inside h (head_of q) c (inside_within h k e (head_of q) k.some) f)
    where
      outside : (closer t b (head_of q) a ≡ true) ⊎ (closer t b (head_of q) a ≡ false) → closer t b (head_of q) a ≡ true
      outside (inl o) = o
      outside (inr i) = absurd (n (both_within h k (inside_within h k e) (inside_within k h i)))

-- the same if b is required
pub under_required : {t : Tree} {K : List Label} {a : Label} {p : List Label} → Sits t K a p → (b : Label) → is_in b K ≡ true
    → holds t b ≡ true → (c : Label) → closer t a (head_of p) c ≡ false → closer t a b c ≡ false
under_required {t} {K} {a} {p} h b kb hb c f =
    wider t a b (head_of p) c h.different h.here hb (h.place.nearest (head_of p) h.some b kb hb) f

-- two leaves with one place are closer to each other than to a required leaf outside it
pub together_pair : {t : Tree} {K : List Label} {a b : Label} {p : List Label} → Sits t K a p → Sits t K b p
    → is_in a K ≡ false → is_in b K ≡ false → (a ≡ b → ⊥) → (c : Label) → is_in c K ≡ true → is_in c p ≡ false → closer t a b c ≡ true
together_pair {t} {K} {a} {b} {p} h k na nb ab c kc n = go (bool_cases (closer t a (head_of p) b))
  where
    outside : (x : Label) → Sits t K x p → (closer t x (head_of p) c ≡ true) ⊎ (closer t x (head_of p) c ≡ false)
        → closer t x (head_of p) c ≡ true
    outside x i (inl o) = o
    outside x i (inr e) = clash (inside_in i c kc e) n

    three : LeafTrio t a (head_of p) b
    three = record {
      different = h.different;
      ab = required_ne K a (head_of p) na (head_required h);
      ac = ab;
      bc = λ e. required_ne K b (head_of p) nb (head_required k) (sym e);
      held_a = h.here;
      held_b = head_held h;
      held_c = k.here;
    }

    go : (closer t a (head_of p) b ≡ true) ⊎ (closer t a (head_of p) b ≡ false) → closer t a b c ≡ true
    go (inr i) =
        clade t a (head_of p) a b c h.different (own_first t a (head_of p) h.different h.here (head_held h)) i
        (outside a h (bool_cases (closer t a (head_of p) c)))
    go (inl o) =
        let i : closer t b (head_of p) a ≡ false = closer_swap t b (head_of p) a ∙ (pair_only three o).1 in
        closer_swap t a b c
        ∙ clade t b (head_of p) b a c k.different (own_first t b (head_of p) k.different k.here (head_held k)) i
        (outside b k (bool_cases (closer t b (head_of p) c)))

-- required leaves of a leaf's place are closer to each other than to it
place_pair : {t : Tree} {K : List Label} {a : Label} {p : List Label} → Sits t K a p → is_in a K ≡ false → (c : Label) → is_in c p ≡ true
    → (c ≡ head_of p → ⊥) → closer t c (head_of p) a ≡ true
place_pair {t} {K} {a} {p} h na c m cr =
    pair_last
    (record {
      different = h.different;
      ab = required_ne K a c na kc;
      ac = required_ne K a (head_of p) na (head_required h);
      bc = cr;
      held_a = h.here;
      held_b = hc;
      held_c = head_held h;
    })
    (h.place.nearest (head_of p) h.some c kc hc) (in_inside h c m)
  where
    kc : is_in c K ≡ true
    kc = h.place.chosen c m

    hc : holds t c ≡ true
    hc = h.place.held c m

-- so any leaf of the place can be exchanged for its head in a trio with two leaves that hang there
pub head_exchanged : {t : Tree} {K : List Label} {a b : Label} {p : List Label} → Sits t K a p → Sits t K b p
    → is_in a K ≡ false → is_in b K ≡ false → (a ≡ b → ⊥) → (c : Label) → is_in c p ≡ true → (c ≡ head_of p → ⊥) → Exchanged t c (head_of p) a b
head_exchanged {t} {K} {a} {b} {p} h k na nb ab c m cr =
    exchange c (head_of p) (own_first t c (head_of p) h.different (h.place.held c m) (head_held h))
    (own_second t c (head_of p) h.different (h.place.held c m) (head_held h)) (with c (h.place.chosen c m) (h.place.held c m))
    (with (head_of p) (head_required h) (head_held h)) (place_pair h na c m cr) (place_pair k nb c m cr)
  where
    with : (x : Label) → is_in x K ≡ true → holds t x ≡ true → LeafTrio t x a b
    with x kx hx = record {
      different = h.different;
      ab = λ e. required_ne K a x na kx (sym e);
      ac = λ e. required_ne K b x nb kx (sym e);
      bc = ab;
      held_a = hx;
      held_b = h.here;
      held_c = k.here;
    }

-- the computed place of a leaf, if some leaf is required
pub sits : (K : List Label) (t : Tree) (x y : Label) → distinct (leaves t) ≡ true → holds t x ≡ true → is_in y K ≡ true → holds t y ≡ true
    → Sits t K x (place_of K t x)
sits K t x y d h k l = record {
  different = d;
  here = h;
  ordered = place_inc K t x d;
  some = head_in (place_of K t x) (λ e. place_some K t x y e k l);
  place = place_is K t x d h;
}
