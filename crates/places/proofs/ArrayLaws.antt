-- Arrays of what is known of a node, and what each array says part by part. Assumes nothing.
use Prim.Native.Nat.{ℕ, zero, suc, ◌<◌}
use mathlib.Core.Path.{◌≡◌, refl, ◌∙◌, ap, ap₂}
use mathlib.Core.Bool.{Bool, true, false, cond}
use mathlib.Core.List.{List, ◌∷◌}
use native.Mathlib.Omega.{arith}
use lib.ListN.{length, get_or, get_or-map, set, replicate, length-set}
use Rattle.std.proofs.lemmas.List.{map-set, length-map}
use Rattle.places.specs.declared.downward.NodePlace.{NodePlace}
use Rattle.places.specs.declared.upward.Below.{Below}
use Rattle.places.specs.Nodes.{child_number, child_top, PassedOn, manys, leasts, numbers, tops}

abbrev pub no_below : Below
no_below = record { many = 0; least = 0 }

abbrev pub no_place : NodePlace
no_place = record { number = 0; top = 0 }

pub many_get : (bs : List Below) (i : ℕ) → get_or (manys bs) i 0 ≡ (get_or bs i no_below).many
many_get bs i = get_or-map (λ (b : Below). b.many) bs i no_below

pub least_get : (bs : List Below) (i : ℕ) → get_or (leasts bs) i 0 ≡ (get_or bs i no_below).least
least_get bs i = get_or-map (λ (b : Below). b.least) bs i no_below

pub number_get : (ps : List NodePlace) (i : ℕ) → get_or (numbers ps) i 0 ≡ (get_or ps i no_place).number
number_get ps i = get_or-map (λ (p : NodePlace). p.number) ps i no_place

pub top_get : (ps : List NodePlace) (i : ℕ) → get_or (tops ps) i 0 ≡ (get_or ps i no_place).top
top_get ps i = get_or-map (λ (p : NodePlace). p.top) ps i no_place

-- an entry is set
pub many_set : (bs : List Below) (i : ℕ) (x : Below) → manys (set bs i x) ≡ set (manys bs) i x.many
many_set bs i x = map-set (λ (b : Below). b.many) bs i x

pub least_set : (bs : List Below) (i : ℕ) (x : Below) → leasts (set bs i x) ≡ set (leasts bs) i x.least
least_set bs i x = map-set (λ (b : Below). b.least) bs i x

pub number_set : (ps : List NodePlace) (i : ℕ) (x : NodePlace) → numbers (set ps i x) ≡ set (numbers ps) i x.number
number_set ps i x = map-set (λ (p : NodePlace). p.number) ps i x

pub top_set : (ps : List NodePlace) (i : ℕ) (x : NodePlace) → tops (set ps i x) ≡ set (tops ps) i x.top
top_set ps i x = map-set (λ (p : NodePlace). p.top) ps i x

-- as many entries
pub many_size : (bs : List Below) → length (manys bs) ≡ length bs
many_size bs = length-map bs (λ (b : Below). b.many)

pub least_size : (bs : List Below) → length (leasts bs) ≡ length bs
least_size bs = length-map bs (λ (b : Below). b.least)

pub number_size : (ps : List NodePlace) → length (numbers ps) ≡ length ps
number_size ps = length-map ps (λ (p : NodePlace). p.number)

pub top_size : (ps : List NodePlace) → length (tops ps) ≡ length ps
top_size ps = length-map ps (λ (p : NodePlace). p.top)

-- an entry is set or not
pub number_put : (b : Bool) (ps : List NodePlace) (i : ℕ) (x : NodePlace) → numbers (cond b ps (set ps i x)) ≡ cond b (numbers ps) (set (numbers ps) i x.number)
number_put true ps i x = refl
number_put false ps i x = number_set ps i x

pub top_put : (b : Bool) (ps : List NodePlace) (i : ℕ) (x : NodePlace) → tops (cond b ps (set ps i x)) ≡ cond b (tops ps) (set (tops ps) i x.top)
top_put true ps i x = refl
top_put false ps i x = top_set ps i x

-- an array of one place
numbers_filled : (n : ℕ) (p : NodePlace) → numbers (replicate n p) ≡ replicate n p.number
numbers_filled zero p = refl
numbers_filled (suc n) p = ap (λ (xs : List ℕ). p.number ∷ xs) (numbers_filled n p)

tops_filled : (n : ℕ) (p : NodePlace) → tops (replicate n p) ≡ replicate n p.top
tops_filled zero p = refl
tops_filled (suc n) p = ap (λ (xs : List ℕ). p.top ∷ xs) (tops_filled n p)

pub filled_places : (P : List ℕ → List ℕ → Type 0) (n : ℕ) (p : NodePlace) → P (replicate n p.number) (replicate n p.top)
    → P (numbers (replicate n p)) (tops (replicate n p))
filled_places P n p h = rw (numbers_filled n p, tops_filled n p) h

-- both children of node u have their places
module _ (below : List Below) (places : List NodePlace) (a b u : ℕ) (x y : NodePlace) (h : a < u) where
  abbrev at : ℕ → Below
  at i = get_or below i no_below

  pub passed : x.number ≡ child_number (at a).many (at b).many (at a).least (at b).least (get_or places u no_place).number
      → x.top ≡ child_top (at a).many (at b).many (at a).least (get_or places u no_place).top
      → y.number ≡ child_number (at b).many (at a).many (at b).least (at a).least (get_or places u no_place).number
      → y.top ≡ child_top (at b).many (at a).many (at b).least (get_or places u no_place).top
      → PassedOn (manys below) (leasts below) a b u (numbers places) (tops places) (numbers (set (set places a x) b y)) (tops (set (set places a x) b y))
  passed xn xt yn yt =
      record {
        numbers = λ l k.
            rw (many_get below a, many_get below b, least_get below a, least_get below b, number_get places u)
            (number_set (set places a x) b y
            ∙ ap (λ (ns : List ℕ). set ns b y.number) (number_set places a x)
            ∙ ap₂ (λ (m n : ℕ). set (set (numbers places) a m) b n) xn yn);
        tops = λ l k.
            rw (many_get below a, many_get below b, least_get below a, least_get below b, top_get places u)
            (top_set (set places a x) b y
            ∙ ap (λ (ns : List ℕ). set ns b y.top) (top_set places a x)
            ∙ ap₂ (λ (m n : ℕ). set (set (tops places) a m) b n) xt yt);
        sizes = (
          number_size (set (set places a x) b y) ∙ length-set (set places a x) b y ∙ length-set places a x ∙ (rw (number_size places) refl),
          top_size (set (set places a x) b y) ∙ length-set (set places a x) b y ∙ length-set places a x ∙ (rw (top_size places) refl),
        );
        leaf_kept = λ l. absurd (omega arith);
      }
