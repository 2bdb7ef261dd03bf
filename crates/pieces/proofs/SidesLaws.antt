-- "Left and right children mean nothing": equal trees have the same pieces. A place is told by the labels that a tree holds and by its
-- closer pairs, and the lines stand in the order of a normal form. C-17. Assumes nothing.
use mathlib.Core.Path.{◌≡◌, refl, sym, ◌∙◌, ap, ap₂}
use mathlib.Core.Bool.{true}
use mathlib.Core.List.{List, [], ◌∷◌}
use mathlib.Core.Option.{Option}
use Rattle.trees.specs.Label.{Label, is_in, distinct}
use Rattle.trees.specs.Tree.{Tree, leaves, normal, Same}
use Rattle.trees.proofs.SameLaws.{tree_sym, same_distinct}
use Rattle.trees.proofs.NormalLaws.{normal_of_same}
use Rattle.agreement.specs.Closer.{holds}
use Rattle.agreement.specs.Restrict.{restrict}
use Rattle.agreement.specs.SameKept.{SameKept, both_none, both_some}
use Rattle.agreement.specs.Sets.{keep, common, set_of}
use Rattle.agreement.proofs.KeepLaws.{keep_cong}
use Rattle.agreement.proofs.SetLaws.{Within, inc_ext, common_inc, in_common, common_in}
use Rattle.agreement.proofs.RestrictLaws.{restrict_distinct}
use Rattle.agreement.proofs.SameLaws.{same_holds, same_closer}
use Rattle.agreement.proofs.SidesText.{same_kept}
use Rattle.pieces.specs.Pieces.{first_only, place_of, IsPlace, clades_of, hangs_at, hanging, listed, pieces_at, pieces_over, pieces}
use Rattle.pieces.proofs.PlaceLaws.{place_is, place_inc}

-- the place of a leaf

place_within : {t u : Tree} (K : List Label) (x : Label) → Same t u → distinct (leaves t) ≡ true → holds t x ≡ true
    → Within (place_of K t x) (place_of K u x)
place_within {t} {u} K x p d h y m =
    (place_is K u x (same_distinct p d) (there x h)).all y (at.chosen y m) (there y (at.held y m))
    (λ z k l. sym (same_closer p d x z y) ∙ at.nearest y m z k (same_holds p z ∙ l))
  where
    at : IsPlace t K x (place_of K t x)
    at = place_is K t x d h

    there : (z : Label) → holds t z ≡ true → holds u z ≡ true
    there z l = sym (same_holds p z) ∙ l

place_same : {t u : Tree} (K : List Label) (x : Label) → Same t u → distinct (leaves t) ≡ true → holds t x ≡ true
    → place_of K t x ≡ place_of K u x
place_same {t} {u} K x p d h =
    let e : distinct (leaves u) ≡ true = same_distinct p d in
    inc_ext (place_of K t x) (place_of K u x) (place_inc K t x d) (place_inc K u x e) (place_within K x p d h)
    (place_within K x (tree_sym p) e (sym (same_holds p x) ∙ h))

module _ {s s' t t' : Tree} (p : Same s s') (q : Same t t') (ds : distinct (leaves s) ≡ true) (dt : distinct (leaves t) ≡ true) where
  common_same : common s t ≡ common s' t'
  common_same =
      inc_ext (common s t) (common s' t') (common_inc s t ds) (common_inc s' t' (same_distinct p ds))
      (λ x m. let h = in_common s t x m in common_in s' t' x (sym (same_holds p x) ∙ h.0) (sym (same_holds q x) ∙ h.1))
      (λ x m. let h = in_common s' t' x m in common_in s t x (same_holds p x ∙ h.0) (same_holds q x ∙ h.1))

  -- a common leaf hangs where it does in the equal trees
  hangs_same : (K c : List Label) (x : Label) → is_in x (common s t) ≡ true → hangs_at s t K c x ≡ hangs_at s' t' K c x
  unfolding hangs_at
  hangs_same K c x m =
      let h = in_common s t x m in
      rw (place_same K x p ds h.0, place_same K x q dt h.1)

  hanging_same : (K c : List Label) → hanging s t K c ≡ hanging s' t' K c
  unfolding hanging
  hanging_same K c =
      keep_cong (hangs_at s t K c) (hangs_at s' t' K c) (common s t) (hangs_same K c) ∙ ap (keep (hangs_at s' t' K c)) common_same

  places_same : (K : List Label) (cs : List (List Label)) → pieces_at s t K cs ≡ pieces_at s' t' K cs
  unfolding pieces_at
  places_same K [] = refl
  places_same K (c ∷ cs) = ap₂ (listed (first_only c)) (hanging_same K c) (places_same K cs)

  over_same : (K : List Label) {o u : Option Tree} → SameKept o u → restrict (set_of K) s ≡ o → pieces_over s t K o ≡ pieces_over s' t' K u
  unfolding pieces_over
  over_same K both_none e = ap (λ (zs : List Label). listed [] zs []) common_same
  over_same K (both_some {p = r} k) e =
      places_same K (clades_of (normal r))
      ∙ ap (λ (v : Tree). pieces_at s' t' K (clades_of v)) (normal_of_same k (restrict_distinct (set_of K) s r e ds))

-- so equal trees have the same lines
pub pieces_same : (s s' t t' : Tree) (K : List Label) → Same s s' → Same t t' → distinct (leaves s) ≡ true → distinct (leaves t) ≡ true
    → pieces s t K ≡ pieces s' t' K
unfolding pieces
pieces_same s s' t t' K p q ds dt = over_same p q ds dt K (same_kept (set_of K) p) refl
