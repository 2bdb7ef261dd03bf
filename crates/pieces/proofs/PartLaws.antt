-- Two trees agree on a set with the required leaves exactly if they agree on these and on each part that hangs at one place. C-17; 003,
-- Theorems 4 and 9. Assumes nothing.
use mathlib.Core.Path.{◌≡◌, refl, sym, ◌∙◌}
use mathlib.Core.Bool.{Bool, true, false, ◌||◌}
use mathlib.Core.Logic.{◌⊎◌, inl, inr, Ne-symm, ◌↔◌}
use mathlib.Core.List.{List}
use Rattle.trees.specs.Label.{Label, same_label, is_in, distinct}
use Rattle.trees.specs.Tree.{Tree, leaves}
use Rattle.trees.proofs.Bools.{bool_cases, and_left, and_intro, or_inl, or_inr}
use Rattle.trees.proofs.LabelLaws.{same_refl}
use Rattle.agreement.specs.Closer.{Agree, Common}
use Rattle.agreement.specs.Sets.{set_of}
use Rattle.agreement.proofs.AnswerLaws.{Alike}
use Rattle.pieces.specs.Pieces.{head_of, place_of, hangs_at, PlacedSet, part_at}
use Rattle.pieces.proofs.HangsAtLaws.{set_cases, hangs_true}
use Rattle.pieces.proofs.NearLaws.{head_required, sits}
use Rattle.pieces.proofs.MoveLaws.{alike_turn, alike_swap, agree_alike, Both, elsewhere, move_one, one_out, two_apart}
use Rattle.pieces.proofs.MoveLaws.{two_together}

module _ (s t : Tree) (K : List Label) (X : Label → Bool) (ds : distinct (leaves s) ≡ true) (dt : distinct (leaves t) ≡ true)
    (y : Label) (ky : is_in y K ≡ true) (one_each : PlacedSet s t K X) where
  held : Common s t (set_of K)
  held x k = one_each.common_leaves x (one_each.required x k)

  both : (x : Label) → X x ≡ true → is_in x K ≡ false → Both s t K x (place_of K s x)
  both x m n = record {
    first = sits K s x y ds (one_each.common_leaves x m).0 ky (held y ky).0;
    second = rw (one_each.one_place x m n) (sits K t x y dt (one_each.common_leaves x m).1 ky (held y ky).1);
  }

  module _ (required_agree : Agree s t (set_of K))
      (parts : (x : Label) → X x ≡ true → is_in x K ≡ false → Agree s t (part_at s t K X (place_of K s x))) where
    in_part : (x : Label) (q : List Label) → X x ≡ true → is_in x K ≡ false → place_of K s x ≡ q → part_at s t K X q x ≡ true
    unfolding part_at
    in_part x q m n e =
        and_intro (X x) (same_label x (head_of q) || hangs_at s t K q x) m
        (or_inr (same_label x (head_of q)) (hangs_at s t K q x) (hangs_true s t K x q n e (sym (one_each.one_place x m n) ∙ e)))

    head_part : (q : List Label) → is_in (head_of q) K ≡ true → part_at s t K X q (head_of q) ≡ true
    unfolding part_at
    head_part q k =
        and_intro (X (head_of q)) (same_label (head_of q) (head_of q) || hangs_at s t K q (head_of q)) (one_each.required (head_of q) k)
        (or_inl (same_label (head_of q) (head_of q)) (hangs_at s t K q (head_of q)) (same_refl (head_of q)))

    two_out : (a b c : Label) → X a ≡ true → X b ≡ true → is_in a K ≡ false → is_in b K ≡ false → is_in c K ≡ true
        → (a ≡ b → ⊥) → (a ≡ c → ⊥) → (b ≡ c → ⊥) → Alike s t a b c
    two_out a b c xa xb na nb kc ab ac bc = go (set_cases (place_of K s a) (place_of K s b))
      where
        go : (place_of K s a ≡ place_of K s b) ⊎ (place_of K s a ≡ place_of K s b → ⊥) → Alike s t a b c
        go (inr n) = two_apart held ds dt required_agree (both a xa na) (both b xb nb) na nb n c kc ab ac bc
        go (inl e) =
            two_together held ds dt required_agree (both a xa na) (rw e (both b xb nb)) na nb (part_at s t K X (place_of K s a))
            (parts a xa na) (in_part a (place_of K s a) xa na refl) (in_part b (place_of K s a) xb nb (sym e))
            (head_part (place_of K s a) (head_required (both a xa na).first)) c kc ab ac bc

    -- a leaf with another place than two others, all three not required
    three_move : (a b c : Label) → X a ≡ true → X b ≡ true → X c ≡ true → is_in a K ≡ false → is_in b K ≡ false → is_in c K ≡ false
        → (a ≡ b → ⊥) → (a ≡ c → ⊥) → (b ≡ c → ⊥) → (place_of K s a ≡ place_of K s b → ⊥) → (place_of K s a ≡ place_of K s c → ⊥)
        → Alike s t a b c
    three_move a b c xa xb xc na nb nc ab ac bc pq pu =
        move_one held ds dt (both a xa na) na ab ac bc (elsewhere nb (both b xb nb) pq) (elsewhere nc (both c xc nc) pu)
        (λ rb rc.
        alike_swap s t b (head_of (place_of K s a)) c
        (alike_turn s t b c (head_of (place_of K s a))
        (two_out b c (head_of (place_of K s a)) xb xc nb nc (head_required (both a xa na).first) bc (Ne-symm rb) (Ne-symm rc))))

    three_out : (a b c : Label) → X a ≡ true → X b ≡ true → X c ≡ true → is_in a K ≡ false → is_in b K ≡ false → is_in c K ≡ false
        → (a ≡ b → ⊥) → (a ≡ c → ⊥) → (b ≡ c → ⊥) → Alike s t a b c
    three_out a b c xa xb xc na nb nc ab ac bc =
        go (set_cases (place_of K s a) (place_of K s b)) (set_cases (place_of K s a) (place_of K s c))
      where
        go : (place_of K s a ≡ place_of K s b) ⊎ (place_of K s a ≡ place_of K s b → ⊥)
            → (place_of K s a ≡ place_of K s c) ⊎ (place_of K s a ≡ place_of K s c → ⊥) → Alike s t a b c
        go (inl e) (inl f) =
            agree_alike s t (part_at s t K X (place_of K s a)) (parts a xa na) a b c (in_part a (place_of K s a) xa na refl)
            (in_part b (place_of K s a) xb nb (sym e)) (in_part c (place_of K s a) xc nc (sym f)) ab ac bc
        go (inr n) (inr m) = three_move a b c xa xb xc na nb nc ab ac bc n m
        go (inr n) (inl f) =
            alike_swap s t b a c
            (three_move b a c xb xa xc nb na nc (Ne-symm ab) bc ac (λ i. n (sym i)) (λ i. n (f ∙ sym i)))
        go (inl e) (inr m) =
            alike_turn s t a c b
            (alike_swap s t c a b
            (three_move c a b xc xa xb nc na nb (Ne-symm ac) (Ne-symm bc) ab (λ i. m (sym i)) (λ i. m (e ∙ sym i))))

    pub parts_agree : Agree s t X
    parts_agree a b c xa xb xc ab ac bc = (go (bool_cases (is_in a K)) (bool_cases (is_in b K)) (bool_cases (is_in c K))).0
      where
        one : (x : Label) → X x ≡ true → is_in x K ≡ false → (u v : Label) → is_in u K ≡ true → is_in v K ≡ true
            → (x ≡ u → ⊥) → (x ≡ v → ⊥) → (u ≡ v → ⊥) → Alike s t x u v
        one x m n = one_out held ds dt required_agree (both x m n) n

        go : (is_in a K ≡ true) ⊎ (is_in a K ≡ false) → (is_in b K ≡ true) ⊎ (is_in b K ≡ false) → (is_in c K ≡ true) ⊎ (is_in c K ≡ false)
            → Alike s t a b c
        go (inl i) (inl j) (inl k) = agree_alike s t (set_of K) required_agree a b c i j k ab ac bc
        go (inr i) (inl j) (inl k) = one a xa i b c j k ab ac bc
        go (inl i) (inr j) (inl k) = alike_swap s t b a c (one b xb j a c i k (Ne-symm ab) bc ac)
        go (inl i) (inl j) (inr k) = alike_turn s t a c b (alike_swap s t c a b (one c xc k a b i j (Ne-symm ac) (Ne-symm bc) ab))
        go (inr i) (inr j) (inl k) = two_out a b c xa xb i j k ab ac bc
        go (inr i) (inl j) (inr k) = alike_turn s t a c b (two_out a c b xa xc i k j ac ab (Ne-symm bc))
        go (inl i) (inr j) (inr k) =
            alike_swap s t b a c (alike_turn s t b c a (two_out b c a xb xc j k i bc (Ne-symm ab) (Ne-symm ac)))
        go (inr i) (inr j) (inr k) = three_out a b c xa xb xc i j k ab ac bc

  -- agreement on the set is agreement on the required leaves and on each part
  pub agree_by_parts : Agree s t X ↔ (Agree s t (set_of K) × ((q : List Label) → Agree s t (part_at s t K X q)))
  unfolding part_at
  agree_by_parts = (
    λ g. (
      λ a b c ka kb kc. g a b c (one_each.required a ka) (one_each.required b kb) (one_each.required c kc),
      λ q a b c pa pb pc.
          g a b c (and_left (X a) (same_label a (head_of q) || hangs_at s t K q a) pa)
          (and_left (X b) (same_label b (head_of q) || hangs_at s t K q b) pb)
          (and_left (X c) (same_label c (head_of q) || hangs_at s t K q c) pc),
    ),
    λ h. parts_agree h.0 (λ x m n. h.1 (place_of K s x)),
  )
