-- The chosen labels one rank further; places stored and leaves flagged rank by rank are those of the chosen labels. Assumes nothing.
use Prim.Native.Nat.{ℕ, suc, ◌+◌, ◌<◌, ◌≤◌}
use mathlib.Core.Path.{◌≡◌, refl, sym, ◌∙◌, ap}
use mathlib.Core.Bool.{Bool, true, false, cond, or-false}
use mathlib.Core.Logic.{◌⊎◌, inl, inr}
use mathlib.Core.List.{List, [], ◌∷◌, ◌++◌, map, append-nil, map-append}
use native.Mathlib.Omega.{arith}
use native.Mathlib.Numerals.{add-one}
use lib.Dec.{eqb}
use lib.ListN.{length, get_or, set, take, replicate, length-append, length-take, length-set, length-map, get_or-replicate}
use lib.Seq.{take-suc, take_all, get_or-set_same, get_or-set_other}
use borrow.Author.Tests.{eqb-true, eqb-false}
use Rattle.trees.specs.Label.{Label, is_in}
use Rattle.trees.specs.Tree.{Tree, leaf, decoded, Valid, Proper}
use Rattle.trees.specs.Arrays.{node_limit, arrays_of}
use Rattle.trees.specs.Postorder.{postorder, subtree}
use Rattle.trees.proofs.Bools.{bool_cases, refute}
use Rattle.trees.proofs.ListLaws.{in_one_lem, in_one_eq, in_append, in_right}
use Rattle.trees.proofs.PostorderLaws.{leaf_once, leaf_label_lem}
use Rattle.lists.specs.declared.LabelPlaces.{LabelPlaces}
use Rattle.lists.specs.ReadList.{padded, list_limit}
use Rattle.lists.proofs.ListPlaces.{store}
use Rattle.agreement.specs.Places.{place_in, token_in}
use Rattle.leaves.specs.Numbered.{LeafIs, Numbered}
use Rattle.table.specs.Choice.{chosen_from}
use Rattle.mast.specs.Largest.{set_places}
use Rattle.mast.specs.SetByRank.{places_from, Stored, Flagged}
use Rattle.pairs.proofs.RankLaws.{proper_nodes}
use Rattle.pairs.proofs.LeafPlaces.{own_start, own_size}

-- the chosen labels of a list with one label more
cond_append : (b : Bool) (c : Label) (xs ys : List Label) → cond b (c ∷ (xs ++ ys)) (xs ++ ys) ≡ cond b (c ∷ xs) xs ++ ys
cond_append true c xs ys = refl
cond_append false c xs ys = refl

abbrev own_chosen : List Bool → ℕ → Label → List Label
own_chosen w r c = cond (get_or w r false) (c ∷ []) []

chosen_snoc : (w : List Bool) (r : ℕ) (C : List Label) (c : Label)
    → chosen_from w r (C ++ (c ∷ [])) ≡ chosen_from w r C ++ own_chosen w (r + length C) c
unfolding chosen_from
chosen_snoc w r [] c = ap (λ (n : ℕ). own_chosen w n c) (omega arith)
chosen_snoc w r (d ∷ C) c =
    ap (λ (xs : List Label). cond (get_or w r false) (d ∷ xs) xs)
    (chosen_snoc w (suc r) C c ∙ ap (λ (n : ℕ). chosen_from w (suc r) C ++ own_chosen w n c) (omega arith))
    ∙ cond_append (get_or w r false) d (chosen_from w (suc r) C) (own_chosen w (r + suc (length C)) c)

-- the chosen labels among the first r of C
abbrev pub chosen_to : List Bool → List Label → ℕ → List Label
chosen_to w C r = chosen_from w 0 (take r C)

chosen_next : (w : List Bool) (C : List Label) (r : ℕ) → r < length C
    → chosen_to w C (r + 1) ≡ chosen_to w C r ++ own_chosen w r (get_or C r [])
chosen_next w C r h =
    rw (add-one r, take-suc C r [])
    (chosen_snoc w 0 (take r C) (get_or C r []) ∙ ap (λ (n : ℕ). chosen_to w C r ++ own_chosen w n (get_or C r [])) (omega (arith, length-take r C)))

pub chosen_all : (w : List Bool) (C : List Label) (r : ℕ) → length C ≤ r → chosen_to w C r ≡ chosen_from w 0 C
chosen_all w C r h = ap (chosen_from w 0) (take_all r C h)

chosen_few : (w : List Bool) (r : ℕ) (C : List Label) → length (chosen_from w r C) ≤ length C
unfolding chosen_from
chosen_few w r [] = omega arith
chosen_few w r (c ∷ C) = go (get_or w r false) (chosen_few w (suc r) C)
  where
    go : (b : Bool) → length (chosen_from w (suc r) C) ≤ length C
        → length (cond b (c ∷ chosen_from w (suc r) C) (chosen_from w (suc r) C)) ≤ suc (length C)
    go true h = omega arith
    go false h = omega arith

pub chosen_to_few : (w : List Bool) (C : List Label) (r : ℕ) → length (chosen_to w C r) ≤ r
chosen_to_few w C r = omega (arith, chosen_few w 0 (take r C), length-take r C)

-- places with one label more
places_eq : {n m : ℕ} {a b c d : List ℕ} → n ≡ m → a ≡ b → c ≡ d → places_from n a c ≡ places_from m b d
places_eq e f g = rw (e, f, g) refl

padded_map : (f : Label → ℕ) (X : List Label) (x : Label) → length X < list_limit
    → set (padded (map f X)) (length X) (f x) ≡ padded (map f (X ++ (x ∷ [])))
padded_map f X x h =
    store (map f X) (f x) (length X) (length-map X f) h ∙ ap padded (sym (map-append f X (x ∷ [])))

module _ (s : Tree) (X : List Label) (x : Label) (h : length X < list_limit) where
  places_more : (b : Bool) (new : LabelPlaces) → Stored b (place_in s 0 x) (length (token_in s x)) (set_places s X) new
      → new ≡ set_places s (X ++ cond b (x ∷ []) [])
  unfolding set_places
  places_more true new k =
      places_eq (k.count ∙ sym (length-append X (x ∷ []))) (k.start ∙ padded_map (place_in s 0) X x h)
      (k.size ∙ padded_map (λ (y : Label). length (token_in s y)) X x h)
  places_more false new k = places_eq k.count k.start k.size ∙ ap (set_places s) (sym (append-nil X))

pub stored_count : (b : Bool) (at len : ℕ) (old new : LabelPlaces) → Stored b at len old new → new.count ≤ old.count + 1
stored_count true at len old new k = omega (arith, k.count)
stored_count false at len old new k = omega (arith, k.count)

pub places_none : (s : Tree) (w : List Bool) (C : List Label)
    → places_from 0 (replicate list_limit 0) (replicate list_limit 0) ≡ set_places s (chosen_to w C 0)
unfolding set_places chosen_from
places_none s w C = refl

module _ (s : Tree) (v : Valid s) (w : List Bool) (order : List ℕ) (C : List Label) (num : Numbered (decoded s) C order) where
  pub places_next : (r : ℕ) → r < length C → r < list_limit → (old new : LabelPlaces) → old ≡ set_places s (chosen_to w C r)
      → Stored (get_or w r false) (get_or (arrays_of s).start (get_or order r 0) 0) (get_or (arrays_of s).size (get_or order r 0) 0)
      old new → new ≡ set_places s (chosen_to w C (r + 1))
  places_next r h l old new e k =
      places_more s (chosen_to w C r) (get_or C r []) (omega (arith, chosen_to_few w C r)) (get_or w r false) new
      (rw (e, own_start s v (get_or order r 0) (get_or C r []) (num r h), own_size s v (get_or order r 0) (get_or C r []) (num r h)) at k)
      ∙ ap (set_places s) (sym (chosen_next w C r h))

-- flags with one leaf more
module _ (s : Tree) (v : Proper s) (X : List Label) (x : Label) (p : ℕ) (l : LeafIs s p x) (kept : List Bool) (size : length kept ≡ node_limit)
    (f : Flagged s X kept) where
  flag_one : Flagged s (X ++ (x ∷ [])) (set kept p true)
  flag_one u h y e = go (bool_cases (eqb u p))
    where
      same : u ≡ p → y ≡ x
      same q = leaf_label_lem y x (sym e ∙ ap (subtree (postorder s)) q ∙ l.is)

      go : (eqb u p ≡ true) ⊎ (eqb u p ≡ false) → get_or (set kept p true) u false ≡ is_in y (X ++ (x ∷ []))
      go (inl q) =
          let d = eqb-true u p q in
          rw (d, same d, get_or-set_same kept p true false (omega (arith, l.below, proper_nodes s v)))
          (sym (in_right x X (x ∷ []) (in_one_lem x)))
      go (inr q) =
          let d = eqb-false u p q in
          let z : is_in y (x ∷ []) ≡ false =
          refute (is_in y (x ∷ []))
          (λ (k : is_in y (x ∷ []) ≡ true).
          d (leaf_once s v.different u p h l.below x (e ∙ ap leaf (in_one_eq y x k)) l.is))
          in
          get_or-set_other kept p u true false d ∙ f u h y e ∙ sym (in_append y X (x ∷ []) ∙ (rw z (or-false (is_in y X))))

  flag_more : (b : Bool) → Flagged s (X ++ cond b (x ∷ []) []) (cond b (set kept p true) kept)
  flag_more true = flag_one
  flag_more false = rw (append-nil X) f

pub flags_none : (s : Tree) (v : Proper s) (w : List Bool) (C : List Label) → Flagged s (chosen_to w C 0) (replicate node_limit false)
unfolding chosen_from is_in
flags_none s v w C u h x e = get_or-replicate node_limit u false false (omega (arith, proper_nodes s v))

module _ (s : Tree) (v : Proper s) (w : List Bool) (order : List ℕ) (C : List Label) (num : Numbered s C order) where
  pub flags_next : (r : ℕ) → r < length C → (kept new : List Bool) → length kept ≡ node_limit → Flagged s (chosen_to w C r) kept
      → new ≡ cond (get_or w r false) (set kept (get_or order r 0) true) kept → Flagged s (chosen_to w C (r + 1)) new
  flags_next r h kept new size f e =
      rw (e, chosen_next w C r h)
      (flag_more s v (chosen_to w C r) (get_or C r []) (get_or order r 0) (num r h) kept size f (get_or w r false))

pub flags_length : (b : Bool) (kept new : List Bool) (u : ℕ) → length kept ≡ node_limit → new ≡ cond b (set kept u true) kept
    → length new ≡ node_limit
flags_length true kept new u h e = rw e (length-set kept u true ∙ h)
flags_length false kept new u h e = rw e h
