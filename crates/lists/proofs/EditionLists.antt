-- A list read by an edition: the reading of the text as the edition reads it, its labels as they stand. Assumes nothing.
use Prim.Native.Nat.{ℕ, ◌+◌, ◌≤◌}
use mathlib.Core.Path.{◌≡◌, refl, sym, ◌∙◌, ap, ap₂}
use mathlib.Core.Logic.{inl}
use mathlib.Core.List.{List, [], ◌∷◌, ◌++◌, map, map-append}
use native.Mathlib.Omega.{arith}
use lib.ListN.{length, take, drop, length-map, take-append-drop}
use lib.Seq.{take_at, drop_at}
use Rattle.std.specs.Prelude.{Ok}
use Rattle.trees.specs.declared.Edition.{Edition}
use Rattle.trees.specs.declared.Edition.TheVariants.{One}
use Rattle.trees.specs.declared.Reason.{Reason}
use Rattle.trees.specs.declared.Body.{Body}
use Rattle.trees.specs.Bytes.{comma_byte}
use Rattle.trees.specs.Label.{distinct}
use Rattle.trees.specs.Token.{Token, spelling, good_labels}
use Rattle.trees.specs.Edition.{fold_byte, in_edition, key}
use Rattle.trees.specs.Reading.{Reading, good, refused}
use Rattle.trees.specs.Faults.{Fault}
use Rattle.trees.proofs.FoldLaws.{map_twice, take_map, drop_map, fold_fixed, fold_size, one_byte, key_decoded, goods_fold, distinct_unmap, one_itself}
use Rattle.trees.proofs.StandsLaws.{ReadView, read_as, turned_as, stands_good, stands_refused, stands_alike, view_is, view_folded, view_refused, view_told}
use Rattle.lists.specs.declared.LabelPlaces.{LabelPlaces}
use Rattle.lists.specs.declared.ListRead.{ListRead}
use Rattle.lists.specs.ReadList.{read_list, read_list_in, list_read, joined, starts_of, sizes_of, places_of, IsList, folded_list, keys_of}
use Rattle.lists.specs.ListGrammar.{ListText, LabelCrowd, ListFault}
use Rattle.lists.proofs.Accepts.{list_reads, list_accepts}
use Rattle.lists.proofs.ListFaults.{list_refusal_lem, list_accepted_clean, list_fault_refused}

module _ (e : Edition) where
  -- ---- text and places

  pub joined_folded : (xs : List Token) → joined (folded_list e xs) ≡ in_edition e (joined xs)
  unfolding joined
  joined_folded [] = refl
  joined_folded (x ∷ []) = refl
  joined_folded (x ∷ y ∷ ys) =
      rw (map-append (fold_byte e) x (comma_byte ∷ joined (y ∷ ys)), fold_fixed e comma_byte (inl (omega arith)), joined_folded (y ∷ ys)) refl

  record Unjoined (ys : List Token) (text : List ℕ) : Type 0 where
    labels : List Token
    is : text ≡ joined labels
    folds : folded_list e labels ≡ ys

  nothing : (x : List ℕ) → in_edition e x ≡ [] → x ≡ []
  nothing [] k = refl
  nothing (b ∷ x) k = absurd (omega (arith, ap length k))

  longer : (x : Token) (xs ys : List Token) (text : List ℕ) → 1 ≤ length ys → folded_list e xs ≡ ys → text ≡ joined xs
      → x ++ (comma_byte ∷ text) ≡ joined (x ∷ xs)
  unfolding joined
  longer x [] ys text l f h = absurd (omega (arith, ap length f))
  longer x (z ∷ zs) ys text l f h = ap (λ (t : List ℕ). x ++ (comma_byte ∷ t)) h

  unfold_joined : (ys : List Token) (text : List ℕ) → in_edition e text ≡ joined ys → Unjoined ys text
  unfolding joined
  unfold_joined [] text h = record { labels = []; is = nothing text h; folds = refl }
  unfold_joined (y ∷ []) text h = record { labels = text ∷ []; is = refl; folds = ap (λ (x : Token). x ∷ []) h }
  unfold_joined (y ∷ z ∷ zs) text h =
      let x = take (length y) text in
      let d = one_byte e comma_byte (joined (z ∷ zs)) (drop (length y) text) (inl (omega arith)) (sym (drop_map (fold_byte e) (length y) text) ∙ ap (drop (length y)) h ∙ drop_at y (comma_byte ∷ joined (z ∷ zs)) (length y) refl) in
      let r = unfold_joined (z ∷ zs) d.after d.follows in
      record {
        labels = x ∷ r.labels;
        is =
            sym (take-append-drop (length y) text) ∙ ap (λ (t : List ℕ). x ++ t) d.is
            ∙ longer x r.labels (z ∷ zs) d.after (omega arith) r.folds r.is;
        folds =
            ap₂ {C = List Token} ◌∷◌ (sym (take_map (fold_byte e) (length y) text) ∙ ap (take (length y)) h ∙ take_at y (comma_byte ∷ joined (z ∷ zs)) (length y) refl)
            r.folds;
      }

  pub list_starts_folded : (xs : List Token) (p : ℕ) → starts_of (folded_list e xs) p ≡ starts_of xs p
  unfolding starts_of
  list_starts_folded [] p = refl
  list_starts_folded (x ∷ xs) p = rw (fold_size e x, list_starts_folded xs (p + length x + 1)) refl

  sizes_folded : (xs : List Token) → sizes_of (folded_list e xs) ≡ sizes_of xs
  unfolding sizes_of
  sizes_folded [] = refl
  sizes_folded (x ∷ xs) = ap₂ ◌∷◌ (fold_size e x) (sizes_folded xs)

  pub places_folded : (xs : List Token) → places_of (folded_list e xs) ≡ places_of xs
  unfolding places_of
  places_folded xs = rw (length-map xs (in_edition e), list_starts_folded xs 0, sizes_folded xs) refl

  -- ---- reading

  -- it is the same to fold the decoded labels
  pub keys_decoded : (xs : List Token) → map (in_edition e) (map spelling xs) ≡ keys_of e xs
  keys_decoded xs =
      map_twice (in_edition e) spelling (key e) (λ (x : Token). sym (key_decoded e x)) xs
      ∙ sym (map_twice spelling (in_edition e) (key e) (λ (x : Token). refl) xs)

  read_folded : (text : List ℕ) (xs : List Token) → IsList e text xs → read_list (in_edition e text) ≡ good (folded_list e xs)
  read_folded text xs l =
      ap read_list (ap (in_edition e) l.is ∙ sym (joined_folded xs))
      ∙ list_reads (folded_list e xs) (goods_fold e xs ∙ l.labels) l.different (rw (length-map xs (in_edition e)) l.few)

  -- labels that the edition tells apart are different as they are spelled
  read_spelled : (text : List ℕ) (xs : List Token) → IsList e text xs → read_list text ≡ good xs
  read_spelled text xs l =
      ap read_list l.is
      ∙ list_reads xs l.labels
      (distinct_unmap (in_edition e) (map spelling xs) (ap distinct (keys_decoded xs) ∙ l.different))
      l.few

  abbrev View : List ℕ → Type 0
  View text = ReadView (folded_list e) (IsList e text) (read_list (in_edition e text)) (read_list text)

  view : (text : List ℕ) → View text
  view text = go (read_list (in_edition e text)) refl
    where
      go : (w : Reading (List Token)) → read_list (in_edition e text) ≡ w → View text
      go (good ys) h =
          let a = list_accepts (in_edition e text) ys h in
          let u = unfold_joined ys text a.0 in
          let l : IsList e text u.labels = record {
            is = u.is;
            labels = sym (goods_fold e u.labels) ∙ ap good_labels u.folds ∙ a.1;
            different = ap distinct (ap (map spelling) u.folds) ∙ a.2;
            few = omega (arith, length-map u.labels (in_edition e), ap length u.folds, a.3);
          } in
          read_as u.labels (h ∙ ap good (sym u.folds)) (read_spelled text u.labels l) l
      go (refused r i) h = turned_as r i h

  pub list_accepts_in : (text : List ℕ) (xs : List Token) → read_list_in e text ≡ good xs → IsList e text xs
  unfolding read_list_in
  list_accepts_in text xs h = view_is (folded_list e) (IsList e text) (read_list (in_edition e text)) (read_list text) (view text) xs h

  pub list_reads_in : (text : List ℕ) (xs : List Token) → IsList e text xs → read_list_in e text ≡ good xs
  unfolding read_list_in
  list_reads_in text xs l =
      stands_good xs (folded_list e xs) (read_list (in_edition e text)) (read_list text) (read_folded text xs l) (read_spelled text xs l)

  -- as the edition reads it
  pub list_folded_read : (text : List ℕ) (xs : List Token) → read_list_in e text ≡ good xs → read_list (in_edition e text) ≡ good (folded_list e xs)
  unfolding read_list_in
  list_folded_read text xs h = view_folded (folded_list e) (IsList e text) (read_list (in_edition e text)) (read_list text) (view text) xs h

  pub list_folded_refused : (text : List ℕ) (r : Reason) (i : ℕ) → read_list_in e text ≡ refused r i → read_list (in_edition e text) ≡ refused r i
  unfolding read_list_in
  list_folded_refused text r i h =
      view_refused (folded_list e) (IsList e text) (read_list (in_edition e text)) (read_list text) (view text) r i h

  -- the answer is that of the text as the edition reads it
  pub list_answer_in : (body : Body) (text : List ℕ) → list_read body (read_list (in_edition e text)) ≡ list_read body (read_list_in e text)
  unfolding read_list_in list_read
  list_answer_in body text =
      sym (view_told (folded_list e) (IsList e text) (read_list (in_edition e text)) (read_list text) (view text) (list_read body) same)
    where
      same : (xs : List Token) → list_read body (good (folded_list e xs)) ≡ list_read body (good xs)
      same xs =
          ap₂ {C = ListRead} (λ (n : ℕ) (p : LabelPlaces). record { answer = Ok n; places = p }) (length-map xs (in_edition e)) (places_folded xs)

  pub list_refusal_in : (text : List ℕ) (r : Reason) (i : ℕ) → read_list_in e text ≡ refused r i → ListFault (in_edition e text) r i
  list_refusal_in text r i h = list_refusal_lem (in_edition e text) r i (list_folded_refused text r i h)

  pub list_fault_refused_in : (text : List ℕ) (r : Reason) (i : ℕ) → ListFault (in_edition e text) r i → read_list_in e text ≡ refused r i
  unfolding read_list_in
  list_fault_refused_in text r i f =
      stands_refused r i (read_list (in_edition e text)) (read_list text) (list_fault_refused (in_edition e text) r i f)

  pub list_clean_in : (text : List ℕ) (xs : List Token) → read_list_in e text ≡ good xs → (q : Reason) (j : ℕ)
      → Fault ListText LabelCrowd (in_edition e text) q j → ⊥
  list_clean_in text xs h = list_accepted_clean (in_edition e text) (folded_list e xs) (list_folded_read text xs h)

-- edition 1 reads as before
pub one_list : (text : List ℕ) → read_list_in One text ≡ read_list text
unfolding read_list_in
one_list text = rw (one_itself text) (stands_alike (read_list text))
