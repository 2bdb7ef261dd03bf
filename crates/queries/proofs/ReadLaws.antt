-- A list read: what the reader's answer says of it, and what is returned of it. Assumes nothing.
use Prim.Native.Nat.{ℕ}
use mathlib.Core.Path.{◌≡◌, refl, sym, ◌∙◌, ap}
use mathlib.Core.List.{List}
use native.Mathlib.Omega.{arith}
use lib.ListN.{length, length-map}
use Rattle.trees.specs.declared.Body.{Body}
use Rattle.trees.specs.declared.Refusal.{Refusal}
use Rattle.trees.specs.declared.Edition.{Edition}
use Rattle.trees.specs.Token.{Token}
use Rattle.trees.specs.Edition.{in_edition}
use Rattle.trees.specs.Reading.{Reading, good, refused as unread}
use Rattle.trees.proofs.FoldLaws.{goods_fold}
use Rattle.lists.specs.declared.LabelPlaces.{LabelPlaces}
use Rattle.lists.specs.declared.ListRead.{ListRead}
use Rattle.lists.specs.ReadList.{read_list_in, list_read, places_of, folded_list}
use Rattle.lists.proofs.EditionLists.{list_accepts_in, places_folded, joined_folded}
use Rattle.pairs.proofs.StepLaws.{Unread}
use Rattle.std.proofs.Common.{Result, Ok, Err}
use Rattle.queries.specs.ListRead.{OwnList, OwnLabels, ListedIs}
use Rattle.queries.proofs.ListLaws.{list_unread, list_read_lem}

list_case : (body : Body) (x : Reading (List Token)) (r : ListRead) (n : ℕ) → r ≡ list_read body x → r.answer ≡ Ok n
    → (xs : List Token) × (x ≡ good xs) × (r.places ≡ places_of xs)
unfolding list_read
list_case body (good t) r n e h = (t, refl, ap (λ q. q.places) e)
list_case body (unread q i) r n e h =
    let d : ◌≡◌ {A = Result ℕ Refusal} (Err (record { reason = q; body = body; place = i })) (Ok n) = sym (ap (λ q. q.answer) e) ∙ h in
    let z : ◌≡◌ {A = ℕ} 0 1 = cc in
    absurd (omega arith)

unlisted_case : (body : Body) (x : Reading (List Token)) (r : ListRead) (q : Refusal) → r ≡ list_read body x → r.answer ≡ Err q
    → Unread (List Token) x body q
unfolding list_read
unlisted_case body (good t) r q e h =
    let d : Ok (length t) ≡ Err q = sym (ap (λ q. q.answer) e) ∙ h in
    let z : ◌≡◌ {A = ℕ} 0 1 = cc in
    absurd (omega arith)
unlisted_case body (unread p i) r q e h =
    let d : Err q ≡ Err (record { reason = p; body = body; place = i }) = sym h ∙ ap (λ q. q.answer) e in
    record { reason = p; place = i; is = refl; told = cc }

module _ (e : Edition) (body : Body) (text : List ℕ) where
  own_labels : (xs : List Token) (places : LabelPlaces) → read_list_in e text ≡ good xs → places ≡ places_of xs → OwnLabels e text places
  unfolding places_of
  own_labels xs places is d = record { xs = xs; own_list = list; list_places = folded_places }
    where
      folded_places : places ≡ places_of (folded_list e xs)
      folded_places = d ∙ sym (places_folded e xs)

      list : OwnList (folded_list e xs) (in_edition e text) places.start places.size places.count
      list =
          let a = list_accepts_in e text xs is in
          record {
            good = goods_fold e xs ∙ a.labels;
            different = a.different;
            few = rw (length-map xs (in_edition e)) a.few;
            text_is = ap (in_edition e) a.is ∙ sym (joined_folded e xs);
            start_is = ap (λ p. p.start) folded_places;
            size_is = ap (λ p. p.size) folded_places;
            count_is = ap (λ p. p.count) folded_places;
          }

  module _ (r : ListRead) (d : r ≡ list_read body (read_list_in e text)) where
    pub listed_stopped : (q : Refusal) → r.answer ≡ Err q → ListedIs e body text (Err q)
    listed_stopped q h = list_unread e body text q (unlisted_case body (read_list_in e text) r q d h)

    pub listed_clear : (n : ℕ) → r.answer ≡ Ok n → ListedIs e body text (Ok r.places)
    unfolding own_labels
    listed_clear n h =
        let k = list_case body (read_list_in e text) r n d h in
        (own_labels k.0 r.places k.1 k.2, list_read_lem e body text k.0 k.1)
