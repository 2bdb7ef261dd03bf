-- Labels of a list looked up among the common ones, over trees and lists that were read: the first one that is not common, or all of them
-- marked. Assumes nothing.
use Prim.Native.Nat.{ℕ, ◌<◌}
use mathlib.Core.Path.{◌≡◌, refl, sym, ◌∙◌, ap}
use mathlib.Core.Bool.{Bool, true, false, cond}
use mathlib.Core.List.{List, []}
use native.Mathlib.Omega.{arith}
use lib.ListN.{length, get_or, length-map}
use Rattle.trees.specs.declared.TreeArrays.{TreeArrays}
use Rattle.trees.specs.declared.Reason.{Reason}
use Rattle.trees.specs.declared.Reason.TheVariants.{FirstLacks, SecondLacks}
use Rattle.trees.specs.declared.Body.{Body}
use Rattle.trees.specs.declared.Refusal.{Refusal}
use Rattle.trees.specs.declared.Edition.{Edition}
use Rattle.trees.specs.Edition.{in_edition, folded, keyed}
use Rattle.trees.specs.Label.{Label}
use Rattle.trees.specs.Token.{Token, spelling}
use Rattle.trees.specs.Tree.{Tree, Proper}
use Rattle.trees.proofs.Bools.{clash, refute}
use Rattle.trees.proofs.TokenLaws.{valid_decoded}
use Rattle.lists.specs.declared.LabelPlaces.{LabelPlaces}
use Rattle.lists.specs.ReadList.{folded_list, keys_of}
use Rattle.agreement.specs.Closer.{holds}
use Rattle.agreement.specs.Sets.{common, increasing}
use Rattle.agreement.specs.Demand.{FirstLacking}
use Rattle.agreement.specs.Answer.{Answer, first_lacks, second_lacks, answer}
use Rattle.agreement.specs.Places.{place_of_number}
use Rattle.agreement.proofs.PlaceLaws.{number_folded}
use Rattle.agreement.proofs.SetLaws.{common_inc, in_common, common_in}
use Rattle.agreement.proofs.Promises.{six_promise, seven_promise}
use Rattle.triples.proofs.Ranks.{place_number}
use Rattle.pairs.specs.Outcome.{refused}
use Rattle.queries.specs.Query.{answer_to, held_by}
use Rattle.pairs.specs.PairRead.{OwnTrees}
use Rattle.queries.specs.ListRead.{OwnLabels}
use Rattle.queries.specs.FirstMarks.{FirstMarked, MarkedTo, NotIn}
use Rattle.queries.specs.Missing.{FirstMissing}
use Rattle.queries.specs.RankedList.{AskedOf, MarksAre}
use Rattle.std.specs.Prelude.{Result, Ok, Err, IfErr}
use Rattle.std.specs.Result.{MatchResult, IsErrAnd}
use Rattle.pairs.specs.declared.CommonOrder.{CommonOrder}
use Rattle.pairs.proofs.RankLaws.{own_proper}
use Rattle.queries.proofs.LookupLaws.{marked_all, marked_common}

-- number 6 or 7: the first label of the list that is not common

module _ (e : Edition) (s t : Tree) (xs : List Token) (first list : List ℕ) (tree1 : TreeArrays) (places : LabelPlaces) (n : ℕ)
    (h : FirstMissing (folded e s) (folded e t) (folded_list e xs) first list tree1 places n) where
  abbrev L : List Label
  L = keys_of e xs

  abbrev x : Label
  x = get_or (keys_of e xs) n []

  proper : Proper (keyed e s)
  proper = valid_decoded (folded e s) h.own.valid

  first_lacking : FirstLacking (keyed e s) (keyed e t) (keys_of e xs) n
  first_lacking = record {
    in_list = omega (arith, h.below, length-map (folded_list e xs) spelling);
    earlier = λ k l. in_common (keyed e s) (keyed e t) (get_or L k []) (h.earlier k l);
  }

  lack_place : get_or places.start n 0 ≡ place_of_number xs n
  lack_place = ap (λ (l : List ℕ). get_or l n 0) h.own_list.start_is ∙ place_number (folded_list e xs) n h.below ∙ number_folded e xs n

  lack_told : (body : Body) (reason : Reason) (a : Answer) → answer (keyed e s) (keyed e t) L ≡ a
      → held_by body xs a ≡ refused (record { reason = reason; body = body; place = place_of_number xs n })
      → held_by body xs (answer_to e (record { first = s; second = t }) xs)
      ≡ refused (record { reason = reason; body = body; place = get_or places.start n 0 })
  unfolding answer_to
  lack_told body reason a d is =
      ap (held_by body xs) d ∙ is ∙ ap (λ (p : ℕ). refused (record { reason = reason; body = body; place = p })) (sym lack_place)

  pub lack_told_of : (body : Body) (held : Bool) → held ≡ holds (keyed e s) x
      → held_by body xs (answer_to e (record { first = s; second = t }) xs)
      ≡ refused (record { reason = cond held SecondLacks FirstLacks; body = body; place = get_or places.start n 0 })
  unfolding held_by
  lack_told_of body false d =
      lack_told body FirstLacks (first_lacks n)
      ((six_promise (keyed e s) (keyed e t) L proper h.own_list.different n).1
      (record { found = first_lacking; lacked = sym d }))
      refl
  lack_told_of body true d =
      lack_told body SecondLacks (second_lacks n)
      ((seven_promise (keyed e s) (keyed e t) L proper h.own_list.different n).1
      (record { found = first_lacking; held = sym d; lacked = lacked' }))
      refl
    where
      lacked' : holds (keyed e t) x ≡ false
      lacked' = refute (holds (keyed e t) x) (λ k. clash (common_in (keyed e s) (keyed e t) x (sym d) k) h.missing)

-- over two trees and a list that were read

module _ {e : Edition} {first : List ℕ} {tree1 tree2 : TreeArrays} {order : CommonOrder} (b : OwnTrees e first tree1 tree2 order) where
  pub common_ordered : increasing (common (keyed e b.s) (keyed e b.t)) ≡ true
  common_ordered = common_inc (keyed e b.s) (keyed e b.t) (own_proper b.one).different

  module _ {list : List ℕ} {places : LabelPlaces} (l : OwnLabels e list places) where
    pub first_missing : {n : ℕ} → NotIn n (common (keyed e b.s) (keyed e b.t)) (keys_of e l.xs) → n < places.count
        → FirstMissing (folded e b.s) (folded e b.t) (folded_list e l.xs) (in_edition e first) (in_edition e list) tree1 places n
    first_missing m k = record {
      own = b.one;
      own_list = l.own_list;
      below = omega (arith, l.own_list.count_is);
      earlier = m.earlier;
      missing = m.missing;
    }

    pub all_asked : {number : List ℕ} → FirstMarked places.count (common (keyed e b.s) (keyed e b.t)) (keys_of e l.xs) number
        → AskedOf (folded e b.s) (folded e b.t) (folded_list e l.xs) tree1 tree2 order number places
    all_asked {number} marked = record {
      asked = record {
        one = record {
          valid = b.one.valid;
          arrays_is = b.first_arrays;
          ordered = common_ordered;
          count = b.ordered.count;
          few = b.few;
          numbered = b.ordered.first;
        };
        two = record {
          valid = b.valid2;
          arrays_is = b.second_arrays;
          ordered = common_ordered;
          count = b.ordered.count;
          few = b.few;
          numbered = b.ordered.second;
        };
        different = l.own_list.different;
        few = l.own_list.few;
        held = marked_common (keyed e b.s) (keyed e b.t) (keys_of e l.xs) number whole_list;
        marked = marked_all (common (keyed e b.s) (keyed e b.t)) (keys_of e l.xs) number whole_list;
        count_is = l.own_list.count_is;
      };
      list_places = l.list_places;
    }
      where
        whole_list : FirstMarked (length (keys_of e l.xs)) (common (keyed e b.s) (keyed e b.t)) (keys_of e l.xs) number
        whole_list =
            let d : places.count ≡ length (keys_of e l.xs) = omega (arith, l.own_list.count_is, length-map (folded_list e l.xs) spelling) in
            rw d at marked

    -- the marks as they are, or what is told of the first label that is not common
    pub marks_told : (body : Body) {Told : ℕ → Refusal → Type 0} (marks : Result (List ℕ) ℕ) (r : Result (List ℕ) Refusal)
        → ((n : ℕ) (q : Refusal) → Told n q
        → FirstMissing (folded e b.s) (folded e b.t) (folded_list e l.xs) (in_edition e first) (in_edition e list) tree1 places n
        → held_by body l.xs (answer_to e (record { first = b.s; second = b.t }) l.xs) ≡ refused q)
        → MarkedTo places.count (common (keyed e b.s) (keyed e b.t)) (keys_of e l.xs) marks
        → IfErr marks (λ n. n < places.count)
        → MatchResult marks (λ number. r ≡ Ok number) (λ n. IsErrAnd r (Told n))
        → MarksAre e b.s b.t l.xs body tree1 tree2 order places r
    marks_told body (Ok number) r f marked low is = rw is (all_asked marked)
    marks_told body (Err n) (Ok number) f missing low told = absurd told
    marks_told body (Err n) (Err q) f missing low told = f n q told (first_missing missing low)
