-- The required list settled, and a further list beside the largest set: what the parts return is what the definitions say. Assumes nothing.
use Prim.Native.Nat.{ℕ, ◌≤◌}
use mathlib.Core.Path.{◌≡◌, refl, sym, ◌∙◌, ap}
use mathlib.Core.Bool.{Bool, true}
use mathlib.Core.List.{List}
use Rattle.std.specs.Prelude.{Option, Some, None, Ok, Err}
use lib.ListN.{length}
use Rattle.trees.specs.declared.Body.TheVariants.{K, C}
use Rattle.trees.specs.declared.Refusal.{Refusal}
use Rattle.trees.specs.declared.TreeArrays.{TreeArrays}
use Rattle.trees.specs.declared.Edition.{Edition}
use Rattle.trees.specs.Edition.{folded, keyed}
use Rattle.trees.specs.Label.{Label}
use Rattle.trees.specs.Token.{Token}
use Rattle.trees.specs.Tree.{Tree, Proper}
use Rattle.trees.proofs.TokenLaws.{valid_decoded}
use Rattle.agreement.specs.Sets.{increasing}
use Rattle.leaves.specs.Numbered.{Numbered}
use Rattle.table.specs.Choice.{Ranked, Posed}
use Rattle.division.proofs.PosedLaws.{posed}
use Rattle.std.proofs.lemmas.Option.{same_Some}
use Rattle.lists.specs.declared.LabelPlaces.{LabelPlaces}
use Rattle.lists.specs.ReadList.{folded_list, keys_of}
use Rattle.agreement.specs.Answer.{Answer, disagree, largest}
use Rattle.agreement.specs.Places.{place_in, token_in, place_of_label}
use Rattle.pairs.specs.declared.CommonOrder.{CommonOrder}
use Rattle.mast.specs.declared.Denied.{Denied}
use Rattle.mast.specs.declared.Denied.TheVariants.{Naming, Refused}
use Rattle.mast.specs.declared.Named.{Named}
use Rattle.mast.specs.declared.NamedLabel.{NamedLabel}
use Rattle.pairs.specs.Outcome.{Outcome, refused, found, and_then, trio}
use Rattle.mast.specs.NamedLabels.{named_of, result_of}
use Rattle.queries.specs.Query.{AllHeld, with_clash, with_set, answer_to, held_by, agreed_on, disagreement, required_of, required_set}
use Rattle.mast.specs.Compare.{Comparison, missing, clash_of, comparison, compare_other, compare_answers, compare_lists, place_if, named_if, compared_parts, compared_of}
use Rattle.queries.specs.RankedList.{AskedOf}
use Rattle.mast.specs.RankedQuery.{ClashIs}
use Rattle.mast.specs.Settled.{NamingIs, DeniedIs, ChosenIs}
use Rattle.mast.proofs.DeniedLaws.{refused_result, denied_result}
use Rattle.pairs.proofs.StepLaws.{then_refused, then_found}

-- three labels with different closer pairs
pub named_trio : (e : Edition) (s : Tree) (xs : List Token) (a b c : Label) (x y z : NamedLabel)
    → x ≡ record { place = place_of_label (folded_list e xs) 0 a; start = place_in (folded e s) 0 a; size = length (token_in (folded e s) a) }
    → y ≡ record { place = place_of_label (folded_list e xs) 0 b; start = place_in (folded e s) 0 b; size = length (token_in (folded e s) b) }
    → z ≡ record { place = place_of_label (folded_list e xs) 0 c; start = place_in (folded e s) 0 c; size = length (token_in (folded e s) c) }
    → record { first = x; second = y; third = z } ≡ named_of (trio e s xs a b c)
unfolding named_of
named_trio e s xs a b c x y z f g h = rw (f, g, h) refl

-- what was read is posed to the engine
pub posed_asked : (e : Edition) (s t : Tree) (xs : List Token) {tree1 tree2 : TreeArrays} {order : CommonOrder}
    {rank1 rank2 number : List ℕ} {places : LabelPlaces}
    → AskedOf (folded e s) (folded e t) (folded_list e xs) tree1 tree2 order number places
    → ((t : Tree) (C : List Label) → Proper t → increasing C ≡ true → order.count ≡ length C → order.count ≤ 80
    → Numbered t C order.first → Ranked t C rank1)
    → ((t : Tree) (C : List Label) → Proper t → increasing C ≡ true → order.count ≡ length C → order.count ≤ 80
    → Numbered t C order.second → Ranked t C rank2)
    → Posed (keyed e s) (keyed e t) (keys_of e xs) tree1 tree2 rank1 rank2 order.count number places.count
posed_asked e s t xs h one two =
    let a = h.asked in
    posed a (one _ _ (valid_decoded (folded e s) a.one.valid) a.one.ordered a.one.count a.one.few a.one.numbered)
    (two _ _ (valid_decoded (folded e t) a.two.valid) a.two.ordered a.two.count a.two.few a.two.numbered)

module _ (e : Edition) (s t : Tree) (xs : List Token) where
  abbrev A : Answer
  A = answer_to e (record { first = s; second = t }) xs

  abbrev Set : Outcome (List Label)
  Set = required_set e (record { first = s; second = t }) xs

  pub clash_none : (X : List Label) → A ≡ largest X → ClashIs e s t xs None
  unfolding held_by clash_of named_if
  clash_none X h = record { held = with_set X; is = λ body. ap (held_by body xs) h; named_is = refl }

  pub clash_some : (n : Named) (a b c : Label) → A ≡ disagree a b c → n ≡ named_of (trio e s xs a b c) → ClashIs e s t xs (Some n)
  unfolding held_by clash_of named_if
  clash_some n a b c h k =
      record { held = with_clash (record { one = a; two = b; three = c }); is = λ body. ap (held_by body xs) h; named_is = ap Some k }

  -- number 8
  pub eight_found : (r : Option Named) (a b c : Label) → A ≡ disagree a b c → ClashIs e s t xs r → r ≡ Some (named_of (trio e s xs a b c))
  unfolding held_by clash_of named_if
  eight_found r a b c h k =
      let f : found (with_clash (record { one = a; two = b; three = c })) ≡ found k.held = sym (ap (held_by K xs) h) ∙ k.is K in
      let g : with_clash (record { one = a; two = b; three = c }) ≡ k.held = cc in
      k.named_is ∙ ap (λ (x : AllHeld). named_if e s xs (clash_of x)) (sym g)

  pub eight_named : (n : Named) (a b c : Label) → A ≡ disagree a b c → Some n ≡ Some (named_of (trio e s xs a b c)) → NamingIs Set disagreement n
  unfolding required_set required_of held_by agreed_on
  eight_named n a b c h k =
      record { labels = trio e s xs a b c; is = ap (required_of e s xs) h; named = same_Some _ _ k }

  pub set_found : (X : List Label) → A ≡ largest X → Set ≡ found X
  unfolding required_set required_of held_by agreed_on
  set_found X h = ap (required_of e s xs) h

  pub set_lacking : (q : Refusal) → held_by K xs A ≡ refused q → Set ≡ refused q
  unfolding required_set required_of
  set_lacking q h = then_refused (held_by K xs A) (agreed_on e s xs) q h

  -- the list is not settled
  pub chosen_denied : (chosen : List Bool) (d : Denied) → ChosenIs e s t xs chosen (Err d) → DeniedIs Set d
  chosen_denied chosen (Naming q n) h = h
  chosen_denied chosen (Refused q) h = absurd h

-- compared

module _ (e : Edition) (s : Tree) (xs ys : List Token) (size : ℕ) where
  pub other_lacking : (B : Answer) (q : Refusal) → held_by C ys B ≡ refused q
      → Err (Refused q) ≡ compared_of (compare_other e s xs ys size B)
  unfolding compare_other
  other_lacking B q h = refused_result compared_parts _ q (then_refused (held_by C ys B) _ q h)

  pub other_compared : (t : Tree) (r : Option Named) → ClashIs e s t ys r → (n count : ℕ) (place : Option ℕ) → n ≡ size → count ≡ length ys
      → place ≡ place_if xs (missing (keys_of e xs) (keys_of e ys) 0)
      → Ok (record { size = n; count = count; missing = place; clash = r })
      ≡ compared_of (compare_other e s xs ys size (answer_to e (record { first = s; second = t }) ys))
  unfolding compare_other result_of compared_parts comparison
  other_compared t r k n count place d c f =
      rw (d, c, f, k.named_is) refl
      ∙ ap compared_of (sym (then_found (held_by C ys (answer_to e (record { first = s; second = t }) ys))
      (λ (h : AllHeld). found (comparison e s xs ys size h)) k.held (k.is C)))

module _ (e : Edition) (s t : Tree) (xs ys : List Token) where
  abbrev Lists : Outcome Comparison
  Lists = compare_lists e (record { first = s; second = t }) xs ys

  -- what comes after 6, 7 and 8 of the required list
  abbrev On : List Label → Outcome Comparison
  On X = compare_other e s xs ys (length X) (answer_to e (record { first = s; second = t }) ys)

  lists_then : Lists ≡ and_then (required_set e (record { first = s; second = t }) xs) On
  unfolding compare_lists compare_answers required_set
  lists_then = refl

  pub lists_denied : (d : Denied) → DeniedIs (required_set e (record { first = s; second = t }) xs) d → Err d ≡ compared_of Lists
  lists_denied d h = denied_result compared_parts _ On d h ∙ ap compared_of (sym lists_then)

  pub lists_found : (X : List Label) → required_set e (record { first = s; second = t }) xs ≡ found X → Lists ≡ On X
  lists_found X h = lists_then ∙ then_found _ On X h
