-- The judgement of a claim, from texts to the verdict. Assumes nothing.
use Prim.Native.Nat.{ℕ}
use mathlib.Core.Path.{◌≡◌, refl, sym, ◌∙◌, ap, subst}
use mathlib.Core.Bool.{Bool, true, false, cond}
use mathlib.Core.List.{List}
use mathlib.Core.Logic.{◌↔◌}
use mathlib.Core.Option.{Option, some, none}
use lib.Dec.{ltb}
use lib.ListN.{length, length-map}
use Rattle.trees.specs.declared.Reason.{Reason}
use Rattle.trees.specs.declared.Reason.TheVariants.{BadByte, EndsTooSoon, LabelTooLong, TooMany, Repeated, FirstLacks, SecondLacks}
use Rattle.trees.specs.declared.Reason.TheVariants.{Disagree, TooShort, Contents, JobTooLong, NotShared, ClaimLacks, ClaimDisagrees, ClaimSmall}
use Rattle.trees.specs.declared.Body.{Body}
use Rattle.trees.specs.declared.Body.TheVariants.{S, T, K, C, J, O}
use Rattle.trees.specs.declared.Refusal.{Refusal}
use Rattle.trees.specs.declared.Edition.{Edition}
use Rattle.trees.specs.Edition.{in_edition, folded, keyed}
use Rattle.trees.specs.Label.{Label, distinct}
use Rattle.trees.specs.Token.{Token, spelling}
use Rattle.trees.specs.Tree.{Tree, Proper}
use Rattle.trees.specs.Reading.{Reading, good, refused as unread}
use Rattle.newick.specs.ReadTree.{read_tree_in}
use Rattle.trees.proofs.TokenLaws.{valid_decoded}
use Rattle.trees.proofs.EditionLaws.{valid_folded}
use Rattle.newick.proofs.EditionReads.{accepts_in}
use Rattle.lists.specs.ReadList.{read_list_in, folded_list, keys_of}
use Rattle.lists.proofs.EditionLists.{list_accepts_in}
use Rattle.agreement.specs.Closer.{holds, Common}
use Rattle.agreement.specs.Strict.{SameLeaves, IsStray}
use Rattle.agreement.specs.Sets.{set_of}
use Rattle.agreement.specs.Answer.{Answer, first_lacks, second_lacks, disagree, largest, largest_set, answer}
use Rattle.agreement.specs.Places.{place_in, place_of_number}
use Rattle.agreement.specs.Demand.{IsAnswer, IsDisagreement, IsFirstLacks, IsSecondLacks}
use Rattle.agreement.proofs.AnswerLaws.{agree_no_clash}
use Rattle.agreement.proofs.Promises as agreement
use Rattle.pairs.specs.Outcome.{Outcome, refused, naming, found, and_then, trio}
use Rattle.pairs.specs.TwoTrees.{trees_of}
use Rattle.queries.specs.Query.{Task, with_clash, with_set, answer_to, held_by, disagreement, required_of}
use Rattle.mast.specs.Compare.{missing, clash_of, comparison, compare_other, compare_answers, compare_lists, compare}
use Rattle.pairs.proofs.StrayLaws.{shared_nowhere}
use Rattle.pairs.proofs.StepLaws.{then_refused, Unread, trees_first, trees_second, trees_both}
use Rattle.queries.proofs.ListLaws.{list_unread, list_read_lem}
use Rattle.mast.proofs.WayLaws.{compare_stopped, compare_unlisted, compare_unclaimed, compare_reads, size_first}
use Rattle.pairs.proofs.StepLaws as step
use Rattle.claims.specs.Claim.{IsClaim, Verdict, claim_first_lacks, claim_second_lacks, claim_lacks, claim_disagrees, claim_small, claim_passes, Clear, VerdictIs}
use Rattle.claims.specs.Judge.{ReadsClaim, claim_disagreement, fifteen, judged_by_size, judged_by_three, judged_by_list, verdict_on, judge, judgement_of}
use Rattle.claims.proofs.VerdictLaws.{by_size, by_missing, verdict_of, verdict_is, verdict_only, passes_clear}

-- the steps from the comparison on are the verdict
judged_as : (e : Edition) (s : Tree) (xs ys : List Token) (size : ℕ) (B : Answer)
    → and_then (compare_other e s xs ys size B) verdict_on
    ≡ judgement_of e s xs ys (verdict_of (length ys) size (missing (keys_of e xs) (keys_of e ys) 0) B)
unfolding compare_other held_by comparison clash_of verdict_on judged_by_list judged_by_three judged_by_size judgement_of verdict_of by_missing by_size
judged_as e s xs ys size (first_lacks n) = refl
judged_as e s xs ys size (second_lacks n) = refl
judged_as e s xs ys size (disagree a b c) = go (missing (keys_of e xs) (keys_of e ys) 0)
  where
    go : (o : Option ℕ)
        → judged_by_list (comparison e s xs ys size (with_clash (record { one = a; two = b; three = c }))) o
        ≡ judgement_of e s xs ys (by_missing o (claim_disagrees a b c))
    go none = refl
    go (some n) = refl
judged_as e s xs ys size (largest Z) = go (missing (keys_of e xs) (keys_of e ys) 0)
  where
    sized : (b : Bool)
        → cond b (refused fifteen) (found (length ys)) ≡ judgement_of e s xs ys (cond b claim_small (claim_passes (length ys)))
    sized true = refl
    sized false = refl

    go : (o : Option ℕ)
        → judged_by_list (comparison e s xs ys size (with_set Z)) o ≡ judgement_of e s xs ys (by_missing o (by_size (length ys) size))
    go none = sized (ltb (length ys) size)
    go (some n) = refl

-- a sentence about the rows with the letter C
abbrev OfClaim : Body → Type 0 → Type 0
OfClaim C P = P
OfClaim S P = Prim.Unit {0}
OfClaim T P = Prim.Unit {0}
OfClaim K P = Prim.Unit {0}
OfClaim J P = Prim.Unit {0}
OfClaim O P = Prim.Unit {0}

module _ (q : Task) (claim : List ℕ) (s t : Tree) (xs ys : List Token) (read : ReadsClaim q claim s t xs ys) where
  abbrev E : Edition
  E = q.options.edition

  abbrev one : Tree
  one = keyed q.options.edition s

  abbrev two : Tree
  two = keyed q.options.edition t

  abbrev L : List Label
  L = keys_of q.options.edition xs

  abbrev Y : List Label
  Y = keys_of q.options.edition ys

  proper : Proper one
  proper = valid_decoded (folded E s) (valid_folded E s (accepts_in E q.first s read.reads.first_is).1)

  listed : distinct L ≡ true
  listed = (list_accepts_in E q.required xs read.reads.list_is).different

  claimed : distinct Y ≡ true
  claimed = (list_accepts_in E claim ys read.claim_is).different

  counted : length Y ≡ length ys
  counted = length-map (folded_list E ys) spelling ∙ length-map ys (in_edition E)

  abbrev judged_for : Answer → Outcome ℕ
  judged_for A = and_then (compare_answers q.options.edition s xs ys A (answer one two Y)) verdict_on

  judge_read : (A : Answer) → answer one two L ≡ A → judge q claim ≡ judged_for A
  unfolding judge compare_lists answer_to
  judge_read A h = ap (λ x. and_then x verdict_on) (compare_reads q claim s t xs ys read.reads read.claim_is) ∙ ap judged_for h

  -- "after number 8": 6, 7 and 8 of the required list
  pub six_of_list : (n : ℕ) → IsFirstLacks one two L n
      → judge q claim ≡ refused (record { reason = FirstLacks; body = K; place = place_of_number xs n })
  unfolding compare_answers required_of held_by
  six_of_list n h = judge_read (first_lacks n) ((agreement.six_promise one two L proper listed n).1 h)

  pub seven_of_list : (n : ℕ) → IsSecondLacks one two L n
      → judge q claim ≡ refused (record { reason = SecondLacks; body = K; place = place_of_number xs n })
  unfolding compare_answers required_of held_by
  seven_of_list n h = judge_read (second_lacks n) ((agreement.seven_promise one two L proper listed n).1 h)

  pub eight_of_list : (a b c : Label) → Common one two (set_of L) → IsDisagreement one two L a b c
      → judge q claim ≡ naming disagreement (trio E s xs a b c)
  unfolding compare_answers required_of held_by
  eight_of_list a b c held h = judge_read (disagree a b c) ((agreement.eight_names one two L proper listed a b c held).1 h)

  -- then the verdict
  module _ (clear : Clear one two L) where
    answered : answer one two L ≡ largest (largest_set one two L)
    answered = agreement.answered_promise one two L proper listed clear.common_leaves clear.free

    given : IsAnswer one two L (largest_set one two L)
    given = (agreement.set_promise one two L proper listed (largest_set one two L)).0 answered

    abbrev Found : Verdict
    Found = verdict_of (length Y) (length (largest_set one two L)) (missing L Y 0) (answer one two Y)

    judge_found : judge q claim ≡ judgement_of E s xs ys (verdict_of (length Y) (length (largest_set one two L)) (missing L Y 0) (answer one two Y))
    judge_found =
        judge_read _ refl
        ∙ ap (λ x. and_then x verdict_on) (size_first E s xs ys (answer one two L) (answer one two Y) (largest_set one two L) answered)
        ∙ judged_as E s xs ys (length (largest_set one two L)) (answer one two Y)
        ∙ ap (λ (n : ℕ). judgement_of E s xs ys (verdict_of n (length (largest_set one two L)) (missing L Y 0) (answer one two Y))) (sym counted)

    pub verdict_found : (v : Verdict) × VerdictIs one two L Y v × (judge q claim ≡ judgement_of E s xs ys v)
    verdict_found = (Found, verdict_is one two L Y proper claimed (largest_set one two L) given, judge_found)

    pub verdict_decides : (v : Verdict) → VerdictIs one two L Y v → judge q claim ≡ judgement_of E s xs ys v
    verdict_decides v h = judge_found ∙ ap (judgement_of E s xs ys) (verdict_only one two L Y proper claimed (largest_set one two L) given v h)

  -- the sentence that each row means, if it is one of the claim's
  abbrev RowMeans : Reason → Body → ℕ → Type 0
  RowMeans BadByte b p = Prim.Unit {0}
  RowMeans EndsTooSoon b p = Prim.Unit {0}
  RowMeans LabelTooLong b p = Prim.Unit {0}
  RowMeans TooMany b p = Prim.Unit {0}
  RowMeans Repeated b p = Prim.Unit {0}
  RowMeans FirstLacks b p = OfClaim b (Clear one two L × ((n : ℕ) × IsFirstLacks one two Y n × (p ≡ place_of_number ys n)))
  RowMeans SecondLacks b p = OfClaim b (Clear one two L × ((n : ℕ) × IsSecondLacks one two Y n × (p ≡ place_of_number ys n)))
  RowMeans Disagree b p = Prim.Unit {0}
  RowMeans TooShort b p = Prim.Unit {0}
  RowMeans Contents b p = Prim.Unit {0}
  RowMeans JobTooLong b p = Prim.Unit {0}
  RowMeans NotShared b p = Prim.Unit {0}
  RowMeans ClaimLacks b p = Clear one two L × ((n : ℕ) × VerdictIs one two L Y (claim_lacks n) × (p ≡ place_of_number xs n))
  RowMeans ClaimDisagrees b p = Prim.Unit {0}
  RowMeans ClaimSmall b p = Clear one two L × VerdictIs one two L Y claim_small

  abbrev Means : Outcome ℕ → Type 0
  Means (refused p) = RowMeans p.reason p.body p.place
  Means (naming p n) =
      OfClaim p.body (Clear one two L × VerdictIs one two L Y (claim_disagrees n.labels.one n.labels.two n.labels.three))
  Means (found n) = IsClaim one two L Y × (n ≡ length ys)

  verdict_means : Clear one two L → (v : Verdict) → VerdictIs one two L Y v → Means (judgement_of E s xs ys v)
  unfolding judgement_of
  verdict_means c (claim_first_lacks n) h = (c, (n, h, refl))
  verdict_means c (claim_second_lacks n) h = (c, (n, h, refl))
  verdict_means c (claim_lacks n) h = (c, (n, h, refl))
  verdict_means c (claim_disagrees x y z) h = (c, h)
  verdict_means c claim_small h = (c, h)
  verdict_means c (claim_passes n) h = (h.0, h.1 ∙ counted)

  -- where both trees hold the required labels and agree on them
  clear_of : (X : List Label) → answer one two L ≡ largest X → Clear one two L
  clear_of X h =
      let a = ((agreement.set_promise one two L proper listed X).0 h).allowed_set in
      record {
        common_leaves = λ x k. a.common_leaves x (a.required x k);
        free = agree_no_clash one two (set_of X) L a.agreed a.required;
      }

  judge_means : Means (judge q claim)
  unfolding compare_answers required_of held_by
  judge_means = go (answer one two L) refl
    where
      go : (A : Answer) → answer one two L ≡ A → Means (judge q claim)
      go (first_lacks n) h = subst Means (sym (judge_read (first_lacks n) h)) tt
      go (second_lacks n) h = subst Means (sym (judge_read (second_lacks n) h)) tt
      go (disagree a b c) h = subst Means (sym (judge_read (disagree a b c) h)) tt
      go (largest X) h =
          let c = clear_of X h in
          let w = verdict_found c in
          subst Means (sym w.2) (verdict_means c w.0 w.1)

  -- each judgement exactly if its sentence holds
  pub accepted_exactly : (n : ℕ) → (judge q claim ≡ found n) ↔ (IsClaim one two L Y × (n ≡ length ys))
  unfolding judgement_of
  accepted_exactly n = (
    λ (e : judge q claim ≡ found n). subst Means e judge_means,
    λ (h : IsClaim one two L Y × (n ≡ length ys)).
        verdict_decides (passes_clear one two L Y h.0) (claim_passes n) (h.0, h.1 ∙ sym counted),
  )

  pub six_exactly : (p : ℕ) → (judge q claim ≡ refused (record { reason = FirstLacks; body = C; place = p }))
      ↔ (Clear one two L × ((n : ℕ) × IsFirstLacks one two Y n × (p ≡ place_of_number ys n)))
  unfolding judgement_of
  six_exactly p = (
    λ (e : judge q claim ≡ refused (record { reason = FirstLacks; body = C; place = p })). subst Means e judge_means,
    λ (h : Clear one two L × ((n : ℕ) × IsFirstLacks one two Y n × (p ≡ place_of_number ys n))).
        verdict_decides h.0 (claim_first_lacks h.1.0) h.1.1
        ∙ ap (λ (i : ℕ). refused (record { reason = FirstLacks; body = C; place = i })) (sym h.1.2),
  )

  pub seven_exactly : (p : ℕ) → (judge q claim ≡ refused (record { reason = SecondLacks; body = C; place = p }))
      ↔ (Clear one two L × ((n : ℕ) × IsSecondLacks one two Y n × (p ≡ place_of_number ys n)))
  unfolding judgement_of
  seven_exactly p = (
    λ (e : judge q claim ≡ refused (record { reason = SecondLacks; body = C; place = p })). subst Means e judge_means,
    λ (h : Clear one two L × ((n : ℕ) × IsSecondLacks one two Y n × (p ≡ place_of_number ys n))).
        verdict_decides h.0 (claim_second_lacks h.1.0) h.1.1
        ∙ ap (λ (i : ℕ). refused (record { reason = SecondLacks; body = C; place = i })) (sym h.1.2),
  )

  pub missing_exactly : (p : ℕ) → (judge q claim ≡ refused (record { reason = ClaimLacks; body = K; place = p }))
      ↔ (Clear one two L × ((n : ℕ) × VerdictIs one two L Y (claim_lacks n) × (p ≡ place_of_number xs n)))
  unfolding judgement_of
  missing_exactly p = (
    λ (e : judge q claim ≡ refused (record { reason = ClaimLacks; body = K; place = p })). subst Means e judge_means,
    λ (h : Clear one two L × ((n : ℕ) × VerdictIs one two L Y (claim_lacks n) × (p ≡ place_of_number xs n))).
        verdict_decides h.0 (claim_lacks h.1.0) h.1.1
        ∙ ap (λ (i : ℕ). refused (record { reason = ClaimLacks; body = K; place = i })) (sym h.1.2),
  )

  pub clash_exactly : (a b c : Label)
      → (judge q claim ≡ naming claim_disagreement (trio E s ys a b c)) ↔ (Clear one two L × VerdictIs one two L Y (claim_disagrees a b c))
  unfolding judgement_of
  clash_exactly a b c = (
    λ (e : judge q claim ≡ naming claim_disagreement (trio E s ys a b c)). subst Means e judge_means,
    λ (h : Clear one two L × VerdictIs one two L Y (claim_disagrees a b c)). verdict_decides h.0 (claim_disagrees a b c) h.1,
  )

  pub small_exactly : (judge q claim ≡ refused fifteen) ↔ (Clear one two L × VerdictIs one two L Y claim_small)
  unfolding judgement_of
  small_exactly = (
    λ (e : judge q claim ≡ refused fifteen). subst Means e judge_means,
    λ (h : Clear one two L × VerdictIs one two L Y claim_small). verdict_decides h.0 claim_small h.1,
  )

-- ---- bodies that are not read, and a leaf in only one tree of a strict job

pub not_read : {A : Type 0} (x : Reading A) (body : Body) (r : Reason) (i : ℕ) → x ≡ unread r i
    → Unread A x body (record { reason = r; body = body; place = i })
not_read x body r i e = record { reason = r; place = i; is = e; told = refl }

module _ (q : Task) (claim : List ℕ) where
  abbrev F : Edition
  F = q.options.edition

  stopped : (a : Refusal) → compare q claim ≡ refused a → judge q claim ≡ refused a
  unfolding judge
  stopped = then_refused (compare q claim) verdict_on

  pub trees_stopped : (a : Refusal) → trees_of q.options q.first q.second ≡ refused a → judge q claim ≡ refused a
  trees_stopped a e = stopped a (compare_stopped q claim a e)

  pub first_refused : (r : Reason) (i : ℕ) → read_tree_in F q.first ≡ unread r i
      → judge q claim ≡ refused (record { reason = r; body = S; place = i })
  first_refused r i e = trees_stopped _ (trees_first q.options q.first q.second _ (not_read (read_tree_in F q.first) S r i e))

  pub second_refused : (s : Tree) → read_tree_in F q.first ≡ good s → (r : Reason) (i : ℕ) → read_tree_in F q.second ≡ unread r i
      → judge q claim ≡ refused (record { reason = r; body = T; place = i })
  second_refused s e r i f =
      trees_stopped _ (trees_second q.options q.first q.second s e _ (not_read (read_tree_in F q.second) T r i f))

  module _ (s t : Tree) (e : read_tree_in F q.first ≡ good s) (f : read_tree_in F q.second ≡ good t) where
    pub stray_first : q.options.strict ≡ true → (x : Label) → IsStray (keyed F s) (keyed F t) x
        → judge q claim ≡ refused (record { reason = NotShared; body = S; place = place_in (folded F s) 0 x })
    stray_first h x k = trees_stopped _ (step.stray_first q.options q.first q.second s e t f h x k)

    pub stray_second : q.options.strict ≡ true → (x : Label)
        → ((y : Label) → holds (keyed F s) y ≡ true → holds (keyed F t) y ≡ true) → IsStray (keyed F t) (keyed F s) x
        → judge q claim ≡ refused (record { reason = NotShared; body = T; place = place_in (folded F t) 0 x })
    stray_second h x a k = trees_stopped _ (step.stray_second q.options q.first q.second s e t f h x a k)

    module _ (h : q.options.strict ≡ true → SameLeaves (keyed F s) (keyed F t)) (r : Reason) (i : ℕ) where
      both : trees_of q.options q.first q.second ≡ found (record { first = s; second = t })
      both = trees_both q.options q.first q.second s e t f (shared_nowhere q.options s t h)

      pub list_refused : read_list_in F q.required ≡ unread r i → judge q claim ≡ refused (record { reason = r; body = K; place = i })
      list_refused g =
          stopped _
          (compare_unlisted q claim _ both _ (list_unread F K q.required _ (not_read (read_list_in F q.required) K r i g)))

      pub claim_refused : (xs : List Token) → read_list_in F q.required ≡ good xs → read_list_in F claim ≡ unread r i
          → judge q claim ≡ refused (record { reason = r; body = C; place = i })
      claim_refused xs g k =
          stopped _
          (compare_unclaimed q claim _ both xs (list_read_lem F K q.required xs g) _ (list_unread F C claim _ (not_read (read_list_in F claim) C r i k)))
