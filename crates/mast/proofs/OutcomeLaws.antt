-- What a solution tells of the answer that it belongs to. Assumes nothing.
use Prim.Native.Nat.{ℕ, ◌<◌, ◌≤◌}
use mathlib.Core.Path.{◌≡◌, refl, sym, ◌∙◌, ap, subst}
use mathlib.Core.Bool.{true, false}
use mathlib.Core.Logic.{◌⊎◌, inl, inr, ◌↔◌}
use mathlib.Core.List.{List, []}
use mathlib.Core.Option.{some, none}
use native.Mathlib.Omega.{arith}
use lib.Dec.{leb}
use Rattle.std.specs.Prelude.{Some}
use lib.ListN.{length, get_or}
use borrow.Author.Tests.{leb-true, leb-false, le-leb, lt-leb}
use Rattle.trees.specs.declared.Reason.TheVariants.{FirstLacks, SecondLacks, TooShort}
use Rattle.trees.specs.declared.Refusal.{Refusal}
use Rattle.trees.specs.declared.Edition.{Edition}
use Rattle.trees.specs.Label.{Label, is_in, distinct}
use Rattle.trees.specs.Edition.{folded, keyed, ValidIn}
use Rattle.trees.specs.Token.{Token}
use Rattle.trees.specs.Tree.{Tree, Proper}
use Rattle.trees.specs.Reading.{good}
use Rattle.trees.proofs.Bools.{bool_cases}
use Rattle.trees.proofs.TokenLaws.{valid_decoded}
use Rattle.trees.proofs.EditionLaws.{valid_folded}
use Rattle.newick.proofs.EditionReads.{accepts_in}
use Rattle.lists.specs.ReadList.{read_list_in, keys_of}
use Rattle.lists.proofs.EditionLists.{list_accepts_in}
use Rattle.agreement.specs.Sets.{set_of}
use Rattle.agreement.specs.Answer.{Three, Answer, first_lacks, second_lacks, disagree, largest, answer}
use Rattle.agreement.specs.Closer.{Common}
use Rattle.agreement.specs.Demand.{IsAnswer, Clash}
use Rattle.agreement.specs.RightAnswer.{RightAnswer}
use Rattle.agreement.proofs.EditionText.{one_text_in}
use Rattle.agreement.proofs.Promises as agreement
use Rattle.pairs.specs.Outcome.{Outcome, Trio, refused, naming, found, trio}
use Rattle.mast.specs.NamedLabels.{named_of}
use Rattle.queries.specs.Query.{Task, with_clash, with_set, answer_to, held_by, disagreement, required_of}
use Rattle.mast.specs.Largest.{Solution, solution, solution_text, too_short, fitted, solution_of, solve_list, solve, largest_of, set_of_answer}
use Rattle.mast.specs.declared.Named.{Named}
use Rattle.mast.specs.Compare.{Comparison, clash_of, comparison, compare_other, compare_answers, compare_lists, compare, named_if}
use Rattle.mast.specs.Reads.{Reads, SetGiven}
use Rattle.mast.specs.Shown.{HeldAndListed, ShownInTree, NamesShown}
use Rattle.mast.proofs.ShownLaws.{set_is_shown, names_are_shown}
use Rattle.mast.proofs.WayLaws.{solve_reads, compare_reads, size_first}

-- the text fits, or number 9
abbrev FitsOrShort : ℕ → Solution → Type 0
FitsOrShort room r =
    ((length (solution_text r) ≤ room) × (fitted room r ≡ found r)) ⊎ ((room < length (solution_text r)) × (fitted room r ≡ refused too_short))

fits_or_short : (room : ℕ) (r : Solution) → FitsOrShort room r
unfolding fitted
fits_or_short room r = go (bool_cases (leb (length (solution_text r)) room))
  where
    go : (leb (length (solution_text r)) room ≡ true) ⊎ (leb (length (solution_text r)) room ≡ false) → FitsOrShort room r
    go (inl h) = inl (leb-true (length (solution_text r)) room h, rw h refl)
    go (inr h) = inr (leb-false (length (solution_text r)) room h, rw h refl)

-- the parts of an outcome

same_trio : {A : Type 0} {p q : Refusal} {m n : Trio} → ◌≡◌ {A = Outcome A} (naming p m) (naming q n) → m ≡ n
same_trio d = cc

same_found : {A : Type 0} {x y : A} → found x ≡ found y → x ≡ y
same_found d = cc

same_some : {r u : Three} → some r ≡ some u → r ≡ u
same_some d = cc

same_refusal : {A : Type 0} {p q : Refusal} → ◌≡◌ {A = Outcome A} (refused p) (refused q) → p ≡ q
same_refusal d = cc

refused_naming : {A G : Type 0} {p q : Refusal} {n : Trio} → ◌≡◌ {A = Outcome A} (refused p) (naming q n) → G
refused_naming d = let z : ◌≡◌ {A = ℕ} 0 1 = cc in absurd (omega arith)

found_naming : {A G : Type 0} {x : A} {q : Refusal} {n : Trio} → found x ≡ naming q n → G
found_naming d = let z : ◌≡◌ {A = ℕ} 0 1 = cc in absurd (omega arith)

refused_found : {A G : Type 0} {x : A} {q : Refusal} → refused q ≡ found x → G
refused_found d = let z : ◌≡◌ {A = ℕ} 0 1 = cc in absurd (omega arith)

-- what an outcome tells of the answer
module _ (e : Edition) (s t : Tree) (xs : List Token) (room : ℕ) where
  abbrev Of : Answer → Outcome Solution
  Of A = solution_of e s t xs room A

  set_of_lem : (X : List Label) → Of (largest X) ≡ fitted room (solution e s t xs X)
  unfolding solution_of required_of held_by
  set_of_lem X = refl

  pub named_only : (A : Answer) (q : Refusal) (n : Trio) → Of A ≡ naming q n
      → (a : Label) × (b : Label) × (c : Label) × (A ≡ disagree a b c) × (q ≡ disagreement) × (n ≡ trio e s xs a b c)
  unfolding solution_of required_of held_by
  named_only (first_lacks k) q n d = refused_naming d
  named_only (second_lacks k) q n d = refused_naming d
  named_only (disagree a b c) q n d = (a, b, c, refl, cc, sym (same_trio d))
  named_only (largest X) q n d = go (fits_or_short room (solution e s t xs X))
    where
      go : FitsOrShort room (solution e s t xs X)
          → (a : Label) × (b : Label) × (c : Label) × (largest X ≡ disagree a b c) × (q ≡ disagreement) × (n ≡ trio e s xs a b c)
      go (inl h) = found_naming (sym h.1 ∙ sym (set_of_lem X) ∙ d)
      go (inr h) = refused_naming (sym h.1 ∙ sym (set_of_lem X) ∙ d)

  clashed_only : (A : Answer) (a b c : Label) → Of A ≡ naming disagreement (trio e s xs a b c) → A ≡ disagree a b c
  clashed_only A a b c d =
      let k = named_only A disagreement (trio e s xs a b c) d in
      let w : trio e s xs a b c ≡ trio e s xs k.0 k.1 k.2 = k.5 in
      let x : k.0 ≡ a = sym (ap (λ (n : Trio). n.labels.one) w) in
      let y : k.1 ≡ b = sym (ap (λ (n : Trio). n.labels.two) w) in
      let z : k.2 ≡ c = sym (ap (λ (n : Trio). n.labels.three) w) in
      k.3 ∙ (rw (x, y, z) refl)

  pub set_only : (A : Answer) (X : List Label) → Of A ≡ found (solution e s t xs X)
      → (A ≡ largest X) × (length (solution_text (solution e s t xs X)) ≤ room)
  unfolding solution_of required_of held_by
  set_only (first_lacks k) X d = refused_found d
  set_only (second_lacks k) X d = refused_found d
  set_only (disagree a b c) X d = found_naming (sym d)
  set_only (largest Y) X d = go (fits_or_short room (solution e s t xs Y))
    where
      go : FitsOrShort room (solution e s t xs Y)
          → (largest Y ≡ largest X) × (length (solution_text (solution e s t xs X)) ≤ room)
      go (inl h) =
          let k : Y ≡ X = ap (λ (r : Solution). r.set) (same_found (sym h.1 ∙ sym (set_of_lem Y) ∙ d)) in
          (ap largest k, rw k at h.0)
      go (inr h) = refused_found (sym h.1 ∙ sym (set_of_lem Y) ∙ d)

  pub short_only : (A : Answer) → Of A ≡ refused too_short
      → (X : List Label) × (A ≡ largest X) × (room < length (solution_text (solution e s t xs X)))
  unfolding solution_of required_of held_by
  short_only (first_lacks k) d =
      let w : FirstLacks ≡ TooShort = ap (λ (q : Refusal). q.reason) (same_refusal d) in
      let z : ◌≡◌ {A = ℕ} 0 1 = cc in
      absurd (omega arith)
  short_only (second_lacks k) d =
      let w : SecondLacks ≡ TooShort = ap (λ (q : Refusal). q.reason) (same_refusal d) in
      let z : ◌≡◌ {A = ℕ} 0 1 = cc in
      absurd (omega arith)
  short_only (disagree a b c) d = refused_naming (sym d)
  short_only (largest Y) d = go (fits_or_short room (solution e s t xs Y))
    where
      go : FitsOrShort room (solution e s t xs Y)
          → (X : List Label) × (largest Y ≡ largest X) × (room < length (solution_text (solution e s t xs X)))
      go (inl h) = refused_found (sym d ∙ set_of_lem Y ∙ h.1)
      go (inr h) = (Y, refl, h.0)

-- what a comparison tells of the answers to both lists
module _ (e : Edition) (s : Tree) (xs ys : List Token) where
  other_named : {G : Type 0} (n : ℕ) (B : Answer) (q : Refusal) (r : Trio) → compare_other e s xs ys n B ≡ naming q r → G
  unfolding compare_other held_by
  other_named n (first_lacks k) q r d = refused_naming d
  other_named n (second_lacks k) q r d = refused_naming d
  other_named n (disagree a b c) q r d = found_naming d
  other_named n (largest X) q r d = found_naming d

  pub compared_named : (A B : Answer) (q : Refusal) (n : Trio) → compare_answers e s xs ys A B ≡ naming q n
      → (a : Label) × (b : Label) × (c : Label) × (A ≡ disagree a b c) × (q ≡ disagreement) × (n ≡ trio e s xs a b c)
  unfolding compare_answers required_of held_by
  compared_named (first_lacks k) B q n d = refused_naming d
  compared_named (second_lacks k) B q n d = refused_naming d
  compared_named (disagree a b c) B q n d = (a, b, c, refl, cc, sym (same_trio d))
  compared_named (largest X) B q n d = other_named (length X) B q n d

  -- three labels of the further list, by the comparison's own parts
  abbrev ClashTold : Answer → Comparison → Three → Type 0
  ClashTold B c r =
      (B ≡ disagree r.one r.two r.three)
      × (named_if c.edition c.first c.further c.clash ≡ Some (named_of (trio e s ys r.one r.two r.three)))

  other_clash : (n : ℕ) (B : Answer) (c : Comparison) (r : Three) → compare_other e s xs ys n B ≡ found c → c.clash ≡ some r → ClashTold B c r
  unfolding compare_other held_by comparison clash_of named_if
  other_clash n (first_lacks k) c r d h = refused_found d
  other_clash n (second_lacks k) c r d h = refused_found d
  other_clash n (disagree x y z) c r d h =
      let w : comparison e s xs ys n (with_clash (record { one = x; two = y; three = z })) ≡ c = same_found d in
      let k : record { one = x; two = y; three = z } ≡ r = same_some (ap (λ (p : Comparison). p.clash) w ∙ h) in (
        ap (λ (p : Three). disagree p.one p.two p.three) k,
        ap (λ (p : Comparison). named_if p.edition p.first p.further p.clash) (sym w)
            ∙ ap (λ (p : Three). Some (named_of (trio e s ys p.one p.two p.three))) k,
      )
  other_clash n (largest X) c r d h =
      let w : comparison e s xs ys n (with_set X) ≡ c = same_found d in
      let k : none ≡ some r = ap (λ (p : Comparison). p.clash) w ∙ h in
      let z : ◌≡◌ {A = ℕ} 0 1 = cc in
      absurd (omega arith)

  pub compared_clash : (A B : Answer) (c : Comparison) (r : Three) → compare_answers e s xs ys A B ≡ found c → c.clash ≡ some r
      → ClashTold B c r
  unfolding compare_answers required_of held_by
  compared_clash (first_lacks k) B c r d h = refused_found d
  compared_clash (second_lacks k) B c r d h = refused_found d
  compared_clash (disagree x y z) B c r d h = found_naming (sym d)
  compared_clash (largest X) B c r d h = other_clash (length X) B c r d h

-- the same of texts that are read
module _ (q : Task) (s t : Tree) (xs : List Token) (reads : Reads q s t xs) where
  abbrev E : Edition
  E = q.options.edition

  abbrev L : List Label
  L = keys_of E xs

  abbrev ANS : Answer
  ANS = answer (keyed E s) (keyed E t) L

  pub valid_first : ValidIn E s
  valid_first = (accepts_in E q.first s reads.first_is).1

  valid_second : ValidIn E t
  valid_second = (accepts_in E q.second t reads.second_is).1

  proper : Proper (keyed E s)
  proper = valid_decoded (folded E s) (valid_folded E s valid_first)

  different : distinct (keys_of E xs) ≡ true
  different = (list_accepts_in E q.required xs reads.list_is).different

  -- three labels of a list with different closer pairs, by their places in the texts
  three_shown : (text : List ℕ) (ys : List Token) → read_list_in E text ≡ good ys → (a b c : Label)
      → answer (keyed E s) (keyed E t) (keys_of E ys) ≡ disagree a b c
      → NamesShown E q.first text (named_of (trio E s ys a b c)) (record { one = a; two = b; three = c })
  three_shown text ys g a b c d =
      let l = list_accepts_in E text ys g in
      let w = (agreement.answer_promise (keyed E s) (keyed E t) (keys_of E ys) proper l.different (disagree a b c)).0 d in
      let in_both : (x : Label) → is_in x (keys_of E ys) ≡ true → HeldAndListed (trio E s ys a b c) x =
      λ x h. record { held = (w.0 x h).0; listed = h } in
      rw ((accepts_in E q.first s reads.first_is).0, l.is)
      (names_are_shown (trio E s ys a b c) valid_first (in_both a w.1.clash.in_one) (in_both b w.1.clash.in_two)
      (in_both c w.1.clash.in_three))

  required_shown : (a b c : Label) → ANS ≡ disagree a b c → (n : Trio) → n ≡ trio E s xs a b c
      → NamesShown E q.first q.required (named_of n) n.labels
  required_shown a b c d n k =
      subst (λ (m : Trio). NamesShown E q.first q.required (named_of m) m.labels) (sym k)
      (three_shown q.required xs reads.list_is a b c d)

  module _ (room : ℕ) where
    solve_answer : solve q room ≡ solution_of E s t xs room ANS
    unfolding solve_list answer_to
    solve_answer = solve_reads q room s t xs reads

    pub outcome_decides : (A : Answer) → RightAnswer (keyed E s) (keyed E t) L A → solve q room ≡ solution_of E s t xs room A
    outcome_decides A h =
        solve_answer ∙ ap (solution_of E s t xs room) ((agreement.answer_promise (keyed E s) (keyed E t) L proper different A).1 h)

    pub eight_exactly : Common (keyed E s) (keyed E t) (set_of L)
        → ((a : Label) × (b : Label) × (c : Label) × Clash (keyed E s) (keyed E t) L a b c)
        ↔ ((a : Label) × (b : Label) × (c : Label) × (solve q room ≡ naming disagreement (trio E s xs a b c)))
    unfolding solution_of required_of held_by
    eight_exactly held = (
      λ k.
          let e = (agreement.eight_promise (keyed E s) (keyed E t) L proper different held).0 k in
          (e.0, e.1, e.2, solve_answer ∙ ap (solution_of E s t xs room) e.3),
      λ k.
          (agreement.eight_promise (keyed E s) (keyed E t) L proper different held).1
          (k.0, k.1, k.2, clashed_only E s t xs room ANS k.0 k.1 k.2 (sym solve_answer ∙ k.3)),
    )

    set_fitted : (X : List Label) → IsAnswer (keyed E s) (keyed E t) L X → solve q room ≡ fitted room (solution E s t xs X)
    set_fitted X h =
        solve_answer ∙ ap (solution_of E s t xs room) ((agreement.set_promise (keyed E s) (keyed E t) L proper different X).1 h)
        ∙ set_of_lem E s t xs room X

    pub set_exactly : (X : List Label) → (solve q room ≡ found (solution E s t xs X)) ↔ SetGiven E s t xs X room
    unfolding fitted solution_text
    set_exactly X = (
      λ d.
          let k = set_only E s t xs room ANS X (sym solve_answer ∙ d) in
          let a = (agreement.set_promise (keyed E s) (keyed E t) L proper different X).0 k.0 in
          record {
            is_answer = a;
            second_text = one_text_in E s t (set_of X) valid_first valid_second a.allowed_set.common_leaves a.allowed_set.agreed;
            fit = k.1;
          },
      λ g. set_fitted X g.is_answer ∙ (rw (le-leb (length (solution_text (solution E s t xs X))) room g.fit) refl),
    )

    pub nine_exactly : (solve q room ≡ refused too_short)
        ↔ ((X : List Label) × IsAnswer (keyed E s) (keyed E t) L X × (room < length (solution_text (solution E s t xs X))))
    unfolding fitted
    nine_exactly = (
      λ d.
          let k = short_only E s t xs room ANS (sym solve_answer ∙ d) in
          (k.0, (agreement.set_promise (keyed E s) (keyed E t) L proper different k.0).0 k.1, k.2),
      λ k. set_fitted k.0 k.1 ∙ (rw (lt-leb (length (solution_text (solution E s t xs k.0))) room k.2) refl),
    )

    pub set_given_shown : (X : List Label) → solve q room ≡ found (solution E s t xs X) → (r : ℕ) → r < (set_of_answer (largest_of (solve q room))).count
        → ShownInTree E q.first (get_or (set_of_answer (largest_of (solve q room))).start r 0) (get_or (set_of_answer (largest_of (solve q room))).size r 0)
        (get_or X r [])
    set_given_shown X d r =
        let held = ((set_exactly X).0 d).is_answer.allowed_set.common_leaves in
        set_is_shown E s X valid_first (λ x h. (held x h).0) r t xs q.first (accepts_in E q.first s reads.first_is).0 (solve q room) d

    pub names_given_shown : (p : Refusal) (n : Trio) → solve q room ≡ naming p n
        → (p ≡ disagreement) × NamesShown E q.first q.required (named_of n) n.labels
    names_given_shown p n d =
        let k = named_only E s t xs room ANS p n (sym solve_answer ∙ d) in
        (k.4, required_shown k.0 k.1 k.2 k.3 n k.5)

  -- a further list beside the set
  module _ (other : List ℕ) (ys : List Token) (g : read_list_in E other ≡ good ys) where
    abbrev FURTHER : Answer
    FURTHER = answer (keyed E s) (keyed E t) (keys_of E ys)

    compare_answer : compare q other ≡ compare_answers E s xs ys ANS FURTHER
    unfolding compare_lists answer_to
    compare_answer = compare_reads q other s t xs ys reads g

    pub compare_decides : (X : List Label) → IsAnswer (keyed E s) (keyed E t) L X
        → compare q other ≡ compare_other E s xs ys (length X) FURTHER
    compare_decides X h =
        compare_answer
        ∙ size_first E s xs ys ANS FURTHER X ((agreement.set_promise (keyed E s) (keyed E t) L proper different X).1 h)

    pub compare_names_shown : (p : Refusal) (n : Trio) → compare q other ≡ naming p n
        → (p ≡ disagreement) × NamesShown E q.first q.required (named_of n) n.labels
    compare_names_shown p n d =
        let k = compared_named E s xs ys ANS FURTHER p n (sym compare_answer ∙ d) in
        (k.4, required_shown k.0 k.1 k.2 k.3 n k.5)

    pub further_names_shown : (c : Comparison) (r : Three) → compare q other ≡ found c → c.clash ≡ some r
        → (n : Named) × (named_if c.edition c.first c.further c.clash ≡ Some n) × NamesShown E q.first other n r
    further_names_shown c r d h =
        let k = compared_clash E s xs ys ANS FURTHER c r (sym compare_answer ∙ d) h in
        (named_of (trio E s ys r.one r.two r.three), k.1, three_shown other ys g r.one r.two r.three k.0)
