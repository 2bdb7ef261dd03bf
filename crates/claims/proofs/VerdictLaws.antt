-- The verdict on a claim over sets of labels: what is found is what the request's sentences say, and nothing else. Assumes nothing.
use Prim.Native.Nat.{ℕ}
use mathlib.Core.Path.{◌≡◌, refl, sym, ◌∙◌, ap}
use mathlib.Core.Bool.{Bool, true, false, cond}
use mathlib.Core.List.{List, []}
use mathlib.Core.Option.{Option, some, none}
use native.Mathlib.Omega.{arith}
use lib.Dec.{ltb}
use lib.ListN.{length, get_or}
use borrow.Author.Tests.{ltb-true, ltb-false, lt-ltb, le-ltb}
use Rattle.trees.specs.Label.{Label, distinct}
use Rattle.trees.specs.Tree.{Tree, Proper}
use Rattle.trees.proofs.Bools.{clash}
use Rattle.trees.proofs.ListLaws.{at_in}
use Rattle.agreement.specs.Closer.{Agree, Common}
use Rattle.agreement.specs.Sets.{sorted, set_of}
use Rattle.agreement.specs.Answer.{Answer, first_lacks, second_lacks, disagree, largest, largest_set, answer}
use Rattle.agreement.specs.Demand.{Allowed, IsAnswer}
use Rattle.agreement.specs.RightAnswer.{RightAnswer}
use Rattle.agreement.proofs.SetLaws.{in_sorted, length_sorted, sorted_inc, inc_distinct}
use Rattle.agreement.proofs.AnswerLaws.{agree_no_clash}
use Rattle.agreement.proofs.Promises as agreement
use Rattle.mast.specs.Compare.{missing}
use Rattle.mast.proofs.MissingLaws.{Missed, missed_is, one_missing, none_missing}
use Rattle.claims.specs.Claim.{HoldsRequired, IsClaim, Verdict, claim_first_lacks, claim_second_lacks, claim_lacks, claim_disagrees, claim_small, claim_passes, Clear, VerdictIs}

-- what is found, by the number of claimed labels, the largest size, the first required label that is missing and the answer to the claim
unfoldable pub by_size : ℕ → ℕ → Verdict
by_size count size = cond (ltb count size) claim_small (claim_passes count)

unfoldable pub by_missing : Option ℕ → Verdict → Verdict
by_missing (some n) v = claim_lacks n
by_missing none v = v

unfoldable pub verdict_of : ℕ → ℕ → Option ℕ → Answer → Verdict
unfolding by_size by_missing
verdict_of count size missed (first_lacks n) = claim_first_lacks n
verdict_of count size missed (second_lacks n) = claim_second_lacks n
verdict_of count size missed (disagree a b c) = by_missing missed (claim_disagrees a b c)
verdict_of count size missed (largest Z) = by_missing missed (by_size count size)

-- ---- sets

-- a claim, put in label order, is a set that may be given
pub claim_allowed_lem : (s t : Tree) (K Y : List Label) → distinct Y ≡ true → HoldsRequired K Y → Common s t (set_of Y) → Agree s t (set_of Y)
    → Allowed s t K (sorted Y)
claim_allowed_lem s t K Y d r c a = record {
  ordered = sorted_inc Y d;
  required = λ x h. in_sorted x Y ∙ r x h;
  common_leaves = λ x h. c x (sym (in_sorted x Y) ∙ h);
  agreed = λ x y z h k l.
      a x y z (sym (in_sorted x Y) ∙ h) (sym (in_sorted y Y) ∙ k) (sym (in_sorted z Y) ∙ l);
}

-- the set that the engine gives passes
pub answer_passes : (s t : Tree) (K X : List Label) → IsAnswer s t K X → IsClaim s t K X
answer_passes s t K X h = record {
  different = inc_distinct X h.allowed_set.ordered;
  required = h.allowed_set.required;
  common_leaves = h.allowed_set.common_leaves;
  agreed = h.allowed_set.agreed;
  largest_size = h.largest_size;
}

-- so does any that may be given and is as large
pub tied_passes : (s t : Tree) (K X Y : List Label) → IsAnswer s t K X → Allowed s t K Y → length Y ≡ length X → IsClaim s t K Y
tied_passes s t K X Y h k e = record {
  different = inc_distinct Y k.ordered;
  required = k.required;
  common_leaves = k.common_leaves;
  agreed = k.agreed;
  largest_size = λ Z l. omega (arith, h.largest_size Z l, e);
}

-- and whatever passes has the size of the engine's set
pub passes_size : (s t : Tree) (K X Y : List Label) → IsAnswer s t K X → IsClaim s t K Y → length Y ≡ length X
passes_size s t K X Y h k =
    let a = claim_allowed_lem s t K Y k.different k.required k.common_leaves k.agreed in
    omega (arith, h.largest_size (sorted Y) a, length_sorted Y, k.largest_size X h.allowed_set)

-- where a claim passes, no three required labels clash
pub passes_clear : (s t : Tree) (K Y : List Label) → IsClaim s t K Y → Clear s t K
passes_clear s t K Y k = record {
  common_leaves = λ x h. k.common_leaves x (k.required x h);
  free = agree_no_clash s t (set_of Y) K k.agreed k.required;
}

-- ---- what is found

module _ (s t : Tree) (K Y : List Label) (proper : Proper s) (different : distinct Y ≡ true) (X : List Label)
    (given : IsAnswer s t K X) where
  -- the answer to the claim as a list
  told : (A : Answer) → answer s t Y ≡ A → RightAnswer s t Y A
  told A = (agreement.answer_promise s t Y proper different A).0

  -- a set that agrees on the claim's labels is the answer exactly if both trees hold them and agree on them
  held : (Z : List Label) → answer s t Y ≡ largest Z → Common s t (set_of Y) × Agree s t (set_of Y)
  held Z h =
      let a = (told (largest Z) h).allowed_set in (
        λ x k. a.common_leaves x (a.required x k),
        λ x y z k l m. a.agreed x y z (a.required x k) (a.required y l) (a.required z m),
      )

  agreed_answer : Common s t (set_of Y) → Agree s t (set_of Y) → answer s t Y ≡ largest (largest_set s t Y)
  agreed_answer c a = agreement.answered_promise s t Y proper different c (agree_no_clash s t (set_of Y) Y a (λ x h. h))

  by_size_lem : HoldsRequired K Y → Common s t (set_of Y) → Agree s t (set_of Y)
      → VerdictIs s t K Y (by_size (length Y) (length X))
  unfolding by_size
  by_size_lem r c a = go (ltb (length Y) (length X)) refl
    where
      go : (b : Bool) → ltb (length Y) (length X) ≡ b → VerdictIs s t K Y (cond b claim_small (claim_passes (length Y)))
      go true e =
          (c, r, a, record { larger = X; allowed = given.allowed_set; more = ltb-true (length Y) (length X) e })
      go false e = (
        record {
          different = different;
          required = r;
          common_leaves = c;
          agreed = a;
          largest_size = λ Z l. omega (arith, given.largest_size Z l, ltb-false (length Y) (length X) e);
        },
        refl,
      )

  by_missing_lem : Common s t (set_of Y) → (v : Verdict) → (HoldsRequired K Y → VerdictIs s t K Y v)
      → VerdictIs s t K Y (by_missing (missing K Y 0) v)
  unfolding by_missing
  by_missing_lem c v f = go (missing K Y 0) (missed_is K Y)
    where
      go : (o : Option ℕ) → Missed K Y o → VerdictIs s t K Y (by_missing o v)
      go none g = f g
      go (some n) g = (c, g)

  pub verdict_is : VerdictIs s t K Y (verdict_of (length Y) (length X) (missing K Y 0) (answer s t Y))
  unfolding verdict_of
  verdict_is = go (answer s t Y) refl
    where
      go : (A : Answer) → answer s t Y ≡ A → VerdictIs s t K Y (verdict_of (length Y) (length X) (missing K Y 0) A)
      go (first_lacks n) h = told (first_lacks n) h
      go (second_lacks n) h = told (second_lacks n) h
      go (disagree a b c) h =
          let o = told (disagree a b c) h in
          by_missing_lem o.0 (claim_disagrees a b c) (λ r. (o.0, r, o.1))
      go (largest Z) h =
          let o = held Z h in
          by_missing_lem o.0 (by_size (length Y) (length X)) (λ r. by_size_lem r o.0 o.1)

  -- where both trees hold the claimed labels, neither 6 nor 7 is the answer
  lacked : {G : Type 0} → Common s t (set_of Y) → (A : Answer) → answer s t Y ≡ A
      → ((a b c : Label) → A ≡ disagree a b c → G) → ((Z : List Label) → A ≡ largest Z → G) → G
  lacked c (first_lacks n) h f g =
      let o = told (first_lacks n) h in
      clash (c (get_or Y n []) (at_in Y n o.found.in_list)).0 o.lacked
  lacked c (second_lacks n) h f g =
      let o = told (second_lacks n) h in
      clash (c (get_or Y n []) (at_in Y n o.found.in_list)).1 o.lacked
  lacked c (disagree x y z) h f g = f x y z refl
  lacked c (largest Z) h f g = g Z refl

  verdict_agreed : HoldsRequired K Y → Common s t (set_of Y) → Agree s t (set_of Y)
      → verdict_of (length Y) (length X) (missing K Y 0) (answer s t Y) ≡ by_size (length Y) (length X)
  unfolding verdict_of by_missing
  verdict_agreed r c a = rw (agreed_answer c a, none_missing K Y r) refl

  pub verdict_only : (v : Verdict) → VerdictIs s t K Y v → verdict_of (length Y) (length X) (missing K Y 0) (answer s t Y) ≡ v
  unfolding verdict_of by_missing by_size
  verdict_only (claim_first_lacks n) h = rw ((agreement.six_promise s t Y proper different n).1 h) refl
  verdict_only (claim_second_lacks n) h = rw ((agreement.seven_promise s t Y proper different n).1 h) refl
  verdict_only (claim_lacks n) h =
      lacked h.0 (answer s t Y) refl (λ a b c e. rw (e, one_missing K Y n h.1) refl)
      (λ Z e. rw (e, one_missing K Y n h.1) refl)
  verdict_only (claim_disagrees a b c) h =
      rw ((agreement.eight_names s t Y proper different a b c h.0).1 h.2, none_missing K Y h.1) refl
  verdict_only claim_small h =
      let w = h.3 in
      verdict_agreed h.1 h.0 h.2
      ∙ rw (lt-ltb (length Y) (length X) (omega (arith, w.more, given.largest_size w.larger w.allowed))) refl
  verdict_only (claim_passes n) h =
      let w = h.0 in
      verdict_agreed w.required w.common_leaves w.agreed
      ∙ rw (le-ltb (length Y) (length X) (w.largest_size X given.allowed_set)) (ap claim_passes (sym h.1))
