-- The judgement of a claim, from texts. C-16: "A label of C absent from a tree takes 6 or 7 with letter C, after number
-- 8; then come, in order, 13 for the first required label missing from the claim, at that label's place in K, 14 for three claimed leaves
-- that disagree, named as 8 names them, and 15 for a claim smaller than the largest size, both 14 and 15 at C 0."
use Rattle.std.specs.Prelude.{ℕ, ◌≡◌, cond, List, ltb, length, Result}
use Rattle.std.proofs.Math.Option.{Option, some, none}
use Rattle.trees.specs.declared.Reason.TheVariants.{FirstLacks, SecondLacks, ClaimLacks, ClaimDisagrees, ClaimSmall}
use Rattle.trees.specs.declared.Body.TheVariants.{K, C}
use Rattle.trees.specs.declared.Refusal.{Refusal}
use Rattle.trees.specs.declared.Edition.{Edition}
use Rattle.trees.specs.Token.{Token}
use Rattle.trees.specs.Tree.{Tree}
use Rattle.trees.specs.Reading.{good}
use Rattle.lists.specs.ReadList.{read_list_in}
use Rattle.agreement.specs.Answer.{Three}
use Rattle.agreement.specs.Places.{place_of_number}
use Rattle.pairs.specs.Outcome.{Outcome, refused, naming, found, and_then, trio}
use Rattle.mast.specs.declared.Denied.{Denied}
use Rattle.mast.specs.NamedLabels.{result_of}
use Rattle.queries.specs.Query.{Task}
use Rattle.mast.specs.Reads.{Reads}
use Rattle.mast.specs.Compare.{Comparison, compare}
use Rattle.claims.specs.Claim.{Verdict, claim_first_lacks, claim_second_lacks, claim_lacks, claim_disagrees, claim_small, claim_passes}

-- The texts are read as these two trees, this list and this claim. If the job is strict, both trees have the same leaves. So no number
-- before 6 is given.
pub record ReadsClaim (q : Task) (claim : List ℕ) (s t : Tree) (xs ys : List Token) : Type 0 where
  pub reads : Reads q s t xs
  pub claim_is : read_list_in q.options.edition claim ≡ good ys

-- 14, "C 0"
abbrev pub claim_disagreement : Refusal
claim_disagreement = record { reason = ClaimDisagrees; body = C; place = 0 }

-- 15, "C 0"
abbrev pub fifteen : Refusal
fifteen = record { reason = ClaimSmall; body = C; place = 0 }

-- "15 for a claim smaller than the largest size"; or it passes: "`claim ok`, a blank and the size"
unfoldable pub judged_by_size : Comparison → Outcome ℕ
judged_by_size c = cond (ltb (length c.further) c.size) (refused fifteen) (found (length c.further))

-- "14 for three claimed leaves that disagree"
unfoldable pub judged_by_three : Comparison → Option Three → Outcome ℕ
unfolding judged_by_size
judged_by_three c (some r) = naming claim_disagreement (trio c.edition c.first c.further r.one r.two r.three)
judged_by_three c none = judged_by_size c

-- "13 .., at that label's place in K"
unfoldable pub judged_by_list : Comparison → Option ℕ → Outcome ℕ
unfolding judged_by_three
judged_by_list c (some n) = refused (record { reason = ClaimLacks; body = K; place = place_of_number c.required n })
judged_by_list c none = judged_by_three c c.clash

-- the verdict on a claim whose labels both trees have
unfoldable pub verdict_on : Comparison → Outcome ℕ
unfolding judged_by_list
verdict_on c = judged_by_list c c.missed

-- the judgement of a claim for two trees and a list: "after number 8"
unfoldable pub judge : Task → List ℕ → Outcome ℕ
unfolding and_then compare verdict_on
judge q claim = and_then (compare q claim) verdict_on

-- each verdict as an outcome: 6 and 7 "with letter C", 13 "at that label's place in K", "both 14 and 15 at C 0"
unfoldable pub judgement_of : Edition → Tree → List Token → List Token → Verdict → Outcome ℕ
judgement_of e s xs ys (claim_first_lacks n) = refused (record { reason = FirstLacks; body = C; place = place_of_number ys n })
judgement_of e s xs ys (claim_second_lacks n) = refused (record { reason = SecondLacks; body = C; place = place_of_number ys n })
judgement_of e s xs ys (claim_lacks n) = refused (record { reason = ClaimLacks; body = K; place = place_of_number xs n })
judgement_of e s xs ys (claim_disagrees a b c) = naming claim_disagreement (trio e s ys a b c)
judgement_of e s xs ys claim_small = refused fifteen
judgement_of e s xs ys (claim_passes n) = found n

-- What is returned: the size; the three labels that 8 or 14 names, by their places in the list or the claim and in the first tree; or the
-- refusal.
abbrev pub claim_of : Outcome ℕ → Result ℕ Denied
claim_of x = result_of (λ n. n) x
