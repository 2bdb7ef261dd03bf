-- What bodies come to, row by row, with a claim and without one. Assumes nothing.
use Prim.Native.Nat.{ℕ}
use mathlib.Core.Path.{◌≡◌, refl, sym, ◌∙◌, ap}
use mathlib.Core.Bool.{Bool, true}
use mathlib.Core.List.{List}
use mathlib.Core.Option.{Option, some, none}
use Rattle.trees.specs.declared.Reason.{Reason}
use Rattle.trees.specs.declared.Reason.TheVariants.{FirstLacks, SecondLacks, NotShared}
use Rattle.trees.specs.declared.Body.TheVariants.{S, T, K, C}
use Rattle.trees.specs.declared.Refusal.{Refusal}
use Rattle.trees.specs.declared.Edition.{Edition}
use Rattle.trees.specs.Edition.{folded, keyed}
use Rattle.trees.specs.Label.{Label}
use Rattle.trees.specs.Text.{tree_room}
use Rattle.trees.specs.Token.{Token}
use Rattle.trees.specs.Tree.{Tree}
use Rattle.trees.specs.Reading.{good, refused as unread}
use Rattle.newick.specs.ReadTree.{read_tree_in}
use Rattle.newick.proofs.Promises as newick
use Rattle.lists.specs.ReadList.{read_list_in, keys_of}
use Rattle.agreement.specs.Closer.{holds, Common}
use Rattle.agreement.specs.Sets.{set_of}
use Rattle.agreement.specs.Answer.{Answer, first_lacks, second_lacks, disagree, largest}
use Rattle.agreement.specs.Places.{place_in, place_of_number}
use Rattle.agreement.specs.Demand.{IsFirstLacks, IsSecondLacks, IsDisagreement, IsAnswer}
use Rattle.agreement.specs.RightAnswer.{RightAnswer}
use Rattle.agreement.specs.Strict.{SameLeaves, IsStray}
use Rattle.pairs.specs.Outcome.{Outcome, refused, naming, found, and_then, trio}
use Rattle.pairs.specs.TwoTrees.{Trees, stray_for, trees_of}
use Rattle.queries.specs.Query.{Task, task, plain, list_of, held_by, disagreement, required_of}
use Rattle.mast.specs.Largest.{Solution, solution, solution_of, solve}
use Rattle.mast.specs.Compare.{compare_lists, compare}
use Rattle.mast.specs.Reads.{Reads}
use Rattle.pairs.proofs.StrayLaws.{shared_nowhere}
use Rattle.pairs.proofs.StepLaws as step
use Rattle.mast.proofs.WayLaws as way
use Rattle.pairs.proofs.StepLaws.{then_refused}
use Rattle.queries.proofs.ListLaws.{list_unread}
use Rattle.mast.proofs.WayLaws.{solve_stopped, solve_unlisted}
use Rattle.mast.proofs.Promises as mast
use Rattle.claims.specs.Claim.{Verdict, Clear, VerdictIs}
use Rattle.claims.specs.Judge.{verdict_on, judge, judgement_of}
use Rattle.claims.proofs.JudgeLaws.{not_read, trees_stopped}
use Rattle.claims.proofs.Promises as claims
use Rattle.job.specs.Printed.{set_reply, claim_reply, solve_task}
use Rattle.job.specs.JobOutcome.{refusal}
use Rattle.job.proofs.RoomLaws.{text_fits}

module _ (pieces : Bool) (q : Task) where
  abbrev E : Edition
  E = q.options.edition

  -- trees that are not read, whatever the job claims
  task_trees : (c : Option (List ℕ)) (a : Refusal) → trees_of q.options q.first q.second ≡ refused a → solve_task pieces q c ≡ refused a
  unfolding solve_task
  task_trees none a e = then_refused (solve q tree_room) (set_reply pieces) a (solve_stopped q tree_room a e)
  task_trees (some claim) a e = then_refused (judge q claim) claim_reply a (trees_stopped q claim a e)

  pub task_first : (c : Option (List ℕ)) (r : Reason) (i : ℕ) → read_tree_in E q.first ≡ unread r i → solve_task pieces q c ≡ refusal r S i
  task_first c r i e = task_trees c _ (step.trees_first q.options q.first q.second _ (not_read (read_tree_in E q.first) S r i e))

  pub task_second : (c : Option (List ℕ)) (r : Reason) (i : ℕ) (s : Tree) → read_tree_in E q.first ≡ good s
      → read_tree_in E q.second ≡ unread r i → solve_task pieces q c ≡ refusal r T i
  task_second c r i s e f =
      task_trees c _ (step.trees_second q.options q.first q.second s e _ (not_read (read_tree_in E q.second) T r i f))

  module _ (s t : Tree) (e : read_tree_in E q.first ≡ good s) (f : read_tree_in E q.second ≡ good t) where
    pub task_stray_first : (c : Option (List ℕ)) → q.options.strict ≡ true → (x : Label) → IsStray (keyed E s) (keyed E t) x
        → solve_task pieces q c ≡ refusal NotShared S (place_in (folded E s) 0 x)
    task_stray_first c h x k = task_trees c _ (step.stray_first q.options q.first q.second s e t f h x k)

    pub task_stray_second : (c : Option (List ℕ)) → q.options.strict ≡ true → (x : Label)
        → ((y : Label) → holds (keyed E s) y ≡ true → holds (keyed E t) y ≡ true) → IsStray (keyed E t) (keyed E s) x
        → solve_task pieces q c ≡ refusal NotShared T (place_in (folded E t) 0 x)
    task_stray_second c h x a k = task_trees c _ (step.stray_second q.options q.first q.second s e t f h x a k)

    both : (q.options.strict ≡ true → SameLeaves (keyed E s) (keyed E t))
        → trees_of q.options q.first q.second ≡ found (record { first = s; second = t })
    both h = step.trees_both q.options q.first q.second s e t f (shared_nowhere q.options s t h)

    -- where both trees hold the same leaves the line `strict` changes nothing
    pub task_strict : (c : Option (List ℕ)) → SameLeaves (keyed E s) (keyed E t)
        → solve_task pieces q c ≡ solve_task pieces (task (plain E) q.first q.second q.required) c
    unfolding solve_task judge compare stray_for
    task_strict none h = ap (λ (x : Outcome Solution). and_then x (set_reply pieces)) (way.strict_as_plain q tree_room s t e f h)
    task_strict (some claim) h =
        ap (λ (x : Outcome Trees).
        and_then (and_then (and_then x (λ p. and_then (list_of E K q.required) (λ xs. and_then (list_of E C claim) (compare_lists E p xs)))) verdict_on)
        claim_reply)
        (both (λ _. h) ∙ sym (step.trees_both (plain E) q.first q.second s e t f refl))

    module _ (shared : q.options.strict ≡ true → SameLeaves (keyed E s) (keyed E t)) where
      pub task_list : (c : Option (List ℕ)) (r : Reason) (i : ℕ) → read_list_in E q.required ≡ unread r i → solve_task pieces q c ≡ refusal r K i
      unfolding solve_task
      task_list none r i g =
          then_refused (solve q tree_room) (set_reply pieces) _
          (solve_unlisted q tree_room _ (both shared) _ (list_unread E K q.required _ (not_read (read_list_in E q.required) K r i g)))
      task_list (some claim) r i g = then_refused (judge q claim) claim_reply _ (claims.third_body q claim s t e f shared r i g)

      pub task_claim : (xs : List Token) → read_list_in E q.required ≡ good xs → (text : List ℕ) (r : Reason) (i : ℕ)
          → read_list_in E text ≡ unread r i → solve_task pieces q (some text) ≡ refusal r C i
      unfolding solve_task
      task_claim xs g text r i h = then_refused (judge q text) claim_reply _ (claims.claim_body q text s t e f shared r i xs g h)

-- the claim, where there is one, is read
abbrev pub ReadClaim : Edition → Option (List ℕ) → Type 0
ReadClaim e none = Prim.Unit {0}
ReadClaim e (some text) = (ys : List Token) × (read_list_in e text ≡ good ys)

module _ (pieces : Bool) (q : Task) (s t : Tree) (xs : List Token) (reads : Reads q s t xs) where
  abbrev F : Edition
  F = q.options.edition

  plain_as_lem : (A : Answer) → RightAnswer (keyed F s) (keyed F t) (keys_of F xs) A
      → solve_task pieces q none ≡ and_then (solution_of F s t xs tree_room A) (set_reply pieces)
  unfolding solve_task
  plain_as_lem A o = ap (λ (x : Outcome Solution). and_then x (set_reply pieces)) (mast.outcome_promise q tree_room s t xs reads A o)

  claim_as : (claim : List ℕ) (x : Outcome ℕ) → judge q claim ≡ x → solve_task pieces q (some claim) ≡ and_then x claim_reply
  unfolding solve_task
  claim_as claim x e = ap (λ (y : Outcome ℕ). and_then y claim_reply) e

  -- 6, 7 and 8 of the required list
  pub task_first_lacks : (c : Option (List ℕ)) → ReadClaim F c → (n : ℕ) → IsFirstLacks (keyed F s) (keyed F t) (keys_of F xs) n
      → solve_task pieces q c ≡ refusal FirstLacks K (place_of_number xs n)
  unfolding solution_of required_of held_by
  task_first_lacks none w n o = plain_as_lem (first_lacks n) o
  task_first_lacks (some claim) w n o =
      claim_as claim _ (claims.six_promise q claim s t xs w.0 (record { reads = reads; claim_is = w.1 }) n o)

  pub task_second_lacks : (c : Option (List ℕ)) → ReadClaim F c → (n : ℕ) → IsSecondLacks (keyed F s) (keyed F t) (keys_of F xs) n
      → solve_task pieces q c ≡ refusal SecondLacks K (place_of_number xs n)
  unfolding solution_of required_of held_by
  task_second_lacks none w n o = plain_as_lem (second_lacks n) o
  task_second_lacks (some claim) w n o =
      claim_as claim _ (claims.seven_promise q claim s t xs w.0 (record { reads = reads; claim_is = w.1 }) n o)

  pub task_clash : (o : Option (List ℕ)) → ReadClaim F o → (a b c : Label) → Common (keyed F s) (keyed F t) (set_of (keys_of F xs))
      → IsDisagreement (keyed F s) (keyed F t) (keys_of F xs) a b c → solve_task pieces q o ≡ naming disagreement (trio F s xs a b c)
  unfolding solution_of required_of held_by
  task_clash none w a b c held o = plain_as_lem (disagree a b c) (held, o)
  task_clash (some claim) w a b c held o =
      claim_as claim _ (claims.eight_promise q claim s t xs w.0 (record { reads = reads; claim_is = w.1 }) a b c held o)

  -- the set, where there is no claim
  pub task_set : (X : List Label) → IsAnswer (keyed F s) (keyed F t) (keys_of F xs) X → solve_task pieces q none ≡ set_reply pieces (solution F s t xs X)
  unfolding solution_of required_of held_by
  task_set X o =
      plain_as_lem (largest X) o
      ∙ ap (λ (x : Outcome Solution). and_then x (set_reply pieces)) (text_fits F s t xs X (newick.accepted_text F q.first s reads.first_is).1)

  -- and then the verdict
  module _ (text : List ℕ) (ys : List Token) (read : read_list_in F text ≡ good ys) (clear : Clear (keyed F s) (keyed F t) (keys_of F xs)) where
    pub task_verdict : (v : Verdict) → VerdictIs (keyed F s) (keyed F t) (keys_of F xs) (keys_of F ys) v
        → solve_task pieces q (some text) ≡ and_then (judgement_of F s xs ys v) claim_reply
    task_verdict v o = claim_as text _ (claims.verdict_promise q text s t xs ys (record { reads = reads; claim_is = read }) clear v o)

    pub some_verdict : (v : Verdict) × VerdictIs (keyed F s) (keyed F t) (keys_of F xs) (keys_of F ys) v
    some_verdict = let w = claims.some_verdict q text s t xs ys (record { reads = reads; claim_is = read }) clear in (w.0, w.1)
