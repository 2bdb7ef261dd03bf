-- What a job comes to is what the papers say of it, and nothing else. Assumes nothing.
use Prim.Native.Nat.{ℕ, ◌≤◌}
use mathlib.Core.Path.{◌≡◌, refl, sym, ◌∙◌, ap, subst}
use mathlib.Core.Bool.{true, false, cond}
use mathlib.Core.Logic.{◌⊎◌, inl, inr, ◌↔◌}
use mathlib.Core.List.{List}
use mathlib.Core.Option.{Option, some, none}
use native.Mathlib.Omega.{arith}
use lib.Dec.{leb}
use lib.ListN.{length}
use borrow.Author.Tests.{le-leb, lt-leb, leb-true, leb-false}
use Rattle.trees.specs.declared.Reason.TheVariants.{Contents, JobTooLong}
use Rattle.trees.specs.declared.Body.TheVariants.{J}
use Rattle.trees.specs.Label.{Label}
use Rattle.trees.specs.Text.{tree_room}
use Rattle.trees.specs.declared.Edition.{Edition}
use Rattle.trees.specs.Edition.{folded, keyed}
use Rattle.trees.specs.Token.{Token}
use Rattle.trees.specs.Tree.{Tree}
use Rattle.trees.specs.Reading.{Reading, good, refused as unread}
use Rattle.trees.proofs.Bools.{bool_cases}
use Rattle.trees.proofs.TokenLaws.{valid_decoded}
use Rattle.trees.proofs.EditionLaws.{valid_folded}
use Rattle.newick.specs.ReadTree.{read_tree_in}
use Rattle.newick.proofs.Promises as newick
use Rattle.lists.specs.ReadList.{read_list_in, keys_of, IsList}
use Rattle.lists.proofs.Promises as lists
use Rattle.agreement.specs.Demand.{IsAnswer}
use Rattle.agreement.specs.Answer.{Answer, first_lacks, second_lacks, disagree, largest, answer}
use Rattle.agreement.specs.RightAnswer.{RightAnswer}
use Rattle.agreement.specs.Strict.{Stray, in_first, in_second, nowhere}
use Rattle.agreement.proofs.DemandLaws.{allowed_held, allowed_no_clash}
use Rattle.agreement.proofs.Promises as agreement
use Rattle.claims.specs.Claim.{Clear}
use Rattle.claims.specs.Judge.{judge}
use Rattle.contents.specs.Contents.{Bodies, first_text, second_text, list_text, claim_text, bodies_of}
use Rattle.contents.proofs.Promises as contents
use Rattle.contents.proofs.ContentsLaws.{none_some}
use Rattle.pairs.specs.Outcome.{Outcome, and_then}
use Rattle.pairs.specs.TwoTrees.{stray_for}
use Rattle.queries.specs.Query.{Task, task}
use Rattle.mast.specs.Largest.{solve}
use Rattle.mast.specs.Reads.{Reads}
use Rattle.pairs.proofs.StrayLaws.{nowhere_shared, stray_strict}
use Rattle.job.specs.Printed.{job_limit, task_of, Reply, set_reply, claim_reply, solve_task, solve_bodies, solve_job, printed_of, printed}
use Rattle.job.specs.JobOutcome.{Follows, Holds, edition_in, TreeBody, Shared, ClaimRead, Asks, refusal, JobOutcome}
use Rattle.job.specs.JobOutcome.{too_long, no_contents, first_fault, second_fault, list_fault, claim_fault, stray_first, stray_second, first_lacking, second_lacking, three_disagree, largest_set, judged}
use Rattle.job.proofs.TaskLaws.{ReadClaim, task_first, task_second, task_stray_first, task_stray_second, task_list, task_claim, task_first_lacks, task_second_lacks, task_clash, task_set, task_verdict, some_verdict}

-- ---- bodies that are read

tree_body : (e : Edition) (text : List ℕ) (t : Tree) → read_tree_in e text ≡ good t → TreeBody e text t
tree_body e text t d = let w = newick.accepted_text e text t d in record { is = w.0; valid = w.1 }

pub body_tree : (e : Edition) (text : List ℕ) (t : Tree) → TreeBody e text t → read_tree_in e text ≡ good t
body_tree e text t b = ap (read_tree_in e) b.is ∙ newick.valid_read e t b.valid

holds_bodies : (job : List ℕ) (b : Bodies) → Holds job b → bodies_of job ≡ some b
holds_bodies job b h = (contents.bodies_promise job b).1 (h.contents.text, h.contents.fits)

bodies_follow : (job : List ℕ) (b : Bodies) → bodies_of job ≡ some b → Follows job b
bodies_follow job b e = let w = (contents.bodies_promise job b).0 e in record { text = w.0; fits = w.1 }

-- ---- the claim that is read

read_claim : (e : Edition) (o : Option (List ℕ)) (c : Option (List Token)) → ClaimRead e o c → ReadClaim e o
read_claim e none none w = tt
read_claim e none (some ys) w = absurd w
read_claim e (some text) none w = absurd w
read_claim e (some text) (some ys) w = (ys, lists.labels_read e text ys w)

claim_none : (e : Edition) (o : Option (List ℕ)) → ClaimRead e o none → o ≡ none
claim_none e none w = refl
claim_none e (some text) w = absurd w

pub claim_some : (e : Edition) (o : Option (List ℕ)) (ys : List Token) → ClaimRead e o (some ys) → (text : List ℕ) × (o ≡ some text) × IsList e text ys
claim_some e none ys w = absurd w
claim_some e (some text) ys w = (text, refl, w)

-- where an answer exists, nothing required is lacked or clashes
answer_clear : (s t : Tree) (K X : List Label) → IsAnswer s t K X → Clear s t K
answer_clear s t K X o = record { common_leaves = allowed_held s t K X o.allowed_set; free = allowed_no_clash s t K X o.allowed_set }

-- ---- each job has an outcome

module _ (job : List ℕ) (b : Bodies) (held : Holds job b) where
  abbrev E : Edition
  E = edition_in b

  abbrev Out : Type 0
  Out = JobOutcome job (solve_task b.head.pieces (task_of b) (claim_text b))

  of : (x : Outcome Reply) → solve_task b.head.pieces (task_of b) (claim_text b) ≡ x → JobOutcome job x → Out
  of x e o = subst (JobOutcome job) (sym e) o

  module _ (s t : Tree) (first : read_tree_in E (first_text b) ≡ good s) (second : read_tree_in E (second_text b) ≡ good t) where
    abbrev one_body : TreeBody E (first_text b) s
    one_body = tree_body E (first_text b) s first

    abbrev two_body : TreeBody E (second_text b) t
    two_body = tree_body E (second_text b) t second

    module _ (shared : Shared b s t) where
      module _ (xs : List Token) (listed : read_list_in E (list_text b) ≡ good xs) where
        abbrev list_body : IsList E (list_text b) xs
        list_body = lists.accepted_list E (list_text b) xs listed

        abbrev reads : Reads (task_of b) s t xs
        reads = record { first_is = first; second_is = second; shared = shared; list_is = listed }

        abbrev asks : (c : Option (List Token)) → ClaimRead E (claim_text b) c → Asks job E s t xs c
        asks c w = record {
          bodies = b;
          held = held;
          edition = refl;
          first = one_body;
          second = two_body;
          shared = shared;
          required = list_body;
          claim = w;
        }

        told : (A : Answer) → answer (keyed E s) (keyed E t) (keys_of E xs) ≡ A → RightAnswer (keyed E s) (keyed E t) (keys_of E xs) A
        told A k =
            (agreement.answer_promise (keyed E s) (keyed E t) (keys_of E xs) (valid_decoded (folded E s) (valid_folded E s one_body.valid)) list_body.different A).0 k

        -- what is read of the claim
        module _ (c : Option (List Token)) (w : ClaimRead E (claim_text b) c)
            (last : (X : List Label) → IsAnswer (keyed E s) (keyed E t) (keys_of E xs) X → Out) where
          answers : (A : Answer) → answer (keyed E s) (keyed E t) (keys_of E xs) ≡ A → Out
          answers (first_lacks n) k =
              of _ (task_first_lacks b.head.pieces (task_of b) s t xs reads (claim_text b) (read_claim E (claim_text b) c w) n (told (first_lacks n) k))
              (first_lacking E s t xs c (asks c w) n (told (first_lacks n) k))
          answers (second_lacks n) k =
              of _ (task_second_lacks b.head.pieces (task_of b) s t xs reads (claim_text b) (read_claim E (claim_text b) c w) n (told (second_lacks n) k))
              (second_lacking E s t xs c (asks c w) n (told (second_lacks n) k))
          answers (disagree p q r) k =
              let o = told (disagree p q r) k in
              of _ (task_clash b.head.pieces (task_of b) s t xs reads (claim_text b) (read_claim E (claim_text b) c w) p q r o.0 o.1)
              (three_disagree E s t xs c (asks c w) p q r o.0 o.1)
          answers (largest X) k = last X (told (largest X) k)

        claimed : (o : Option (List ℕ)) → claim_text b ≡ o → Out
        claimed none d =
            let w : ClaimRead E (claim_text b) none = subst (λ (y : Option (List ℕ)). ClaimRead E y none) (sym d) tt in
            answers none w
            (λ (X : List Label) (o : IsAnswer (keyed E s) (keyed E t) (keys_of E xs) X).
            of _ (ap (solve_task b.head.pieces (task_of b)) d ∙ task_set b.head.pieces (task_of b) s t xs reads X o) (largest_set E s t xs (asks none w) X o))
            (answer (keyed E s) (keyed E t) (keys_of E xs)) refl
        claimed (some text) d = go (read_list_in E text) refl
          where
            go : (z : Reading (List Token)) → read_list_in E text ≡ z → Out
            go (unread r i) k =
                of _ (ap (solve_task b.head.pieces (task_of b)) d ∙ task_claim b.head.pieces (task_of b) s t first second shared xs listed text r i k)
                (claim_fault b held s t one_body two_body shared xs list_body text d r i (lists.refused_first E text r i k))
            go (good ys) k =
                let w : ClaimRead E (claim_text b) (some ys) =
                subst (λ (y : Option (List ℕ)). ClaimRead E y (some ys)) (sym d) (lists.accepted_list E text ys k) in
                answers (some ys) w
                (λ (X : List Label) (o : IsAnswer (keyed E s) (keyed E t) (keys_of E xs) X).
                let clear = answer_clear (keyed E s) (keyed E t) (keys_of E xs) X o in
                let v = some_verdict b.head.pieces (task_of b) s t xs reads text ys k clear in
                of _ (ap (solve_task b.head.pieces (task_of b)) d ∙ task_verdict b.head.pieces (task_of b) s t xs reads text ys k clear v.0 v.1)
                (judged E s t xs ys (asks (some ys) w) clear v.0 v.1))
                (answer (keyed E s) (keyed E t) (keys_of E xs)) refl

      listed_outcome : (z : Reading (List Token)) → read_list_in E (list_text b) ≡ z → Out
      listed_outcome (unread r i) e =
          of _ (task_list b.head.pieces (task_of b) s t first second shared (claim_text b) r i e)
          (list_fault b held s t one_body two_body shared r i (lists.refused_first E (list_text b) r i e))
      listed_outcome (good xs) e = claimed xs e (claim_text b) refl

    -- number 12 only where the job is strict
    shared_outcome : (z : Stray) → stray_for (task_of b).options s t ≡ z → Out
    shared_outcome (in_first x) e =
        let w = stray_strict (task_of b).options s t (in_first x) e (λ k. let z : ◌≡◌ {A = ℕ} 0 1 = cc in absurd (omega arith)) in
        of _ (task_stray_first b.head.pieces (task_of b) s t first second (claim_text b) w.0 x w.1) (stray_first b held w.0 s t one_body two_body x w.1)
    shared_outcome (in_second x) e =
        let w = stray_strict (task_of b).options s t (in_second x) e (λ k. let z : ◌≡◌ {A = ℕ} 0 1 = cc in absurd (omega arith)) in
        of _ (task_stray_second b.head.pieces (task_of b) s t first second (claim_text b) w.0 x w.1.0 w.1.1)
        (stray_second b held w.0 s t one_body two_body x w.1.0 w.1.1)
    shared_outcome nowhere e = listed_outcome (nowhere_shared (task_of b).options s t e) (read_list_in E (list_text b)) refl

  bodies_outcome : Out
  bodies_outcome = go (read_tree_in E (first_text b)) (read_tree_in E (second_text b)) refl refl
    where
      go : (x y : Reading Tree) → read_tree_in E (first_text b) ≡ x → read_tree_in E (second_text b) ≡ y → Out
      go (unread r i) y ex ey =
          of _ (task_first b.head.pieces (task_of b) (claim_text b) r i ex) (first_fault b held r i (newick.refused_first E (first_text b) r i ex))
      go (good s) (unread r i) ex ey =
          of _ (task_second b.head.pieces (task_of b) (claim_text b) r i s ex ey)
          (second_fault b held s (tree_body E (first_text b) s ex) r i (newick.refused_first E (second_text b) r i ey))
      go (good s) (good t) ex ey = shared_outcome s t ex ey (stray_for (task_of b).options s t) refl

outcome : (job : List ℕ) → JobOutcome job (solve_job job)
unfolding solve_job solve_bodies
outcome job = sized (bool_cases (leb (length job) job_limit))
  where
    read : length job ≤ job_limit → (o : Option Bodies) → bodies_of job ≡ o → JobOutcome job (solve_bodies o)
    read h none e = no_contents h (λ b w. none_some b (sym e ∙ holds_bodies job b (record { size = h; contents = w })))
    read h (some b) e = bodies_outcome job b (record { size = h; contents = bodies_follow job b e })

    sized : (leb (length job) job_limit ≡ true) ⊎ (leb (length job) job_limit ≡ false)
        → JobOutcome job (cond (leb (length job) job_limit) (solve_bodies (bodies_of job)) (refusal JobTooLong J 0))
    sized (inl h) = rw h (read (leb-true (length job) job_limit h) (bodies_of job) refl)
    sized (inr h) = rw h (too_long (leb-false (length job) job_limit h))

-- ---- and one only

module _ (job : List ℕ) (b : Bodies) (held : Holds job b) where
  pub job_solve : solve_job job ≡ solve_task b.head.pieces (task_of b) (claim_text b)
  unfolding solve_job solve_bodies
  job_solve = rw (le-leb (length job) job_limit held.size) (ap solve_bodies (holds_bodies job b held))

  -- the two sorts of jobs
  pub without_claim : claim_text b ≡ none → solve_job job ≡ and_then (solve (task_of b) tree_room) (set_reply b.head.pieces)
  unfolding solve_task
  without_claim d = job_solve ∙ ap (solve_task b.head.pieces (task_of b)) d

  pub with_claim : (text : List ℕ) → claim_text b ≡ some text → solve_job job ≡ and_then (judge (task_of b) text) claim_reply
  unfolding solve_task
  with_claim text d = job_solve ∙ ap (solve_task b.head.pieces (task_of b)) d

module _ (job : List ℕ) (e : Edition) (s t : Tree) (xs : List Token) (c : Option (List Token)) (asks : Asks job e s t xs c) where
  abbrev bodies : Bodies
  bodies = asks.bodies

  -- the edition is the one that the job states
  asked : Task
  asked = task (record { strict = bodies.head.strict; edition = e }) (first_text bodies) (second_text bodies) (list_text bodies)

  asked_is : asked ≡ task_of bodies
  unfolding asked
  asked_is = ap (λ (d : Edition). task (record { strict = bodies.head.strict; edition = d }) (first_text bodies) (second_text bodies) (list_text bodies)) asks.edition

  asked_reads : Reads asked s t xs
  unfolding asked
  asked_reads =
      record {
        first_is = body_tree e (first_text bodies) s asks.first;
        second_is = body_tree e (second_text bodies) t asks.second;
        shared = asks.shared;
        list_is = lists.labels_read e (list_text bodies) xs asks.required;
      }

  asked_claim : ReadClaim e (claim_text bodies)
  asked_claim = read_claim e (claim_text bodies) c asks.claim

  decided : (x : Outcome Reply) → solve_task bodies.head.pieces asked (claim_text bodies) ≡ x → solve_job job ≡ x
  decided x o = job_solve job bodies asks.held ∙ ap (λ (q : Task). solve_task bodies.head.pieces q (claim_text bodies)) (sym asked_is) ∙ o

one : (job : List ℕ) (x : Outcome Reply) → JobOutcome job x → solve_job job ≡ x
unfolding solve_job solve_bodies asked
one job x (too_long h) = rw (lt-leb (length job) job_limit h) refl
one job x (no_contents h never) = rw (le-leb (length job) job_limit h) (go (bodies_of job) refl)
  where
    go : (o : Option Bodies) → bodies_of job ≡ o → solve_bodies o ≡ refusal Contents J 0
    go none e = refl
    go (some b) e = absurd (never b (bodies_follow job b e))
one job x (first_fault b held r i f) =
    job_solve job b held ∙ task_first b.head.pieces (task_of b) (claim_text b) r i (newick.first_refused (edition_in b) (first_text b) r i f)
one job x (second_fault b held s p r i f) =
    job_solve job b held
    ∙ task_second b.head.pieces (task_of b) (claim_text b) r i s (body_tree (edition_in b) (first_text b) s p) (newick.first_refused (edition_in b) (second_text b) r i f)
one job x (list_fault b held s t p q h r i f) =
    job_solve job b held
    ∙ task_list b.head.pieces (task_of b) s t (body_tree (edition_in b) (first_text b) s p) (body_tree (edition_in b) (second_text b) t q) h (claim_text b) r i
    (lists.first_refused (edition_in b) (list_text b) r i f)
one job x (claim_fault b held s t p q h xs l text d r i f) =
    job_solve job b held
    ∙ ap (solve_task b.head.pieces (task_of b)) d
    ∙ task_claim b.head.pieces (task_of b) s t (body_tree (edition_in b) (first_text b) s p) (body_tree (edition_in b) (second_text b) t q) h xs
    (lists.labels_read (edition_in b) (list_text b) xs l) text r i (lists.first_refused (edition_in b) text r i f)
one job x (stray_first b held e s t p q y k) =
    job_solve job b held
    ∙ task_stray_first b.head.pieces (task_of b) s t (body_tree (edition_in b) (first_text b) s p) (body_tree (edition_in b) (second_text b) t q) (claim_text b) e y k
one job x (stray_second b held e s t p q y a k) =
    job_solve job b held
    ∙ task_stray_second b.head.pieces (task_of b) s t (body_tree (edition_in b) (first_text b) s p) (body_tree (edition_in b) (second_text b) t q) (claim_text b) e y a k
one job x (first_lacking e s t xs c asks n o) =
    decided job e s t xs c asks _ (task_first_lacks asks.bodies.head.pieces (asked job e s t xs c asks) s t xs (asked_reads job e s t xs c asks) (claim_text asks.bodies)
    (asked_claim job e s t xs c asks) n o)
one job x (second_lacking e s t xs c asks n o) =
    decided job e s t xs c asks _ (task_second_lacks asks.bodies.head.pieces (asked job e s t xs c asks) s t xs (asked_reads job e s t xs c asks) (claim_text asks.bodies)
    (asked_claim job e s t xs c asks) n o)
one job x (three_disagree e s t xs z asks a b c held o) =
    decided job e s t xs z asks _ (task_clash asks.bodies.head.pieces (asked job e s t xs z asks) s t xs (asked_reads job e s t xs z asks) (claim_text asks.bodies)
    (asked_claim job e s t xs z asks) a b c held o)
one job x (largest_set e s t xs asks X o) =
    decided job e s t xs none asks _ (ap (solve_task asks.bodies.head.pieces (asked job e s t xs none asks)) (claim_none e (claim_text asks.bodies) asks.claim)
    ∙ task_set asks.bodies.head.pieces (asked job e s t xs none asks) s t xs (asked_reads job e s t xs none asks) X o)
one job x (judged e s t xs ys asks clear v o) =
    let w = claim_some e (claim_text asks.bodies) ys asks.claim in
    decided job e s t xs (some ys) asks _ (ap (solve_task asks.bodies.head.pieces (asked job e s t xs (some ys) asks)) w.1
    ∙ task_verdict asks.bodies.head.pieces (asked job e s t xs (some ys) asks) s t xs (asked_reads job e s t xs (some ys) asks) w.0 ys
    (lists.labels_read e w.0 ys w.2) clear v o)

pub outcome_exactly : (job : List ℕ) (x : Outcome Reply) → (solve_job job ≡ x) ↔ JobOutcome job x
outcome_exactly job x = (λ (e : solve_job job ≡ x). subst (JobOutcome job) e (outcome job), one job x)

pub printed_exactly : (job out : List ℕ) → (printed job ≡ out) ↔ ((x : Outcome Reply) × JobOutcome job x × (printed_of x ≡ out))
unfolding printed
printed_exactly job out = (
  λ (e : printed job ≡ out). (solve_job job, outcome job, e),
  λ (w : (x : Outcome Reply) × JobOutcome job x × (printed_of x ≡ out)). ap printed_of (one job w.0 w.1) ∙ w.2,
)
