-- Number 9 for a job stands only for the caller's output. Assumes nothing.
use Prim.Native.Nat.{ℕ, ◌<◌}
use mathlib.Core.Path.{◌≡◌, refl, ◌∙◌, ap, subst}
use mathlib.Core.List.{List}
use native.Mathlib.Omega.{arith}
use lib.ListN.{length}
use borrow.Author.Tests.{lt-leb}
use Rattle.trees.specs.declared.Refusal.{Refusal}
use Rattle.trees.specs.Refusals.{number_of}
use Rattle.trees.specs.declared.Edition.{Edition}
use Rattle.trees.specs.Token.{Token}
use Rattle.trees.specs.Tree.{Tree}
use Rattle.claims.specs.Claim.{Verdict, claim_first_lacks, claim_second_lacks, claim_lacks, claim_disagrees, claim_small, claim_passes}
use Rattle.claims.specs.Judge.{judgement_of}
use Rattle.std.specs.Prelude.{Err}
use Rattle.mast.specs.declared.Denied.TheVariants.{Refused}
use Rattle.pairs.specs.Outcome.{Outcome, refused, naming, found, and_then}
use Rattle.mast.specs.Largest.{too_short}
use Rattle.job.specs.Printed.{Reply, claim_reply, solve_job, reply_lines, printed_of, printed}
use Rattle.lines.specs.Output.{line_answer}
use Rattle.job.specs.Answered.{lines_answer, record_answer, answered, answer_to, begin_in}
use Rattle.job.specs.JobOutcome.{JobOutcome}
use Rattle.job.specs.JobOutcome.{too_long, no_contents, first_fault, second_fault, list_fault, claim_fault, stray_first, stray_second, first_lacking, second_lacking, three_disagree, largest_set, judged}
use Rattle.job.proofs.OutcomeLaws.{outcome_exactly}
use Rattle.job.proofs.RecordLaws.{record_refused}
use Rattle.job.proofs.RoomLaws.{fault_low, NotNine}

verdict_never_nine : (e : Edition) (s : Tree) (xs ys : List Token) (v : Verdict) → NotNine (and_then (judgement_of e s xs ys v) claim_reply)
unfolding judgement_of and_then number_of
verdict_never_nine e s xs ys (claim_first_lacks n) = λ h. omega arith
verdict_never_nine e s xs ys (claim_second_lacks n) = λ h. omega arith
verdict_never_nine e s xs ys (claim_lacks n) = λ h. omega arith
verdict_never_nine e s xs ys (claim_disagrees a b c) = tt
verdict_never_nine e s xs ys claim_small = λ h. omega arith
verdict_never_nine e s xs ys (claim_passes n) = tt

outcome_never_nine : (job : List ℕ) (x : Outcome Reply) → JobOutcome job x → NotNine x
unfolding number_of
outcome_never_nine job x (too_long h) = λ k. omega arith
outcome_never_nine job x (no_contents h never) = λ k. omega arith
outcome_never_nine job x (first_fault b held r i f) = λ k. omega (arith, fault_low f.here)
outcome_never_nine job x (second_fault b held s p r i f) = λ k. omega (arith, fault_low f.here)
outcome_never_nine job x (list_fault b held s t p q h r i f) = λ k. omega (arith, fault_low f.here)
outcome_never_nine job x (claim_fault b held s t p q h xs l text d r i f) = λ k. omega (arith, fault_low f.here)
outcome_never_nine job x (stray_first b held l s t p q y o) = λ k. omega arith
outcome_never_nine job x (stray_second b held l s t p q y a o) = λ k. omega arith
outcome_never_nine job x (first_lacking e s t xs c asks n o) = λ k. omega arith
outcome_never_nine job x (second_lacking e s t xs c asks n o) = λ k. omega arith
outcome_never_nine job x (three_disagree e s t xs z asks a b c held o) = tt
outcome_never_nine job x (largest_set e s t xs asks X o) = tt
outcome_never_nine job x (judged e s t xs ys asks clear v o) = verdict_never_nine e s xs ys v

job_never_nine : (job : List ℕ) → NotNine (solve_job job)
job_never_nine job = outcome_never_nine job (solve_job job) ((outcome_exactly job (solve_job job)).0 refl)

pub job_fits : (job : List ℕ) (q : Refusal) → solve_job job ≡ refused q → number_of q.reason ≡ 9 → ⊥
job_fits job q e = subst NotNine e (job_never_nine job)

-- number 9 for a job: the output is shorter than the printed lines
pub nine_output : (job : List ℕ) (room : ℕ) (q : Refusal) → answer_to job room ≡ Err (Refused q)
    → number_of q.reason ≡ 9 → room < length (printed job)
unfolding answer_to answered printed printed_of
nine_output job room q e n = go (solve_job job) (job_never_nine job) e
  where
    go : (x : Outcome Reply) → NotNine x → answered (begin_in job) room x ≡ Err (Refused q) → room < length (printed_of x)
    go (found x) k h = (record_refused (reply_lines x) room q h).2
    go (naming p m) k h = let z : ◌≡◌ {A = ℕ} 0 1 = cc in absurd (omega arith)
    go (refused p) k h =
        let g : p ≡ q = cc in
        absurd (k (ap (λ (r : Refusal). number_of r.reason) g ∙ n))

-- and an answer whose lines are longer than the output gets number 9
short_lines : (lines : List ℕ) (room : ℕ) → room < length lines → record_answer lines room ≡ Err (Refused too_short)
unfolding record_answer line_answer lines_answer
short_lines lines room h = rw (lt-leb (length lines) room h) refl

pub short_output : (job : List ℕ) (room : ℕ) → room < length (printed job) → (y : Reply) → solve_job job ≡ found y
    → answer_to job room ≡ Err (Refused too_short)
unfolding answer_to answered printed printed_of
short_output job room h y e =
    ap (answered (begin_in job) room) e ∙ short_lines (reply_lines y) room (subst (λ (x : Outcome Reply). room < length (printed_of x)) e h)
