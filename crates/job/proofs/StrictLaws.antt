-- Number 12 from the bytes of a job, and strict jobs beside those that are not. Assumes nothing.
use Prim.Native.Nat.{ℕ}
use mathlib.Core.Path.{◌≡◌, refl, sym, ◌∙◌, ap}
use mathlib.Core.Logic.{◌↔◌}
use mathlib.Core.List.{List}
use mathlib.Core.Option.{some}
use native.Mathlib.Omega.{arith}
use Rattle.trees.specs.declared.Refusal.{Refusal}
use Rattle.trees.specs.Label.{Label}
use Rattle.trees.specs.declared.Edition.{Edition}
use Rattle.trees.specs.Edition.{keyed}
use Rattle.trees.specs.Token.{Token}
use Rattle.trees.specs.Tree.{Tree}
use Rattle.trees.specs.Refusals.{number_of}
use Rattle.trees.proofs.Bools.{clash}
use Rattle.agreement.specs.Strict.{SameLeaves, IsStray, Stray, in_first, in_second, nowhere, StrayTold, stray_of}
use Rattle.agreement.proofs.Promises.{stray_promise, stray_leaf}
use Rattle.claims.specs.Claim.{Verdict, claim_first_lacks, claim_second_lacks, claim_lacks, claim_disagrees, claim_small, claim_passes}
use Rattle.claims.specs.Judge.{judgement_of}
use Rattle.contents.specs.Contents.{Bodies, part, first_text, second_text, list_text, claim_text}
use Rattle.pairs.specs.Outcome.{Outcome, refused, and_then}
use Rattle.job.specs.Printed.{Reply, claim_reply, task_of, solve_bodies, solve_job}
use Rattle.job.specs.JobOutcome.{TreeBody, JobOutcome, Stopped, without_line, edition_in}
use Rattle.job.specs.JobOutcome.{too_long, no_contents, first_fault, second_fault, list_fault, claim_fault, stray_first, stray_second, first_lacking, second_lacking, three_disagree, largest_set, judged}
use Rattle.job.proofs.OutcomeLaws.{outcome_exactly, body_tree}
use Rattle.job.proofs.RoomLaws.{fault_low}
use Rattle.job.proofs.TaskLaws.{task_strict}

-- a leaf that stands in only one tree tells that the trees have different leaves
stray_differ : (s t : Tree) (x : Label) → IsStray s t x → SameLeaves s t → ⊥
stray_differ s t x h e = clash (sym (e x) ∙ stray_leaf s t x h) h.outside

-- a refusal by its number
told : (q : Refusal) (x : Outcome Reply) (p : Refusal) → x ≡ refused p → x ≡ refused q → number_of p.reason ≡ number_of q.reason
told q x p e f = let g : p ≡ q = cc in ap (λ (r : Refusal). number_of r.reason) g

verdict_no_twelve : (d : Edition) (s : Tree) (xs ys : List Token) (v : Verdict) (q : Refusal) → and_then (judgement_of d s xs ys v) claim_reply ≡ refused q
    → number_of q.reason ≡ 12 → ⊥
unfolding judgement_of and_then number_of
verdict_no_twelve d s xs ys (claim_first_lacks m) q e n = omega (arith, told q _ _ refl e)
verdict_no_twelve d s xs ys (claim_second_lacks m) q e n = omega (arith, told q _ _ refl e)
verdict_no_twelve d s xs ys (claim_lacks m) q e n = omega (arith, told q _ _ refl e)
verdict_no_twelve d s xs ys (claim_disagrees a b c) q e n = let z : ◌≡◌ {A = ℕ} 0 1 = cc in omega arith
verdict_no_twelve d s xs ys claim_small q e n = omega (arith, told q _ _ refl e)
verdict_no_twelve d s xs ys (claim_passes m) q e n = let z : ◌≡◌ {A = ℕ} 0 1 = cc in omega arith

module _ (job : List ℕ) where
  stopped : (x : Outcome Reply) → JobOutcome job x → (q : Refusal) → x ≡ refused q → number_of q.reason ≡ 12 → Stopped job
  unfolding number_of
  stopped x (too_long h) q e n = absurd (omega (arith, told q x _ refl e))
  stopped x (no_contents h never) q e n = absurd (omega (arith, told q x _ refl e))
  stopped x (first_fault b held r i f) q e n = absurd (omega (arith, told q x _ refl e, fault_low f.here))
  stopped x (second_fault b held s p r i f) q e n = absurd (omega (arith, told q x _ refl e, fault_low f.here))
  stopped x (list_fault b held s t p k h r i f) q e n = absurd (omega (arith, told q x _ refl e, fault_low f.here))
  stopped x (claim_fault b held s t p k h xs l text d r i f) q e n = absurd (omega (arith, told q x _ refl e, fault_low f.here))
  stopped x (stray_first b held k s t p d y o) q e n =
      record { bodies = b; held = held; strict = k; s = s; t = t; first = p; second = d; differ = stray_differ (keyed (edition_in b) s) (keyed (edition_in b) t) y o }
  stopped x (stray_second b held k s t p d y a o) q e n =
      record {
        bodies = b;
        held = held;
        strict = k;
        s = s;
        t = t;
        first = p;
        second = d;
        differ = λ h. stray_differ (keyed (edition_in b) t) (keyed (edition_in b) s) y o (λ z. sym (h z));
      }
  stopped x (first_lacking d s t xs c asks m o) q e n = absurd (omega (arith, told q x _ refl e))
  stopped x (second_lacking d s t xs c asks m o) q e n = absurd (omega (arith, told q x _ refl e))
  stopped x (three_disagree d s t xs g asks a b c held o) q e n = let z : ◌≡◌ {A = ℕ} 0 1 = cc in absurd (omega arith)
  stopped x (largest_set d s t xs asks X o) q e n = let z : ◌≡◌ {A = ℕ} 0 1 = cc in absurd (omega arith)
  stopped x (judged d s t xs ys asks clear v o) q e n = absurd (verdict_no_twelve d s xs ys v q e n)

  stops : Stopped job → (q : Refusal) × (solve_job job ≡ refused q) × (number_of q.reason ≡ 12)
  unfolding number_of
  stops w = go (stray_of (keyed (edition_in w.bodies) w.s) (keyed (edition_in w.bodies) w.t)) ((stray_promise (keyed (edition_in w.bodies) w.s) (keyed (edition_in w.bodies) w.t) _).0 refl)
    where
      go : (r : Stray) → StrayTold (keyed (edition_in w.bodies) w.s) (keyed (edition_in w.bodies) w.t) r → (q : Refusal) × (solve_job job ≡ refused q) × (number_of q.reason ≡ 12)
      go (in_first x) h =
          (_, (outcome_exactly job _).1 (stray_first w.bodies w.held w.strict w.s w.t w.first w.second x h), refl)
      go (in_second x) h =
          (_, (outcome_exactly job _).1 (stray_second w.bodies w.held w.strict w.s w.t w.first w.second x h.0 h.1), refl)
      go nowhere h = absurd (w.differ h)

  pub twelve_exactly : ((q : Refusal) × (solve_job job ≡ refused q) × (number_of q.reason ≡ 12)) ↔ Stopped job
  twelve_exactly = (λ k. stopped (solve_job job) ((outcome_exactly job (solve_job job)).0 refl) k.0 k.1 k.2, stops)

-- where both trees hold the same leaves the line changes nothing
pub strict_same : (b : Bodies) (s t : Tree) → TreeBody (edition_in b) (first_text b) s → TreeBody (edition_in b) (second_text b) t
    → SameLeaves (keyed (edition_in b) s) (keyed (edition_in b) t)
    → solve_bodies (some b) ≡ solve_bodies (some (without_line b))
unfolding solve_bodies first_text second_text list_text claim_text part
strict_same b s t p q h =
    task_strict b.head.pieces (task_of b) s t (body_tree (edition_in b) (first_text b) s p) (body_tree (edition_in b) (second_text b) t q) (claim_text b) h
