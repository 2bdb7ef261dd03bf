-- What is printed for a job, from the answer to it. Assumes nothing.
use Prim.Native.Nat.{ℕ}
use mathlib.Core.Path.{◌≡◌, refl, sym, ◌∙◌, ap, subst}
use mathlib.Core.List.{List}
use native.Mathlib.Omega.{arith}
use lib.ListN.{length}
use Rattle.trees.specs.declared.Reason.TheVariants.{TooShort}
use Rattle.trees.specs.declared.Refusal.{Refusal}
use Rattle.trees.specs.Refusals.{number_of}
use Rattle.pairs.specs.Outcome.{Outcome, refused, naming, found}
use Rattle.mast.specs.declared.Denied.{Denied}
use Rattle.mast.specs.declared.Denied.TheVariants.{Refused}
use Rattle.std.specs.Prelude.{Result, Ok, Err}
use Rattle.job.specs.Printed.{Reply, reply_lines, printed_of, printed, solve_job}
use Rattle.lines.specs.Lines.{refused_line}
use Rattle.lines.specs.Output.{line_answer, line_output}
use Rattle.job.specs.Answered.{begin_in, answered, answer_to, job_output}
use Rattle.job.proofs.RecordLaws.{Names, record_written, record_refused, record_no_names}
use Rattle.job.proofs.NineLaws.{job_fits}

module _ (job out : List ℕ) where
  abbrev room : ℕ
  room = length out

  abbrev told : Outcome Reply → Result ℕ Denied
  told x = answered (begin_in job) room x

  pub printed_lines : (n : ℕ) → answer_to job room ≡ Ok n
      → (Ok n ≡ line_answer (printed job) room) × (job_output (solve_job job) out ≡ line_output (printed job) out)
  unfolding answer_to answered printed printed_of job_output
  printed_lines n e = go (solve_job job) e
    where
      go : (x : Outcome Reply) → told x ≡ Ok n
          → (Ok n ≡ line_answer (printed_of x) room) × (job_output x out ≡ line_output (printed_of x) out)
      go (found x) h = (record_written (reply_lines x) room n h, refl)
      go (naming q m) h = let z : ◌≡◌ {A = ℕ} 0 1 = cc in absurd (omega arith)
      go (refused q) h = let z : ◌≡◌ {A = ℕ} 0 1 = cc in absurd (omega arith)

  -- where labels are named the output keeps every byte
  pub output_named : (y : Result ℕ Denied) → answer_to job room ≡ y → Names y → job_output (solve_job job) out ≡ out
  unfolding answer_to answered job_output
  output_named y e k = go (solve_job job) (subst Names (sym e) k)
    where
      go : (x : Outcome Reply) → Names (told x) → job_output x out ≡ out
      go (found x) h = absurd (record_no_names (reply_lines x) room h)
      go (naming q n) h = refl
      go (refused q) h = refl

  module _ (q : Refusal) (e : answer_to job room ≡ Err (Refused q)) where
    -- the output was too short for the lines
    pub printed_nine : q.reason ≡ TooShort
        → (Err q ≡ line_answer (printed job) room) × (job_output (solve_job job) out ≡ line_output (printed job) out)
    unfolding answer_to answered printed printed_of job_output number_of
    printed_nine n = go (solve_job job) refl e
      where
        go : (x : Outcome Reply) → solve_job job ≡ x → told x ≡ Err (Refused q)
            → (Err q ≡ line_answer (printed_of x) room) × (job_output x out ≡ line_output (printed_of x) out)
        go (found x) k h = ((record_refused (reply_lines x) room q h).0, refl)
        go (naming p m) k h = let z : ◌≡◌ {A = ℕ} 0 1 = cc in absurd (omega arith)
        go (refused p) k h =
            let g : p ≡ q = cc in
            absurd (job_fits job p k (ap (λ (r : Refusal). number_of r.reason) g ∙ ap number_of n))

    -- any other is printed
    pub printed_refusal : (q.reason ≡ TooShort → ⊥) → (refused_line q ≡ printed job) × (job_output (solve_job job) out ≡ out)
    unfolding answer_to answered printed printed_of job_output
    printed_refusal n = go (solve_job job) e
      where
        go : (x : Outcome Reply) → told x ≡ Err (Refused q) → (refused_line q ≡ printed_of x) × (job_output x out ≡ out)
        go (found x) h = absurd (n (record_refused (reply_lines x) room q h).1)
        go (naming p m) h = let z : ◌≡◌ {A = ℕ} 0 1 = cc in absurd (omega arith)
        go (refused p) h = let g : p ≡ q = cc in (ap refused_line (sym g), refl)
