-- What a program that takes at most one byte over the limit in and writes the answer's part out has printed. Assumes nothing.
use Prim.Native.Nat.{ℕ, ◌+◌, ◌≤◌, ◌<◌}
use mathlib.Core.Path.{◌≡◌, refl, sym, ◌∙◌, ap}
use mathlib.Core.Bool.{true, false}
use mathlib.Core.Logic.{◌⊎◌, inl, inr}
use mathlib.Core.List.{List}
use native.Mathlib.Omega.{arith}
use lib.Dec.{leb}
use lib.ListN.{length, take, length-take}
use lib.Seq.{take_all}
use borrow.Author.Tests.{leb-true, leb-false}
use Rattle.trees.proofs.Bools.{bool_cases}
use Rattle.pairs.specs.Outcome.{Outcome, refused, naming, found}
use Rattle.job.specs.Printed.{Reply, solved, passed, job_limit, solve_job, printed_of, printed}
use Rattle.lines.specs.PieceLines.{lines_room}
use Rattle.lines.specs.Output.{line_answer, line_output, written_part}
use Rattle.job.proofs.AnswerLaws.{job_long}
use Rattle.job.proofs.DemandLaws.{Meant, job_meant, eight_writable, fourteen_writable}
use Rattle.job.proofs.DividedLaws.{set_room}
use Rattle.job.proofs.ShownLaws.{claim_printed, naming_printed, refused_printed}
use Rattle.lines.proofs.OutputLaws.{written_whole}
use Rattle.lines.proofs.ShortLaws.{refusal_short, three_short, claim_short}

-- ---- one byte over the limit is enough

pub kept_printed : (input : List ℕ) → printed (take (job_limit + 1) input) ≡ printed input
unfolding printed
kept_printed input = go (bool_cases (leb (length input) (job_limit + 1)))
  where
    go : (leb (length input) (job_limit + 1) ≡ true) ⊎ (leb (length input) (job_limit + 1) ≡ false)
        → printed_of (solve_job (take (job_limit + 1) input)) ≡ printed_of (solve_job input)
    go (inl h) =
        ap (λ (l : List ℕ). printed_of (solve_job l)) (take_all (job_limit + 1) input (leb-true (length input) (job_limit + 1) h))
    go (inr h) =
        let long : job_limit + 1 < length input = leb-false (length input) (job_limit + 1) h in
        ap printed_of
        (job_long (take (job_limit + 1) input) (omega (arith, length-take (job_limit + 1) input))
        ∙ sym (job_long input (omega arith)))

-- ---- the lines of any answer are short

module _ (job : List ℕ) where
  short : (x : Outcome Reply) → solve_job job ≡ x → Meant job x → length (printed job) ≤ lines_room
  unfolding printed
  short (found (solved pieces r)) e m = set_room pieces m
  short (found (passed n)) e m = rw (ap printed_of e ∙ claim_printed n) (omega (arith, claim_short n))
  short (naming q n) e (inl m) = rw (ap printed_of e ∙ naming_printed q n) (omega (arith, three_short q _ _ _ (eight_writable m.1)))
  short (naming q n) e (inr m) = rw (ap printed_of e ∙ naming_printed q n) (omega (arith, three_short q _ _ _ (fourteen_writable m.1)))
  short (refused q) e m = rw (ap printed_of e ∙ refused_printed q) (omega (arith, refusal_short q))

  pub printed_short : length (printed job) ≤ lines_room
  printed_short = short (solve_job job) refl (job_meant job)

-- ---- the program

pub program_prints : (input out : List ℕ) → lines_room ≤ length out
    → written_part (line_output (printed (take (job_limit + 1) input)) out) (line_answer (printed (take (job_limit + 1) input)) (length out))
    ≡ printed input
program_prints input out h =
    written_whole (printed (take (job_limit + 1) input)) out (omega (arith, printed_short (take (job_limit + 1) input)))
    ∙ kept_printed input
