-- `job::answer_claim` meets its contract: what is said of the claim is the answer to the job. Assumes nothing.
use Rattle.job.proofs.AnswerLaws.{said_as, denied_near, denied_answered, denied_kept}
use Rattle.job.proofs.AnswerLaws.{answered_found, output_found}
use Rattle.job.specs.Answered.{lines_answer}
use Rattle.job.specs.Printed.{passed, reply_lines}
use Rattle.job.proofs.RecordLaws.{record_told}
use Rattle.std.proofs.lemmas.Result.{err_from_is_err_and}
use mathlib.Core.Path.{◌∙◌}
use Rattle.job.proofs.answer_claim.Goals as goal

pub returns-in_err-claim_line-in-Ok : goal.returns-in_err-claim_line-in-Ok
unfolding lines_answer reply_lines
returns-in_err-claim_line-in-Ok c =
    let f = said_as _ _ _ c.in-Ok.ensures in
    let h = c.in_err-claim_line-in-Ok.ensures in
    let r = err_from_is_err_and c.from_residual.result c.from_residual.ensures.1 in
    record {
      answer = rw (r.1, r.2) (record_told _ _ h.answer ∙ answered_found _ _ _ (passed _) f);
      output = h.output ∙ output_found _ _ (passed _) f;
    }

pub returns-in_ok-claim_line-in-Ok : goal.returns-in_ok-claim_line-in-Ok
unfolding lines_answer reply_lines
returns-in_ok-claim_line-in-Ok c =
    let f = said_as _ _ _ c.in-Ok.ensures in
    let h = c.in_ok-claim_line-in-Ok.ensures in
    record {
      answer = record_told _ _ h.answer ∙ answered_found _ _ _ (passed _) f;
      output = h.output ∙ output_found _ _ (passed _) f;
    }

pub denied_in-requires : goal.denied_in-requires
denied_in-requires c = denied_near _ _ _ _ _ (said_as _ _ _ c.in-Err.ensures) _ _ c.requires

pub returns-in-Err : goal.returns-in-Err
returns-in-Err c =
    let f = said_as _ _ _ c.in-Err.ensures in
    record {
      answer = denied_answered _ _ _ _ _ f _ _ _ c.denied_in.ensures;
      output = denied_kept _ _ _ _ _ f _;
    }
