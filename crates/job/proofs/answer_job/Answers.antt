-- `job::answer_job` meets its contract: 11, then 10, then the answer to the bodies. Assumes nothing.
use Rattle.job.proofs.AnswerLaws.{job_long, job_broken, answered_refused, output_refused}
use Rattle.job.specs.Answered.{answer_to}
use mathlib.Core.Path.{◌∙◌, sym, ap}
use Rattle.std.specs.Prelude.{Err}
use native.Mathlib.Omega.{arith}
use Rattle.job.proofs.answer_job.Goals as goal

pub returns-then-job-gt-JOB_LIMIT-clause-answer : goal.returns-then-job-gt-JOB_LIMIT-clause-answer
unfolding answer_to
returns-then-job-gt-JOB_LIMIT-clause-answer c =
    let f = job_long c.args.job.now c.if-job-gt-JOB_LIMIT.true in
    ap Err c.job_refusal.ensures ∙ answered_refused _ _ _ _ f

pub returns-then-job-gt-JOB_LIMIT-clause-output : goal.returns-then-job-gt-JOB_LIMIT-clause-output
unfolding answer_to
returns-then-job-gt-JOB_LIMIT-clause-output c =
    let f = job_long c.args.job.now c.if-job-gt-JOB_LIMIT.true in
    output_refused _ _ _ f

pub returns-in_default-clause-answer : goal.returns-in_default-clause-answer
unfolding answer_to
returns-in_default-clause-answer c =
    let f = job_broken c.args.job.now (omega arith) (sym
    c.in_default.is ∙ c.contents.ensures) in
    ap Err c.job_refusal-in_default.ensures ∙ answered_refused _ _ _ _ f

pub returns-in_default-clause-output : goal.returns-in_default-clause-output
unfolding answer_to
returns-in_default-clause-output c =
    let f = job_broken c.args.job.now (omega arith) (sym
    c.in_default.is ∙ c.contents.ensures) in
    output_refused _ _ _ f
