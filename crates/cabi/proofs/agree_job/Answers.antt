-- `agree_job` meets its contract. Assumes nothing.
use Rattle.cabi.specs.Numbers.{job_numbers}
use mathlib.Core.Path.{◌∙◌, ap}
use Rattle.cabi.proofs.agree_job.Goals as goal

pub returns-in-Ok-clause-numbers : goal.returns-in-Ok-clause-numbers
unfolding job_numbers
returns-in-Ok-clause-numbers c = c.succeeded.ensures ∙ ap job_numbers c.in-Ok.ensures.answer

pub returns-in-Err-clause-numbers : goal.returns-in-Err-clause-numbers
unfolding job_numbers
returns-in-Err-clause-numbers c = c.denied_with.ensures ∙ ap job_numbers c.in-Err.ensures.answer
