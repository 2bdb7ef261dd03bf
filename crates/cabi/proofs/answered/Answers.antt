-- `cabi::answered` meets its contract: each answer of the engine has its numbers. Assumes nothing.
use mathlib.Core.Path.{◌∙◌}
use Rattle.mast.specs.declared.Found.{Found}
use Rattle.mast.specs.Largest.{found_set}
use Rattle.cabi.specs.Numbers.{succeeded, numbers_of}
use Rattle.cabi.proofs.NumberLaws.{told_numbers_lem}
use Rattle.cabi.proofs.answered.Goals as goal

pub returns-in-Ok-clause-numbers : goal.returns-in-Ok-clause-numbers
unfolding numbers_of found_set
returns-in-Ok-clause-numbers c =
    c.succeeded.ensures ∙ told_numbers_lem found_set (λ (f : Found). succeeded f.size f.length) _ _ c.in-Ok.ensures.answer

pub returns-in-Err-clause-numbers : goal.returns-in-Err-clause-numbers
unfolding numbers_of found_set
returns-in-Err-clause-numbers c =
    c.denied_with.ensures ∙ told_numbers_lem found_set (λ (f : Found). succeeded f.size f.length) _ _ c.in-Err.ensures.answer
