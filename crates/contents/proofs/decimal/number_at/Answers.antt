-- `contents::decimal::number_at` meets its contract: no digit, too many, a leading zero, or a number. Assumes nothing.
use Rattle.std.proofs.Common.{ℕ, ◌<◌, ap, arith, length, length-drop}
use Rattle.std.proofs.lemmas.Grind.{common_steps}
use Rattle.contents.specs.Contents.{good_digits, number_of_run, number_at}
use Rattle.contents.proofs.RunLaws.{run_inside}
use Rattle.contents.proofs.decimal.number_at.Goals as goal

pub returns-then-is_empty : goal.returns-then-is_empty
unfolding good_digits number_of_run number_at
returns-then-is_empty c = grind (arith, common_steps)

pub returns-then-digits-eq48 : goal.returns-then-digits-eq48
unfolding good_digits number_of_run number_at
returns-then-digits-eq48 c = grind (arith, common_steps)

pub overflow_add-result : goal.overflow_add-result
overflow_add-result c =
    let some_digit : 0 < length c.leading_digits-digits.result.now = grind (arith, common_steps) in
    omega (
      arith,
      ap (length {A = ℕ}) c.leading_digits-digits.ensures,
      ap (length {A = ℕ}) c.rest.ensures,
      run_inside c.rest.result.now,
      length-drop c.args.at c.args.job.now,
    )

pub returns : goal.returns
unfolding good_digits number_of_run number_at
returns c = grind (arith, common_steps)
