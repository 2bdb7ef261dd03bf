-- `contents::word_after` meets its contract: other bytes, or these. Assumes nothing.
use Rattle.std.proofs.Common.{◌≡◌, true, drop, refl, ◌∙◌, arith}
use Rattle.contents.specs.Contents.{begins}
use Rattle.contents.proofs.BeginsLaws.{begins_tested}
use Rattle.contents.proofs.StepLaws.{begins_room, word_if}
use Rattle.contents.proofs.word_after.Goals as goal

pub returns-then-not-starts_with : goal.returns-then-not-starts_with
returns-then-not-starts_with c =
    word_if _ _ _ c.args.at refl _ (begins_tested _ _ _ _ c.starts_with.ensures.value c.rest.ensures ∙ c.if-not-starts_with.true)

pub overflow_add-result : goal.overflow_add-result
overflow_add-result c =
    let a = c.args in
    let there : begins a.word.now (drop a.at a.job.now) ≡ true = begins_tested _ _ _ _ c.starts_with.ensures.value c.rest.ensures ∙ c.if-not-starts_with.false in
    omega (arith, begins_room a.word.now a.job.now a.at 18446744073709551615 there (omega arith) (omega arith))

pub returns : goal.returns
returns c =
    word_if _ _ _ c.args.at refl _ (begins_tested _ _ _ _ c.starts_with.ensures.value c.rest.ensures ∙ c.if-not-starts_with.false)
