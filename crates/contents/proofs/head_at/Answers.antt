-- `contents::head_at` meets its contract: line by line. Assumes nothing.
use Rattle.std.proofs.Common.{◌∙◌, ap}
use Rattle.trees.specs.Words.{bytes_of}
use Rattle.contents.specs.Contents.{line, stated_at}
use Rattle.contents.proofs.StepLaws.{head_steps}
use Rattle.contents.proofs.head_at.Goals as goal

pub returns : goal.returns
unfolding line bytes_of
returns c =
    rw (c.is_some.ensures, c.is_some-2.ensures, c.unwrap_or-2.ensures)
    (head_steps c.args.job.now _ _ _ c.word_after-strict.ensures
    (c.stated_at-edition.ensures ∙ ap (stated_at c.args.job.now) c.unwrap_or.ensures) c.word_after-pieces.ensures)
