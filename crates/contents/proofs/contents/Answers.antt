-- `contents::contents` meets its contract: the steps after the lines of the bodies. Assumes nothing.
use Rattle.std.proofs.Common.{rules}
use Rattle.contents.specs.Contents.{line}
use Rattle.contents.proofs.ChainLaws.{contents_of, contents_steps}
use Rattle.contents.proofs.contents.Goals as goal

pub returns-in_err-begin : goal.returns-in_err-begin
unfolding contents_of line
returns-in_err-begin c =
    rw (
      contents_steps c.args.job.now,
      ← c.head_at-front.ensures,
      ← c.line_after.ensures,
      c.in_ok-first.was,
      ← c.line_after-2.ensures,
      c.in_ok-second.was,
      ← c.line_after-3.ensures,
      c.in_ok-list.was,
      ← c.line_after-4.ensures,
      c.in_ok-claim.was,
      ← c.claim_allowed.ensures,
      c.if-not-claim_allowed.false,
      ← c.word_after.ensures,
      c.in_err-begin.was,
    )
    (search rules)

pub returns : goal.returns
unfolding contents_of line
returns c =
    rw (
      contents_steps c.args.job.now,
      ← c.head_at-front.ensures,
      ← c.line_after.ensures,
      c.in_ok-first.was,
      ← c.line_after-2.ensures,
      c.in_ok-second.was,
      ← c.line_after-3.ensures,
      c.in_ok-list.was,
      ← c.line_after-4.ensures,
      c.in_ok-claim.was,
      ← c.claim_allowed.ensures,
      c.if-not-claim_allowed.false,
      ← c.word_after.ensures,
      c.in_ok-begin.was,
    )
    c.bodies_at.ensures
