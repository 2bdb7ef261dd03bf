-- `job::print_job` meets its contract: each kind of answer gives what is printed. Assumes nothing.
use denote.Enum.Bare.{same_true, same_false}
use borrow.Author.Rules.{rules}
use mathlib.Core.Path.{◌∙◌, sym, ap, ap₂}
use lib.ListN.{length}
use Rattle.std.specs.Prelude.{Err}
use Rattle.trees.specs.contracts.Reason.{the_type}
use Rattle.lines.specs.Output.{line_answer, line_output}
use Rattle.job.proofs.ClashLaws.{naming_line_lem}
use Rattle.job.proofs.PrintLaws.{printed_lines, output_named, printed_nine, printed_refusal}
use Rattle.job.proofs.print_job.Goals as goal

pub returns-then-eq : goal.returns-then-eq
returns-then-eq c =
    let e = sym c.in-Err-Refused.ensures.answer ∙ ap Err c.in-Err-Refused.field-0-is in
    let r = same_true the_type (search rules) _ _ (sym c.eq.ensures ∙ c.if-eq.true) in
    let p = printed_nine c.args.job.now c.args.out.now _ e r in
    record { answer = p.0; output = c.answer_job.ensures.output ∙ p.1 }

pub returns-in-Ok : goal.returns-in-Ok
returns-in-Ok c =
    let p = printed_lines c.args.job.now c.args.out.now _ (sym c.in-Ok.ensures.answer) in
    record { answer = p.0; output = c.answer_job.ensures.output ∙ p.1 }

pub returns-in-Err-Naming : goal.returns-in-Err-Naming
returns-in-Err-Naming c =
    let line = c.naming_line.ensures in let e = sym c.in-Err-Naming.ensures.answer ∙ ap Err c.in-Err-Naming.field-0-is in
    let text = naming_line_lem c.args.job.now (length c.args.out.now) _ _ e in
    let same = c.answer_job.ensures.output ∙ output_named c.args.job.now c.args.out.now _ e tt in
    record { answer = line.answer ∙ ap₂ line_answer text (ap length same); output = line.output ∙ ap₂ line_output text same }

pub returns-else-eq : goal.returns-else-eq
returns-else-eq c =
    let line = c.refusal_line.ensures in let e = sym c.in-Err-Refused.ensures.answer ∙ ap Err c.in-Err-Refused.field-0-is in
    let p = printed_refusal c.args.job.now c.args.out.now _ e (same_false the_type _ _ (sym c.eq.ensures ∙ c.if-eq.false)) in
    let same = c.answer_job.ensures.output ∙ p.1 in
    record { answer = line.answer ∙ ap₂ line_answer p.0 (ap length same); output = line.output ∙ ap₂ line_output p.0 same }
