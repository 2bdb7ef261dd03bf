-- `job::result_lines` meets its contract: with the pieces or without. Assumes nothing.
use mathlib.Core.Path.{◌∙◌, ap}
use mathlib.Core.List.{List}
use Prim.Native.Nat.{ℕ}
use lib.ListN.{length}
use Rattle.lines.specs.Output.{line_answer, line_output}
use Rattle.job.proofs.AnswerLaws.{lines_divided, lines_plain}
use Rattle.job.proofs.result_lines.Goals as goal

pub returns-then-pieces : goal.returns-then-pieces
returns-then-pieces c =
    let h = c.divided_lines.ensures in let a = c.args in let e = lines_divided a.pieces a.first.now a.res a.tree.now c.if-pieces.true in
    record {
      answer = h.answer ∙ ap (λ (l : List ℕ). line_answer l (length a.out.now)) e;
      output = h.output ∙ ap (λ (l : List ℕ). line_output l a.out.now) e;
    }

pub returns : goal.returns
returns c =
    let h = c.set_lines.ensures in let a = c.args in let e = lines_plain a.pieces a.first.now a.res a.tree.now c.if-pieces.false in
    record {
      answer = h.answer ∙ ap (λ (l : List ℕ). line_answer l (length a.out.now)) e;
      output = h.output ∙ ap (λ (l : List ℕ). line_output l a.out.now) e;
    }
