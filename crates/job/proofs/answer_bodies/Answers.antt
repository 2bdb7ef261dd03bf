-- `job::answer_bodies` meets its contract: the engine's answer is that of the job. Assumes nothing.
use Rattle.job.proofs.AnswerLaws.{told_as, denied_near, denied_answered, denied_kept}
use Rattle.job.proofs.AnswerLaws.{answered_found, output_found}
use Rattle.lines.specs.Output.{line_output}
use Rattle.job.proofs.RecordLaws.{record_told}
use Rattle.job.specs.Answered.{lines_answer, record_answer}
use Rattle.job.specs.Printed.{solved}
use Rattle.std.proofs.lemmas.Result.{err_from_is_err_and}
use mathlib.Core.Path.{◌∙◌, ap}
use mathlib.Core.List.{List}
use lib.ListN.{length, length-take}
use native.Mathlib.Omega.{arith}
use Prim.Native.Nat.{ℕ}
use Rattle.job.proofs.answer_bodies.Goals as goal

pub slice_bounds-tree-end : goal.slice_bounds-tree-end
slice_bounds-tree-end c =
    let l = c.in-Ok.ensures in (told_as _ _ _ _ l.answer l.output l.pieces).inside

pub slice_bounds-text-end : goal.slice_bounds-text-end
slice_bounds-text-end c =
    let l = c.in-Ok.ensures in let f = told_as _ _ _ _ l.answer l.output l.pieces in
    omega (arith, f.inside, length-take c.in-Ok.divided.length c.largest_in_pieces.new.out)

pub returns-in_err-result_lines-in-Ok : goal.returns-in_err-result_lines-in-Ok
unfolding lines_answer
returns-in_err-result_lines-in-Ok c =
    let l = c.in-Ok.ensures in let f = told_as _ _ _ _ l.answer l.output l.pieces in
    let h = c.in_err-result_lines-in-Ok.ensures in let out = c.args.out.now in
    let r = err_from_is_err_and c.from_residual.result c.from_residual.ensures.1 in
    record {
      answer = rw (r.1, r.2) (record_told _ _ h.answer ∙ ap (λ (t : List ℕ). record_answer t (length out)) f.lines
          ∙ answered_found _ _ _ (solved c.args.pieces f.of) f.is);
      output = h.output ∙ ap (λ (t : List ℕ). line_output t out) f.lines ∙ output_found _ out (solved c.args.pieces f.of) f.is;
    }

pub returns-in_ok-result_lines-in-Ok : goal.returns-in_ok-result_lines-in-Ok
unfolding lines_answer
returns-in_ok-result_lines-in-Ok c =
    let l = c.in-Ok.ensures in let f = told_as _ _ _ _ l.answer l.output l.pieces in
    let h = c.in_ok-result_lines-in-Ok.ensures in let out = c.args.out.now in
    record {
      answer = record_told _ _ h.answer ∙ ap (λ (t : List ℕ). record_answer t (length out)) f.lines
          ∙ answered_found _ _ _ (solved c.args.pieces f.of) f.is;
      output = h.output ∙ ap (λ (t : List ℕ). line_output t out) f.lines ∙ output_found _ out (solved c.args.pieces f.of) f.is;
    }

pub denied_in-requires : goal.denied_in-requires
denied_in-requires c =
    let l = c.in-Err.ensures in
    denied_near _ _ _ _ _ (told_as _ _ _ _ l.answer l.output l.pieces) _ _ c.requires

pub returns-in-Err : goal.returns-in-Err
returns-in-Err c =
    let l = c.in-Err.ensures in let f = told_as _ _ _ _ l.answer l.output l.pieces in
    record {
      answer = denied_answered _ _ _ _ _ f _ _ _ c.denied_in.ensures;
      output = denied_kept _ _ _ _ _ f _;
    }
