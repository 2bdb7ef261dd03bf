-- `largest_in_pieces` meets its contract. Assumes nothing.
use mathlib.Core.Path.{◌∙◌, refl, sym, ap, subst}
use lib.ListN.{length}
use Rattle.std.proofs.lemmas.Result.{err_from_is_err_and}
use Rattle.pairs.specs.Outcome.{Outcome}
use Rattle.mast.specs.Largest.{Solution, largest_of, output_of}
use Rattle.mast.specs.PiecesWith.{PiecesWith}
use Rattle.mast.proofs.DeniedLaws.{refused_result}
use Rattle.mast.proofs.PieceLaws.{pieces_refused}
use Rattle.mast.proofs.WayLaws.{solve_stopped, solve_unlisted, solve_listed}
use Rattle.mast.proofs.SolutionLaws.{refused_output}
use Rattle.mast.proofs.largest_in_pieces.Goals as goal

pub returns-in_err-pair : goal.returns-in_err-pair
returns-in_err-pair c =
    let a = c.args in
    let w = solve_stopped _ (length a.out.now) _ c.in_err-pair.ensures in
    let r = err_from_is_err_and c.from_residual.result c.from_residual.ensures.1 in
    record {
      answer = rw (r.1, r.2) (refused_result _ _ _ w);
      output = refused_output _ a.out.now _ w;
      pieces = λ on. rw r.1 (pieces_refused _ _ _ w refl);
    }

pub returns-in_err-places : goal.returns-in_err-places
returns-in_err-places c =
    let a = c.args in
    let w = solve_unlisted _ (length a.out.now) _ c.in_ok-pair.ensures.1 _ c.in_err-places.ensures in
    let r = err_from_is_err_and c.from_residual-in_err-places.result c.from_residual-in_err-places.ensures.1 in
    record {
      answer = rw (r.1, r.2) (refused_result _ _ _ w);
      output = refused_output _ a.out.now _ w;
      pieces = λ on. rw r.1 (pieces_refused _ _ _ w refl);
    }

pub returns : goal.returns
returns c =
    let a = c.args in
    let p = c.in_ok-pair.ensures in
    let list = c.in_ok-places.ensures in
    let w = solve_listed _ (length a.out.now) _ p.1 _ list.1 in
    record {
      answer = c.answer.ensures.answer p.0 list.0 ∙ ap largest_of (sym w);
      output = c.answer.ensures.output p.0 list.0 ∙ ap (λ (x : Outcome Solution). output_of x a.out.now) (sym w);
      pieces = λ on.
          subst (λ (x : Outcome Solution). PiecesWith x c.answer.result) (sym w) (c.answer.ensures.pieces on p.0 list.0);
    }
