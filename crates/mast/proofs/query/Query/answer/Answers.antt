-- `Query::answer` meets its contract. Assumes nothing.
use mathlib.Core.Path.{refl, sym, ◌∙◌, ap}
use Rattle.std.proofs.lemmas.Result.{err_from_is_err_and}
use Rattle.pairs.specs.Outcome.{Outcome}
use Rattle.pairs.specs.PairRead.{trees_in}
use Rattle.mast.specs.Largest.{Solution, largest_of, output_of}
use Rattle.mast.proofs.SolutionLaws.{set_by_rank, rank_range, answered_set, answered_denied, denied_output, denied_pieces}
use Rattle.mast.proofs.PieceLaws.{pieces_fitted, pieces_unfitted}
use Rattle.mast.proofs.query.Query.answer.Goals as goal

pub solution-requires : goal.solution-requires
solution-requires c =
    let p = c.requires in (p.0.few, rank_range p.0)

pub returns-in_err-settled : goal.returns-in_err-settled
returns-in_err-settled c =
    let a = c.args in
    let r = err_from_is_err_and c.from_residual.result c.from_residual.ensures.1 in
    record {
      answer = λ b l. rw (r.1, r.2) (answered_denied a.self.now.edition (trees_in b) l.xs a.out.now _ (c.in_err-settled.ensures b l));
      output = λ b l. denied_output a.self.now.edition (trees_in b) l.xs a.out.now _ (c.in_err-settled.ensures b l);
      pieces = λ on b l. denied_pieces a.self.now.edition (trees_in b) l.xs a.out.now _ (c.in_err-settled.ensures b l) _ (rw r.1 refl);
    }

pub returns-in_err-found : goal.returns-in_err-found
returns-in_err-found c =
    let a = c.args in
    let r = err_from_is_err_and c.from_residual-in_err-found.result c.from_residual-in_err-found.ensures.1 in
    record {
      answer = λ b l.
          let w = c.in_ok-settled.ensures b l in
          rw (r.1, r.2) (c.in_err-found.ensures.answer b.s b.t l.xs _ (set_by_rank b)
          ∙ ap largest_of (sym (answered_set a.self.now.edition (trees_in b) l.xs a.out.now _ w.set)));
      output = λ b l.
          let w = c.in_ok-settled.ensures b l in
          c.in_err-found.ensures.output b.s b.t l.xs _ (set_by_rank b)
          ∙ ap (λ (x : Outcome Solution). output_of x a.out.now) (sym (answered_set a.self.now.edition (trees_in b) l.xs a.out.now _ w.set));
      pieces = λ on b l.
          let w = c.in_ok-settled.ensures b l in
          pieces_unfitted _ _ _ (answered_set a.self.now.edition (trees_in b) l.xs a.out.now _ w.set) _
          (c.in_err-found.ensures.answer b.s b.t l.xs _ (set_by_rank b)) _ (rw r.1 refl);
    }

pub returns : goal.returns
returns c =
    let a = c.args in
    record {
      answer = λ b l.
          let w = c.in_ok-settled.ensures b l in
          c.in_ok-found.ensures.answer b.s b.t l.xs _ (set_by_rank b)
          ∙ ap largest_of (sym (answered_set a.self.now.edition (trees_in b) l.xs a.out.now _ w.set));
      output = λ b l.
          let w = c.in_ok-settled.ensures b l in
          c.in_ok-found.ensures.output b.s b.t l.xs _ (set_by_rank b)
          ∙ ap (λ (x : Outcome Solution). output_of x a.out.now) (sym (answered_set a.self.now.edition (trees_in b) l.xs a.out.now _ w.set));
      pieces = λ on b l.
          let w = c.in_ok-settled.ensures b l in
          pieces_fitted _ _ _ (answered_set a.self.now.edition (trees_in b) l.xs a.out.now _ w.set) _
          (c.in_ok-found.ensures.answer b.s b.t l.xs _ (set_by_rank b)) _
          (c.pieces_if.ensures on a.self.now.edition b.s b.t l.xs _ w.asked w.set);
    }
