-- `job::answer_laid` meets its contract: the parts of the job that its contents name, with the claim or without. Assumes nothing.
use Rattle.job.proofs.AnswerLaws.{first_ends, list_ends, claim_ends, begin_is, bodies_base, job_solved, job_judged, answer_is, output_is}
use mathlib.Core.Path.{◌∙◌, ap}
use native.Mathlib.Omega.{arith}
use Prim.Native.Nat.{ℕ}
use lib.ListN.{length}
use Rattle.job.proofs.answer_laid.Goals as goal

pub answer_bodies-requires : goal.answer_bodies-requires
answer_bodies-requires c =
    let a = c.args in record {
      first_ends = omega (
        arith,
        first_ends a.job.now a.table c.requires.table_value,
        c.place_of.ensures,
        ap (length {A = ℕ})
            c.bytes_of-s.ensures,
        c.requires.job_len_bound,
      );
      list_ends = omega (
        arith,
        list_ends a.job.now a.table c.requires.table_value,
        c.place_of-2.ensures,
        ap (length {A = ℕ})
            c.bytes_of-k.ensures,
        c.requires.job_len_bound,
      );
      claim_ends = omega (
        arith,
        claim_ends a.job.now a.table c.requires.table_value,
        c.place_of-3.ensures,
        c.requires.job_len_bound,
      );
    }

pub answer_claim-requires : goal.answer_claim-requires
answer_claim-requires c =
    let a = c.args in record {
      first_ends = omega (
        arith,
        first_ends a.job.now a.table c.requires.table_value,
        c.place_of.ensures,
        ap (length {A = ℕ})
            c.bytes_of-s.ensures,
        c.requires.job_len_bound,
      );
      list_ends = omega (
        arith,
        list_ends a.job.now a.table c.requires.table_value,
        c.place_of-2.ensures,
        ap (length {A = ℕ})
            c.bytes_of-k.ensures,
        c.requires.job_len_bound,
      );
      claim_ends = omega (
        arith,
        claim_ends a.job.now a.table c.requires.table_value,
        c.place_of-3.ensures,
        ap (length {A = ℕ})
            c.bytes_of.ensures,
        c.requires.job_len_bound,
      );
    }

pub returns-in-None : goal.returns-in-None
returns-in-None c =
    let found = c.answer_bodies.ensures in let a = c.args in let t = c.requires.table_value in
    let e = job_solved a.job.now a.table t c.requires.job_len_bound _ c.edition_of.ensures _ _ _ c.bytes_of-s.ensures c.bytes_of-t.ensures
    c.bytes_of-k.ensures c.in-None.is in
    let at = begin_is c.place_of.ensures c.place_of-2.ensures c.place_of-3.ensures ∙ bodies_base a.job.now a.table t in
    record { answer = found.answer ∙ answer_is a.job.now (length a.out.now) at e; output = found.output ∙ output_is a.job.now a.out.now e }

pub returns-in-Some : goal.returns-in-Some
returns-in-Some c =
    let found = c.answer_claim.ensures in let a = c.args in let t = c.requires.table_value in
    let e = job_judged a.job.now a.table t c.requires.job_len_bound _ c.edition_of.ensures _ _ _ c.bytes_of-s.ensures c.bytes_of-t.ensures
    c.bytes_of-k.ensures _ c.in-Some.is _ c.bytes_of.ensures in
    let at = begin_is c.place_of.ensures c.place_of-2.ensures c.place_of-3.ensures ∙ bodies_base a.job.now a.table t in
    record { answer = found.answer ∙ answer_is a.job.now (length a.out.now) at e; output = found.output ∙ output_is a.job.now a.out.now e }
