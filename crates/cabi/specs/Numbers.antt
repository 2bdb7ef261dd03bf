-- The numbers that a host receives. 01, "Why a job is turned down".
use Rattle.std.specs.Prelude.{ℕ, cond, ◌||◌, List, eqb, ltb, leb, length, Result, Ok, Err}
use Rattle.trees.specs.declared.Reason.TheVariants.{Contents}
use Rattle.trees.specs.declared.Body.TheVariants.{J}
use Rattle.trees.specs.declared.Refusal.{Refusal}
use Rattle.trees.specs.Refusals.{number_of, letter_of}
use Rattle.trees.specs.declared.Edition.TheVariants.{One, Two}
use Rattle.mast.specs.declared.Denied.{Denied}
use Rattle.mast.specs.declared.Denied.TheVariants.{Naming, Refused}
use Rattle.mast.specs.declared.Named.{Named}
use Rattle.pairs.specs.declared.Options.{Options}
use Rattle.pairs.specs.Outcome.{Outcome, refused, naming, found, and_then}
use Rattle.mast.specs.NamedLabels.{named_of}
use Rattle.queries.specs.Query.{task}
use Rattle.mast.specs.Largest.{Solution, solution_text, solve}
use Rattle.claims.specs.Judge.{judge}
use Rattle.cabi.specs.declared.AgreeResult.{AgreeResult}

-- success: number 0, with the size of the set and the length of the text
unfoldable pub succeeded : ℕ → ℕ → AgreeResult
succeeded size length =
    record { number = 0; letter = 0; place = 0; size = size; length = length; first = 0; second = 0; third = 0 }

-- a row that names labels, 8 or 14 (C-16), with the places of the three
unfoldable pub naming_with : Refusal → ℕ → ℕ → ℕ → AgreeResult
unfolding number_of letter_of
naming_with q a b c =
    record {
      number = number_of q.reason;
      letter = letter_of q.body;
      place = q.place;
      size = 0;
      length = 0;
      first = a;
      second = b;
      third = c;
    }

abbrev pub named_with : Refusal → Named → AgreeResult
named_with q n = naming_with q n.first.place n.second.place n.third.place

-- any other row: number, letter and place
abbrev pub refused_with : Refusal → AgreeResult
refused_with q = naming_with q 0 0 0

-- a refusal, with the places of the labels that it names
abbrev pub denied_with : Denied → AgreeResult
denied_with (Naming q n) = named_with q n
denied_with (Refused q) = refused_with q

-- for any outcome; the places are in the list for 8 and in the claim for 14
unfoldable pub numbers_for : {A : Type 0} → (A → AgreeResult) → Outcome A → AgreeResult
unfolding naming_with named_of
numbers_for given (found x) = given x
numbers_for given (naming q n) = named_with q (named_of n)
numbers_for given (refused q) = refused_with q

-- for two trees and a list
unfoldable pub numbers_of : Outcome Solution → AgreeResult
unfolding numbers_for succeeded solution_text
numbers_of x = numbers_for (λ r. succeeded (length r.set) (length (solution_text r))) x

-- C-16, for a claim: its size
unfoldable pub claim_numbers : Outcome ℕ → AgreeResult
unfolding numbers_for succeeded
claim_numbers x = numbers_for (λ n. succeeded n 0) x

-- for a job: the length of its lines, the first of which has the size; the places of 8 are in the job's list, those of 14 in its claim
unfoldable pub job_numbers : Result ℕ Denied → AgreeResult
unfolding succeeded naming_with
job_numbers (Ok n) = succeeded 0 n
job_numbers (Err d) = denied_with d

-- unknown flags are refused with 10, J 0
abbrev pub unknown_flags : Refusal
unknown_flags = record { reason = Contents; body = J; place = 0 }

-- an outcome as the code returns it: options, or a refusal that names no label
abbrev pub outcome_of : Result Options Refusal → Outcome Options
outcome_of (Ok o) = found o
outcome_of (Err q) = refused q

-- the options of the flags: 1 is `strict` (C-11), 2 edition 2 (C-15), 3 both; a greater number is unknown
unfoldable pub options_of : ℕ → Outcome Options
options_of flags =
    cond (leb flags 3) (found (record { strict = eqb flags 1 || eqb flags 3; edition = cond (ltb flags 2) One Two })) (refused unknown_flags)

unfoldable pub solve_with : ℕ → List ℕ → List ℕ → List ℕ → ℕ → Outcome Solution
unfolding and_then options_of solve
solve_with flags first second required room = and_then (options_of flags) (λ o. solve (task o first second required) room)

unfoldable pub judge_with : ℕ → List ℕ → List ℕ → List ℕ → List ℕ → Outcome ℕ
unfolding and_then options_of judge
judge_with flags first second required claim = and_then (options_of flags) (λ o. judge (task o first second required) claim)
