-- The numbers that a host gets for each outcome. Assumes nothing.
use Prim.Native.Nat.{ℕ, zero, suc, ◌+◌, ◌≤◌, ◌<◌}
use mathlib.Core.Path.{◌≡◌, refl, ◌∙◌, sym, ap}
use mathlib.Core.List.{List}
use lib.Dec.{eqb}
use native.Mathlib.Omega.{arith}
use lib.ListN.{length}
use borrow.Author.Tests.{le-leb, lt-leb}
use Rattle.trees.specs.declared.Body.TheVariants.{K, C}
use Rattle.trees.specs.declared.Refusal.{Refusal}
use Rattle.trees.specs.Label.{Label}
use Rattle.trees.specs.Token.{Token}
use Rattle.trees.specs.Tree.{Tree}
use Rattle.trees.specs.declared.Edition.{Edition}
use Rattle.trees.specs.declared.Edition.TheVariants.{One, Two}
use Rattle.trees.specs.Edition.{keyed}
use Rattle.lists.specs.ReadList.{folded_list, keys_of}
use Rattle.agreement.specs.Closer.{Common}
use Rattle.agreement.specs.Sets.{set_of}
use Rattle.agreement.specs.Places.{place_of_label}
use Rattle.agreement.specs.Answer.{disagree}
use Rattle.agreement.specs.Demand.{IsDisagreement}
use Rattle.contents.specs.Contents.{layout_of, body_place}
use Rattle.pairs.specs.declared.Options.{Options}
use Rattle.pairs.specs.Outcome.{Outcome, refused, naming, found, trio}
use Rattle.mast.specs.NamedLabels.{named_label, named_of}
use Rattle.queries.specs.Query.{Task, task, disagreement, held_by, required_of}
use Rattle.mast.specs.Largest.{solution, solution_text, too_short, solution_of, solve}
use Rattle.mast.specs.Reads.{Reads, SetGiven}
use Rattle.pairs.proofs.StepLaws.{then_refused, then_found}
use Rattle.mast.proofs.Promises as mast
use Rattle.claims.specs.Claim.{IsClaim, claim_disagrees, Clear, VerdictIs}
use Rattle.claims.specs.Judge.{ReadsClaim, claim_disagreement, judge}
use Rattle.claims.proofs.Promises as claims
use Rattle.job.specs.Printed.{Reply, reply_lines}
use Rattle.lines.specs.Output.{line_answer}
use Rattle.job.specs.Answered.{lines_answer, record_answer, base_of, moved_by, answered, begin_in, answer_to}
use Rattle.job.specs.JobOutcome.{JobOutcome}
use Rattle.job.proofs.Promises as job
use Rattle.cabi.specs.Numbers.{succeeded, naming_with, refused_with, numbers_of, claim_numbers, job_numbers, unknown_flags, options_of, solve_with, judge_with}

module _ (q : Task) (room : ℕ) where
  pub refusal_numbers : (p : Refusal) → solve q room ≡ refused p → numbers_of (solve q room) ≡ refused_with p
  unfolding numbers_of
  refusal_numbers p e = ap numbers_of e

  module _ (s t : Tree) (xs : List Token) (reads : Reads q s t xs) where
    pub set_numbers : (X : List Label) → SetGiven q.options.edition s t xs X room
        → numbers_of (solve q room) ≡ succeeded (length X) (length (solution_text (solution q.options.edition s t xs X)))
    unfolding numbers_of
    set_numbers X g = ap numbers_of ((mast.set_promise q room s t xs reads X).1 g)

    pub eight_numbers : (a b c : Label) → Common (keyed q.options.edition s) (keyed q.options.edition t) (set_of (keys_of q.options.edition xs))
        → IsDisagreement (keyed q.options.edition s) (keyed q.options.edition t) (keys_of q.options.edition xs) a b c
        → numbers_of (solve q room) ≡ naming_with disagreement (place_of_label (folded_list q.options.edition xs) 0 a)
        (place_of_label (folded_list q.options.edition xs) 0 b) (place_of_label (folded_list q.options.edition xs) 0 c)
    unfolding numbers_of solution_of required_of held_by
    eight_numbers a b c held d =
        ap numbers_of (mast.outcome_promise q room s t xs reads (disagree a b c) (held, d))

module _ (flags : ℕ) where
  pub unknown : 3 < flags → options_of flags ≡ refused unknown_flags
  unfolding options_of
  unknown h = rw (lt-leb flags 3 h) refl

  module _ (first second required : List ℕ) where
    pub flags_refused : (room : ℕ) → 3 < flags → solve_with flags first second required room ≡ refused unknown_flags
    unfolding solve_with
    flags_refused room h = then_refused (options_of flags) _ unknown_flags (unknown h)

    pub flags_denied : (room : ℕ) (p : Refusal) → refused p ≡ options_of flags → solve_with flags first second required room ≡ refused p
    unfolding solve_with
    flags_denied room p e = then_refused (options_of flags) _ p (sym e)

    pub flags_known : (room : ℕ) (o : Options) → found o ≡ options_of flags
        → solve_with flags first second required room ≡ solve (task o first second required) room
    unfolding solve_with
    flags_known room o e = then_found (options_of flags) _ o (sym e)

    pub claim_flags_refused : (claim : List ℕ) → 3 < flags → judge_with flags first second required claim ≡ refused unknown_flags
    unfolding judge_with
    claim_flags_refused claim h = then_refused (options_of flags) _ unknown_flags (unknown h)

    pub claim_flags_denied : (claim : List ℕ) (p : Refusal) → refused p ≡ options_of flags → judge_with flags first second required claim ≡ refused p
    unfolding judge_with
    claim_flags_denied claim p e = then_refused (options_of flags) _ p (sym e)

    pub claim_flags_known : (claim : List ℕ) (o : Options) → found o ≡ options_of flags
        → judge_with flags first second required claim ≡ judge (task o first second required) claim
    unfolding judge_with
    claim_flags_known claim o e = then_found (options_of flags) _ o (sym e)

module _ (q : Task) (claim : List ℕ) where
  module _ (s t : Tree) (xs ys : List Token) (read : ReadsClaim q claim s t xs ys) where
    -- a claim that passes
    pub claim_size : IsClaim (keyed q.options.edition s) (keyed q.options.edition t) (keys_of q.options.edition xs) (keys_of q.options.edition ys)
        → claim_numbers (judge q claim) ≡ succeeded (length ys) 0
    unfolding claim_numbers
    claim_size h = ap claim_numbers ((claims.passes_promise q claim s t xs ys read (length ys)).1 (h, refl))

    pub claim_eight : (a b c : Label) → Common (keyed q.options.edition s) (keyed q.options.edition t) (set_of (keys_of q.options.edition xs))
        → IsDisagreement (keyed q.options.edition s) (keyed q.options.edition t) (keys_of q.options.edition xs) a b c
        → claim_numbers (judge q claim) ≡ naming_with disagreement (place_of_label (folded_list q.options.edition xs) 0 a)
        (place_of_label (folded_list q.options.edition xs) 0 b) (place_of_label (folded_list q.options.edition xs) 0 c)
    unfolding claim_numbers
    claim_eight a b c held d = ap claim_numbers (claims.eight_promise q claim s t xs ys read a b c held d)

    pub claim_fourteen : (a b c : Label) → Clear (keyed q.options.edition s) (keyed q.options.edition t) (keys_of q.options.edition xs)
        → VerdictIs (keyed q.options.edition s) (keyed q.options.edition t) (keys_of q.options.edition xs) (keys_of q.options.edition ys)
        (claim_disagrees a b c)
        → claim_numbers (judge q claim) ≡ naming_with claim_disagreement (place_of_label (folded_list q.options.edition ys) 0 a)
        (place_of_label (folded_list q.options.edition ys) 0 b) (place_of_label (folded_list q.options.edition ys) 0 c)
    unfolding claim_numbers
    claim_fourteen a b c clear d = ap claim_numbers ((claims.fourteen_promise q claim s t xs ys read a b c).1 (clear, d))

  pub claim_refusal : (p : Refusal) → judge q claim ≡ refused p → claim_numbers (judge q claim) ≡ refused_with p
  unfolding claim_numbers
  claim_refusal p e = ap claim_numbers e

-- the options of known flags, from the code's test
pub flags_first : (flags : ℕ) → flags < 2
    → ◌≡◌ {A = Outcome Options} (found (record { strict = eqb flags 1; edition = One })) (options_of flags)
unfolding options_of
flags_first zero h = refl
flags_first (suc zero) h = refl
flags_first (suc (suc n)) h = absurd (omega arith)

pub flags_second : (flags : ℕ) → 2 ≤ flags → flags ≤ 3
    → ◌≡◌ {A = Outcome Options} (found (record { strict = eqb flags 3; edition = Two })) (options_of flags)
unfolding options_of
flags_second zero h m = absurd (omega arith)
flags_second (suc zero) h m = absurd (omega arith)
flags_second (suc (suc zero)) h m = refl
flags_second (suc (suc (suc zero))) h m = refl
flags_second (suc (suc (suc (suc n)))) h m = absurd (omega arith)

module _ (bytes : List ℕ) (room : ℕ) where
  told : (x : Outcome Reply) → JobOutcome bytes x → job_numbers (answer_to bytes room) ≡ job_numbers (answered (begin_in bytes) room x)
  unfolding answer_to
  told x o = ap (λ (y : Outcome Reply). job_numbers (answered (begin_in bytes) room y)) ((job.outcome_promise bytes x).1 o)

  -- the lines of a set or of a claim that passes
  pub reply_numbers : (y : Reply) → JobOutcome bytes (found y) → length (reply_lines y) ≤ room
      → job_numbers (answer_to bytes room) ≡ succeeded 0 (length (reply_lines y))
  unfolding answered record_answer lines_answer line_answer job_numbers
  reply_numbers y o h = told (found y) o ∙ rw (le-leb (length (reply_lines y)) room h) refl

  pub nine_numbers : (y : Reply) → JobOutcome bytes (found y) → room < length (reply_lines y)
      → job_numbers (answer_to bytes room) ≡ refused_with too_short
  unfolding answered record_answer lines_answer line_answer job_numbers
  nine_numbers y o h = told (found y) o ∙ rw (lt-leb (length (reply_lines y)) room h) refl

  module _ (e : Edition) (s : Tree) (xs : List Token) (a b c : Label) where
    pub job_eight_numbers : JobOutcome bytes (naming disagreement (trio e s xs a b c))
        → job_numbers (answer_to bytes room)
        ≡ naming_with disagreement (body_place K (layout_of bytes) + place_of_label (folded_list e xs) 0 a)
        (body_place K (layout_of bytes) + place_of_label (folded_list e xs) 0 b) (body_place K (layout_of bytes) + place_of_label (folded_list e xs) 0 c)
    unfolding answered base_of moved_by named_of named_label job_numbers
    job_eight_numbers o = told (naming disagreement (trio e s xs a b c)) o

    -- C-16: 14 with the places of the first three in the job's claim
    pub job_fourteen_numbers : JobOutcome bytes (naming claim_disagreement (trio e s xs a b c))
        → job_numbers (answer_to bytes room)
        ≡ naming_with claim_disagreement (body_place C (layout_of bytes) + place_of_label (folded_list e xs) 0 a)
        (body_place C (layout_of bytes) + place_of_label (folded_list e xs) 0 b) (body_place C (layout_of bytes) + place_of_label (folded_list e xs) 0 c)
    unfolding answered base_of moved_by named_of named_label job_numbers
    job_fourteen_numbers o = told (naming claim_disagreement (trio e s xs a b c)) o

  pub job_refusal_numbers : (q : Refusal) → JobOutcome bytes (refused q) → job_numbers (answer_to bytes room) ≡ refused_with q
  unfolding answered job_numbers
  job_refusal_numbers q o = told (refused q) o
