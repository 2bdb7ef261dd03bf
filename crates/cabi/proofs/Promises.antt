-- What hosts written in C receive for each outcome, in 01's order. Each theorem cites one name. Assumes nothing.
use Prim.Native.Nat.{ℕ, ◌+◌, ◌≤◌, ◌<◌}
use mathlib.Core.Path.{◌≡◌, refl}
use mathlib.Core.Bool.{Bool, true}
use mathlib.Core.List.{List}
use lib.ListN.{length}
use Rattle.trees.specs.declared.Body.TheVariants.{K, C}
use Rattle.trees.specs.declared.Refusal.{Refusal}
use Rattle.trees.specs.Label.{Label}
use Rattle.trees.specs.Token.{Token}
use Rattle.trees.specs.Tree.{Tree}
use Rattle.trees.specs.declared.Edition.{Edition}
use Rattle.trees.specs.declared.Edition.TheVariants.{One, Two}
use Rattle.trees.specs.Edition.{keyed}
use Rattle.lists.specs.ReadList.{folded_list, keys_of}
use Rattle.agreement.specs.Closer.{Common}
use Rattle.agreement.specs.Sets.{set_of}
use Rattle.agreement.specs.Places.{place_of_label}
use Rattle.agreement.specs.Demand.{IsDisagreement}
use Rattle.contents.specs.Contents.{layout_of, body_place}
use Rattle.pairs.specs.Outcome.{refused, naming, found, trio}
use Rattle.queries.specs.Query.{Task, task, plain, disagreement}
use Rattle.mast.specs.Largest.{Solution, solution, solution_text, too_short, solve}
use Rattle.mast.specs.Reads.{Reads, SetGiven}
use Rattle.claims.specs.Claim.{IsClaim, claim_disagrees, Clear, VerdictIs}
use Rattle.claims.specs.Judge.{ReadsClaim, claim_disagreement, judge}
use Rattle.pairs.specs.declared.Options.{Options}
use Rattle.job.specs.Printed.{solved, passed, set_reply, claim_reply, reply_lines}
use Rattle.lines.specs.Lines.{claim_line}
use Rattle.job.specs.Answered.{answer_to}
use Rattle.job.specs.JobOutcome.{JobOutcome}
use Rattle.cabi.specs.Numbers.{succeeded, naming_with, refused_with, numbers_of, claim_numbers, job_numbers, unknown_flags, options_of, solve_with, judge_with}
use Rattle.cabi.proofs.HostLaws

-- Two trees and a list, with any options. Demand 3: number 0, the size of the answer, the length of its text.
module _ (q : Task) (room : ℕ) where
  module _ (s t : Tree) (xs : List Token) (reads : Reads q s t xs) where
    pub set_promise : (X : List Label) → SetGiven q.options.edition s t xs X room
        → numbers_of (solve q room) ≡ succeeded (length X) (length (solution_text (solution q.options.edition s t xs X)))
    set_promise = HostLaws.set_numbers q room s t xs reads

    -- Number 8 comes with the places of its three labels in the list.
    pub eight_promise : (a b c : Label) → Common (keyed q.options.edition s) (keyed q.options.edition t) (set_of (keys_of q.options.edition xs))
        → IsDisagreement (keyed q.options.edition s) (keyed q.options.edition t) (keys_of q.options.edition xs) a b c
        → numbers_of (solve q room) ≡ naming_with disagreement (place_of_label (folded_list q.options.edition xs) 0 a) (place_of_label (folded_list q.options.edition xs) 0 b)
        (place_of_label (folded_list q.options.edition xs) 0 c)
    eight_promise = HostLaws.eight_numbers q room s t xs reads

  -- Any other refusal: its number, letter and place.
  pub refusal_promise : (p : Refusal) → solve q room ≡ refused p → numbers_of (solve q room) ≡ refused_with p
  refusal_promise = HostLaws.refusal_numbers q room

-- Flags: 0 for none, 1 for `strict`, 2 for edition 2, 3 for both. Any other number is refused with 10, J 0.
module _ (first second required : List ℕ) (room : ℕ) where
  pub no_flags : solve_with 0 first second required room ≡ solve (task (plain One) first second required) room
  unfolding solve_with
  no_flags = refl

  pub strict_flag : solve_with 1 first second required room ≡ solve (task (record { strict = true; edition = One }) first second required) room
  unfolding solve_with
  strict_flag = refl

  pub edition_flag : solve_with 2 first second required room ≡ solve (task (plain Two) first second required) room
  unfolding solve_with
  edition_flag = refl

  pub both_flags : solve_with 3 first second required room ≡ solve (task (record { strict = true; edition = Two }) first second required) room
  unfolding solve_with
  both_flags = refl

  pub unknown_flags_lem : (flags : ℕ) → 3 < flags → solve_with flags first second required room ≡ refused unknown_flags
  unknown_flags_lem flags = HostLaws.flags_refused flags first second required room

-- 8 and 14 in the papers' numbers: K is the byte 75 and C 67
pub numbers_told : (a b c : ℕ)
    → (naming_with disagreement a b c
    ≡ record { number = 8; letter = 75; place = 0; size = 0; length = 0; first = a; second = b; third = c })
    × (naming_with claim_disagreement a b c
    ≡ record { number = 14; letter = 67; place = 0; size = 0; length = 0; first = a; second = b; third = c })
unfolding naming_with
numbers_told a b c = (refl, refl)

-- C-16, a claim: its size exactly as the claim passes, or the row of its judgement; flags as above
pub claim_promise : (q : Task) (claim : List ℕ) (s t : Tree) (xs ys : List Token) → ReadsClaim q claim s t xs ys
    → IsClaim (keyed q.options.edition s) (keyed q.options.edition t) (keys_of q.options.edition xs) (keys_of q.options.edition ys)
    → claim_numbers (judge q claim) ≡ succeeded (length ys) 0
claim_promise q claim s t xs ys = HostLaws.claim_size q claim s t xs ys

module _ (q : Task) (claim : List ℕ) where
  module _ (s t : Tree) (xs ys : List Token) (read : ReadsClaim q claim s t xs ys) where
    -- 8 with the places of the first three in the list, 14 with those in the claim
    pub claim_eight_promise : (a b c : Label)
        → Common (keyed q.options.edition s) (keyed q.options.edition t) (set_of (keys_of q.options.edition xs))
        → IsDisagreement (keyed q.options.edition s) (keyed q.options.edition t) (keys_of q.options.edition xs) a b c
        → claim_numbers (judge q claim) ≡ naming_with disagreement (place_of_label (folded_list q.options.edition xs) 0 a)
        (place_of_label (folded_list q.options.edition xs) 0 b) (place_of_label (folded_list q.options.edition xs) 0 c)
    claim_eight_promise = HostLaws.claim_eight q claim s t xs ys read

    pub claim_fourteen_promise : (a b c : Label)
        → Clear (keyed q.options.edition s) (keyed q.options.edition t) (keys_of q.options.edition xs)
        → VerdictIs (keyed q.options.edition s) (keyed q.options.edition t) (keys_of q.options.edition xs) (keys_of q.options.edition ys)
        (claim_disagrees a b c)
        → claim_numbers (judge q claim) ≡ naming_with claim_disagreement (place_of_label (folded_list q.options.edition ys) 0 a)
        (place_of_label (folded_list q.options.edition ys) 0 b) (place_of_label (folded_list q.options.edition ys) 0 c)
    claim_fourteen_promise = HostLaws.claim_fourteen q claim s t xs ys read

  -- Any other refusal: its number, letter and place.
  pub claim_refusal_promise : (p : Refusal) → judge q claim ≡ refused p → claim_numbers (judge q claim) ≡ refused_with p
  claim_refusal_promise = HostLaws.claim_refusal q claim

pub claim_flags : (first second required claim : List ℕ) (flags : ℕ) (o : Options) → found o ≡ options_of flags
    → judge_with flags first second required claim ≡ judge (task o first second required) claim
claim_flags first second required claim flags = HostLaws.claim_flags_known flags first second required claim

pub claim_unknown_flags : (first second required claim : List ℕ) (flags : ℕ) → 3 < flags
    → judge_with flags first second required claim ≡ refused unknown_flags
claim_unknown_flags first second required claim flags = HostLaws.claim_flags_refused flags first second required claim

-- A job: the length of its lines, with those of its pieces if it asks for them (C-17), or number 9 if the output has fewer bytes.
module _ (bytes : List ℕ) (room : ℕ) where
  pub job_promise : (shows : Bool) (r : Solution) → JobOutcome bytes (set_reply shows r) → length (reply_lines (solved shows r)) ≤ room
      → job_numbers (answer_to bytes room) ≡ succeeded 0 (length (reply_lines (solved shows r)))
  job_promise shows r = HostLaws.reply_numbers bytes room (solved shows r)

  pub job_nine_promise : (shows : Bool) (r : Solution) → JobOutcome bytes (set_reply shows r) → room < length (reply_lines (solved shows r))
      → job_numbers (answer_to bytes room) ≡ refused_with too_short
  job_nine_promise shows r = HostLaws.nine_numbers bytes room (solved shows r)

  -- Number 8 comes with the places of its three labels in the job's list.
  pub job_eight_promise : (e : Edition) (s : Tree) (xs : List Token) (a b c : Label) → JobOutcome bytes (naming disagreement (trio e s xs a b c))
      → job_numbers (answer_to bytes room)
      ≡ naming_with disagreement (body_place K (layout_of bytes) + place_of_label (folded_list e xs) 0 a) (body_place K (layout_of bytes) + place_of_label (folded_list e xs) 0 b)
      (body_place K (layout_of bytes) + place_of_label (folded_list e xs) 0 c)
  job_eight_promise = HostLaws.job_eight_numbers bytes room

  -- C-16: the line of a claim that passes. Number 14 comes with the places of its three labels in the job's claim.
  pub job_claim_promise : (n : ℕ) → JobOutcome bytes (claim_reply n) → length (claim_line n) ≤ room
      → job_numbers (answer_to bytes room) ≡ succeeded 0 (length (claim_line n))
  unfolding reply_lines
  job_claim_promise n = HostLaws.reply_numbers bytes room (passed n)

  pub job_fourteen_promise : (e : Edition) (s : Tree) (ys : List Token) (a b c : Label) → JobOutcome bytes (naming claim_disagreement (trio e s ys a b c))
      → job_numbers (answer_to bytes room)
      ≡ naming_with claim_disagreement (body_place C (layout_of bytes) + place_of_label (folded_list e ys) 0 a)
      (body_place C (layout_of bytes) + place_of_label (folded_list e ys) 0 b) (body_place C (layout_of bytes) + place_of_label (folded_list e ys) 0 c)
  job_fourteen_promise = HostLaws.job_fourteen_numbers bytes room

  pub job_refusal_promise : (q : Refusal) → JobOutcome bytes (refused q) → job_numbers (answer_to bytes room) ≡ refused_with q
  job_refusal_promise = HostLaws.job_refusal_numbers bytes room
