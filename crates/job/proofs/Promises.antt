-- What jobs promise, in 01's order. Each theorem cites one name. Assumes nothing.
use Prim.Native.Nat.{ℕ, ◌+◌, ◌*◌, ◌<◌, ◌≤◌}
use mathlib.Core.Path.{◌≡◌, refl}
use mathlib.Core.Bool.{Bool, true, false}
use mathlib.Core.Logic.{◌↔◌}
use mathlib.Core.List.{List, [], ◌∷◌, ◌++◌, map}
use mathlib.Core.Option.{some, none}
use lib.ListN.{length, take}
use Rattle.std.specs.Prelude.{Some, None}
use Rattle.trees.specs.declared.Edition.TheVariants as edition
use Rattle.trees.specs.declared.Refusal.{Refusal}
use Rattle.trees.specs.Refusals.{value, row, row_naming, number_of, letter_of}
use Rattle.trees.specs.Label.{Label, label_limit, is_in}
use Rattle.trees.specs.Text.{tree_room}
use Rattle.trees.specs.Token.{Token}
use Rattle.trees.specs.declared.Edition.{Edition}
use Rattle.trees.specs.declared.Edition.TheVariants.{One}
use Rattle.trees.specs.Edition.{key, folded, keyed, rewritten}
use Rattle.trees.specs.Tree.{Tree, leaf_limit, normal}
use Rattle.lists.specs.ReadList.{list_limit, folded_list, keys_of}
use Rattle.trees.specs.Words.{bytes_of, Within}
use Rattle.trees.specs.Writable.{writable_labels}
use Rattle.agreement.specs.Closer.{holds}
use Rattle.agreement.specs.Places.{place_in, place_of_label, token_of_key, spelled_in}
use Rattle.agreement.specs.Restrict.{restrict}
use Rattle.agreement.specs.Sets.{keep, common, set_of}
use Rattle.agreement.specs.Strict.{SameLeaves}
use Rattle.pieces.specs.Pieces.{place_of, clades_of, Piece, listed, pieces, total, joined_sets}
use Rattle.contents.specs.Contents.{Bodies, digit_limit, edition_of, part, first_text, second_text, list_text, claim_text, under}
use Rattle.mast.specs.declared.Named.{Named}
use Rattle.pairs.specs.Outcome.{Outcome, refused, naming, and_then, trio}
use Rattle.queries.specs.Query.{Task, disagreement}
use Rattle.mast.specs.Largest.{Solution, solution, solution_text, too_short, solve}
use Rattle.claims.specs.Judge.{claim_disagreement, judge}
use Rattle.std.specs.Prelude.{Ok, Err}
use Rattle.mast.specs.declared.Denied.TheVariants.{Naming, Refused}
use Rattle.mast.specs.PaperNumbers.{said_of_denied}
use Rattle.job.specs.Printed.{Reply, solved, passed, set_reply, claim_reply, task_of, job_limit, solve_bodies, solve_job}
use Rattle.lines.specs.Lines.{record_lines, claim_line, named_line}
use Rattle.lines.specs.PieceLines.{lines_room}
use Rattle.job.specs.Printed.{disagreement_line, claim_disagreement_line, divided_record, shown_of, pieces_by, printed_of, printed, piece_by}
use Rattle.lines.specs.Output.{line_answer, line_output, written_part}
use Rattle.job.specs.Answered.{begin_in, answer_to}
use Rattle.job.specs.JobOutcome.{Holds, edition_in, TreeBody, SetAnswered, DividedAnswered, DisagreementAnswered, ClaimAnswered, ClaimDisagreementAnswered, JobOutcome, Stopped, without_pieces_line, plainly, without_line}
use Rattle.job.specs.PaperNumbers.{said_of_job}
use Rattle.job.specs.PaperTable.{NumberRow, number_rows, LetterRow, letter_rows, Limits, paper_limits, LineRow, lines_of, bytes_of_job, line_rows}
use Rattle.job.specs.Sides.{SidesExchanged}
use Rattle.job.proofs.ClashLaws
use Rattle.job.proofs.DemandLaws
use Rattle.job.proofs.DividedLaws
use Rattle.job.proofs.NineLaws
use Rattle.job.proofs.OutcomeLaws
use Rattle.job.proofs.ProgramLaws
use Rattle.job.proofs.RoomLaws
use Rattle.job.proofs.SidesLaws
use Rattle.job.proofs.StrictLaws
use Rattle.job.proofs.Table

-- Demand 3, from the bytes of a job. The program prints the lines for labels N and a tree text if and only if the job has no claim and no
-- line `pieces`, its bodies can be read, N is the largest and first set as the first tree spells it, and the text is the normal text of the
-- common restriction. N ranges over labels that a text can contain (`writable_labels`); other byte strings could be printed alike.
pub demand_promise : (job : List ℕ) (N : List Label) (text : List ℕ)
    → ((writable_labels N ≡ true) × (printed job ≡ record_lines N text)) ↔ SetAnswered job false N text
demand_promise = DemandLaws.set_lines_lem

-- C-17, from the bytes of a job. A job with the line `pieces` that is answered with a set first prints the total and the `at` lines. They are
-- those of the definition, over the keys of both trees and of the required list, with the labels as the first tree spells them.
pub divided_promise : (job : List ℕ) (P : List Piece) (N : List Label) (text : List ℕ) → DividedAnswered job P N text
    → printed job ≡ divided_record P N text
divided_promise = DemandLaws.divided_lines

-- No other job prints lines that begin so.
pub divided_only : (job rest : List ℕ) → printed job ≡ bytes_of "pieces " ++ rest
    → (P : List Piece) × (N : List Label) × (text : List ℕ) × DividedAnswered job P N text
divided_only = DemandLaws.divided_only

-- The line "adds them before `size`": the lines of the set are those of the job without it, and so are the refusals.
pub record_follows : (r : Solution) → printed_of (set_reply true r) ≡ pieces_by rewritten (shown_of true r).pieces ++ printed_of (set_reply false r)
record_follows = DividedLaws.record_follows

pub line_plain : (b : Bodies) → plainly (solve_bodies (some b)) ≡ solve_bodies (some (without_pieces_line b))
line_plain = DividedLaws.line_plain

-- A job that is answered with a set, whether or not it has the line. S, T and K are its trees and its required list by their keys, X is its
-- set.
module _ {job : List ℕ} {shows : Bool} {N : List Label} {text : List ℕ} (a : SetAnswered job shows N text) where
  abbrev S : Tree
  S = keyed a.e a.s

  abbrev T : Tree
  T = keyed a.e a.t

  abbrev K : List Label
  K = keys_of a.e a.xs

  -- "The engine's set is the required leaves joined with the sets it gives for the pieces, each with its one required label"
  pub joined_promise : a.X ≡ keep (set_of (K ++ joined_sets S T (pieces S T K))) (common S T)
  joined_promise = DividedLaws.set_joined a

  -- "and one whose places differ is in no answer"
  pub place_promise : (x : Label) → is_in x a.X ≡ true → is_in x K ≡ false → place_of K S x ≡ place_of K T x
  place_promise = DividedLaws.set_placed a

  -- "When k required leaves, k at least 1, agree, their common restricted tree has 2k - 1 places"
  pub places_promise : (y : Label) → is_in y K ≡ true
      → (r : Tree) × (restrict (set_of K) S ≡ some r) × (length (clades_of (normal r)) + 1 ≡ 2 * length K)
  places_promise = DividedLaws.places_of a

  -- The total "is at most n + k - 1, with n common leaves in all", for k at least 1.
  pub total_promise : (y : Label) → is_in y K ≡ true → total (pieces S T K) + 1 ≤ length (common S T) + length K
  total_promise = DividedLaws.total_most a

  -- "A job with K empty is one piece, all common leaves and no required one, or no piece if there are none; its total is n"
  pub no_required_promise : K ≡ [] → (pieces S T K ≡ listed [] (common S T) []) × (total (pieces S T K) ≡ length (common S T))
  no_required_promise e = (DividedLaws.piece_none a e, DividedLaws.total_none a e)

-- The total that is printed is that of the pieces by their keys: a spelling changes no number of labels.
pub total_printed : (name : Label → Token) (P : List Piece) → total (map (piece_by name) P) ≡ total P
total_printed = DividedLaws.total_by

-- The program prints number 8's line with three labels if and only if these are the first three required labels with different closer
-- pairs, as the first tree spells them. Here too the labels are ones that a text can contain.
pub eight_promise : (job : List ℕ) (u v w : Label)
    → ((writable_labels (u ∷ v ∷ w ∷ []) ≡ true) × (printed job ≡ disagreement_line u v w)) ↔ DisagreementAnswered job u v w
eight_promise = DemandLaws.eight_lines

-- C-16: "It is accepted exactly if it holds every required label, the trees agree on it and no larger such set exists", and "The program
-- then prints only `claim ok`, a blank and the size".
pub claim_promise : (job : List ℕ) (n : ℕ) → (printed job ≡ claim_line n) ↔ ClaimAnswered job n
claim_promise = DemandLaws.claim_lines

-- The program prints number 14's line with three labels if and only if no number before 14 is given and these are the first three claimed
-- labels with different closer pairs, "named as 8 names them".
pub fourteen_promise : (job : List ℕ) (u v w : Label)
    → ((writable_labels (u ∷ v ∷ w ∷ []) ≡ true) × (printed job ≡ claim_disagreement_line u v w)) ↔ ClaimDisagreementAnswered job u v w
fourteen_promise = DemandLaws.fourteen_lines

-- "that is the job's answer: what 01 and demands 1 and 3 say of the set as the answer is about jobs without C". A job without C has the
-- engine's solution for its trees and list, a job with C the judgement of its claim.
pub no_claim : (job : List ℕ) (b : Bodies) → Holds job b → claim_text b ≡ none
    → solve_job job ≡ and_then (solve (task_of b) tree_room) (set_reply b.head.pieces)
no_claim = OutcomeLaws.without_claim

pub claim_judged : (job : List ℕ) (b : Bodies) → Holds job b → (text : List ℕ) → claim_text b ≡ some text
    → solve_job job ≡ and_then (judge (task_of b) text) claim_reply
claim_judged = OutcomeLaws.with_claim

-- The program prints a text if and only if it belongs to an outcome that the papers give the job. `JobOutcome` has the outcomes, number by
-- number.
pub job_promise : (job out : List ℕ) → (printed job ≡ out) ↔ ((x : Outcome Reply) × JobOutcome job x × (printed_of x ≡ out))
job_promise = OutcomeLaws.printed_exactly

-- Each job has exactly one outcome.
pub outcome_promise : (job : List ℕ) (x : Outcome Reply) → (solve_job job ≡ x) ↔ JobOutcome job x
outcome_promise = OutcomeLaws.outcome_exactly

-- "Left and right children mean nothing.": a job with equal trees prints the same
pub sides_mean_nothing_printed : (job other : List ℕ) → SidesExchanged job other → printed job ≡ printed other
sides_mean_nothing_printed = SidesLaws.printed_alike

-- C-11: number 12 exactly if the job is strict, both trees are read, and they do not hold the same leaves; its letter and place
-- are those of `JobOutcome`
pub twelve_promise : (job : List ℕ) → ((q : Refusal) × (solve_job job ≡ refused q) × (number_of q.reason ≡ 12)) ↔ Stopped job
twelve_promise = StrictLaws.twelve_exactly

-- "a larger set is still impossible in both sorts": if both trees have the same leaves, a strict job is answered as it is without the line.
pub strict_promise : (b : Bodies) (s t : Tree) → TreeBody (edition_in b) (first_text b) s → TreeBody (edition_in b) (second_text b) t
    → SameLeaves (keyed (edition_in b) s) (keyed (edition_in b) t)
    → solve_bodies (some b) ≡ solve_bodies (some (without_line b))
strict_promise = StrictLaws.strict_same

-- "If an answer is an enum, the promises use a definition that gives this paper's number and values for each of its cases."
pub job_rows_promise : (n : ℕ) (m : Named) (q : Refusal)
    → (said_of_job (Ok n) ≡ value n)
    × (said_of_job (Err (Naming disagreement m)) ≡ row_naming 8 75 0 (m.first.place ∷ m.second.place ∷ m.third.place ∷ []))
    × (said_of_job (Err (Naming claim_disagreement m)) ≡ row_naming 14 67 0 (m.first.place ∷ m.second.place ∷ m.third.place ∷ []))
    × (said_of_job (Err (Refused q)) ≡ row (number_of q.reason) (letter_of q.body) q.place)
unfolding said_of_job said_of_denied
job_rows_promise n m q = (refl, refl, refl, refl)

-- The papers' own numbers, letters, limits and printed lines are written out in one table, `job/specs/PaperTable.antt`. The definitions
-- give the same.
pub papers_table : (map (λ (r : NumberRow). number_of r.reason) number_rows ≡ map (λ (r : NumberRow). r.number) number_rows)
    × (map (λ (r : LetterRow). letter_of r.body ∷ []) letter_rows ≡ map (λ (r : LetterRow). bytes_of r.letter) letter_rows)
    × (◌≡◌ {A = Limits} (record { label = label_limit; leaves = leaf_limit; labels = list_limit; job = job_limit; digits = digit_limit }) paper_limits)
    × (map (λ (r : LineRow). printed (bytes_of_job r)) line_rows ≡ map (λ (r : LineRow). lines_of r.lines) line_rows)
papers_table = (Table.numbers_hold, Table.letters_hold, Table.limits_hold, Table.lines_hold)

-- "An output is too short exactly if it has fewer bytes than the text that belongs in it". The engine's own area for a tree's text is never
-- too short, so number 9 means that the caller's output has fewer bytes than the printed lines.
pub area_fits : (q : Task) (p : Refusal) → solve q tree_room ≡ refused p → number_of p.reason ≡ 9 → ⊥
area_fits = RoomLaws.engine_fits

pub job_area_fits : (job : List ℕ) (q : Refusal) → solve_job job ≡ refused q → number_of q.reason ≡ 9 → ⊥
job_area_fits = NineLaws.job_fits

pub nine_of_output : (job : List ℕ) (room : ℕ) (q : Refusal) → answer_to job room ≡ Err (Refused q)
    → number_of q.reason ≡ 9 → room < length (printed job)
nine_of_output = NineLaws.nine_output

pub nine_when_short : (job : List ℕ) (room : ℕ) → room < length (printed job) → (shows : Bool) (r : Solution) → solve_job job ≡ set_reply shows r
    → answer_to job room ≡ Err (Refused too_short)
nine_when_short job room h shows r = NineLaws.short_output job room h (solved shows r)

pub nine_when_claim_short : (job : List ℕ) (room : ℕ) → room < length (printed job) → (n : ℕ) → solve_job job ≡ claim_reply n
    → answer_to job room ≡ Err (Refused too_short)
nine_when_claim_short job room h n = NineLaws.short_output job room h (passed n)

-- "Number 8 adds a space and its three labels joined by commas." The line made from the answer's places and sizes is the printed one.
pub eight_line : (job : List ℕ) (room : ℕ) (n : Named) → answer_to job room ≡ Err (Naming disagreement n) → named_line job disagreement n ≡ printed job
eight_line job room = ClashLaws.naming_line_lem job room disagreement

-- Each of its labels is in the job's list at the place returned, as a token with its key, and in the job's first tree as it is spelled
-- there.
pub eight_places : (job : List ℕ) (e : Edition) (s : Tree) (xs : List Token) (a b c : Label) → solve_job job ≡ naming disagreement (trio e s xs a b c)
    → (x : Label) → is_in x (a ∷ b ∷ c ∷ []) ≡ true
    → Within job ((begin_in job).list + place_of_label (folded_list e xs) 0 x) (token_of_key e xs x) × (key e (token_of_key e xs x) ≡ x)
    × Within job ((begin_in job).tree + place_in (folded e s) 0 x) (spelled_in e s x) × (key e (spelled_in e s x) ≡ x)
eight_places = ClashLaws.eight_shown

-- The same for number 14, whose labels are in the job's claim.
pub fourteen_line : (job : List ℕ) (room : ℕ) (n : Named) → answer_to job room ≡ Err (Naming claim_disagreement n)
    → named_line job claim_disagreement n ≡ printed job
fourteen_line job room = ClashLaws.naming_line_lem job room claim_disagreement

pub fourteen_places : (job : List ℕ) (e : Edition) (s : Tree) (ys : List Token) (a b c : Label) → solve_job job ≡ naming claim_disagreement (trio e s ys a b c)
    → (x : Label) → is_in x (a ∷ b ∷ c ∷ []) ≡ true
    → Within job ((begin_in job).claim + place_of_label (folded_list e ys) 0 x) (token_of_key e ys x) × (key e (token_of_key e ys x) ≡ x)
    × Within job ((begin_in job).tree + place_in (folded e s) 0 x) (spelled_in e s x) × (key e (spelled_in e s x) ≡ x)
fourteen_places = ClashLaws.fourteen_shown

-- C-15, "a job without it has edition 1": the same job with the line `E 1`, or without it, has the same answer.
pub edition_one_written : (b : Bodies)
    → solve_bodies (some (under (record { strict = b.head.strict; stated = None; pieces = b.head.pieces }) b))
    ≡ solve_bodies (some (under (record { strict = b.head.strict; stated = Some edition.One; pieces = b.head.pieces }) b))
unfolding solve_bodies edition_of first_text second_text list_text claim_text part
edition_one_written b = refl

-- "Old records must still be judged by the first edition": under edition 1 each label of the answer is printed as itself.
pub first_edition_prints : (s t : Tree) (xs : List Token) (X : List Label) → ((x : Label) → is_in x X ≡ true → holds (keyed One s) x ≡ true)
    → printed_of (set_reply false (solution One s t xs X)) ≡ record_lines X (solution_text (solution One s t xs X))
first_edition_prints = ClashLaws.one_printed

-- "The program `agree` reads a job from standard input": it reads at most one byte over the limit, and writes what is printed for the whole
-- input. Its area fits any answer.
pub program_promise : (input out : List ℕ) → lines_room ≤ length out
    → written_part (line_output (printed (take (job_limit + 1) input)) out) (line_answer (printed (take (job_limit + 1) input)) (length out))
    ≡ printed input
program_promise = ProgramLaws.program_prints

pub lines_fit : (job : List ℕ) → length (printed job) ≤ lines_room
lines_fit = ProgramLaws.printed_short
