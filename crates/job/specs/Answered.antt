-- What the functions over jobs return, and what the lent output then holds. Both follow from the result of the job (`solve_job`) and its
-- printed lines (`printed_of`). 01, "Job and printed result" and "Why a job is turned down".
use Rattle.std.specs.Prelude.{ℕ, ◌+◌, Bool, cond, List, eqb, Result, Ok, Err}
use Rattle.trees.specs.declared.Body.{Body}
use Rattle.trees.specs.declared.Body.TheVariants.{S, K, C}
use Rattle.trees.specs.Refusals.{letter_of}
use Rattle.contents.specs.Contents.{layout_of, body_place}
use Rattle.mast.specs.declared.Named.{Named}
use Rattle.mast.specs.declared.NamedLabel.{NamedLabel}
use Rattle.pairs.specs.Outcome.{Outcome, refused, naming, found}
use Rattle.mast.specs.NamedLabels.{named_of}
use Rattle.job.specs.declared.Begin.{Begin}
use Rattle.mast.specs.declared.Denied.{Denied}
use Rattle.mast.specs.declared.Denied.TheVariants.{Naming, Refused}
use Rattle.job.specs.Printed.{Reply, reply_lines, solve_job}
use Rattle.trees.specs.declared.Refusal.{Refusal}
use Rattle.lines.specs.Output.{line_answer, line_output}

-- what the lines' answer is among those over jobs
unfoldable pub lines_answer : Result ℕ Refusal → Result ℕ Denied
lines_answer (Ok n) = Ok n
lines_answer (Err q) = Err (Refused q)

-- the lines of an answer for an output of `room` bytes: how many bytes they have, or number 9
unfoldable pub record_answer : List ℕ → ℕ → Result ℕ Denied
unfolding lines_answer line_answer
record_answer lines room = lines_answer (line_answer lines room)

-- where the bodies begin in a job
abbrev pub begin_in : List ℕ → Begin
begin_in job = record { tree = body_place S (layout_of job); list = body_place K (layout_of job); claim = body_place C (layout_of job) }

-- whether a letter is that of the claim
unfoldable pub of_claim : Body → Bool
unfolding letter_of
of_claim body = eqb (letter_of body) (letter_of C)

-- where the list of a refusal that names labels begins: the claim for 14, with letter C, and the required list for 8, with letter K
unfoldable pub base_of : Begin → Body → ℕ
unfolding of_claim
base_of at body = cond (of_claim body) at.claim at.list

-- a named label by places in a job: its list begins at `base`, the first tree at `origin`
unfoldable pub moved_label : ℕ → ℕ → NamedLabel → NamedLabel
moved_label origin base x = record { place = base + x.place; start = origin + x.start; size = x.size }

unfoldable pub moved_by : ℕ → ℕ → Named → Named
unfolding moved_label
moved_by origin base n =
    record { first = moved_label origin base n.first; second = moved_label origin base n.second; third = moved_label origin base n.third }

-- a refusal by places in a job
unfoldable pub denied_at : Begin → Denied → Denied
unfolding moved_by base_of
denied_at at (Naming q n) = Naming q (moved_by at.tree (base_of at q.body) n)
denied_at at (Refused q) = Refused q

-- the answer to a job with bodies that begin there, for an output of `room` bytes
unfoldable pub answered : Begin → ℕ → Outcome Reply → Result ℕ Denied
unfolding record_answer reply_lines moved_by base_of named_of
answered at room (found x) = record_answer (reply_lines x) room
answered at room (naming q n) = Err (Naming q (moved_by at.tree (base_of at q.body) (named_of n)))
answered at room (refused q) = Err (Refused q)

-- the answer to a job, for an output of `room` bytes
unfoldable pub answer_to : List ℕ → ℕ → Result ℕ Denied
unfolding answered solve_job body_place layout_of
answer_to job room = answered (begin_in job) room (solve_job job)

-- what the output then holds: the answer's lines, further bytes unchanged; "On refusal .. an output keeps every byte."
unfoldable pub job_output : Outcome Reply → List ℕ → List ℕ
unfolding line_output reply_lines
job_output (found x) out = line_output (reply_lines x) out
job_output (naming q n) out = out
job_output (refused q) out = out
