-- What a job comes to, what is shown of it, and what is printed. 01, "Job and printed result" and "Why a job is turned down".
use Rattle.std.specs.Prelude.{ℕ, Bool, cond, List, [], ◌∷◌, ◌++◌, map, leb, length}
use Rattle.std.proofs.Math.Option.{Option, some, none}
use Rattle.trees.specs.declared.Reason.TheVariants.{Contents, JobTooLong}
use Rattle.trees.specs.declared.Body.TheVariants.{J}
use Rattle.trees.specs.declared.Edition.{Edition}
use Rattle.trees.specs.Edition.{normal_in, rewritten}
use Rattle.trees.specs.Label.{Label}
use Rattle.trees.specs.Text.{text_of, tree_room}
use Rattle.trees.specs.Token.{Token, token_of}
use Rattle.trees.specs.Tree.{Tree, relabel}
use Rattle.agreement.specs.Sets.{set_of}
use Rattle.agreement.specs.Restrict.{restrict_in}
use Rattle.agreement.specs.Places.{spelled_in}
use Rattle.contents.specs.Contents.{Bodies, edition_of, first_text, second_text, list_text, claim_text, bodies_of}
use Rattle.pairs.specs.Outcome.{Outcome, refused, naming, found, and_then, Trio}
use Rattle.queries.specs.Query.{Task, task, disagreement}
use Rattle.mast.specs.Largest.{Solution, solve}
use Rattle.division.specs.PiecesAt.{pieces_for}
use Rattle.pieces.specs.Pieces.{Piece}
use Rattle.claims.specs.Judge.{claim_disagreement, judge}
use Rattle.lines.specs.Lines.{refused_line, naming_line, set_lines, record_lines, claim_line, three_line}
use Rattle.lines.specs.PieceLines.{pieces_lines}

-- "the job limit becomes 16,384 bytes" (C-14)
abbrev pub job_limit : ℕ
job_limit = 16384

-- what these bodies give the engine
abbrev pub task_of : Bodies → Task
task_of b = task (record { strict = b.head.strict; edition = edition_of b.head.stated }) (first_text b) (second_text b) (list_text b)

-- ---- what a job comes to

-- what is found for a job: the engine's set, and whether its pieces are asked for (C-17); or that its claim passes (C-16), with its size
pub data Reply : Type 0 where
  solved : Bool → Solution → Reply
  passed : ℕ → Reply

abbrev pub set_reply : Bool → Solution → Outcome Reply
set_reply pieces r = found (solved pieces r)

abbrev pub claim_reply : ℕ → Outcome Reply
claim_reply n = found (passed n)

-- C-16: "that is the job's answer: what 01 and demands 1 and 3 say of the set as the answer is about jobs without C"
unfoldable pub solve_task : Bool → Task → Option (List ℕ) → Outcome Reply
unfolding and_then solve judge
solve_task pieces q none = and_then (solve q tree_room) (set_reply pieces)
solve_task pieces q (some claim) = and_then (judge q claim) claim_reply

unfoldable pub solve_bodies : Option Bodies → Outcome Reply
unfolding solve_task
solve_bodies none = refused (record { reason = Contents; body = J; place = 0 })
solve_bodies (some b) = solve_task b.head.pieces (task_of b) (claim_text b)

-- "Order: .. 11, 10, S, T, K, then 6 or 7, then 8", with 12 before K, and C right after K
unfoldable pub solve_job : List ℕ → Outcome Reply
unfolding solve_bodies bodies_of
solve_job job =
    cond (leb (length job) job_limit) (solve_bodies (bodies_of job)) (refused (record { reason = JobTooLong; body = J; place = 0 }))

-- ---- lines

abbrev pub disagreement_line : Label → Label → Label → List ℕ
disagreement_line = three_line disagreement

abbrev pub claim_disagreement_line : Label → Label → Label → List ℕ
claim_disagreement_line = three_line claim_disagreement

-- a piece with each label through a name
abbrev pub piece_by : (Label → Token) → Piece → Piece
piece_by name p = record { required = map name p.required; others = map name p.others }

-- C-17 "adds them before `size`": the lines of pieces, their labels in their written forms, then those of the set
abbrev pub divided_record : List Piece → List Label → List ℕ → List ℕ
divided_record P X text = pieces_lines (map (piece_by token_of) P) ++ record_lines X text

-- ---- what is shown, and how its labels are named

-- the pieces, if they are asked for; the set in label order; its common restriction, children in order. The first tree spells all labels.
pub record Shown : Type 0 where
  pub pieces : Option (List Piece)
  pub set : List Token
  pub tree : Option Tree

abbrev pub Name : Type 0
Name = Token → Token

unfoldable pub in_order : Edition → Option Tree → Option Tree
unfolding normal_in
in_order e none = none
in_order e (some t) = some (normal_in e t)

unfoldable pub shown_of : Bool → Solution → Shown
unfolding spelled_in pieces_for in_order
shown_of pieces r =
    record {
      pieces = cond pieces (some (map (piece_by (spelled_in r.edition r.first)) (pieces_for r.edition r.first r.second r.required))) none;
      set = map (spelled_in r.edition r.first) r.set;
      tree = in_order r.edition (restrict_in r.edition (set_of r.set) r.first);
    }

-- three labels, as the first tree spells them
unfoldable pub three_of : Trio → List Token
unfolding spelled_in
three_of n = map (spelled_in n.edition n.first) (n.labels.one ∷ n.labels.two ∷ n.labels.three ∷ [])

unfoldable pub tree_by : Name → Option Tree → List ℕ
unfolding text_of relabel
tree_by name none = []
tree_by name (some t) = text_of (relabel name t)

unfoldable pub pieces_by : Name → Option (List Piece) → List ℕ
unfolding pieces_lines
pieces_by name none = []
pieces_by name (some ps) = pieces_lines (map (piece_by name) ps)

-- every label through a name
unfoldable pub lines_by : Name → Shown → List ℕ
unfolding pieces_by set_lines tree_by
lines_by name r = pieces_by name r.pieces ++ set_lines (map name r.set) (tree_by name r.tree)

-- ---- what is printed

unfoldable pub reply_lines : Reply → List ℕ
unfolding lines_by shown_of claim_line
reply_lines (solved pieces r) = lines_by rewritten (shown_of pieces r)
reply_lines (passed n) = claim_line n

unfoldable pub printed_of : Outcome Reply → List ℕ
unfolding reply_lines naming_line three_of refused_line
printed_of (found x) = reply_lines x
printed_of (naming q n) = naming_line q (map rewritten (three_of n))
printed_of (refused q) = refused_line q

unfoldable pub printed : List ℕ → List ℕ
unfolding printed_of solve_job
printed job = printed_of (solve_job job)
