-- What the engine's answer says of the job's: a set and its lines, three labels by their places, or a refusal. Assumes nothing.
use Prim.Native.Nat.{ℕ, ◌+◌, ◌≤◌, ◌<◌}
use mathlib.Core.Path.{◌≡◌, refl, sym, ◌∙◌, ap, ap₂, subst}
use mathlib.Core.Bool.{Bool, true, false, cond}
use mathlib.Core.List.{List, ◌++◌, map}
use mathlib.Core.Option.{Option, some, none}
use native.Mathlib.Omega.{arith}
use lib.ListN.{length, take, drop, replicate, length-append, length-replicate}
use lib.Seq.{take_at}
use borrow.Author.Tests.{le-leb, lt-leb}
use Rattle.std.specs.Prelude.{Some, None}
use Rattle.trees.specs.declared.Reason.TheVariants.{Contents, JobTooLong}
use Rattle.trees.specs.declared.Body.{Body}
use Rattle.trees.specs.declared.Body.TheVariants.{S, K, C, J}
use Rattle.trees.specs.declared.Refusal.{Refusal}
use Rattle.trees.specs.Label.{Label, is_in}
use Rattle.trees.specs.Refusals.{letter_of}
use Rattle.trees.specs.Text.{tree_room}
use Rattle.trees.specs.declared.Edition.{Edition}
use Rattle.trees.specs.Edition.{folded, keyed}
use Rattle.trees.specs.Words.{Within}
use Rattle.trees.specs.Tree.{leaf_limit}
use Rattle.lists.specs.ReadList.{keys_of}
use Rattle.lists.proofs.Promises.{accepted_list}
use Rattle.agreement.specs.Places.{place_in, token_in, spelled_in, name_in}
use Rattle.agreement.proofs.EditionText.{spelled_size}
use Rattle.agreement.proofs.DemandLaws.{allowed_held}
use Rattle.division.specs.PiecesAt.{PiecesAt}
use Rattle.lists.specs.declared.LabelPlaces.{LabelPlaces}
use Rattle.mast.specs.declared.Denied.{Denied}
use Rattle.mast.specs.declared.Denied.TheVariants.{Naming, Refused}
use Rattle.mast.specs.declared.Divided.{Divided}
use Rattle.mast.specs.declared.Found.{Found}
use Rattle.std.specs.Prelude.{[], Result, Ok, Err}
use Rattle.mast.specs.PiecesWith.{PiecesWith, without_pieces}
use Rattle.mast.specs.declared.Named.{Named}
use Rattle.pairs.specs.Outcome.{Outcome, refused, naming, found, and_then, Trio}
use Rattle.mast.specs.NamedLabels.{named_label, named_of, result_of}
use Rattle.queries.specs.Query.{Task, task}
use Rattle.mast.specs.Largest.{Solution, solution_text, solve, set_places, found_set, largest_of, output_of}
use Rattle.claims.specs.Judge.{judge, claim_of}
use Rattle.contents.specs.declared.Table.{Table}
use Rattle.contents.specs.declared.Span.{Span}
use Rattle.contents.specs.Contents.{BodySpan, Layout, Bodies, entries, lookup, part, bytes, first_text, second_text, list_text, claim_text, edition_of, layout_of, span_in, bodies_from, bodies_of, place_of, body_place}
use Rattle.contents.proofs.ContentsLaws.{body_ends}
use Rattle.job.specs.Printed.{Reply, solved, set_reply, claim_reply, reply_lines, solve_task, solve_bodies, solve_job, job_limit}
use Rattle.lines.specs.Lines.{record_lines, labels_in}
use Rattle.lines.specs.PieceLines.{pieces_lines, placed_record, placed_pieces, lines_at}
use Rattle.lines.proofs.LineLaws.{uncut}
use Rattle.job.specs.declared.Begin.{Begin}
use Rattle.lines.specs.Output.{line_output}
use Rattle.job.specs.Answered.{record_answer, begin_in, of_claim, base_of, moved_by, denied_at, answered, answer_to, job_output}
use Rattle.job.specs.NamedPlaces.{Near, NearBy, Inside}
use Rattle.job.proofs.PieceLaws.{pieces_shown_lem}
use Rattle.job.proofs.ShownLaws.{labels_are, pieces_part, reply_lines_lem}
use Rattle.job.proofs.SolvedLaws.{SolvedBy, NamedBy, From, solution_from, Judged, judged_from, set_answer, set_few, set_shown, three_in, label_listed, three_shown}

-- ---- one kind of answer each

module _ (at : Begin) (room : ℕ) (x : Outcome Reply) where
  pub answered_refused : (q : Refusal) → x ≡ refused q → Err (Refused q) ≡ answered at room x
  unfolding answered
  answered_refused q d = ap (answered at room) (sym d)

  pub answered_naming : (q : Refusal) (n : Trio) → x ≡ naming q n
      → Err (Naming q (moved_by at.tree (base_of at q.body) (named_of n))) ≡ answered at room x
  unfolding answered
  answered_naming q n d = ap (answered at room) (sym d)

  pub answered_found : (y : Reply) → x ≡ found y → record_answer (reply_lines y) room ≡ answered at room x
  unfolding answered
  answered_found y d = ap (answered at room) (sym d)

module _ (x : Outcome Reply) (out : List ℕ) where
  pub output_refused : (q : Refusal) → x ≡ refused q → out ≡ job_output x out
  unfolding job_output
  output_refused q d = ap (λ (y : Outcome Reply). job_output y out) (sym d)

  pub output_naming : (q : Refusal) (n : Trio) → x ≡ naming q n → out ≡ job_output x out
  unfolding job_output
  output_naming q n d = ap (λ (y : Outcome Reply). job_output y out) (sym d)

  pub output_found : (y : Reply) → x ≡ found y → line_output (reply_lines y) out ≡ job_output x out
  unfolding job_output
  output_found y d = ap (λ (z : Outcome Reply). job_output z out) (sym d)

-- ---- three labels that are named

within_inside : {text x : List ℕ} {p : ℕ} → Within text p x → p ≤ length text
within_inside {text} {x} w = omega (arith, w.place, ap (length {A = ℕ}) w.is, length-append w.before (x ++ w.after))

-- what is named comes from a list and the first tree
pub record NamesFound (first list : List ℕ) (x : Outcome Reply) (p : Refusal) (m : Named) : Type 0 where
  pub of : Trio
  pub is : x ≡ naming p of
  pub named : m ≡ named_of of
  pub by : NamedBy first list of

module _ (first list : List ℕ) (n : Trio) (w : NamedBy first list n) where
  near_label : (x : Label) → is_in x (keys_of n.edition n.list) ≡ true
      → ((named_label n x).place ≤ length list) × ((named_label n x).start ≤ length first)
  unfolding named_label
  near_label x h =
      (within_inside (label_listed first list n w x h).shown, within_inside (three_shown first list n w x h).at)

  near_named : (limit origin base : ℕ) → base + length list ≤ limit → origin + length first ≤ limit → Near limit origin base (named_of n)
  unfolding named_of
  near_named limit origin base l m =
      let t = three_in first list n w in
      let a = near_label n.labels.one t.0 in
      let b = near_label n.labels.two t.1 in
      let c = near_label n.labels.three t.2 in
      record {
        one = omega (arith, a, l);
        two = omega (arith, b, l);
        three = omega (arith, c, l);
        first = omega (arith, a, m);
        second = omega (arith, b, m);
        third = omega (arith, c, m);
      }

-- what a refusal comes from: the list is the claim's for its letter
abbrev pub DeniedTold : (first list claim : List ℕ) → Outcome Reply → Denied → Type 0
DeniedTold first list claim x (Naming p m) = NamesFound first (cond (of_claim p.body) claim list) x p m
DeniedTold first list claim x (Refused p) = x ≡ refused p

-- the places stay inside the job, and moved they are those of the answer
module _ (first list claim : List ℕ) (x : Outcome Reply) where
  pub denied_near : (d : Denied) → DeniedTold first list claim x d → (limit : ℕ) (at : Begin) → Inside limit at first list claim → NearBy limit at d
  unfolding base_of
  denied_near (Naming p m) f limit at i =
      rw f.named (near_named first _ f.of f.by limit at.tree _ (inside (of_claim p.body)) i.first_ends)
    where
      inside : (b : Bool) → cond b at.claim at.list + length (cond b claim list) ≤ limit
      inside true = i.claim_ends
      inside false = i.list_ends
  denied_near (Refused p) f limit at i = tt

  pub denied_answered : (d : Denied) → DeniedTold first list claim x d → (at : Begin) (room : ℕ) (e : Denied) → e ≡ denied_at at d
      → Err e ≡ answered at room x
  unfolding denied_at
  denied_answered (Naming p m) f at room e h =
      ap Err h ∙ ap (λ k. Err (Naming p (moved_by at.tree (base_of at p.body) k))) f.named ∙ answered_naming at room x p f.of f.is
  denied_answered (Refused p) f at room e h = ap Err h ∙ answered_refused at room x p f

  pub denied_kept : (d : Denied) → DeniedTold first list claim x d → (out : List ℕ) → out ≡ job_output x out
  denied_kept (Naming p m) f out = output_naming x out p f.of f.is
  denied_kept (Refused p) f out = output_refused x out p f

-- ---- what the engine found

-- a set, with the lines of its text in an area
pub record SetFound (pieces : Bool) (q : Task) (area : List ℕ) (r : Divided) : Type 0 where
  pub of : Solution
  pub is : solve_task pieces q none ≡ set_reply pieces of
  pub inside : r.length ≤ length area
  pub lines : lines_at pieces q.first r.pieces r.set (take r.length area) ≡ reply_lines (solved pieces of)

-- the lines of a set, and those of its pieces
module _ (q : Task) (room : ℕ) (r : Divided) (y : Solution) (f : SolvedBy q room y) where
  abbrev Names : List Label
  Names = map (name_in y.edition y.first) y.set

  set_part : r.set ≡ set_places (folded y.edition y.first) y.set → (tree : List ℕ) → tree ≡ solution_text y → length tree ≤ tree_room
      → placed_record q.first r.set tree ≡ record_lines Names (solution_text y)
  unfolding set_places
  set_part t tree e short =
      let count : r.set.count ≤ leaf_limit = omega (arith, set_few q room y f, ap (λ (z : LabelPlaces). z.count) t) in
      uncut (labels_in q.first r.set.start r.set.size) tree r.set.count count short
      ∙ ap₂ record_lines
      (ap (λ (z : LabelPlaces). labels_in q.first z.start z.size z.count) t
      ∙ labels_are q.first (place_in (folded y.edition y.first) 0)
      (λ (x : Label). length (token_in (folded y.edition y.first) x)) (spelled_in y.edition y.first)
      (name_in y.edition y.first) y.set (set_shown q room y f)
      (λ (x : Label) (i : is_in x y.set ≡ true). sym (spelled_size y.edition y.first x))) e

  pieces_part_lem : PiecesAt y.edition y.first y.second y.required r.pieces
      → placed_pieces q.first r.pieces ≡ pieces_part true y
  pieces_part_lem p =
      ap pieces_lines
      (pieces_shown_lem y.edition y.first y.second y.required q.first f.read
      (accepted_list y.edition q.required y.required f.listed).different
      (allowed_held (keyed y.edition y.first) (keyed y.edition y.second) (keys_of y.edition y.required) y.set
      (set_answer q room y f).allowed_set)
      r.pieces p)

  result_is : (pieces : Bool) → r.set ≡ set_places (folded y.edition y.first) y.set → (tree : List ℕ) → tree ≡ solution_text y → length tree ≤ tree_room
      → (pieces ≡ true → PiecesAt y.edition y.first y.second y.required r.pieces)
      → lines_at pieces q.first r.pieces r.set tree ≡ reply_lines (solved pieces y)
  unfolding lines_at
  result_is true t tree e short p =
      ap₂ (λ (k l : List ℕ). k ++ l) (pieces_part_lem (p refl)) (set_part t tree e short) ∙ reply_lines_lem true y _ _ _ refl refl refl
  result_is false t tree e short p = set_part t tree e short ∙ reply_lines_lem false y _ _ _ refl refl refl

-- the engine's area for the tree text
abbrev pub blank : List ℕ
blank = replicate tree_room 0

pub blank_room : length blank ≡ tree_room
blank_room = length-replicate {A = ℕ} tree_room 0

module _ (pieces : Bool) (q : Task) (area : List ℕ) where
  -- what each answer comes from
  abbrev EngineTold : Result Divided Denied → Type 0
  EngineTold (Ok r) = SetFound pieces q area r
  EngineTold (Err d) = DeniedTold q.first q.required [] (solve_task pieces q none) d

  in_room : (x : Outcome Solution) → solve q (length blank) ≡ x → solve_task pieces q none ≡ and_then x (set_reply pieces)
  unfolding solve_task
  in_room x e = ap (λ (y : Outcome Solution). and_then y (set_reply pieces)) (ap (solve q) (sym blank_room) ∙ e)

  set_found : (y : Solution) → solve q (length blank) ≡ found y → From q (length blank) (found y) → (r : Divided)
      → ◌≡◌ {A = Found} (record { size = r.size; length = r.length; set = r.set }) (found_set y) → area ≡ output_of (found y) blank
      → (pieces ≡ true → PiecesAt y.edition y.first y.second y.required r.pieces) → SetFound pieces q area r
  unfolding found_set output_of and_then
  set_found y g f r t o with =
      let size : r.length ≡ length (solution_text y) = ap (λ (z : Found). z.length) t in
      let front : take r.length area ≡ solution_text y =
      ap₂ (λ (n : ℕ) (l : List ℕ). take n l) size o
      ∙ take_at (solution_text y) (drop (length (solution_text y)) blank) (length (solution_text y)) refl in
      record {
        of = y;
        is = in_room (found y) g;
        inside = omega (arith, size, ap (length {A = ℕ}) o, length-append (solution_text y) (drop (length (solution_text y)) blank));
        lines =
            result_is q (length blank) r y f pieces (ap (λ (z : Found). z.set) t) _ front
            (omega (arith, f.short, ap (length {A = ℕ}) front)) with;
      }

  pub told_as : (r : Result Divided Denied) → without_pieces r ≡ largest_of (solve q (length blank))
      → area ≡ output_of (solve q (length blank)) blank → (pieces ≡ true → PiecesWith (solve q (length blank)) r) → EngineTold r
  unfolding result_of and_then
  told_as r told kept with = go (solve q (length blank)) refl (solution_from q (length blank)) r told kept with
    where
      go : (x : Outcome Solution) → solve q (length blank) ≡ x → From q (length blank) x → (r : Result Divided Denied)
          → without_pieces r ≡ largest_of x → area ≡ output_of x blank → (pieces ≡ true → PiecesWith x r) → EngineTold r
      go (found y) g f (Ok r) t o w =
          let e : ◌≡◌ {A = Found} (record { size = r.size; length = r.length; set = r.set }) (found_set y) = cc in
          set_found y g f r e o w
      go (found y) g f (Err d) t o w = let z : ◌≡◌ {A = ℕ} 0 1 = cc in absurd (omega arith)
      go (naming p n) g f (Ok r) t o w = let z : ◌≡◌ {A = ℕ} 0 1 = cc in absurd (omega arith)
      go (naming p n) g f (Err d) t o w =
          let e : Naming p (named_of n) ≡ d = cc in
          subst (λ (d : Denied). EngineTold (Err d)) e
          (rw f.0 (record { of = n; is = in_room (naming p n) g; named = refl; by = f.1 }))
      go (refused p) g f (Ok r) t o w = let z : ◌≡◌ {A = ℕ} 0 1 = cc in absurd (omega arith)
      go (refused p) g f (Err d) t o w =
          let e : Refused p ≡ d = cc in
          subst (λ (d : Denied). EngineTold (Err d)) e (in_room (refused p) g)

-- ---- what is said of a claim

module _ (q : Task) (claim : List ℕ) where
  abbrev ClaimTold : Result ℕ Denied → Type 0
  ClaimTold (Ok n) = solve_task false q (some claim) ≡ claim_reply n
  ClaimTold (Err d) = DeniedTold q.first q.required claim (solve_task false q (some claim)) d

  claim_told : ClaimTold (claim_of (judge q claim))
  unfolding result_of solve_task and_then
  claim_told = go (judge q claim) refl (judged_from q claim)
    where
      go : (x : Outcome ℕ) → judge q claim ≡ x → Judged q claim x → ClaimTold (claim_of x)
      go (found n) g f = ap (λ (y : Outcome ℕ). and_then y claim_reply) g
      go (naming p n) g f = record { of = n; is = ap (λ (y : Outcome ℕ). and_then y claim_reply) g; named = refl; by = f }
      go (refused p) g f = ap (λ (y : Outcome ℕ). and_then y claim_reply) g

  pub said_as : (y : Result ℕ Denied) → y ≡ claim_of (judge q claim) → ClaimTold y
  said_as y e = subst ClaimTold (sym e) claim_told

pub list_base : (at : Begin) (body : Body) → of_claim body ≡ false → base_of at body ≡ at.list
unfolding base_of
list_base at body e = rw e refl

-- ---- the job

pub job_long : (job : List ℕ) → job_limit < length job → solve_job job ≡ refused (record { reason = JobTooLong; body = J; place = 0 })
unfolding solve_job
job_long job h = rw (lt-leb (length job) job_limit h) refl

job_bodies : (job : List ℕ) (b : Option Bodies) → length job ≤ job_limit → bodies_of job ≡ b → solve_job job ≡ solve_bodies b
unfolding solve_job
job_bodies job b h e = rw (le-leb (length job) job_limit h) (ap solve_bodies e)

pub job_broken : (job : List ℕ) → length job ≤ job_limit → None ≡ layout_of job
    → solve_job job ≡ refused (record { reason = Contents; body = J; place = 0 })
unfolding solve_bodies bodies_of bodies_from
job_broken job h e = job_bodies job none h (ap (bodies_from job) (sym e))

pub begin_is : {a b c x y z : ℕ} → a ≡ x → b ≡ y → c ≡ z
    → ◌≡◌ {A = Begin} (record { tree = a; list = b; claim = c }) (record { tree = x; list = y; claim = z })
begin_is d f g = rw (d, f, g) refl

module _ (job : List ℕ) (t : Table) (e : Some t ≡ layout_of job) where
  -- the parts of the job that the contents name
  pub first_ends : place_of t.first + length (bytes (span_in job t.first)) ≤ length job
  unfolding lookup entries letter_of
  first_ends = body_ends job t (sym e) S

  pub list_ends : place_of t.list + length (bytes (span_in job t.list)) ≤ length job
  unfolding lookup entries letter_of
  list_ends = body_ends job t (sym e) K

  pub claim_ends : place_of t.claim + length (bytes (span_in job t.claim)) ≤ length job
  unfolding lookup entries letter_of
  claim_ends = body_ends job t (sym e) C

  pub bodies_base : ◌≡◌ {A = Begin} (record { tree = place_of t.first; list = place_of t.list; claim = place_of t.claim }) (begin_in job)
  unfolding body_place lookup entries letter_of
  bodies_base = ap (λ (l : Layout). record { tree = body_place S l; list = body_place K l; claim = body_place C l }) e

  -- what is asked by them
  module _ (fits : length job ≤ job_limit) (edition : Edition) (d : edition ≡ edition_of t.head.stated) (first second list : List ℕ)
      (ef : first ≡ bytes (span_in job t.first)) (es : second ≡ bytes (span_in job t.second)) (el : list ≡ bytes (span_in job t.list)) where
    abbrev pub parts_task : Task
    parts_task = task (record { strict = t.head.strict; edition = edition }) first second list

    parts_solved : solve_task t.head.pieces parts_task (span_in job t.claim) ≡ solve_job job
    unfolding solve_bodies bodies_of bodies_from first_text second_text list_text claim_text part lookup entries letter_of
    parts_solved = rw (d, ef, es, el) (sym (job_bodies job _ fits (ap (bodies_from job) (sym e))))

    pub job_solved : t.claim ≡ None → solve_task t.head.pieces parts_task none ≡ solve_job job
    unfolding span_in
    job_solved k = ap (λ (s : BodySpan). solve_task t.head.pieces parts_task (span_in job s)) (sym k) ∙ parts_solved

    pub job_judged : (s : Span) → t.claim ≡ Some s → (claim : List ℕ) → claim ≡ bytes (span_in job t.claim)
        → solve_task false parts_task (some claim) ≡ solve_job job
    unfolding span_in solve_task
    job_judged s k claim c =
        ap (λ (x : List ℕ). solve_task t.head.pieces parts_task (some x)) (c ∙ ap (λ (s : BodySpan). bytes (span_in job s)) k)
        ∙ ap (λ (s : BodySpan). solve_task t.head.pieces parts_task (span_in job s)) (sym k)
        ∙ parts_solved

-- the answer to bodies is that to their job
pub answer_is : (job : List ℕ) (room : ℕ) {at : Begin} {x : Outcome Reply} → at ≡ begin_in job → x ≡ solve_job job
    → answered at room x ≡ answer_to job room
unfolding answer_to
answer_is job room d e = ap₂ (λ (b : Begin) (y : Outcome Reply). answered b room y) d e

pub output_is : (job out : List ℕ) {x : Outcome Reply} → x ≡ solve_job job → job_output x out ≡ job_output (solve_job job) out
output_is job out e = ap (λ (y : Outcome Reply). job_output y out) e

-- ---- the two sorts of lines

module _ (pieces : Bool) (first : List ℕ) (r : Divided) (tree : List ℕ) where
  pub lines_divided : pieces ≡ true → placed_pieces first r.pieces ++ placed_record first r.set tree ≡ lines_at pieces first r.pieces r.set tree
  unfolding lines_at
  lines_divided e = rw e refl

  pub lines_plain : pieces ≡ false → placed_record first r.set tree ≡ lines_at pieces first r.pieces r.set tree
  unfolding lines_at
  lines_plain e = rw e refl
