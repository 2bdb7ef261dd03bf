-- The line of number 8 or 14, from the three places and sizes that the answer to a job names, is the printed line. Assumes nothing.
use Prim.Native.Nat.{ℕ, ◌+◌}
use mathlib.Core.Path.{◌≡◌, refl, sym, ◌∙◌, ap, ap₂, subst}
use mathlib.Core.Bool.{Bool, true, false, cond}
use mathlib.Core.List.{List, [], ◌∷◌, map}
use mathlib.Core.Option.{Option, some, none}
use lib.Dec.{leb}
use lib.ListN.{length}
use Rattle.trees.specs.declared.Reason.TheVariants.{JobTooLong}
use Rattle.trees.specs.declared.Body.TheVariants.{S, K, C, J}
use Rattle.trees.specs.declared.Refusal.{Refusal}
use Rattle.trees.specs.Label.{Label, is_in}
use Rattle.trees.specs.Text.{tree_room}
use Rattle.trees.specs.declared.Edition.{Edition}
use Rattle.trees.specs.declared.Edition.TheVariants.{One}
use Rattle.trees.specs.Edition.{key, folded, keyed}
use Rattle.trees.specs.Token.{Token}
use Rattle.trees.specs.Tree.{Tree}
use Rattle.lists.specs.ReadList.{folded_list, keys_of}
use Rattle.trees.specs.Words.{Within}
use Rattle.agreement.specs.Places.{place_in, place_of_label, token_of_key, spelled_in, name_in}
use Rattle.agreement.proofs.EditionText.{spelled_size, spelled_key, name_one}
use Rattle.agreement.specs.Closer.{holds}
use Rattle.agreement.proofs.SetLaws.{in_head, in_tail}
use Rattle.agreement.proofs.PlaceLaws.{listed_key, within_part}
use Rattle.mast.specs.declared.Named.{Named}
use Rattle.pairs.specs.Outcome.{Outcome, refused, naming, found, and_then, Trio, trio}
use Rattle.mast.specs.NamedLabels.{named_label, named_of}
use Rattle.queries.specs.Query.{disagreement}
use Rattle.mast.specs.Largest.{Solution, solution, solution_text, solve}
use Rattle.claims.specs.Judge.{claim_disagreement, judge}
use Rattle.mast.specs.declared.Denied.{Denied}
use Rattle.mast.specs.declared.Denied.TheVariants.{Naming, Refused}
use Rattle.std.specs.Prelude.{Result, Ok, Err}
use Rattle.contents.specs.Contents.{Bodies, bytes, first_text, list_text, claim_text, bodies_of}
use Rattle.contents.proofs.Promises.{body_promise}
use Rattle.job.specs.Printed.{job_limit, task_of, Reply, set_reply, claim_reply, solve_task, solve_bodies, solve_job, reply_lines, printed_of, printed}
use Rattle.lines.specs.Lines.{record_lines, label_in, named_line}
use Rattle.lines.specs.Output.{line_answer}
use Rattle.job.specs.Answered.{lines_answer, record_answer, begin_in, of_claim, base_of, moved_label, moved_by, answered, answer_to}
use Rattle.job.proofs.AnswerLaws.{list_base}
use Rattle.job.proofs.ShownLaws.{Stands, shown_label, three_listed, set_printed, naming_printed}
use Rattle.job.proofs.SolvedLaws.{NamedBy, From, solution_from, Judged, judged_from, three_in, three_held, three_shown, label_listed}

-- what three labels for a job come from: a list of the job, which begins at `base`, and its first tree
record NamedJob (job : List ℕ) (base : ℕ) (n : Trio) : Type 0 where
  first : List ℕ
  listed : List ℕ
  tree : Within job (begin_in job).tree first
  list : Within job base listed
  by : NamedBy first listed n

abbrev JobNames : List ℕ → Outcome Reply → Type 0
JobNames job (found x) = Prim.Unit {0}
JobNames job (naming q n) = NamedJob job (base_of (begin_in job) q.body) n
JobNames job (refused q) = Prim.Unit {0}

job_names : (job : List ℕ) → JobNames job (solve_job job)
unfolding solve_job solve_bodies solve_task and_then first_text list_text claim_text
job_names job = go (leb (length job) job_limit) (bodies_of job) refl
  where
    set : (d : Bodies) → bodies_of job ≡ some d → (x : Outcome Solution) → From (task_of d) tree_room x → JobNames job (and_then x (set_reply d.head.pieces))
    set d f (found r) w = tt
    set d f (naming q n) w =
        record {
          first = first_text d;
          listed = list_text d;
          tree = body_promise job d f S;
          list = subst (λ (i : ℕ). Within job i (list_text d)) (sym (list_base (begin_in job) q.body w.0)) (body_promise job d f K);
          by = w.1;
        }
    set d f (refused q) w = tt

    claimed : (d : Bodies) → bodies_of job ≡ some d → (claim : List ℕ) → claim_text d ≡ some claim → (x : Outcome ℕ) → Judged (task_of d) claim x
        → JobNames job (and_then x claim_reply)
    claimed d f claim h (found n) w = tt
    claimed d f claim h (naming q n) w =
        record {
          first = first_text d;
          listed = cond (of_claim q.body) claim (list_text d);
          tree = body_promise job d f S;
          list = unfold base_of in within (of_claim q.body);
          by = w;
        }
      where
        within : (b : Bool) → Within job (cond b (begin_in job).claim (begin_in job).list) (cond b claim (list_text d))
        within true = subst (λ (o : Option (List ℕ)). Within job (begin_in job).claim (bytes o)) h (body_promise job d f C)
        within false = body_promise job d f K
    claimed d f claim h (refused q) w = tt

    task : (d : Bodies) → bodies_of job ≡ some d → (c : Option (List ℕ)) → claim_text d ≡ c → JobNames job (solve_task d.head.pieces (task_of d) c)
    task d f none h = set d f (solve (task_of d) tree_room) (solution_from (task_of d) tree_room)
    task d f (some claim) h = claimed d f claim h (judge (task_of d) claim) (judged_from (task_of d) claim)

    go : (q : Bool) (o : Option Bodies) → bodies_of job ≡ o
        → JobNames job (cond q (solve_bodies o) (refused (record { reason = JobTooLong; body = J; place = 0 })))
    go true none f = tt
    go true (some d) f = task d f (claim_text d) refl
    go false o f = tt

module _ (job : List ℕ) (base : ℕ) (n : Trio) (w : NamedJob job base n) where
  abbrev e : Edition
  e = n.edition

  abbrev L : List Label
  L = keys_of n.edition n.list

  -- as the first tree spells it
  label_spelled : (x : Label) → is_in x L ≡ true
      → Stands job ((begin_in job).tree + place_in (folded e n.first) 0 x) (spelled_in e n.first x) (name_in e n.first x)
  label_spelled x h =
      let k = three_shown w.first w.listed n w.by x h in
      record {
        at = within_part job (begin_in job).tree w.first (place_in (folded e n.first) 0 x) (spelled_in e n.first x) w.tree k.at;
        good = k.good;
        spelled = k.spelled;
      }

  label_named : (x : Label) → is_in x L ≡ true
      → label_in job (moved_label (begin_in job).tree base (named_label n x)).start (moved_label (begin_in job).tree base (named_label n x)).size
      ≡ name_in e n.first x
  unfolding moved_label named_label
  label_named x h =
      ap (label_in job ((begin_in job).tree + place_in (folded e n.first) 0 x)) (sym (spelled_size e n.first x))
      ∙ shown_label job ((begin_in job).tree + place_in (folded e n.first) 0 x) (spelled_in e n.first x) (name_in e n.first x) (label_spelled x h)

  named_line_lem : (q : Refusal) → named_line job q (moved_by (begin_in job).tree base (named_of n)) ≡ printed_of (naming q n)
  unfolding named_line moved_by named_of
  named_line_lem q =
      let l = three_in w.first w.listed n w.by in
      rw (label_named n.labels.one l.0, label_named n.labels.two l.1, label_named n.labels.three l.2)
      (sym (naming_printed q n))

  -- in the list
  label_listed_in : (x : Label) → is_in x L ≡ true → Within job (base + place_of_label (folded_list e n.list) 0 x) (token_of_key e n.list x)
  label_listed_in x h =
      within_part job base w.listed (place_of_label (folded_list e n.list) 0 x) (token_of_key e n.list x) w.list
      (label_listed w.first w.listed n w.by x h).shown

  -- the three labels stand in the job's list where the answer's places say, as tokens that have their keys, and in its first tree, as it
  -- spells them
  labels_shown : (x : Label) → is_in x (n.labels.one ∷ n.labels.two ∷ n.labels.three ∷ []) ≡ true
      → Within job (base + place_of_label (folded_list e n.list) 0 x) (token_of_key e n.list x) × (key e (token_of_key e n.list x) ≡ x)
      × Within job ((begin_in job).tree + place_in (folded e n.first) 0 x) (spelled_in e n.first x) × (key e (spelled_in e n.first x) ≡ x)
  labels_shown x h =
      let l = three_in w.first w.listed n w.by in
      let i = three_listed n.labels.one n.labels.two n.labels.three L l x h in (
        label_listed_in x i,
        listed_key e n.list x i,
        (label_spelled x i).at,
        spelled_key e n.first x (three_held w.first w.listed n w.by x i),
      )

-- the line that places and sizes of an answer give is this one
abbrev NamedLine : List ℕ → List ℕ → Result ℕ Denied → Type 0
NamedLine job line (Ok n) = Prim.Unit {0}
NamedLine job line (Err (Naming q n)) = named_line job q n ≡ line
NamedLine job line (Err (Refused q)) = Prim.Unit {0}

record_named : (job line lines : List ℕ) (room : ℕ) → NamedLine job line (record_answer lines room)
unfolding record_answer lines_answer
record_named job line lines room = go (line_answer lines room)
  where
    go : (l : Result ℕ Refusal) → NamedLine job line (lines_answer l)
    go (Ok n) = tt
    go (Err q) = tt

pub naming_line_lem : (job : List ℕ) (room : ℕ) (q : Refusal) (n : Named) → answer_to job room ≡ Err (Naming q n)
    → named_line job q n ≡ printed job
unfolding answer_to answered printed
naming_line_lem job room q n e = subst (NamedLine job (printed_of (solve_job job))) e (go (solve_job job) (job_names job))
  where
    go : (x : Outcome Reply) → JobNames job x → NamedLine job (printed_of x) (answered (begin_in job) room x)
    go (found x) w = record_named job (printed_of (found x)) (reply_lines x) room
    go (naming p m) w = named_line_lem job (base_of (begin_in job) p.body) m w p
    go (refused p) w = tt

module _ (job : List ℕ) (e : Edition) (s : Tree) (xs : List Token) (a b c : Label) where
  pub eight_shown : solve_job job ≡ naming disagreement (trio e s xs a b c) → (x : Label) → is_in x (a ∷ b ∷ c ∷ []) ≡ true
      → Within job ((begin_in job).list + place_of_label (folded_list e xs) 0 x) (token_of_key e xs x) × (key e (token_of_key e xs x) ≡ x)
      × Within job ((begin_in job).tree + place_in (folded e s) 0 x) (spelled_in e s x) × (key e (spelled_in e s x) ≡ x)
  unfolding base_of
  eight_shown k = labels_shown job (begin_in job).list (trio e s xs a b c) (subst (JobNames job) k (job_names job))

  pub fourteen_shown : solve_job job ≡ naming claim_disagreement (trio e s xs a b c) → (x : Label) → is_in x (a ∷ b ∷ c ∷ []) ≡ true
      → Within job ((begin_in job).claim + place_of_label (folded_list e xs) 0 x) (token_of_key e xs x) × (key e (token_of_key e xs x) ≡ x)
      × Within job ((begin_in job).tree + place_in (folded e s) 0 x) (spelled_in e s x) × (key e (spelled_in e s x) ≡ x)
  unfolding base_of
  fourteen_shown k = labels_shown job (begin_in job).claim (trio e s xs a b c) (subst (JobNames job) k (job_names job))

-- under edition 1 the names of the set are its labels
names_one : (s : Tree) (X : List Label) → ((x : Label) → is_in x X ≡ true → holds (keyed One s) x ≡ true) → map (name_in One s) X ≡ X
names_one s [] h = refl
names_one s (x ∷ X) h =
    ap₂ {C = List Label} ◌∷◌ (name_one s x (h x (in_head x X))) (names_one s X (λ (y : Label) (k : is_in y X ≡ true). h y (in_tail y x X k)))

pub one_printed : (s t : Tree) (xs : List Token) (X : List Label) → ((x : Label) → is_in x X ≡ true → holds (keyed One s) x ≡ true)
    → printed_of (set_reply false (solution One s t xs X)) ≡ record_lines X (solution_text (solution One s t xs X))
one_printed s t xs X h =
    set_printed false (solution One s t xs X) ∙ ap (λ (N : List Label). record_lines N (solution_text (solution One s t xs X))) (names_one s X h)
