-- The contents are read exactly if they follow their rules: a job is that of its bodies, each of a length that the digits can tell.
-- Assumes nothing.
use Prim.Native.Nat.{ℕ, ◌+◌, ◌≤◌}
use mathlib.Core.Path.{◌≡◌, refl, sym, ◌∙◌, ap, ap₂, subst}
use mathlib.Core.Bool.{Bool, true, false, cond}
use mathlib.Core.Logic.{◌⊎◌, inl, inr, ◌↔◌}
use mathlib.Core.List.{List, [], ◌∷◌, ◌++◌, map, append_assoc}
use mathlib.Core.Option.{Option, some, none}
use native.Mathlib.Omega.{arith}
use lib.Dec.{eqb}
use lib.ListN.{length, drop, length-append, length-drop}
use lib.Seq.{drop-length}
use borrow.Author.Tests.{eq-eqb, eqb-true}
use Rattle.std.specs.Prelude.{Some, None}
use Rattle.trees.specs.declared.Body.{Body}
use Rattle.trees.specs.Refusals.{letter_of}
use Rattle.trees.specs.Words.{Within}
use Rattle.trees.proofs.Bools.{bool_cases, clash}
use Rattle.contents.specs.declared.Head.{Head}
use Rattle.contents.specs.declared.Table.{Table}
use Rattle.contents.specs.Contents.{BodyLength, BodySpan, Next, Layout}
use Rattle.contents.specs.Contents.{Bodies, Entry, entries, lookup, part, bytes, line, entry_line, listed_text, head_lines, lines_then, headed, sizes, lined}
use Rattle.contents.specs.Contents.{table_text, joined_parts, job_of, FitsEntries, compatible, WellFormed}
use Rattle.contents.specs.Contents.{head_at, word_after, sizes_after, lines_after, spans_after, bodies_after}
use Rattle.contents.specs.Contents.{table_of, spans_of, laid_out, layout_of, span_in, bodies_in, bodies_from, bodies_of, place_of, body_place, spans_from, LaidAs}
use Rattle.contents.proofs.BeginsLaws.{among, Opens}
use Rattle.contents.proofs.HeadLaws.{opens_past, HeadIs, head_written, head_text_lem}
use Rattle.contents.proofs.PlaceLaws.{Here, Took, Apart, LinesAre, lines_written, word_written, word_took, LinesTook, lines_took}
use Rattle.contents.proofs.SpanLaws.{SpansAre, spans_written, AllInside, SpansTook, spans_took, lookup_part, lookup_inside, span_within, span_ends}
use Rattle.contents.proofs.StepLaws.{laid_if}

pub none_some : {A : Type 0} (x : A) → none ≡ some x → ⊥
none_some x e = let z : ◌≡◌ {A = ℕ} 0 1 = cc in omega arith

-- ---- the text of a table

lined_append : (es : List Entry) (vs : List BodyLength) (x y : List ℕ) → lined es vs x ++ y ≡ lined es vs (x ++ y)
lined_append [] vs x y = refl
lined_append (e ∷ es) [] x y = refl
lined_append (e ∷ es) (v ∷ vs) x y =
    append_assoc (listed_text e.body v) (lined es vs x) y ∙ ap (λ (l : List ℕ). listed_text e.body v ++ l) (lined_append es vs x y)

then_append : (ls : List (List ℕ)) (x y : List ℕ) → lines_then ls x ++ y ≡ lines_then ls (x ++ y)
then_append [] x y = refl
then_append (l ∷ ls) x y = append_assoc l (lines_then ls x) y ∙ ap (λ (r : List ℕ). l ++ r) (then_append ls x y)

pub table_text_lem : (b : Bodies) → job_of b ≡ headed b.head (lined entries (sizes b) (10 ∷ joined_parts b.parts))
unfolding job_of table_text line
table_text_lem b =
    then_append (head_lines b.head) (lined entries (sizes b) (10 ∷ [])) (joined_parts b.parts)
    ∙ ap (headed b.head) (lined_append entries (sizes b) (10 ∷ []) (joined_parts b.parts))

-- the first line is that of S
pub entries_open : (vs : List BodyLength) (rest : List ℕ) → FitsEntries entries vs → Opens (83 ∷ []) (lined entries vs rest)
unfolding entries listed_text entry_line line letter_of among
entries_open [] rest f = absurd f
entries_open (None ∷ vs) rest f = clash refl f.0
entries_open (Some n ∷ vs) rest f = refl

-- no two lines begin alike, nor one like the empty line
pub entries_apart : Apart entries (10 ∷ [])
unfolding entries letter_of among
entries_apart = (refl, (refl, (refl, (refl, tt))))

ends_open : (rest : List ℕ) → Opens (10 ∷ []) (10 ∷ rest)
unfolding among
ends_open rest = refl

-- a table has the spans of its entries
four : (job : List ℕ) (h : Head) (start from : Next)
    → spans_of (table_of h (spans_after job from (sizes_after job start entries))) ≡ spans_after job from (sizes_after job start entries)
unfolding entries sizes_after spans_after
four job h start from = refl

-- the layout, if these lines and bodies go together
abbrev layout_if : List ℕ → Head → List BodyLength → Next → Layout
layout_if job h vs from = cond (compatible h vs) (laid_out job (table_of h (spans_after job from vs)) (bodies_after job from vs)) None

-- ---- what is written is read

module _ (b : Bodies) (good : WellFormed b) where
  abbrev job : List ℕ
  job = job_of b

  abbrev lines : List ℕ
  lines = lined entries (sizes b) (10 ∷ joined_parts b.parts)

  abbrev start : Next
  start = Some (head_at job).next

  abbrev from : Next
  from = word_after job (lines_after job start entries) (10 ∷ [])

  pub head_of : HeadIs job b.head lines
  head_of =
      head_written job b.head lines (opens_past b.head lines (entries_open (sizes b) (10 ∷ joined_parts b.parts) good.fits))
      (table_text_lem b)

  lines_of : LinesAre job start entries (sizes b) (10 ∷ joined_parts b.parts)
  lines_of =
      lines_written job entries (sizes b) (10 ∷ joined_parts b.parts) (10 ∷ []) start good.fits entries_apart
      (ends_open (joined_parts b.parts))
      (record { at = (head_at job).next; is = refl; rest = head_of.next.rest; inside = head_of.next.inside })

  bodies_here : Here job from (joined_parts b.parts)
  bodies_here = word_written job (10 ∷ []) (joined_parts b.parts) (lines_after job start entries) lines_of.next

  spans_of_lem : SpansAre job from b.parts bodies_here.at
  spans_of_lem = spans_written job b.parts from bodies_here

  layout_is : layout_of job ≡ Some (table_of b.head (spans_after job from (sizes b)))
  unfolding layout_of line
  layout_is =
      let end = spans_of_lem.next in
      let t : Table = table_of b.head (spans_after job from (sizes b)) in
      let at_end : end.at ≡ length job = omega (arith, end.inside, ap (length {A = ℕ}) end.rest, length-drop end.at job) in
      ap₂ (λ (h : Head) (vs : List BodyLength). layout_if job h vs from) head_of.head_is lines_of.listed
      ∙ ap (λ (c : Bool). cond c (laid_out job t (bodies_after job from (sizes b))) None) good.together
      ∙ sym (laid_if job t (bodies_after job from (sizes b)) end.at end.is true (eq-eqb end.at (length job) at_end))

  pub layout_written : layout_of job ≡ Some (table_of b.head (spans_from (length (table_text b)) (sizes b)))
  unfolding job_of
  layout_written =
      let place : bodies_here.at ≡ length (table_text b) =
      omega (
        arith,
        bodies_here.inside,
        ap (length {A = ℕ}) bodies_here.rest,
        length-drop bodies_here.at job,
        length-append (table_text b) (joined_parts b.parts),
      ) in
      layout_is
      ∙ ap (λ (ss : List BodySpan). Some (table_of b.head ss))
      (spans_of_lem.spans ∙ ap (λ (n : ℕ). spans_from n (sizes b)) place)

  pub contents_written : bodies_of job ≡ some b
  unfolding bodies_of bodies_from
  contents_written =
      let whole : spans_of (table_of b.head (spans_after job from (sizes b))) ≡ spans_after job from (sizes b) =
      subst (λ (vs : List BodyLength). spans_of (table_of b.head (spans_after job from vs)) ≡ spans_after job from vs) lines_of.listed
      (four job b.head start from) in
      ap (bodies_from job) layout_is
      ∙ ap (λ (ps : List (Option (List ℕ))). some (record { head = b.head; parts = ps })) (ap (map (span_in job)) whole ∙ spans_of_lem.parts)

-- ---- what is read is written

not_laid : {t : Table} → None ≡ Some t → ⊥
not_laid e = let z : ◌≡◌ {A = ℕ} 0 1 = cc in omega arith

settled : (c : Bool) (l : Layout) (t : Table) → cond c l None ≡ Some t → (c ≡ true) × (l ≡ Some t)
settled true l t e = (refl, e)
settled false l t e = absurd (not_laid e)

-- the last body ends where the job does
record Ended (job : List ℕ) (made t : Table) (end : Next) : Type 0 where
  same : made ≡ t
  is : end ≡ Some (length job)

ended : (job : List ℕ) (made t : Table) (end : Next) → laid_out job made end ≡ Some t → Ended job made t end
unfolding laid_out
ended job made t None e = absurd (not_laid e)
ended job made t (Some at) e = go (bool_cases (eqb at (length job)))
  where
    go : (eqb at (length job) ≡ true) ⊎ (eqb at (length job) ≡ false) → Ended job made t (Some at)
    go (inr h) = absurd (not_laid (rw h at e))
    go (inl h) =
        let g : Some made ≡ Some t = rw h at e in
        record { same = cc; is = ap (λ (n : ℕ). Some n) (eqb-true at (length job) h) }

-- the bodies of a job that was laid out
pub record Read (job : List ℕ) (t : Table) : Type 0 where
  pub text : job ≡ job_of (bodies_in job t)
  pub fits : WellFormed (bodies_in job t)
  pub inside : AllInside job (spans_of t)

module _ (job : List ℕ) (t : Table) (e : layout_of job ≡ Some t) where
  abbrev first_line : Next
  first_line = Some (head_at job).next

  abbrev vs : List BodyLength
  vs = sizes_after job first_line entries

  abbrev first_body : Next
  first_body = word_after job (lines_after job first_line entries) (10 ∷ [])

  abbrev ss : List BodySpan
  ss = spans_after job first_body vs

  abbrev made : Table
  made = table_of (head_at job).head ss

  allowed : (compatible (head_at job).head vs ≡ true) × (laid_out job made (bodies_after job first_body vs) ≡ Some t)
  unfolding layout_of line
  allowed = settled (compatible (head_at job).head vs) (laid_out job made (bodies_after job first_body vs)) t e

  last : Ended job made t (bodies_after job first_body vs)
  last = ended job made t (bodies_after job first_body vs) allowed.1

  bodies_took : SpansTook job first_body vs (length job)
  bodies_took = spans_took job vs first_body (length job) last.is (drop-length job)

  end_took : Took job (lines_after job first_line entries) (10 ∷ drop bodies_took.text.at job) bodies_took.text.at
  end_took = word_took job (10 ∷ []) (lines_after job first_line entries) bodies_took.text.at bodies_took.text.is

  all_lines : LinesTook job first_line entries end_took.at
  all_lines = lines_took job entries first_line end_took.at end_took.is

  abbrev parts : List (Option (List ℕ))
  parts = map (span_in job) ss

  made_text : job ≡ headed (head_at job).head (lined entries vs (10 ∷ joined_parts parts))
  made_text =
      let at_first : all_lines.text.at ≡ (head_at job).next = let g = all_lines.text.is in cc in
      head_text_lem job
      ∙ ap (headed (head_at job).head)
      (ap (λ (n : ℕ). drop n job) (sym at_first)
      ∙ all_lines.text.rest
      ∙ ap (lined entries vs) (end_took.rest ∙ ap (λ (l : List ℕ). 10 ∷ l) bodies_took.text.rest))

  made_read : Read job made
  made_read =
      let b : Bodies = record { head = (head_at job).head; parts = parts } in
      let whole : bodies_in job made ≡ b =
      ap (λ (xs : List BodySpan). record { head = (head_at job).head; parts = map (span_in job) xs }) (four job (head_at job).head first_line first_body) in
      let sized : sizes b ≡ vs = bodies_took.sizes in
      let text : job ≡ job_of b =
      made_text ∙ ap (λ (xs : List BodyLength). headed (head_at job).head (lined entries xs (10 ∷ joined_parts parts))) (sym sized) ∙ sym (table_text_lem b) in
      record {
        text = text ∙ ap job_of (sym whole);
        fits =
            subst WellFormed (sym whole)
            (record {
              fits = subst (FitsEntries entries) (sym sized) all_lines.fits;
              together = ap (compatible (head_at job).head) sized ∙ allowed.0;
            });
        inside = subst (AllInside job) (sym (four job (head_at job).head first_line first_body)) bodies_took.inside;
      }

  pub laid_read : Read job t
  laid_read = subst (Read job) last.same made_read

-- ---- both ways

pub contents_read : (job : List ℕ) (b : Bodies) → bodies_of job ≡ some b → (job ≡ job_of b) × WellFormed b
unfolding bodies_of bodies_from
contents_read job b e = go (layout_of job) refl e
  where
    go : (l : Layout) → layout_of job ≡ l → bodies_from job l ≡ some b → (job ≡ job_of b) × WellFormed b
    go None k h = absurd (none_some b h)
    go (Some t) k h =
        let w = laid_read job t k in
        let m : bodies_in job t ≡ b = cc in
        subst (λ (c : Bodies). (job ≡ job_of c) × WellFormed c) m (w.text, w.fits)

-- a job is read as these bodies exactly if it is theirs
pub contents_exactly : (job : List ℕ) (b : Bodies) → (bodies_of job ≡ some b) ↔ ((job ≡ job_of b) × WellFormed b)
contents_exactly job b =
    (contents_read job b, λ (h : (job ≡ job_of b) × WellFormed b). ap bodies_of h.0 ∙ contents_written b h.1)

-- a job is that of one choice of bodies and lines
pub contents_once : (b c : Bodies) → WellFormed b → WellFormed c → job_of b ≡ job_of c → b ≡ c
contents_once b c p q e = let h = sym (contents_written b p) ∙ ap bodies_of e ∙ contents_written c q in cc

pub laid_exactly : (job : List ℕ) (t : Table) → (layout_of job ≡ Some t) ↔ LaidAs job t
laid_exactly job t = (
  λ (e : layout_of job ≡ Some t).
      let w = laid_read job t e in
      let b : Bodies = bodies_in job t in
      let k : Some t ≡ Some (table_of b.head (spans_from (length (table_text b)) (sizes b))) =
      sym e ∙ ap layout_of w.text ∙ layout_written b w.fits in
      record { bodies = b; text = w.text; fits = w.fits; table = cc },
  λ (w : LaidAs job t).
      ap layout_of w.text ∙ layout_written w.bodies w.fits ∙ ap (λ (u : Table). Some u) (sym w.table),
)

-- each body stands where its place says
pub body_stands : (job : List ℕ) (b : Bodies) → bodies_of job ≡ some b → (body : Body) → Within job (body_place body (layout_of job)) (bytes (part body b))
unfolding bodies_of bodies_from body_place part
body_stands job b e body = go (layout_of job) refl e
  where
    go : (l : Layout) → layout_of job ≡ l → bodies_from job l ≡ some b → Within job (body_place body l) (bytes (lookup none body entries b.parts))
    go None k h = absurd (none_some b h)
    go (Some t) k h =
        let m : bodies_in job t ≡ b = cc in
        let s : BodySpan = lookup None body entries (spans_of t) in
        subst (λ (c : Bodies). Within job (place_of s) (bytes (lookup none body entries c.parts))) m
        (subst (λ (p : Option (List ℕ)). Within job (place_of s) (bytes p)) (sym (lookup_part job body entries (spans_of t)))
        (span_within job s (lookup_inside job body entries (spans_of t) (laid_read job t k).inside)))

-- and ends in the job
pub body_ends : (job : List ℕ) (t : Table) → layout_of job ≡ Some t → (body : Body)
    → place_of (lookup None body entries (spans_of t)) + length (bytes (span_in job (lookup None body entries (spans_of t)))) ≤ length job
body_ends job t e body =
    span_ends job (lookup None body entries (spans_of t)) (lookup_inside job body entries (spans_of t) (laid_read job t e).inside)

-- no bodies are those of a job whose contents break their rules
pub broken_exactly : (job : List ℕ) → (layout_of job ≡ None) ↔ ((b : Bodies) → job ≡ job_of b → WellFormed b → ⊥)
unfolding bodies_of bodies_from
broken_exactly job = (
  λ (e : layout_of job ≡ None) (b : Bodies) (t : job ≡ job_of b) (f : WellFormed b).
      none_some b (sym (ap (bodies_from job) e) ∙ (contents_exactly job b).1 (t, f)),
  λ (never : (b : Bodies) → job ≡ job_of b → WellFormed b → ⊥). go never (layout_of job) refl,
)
  where
    go : ((b : Bodies) → job ≡ job_of b → WellFormed b → ⊥) → (l : Layout) → layout_of job ≡ l → l ≡ None
    go never None k = refl
    go never (Some t) k = let w = laid_read job t k in absurd (never (bodies_in job t) w.text w.fits)
