-- Jobs by their lines: with further lines, and without them. Assumes nothing.
use Prim.Native.Nat.{ℕ, ◌^◌, ◌<◌}
use mathlib.Core.Path.{◌≡◌, refl, sym, ◌∙◌, ap, ap₂, subst}
use mathlib.Core.Bool.{Bool, true, false, not}
use mathlib.Core.Logic.{◌↔◌}
use mathlib.Core.List.{List, [], ◌∷◌, ◌++◌, map, append-nil}
use mathlib.Core.Option.{Option, some, none}
use native.Mathlib.Omega.{arith}
use lib.ListN.{length, drop}
use lib.Seq.{drop-append_seam}
use Rattle.std.specs.Prelude.{Some, None}
use Rattle.trees.specs.declared.Body.TheVariants.{S, T, K, C}
use Rattle.trees.specs.declared.Edition.TheVariants as edition
use Rattle.trees.specs.Refusals.{letter_of, value, row, row_of, number_of}
use Rattle.trees.specs.Words.{bytes_of}
use Rattle.trees.proofs.Bools.{clash}
use Rattle.contents.specs.declared.Head.{Head}
use Rattle.contents.specs.declared.Table.{Table}
use Rattle.contents.specs.Contents.{Stated, BodyLength, Layout}
use Rattle.contents.specs.Contents.{digit_limit, Bodies, plain, under, edition_of, Entry, perhaps, entries, lookup, part, exchanged}
use Rattle.contents.specs.Contents.{bytes, claim_text, claiming, before_claim, base_bodies, base_text, line, entry_line}
use Rattle.contents.specs.Contents.{strict_text, edition_text, pieces_text, head_lines, lines_then, headed, listed_of, sizes, listed_text, lined}
use Rattle.contents.specs.Contents.{joined_parts, job_of, FitsEntries, FitsLine, may_claim, claim_allowed, compatible, WellFormed}
use Rattle.contents.specs.Contents.{begins, flag_at, head_at, layout_of, bodies_of, LaidAs, layout_says}
use Rattle.contents.proofs.BeginsLaws.{begins_own, begins_both}
use Rattle.contents.proofs.HeadLaws.{opens_past}
use Rattle.contents.proofs.ContentsLaws.{none_some, table_text_lem, entries_open, head_of, contents_written, contents_read, contents_exactly, contents_once, laid_exactly, broken_exactly}

-- ---- the paper's row

pub laid_says : (job : List ℕ) (t : Table) → (layout_says (layout_of job) ≡ value t) ↔ LaidAs job t
unfolding layout_says row_of
laid_says job t = (
  λ (e : layout_says (layout_of job) ≡ value t). (laid_exactly job t).0 (go (layout_of job) e),
  λ (w : LaidAs job t). ap layout_says ((laid_exactly job t).1 w),
)
  where
    go : (l : Layout) → layout_says l ≡ value t → l ≡ Some t
    go None e = let z : ◌≡◌ {A = ℕ} 0 1 = cc in absurd (omega arith)
    go (Some u) e = let same : u ≡ t = cc in ap (λ (v : Table). Some v) same

pub broken_says : (job : List ℕ) → (layout_says (layout_of job) ≡ row 10 74 0) ↔ ((b : Bodies) → job ≡ job_of b → WellFormed b → ⊥)
unfolding layout_says row_of number_of letter_of
broken_says job = (
  λ (e : layout_says (layout_of job) ≡ row 10 74 0). (broken_exactly job).0 (go (layout_of job) e),
  λ (w : (b : Bodies) → job ≡ job_of b → WellFormed b → ⊥). ap layout_says ((broken_exactly job).1 w),
)
  where
    go : (l : Layout) → layout_says l ≡ row 10 74 0 → l ≡ None
    go None e = refl
    go (Some u) e = let z : ◌≡◌ {A = ℕ} 0 1 = cc in absurd (omega arith)

-- ---- the lines before those of the bodies

pub head_line : (b : Bodies) → job_of b ≡ headed b.head (job_of (under plain b))
unfolding strict_text edition_text pieces_text
head_line b = table_text_lem b ∙ ap (headed b.head) (sym (table_text_lem (under plain b)))

pub plain_allows : (vs : List BodyLength) → compatible plain vs ≡ true
unfolding compatible
plain_allows vs = go (lookup None C entries vs)
  where
    go : (v : BodyLength) → claim_allowed plain v ≡ true
    go None = refl
    go (Some n) = refl

pub head_exchanged : (job : List ℕ) (b : Bodies) → bodies_of job ≡ some b → (h : Head) → compatible h (sizes b) ≡ true
    → bodies_of (headed h (job_of (under plain b))) ≡ some (under h b)
head_exchanged job b e h goes =
    ap bodies_of (sym (head_line (under h b)))
    ∙ contents_written (under h b) (record { fits = (contents_read job b e).1.fits; together = goes })

pub strict_exactly : (job : List ℕ) (b : Bodies) → bodies_of job ≡ some b → b.head.strict ≡ begins (line (bytes_of "strict")) job
unfolding head_at flag_at
strict_exactly job b e =
    let w = contents_read job b e in
    sym (ap (λ (h : Head). h.strict) (head_of b w.1).head_is) ∙ ap (begins (line (bytes_of "strict"))) (sym w.0)

one_not_two : edition.One ≡ edition.Two → ⊥
one_not_two e = let z : ◌≡◌ {A = ℕ} 0 1 = cc in omega arith

two_exactly : (stated : Stated) (rest : List ℕ) → begins (line (bytes_of "E 2")) rest ≡ false
    → (edition_of stated ≡ edition.Two) ↔ (begins (line (bytes_of "E 2")) (edition_text stated ++ rest) ≡ true)
unfolding edition_of edition_text begins line bytes_of
two_exactly None rest e = (λ h. absurd (one_not_two h), λ h. clash h e)
two_exactly (Some edition.One) rest e = (λ h. absurd (one_not_two h), λ h. clash h refl)
two_exactly (Some edition.Two) rest e = (λ h. begins_own (line (bytes_of "E 2")) rest, λ h. refl)

pub edition_exactly : (job : List ℕ) (b : Bodies) → bodies_of job ≡ some b
    → (edition_of b.head.stated ≡ edition.Two) ↔ (begins (strict_text b.head.strict ++ line (bytes_of "E 2")) job ≡ true)
edition_exactly job b e =
    let w = contents_read job b e in
    let rest : List ℕ = lined entries (sizes b) (10 ∷ joined_parts b.parts) in
    let last : List ℕ = pieces_text b.head.pieces ++ rest in
    let unstated : Head = record { strict = false; stated = None; pieces = b.head.pieces } in
    let none-next = (opens_past unstated rest (entries_open (sizes b) (10 ∷ joined_parts b.parts) w.1.fits)).edition refl in
    let two : List ℕ = line (bytes_of "E 2") in
    let h : begins (strict_text b.head.strict ++ two) job ≡ begins two (edition_text b.head.stated ++ last) =
    ap (begins (strict_text b.head.strict ++ two)) (w.0 ∙ table_text_lem b)
    ∙ begins_both (strict_text b.head.strict) two (edition_text b.head.stated ++ last) in
    subst (λ (q : Bool). (edition_of b.head.stated ≡ edition.Two) ↔ (q ≡ true)) (sym h) (two_exactly b.head.stated last none-next.two)

begins_then : (ls : List (List ℕ)) (word text : List ℕ) → begins (lines_then ls word) (lines_then ls text) ≡ begins word text
begins_then [] word text = refl
begins_then (l ∷ ls) word text = begins_both l (lines_then ls word) (lines_then ls text) ∙ begins_then ls word text

own_line : (on : Bool) (rest : List ℕ) → begins (line (bytes_of "pieces")) rest ≡ false → on ≡ begins (line (bytes_of "pieces")) (pieces_text on ++ rest)
unfolding pieces_text
own_line true rest e = sym (begins_own (line (bytes_of "pieces")) rest)
own_line false rest e = sym e

pub pieces_exactly : (job : List ℕ) (b : Bodies) → bodies_of job ≡ some b
    → b.head.pieces ≡ begins (strict_text b.head.strict ++ (edition_text b.head.stated ++ line (bytes_of "pieces"))) job
pieces_exactly job b e =
    let w = contents_read job b e in
    let rest : List ℕ = lined entries (sizes b) (10 ∷ joined_parts b.parts) in
    let before : List (List ℕ) = strict_text b.head.strict ∷ edition_text b.head.stated ∷ [] in
    let other = (opens_past plain rest (entries_open (sizes b) (10 ∷ joined_parts b.parts) w.1.fits)).pieces refl in
    own_line b.head.pieces rest other
    ∙ sym (begins_then before (line (bytes_of "pieces")) (pieces_text b.head.pieces ++ rest))
    ∙ ap (begins (lines_then before (line (bytes_of "pieces")))) (sym (w.0 ∙ table_text_lem b))

-- ---- the bodies, one by one

module _ (first second list : List ℕ) where
  base_text_lem : job_of (base_bodies first second list) ≡ base_text first second list
  unfolding entries listed_text strict_text edition_text pieces_text joined_parts line
  base_text_lem =
      table_text_lem (base_bodies first second list)
      ∙ ap (λ (l : List ℕ). entry_line S (length first) ++ (entry_line T (length second) ++ (entry_line K (length list) ++ (10 ∷ (first ++ (second ++ l))))))
      (append-nil list)

  pub base_exactly : (job : List ℕ)
      → (bodies_of job ≡ some (base_bodies first second list)) ↔ ((job ≡ base_text first second list) × WellFormed (base_bodies first second list))
  base_exactly job =
      subst (λ (l : List ℕ). (bodies_of job ≡ some (base_bodies first second list)) ↔ ((job ≡ l) × WellFormed (base_bodies first second list))) base_text_lem
      (contents_exactly job (base_bodies first second list))

  pub claim_text_lem : (h : Head) (claim : List ℕ) → job_of (under h (claiming (some claim) (base_bodies first second list)))
      ≡ headed h (entry_line S (length first) ++ (entry_line T (length second) ++ (entry_line K (length list) ++ (entry_line C (length claim)
      ++ (line [] ++ (first ++ (second ++ (list ++ claim))))))))
  unfolding entries exchanged letter_of listed_text joined_parts line
  claim_text_lem h claim =
      table_text_lem (under h (claiming (some claim) (base_bodies first second list)))
      ∙ ap (λ (l : List ℕ). headed h (entry_line S (length first) ++ (entry_line T (length second) ++ (entry_line K (length list)
      ++ (entry_line C (length claim) ++ (10 ∷ (first ++ (second ++ (list ++ l)))))))))
      (append-nil claim)

-- the bodies that a job can have
record Four (parts : List (Option (List ℕ))) : Type 0 where
  s : Option (List ℕ)
  t : Option (List ℕ)
  k : Option (List ℕ)
  c : Option (List ℕ)
  is : parts ≡ s ∷ t ∷ k ∷ c ∷ []

four_parts : (parts : List (Option (List ℕ))) → FitsEntries entries (map listed_of parts) → Four parts
unfolding entries
four_parts [] f = absurd f
four_parts (s ∷ []) f = absurd f.1
four_parts (s ∷ t ∷ []) f = absurd f.1.1
four_parts (s ∷ t ∷ k ∷ []) f = absurd f.1.1.1
four_parts (s ∷ t ∷ k ∷ c ∷ []) f = record { s = s; t = t; k = k; c = c; is = refl }
four_parts (s ∷ t ∷ k ∷ c ∷ p ∷ ps) f = absurd f.1.1.1.1

-- a job has a claim exactly if the letter C follows the line of K
letter_exactly : (claim : Option (List ℕ)) (rest : List ℕ)
    → (claim ≡ none → ⊥) ↔ (begins (bytes_of "C") (listed_text C (listed_of claim) ++ (10 ∷ rest)) ≡ true)
unfolding begins bytes_of listed_text entry_line line letter_of
letter_exactly none rest = (λ h. absurd (h refl), λ h. clash h refl)
letter_exactly (some c) rest = (λ h. refl, λ h e. none_some c (sym e))

begins_lined : (es : List Entry) (vs : List BodyLength) (word text : List ℕ) → begins (lined es vs word) (lined es vs text) ≡ begins word text
begins_lined [] vs word text = refl
begins_lined (e ∷ es) [] word text = refl
begins_lined (e ∷ es) (v ∷ vs) word text =
    begins_both (listed_text e.body v) (lined es vs word) (lined es vs text) ∙ begins_lined es vs word text

pub claim_exactly : (job : List ℕ) (b : Bodies) → bodies_of job ≡ some b
    → (claim_text b ≡ none → ⊥) ↔ (begins (headed b.head (lined before_claim (sizes b) (bytes_of "C"))) job ≡ true)
unfolding claim_text part lookup entries letter_of
claim_exactly job b e =
    let w = contents_read job b e in
    let p = four_parts b.parts w.1.fits in
    go p (w.0 ∙ table_text_lem b)
  where
    go : Four b.parts → job ≡ headed b.head (lined entries (sizes b) (10 ∷ joined_parts b.parts))
        → (lookup none C entries b.parts ≡ none → ⊥) ↔ (begins (headed b.head (lined before_claim (sizes b) (bytes_of "C"))) job ≡ true)
    go p text =
        let vs : List BodyLength = listed_of p.s ∷ listed_of p.t ∷ listed_of p.k ∷ listed_of p.c ∷ [] in
        let rest : List ℕ = listed_text C (listed_of p.c) ++ (10 ∷ joined_parts b.parts) in
        let same : sizes b ≡ vs = ap (map listed_of) p.is in
        let h : begins (headed b.head (lined before_claim (sizes b) (bytes_of "C"))) job ≡ begins (bytes_of "C") rest =
        ap₂ (λ (xs : List BodyLength) (l : List ℕ). begins (headed b.head (lined before_claim xs (bytes_of "C"))) l) same
        (text ∙ ap (λ (xs : List BodyLength). headed b.head (lined entries xs (10 ∷ joined_parts b.parts))) same)
        ∙ begins_then (head_lines b.head) (lined before_claim vs (bytes_of "C")) (lined before_claim vs rest)
        ∙ begins_lined before_claim vs (bytes_of "C") rest in
        let found : lookup none C entries b.parts ≡ p.c = ap (lookup none C entries) p.is in
        subst (λ (q : Bool). (lookup none C entries b.parts ≡ none → ⊥) ↔ (q ≡ true)) (sym h)
        (subst (λ (c : Option (List ℕ)). (c ≡ none → ⊥) ↔ (begins (bytes_of "C") rest ≡ true)) (sym found)
        (letter_exactly p.c (joined_parts b.parts)))

-- what is listed of a claim that may not be there
absent_only : (h : Head) (claim : Option (List ℕ)) → may_claim h ≡ false → claim_allowed h (listed_of claim) ≡ true → claim ≡ none
unfolding claim_allowed
absent_only h none never e = refl
absent_only h (some c) never e = clash e never

no_claim : (b : Bodies) → WellFormed b → may_claim b.head ≡ false → claim_text b ≡ none
unfolding claim_text part compatible lookup entries letter_of
no_claim b good never =
    let p = four_parts b.parts good.fits in
    let found : lookup none C entries b.parts ≡ p.c = ap (lookup none C entries) p.is in
    let goes : claim_allowed b.head (listed_of p.c) ≡ true =
    subst (λ (ps : List (Option (List ℕ))). compatible b.head (map listed_of ps) ≡ true) p.is good.together in
    found ∙ absent_only b.head p.c never goes

-- with the line `pieces` there is none
pub asked_no_claim : (h : Head) → h.pieces ≡ true → may_claim h ≡ false
unfolding may_claim
asked_no_claim h on = ap not on

pub pieces_no_claim : (job : List ℕ) (b : Bodies) → bodies_of job ≡ some b → b.head.pieces ≡ true → claim_text b ≡ none
pieces_no_claim job b e on = no_claim b (contents_read job b e).1 (asked_no_claim b.head on)

-- another claim in its place, or none
claim_fits : (claim : Option (List ℕ)) → length (bytes claim) < 10 ^ digit_limit → FitsLine (perhaps C) (listed_of claim)
claim_fits none h = refl
claim_fits (some c) h = h

claim_goes : (h : Head) (claim : Option (List ℕ)) → may_claim h ≡ true → claim_allowed h (listed_of claim) ≡ true
unfolding claim_allowed
claim_goes h none may = refl
claim_goes h (some c) may = may

claiming_fits : (h : Head) (b : Bodies) (claim : Option (List ℕ)) → WellFormed b → may_claim h ≡ true → length (bytes claim) < 10 ^ digit_limit
    → WellFormed (under h (claiming claim b))
unfolding compatible lookup entries exchanged letter_of
claiming_fits h b claim good may small =
    let p = four_parts b.parts good.fits in
    let g : FitsEntries entries (map listed_of (p.s ∷ p.t ∷ p.k ∷ p.c ∷ [])) =
    subst (λ (ps : List (Option (List ℕ))). FitsEntries entries (map listed_of ps)) p.is good.fits in
    subst (λ (ps : List (Option (List ℕ))). WellFormed (record { head = h; parts = exchanged C claim entries ps })) (sym p.is)
    (record { fits = (g.0, (g.1.0, (g.1.1.0, (claim_fits claim small, tt)))); together = claim_goes h claim may })

pub claim_exchanged : (job : List ℕ) (b : Bodies) → bodies_of job ≡ some b → may_claim b.head ≡ true → (claim : Option (List ℕ))
    → length (bytes claim) < 10 ^ digit_limit → bodies_of (job_of (claiming claim b)) ≡ some (claiming claim b)
claim_exchanged job b e may claim small =
    contents_written (claiming claim b) (claiming_fits b.head b claim (contents_read job b e).1 may small)

-- what follows the same lines in the same text is the same
then_once : (ls : List (List ℕ)) (x y : List ℕ) → lines_then ls x ≡ lines_then ls y → x ≡ y
then_once [] x y e = e
then_once (l ∷ ls) x y e =
    then_once ls x y
    (sym (drop-append_seam l (lines_then ls x)) ∙ ap (drop (length l)) e ∙ drop-append_seam l (lines_then ls y))

-- the claim of the empty set and no claim are two texts, under any lines
pub empty_claim : (b : Bodies) → WellFormed b → job_of (claiming (some []) b) ≡ job_of (claiming none b) → ⊥
unfolding entries exchanged lookup letter_of may_claim
empty_claim b good e =
    let p = four_parts b.parts good.fits in
    let some-text : Bodies = under plain (claiming (some []) b) in
    let none-text : Bodies = under plain (claiming none b) in
    let text : job_of some-text ≡ job_of none-text =
    then_once (head_lines b.head) (job_of some-text) (job_of none-text)
    (sym (head_line (claiming (some []) b)) ∙ e ∙ head_line (claiming none b)) in
    let same =
    contents_once some-text none-text (claiming_fits plain b (some []) good refl (omega arith))
    (claiming_fits plain b none good refl (omega arith)) text in
    let parts = ap (λ (c : Bodies). lookup none C entries c.parts) same in
    let known : (c : Option (List ℕ)) → lookup none C entries (exchanged C c entries b.parts) ≡ c =
    λ (c : Option (List ℕ)). ap (λ (ps : List (Option (List ℕ))). lookup none C entries (exchanged C c entries ps)) p.is in
    none_some {A = List ℕ} [] (sym (sym (known (some [])) ∙ parts ∙ known none))
