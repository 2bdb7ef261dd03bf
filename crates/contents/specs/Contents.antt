-- The table of contents of a job. 01, "Job and printed result": "three lines `S n`, `T n`, `K n`, an empty line, then the
-- first tree, the second tree and the required list, joined directly". C-11: "A job may carry `strict` as its first
-- contents line". C-15: "A contents line `E 1` or `E 2`, after `strict` if that is there, picks the edition". C-16: "A body with letter C,
-- listed and read right after K and written like K, holds the claimed set". C-17: "A contents line `pieces`, after `strict` and `E`"; "A job
-- with both this line and C is number 10".
use Rattle.std.specs.Prelude.{ℕ, ◌+◌, ◌^◌, ◌<◌, ◌≡◌, Bool, true, false, cond, ◌&&◌, ◌||◌, not, List, [], ◌∷◌, ◌++◌, map, eqb, leb, length, drop, get_or, Some, None, option_map}
use Rattle.std.specs.Prelude as std
use Rattle.std.proofs.Math.Option.{Option, some, none}
use Rattle.trees.specs.declared.Body.{Body}
use Rattle.trees.specs.declared.Body.TheVariants.{S, T, K, C, J}
use Rattle.trees.specs.declared.Edition.{Edition}
use Rattle.trees.specs.declared.Edition.TheVariants as edition
use Rattle.trees.specs.declared.Reason.TheVariants.{Contents}
use Rattle.trees.specs.Refusals.{letter_of, Said, value, row_of}
use Rattle.trees.specs.Stored.{part_of}
use Rattle.trees.specs.Words.{bytes_of}
use Rattle.contents.specs.declared.Head.{Head}
use Rattle.contents.specs.declared.HeadAt.{HeadAt}
use Rattle.contents.specs.declared.Line.{Line}
use Rattle.contents.specs.declared.Placed.{Placed}
use Rattle.contents.specs.declared.Span.{Span}
use Rattle.contents.specs.declared.StatedAt.{StatedAt}
use Rattle.contents.specs.declared.Table.{Table}
use Rattle.contents.specs.declared.decimal.Number.{Number}
use Rattle.decimals.specs.Decimal.{decimal_of, digit_run, value_from}

-- how many digits a length may have: "contents lengths may have five digits" (C-14), of one to five
abbrev pub digit_limit : ℕ
digit_limit = 5

-- what a job states of its edition, if it does
abbrev pub Stated : Type 0
Stated = std.Option Edition

-- what a job lists of a body: its length in bytes, or no line
abbrev pub BodyLength : Type 0
BodyLength = std.Option ℕ

-- where a body is in a job, if the job has it
abbrev pub BodySpan : Type 0
BodySpan = std.Option Span

-- the place of the next byte, or none: the contents break their rules
abbrev pub Next : Type 0
Next = std.Option ℕ

-- a number that was read, or none
abbrev pub Digits : Type 0
Digits = std.Option Number

-- what a job holds, or none: the contents break their rules
abbrev pub Layout : Type 0
Layout = std.Option Table

-- whether a line is there, and the place of the next byte
pub record Flag : Type 0 where
  pub on : Bool
  pub next : ℕ

-- what is listed of a body, and what comes after its line
pub record Listing : Type 0 where
  pub listed : BodyLength
  pub next : Next

-- where a body is, and what comes after it
pub record Placing : Type 0 where
  pub span : BodySpan
  pub next : Next

-- ---- what a job holds

-- the lines before those of the bodies, and the bodies in the order of `entries`, `none` for one that the job leaves out
pub record Bodies : Type 0 where
  pub head : Head
  pub parts : List (Option (List ℕ))

-- no line before those of the bodies
abbrev pub plain : Head
plain = record { strict = false; stated = None; pieces = false }

-- the same bodies under these lines
abbrev pub under : Head → Bodies → Bodies
under h b = record { head = h; parts = b.parts }

-- C-15: the line "picks the edition, and a job without it has edition 1"
unfoldable pub edition_of : Stated → Edition
edition_of None = edition.One
edition_of (Some e) = e

-- a body in the table of contents: whether each job has it
pub record Entry : Type 0 where
  pub body : Body
  pub needed : Bool

abbrev pub always : Body → Entry
always body = record { body = body; needed = true }

abbrev pub perhaps : Body → Entry
perhaps body = record { body = body; needed = false }

-- the bodies in the order in which a job lists and holds them: "three lines `S n`, `T n`, `K n`"; C-16: C "right after K"
unfoldable pub entries : List Entry
entries = always S ∷ always T ∷ always K ∷ perhaps C ∷ []

-- those before C
abbrev pub before_claim : List Entry
before_claim = always S ∷ always T ∷ always K ∷ []

-- what a list in the order of some entries has for a body
unfoldable pub lookup : {A : Type 0} → A → Body → List Entry → List A → A
unfolding letter_of
lookup d body [] xs = d
lookup d body (e ∷ es) [] = d
lookup d body (e ∷ es) (x ∷ xs) = cond (eqb (letter_of e.body) (letter_of body)) x (lookup d body es xs)

unfoldable pub part : Body → Bodies → Option (List ℕ)
unfolding lookup entries
part body b = lookup none body entries b.parts

-- such a list with something else for a body
unfoldable pub exchanged : {A : Type 0} → Body → A → List Entry → List A → List A
unfolding letter_of
exchanged body a [] xs = xs
exchanged body a (e ∷ es) [] = []
exchanged body a (e ∷ es) (x ∷ xs) = cond (eqb (letter_of e.body) (letter_of body)) (a ∷ xs) (x ∷ exchanged body a es xs)

-- the bytes of a body: nothing where there is none
abbrev pub bytes : Option (List ℕ) → List ℕ
bytes none = []
bytes (some x) = x

unfoldable pub first_text : Bodies → List ℕ
unfolding part
first_text b = bytes (part S b)

unfoldable pub second_text : Bodies → List ℕ
unfolding part
second_text b = bytes (part T b)

unfoldable pub list_text : Bodies → List ℕ
unfolding part
list_text b = bytes (part K b)

-- C-16: the claim, if the job has one; one of no bytes is the claim of the empty set
unfoldable pub claim_text : Bodies → Option (List ℕ)
unfolding part
claim_text b = part C b

-- the same lines, trees and list with another claim, or none
abbrev pub claiming : Option (List ℕ) → Bodies → Bodies
claiming claim b = record { head = b.head; parts = exchanged C claim entries b.parts }

-- the bodies of a job that has the base's lines alone
abbrev pub base_bodies : (first second list : List ℕ) → Bodies
base_bodies first second list = record { head = plain; parts = some first ∷ some second ∷ some list ∷ none ∷ [] }

-- ---- what a job is

-- "Lines end with one byte 10."
unfoldable pub line : List ℕ → List ℕ
line words = words ++ (10 ∷ [])

-- `S n`
unfoldable pub entry_line : Body → ℕ → List ℕ
unfolding line letter_of decimal_of
entry_line body n = line (letter_of body ∷ 32 ∷ decimal_of n)

-- the base's job: "three lines `S n`, `T n`, `K n`, an empty line, then the first tree, the second tree and the required list, joined
-- directly"
abbrev pub base_text : (first second list : List ℕ) → List ℕ
base_text first second list =
    entry_line S (length first) ++ (entry_line T (length second) ++ (entry_line K (length list) ++ (line [] ++ (first ++ (second ++ list)))))

-- a line that a job may carry, if it does
abbrev pub line_if : Bool → List ℕ → List ℕ
line_if true words = line words
line_if false words = []

-- C-11: "A job may carry `strict`"
unfoldable pub strict_text : Bool → List ℕ
unfolding line bytes_of
strict_text strict = line_if strict (bytes_of "strict")

-- C-15: "A contents line `E 1` or `E 2`", or none of them
unfoldable pub edition_text : Stated → List ℕ
unfolding line bytes_of
edition_text None = []
edition_text (Some edition.One) = line (bytes_of "E 1")
edition_text (Some edition.Two) = line (bytes_of "E 2")

-- C-17: "A contents line `pieces`"
unfoldable pub pieces_text : Bool → List ℕ
unfolding line bytes_of
pieces_text pieces = line_if pieces (bytes_of "pieces")

-- the lines before those of the bodies, in order: C-11, "as its first contents line"; C-15, "after `strict` if that is there"; C-17,
-- "after `strict` and `E`"
abbrev pub head_lines : Head → List (List ℕ)
head_lines h = strict_text h.strict ∷ edition_text h.stated ∷ pieces_text h.pieces ∷ []

-- some lines, then these bytes
abbrev pub lines_then : List (List ℕ) → List ℕ → List ℕ
lines_then [] rest = rest
lines_then (l ∷ ls) rest = l ++ lines_then ls rest

abbrev pub headed : Head → List ℕ → List ℕ
headed h rest = lines_then (head_lines h) rest

-- what a job lists of a body: "Each n is the body's length in bytes"
abbrev pub listed_of : Option (List ℕ) → BodyLength
listed_of none = None
listed_of (some x) = Some (length x)

abbrev pub sizes : Bodies → List BodyLength
sizes b = map listed_of b.parts

-- the line of a body, or none
unfoldable pub listed_text : Body → BodyLength → List ℕ
unfolding entry_line
listed_text body None = []
listed_text body (Some n) = entry_line body n

-- the lines of the bodies, then these bytes
abbrev pub lined : List Entry → List BodyLength → List ℕ → List ℕ
lined [] vs rest = rest
lined (e ∷ es) [] rest = rest
lined (e ∷ es) (v ∷ vs) rest = listed_text e.body v ++ lined es vs rest

-- all lines, "an empty line"
unfoldable pub table_text : Bodies → List ℕ
unfolding strict_text edition_text pieces_text entries listed_text line
table_text b = headed b.head (lined entries (sizes b) (line []))

-- the bodies, "joined directly"
unfoldable pub joined_parts : List (Option (List ℕ)) → List ℕ
joined_parts [] = []
joined_parts (p ∷ ps) = bytes p ++ joined_parts ps

-- "A job is a table of contents, then the bodies"
unfoldable pub job_of : Bodies → List ℕ
unfolding table_text joined_parts
job_of b = table_text b ++ joined_parts b.parts

-- a body that a job needs is listed, and a length has one to five digits
abbrev pub FitsLine : Entry → BodyLength → Type 0
FitsLine e None = e.needed ≡ false
FitsLine e (Some n) = n < 10 ^ digit_limit

abbrev pub FitsEntries : List Entry → List BodyLength → Type 0
FitsEntries [] [] = Prim.Unit {0}
FitsEntries [] (v ∷ vs) = ⊥
FitsEntries (e ∷ es) [] = ⊥
FitsEntries (e ∷ es) (v ∷ vs) = FitsLine e v × FitsEntries es vs

-- whether a job with these lines may have a claim: C-17, "A job with both this line and C is number 10"
unfoldable pub may_claim : Head → Bool
may_claim h = not h.pieces

-- whether a job with these lines may list this of the claim; `C 0` lists one
unfoldable pub claim_allowed : Head → BodyLength → Bool
unfolding may_claim
claim_allowed h None = true
claim_allowed h (Some n) = may_claim h

-- whether a job may have these lines together with bodies of these lengths: a further rule of this kind is a further test here
unfoldable pub compatible : Head → List BodyLength → Bool
unfolding claim_allowed lookup entries
compatible h vs = claim_allowed h (lookup None C entries vs)

-- the bodies and lines that a job can have
pub record WellFormed (b : Bodies) : Type 0 where
  pub fits : FitsEntries entries (sizes b)
  pub together : compatible b.head (sizes b) ≡ true

-- ---- how a job is read

-- whether a text begins with these bytes
unfoldable pub begins : List ℕ → List ℕ → Bool
begins [] text = true
begins (b ∷ word) [] = false
begins (b ∷ word) (x ∷ text) = eqb x b && begins word text

-- whether these bytes are at a place, and the place after them or else the same place
unfoldable pub flag_at : List ℕ → ℕ → List ℕ → Flag
unfolding begins
flag_at job at word = record { on = begins word (drop at job); next = cond (begins word (drop at job)) (at + length word) at }

-- the line `E 1`, else the line `E 2`, else nothing: at most one of them is taken
unfoldable pub stated_of : Flag → Flag → StatedAt
stated_of one two =
    cond one.on (record { stated = Some edition.One; next = one.next })
    (cond two.on (record { stated = Some edition.Two; next = two.next }) (record { stated = None; next = two.next }))

unfoldable pub stated_at : List ℕ → ℕ → StatedAt
unfolding stated_of flag_at line bytes_of
stated_at job at = stated_of (flag_at job at (line (bytes_of "E 1"))) (flag_at job at (line (bytes_of "E 2")))

-- the lines before those of the bodies, each taken where it is next, and the place after them
unfoldable pub head_at : List ℕ → HeadAt
unfolding flag_at stated_at line bytes_of
head_at job =
    let strict : Flag = flag_at job 0 (line (bytes_of "strict")) in
    let edition : StatedAt = stated_at job strict.next in
    let pieces : Flag = flag_at job (edition).next (line (bytes_of "pieces")) in
    record { head = record { strict = strict.on; stated = (edition).stated; pieces = pieces.on }; next = pieces.next }

-- these bytes, or the contents break their rules
unfoldable pub word_after : List ℕ → Next → List ℕ → Next
unfolding begins
word_after job (Some at) word = cond (begins word (drop at job)) (Some (at + length word)) None
word_after job None word = None

-- "decimal, .. no leading zero except `0` itself"
unfoldable pub good_digits : List ℕ → Bool
good_digits run = leb 1 (length run) && leb (length run) digit_limit && (eqb (length run) 1 || not (eqb (get_or run 0 0) 48))

-- a number of these digits, which begin at a place, and the place after it
unfoldable pub number_of_run : List ℕ → ℕ → Digits
unfolding good_digits value_from
number_of_run run at = cond (good_digits run) (Some (record { value = value_from 0 run; next = at + length run })) None

unfoldable pub number_at : List ℕ → ℕ → Digits
unfolding number_of_run digit_run
number_at job at = number_of_run (digit_run (drop at job)) at

-- no line: the contents break their rules
abbrev pub broken_line : Listing
broken_line = record { listed = None; next = None }

-- the number is the length, and ends the line
unfoldable pub counted : List ℕ → Digits → Listing
unfolding word_after line
counted job (Some d) = record { listed = Some d.value; next = word_after job (Some d.next) (line []) }
counted job None = broken_line

-- a line `S n`, or another line where a job may leave the body out
unfoldable pub line_after : List ℕ → Next → Entry → Listing
unfolding begins counted number_at letter_of
line_after job (Some at) e =
    cond (begins (letter_of e.body ∷ 32 ∷ []) (drop at job)) (counted job (number_at job (at + 2)))
    (record { listed = None; next = cond e.needed None (Some at) })
line_after job None e = broken_line

-- a line whose next byte has a place
unfoldable pub line_of : Listing → std.Option Line
line_of l = option_map (λ n. record { listed = l.listed; next = n }) l.next

-- the lines of the bodies one after another: what they list, and the place after them
unfoldable pub sizes_after : List ℕ → Next → List Entry → List BodyLength
unfolding line_after
sizes_after job from [] = []
sizes_after job from (e ∷ es) = (line_after job from e).listed ∷ sizes_after job (line_after job from e).next es

unfoldable pub lines_after : List ℕ → Next → List Entry → Next
unfolding line_after
lines_after job from [] = from
lines_after job from (e ∷ es) = lines_after job (line_after job from e).next es

-- no body: the contents break their rules
abbrev pub nowhere : Placing
nowhere = record { span = None; next = None }

-- a body of the listed length, in the job
unfoldable pub place_after : List ℕ → Next → BodyLength → Placing
place_after job (Some at) None = record { span = None; next = Some at }
place_after job (Some at) (Some n) =
    cond (leb (at + n) (length job)) (record { span = Some (record { at = at; len = n }); next = Some (at + n) }) nowhere
place_after job None v = nowhere

-- a body after which the next byte has a place
unfoldable pub placed_of : Placing → std.Option Placed
placed_of p = option_map (λ n. record { span = p.span; next = n }) p.next

-- the bodies one after another: where they are, and the place after them
unfoldable pub spans_after : List ℕ → Next → List BodyLength → List BodySpan
unfolding place_after
spans_after job from [] = []
spans_after job from (v ∷ vs) = (place_after job from v).span ∷ spans_after job (place_after job from v).next vs

unfoldable pub bodies_after : List ℕ → Next → List BodyLength → Next
unfolding place_after
bodies_after job from [] = from
bodies_after job from (v ∷ vs) = bodies_after job (place_after job from v).next vs

-- the table of bodies in the order of `entries`, and the list of a table
abbrev pub table_of : Head → List BodySpan → Table
table_of h ps =
    record {
      head = h;
      first = get_or ps 0 None;
      second = get_or ps 1 None;
      list = get_or ps 2 None;
      claim = get_or ps 3 None;
    }

abbrev pub spans_of : Table → List BodySpan
spans_of t = t.first ∷ t.second ∷ t.list ∷ t.claim ∷ []

-- "The lengths must add up to exactly the rest of the job"
unfoldable pub laid_out : List ℕ → Table → Next → Layout
laid_out job t (Some at) = cond (eqb at (length job)) (Some t) None
laid_out job t None = None

-- where the bodies are in a job, if its lines and bodies go together
unfoldable pub layout_of : List ℕ → Layout
unfolding head_at entries sizes_after lines_after word_after line spans_after bodies_after laid_out compatible
layout_of job =
    let h : HeadAt = head_at job in
    let vs : List BodyLength = sizes_after job (Some h.next) entries in
    let from : Next = word_after job (lines_after job (Some h.next) entries) (line []) in
    cond (compatible h.head vs) (laid_out job (table_of h.head (spans_after job from vs)) (bodies_after job from vs)) None

-- the bytes there
unfoldable pub span_in : List ℕ → BodySpan → Option (List ℕ)
unfolding part_of
span_in job None = none
span_in job (Some s) = some (part_of s.at s.len job)

abbrev pub bodies_in : List ℕ → Table → Bodies
bodies_in job t = record { head = t.head; parts = map (span_in job) (spans_of t) }

unfoldable pub bodies_from : List ℕ → Layout → Option Bodies
unfolding span_in
bodies_from job (Some t) = some (bodies_in job t)
bodies_from job None = none

-- the bodies, or none where the contents break their rules
unfoldable pub bodies_of : List ℕ → Option Bodies
unfolding bodies_from layout_of
bodies_of job = bodies_from job (layout_of job)

unfoldable pub place_of : BodySpan → ℕ
place_of None = 0
place_of (Some s) = s.at

-- where a body begins in the job, 0 if there is none
unfoldable pub body_place : Body → Layout → ℕ
unfolding place_of lookup entries
body_place body (Some t) = place_of (lookup None body entries (spans_of t))
body_place body None = 0

-- where bodies of these lengths are, one after another from a place on
unfoldable pub spans_from : ℕ → List BodyLength → List BodySpan
spans_from at [] = []
spans_from at (None ∷ vs) = None ∷ spans_from at vs
spans_from at (Some n ∷ vs) = Some (record { at = at; len = n }) ∷ spans_from (at + n) vs

-- the layout of a job: its bodies follow the table, one after another
pub record LaidAs (job : List ℕ) (t : Table) : Type 0 where
  pub bodies : Bodies
  pub text : job ≡ job_of bodies
  pub fits : WellFormed bodies
  pub table : t ≡ table_of bodies.head (spans_from (length (table_text bodies)) (sizes bodies))

-- the paper's number and values for a layout: 10, "the contents break their rules", J 0
unfoldable pub layout_says : Layout → Said Table
unfolding row_of
layout_says (Some t) = value t
layout_says None = row_of (record { reason = Contents; body = J; place = 0 })
