-- What the reading of contents promises, in the papers' order; each theorem cites one name. Assumes nothing.
use Prim.Native.Nat.{ℕ, ◌^◌, ◌<◌}
use mathlib.Core.Path.{◌≡◌, refl}
use mathlib.Core.Logic.{◌↔◌}
use mathlib.Core.Bool.{Bool, true, false}
use mathlib.Core.List.{List, [], ◌++◌}
use mathlib.Core.Option.{Option, some, none}
use lib.ListN.{length}
use Rattle.std.specs.Prelude.{Some, None}
use Rattle.trees.specs.declared.Body.{Body}
use Rattle.trees.specs.declared.Body.TheVariants.{S, T, K, C}
use Rattle.trees.specs.declared.Edition.TheVariants as edition
use Rattle.trees.specs.Refusals.{value, row}
use Rattle.trees.specs.Words.{bytes_of, Within}
use Rattle.contents.specs.declared.Head.{Head}
use Rattle.contents.specs.declared.Table.{Table}
use Rattle.contents.specs.Contents.{Stated, BodyLength}
use Rattle.contents.specs.Contents.{digit_limit, Bodies, plain, under, edition_of, part, bytes, claim_text, claiming, before_claim, base_bodies, base_text}
use Rattle.contents.specs.Contents.{line, entry_line, strict_text, edition_text, headed, sizes, lined, job_of, may_claim, compatible}
use Rattle.contents.specs.Contents.{WellFormed, begins, layout_of, bodies_of, body_place, LaidAs, layout_says}
use Rattle.contents.proofs.BrokenLaws
use Rattle.contents.proofs.ContentsLaws
use Rattle.contents.proofs.RuleLaws

-- "A job is a table of contents, then the bodies": a job is read as these bodies exactly if it is theirs, each body that a job needs is
-- there, each length has at most five digits, and the lines allow the bodies.
pub bodies_promise : (job : List ℕ) (b : Bodies) → (bodies_of job ≡ some b) ↔ ((job ≡ job_of b) × WellFormed b)
bodies_promise = ContentsLaws.contents_exactly

-- A job is made of one choice of bodies and lines only.
pub bodies_once : (b c : Bodies) → WellFormed b → WellFormed c → job_of b ≡ job_of c → b ≡ c
bodies_once = ContentsLaws.contents_once

-- "joined directly": in the layout of a job each body begins after the table and the bodies before it.
pub layout_promise : (job : List ℕ) (t : Table) → (layout_says (layout_of job) ≡ value t) ↔ LaidAs job t
layout_promise = RuleLaws.laid_says

-- Number 10, "the contents break their rules", at J 0, exactly if no bodies make this job. J is the byte 74.
pub broken_promise : (job : List ℕ) → (layout_says (layout_of job) ≡ row 10 74 0) ↔ ((b : Bodies) → job ≡ job_of b → WellFormed b → ⊥)
broken_promise = RuleLaws.broken_says

-- Each body is in the job at its place.
pub body_promise : (job : List ℕ) (b : Bodies) → bodies_of job ≡ some b → (body : Body) → Within job (body_place body (layout_of job)) (bytes (part body b))
body_promise = ContentsLaws.body_stands

-- "three lines `S n`, `T n`, `K n`, an empty line, then the first tree, the second tree and the required list": a job without
-- further lines is the base's job, and is read as it was before there were any.
pub base_job : (first second list job : List ℕ)
    → (bodies_of job ≡ some (base_bodies first second list)) ↔ ((job ≡ base_text first second list) × WellFormed (base_bodies first second list))
base_job = RuleLaws.base_exactly

-- C-11: "A job may carry `strict` as its first contents line"; C-15: "A contents line `E 1` or `E 2`, after `strict` if that is there";
-- C-17: "A contents line `pieces`, after `strict` and `E`". A job's text is these lines, if it has them, then the job of the same bodies
-- without them.
pub head_line : (b : Bodies) → job_of b ≡ headed b.head (job_of (under plain b))
head_line = RuleLaws.head_line

-- A job without these lines may have any bodies.
pub plain_allows : (vs : List BodyLength) → compatible plain vs ≡ true
plain_allows = RuleLaws.plain_allows

-- With other lines in their place that allow its bodies, or none, a job is read as the same bodies.
pub head_exchanged : (job : List ℕ) (b : Bodies) → bodies_of job ≡ some b → (h : Head) → compatible h (sizes b) ≡ true
    → bodies_of (headed h (job_of (under plain b))) ≡ some (under h b)
head_exchanged = RuleLaws.head_exchanged

-- A job that is read is strict exactly if it begins with that line.
pub strict_exactly : (job : List ℕ) (b : Bodies) → bodies_of job ≡ some b → b.head.strict ≡ begins (line (bytes_of "strict")) job
strict_exactly = RuleLaws.strict_exactly

-- C-15: "and a job without it has edition 1", as the same job with `E 1` has.
pub edition_unstated : (edition_of None ≡ edition.One) × (edition_of None ≡ edition_of (Some edition.One))
unfolding edition_of
edition_unstated = (refl, refl)

-- A job that is read has edition 2 exactly if `E 2` is its first line, or the line after `strict`.
pub edition_exactly : (job : List ℕ) (b : Bodies) → bodies_of job ≡ some b
    → (edition_of b.head.stated ≡ edition.Two) ↔ (begins (strict_text b.head.strict ++ line (bytes_of "E 2")) job ≡ true)
edition_exactly = RuleLaws.edition_exactly

-- "Any other `E` line is number 10"
pub other_edition : (strict : Bool) (rest : List ℕ) → begins (line (bytes_of "E 1")) (bytes_of "E" ++ rest) ≡ false
    → begins (line (bytes_of "E 2")) (bytes_of "E" ++ rest) ≡ false → layout_of (strict_text strict ++ (bytes_of "E" ++ rest)) ≡ None
other_edition = BrokenLaws.other_edition

-- A second one is number 10.
pub second_edition : (h : Head) → (h.stated ≡ None → ⊥) → (rest : List ℕ) → layout_of (headed h (bytes_of "E" ++ rest)) ≡ None
second_edition = BrokenLaws.second_edition

-- One before `strict` is number 10.
pub early_edition : (stated : Stated) → (stated ≡ None → ⊥) → (rest : List ℕ)
    → layout_of (edition_text stated ++ (line (bytes_of "strict") ++ rest)) ≡ None
early_edition = BrokenLaws.early_edition

-- One after the line of S is number 10.
pub late_edition : (h : Head) (n : ℕ) → n < 10 ^ digit_limit → (rest : List ℕ) → layout_of (headed h (entry_line S n ++ (bytes_of "E" ++ rest))) ≡ None
late_edition = BrokenLaws.late_edition

-- C-16: "A body with letter C, listed and read right after K": its line follows that of K, and its bytes follow those of K.
pub claim_line_lem : (first second list : List ℕ) (h : Head) (claim : List ℕ)
    → job_of (under h (claiming (some claim) (base_bodies first second list)))
    ≡ headed h (entry_line S (length first) ++ (entry_line T (length second) ++ (entry_line K (length list) ++ (entry_line C (length claim)
    ++ (line [] ++ (first ++ (second ++ (list ++ claim))))))))
claim_line_lem = RuleLaws.claim_text_lem

-- A job that is read has a claim exactly if the letter C follows the line of K.
pub claim_exactly : (job : List ℕ) (b : Bodies) → bodies_of job ≡ some b
    → (claim_text b ≡ none → ⊥) ↔ (begins (headed b.head (lined before_claim (sizes b) (bytes_of "C"))) job ≡ true)
claim_exactly = RuleLaws.claim_exactly

-- With another claim, the empty claim or none, a job whose lines allow a claim is read as the same lines, trees and list with that claim.
pub claim_exchanged : (job : List ℕ) (b : Bodies) → bodies_of job ≡ some b → may_claim b.head ≡ true → (claim : Option (List ℕ))
    → length (bytes claim) < 10 ^ digit_limit → bodies_of (job_of (claiming claim b)) ≡ some (claiming claim b)
claim_exchanged = RuleLaws.claim_exchanged

-- `C 0`, the claim of the empty set, is not the lack of a claim.
pub empty_claim : (b : Bodies) → WellFormed b → job_of (claiming (some []) b) ≡ job_of (claiming none b) → ⊥
empty_claim = RuleLaws.empty_claim

-- A line for C before that of K is number 10.
pub early_claim : (h : Head) (m n : ℕ) → m < 10 ^ digit_limit → n < 10 ^ digit_limit → (rest : List ℕ)
    → layout_of (headed h (entry_line S m ++ (entry_line T n ++ (bytes_of "C" ++ rest)))) ≡ None
early_claim = BrokenLaws.early_claim

-- A second line for C is number 10.
pub second_claim : (h : Head) (m n k c : ℕ) → m < 10 ^ digit_limit → n < 10 ^ digit_limit → k < 10 ^ digit_limit → c < 10 ^ digit_limit → (rest : List ℕ)
    → layout_of (headed h (entry_line S m ++ (entry_line T n ++ (entry_line K k ++ (entry_line C c ++ (bytes_of "C" ++ rest)))))) ≡ None
second_claim = BrokenLaws.second_claim

-- C-17: "A contents line `pieces`, after `strict` and `E`": a job that is read asks for pieces exactly if that line follows these two, or
-- those of them that the job has.
pub pieces_exactly : (job : List ℕ) (b : Bodies) → bodies_of job ≡ some b
    → b.head.pieces ≡ begins (strict_text b.head.strict ++ (edition_text b.head.stated ++ line (bytes_of "pieces"))) job
pieces_exactly = RuleLaws.pieces_exactly

-- A second one is number 10.
pub second_pieces : (h : Head) → h.pieces ≡ true → (rest : List ℕ) → layout_of (headed h (bytes_of "pieces" ++ rest)) ≡ None
second_pieces = BrokenLaws.second_pieces

-- One before `strict` or before the line of the edition is number 10.
pub early_pieces : (h : Head) → h.pieces ≡ true → (rest : List ℕ)
    → (layout_of (headed h (bytes_of "strict" ++ rest)) ≡ None) × (layout_of (headed h (bytes_of "E" ++ rest)) ≡ None)
early_pieces = BrokenLaws.early_pieces

-- One after the line of S is number 10.
pub late_pieces : (h : Head) (n : ℕ) → n < 10 ^ digit_limit → (rest : List ℕ)
    → layout_of (headed h (entry_line S n ++ (bytes_of "pieces" ++ rest))) ≡ None
late_pieces = BrokenLaws.late_pieces

-- "A job with both this line and C is number 10": with the line, no job that is read has a claim.
pub pieces_no_claim : (job : List ℕ) (b : Bodies) → bodies_of job ≡ some b → b.head.pieces ≡ true → claim_text b ≡ none
pieces_no_claim = RuleLaws.pieces_no_claim

-- And with the line, the letter C after the line of K is number 10, whatever follows it: `C 0` too.
pub pieces_then_claim : (h : Head) → h.pieces ≡ true → (m n k : ℕ) → m < 10 ^ digit_limit → n < 10 ^ digit_limit → k < 10 ^ digit_limit
    → (rest : List ℕ) → layout_of (headed h (entry_line S m ++ (entry_line T n ++ (entry_line K k ++ (bytes_of "C" ++ rest))))) ≡ None
pieces_then_claim = BrokenLaws.pieces_then_claim
