-- The outcome of a job by the papers' sentences, from its bytes to demand 3. 01, "Job and printed result", "Agreement" and "Why a job is
-- turned down". Trees and lists are of tokens; C-12: "The comparison with the definition is made on decoded labels.", as the edition reads
-- them (C-15).
use Rattle.std.specs.Prelude.{ℕ, ◌≤◌, ◌<◌, ◌≡◌, Bool, true, false, List, map, length}
use Rattle.std.proofs.Math.Option.{Option, some, none}
use Rattle.trees.specs.declared.Reason.{Reason}
use Rattle.trees.specs.declared.Reason.TheVariants.{FirstLacks, SecondLacks, Contents, JobTooLong, NotShared}
use Rattle.trees.specs.declared.Body.{Body}
use Rattle.trees.specs.declared.Body.TheVariants.{S, T, K, C, J}
use Rattle.trees.specs.declared.Edition.{Edition}
use Rattle.trees.specs.Edition.{in_edition, folded, keyed, ValidIn}
use Rattle.trees.specs.Label.{Label}
use Rattle.trees.specs.Token.{Token}
use Rattle.trees.specs.Tree.{Tree}
use Rattle.trees.specs.Text.{text_of}
use Rattle.newick.specs.Grammar.{TreeFault}
use Rattle.lists.specs.ReadList.{keys_of, IsList}
use Rattle.lists.specs.ListGrammar.{ListFault}
use Rattle.agreement.specs.Closer.{holds, Common}
use Rattle.agreement.specs.Sets.{set_of}
use Rattle.agreement.specs.Restrict.{restrict_in}
use Rattle.agreement.specs.Places.{place_in, place_of_number, kept_text_in, name_in}
use Rattle.agreement.specs.Demand.{IsFirstLacks, IsSecondLacks, IsDisagreement, IsAnswer}
use Rattle.agreement.specs.Strict.{SameLeaves, IsStray}
use Rattle.contents.specs.Contents.{Bodies, edition_of, first_text, second_text, list_text, claim_text, under, job_of, WellFormed}
use Rattle.claims.specs.Claim.{HoldsRequired, IsClaim, Verdict, Clear, VerdictIs}
use Rattle.claims.specs.Judge.{judgement_of}
use Rattle.pairs.specs.Outcome.{Outcome, refused, naming, found, and_then, trio}
use Rattle.queries.specs.Query.{disagreement}
use Rattle.mast.specs.Largest.{solution}
use Rattle.division.specs.PiecesAt.{pieces_for}
use Rattle.pieces.specs.Pieces.{Piece}
use Rattle.job.specs.Printed.{job_limit, piece_by, Reply, solved, passed, set_reply, claim_reply}

-- "A job is a table of contents, then the bodies"
pub record Follows (job : List ℕ) (b : Bodies) : Type 0 where
  pub text : job ≡ job_of b
  pub fits : WellFormed b

-- and "the job limit becomes 16,384 bytes" (C-14)
pub record Holds (job : List ℕ) (b : Bodies) : Type 0 where
  pub size : length job ≤ job_limit
  pub contents : Follows job b

-- the edition that the job states (C-15)
abbrev pub edition_in : Bodies → Edition
edition_in b = edition_of b.head.stated

-- a body that is the text of a tree, its labels different as the edition reads them
pub record TreeBody (e : Edition) (text : List ℕ) (t : Tree) : Type 0 where
  pub is : text ≡ text_of t
  pub valid : ValidIn e t

-- if the job is strict, both trees have the same leaves (C-11)
abbrev pub Shared : Bodies → Tree → Tree → Type 0
Shared b s t = b.head.strict ≡ true → SameLeaves (keyed (edition_in b) s) (keyed (edition_in b) t)

-- C-16: the claim, if the job has one, is read as these labels; it is "written like K"
abbrev pub ClaimRead : Edition → Option (List ℕ) → Option (List Token) → Type 0
ClaimRead e none none = Prim.Unit {0}
ClaimRead e none (some ys) = ⊥
ClaimRead e (some text) none = ⊥
ClaimRead e (some text) (some ys) = IsList e text ys

-- The job has two trees, with the same leaves if it is strict, a required list, and perhaps a claim. No number before 6 is given.
pub record Asks (job : List ℕ) (e : Edition) (s t : Tree) (xs : List Token) (c : Option (List Token)) : Type 0 where
  pub bodies : Bodies
  pub held : Holds job bodies
  pub edition : e ≡ edition_in bodies
  pub first : TreeBody e (first_text bodies) s
  pub second : TreeBody e (second_text bodies) t
  pub shared : bodies.head.strict ≡ true → SameLeaves (keyed e s) (keyed e t)
  pub required : IsList e (list_text bodies) xs
  pub claim : ClaimRead e (claim_text bodies) c

abbrev pub refusal : Reason → Body → ℕ → Outcome Reply
refusal r b i = refused (record { reason = r; body = b; place = i })

-- "Order: .. 11, 10, S, T, K, then 6 or 7, then 8", with 12 "after both trees are read and before K" and C "read right after K"; "A job
-- that no row turns away is answered with its set", or with the verdict on its claim. Each case first states how far the job is read
-- without a refusal: its contents (`Holds`), its trees (`TreeBody`, `Shared`), its list (`IsList`), or everything (`Asks`). Its last
-- argument is what decides.
pub data JobOutcome (job : List ℕ) : Outcome Reply → Type 0 where
  -- 11: "number 11 begins at 16,385 bytes" (C-14)
  too_long : job_limit < length job → JobOutcome job (refusal JobTooLong J 0)
  -- 10: "the contents break their rules"
  no_contents : length job ≤ job_limit → ((b : Bodies) → Follows job b → ⊥) → JobOutcome job (refusal Contents J 0)
  -- 1 to 5 of S, T, K and C as the edition reads them: "A body that fails to read ends the job there."
  first_fault : (b : Bodies) → Holds job b → (r : Reason) (i : ℕ) → TreeFault (in_edition (edition_in b) (first_text b)) r i
      → JobOutcome job (refusal r S i)
  second_fault : (b : Bodies) → Holds job b → (s : Tree) → TreeBody (edition_in b) (first_text b) s → (r : Reason) (i : ℕ)
      → TreeFault (in_edition (edition_in b) (second_text b)) r i → JobOutcome job (refusal r T i)
  list_fault : (b : Bodies) → Holds job b → (s t : Tree) → TreeBody (edition_in b) (first_text b) s → TreeBody (edition_in b) (second_text b) t
      → Shared b s t → (r : Reason) (i : ℕ) → ListFault (in_edition (edition_in b) (list_text b)) r i → JobOutcome job (refusal r K i)
  claim_fault : (b : Bodies) → Holds job b → (s t : Tree) → TreeBody (edition_in b) (first_text b) s → TreeBody (edition_in b) (second_text b) t
      → Shared b s t → (xs : List Token) → IsList (edition_in b) (list_text b) xs → (text : List ℕ) → claim_text b ≡ some text → (r : Reason) (i : ℕ)
      → ListFault (in_edition (edition_in b) text) r i → JobOutcome job (refusal r C i)
  -- 12, if the job is strict: "the letter and place of the first such leaf in S or, if S has none, in T"
  stray_first : (b : Bodies) → Holds job b → b.head.strict ≡ true → (s t : Tree) → TreeBody (edition_in b) (first_text b) s
      → TreeBody (edition_in b) (second_text b) t → (x : Label) → IsStray (keyed (edition_in b) s) (keyed (edition_in b) t) x
      → JobOutcome job (refusal NotShared S (place_in (folded (edition_in b) s) 0 x))
  stray_second : (b : Bodies) → Holds job b → b.head.strict ≡ true → (s t : Tree) → TreeBody (edition_in b) (first_text b) s
      → TreeBody (edition_in b) (second_text b) t → (x : Label)
      → ((y : Label) → holds (keyed (edition_in b) s) y ≡ true → holds (keyed (edition_in b) t) y ≡ true)
      → IsStray (keyed (edition_in b) t) (keyed (edition_in b) s) x
      → JobOutcome job (refusal NotShared T (place_in (folded (edition_in b) t) 0 x))
  -- 6 and 7: at the label's "first byte in K"
  first_lacking : (e : Edition) (s t : Tree) (xs : List Token) (c : Option (List Token)) → Asks job e s t xs c → (n : ℕ)
      → IsFirstLacks (keyed e s) (keyed e t) (keys_of e xs) n → JobOutcome job (refusal FirstLacks K (place_of_number xs n))
  second_lacking : (e : Edition) (s t : Tree) (xs : List Token) (c : Option (List Token)) → Asks job e s t xs c → (n : ℕ)
      → IsSecondLacks (keyed e s) (keyed e t) (keys_of e xs) n → JobOutcome job (refusal SecondLacks K (place_of_number xs n))
  -- 8: "three required leaves have different closer pairs"
  three_disagree : (e : Edition) (s t : Tree) (xs : List Token) (o : Option (List Token)) → Asks job e s t xs o → (a b c : Label)
      → Common (keyed e s) (keyed e t) (set_of (keys_of e xs)) → IsDisagreement (keyed e s) (keyed e t) (keys_of e xs) a b c
      → JobOutcome job (naming disagreement (trio e s xs a b c))
  -- demand 3, for jobs without a claim: the set; its text is `solution_text`, "the normal text of the common restriction". Its pieces are
  -- shown if the job has the line (C-17)
  largest_set : (e : Edition) (s t : Tree) (xs : List Token) → (asks : Asks job e s t xs none) → (X : List Label)
      → IsAnswer (keyed e s) (keyed e t) (keys_of e xs) X → JobOutcome job (set_reply asks.bodies.head.pieces (solution e s t xs X))
  -- C-16: the verdict on the claim, "after number 8": 6 or 7 "with letter C", 13, 14, 15, or that it passes
  judged : (e : Edition) (s t : Tree) (xs ys : List Token) → Asks job e s t xs (some ys)
      → Clear (keyed e s) (keyed e t) (keys_of e xs) → (v : Verdict) → VerdictIs (keyed e s) (keyed e t) (keys_of e xs) (keys_of e ys) v
      → JobOutcome job (and_then (judgement_of e s xs ys v) claim_reply)

-- Demand 3 for printed labels and a printed text. The job has no claim, and its bodies are read. The labels are those of the answer "as the
-- first tree spells them". The text is that of the first tree's restriction and, up to spelling, that of the second's. `pieces` says whether
-- the job has that line (C-17).
pub record SetAnswered (job : List ℕ) (pieces : Bool) (names : List Label) (text : List ℕ) : Type 0 where
  pub e : Edition
  pub s : Tree
  pub t : Tree
  pub xs : List Token
  pub X : List Label
  pub asked : Asks job e s t xs none
  pub line : asked.bodies.head.pieces ≡ pieces
  pub is_answer : IsAnswer (keyed e s) (keyed e t) (keys_of e xs) X
  pub spelled : names ≡ map (name_in e s) X
  pub text_in_first : text ≡ kept_text_in e (restrict_in e (set_of X) s)
  pub text_in_second : in_edition e text ≡ in_edition e (kept_text_in e (restrict_in e (set_of X) t))

-- The same for a job with the line `pieces` (C-17). The pieces are those of both trees by the keys of their labels. "Labels are printed as the
-- first tree spells them" (C-15).
pub record DividedAnswered (job : List ℕ) (P : List Piece) (names : List Label) (text : List ℕ) : Type 0 where
  pub set : SetAnswered job true names text
  pub pieces_are : P ≡ map (piece_by (name_in set.e set.s)) (pieces_for set.e set.s set.t set.xs)

-- Number 8 for three printed labels. The bodies are read, both trees have the required labels, and these are the first three with different
-- closer pairs, as the first tree spells them.
pub record DisagreementAnswered (job : List ℕ) (one two three : Label) : Type 0 where
  pub e : Edition
  pub s : Tree
  pub t : Tree
  pub xs : List Token
  pub a : Label
  pub b : Label
  pub c : Label
  pub claim : Option (List Token)
  pub asked : Asks job e s t xs claim
  pub common : Common (keyed e s) (keyed e t) (set_of (keys_of e xs))
  pub is_disagreement : IsDisagreement (keyed e s) (keyed e t) (keys_of e xs) a b c
  pub one_is : one ≡ name_in e s a
  pub two_is : two ≡ name_in e s b
  pub three_is : three ≡ name_in e s c

-- C-16: the claim passes. The bodies are read, and it "holds every required label, the trees agree on it and no larger such set exists"; n
-- is its size.
pub record ClaimAnswered (job : List ℕ) (n : ℕ) : Type 0 where
  pub e : Edition
  pub s : Tree
  pub t : Tree
  pub xs : List Token
  pub ys : List Token
  pub asked : Asks job e s t xs (some ys)
  pub is_claim : IsClaim (keyed e s) (keyed e t) (keys_of e xs) (keys_of e ys)
  pub size : n ≡ length ys

-- Number 14 for three printed labels. The bodies are read, no number before 14 is given, and these are the first three of the claim with
-- different closer pairs, "named as 8 names them".
pub record ClaimDisagreementAnswered (job : List ℕ) (one two three : Label) : Type 0 where
  pub e : Edition
  pub s : Tree
  pub t : Tree
  pub xs : List Token
  pub ys : List Token
  pub a : Label
  pub b : Label
  pub c : Label
  pub asked : Asks job e s t xs (some ys)
  pub clear : Clear (keyed e s) (keyed e t) (keys_of e xs)
  pub claimed : Common (keyed e s) (keyed e t) (set_of (keys_of e ys))
  pub holds_required : HoldsRequired (keys_of e xs) (keys_of e ys)
  pub is_disagreement : IsDisagreement (keyed e s) (keyed e t) (keys_of e ys) a b c
  pub one_is : one ≡ name_in e s a
  pub two_is : two ≡ name_in e s b
  pub three_is : three ≡ name_in e s c

-- number 12: the job is strict, its trees are read, and they do not have the same leaves
pub record Stopped (job : List ℕ) : Type 0 where
  pub bodies : Bodies
  pub held : Holds job bodies
  pub strict : bodies.head.strict ≡ true
  pub s : Tree
  pub t : Tree
  pub first : TreeBody (edition_in bodies) (first_text bodies) s
  pub second : TreeBody (edition_in bodies) (second_text bodies) t
  pub differ : SameLeaves (keyed (edition_in bodies) s) (keyed (edition_in bodies) t) → ⊥

-- the bodies of the same job without the line `pieces`
abbrev pub without_pieces_line : Bodies → Bodies
without_pieces_line b = under (record { strict = b.head.strict; stated = b.head.stated; pieces = false }) b

-- what a job comes to, without the pieces
abbrev pub plain_reply : Reply → Reply
plain_reply (solved pieces r) = solved false r
plain_reply (passed n) = passed n

abbrev pub plainly : Outcome Reply → Outcome Reply
plainly (found x) = found (plain_reply x)
plainly (naming q n) = naming q n
plainly (refused q) = refused q

-- the bodies of the same job without the line `strict`
abbrev pub without_line : Bodies → Bodies
without_line b = under (record { strict = false; stated = b.head.stated; pieces = b.head.pieces }) b
