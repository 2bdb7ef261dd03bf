-- The lines of a set, of a claim that passes, and of three labels are printed exactly if the papers say so. Assumes nothing.
use Prim.Native.Nat.{ℕ, ◌≤◌}
use mathlib.Core.Path.{◌≡◌, refl, sym, ◌∙◌, ap, ap₂, subst}
use mathlib.Core.Bool.{Bool, true, false}
use mathlib.Core.Logic.{◌⊎◌, inl, inr, ◌↔◌}
use mathlib.Core.List.{List, [], ◌∷◌, ◌++◌, map}
use mathlib.Core.Option.{some}
use native.Mathlib.Omega.{arith}
use lib.ListN.{length, get_or, length-map}
use Rattle.trees.specs.declared.Refusal.{Refusal}
use Rattle.trees.specs.Faults.{occurrences}
use Rattle.trees.specs.Label.{Label, is_in}
use Rattle.trees.specs.declared.Edition.{Edition}
use Rattle.trees.specs.Edition.{in_edition, folded, keyed, ValidIn}
use Rattle.trees.specs.Refusals.{number_of}
use Rattle.trees.specs.Text.{tree_room}
use Rattle.trees.specs.Token.{Token, spelling, token_of}
use Rattle.trees.specs.Tree.{Tree, leaf_limit, leaves}
use Rattle.trees.specs.Words.{bytes_of}
use Rattle.trees.specs.Writable.{writable_labels}
use Rattle.trees.proofs.TokenLaws.{valid_decoded}
use Rattle.trees.proofs.EditionLaws.{valid_folded}
use Rattle.lists.specs.ReadList.{folded_list, keys_of, list_limit}
use Rattle.agreement.specs.Closer.{holds}
use Rattle.agreement.specs.Sets.{set_of}
use Rattle.agreement.specs.Places.{spelled_in, name_in}
use Rattle.agreement.proofs.EditionText.{one_text_in, spelled_good}
use Rattle.agreement.proofs.SetLaws.{within_few}
use Rattle.claims.specs.Claim.{Verdict, claim_first_lacks, claim_second_lacks, claim_lacks, claim_disagrees, claim_small, claim_passes, Clear, VerdictIs}
use Rattle.claims.specs.Judge.{claim_disagreement, judgement_of}
use Rattle.claims.proofs.Promises.{passing_is_clear}
use Rattle.contents.specs.Contents.{claim_text, line}
use Rattle.decimals.specs.Decimal.{decimal_of}
use Rattle.pairs.specs.Outcome.{Outcome, refused, naming, found, and_then, Trio, trio}
use Rattle.queries.specs.Query.{disagreement}
use Rattle.mast.specs.Largest.{Solution, solution, solution_text}
use Rattle.pieces.specs.Pieces.{Piece}
use Rattle.job.specs.Printed.{Reply, solved, passed, set_reply, claim_reply}
use Rattle.lines.specs.Lines.{refused_words, refused_line, set_lines, record_lines, naming_line, three_line, claim_line}
use Rattle.lines.specs.PieceLines.{pieces_lines}
use Rattle.job.specs.Printed.{disagreement_line, claim_disagreement_line, divided_record, solve_job, printed_of, printed, piece_by}
use Rattle.job.specs.JobOutcome.{Asks, SetAnswered, DividedAnswered, DisagreementAnswered, ClaimAnswered, ClaimDisagreementAnswered, JobOutcome}
use Rattle.job.specs.JobOutcome.{too_long, no_contents, first_fault, second_fault, list_fault, claim_fault, stray_first, stray_second, first_lacking, second_lacking, three_disagree, largest_set, judged}
use Rattle.job.proofs.OutcomeLaws.{outcome_exactly, claim_some}
use Rattle.job.proofs.ReadBack.{kept_line, lines_back, refusal_no_three, three_back, claim_back}
use Rattle.job.proofs.RoomLaws.{kept_short}
use Rattle.job.proofs.ShownLaws.{writable_names, pieces_named, pieces_part, set_printed, claim_printed, naming_printed}

-- ---- what is printed of labels: few, and in forms that can be written

module _ {job : List ℕ} {pieces : Bool} {N : List Label} {text : List ℕ} (a : SetAnswered job pieces N text) where
  inside : (x : Label) → is_in x a.X ≡ true → is_in x (leaves (keyed a.e a.s)) ≡ true
  unfolding holds
  inside x h = (a.is_answer.allowed_set.common_leaves x h).0

  pub set_few : length N ≤ leaf_limit
  set_few =
      let v = valid_decoded (folded a.e a.s) (valid_folded a.e a.s a.asked.first.valid) in
      omega (
        arith,
        within_few a.X (leaves (keyed a.e a.s)) a.is_answer.allowed_set.ordered v.different inside,
        v.few,
        length-map a.X (name_in a.e a.s),
        ap (length {A = Label}) a.spelled,
      )

  pub set_writable : writable_labels N ≡ true
  unfolding holds
  set_writable =
      rw a.spelled
      (writable_names (spelled_in a.e a.s) a.X
      (λ (x : Label) (h : is_in x a.X ≡ true). spelled_good a.e a.s x a.asked.first.valid))

  set_line : occurrences 10 text ≡ 0
  set_line = rw a.text_in_first (kept_line a.e (set_of a.X) a.s a.asked.first.valid)

  pub set_short : length text ≤ tree_room
  set_short = rw a.text_in_first (kept_short a.e (set_of a.X) a.s a.asked.first.valid)

-- three labels as the first tree spells them
three_writable : (e : Edition) (s : Tree) → ValidIn e s → (a b c : Label)
    → writable_labels (name_in e s a ∷ name_in e s b ∷ name_in e s c ∷ []) ≡ true
three_writable e s valid a b c =
    writable_names (spelled_in e s) (a ∷ b ∷ c ∷ []) (λ (x : Label) (h : is_in x (a ∷ b ∷ c ∷ []) ≡ true). spelled_good e s x valid)

pub eight_writable : {job : List ℕ} {u v w : Label} → DisagreementAnswered job u v w → writable_labels (u ∷ v ∷ w ∷ []) ≡ true
eight_writable k =
    rw (k.one_is, k.two_is, k.three_is)
    (three_writable k.e k.s k.asked.first.valid k.a k.b k.c)

pub fourteen_writable : {job : List ℕ} {u v w : Label} → ClaimDisagreementAnswered job u v w → writable_labels (u ∷ v ∷ w ∷ []) ≡ true
fourteen_writable k =
    rw (k.one_is, k.two_is, k.three_is)
    (three_writable k.e k.s k.asked.first.valid k.a k.b k.c)

-- ---- a claim that passes

keys_count : (e : Edition) (ys : List Token) → length (keys_of e ys) ≡ length ys
keys_count e ys = length-map (folded_list e ys) spelling ∙ length-map ys (in_edition e)

module _ {job : List ℕ} {n : ℕ} (a : ClaimAnswered job n) where
  claim_few : length a.ys ≤ list_limit
  claim_few = (claim_some a.e (claim_text a.asked.bodies) a.ys a.asked.claim).2.few

-- ---- what an outcome that names a set, a size or labels means

abbrev pub MeantFor : List ℕ → Reply → Type 0
MeantFor job (solved pieces r) = SetAnswered job pieces (map (name_in r.edition r.first) r.set) (solution_text r)
MeantFor job (passed n) = ClaimAnswered job n

-- three labels as the first tree spells them
abbrev pub NamesMeant : (Label → Label → Label → Type 0) → Trio → Type 0
NamesMeant P n =
    P (name_in n.edition n.first n.labels.one) (name_in n.edition n.first n.labels.two)
    (name_in n.edition n.first n.labels.three)

abbrev pub Meant : List ℕ → Outcome Reply → Type 0
Meant job (found x) = MeantFor job x
Meant job (naming q n) = ((q ≡ disagreement) × NamesMeant (DisagreementAnswered job) n) ⊎ ((q ≡ claim_disagreement) × NamesMeant (ClaimDisagreementAnswered job) n)
Meant job (refused q) = Prim.Unit {0}

module _ (job : List ℕ) where
  verdict_meant : (e : Edition) (s t : Tree) (xs ys : List Token) → Asks job e s t xs (some ys) → Clear (keyed e s) (keyed e t) (keys_of e xs)
      → (v : Verdict) → VerdictIs (keyed e s) (keyed e t) (keys_of e xs) (keys_of e ys) v → Meant job (and_then (judgement_of e s xs ys v) claim_reply)
  unfolding and_then judgement_of
  verdict_meant e s t xs ys asks clear (claim_first_lacks n) o = tt
  verdict_meant e s t xs ys asks clear (claim_second_lacks n) o = tt
  verdict_meant e s t xs ys asks clear (claim_lacks n) o = tt
  verdict_meant e s t xs ys asks clear (claim_disagrees a b c) o =
      inr (
        refl,
        record {
          e = e;
          s = s;
          t = t;
          xs = xs;
          ys = ys;
          a = a;
          b = b;
          c = c;
          asked = asks;
          clear = clear;
          claimed = o.0;
          holds_required = o.1;
          is_disagreement = o.2;
          one_is = refl;
          two_is = refl;
          three_is = refl;
        },
      )
  verdict_meant e s t xs ys asks clear claim_small o = tt
  verdict_meant e s t xs ys asks clear (claim_passes n) o =
      record { e = e; s = s; t = t; xs = xs; ys = ys; asked = asks; is_claim = o.0; size = o.1 ∙ keys_count e ys }

  meant : (x : Outcome Reply) → JobOutcome job x → Meant job x
  unfolding solution_text
  meant x (too_long h) = tt
  meant x (no_contents h never) = tt
  meant x (first_fault b held r i f) = tt
  meant x (second_fault b held s p r i f) = tt
  meant x (list_fault b held s t p q h r i f) = tt
  meant x (claim_fault b held s t p q h xs l text d r i f) = tt
  meant x (stray_first b held l s t p q y o) = tt
  meant x (stray_second b held l s t p q y a o) = tt
  meant x (first_lacking e s t xs c asks n o) = tt
  meant x (second_lacking e s t xs c asks n o) = tt
  meant x (three_disagree e s t xs z asks a b c held o) =
      inl (
        refl,
        record {
          e = e;
          s = s;
          t = t;
          xs = xs;
          a = a;
          b = b;
          c = c;
          claim = z;
          asked = asks;
          common = held;
          is_disagreement = o;
          one_is = refl;
          two_is = refl;
          three_is = refl;
        },
      )
  meant x (largest_set e s t xs asks X o) =
      record {
        e = e;
        s = s;
        t = t;
        xs = xs;
        X = X;
        asked = asks;
        line = refl;
        is_answer = o;
        spelled = refl;
        text_in_first = refl;
        text_in_second =
            one_text_in e s t (set_of X) asks.first.valid asks.second.valid o.allowed_set.common_leaves o.allowed_set.agreed;
      }
  meant x (judged e s t xs ys asks clear v o) = verdict_meant e s t xs ys asks clear v o

  pub job_meant : Meant job (solve_job job)
  job_meant = meant (solve_job job) ((outcome_exactly job (solve_job job)).0 refl)

-- ---- lines of different kinds begin with different bytes

abbrev first_byte : List ℕ → ℕ
first_byte l = get_or l 0 0

record_opens : (X : List Label) (text : List ℕ) → first_byte (record_lines X text) ≡ 115
unfolding set_lines line bytes_of
record_opens X text = refl

claim_opens : (n : ℕ) → first_byte (claim_line n) ≡ 99
unfolding claim_line line bytes_of
claim_opens n = refl

three_opens : (q : Refusal) (a b c : Label) → first_byte (three_line q a b c) ≡ 114
unfolding naming_line refused_words line bytes_of
three_opens q a b c = refl

refusal_opens : (q : Refusal) → first_byte (printed_of (refused q)) ≡ 114
unfolding printed_of refused_line refused_words line bytes_of
refusal_opens q = refl

-- what is printed of an outcome, in these forms
naming_opens : (q : Refusal) (n : Trio) → first_byte (printed_of (naming q n)) ≡ 114
naming_opens q n = ap first_byte (naming_printed q n) ∙ three_opens q _ _ _

solved_opens : (r : Solution) → first_byte (printed_of (set_reply false r)) ≡ 115
solved_opens r =
    ap first_byte (set_printed false r) ∙ record_opens (map (name_in r.edition r.first) r.set) (solution_text r)

pieces_opens : (ps : List Piece) (rest : List ℕ) → first_byte (pieces_lines ps ++ rest) ≡ 112
unfolding pieces_lines line bytes_of
pieces_opens ps rest = refl

divided_opens : (r : Solution) → first_byte (printed_of (set_reply true r)) ≡ 112
divided_opens r = ap first_byte (set_printed true r) ∙ pieces_opens (map (piece_by token_of) (pieces_named r)) _

passed_opens : (n : ℕ) → first_byte (printed_of (claim_reply n)) ≡ 99
passed_opens n = ap first_byte (claim_printed n) ∙ claim_opens n

-- `refused 8` and `refused 14`
eight_fourteen : (a b c x y z : Label) → disagreement_line a b c ≡ claim_disagreement_line x y z → ⊥
unfolding naming_line refused_words line bytes_of number_of decimal_of
eight_fourteen a b c x y z e =
    let other : ◌≡◌ {A = ℕ} 56 49 = ap (λ (l : List ℕ). get_or l 8 0) e in
    omega arith

-- ---- the lines of a set

-- as the record has them
pub answered_lines : (job : List ℕ) (pieces : Bool) (N : List Label) (text : List ℕ) → (a : SetAnswered job pieces N text)
    → printed job ≡ pieces_part pieces (solution a.e a.s a.t a.xs a.X) ++ record_lines N text
unfolding printed solution_text
answered_lines job pieces N text a =
    let r : Solution = solution a.e a.s a.t a.xs a.X in
    ap printed_of ((outcome_exactly job _).1 (largest_set a.e a.s a.t a.xs a.asked a.X a.is_answer)
    ∙ ap (λ (b : Bool). set_reply b r) a.line)
    ∙ set_printed pieces r
    ∙ ap₂ (λ (M : List Label) (l : List ℕ). pieces_part pieces r ++ record_lines M l) (sym a.spelled) (sym a.text_in_first)

module _ (job : List ℕ) (N : List Label) (text : List ℕ) (can : writable_labels N ≡ true) where
  set_from : (x : Outcome Reply) → Meant job x → printed_of x ≡ record_lines N text → SetAnswered job false N text
  set_from (found (solved true r)) a k = absurd (omega (arith, ap first_byte k, divided_opens r, record_opens N text))
  set_from (found (solved false r)) a k =
      let w = lines_back N _ text _ can (set_writable a) (set_few a) (set_line a) (sym k ∙ set_printed false r) in
      rw (w.0, w.1) a
  set_from (found (passed n)) a k = absurd (omega (arith, ap first_byte k, passed_opens n, record_opens N text))
  set_from (naming q n) m k = absurd (omega (arith, ap first_byte k, naming_opens q n, record_opens N text))
  set_from (refused q) m k = absurd (omega (arith, ap first_byte k, refusal_opens q, record_opens N text))

pub set_lines_lem : (job : List ℕ) (N : List Label) (text : List ℕ)
    → ((writable_labels N ≡ true) × (printed job ≡ record_lines N text)) ↔ SetAnswered job false N text
unfolding printed
set_lines_lem job N text = (
  λ (k : (writable_labels N ≡ true) × (printed_of (solve_job job) ≡ record_lines N text)).
      set_from job N text k.0 (solve_job job) (job_meant job) k.1,
  λ (a : SetAnswered job false N text). (set_writable a, answered_lines job false N text a),
)

-- ---- the lines of a set and its pieces

pub divided_lines : (job : List ℕ) (P : List Piece) (N : List Label) (text : List ℕ) → DividedAnswered job P N text
    → printed job ≡ divided_record P N text
divided_lines job P N text a =
    answered_lines job true N text a.set
    ∙ ap (λ (Q : List Piece). divided_record Q N text) (sym a.pieces_are)

-- the only lines that begin with `pieces`
pub divided_only : (job rest : List ℕ) → printed job ≡ bytes_of "pieces " ++ rest
    → (P : List Piece) × (N : List Label) × (text : List ℕ) × DividedAnswered job P N text
unfolding printed bytes_of
divided_only job rest k = from (solve_job job) (job_meant job) (ap first_byte k)
  where
    from : (x : Outcome Reply) → Meant job x → first_byte (printed_of x) ≡ 112
        → (P : List Piece) × (N : List Label) × (text : List ℕ) × DividedAnswered job P N text
    from (found (solved true r)) a h = (_, _, _, record { set = a; pieces_are = refl })
    from (found (solved false r)) a h = absurd (omega (arith, solved_opens r))
    from (found (passed n)) a h = absurd (omega (arith, passed_opens n))
    from (naming q n) a h = absurd (omega (arith, naming_opens q n))
    from (refused q) a h = absurd (omega (arith, refusal_opens q))

-- ---- the line of a claim that passes

pub claim_lines : (job : List ℕ) (n : ℕ) → (printed job ≡ claim_line n) ↔ ClaimAnswered job n
unfolding printed and_then judgement_of
claim_lines job n = (
  λ (k : printed_of (solve_job job) ≡ claim_line n). from (solve_job job) (job_meant job) k,
  λ (a : ClaimAnswered job n).
      ap printed_of ((outcome_exactly job _).1 (judged a.e a.s a.t a.xs a.ys a.asked
      (passing_is_clear (keyed a.e a.s) (keyed a.e a.t) (keys_of a.e a.xs) (keys_of a.e a.ys) a.is_claim) (claim_passes n)
      (a.is_claim, a.size ∙ sym (keys_count a.e a.ys))))
      ∙ claim_printed n,
)
  where
    from : (x : Outcome Reply) → Meant job x → printed_of x ≡ claim_line n → ClaimAnswered job n
    from (found (solved true r)) a k = absurd (omega (arith, ap first_byte k, divided_opens r, claim_opens n))
    from (found (solved false r)) a k = absurd (omega (arith, ap first_byte k, solved_opens r, claim_opens n))
    from (found (passed m)) a k =
        subst (ClaimAnswered job) (claim_back m n (omega (arith, a.size, claim_few a)) (sym (claim_printed m) ∙ k)) a
    from (naming q m) a k = absurd (omega (arith, ap first_byte k, naming_opens q m, claim_opens n))
    from (refused q) a k = absurd (omega (arith, ap first_byte k, refusal_opens q, claim_opens n))

-- ---- the lines that name three labels

-- the line of a refusal that is this one
named_as : (p q : Refusal) (n : Trio) (l : List ℕ) → q ≡ p → printed_of (naming q n) ≡ l
    → l ≡ three_line p (name_in n.edition n.first n.labels.one) (name_in n.edition n.first n.labels.two)
    (name_in n.edition n.first n.labels.three)
named_as p q n l e k = sym k ∙ ap (λ (r : Refusal). printed_of (naming r n)) e ∙ naming_printed p n

module _ (job : List ℕ) (u v w : Label) where
  -- neither the lines of a set or a claim nor a refusal without labels
  only_naming : (p : Refusal) (G : Type 0) (x : Outcome Reply) → Meant job x
      → ((q : Refusal) (n : Trio) → Meant job (naming q n) → printed_of (naming q n) ≡ three_line p u v w → G) → printed_of x ≡ three_line p u v w → G
  only_naming p G (found (solved true r)) m f k = absurd (omega (arith, ap first_byte k, divided_opens r, three_opens p u v w))
  only_naming p G (found (solved false r)) m f k = absurd (omega (arith, ap first_byte k, solved_opens r, three_opens p u v w))
  only_naming p G (found (passed n)) m f k = absurd (omega (arith, ap first_byte k, passed_opens n, three_opens p u v w))
  only_naming p G (naming q n) m f k = f q n m k
  only_naming p G (refused q) m f k = absurd (refusal_no_three q p u v w k)

  module _ (can : writable_labels (u ∷ v ∷ w ∷ []) ≡ true) where
    eight_from : (q : Refusal) (n : Trio) → Meant job (naming q n) → printed_of (naming q n) ≡ disagreement_line u v w → DisagreementAnswered job u v w
    eight_from q n (inl m) k =
        let z = three_back disagreement u v w _ _ _ can (eight_writable m.1) (named_as disagreement q n _ m.0 k) in
        rw (z.0, z.1, z.2) m.1
    eight_from q n (inr m) k = absurd (eight_fourteen u v w _ _ _ (named_as claim_disagreement q n _ m.0 k))

    fourteen_from : (q : Refusal) (n : Trio) → Meant job (naming q n) → printed_of (naming q n) ≡ claim_disagreement_line u v w
        → ClaimDisagreementAnswered job u v w
    fourteen_from q n (inl m) k = absurd (eight_fourteen _ _ _ u v w (sym (named_as disagreement q n _ m.0 k)))
    fourteen_from q n (inr m) k =
        let z = three_back claim_disagreement u v w _ _ _ can (fourteen_writable m.1) (named_as claim_disagreement q n _ m.0 k) in
        rw (z.0, z.1, z.2) m.1

  pub eight_lines : ((writable_labels (u ∷ v ∷ w ∷ []) ≡ true) × (printed job ≡ disagreement_line u v w)) ↔ DisagreementAnswered job u v w
  unfolding printed
  eight_lines = (
    λ (k : (writable_labels (u ∷ v ∷ w ∷ []) ≡ true) × (printed_of (solve_job job) ≡ disagreement_line u v w)).
        only_naming disagreement (DisagreementAnswered job u v w) (solve_job job) (job_meant job) (eight_from k.0) k.1,
    λ (k : DisagreementAnswered job u v w). (
      eight_writable k,
      ap printed_of ((outcome_exactly job _).1
          (three_disagree k.e k.s k.t k.xs k.claim k.asked k.a k.b k.c k.common k.is_disagreement))
          ∙ naming_printed disagreement (trio k.e k.s k.xs k.a k.b k.c)
          ∙ (rw (k.one_is, k.two_is, k.three_is) refl),
    ),
  )

  pub fourteen_lines : ((writable_labels (u ∷ v ∷ w ∷ []) ≡ true) × (printed job ≡ claim_disagreement_line u v w)) ↔ ClaimDisagreementAnswered job u v w
  unfolding printed and_then judgement_of
  fourteen_lines = (
    λ (k : (writable_labels (u ∷ v ∷ w ∷ []) ≡ true) × (printed_of (solve_job job) ≡ claim_disagreement_line u v w)).
        only_naming claim_disagreement (ClaimDisagreementAnswered job u v w) (solve_job job) (job_meant job) (fourteen_from k.0) k.1,
    λ (k : ClaimDisagreementAnswered job u v w). (
      fourteen_writable k,
      ap printed_of ((outcome_exactly job _).1
          (judged k.e k.s k.t k.xs k.ys k.asked k.clear (claim_disagrees k.a k.b k.c)
          (k.claimed, k.holds_required, k.is_disagreement)))
          ∙ naming_printed claim_disagreement (trio k.e k.s k.ys k.a k.b k.c)
          ∙ (rw (k.one_is, k.two_is, k.three_is) refl),
    ),
  )
