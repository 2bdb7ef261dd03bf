-- Lines that break the rules of contents. Assumes nothing.
use Prim.Native.Nat.{ℕ, ◌+◌, ◌^◌, ◌<◌}
use mathlib.Core.Path.{◌≡◌, refl, sym, ◌∙◌, ap}
use mathlib.Core.Bool.{Bool, true, false, cond}
use mathlib.Core.Logic.{◌⊎◌, inl, inr}
use mathlib.Core.List.{List, [], ◌∷◌, ◌++◌}
use native.Mathlib.Omega.{arith}
use lib.ListN.{drop}
use borrow.Author.Tests.{eq-eqb, ne_eqb}
use Rattle.std.specs.Prelude.{Some, None}
use Rattle.trees.specs.declared.Body.TheVariants.{S, T, K, C}
use Rattle.trees.specs.Refusals.{letter_of}
use Rattle.trees.specs.Words.{bytes_of}
use Rattle.trees.proofs.Bools.{bool_cases}
use Rattle.decimals.specs.Decimal.{decimal_of}
use Rattle.contents.specs.declared.Head.{Head}
use Rattle.contents.specs.Contents.{Stated, BodyLength, Next, Digits, Listing}
use Rattle.contents.specs.Contents.{digit_limit, Entry, always, perhaps, entries, lookup, before_claim}
use Rattle.contents.specs.Contents.{line, entry_line, strict_text, edition_text, pieces_text, headed, listed_text, lined}
use Rattle.contents.specs.Contents.{FitsEntries, may_claim, claim_allowed, compatible, begins, head_at, word_after, number_at, counted, line_after}
use Rattle.contents.specs.Contents.{sizes_after, lines_after, place_after, spans_after, bodies_after, table_of, laid_out, layout_of}
use Rattle.contents.proofs.BeginsLaws.{among, Opens}
use Rattle.contents.proofs.ChainLaws.{either_way}
use Rattle.contents.proofs.HeadLaws.{Past, opens_past, stated_past, pieces_past, head_written}
use Rattle.contents.proofs.PlaceLaws.{Here, entry_written, LinesAre, lines_written, Apart}
use Rattle.contents.proofs.StepLaws.{word_if, line_other, line_own}
use Rattle.contents.proofs.RuleLaws.{asked_no_claim}

lines_broken : (job : List ℕ) (es : List Entry) → lines_after job None es ≡ None
unfolding lines_after line_after
lines_broken job [] = refl
lines_broken job (e ∷ es) = lines_broken job es

spans_broken : (job : List ℕ) (vs : List BodyLength) → bodies_after job None vs ≡ None
unfolding bodies_after place_after
spans_broken job [] = refl
spans_broken job (v ∷ vs) = spans_broken job vs

-- the empty line does not follow the lines of the bodies
end_due : (job : List ℕ) → word_after job (lines_after job (Some (head_at job).next) entries) (line []) ≡ None → layout_of job ≡ None
unfolding layout_of laid_out
end_due job e =
    let start : Next = Some (head_at job).next in
    let vs : List BodyLength = sizes_after job start entries in
    let goes : Bool = compatible (head_at job).head vs in
    ap (λ (n : Next). cond goes (laid_out job (table_of (head_at job).head (spans_after job n vs)) (bodies_after job n vs)) None) e
    ∙ ap (λ (n : Next). cond goes (laid_out job (table_of (head_at job).head (spans_after job None vs)) n) None) (spans_broken job vs)
    ∙ either_way goes

lines_due : (job : List ℕ) → lines_after job (Some (head_at job).next) entries ≡ None → layout_of job ≡ None
unfolding word_after
lines_due job e = end_due job (ap (λ (n : Next). word_after job n (line [])) e)

-- another line than that of a body that each job has
line_due : (job : List ℕ) (from : Next) (e : Entry) (es : List Entry) (rest : List ℕ) → e.needed ≡ true → Here job from rest
    → begins (letter_of e.body ∷ 32 ∷ []) rest ≡ false → lines_after job from (e ∷ es) ≡ None
unfolding lines_after
line_due job from e es rest needed h other =
    let l =
    line_other job from e h.at h.is (letter_of e.body) refl (ap (begins (letter_of e.body ∷ 32 ∷ [])) h.rest ∙ other) true needed in
    ap (λ (x : Listing). lines_after job x.next es) (sym l) ∙ lines_broken job es

begun : (h : Head) (rest : List ℕ) → Past h rest → Here (headed h rest) (Some (head_at (headed h rest)).next) rest
begun h rest past =
    let w = head_written (headed h rest) h rest past refl in
    record { at = (head_at (headed h rest)).next; is = refl; rest = w.next.rest; inside = w.next.inside }

not_begun : (x y : ℕ) (word rest : List ℕ) → (y ≡ x → ⊥) → begins (x ∷ word) (y ∷ rest) ≡ false
unfolding begins
not_begun x y word rest h = rw (ne_eqb y x h) refl

letter_due : (h : Head) (x : ℕ) (rest : List ℕ) → (x ≡ 83 → ⊥) → Past h (x ∷ rest) → layout_of (headed h (x ∷ rest)) ≡ None
unfolding entries letter_of
letter_due h x rest other past =
    lines_due (headed h (x ∷ rest))
    (line_due (headed h (x ∷ rest)) _ (always S) _ (x ∷ rest) refl (begun h (x ∷ rest) past)
    (not_begun 83 x (32 ∷ []) rest other))

pub second_edition : (h : Head) → (h.stated ≡ None → ⊥) → (rest : List ℕ) → layout_of (headed h (bytes_of "E" ++ rest)) ≡ None
unfolding bytes_of begins line
second_edition h said rest = letter_due h 69 rest (λ e. omega arith) (stated_past h (69 ∷ rest) said refl)

pub other_edition : (strict : Bool) (rest : List ℕ) → begins (line (bytes_of "E 1")) (bytes_of "E" ++ rest) ≡ false
    → begins (line (bytes_of "E 2")) (bytes_of "E" ++ rest) ≡ false → layout_of (strict_text strict ++ (bytes_of "E" ++ rest)) ≡ None
unfolding bytes_of begins line edition_text pieces_text
other_edition strict rest a b =
    letter_due (record { strict = strict; stated = None; pieces = false }) 69 rest (λ e. omega arith)
    (record { strict = λ e. refl; edition = λ e. record { one = a; two = b }; pieces = λ e. refl })

pub early_edition : (stated : Stated) → (stated ≡ None → ⊥) → (rest : List ℕ)
    → layout_of (edition_text stated ++ (line (bytes_of "strict") ++ rest)) ≡ None
unfolding bytes_of begins line strict_text pieces_text
early_edition stated said rest =
    let h : Head = record { strict = false; stated = stated; pieces = false } in
    let text : List ℕ = (bytes_of "trict" ++ (10 ∷ [])) ++ rest in
    letter_due h 115 text (λ e. omega arith) (stated_past h (115 ∷ text) said refl)

-- after the line `pieces` only the line of S can follow
after_pieces : (h : Head) → h.pieces ≡ true → (x : ℕ) (rest : List ℕ) → (x ≡ 83 → ⊥) → layout_of (headed h (x ∷ rest)) ≡ None
after_pieces h on x rest other = letter_due h x rest other (pieces_past h (x ∷ rest) on)

pub second_pieces : (h : Head) → h.pieces ≡ true → (rest : List ℕ) → layout_of (headed h (bytes_of "pieces" ++ rest)) ≡ None
unfolding bytes_of
second_pieces h on rest = after_pieces h on 112 (bytes_of "ieces" ++ rest) (λ e. omega arith)

pub early_pieces : (h : Head) → h.pieces ≡ true → (rest : List ℕ)
    → (layout_of (headed h (bytes_of "strict" ++ rest)) ≡ None) × (layout_of (headed h (bytes_of "E" ++ rest)) ≡ None)
unfolding bytes_of
early_pieces h on rest = (after_pieces h on 115 (bytes_of "trict" ++ rest) (λ e. omega arith), after_pieces h on 69 rest (λ e. omega arith))

-- after the lines of some bodies
module _ (h : Head) (es : List Entry) (vs : List BodyLength) (fits : FitsEntries es vs) (x : ℕ) (rest : List ℕ) (apart : Apart es (x ∷ [])) where
  abbrev job : List ℕ
  job = headed h (lined es vs (x ∷ rest))

  pub lines_past : Opens (83 ∷ []) (lined es vs (x ∷ rest)) → LinesAre job (Some (head_at job).next) es vs (x ∷ rest)
  unfolding among
  lines_past o =
      lines_written job es vs (x ∷ rest) (x ∷ []) (Some (head_at job).next) fits apart (rw (eq-eqb x x refl) refl)
      (begun h (lined es vs (x ∷ rest)) (opens_past h (lined es vs (x ∷ rest)) o))

-- another line than that of T after the line of S
late_letter : (h : Head) (n : ℕ) → n < 10 ^ digit_limit → (x : ℕ) (rest : List ℕ) → among 83 (x ∷ []) ≡ false → (x ≡ 84 → ⊥)
    → layout_of (headed h (entry_line S n ++ (x ∷ rest))) ≡ None
unfolding entries lines_after listed_text entry_line line letter_of among
late_letter h n small x rest apart other =
    let es : List Entry = always S ∷ [] in
    let vs : List BodyLength = Some n ∷ [] in
    let w = lines_past h es vs (small, tt) x rest (apart, tt) refl in
    lines_due (headed h (lined es vs (x ∷ rest)))
    (line_due (headed h (lined es vs (x ∷ rest))) _ (always T) (drop 2 entries) (x ∷ rest) refl w.next
    (not_begun 84 x (32 ∷ []) rest other))

pub late_edition : (h : Head) (n : ℕ) → n < 10 ^ digit_limit → (rest : List ℕ)
    → layout_of (headed h (entry_line S n ++ (bytes_of "E" ++ rest))) ≡ None
unfolding bytes_of among
late_edition h n small rest = late_letter h n small 69 rest refl (λ e. omega arith)

pub late_pieces : (h : Head) (n : ℕ) → n < 10 ^ digit_limit → (rest : List ℕ)
    → layout_of (headed h (entry_line S n ++ (bytes_of "pieces" ++ rest))) ≡ None
unfolding bytes_of among
late_pieces h n small rest = late_letter h n small 112 (bytes_of "ieces" ++ rest) refl (λ e. omega arith)

pub early_claim : (h : Head) (m n : ℕ) → m < 10 ^ digit_limit → n < 10 ^ digit_limit → (rest : List ℕ)
    → layout_of (headed h (entry_line S m ++ (entry_line T n ++ (bytes_of "C" ++ rest)))) ≡ None
unfolding entries lines_after listed_text entry_line line letter_of bytes_of among
early_claim h m n a b rest =
    let es : List Entry = always S ∷ always T ∷ [] in
    let vs : List BodyLength = Some m ∷ Some n ∷ [] in
    let w = lines_past h es vs (a, (b, tt)) 67 rest (refl, (refl, tt)) refl in
    lines_due (headed h (lined es vs (67 ∷ rest)))
    (line_due (headed h (lined es vs (67 ∷ rest))) _ (always K) (drop 3 entries) (67 ∷ rest) refl w.next
    (not_begun 75 67 (32 ∷ []) rest (λ e. omega arith)))

pub second_claim : (h : Head) (m n k c : ℕ) → m < 10 ^ digit_limit → n < 10 ^ digit_limit → k < 10 ^ digit_limit → c < 10 ^ digit_limit → (rest : List ℕ)
    → layout_of (headed h (entry_line S m ++ (entry_line T n ++ (entry_line K k ++ (entry_line C c ++ (bytes_of "C" ++ rest)))))) ≡ None
unfolding entries lines_after listed_text entry_line line letter_of bytes_of among
second_claim h m n k c a b d e rest =
    let vs : List BodyLength = Some m ∷ Some n ∷ Some k ∷ [] in
    let text : List ℕ = headed h (lined before_claim vs (entry_line C c ++ (67 ∷ rest))) in
    let past : Next = lines_after text (Some (head_at text).next) before_claim in
    let w = lines_past h before_claim vs (a, (b, (d, tt))) 67 (((32 ∷ decimal_of c) ++ (10 ∷ [])) ++ (67 ∷ rest)) (refl, (refl, (refl, tt))) refl in
    let l = entry_written text past (perhaps C) c (67 ∷ rest) e w.next in
    end_due text
    (sym (word_if text (10 ∷ []) (line_after text past (perhaps C)).next l.next.at l.next.is false
    (ap (begins (10 ∷ [])) l.next.rest ∙ not_begun 10 67 [] rest (λ z. omega arith))))

-- lines and bodies that do not go together
apart_due : (job : List ℕ) → compatible (head_at job).head (sizes_after job (Some (head_at job).next) entries) ≡ false
    → layout_of job ≡ None
unfolding layout_of
apart_due job e =
    let start : Next = Some (head_at job).next in
    let vs : List BodyLength = sizes_after job start entries in
    let from : Next = word_after job (lines_after job start entries) (line []) in
    ap (λ (b : Bool). cond b (laid_out job (table_of (head_at job).head (spans_after job from vs)) (bodies_after job from vs)) None) e

-- the line of C after those of the other bodies, in a job that may not have it
module _ (h : Head) (m n k : ℕ) (a : m < 10 ^ digit_limit) (b : n < 10 ^ digit_limit) (d : k < 10 ^ digit_limit) (rest : List ℕ) where
  abbrev lengths : List BodyLength
  lengths = Some m ∷ Some n ∷ Some k ∷ []

  abbrev text : List ℕ
  text = headed h (lined before_claim lengths (67 ∷ rest))

  abbrev past : Next
  past = lines_after text (Some (head_at text).next) before_claim

  here : Here text past (67 ∷ rest)
  unfolding letter_of among listed_text entry_line line
  here = (lines_past h before_claim lengths (a, (b, (d, tt))) 67 rest (refl, (refl, (refl, tt))) refl).next

  same_head : (head_at text).head ≡ h
  unfolding letter_of among listed_text entry_line line
  same_head =
      let lines : List ℕ = lined before_claim lengths (67 ∷ rest) in
      (head_written text h lines (opens_past h lines refl) refl).head_is

  abbrev Due : Listing → Type 0
  Due l = l ≡ line_after text past (perhaps C) → layout_of text ≡ None

  counted_due : may_claim (head_at text).head ≡ false → (g : Digits) → Due (counted text g)
  unfolding counted compatible claim_allowed lookup entries letter_of sizes_after lines_after
  counted_due never None e = lines_due text (ap (λ (l : Listing). l.next) (sym e))
  counted_due never (Some d) e =
      apart_due text (ap (λ (l : Listing). claim_allowed (head_at text).head l.listed) (sym e) ∙ never)

  claim_due : may_claim h ≡ false → layout_of text ≡ None
  unfolding entries lines_after letter_of
  claim_due never = go (bool_cases (begins (67 ∷ 32 ∷ []) (drop here.at text)))
    where
      go : (begins (67 ∷ 32 ∷ []) (drop here.at text) ≡ true) ⊎ (begins (67 ∷ 32 ∷ []) (drop here.at text) ≡ false)
          → layout_of text ≡ None
      go (inl e) =
          counted_due (ap may_claim same_head ∙ never) (number_at text (here.at + 2))
          (line_own text past (perhaps C) here.at here.is 67 refl e (number_at text (here.at + 2)) refl)
      go (inr e) =
          let l = line_other text past (perhaps C) here.at here.is 67 refl e false refl in
          end_due text
          (sym (word_if text (10 ∷ []) (line_after text past (perhaps C)).next here.at (ap (λ (x : Listing). x.next) (sym l)) false
          (ap (begins (10 ∷ [])) here.rest ∙ not_begun 10 67 [] rest (λ z. omega arith))))

pub pieces_then_claim : (h : Head) → h.pieces ≡ true → (m n k : ℕ) → m < 10 ^ digit_limit → n < 10 ^ digit_limit → k < 10 ^ digit_limit
    → (rest : List ℕ) → layout_of (headed h (entry_line S m ++ (entry_line T n ++ (entry_line K k ++ (bytes_of "C" ++ rest))))) ≡ None
unfolding listed_text bytes_of
pieces_then_claim h on m n k a b d rest = claim_due h m n k a b d rest (asked_no_claim h on)
