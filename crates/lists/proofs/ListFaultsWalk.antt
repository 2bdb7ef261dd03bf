-- What holds at each step of reading a list: the bytes read are those of the labels seen and the phase, and no fault stands before
-- the place. So the result is a list's text without a fault, or the first fault. Assumes nothing.
use Prim.Native.Nat.{ℕ, suc, ◌+◌, ◌≤◌, ◌<◌}
use mathlib.Core.Path.{◌≡◌, refl, sym, ◌∙◌, ap, subst}
use mathlib.Core.Bool.{Bool, true, false, cond, ◌||◌}
use mathlib.Core.Logic.{inr}
use mathlib.Core.List.{List, [], ◌∷◌, ◌++◌, map, append_assoc}
use native.Mathlib.Omega.{arith}
use native.Mathlib.Numerals.{add-one}
use lib.Dec.{eqb}
use lib.ListN.{length, take, length-append}
use borrow.Author.Tests.{eqb-true, eqb-false}
use Rattle.trees.specs.declared.Kind.{Kind}
use Rattle.trees.specs.declared.Kind.TheVariants.{Label as LabelByte, Open, Close, Comma, Semicolon, Quote, Blank, Other}
use Rattle.trees.specs.declared.Reason.{Reason}
use Rattle.trees.specs.declared.Reason.TheVariants.{BadByte}
use Rattle.trees.specs.Bytes.{is_label_byte, is_inner_byte, kind_of, comma_byte, quote_byte}
use Rattle.trees.specs.Label.{label_limit, distinct}
use Rattle.trees.specs.Token.{Token, spelling, all_of, loose_label, good_labels, quoted_token}
use Rattle.trees.specs.Reading.{Reading, good, refused, repeats}
use Rattle.trees.specs.Faults.{Continues, Edge, Fault, occurrences}
use Rattle.lists.specs.ReadList.{Phase, at_start, label_due, in_bare, in_quotes, after_quote, Step, next, stop, begins, goes_on}
use Rattle.lists.specs.ReadList.{step_due, step_after, step_bare, step_quotes, step, end_of, read_from, read_list, joined, list_limit}
use Rattle.lists.specs.ListGrammar.{ListText, LabelCrowd, ListFault}
use Rattle.trees.proofs.Bools.{clash}
use Rattle.trees.proofs.ListLaws.{label_inner, bytes_one, bytes_snoc, good_parts, good_loose}
use Rattle.trees.proofs.TokenForms.{inner_of, opening_of, so_far, inner_any, form_loose, quote_not_label, blank_not_label, blank_inner}
use Rattle.trees.proofs.ReadingLaws.{Plain, plain_label, KindView, is_label, is_open, is_close, is_comma, is_semicolon, is_quote, is_blank}
use Rattle.trees.proofs.ReadingLaws.{is_other, kind_view, comma_plain, Begun, occurrences_append, occurs, occurs_not, occurs_none}
use Rattle.trees.proofs.FaultLaws.{Known, Inside, Ended, known_start, edge_not_long, Read, read_start, read_more, before_here, bad_here}
use Rattle.trees.proofs.FaultLaws.{crowd_here, plain_pass, plain_no_start, edge_after, plain_known, bare_end_here, bare_end_last, quote_end_here}
use Rattle.trees.proofs.FaultLaws.{quote_pass, inside_no_start_here, long_here, letter_pass, letter_inside, starts_here, repeat_here}
use Rattle.trees.proofs.FaultLaws.{begin_pass, bare_inside, quoted_inside, label_begins, quote_begins, whole_text, ends_here, no_fault_left}
use Rattle.trees.proofs.RawRuns.{on, halt, on_same, raw_nil, raw_snoc}
use Rattle.lists.proofs.AcceptsRaw.{raw_due, raw_after, raw_bare, raw_quotes, raw_step, raw_byte, raw_text, within, may_end, raw_text_lem}
use Rattle.lists.proofs.AcceptsRaw.{list_stopped, lead_text, lead_last, joined_last, label_continues, due_continues, within_continues}

-- the bytes that lead to a phase, when the labels seen are complete
abbrev text_at : Phase → List Token → List ℕ
text_at at_start seen = lead_text seen
text_at label_due seen = lead_text seen
text_at (in_bare x) seen = lead_text seen ++ x
text_at (in_quotes x) seen = lead_text seen ++ (quote_byte ∷ x)
text_at (after_quote x) seen = lead_text seen ++ x

-- where labels began and how many there can be, by phase
abbrev Marks : List ℕ → ℕ → Phase → List Token → Type 0
Marks text i at_start seen = Known ListText text (map spelling seen) i × Edge text i × (length seen ≤ list_limit) × (seen ≡ [])
Marks text i label_due seen = Known ListText text (map spelling seen) i × Edge text i × (length seen ≤ list_limit) × Unit {0}
Marks text i (in_bare x) seen = Inside ListText text (map spelling seen) false x i × (length seen < list_limit)
Marks text i (in_quotes x) seen = Inside ListText text (map spelling seen) true x i × (length seen < list_limit)
Marks text i (after_quote x) seen = Ended ListText text seen x i × (length seen < list_limit)

-- what holds in a phase when p was read and rest is left, at place i
record Holds (text p rest : List ℕ) (i : ℕ) (phase : Phase) (seen : List Token) : Type 0 where
  base : Read ListText LabelCrowd text p rest i seen
  bytes : p ≡ text_at phase seen
  count : length seen ≡ occurrences comma_byte p
  marks : Marks text i phase seen

-- what a step must give: the next phase holds, or the first fault stands here
abbrev Good : List ℕ → List ℕ → List ℕ → ℕ → Step → Type 0
Good text p' rest i (next q seen) = Holds text p' rest (suc i) q seen × (raw_text p' ≡ on q)
Good text p' rest i (stop r) = ListFault text r i

-- both forms at once
within_bytes : (q : Bool) (x : List ℕ) (seen : List Token) → text_at (within q x) seen ≡ lead_text seen ++ so_far q x
within_bytes true x seen = refl
within_bytes false x seen = refl

within_marks : (q : Bool) (x text : List ℕ) (i : ℕ) (seen : List Token)
    → Inside ListText text (map spelling seen) q x i → length seen < list_limit → Marks text i (within q x) seen
within_marks true x text i seen d l = (d, l)
within_marks false x text i seen d l = (d, l)

longer_so_far : (q : Bool) (x : List ℕ) (b : ℕ) → so_far q x ++ (b ∷ []) ≡ so_far q (x ++ (b ∷ []))
longer_so_far true x b = refl
longer_so_far false x b = refl

longer_begun : (q : Bool) (x : List ℕ) (b : ℕ) → Begun q (x ++ (b ∷ []))
longer_begun true x b = tt
longer_begun false x b = omega (arith, length-append x (b ∷ []))

-- what was read can be continued
lead_alive : (p : List ℕ) (seen : List Token) → good_labels seen ≡ true → p ≡ lead_text seen → Continues ListText p
lead_alive p seen g e = subst (Continues ListText) (sym e) (due_continues seen (good_loose seen g))

label_alive : (p : List ℕ) (seen : List Token) (x : Token) → good_labels seen ≡ true → loose_label x ≡ true → p ≡ lead_text seen ++ x
    → Continues ListText p
label_alive p seen x g h e = subst (Continues ListText) (sym e) (label_continues seen x (good_loose seen g) h)

within_alive : (p : List ℕ) (seen : List Token) (q : Bool) (x text : List ℕ) (i : ℕ) → good_labels seen ≡ true
    → Inside ListText text (map spelling seen) q x i → p ≡ lead_text seen ++ so_far q x → Continues ListText p
within_alive p seen q x text i g d e =
    subst (Continues ListText) (sym e) (within_continues seen q x (good_loose seen g) (some q d.reach) d.letters)
  where
    some : (c : Bool) → d.start + opening_of c + length x ≡ i → Begun c x
    some true z = tt
    some false z = omega (arith, d.past)

-- one step, at the byte b
bad : {text p : List ℕ} {b : ℕ} {rest : List ℕ} {i : ℕ} {seen : List Token} → Read ListText LabelCrowd text p (b ∷ rest) i seen
    → Continues ListText p → raw_text (p ++ (b ∷ [])) ≡ halt → ListFault text BadByte i
bad {p = p} {b = b} r c e = bad_here r c (list_stopped (p ++ (b ∷ [])) e)

count_same : (p : List ℕ) (b n : ℕ) → (comma_byte ≡ b → ⊥) → n ≡ occurrences comma_byte p → n ≡ occurrences comma_byte (p ++ (b ∷ []))
count_same p b n other e =
    omega (arith, occurrences_append comma_byte p (b ∷ []), occurs_not comma_byte b [] other, occurs_none comma_byte)

-- no byte of a label is a comma
inner_other : (b : ℕ) → is_inner_byte b ≡ true → comma_byte ≡ b → ⊥
inner_other b h d = clash (subst (λ (w : ℕ). is_inner_byte w ≡ true) (sym d) h) comma_plain.inner

quote_other : (b : ℕ) → b ≡ quote_byte → comma_byte ≡ b → ⊥
quote_other b e d = omega arith

module _ (text p : List ℕ) (b : ℕ) (rest : List ℕ) (i : ℕ) (seen : List Token) where
  bytes_more : (l : List ℕ) → p ≡ l → p ++ (b ∷ []) ≡ l ++ (b ∷ [])
  bytes_more l e = ap (λ (q : List ℕ). q ++ (b ∷ [])) e

  -- a label begins, and with it the phase ph
  module _ (r : Read ListText LabelCrowd text p (b ∷ rest) i seen) (count : length seen ≡ occurrences comma_byte p)
      (k : Known ListText text (map spelling seen) i) (g : Edge text i) (few : length seen ≤ list_limit) (other : comma_byte ≡ b → ⊥)
      (h : (is_label_byte b || eqb b quote_byte) ≡ true) (alive⁺ : Continues ListText (p ++ (b ∷ []))) where
    earlier : occurrences comma_byte (take i text) ≡ length seen
    earlier = ap (occurrences comma_byte) (before_here r) ∙ sym count

    no_crowd : eqb (length seen) list_limit ≡ false → LabelCrowd text i → ⊥
    no_crowd z w = eqb-false (length seen) list_limit z (sym earlier ∙ w.earlier)

    less : (length seen ≡ list_limit → ⊥) → length seen < list_limit
    less z = omega arith

    begin_good : (ph : Phase) → p ++ (b ∷ []) ≡ text_at ph seen → raw_text (p ++ (b ∷ [])) ≡ on ph
        → (length seen < list_limit → repeats (map spelling seen) (b ∷ rest) ≡ false → Marks text (suc i) ph seen)
        → (c d : Bool) → eqb (length seen) list_limit ≡ c → repeats (map spelling seen) (b ∷ rest) ≡ d
        → Good text (p ++ (b ∷ [])) rest i (begins c d ph seen)
    unfolding begins
    begin_good ph bytes⁺ e marks⁺ true d z w =
        crowd_here r alive⁺ (edge_not_long ListText text i g)
        (record { starts = starts_here r k g h alive⁺; earlier = earlier ∙ eqb-true (length seen) list_limit z })
    begin_good ph bytes⁺ e marks⁺ false true z w = repeat_here r k g h alive⁺ (no_crowd z) w
    begin_good ph bytes⁺ e marks⁺ false false z w = (
      record {
        base = begin_pass r k g h alive⁺ (no_crowd z) w;
        bytes = bytes⁺;
        count = count_same p b (length seen) other count;
        marks = marks⁺ (less (eqb-false (length seen) list_limit z)) w;
      },
      e,
    )

  -- a byte where a label must begin
  due_good : (k : Kind) → KindView b k → Read ListText LabelCrowd text p (b ∷ rest) i seen → p ≡ lead_text seen
      → length seen ≡ occurrences comma_byte p → Known ListText text (map spelling seen) i → Edge text i → length seen ≤ list_limit
      → raw_text (p ++ (b ∷ [])) ≡ raw_due b k
      → Good text (p ++ (b ∷ [])) rest i (step_due seen (repeats (map spelling seen) (b ∷ rest)) b k)
  unfolding step_due raw_due all_of
  due_good LabelByte (is_label n) r f c m g few e =
      begin_good r c m g few (inner_other b (label_inner b n)) (label_begins b n) alive⁺ (in_bare (b ∷ [])) (bytes_more (lead_text seen) f) e
      (λ l w. (bare_inside r m g (label_begins b n) alive⁺ n w, l)) (eqb (length seen) list_limit) (repeats (map spelling seen) (b ∷ rest)) refl refl
    where
      alive⁺ : Continues ListText (p ++ (b ∷ []))
      alive⁺ =
          subst (Continues ListText) (sym (bytes_more (lead_text seen) f))
          (within_continues seen false (b ∷ []) (good_loose seen r.fine) (omega arith) (bytes_one is_label_byte b n))
  due_good Quote (is_quote n) r f c m g few e =
      begin_good r c m g few (quote_other b n) (quote_begins b n) alive⁺ (in_quotes []) bytes⁺ e
      (λ l w. (quoted_inside r m g (quote_begins b n) alive⁺ n w, l)) (eqb (length seen) list_limit) (repeats (map spelling seen) (b ∷ rest)) refl refl
    where
      bytes⁺ : p ++ (b ∷ []) ≡ lead_text seen ++ (quote_byte ∷ [])
      bytes⁺ = bytes_more (lead_text seen) f ∙ ap (λ (w : ℕ). lead_text seen ++ (w ∷ [])) n

      alive⁺ : Continues ListText (p ++ (b ∷ []))
      alive⁺ = subst (Continues ListText) (sym bytes⁺) (within_continues seen true [] (good_loose seen r.fine) tt refl)
  due_good Open v r f c m g few e = bad r (lead_alive p seen r.fine f) e
  due_good Close v r f c m g few e = bad r (lead_alive p seen r.fine f) e
  due_good Comma v r f c m g few e = bad r (lead_alive p seen r.fine f) e
  due_good Semicolon v r f c m g few e = bad r (lead_alive p seen r.fine f) e
  due_good Blank v r f c m g few e = bad r (lead_alive p seen r.fine f) e
  due_good Other v r f c m g few e = bad r (lead_alive p seen r.fine f) e

  -- one more byte of a label of either form, of which x was read
  letter_good : (q : Bool) (x : List ℕ) → inner_of q b ≡ true → Read ListText LabelCrowd text p (b ∷ rest) i seen
      → p ≡ lead_text seen ++ so_far q x → length seen ≡ occurrences comma_byte p → Inside ListText text (map spelling seen) q x i
      → length seen < list_limit → raw_text (p ++ (b ∷ [])) ≡ on (within q (x ++ (b ∷ []))) → (c : Bool) → eqb (length x) label_limit ≡ c
      → Good text (p ++ (b ∷ [])) rest i (goes_on c (within q (x ++ (b ∷ []))) seen)
  unfolding goes_on
  letter_good q x n r f count d l e c z = go c z
    where
      bytes⁺ : p ++ (b ∷ []) ≡ lead_text seen ++ so_far q (x ++ (b ∷ []))
      bytes⁺ =
          bytes_more (lead_text seen ++ so_far q x) f
          ∙ append_assoc (lead_text seen) (so_far q x) (b ∷ [])
          ∙ ap (λ (w : List ℕ). lead_text seen ++ w) (longer_so_far q x b)

      alive⁺ : Continues ListText (p ++ (b ∷ []))
      alive⁺ =
          subst (Continues ListText) (sym bytes⁺)
          (within_continues seen q (x ++ (b ∷ [])) (good_loose seen r.fine) (longer_begun q x b) (bytes_snoc (inner_of q) x b d.letters n))

      go : (c : Bool) → eqb (length x) label_limit ≡ c → Good text (p ++ (b ∷ [])) rest i (goes_on c (within q (x ++ (b ∷ []))) seen)
      go true z = long_here r d n alive⁺ (eqb-true (length x) label_limit z)
      go false z = (
        record {
          base =
              letter_pass r d n alive⁺ (eqb-false (length x) label_limit z)
              (λ (w : LabelCrowd text i). inside_no_start_here r d w.starts);
          bytes = bytes⁺ ∙ sym (within_bytes q (x ++ (b ∷ [])) seen);
          count = count_same p b (length seen) (inner_other b (inner_any q b n)) count;
          marks =
              within_marks q (x ++ (b ∷ [])) text (suc i) seen (letter_inside r d n alive⁺ (eqb-false (length x) label_limit z)) l;
        },
        e,
      )

  -- a comma after the label x
  comma_good : (x : Token) → b ≡ comma_byte → Plain b → Read ListText LabelCrowd text p (b ∷ rest) i seen → p ≡ lead_text seen ++ x
      → length seen ≡ occurrences comma_byte p → Ended ListText text seen x i → length seen < list_limit
      → raw_text (p ++ (b ∷ [])) ≡ on label_due → Good text (p ++ (b ∷ [])) rest i (next label_due (seen ++ (x ∷ [])))
  comma_good x c n r f count d l e = (
    record {
      base =
          plain_pass more n (lead_alive (p ++ (b ∷ [])) (seen ++ (x ∷ [])) more.fine bytes⁺)
          (λ (w : LabelCrowd text i). plain_no_start r n w.starts);
      bytes = bytes⁺;
      count =
          omega
          (arith, count, length-append seen (x ∷ []), occurrences_append comma_byte p (b ∷ []), occurs comma_byte b [] (sym c), occurs_none comma_byte);
      marks =
          (plain_known more n d.marks, edge_after r (inr c), omega (arith, length-append seen (x ∷ []), l), tt);
    },
    e,
  )
    where
      more : Read ListText LabelCrowd text p (b ∷ rest) i (seen ++ (x ∷ []))
      more = read_more r d

      bytes⁺ : p ++ (b ∷ []) ≡ lead_text (seen ++ (x ∷ []))
      bytes⁺ =
          bytes_more (lead_text seen ++ x) f ∙ ap (λ (w : ℕ). (lead_text seen ++ x) ++ (w ∷ [])) c ∙ sym (lead_last seen x)

  -- a byte just after the label x
  after_good : (x : Token) (k : Kind) → KindView b k → Read ListText LabelCrowd text p (b ∷ rest) i seen → p ≡ lead_text seen ++ x
      → length seen ≡ occurrences comma_byte p → Ended ListText text seen x i → length seen < list_limit
      → raw_text (p ++ (b ∷ [])) ≡ raw_after k → Good text (p ++ (b ∷ [])) rest i (step_after x seen k)
  unfolding step_after raw_after
  after_good x k v r f count d l e = go k v e
    where
      stuck : raw_text (p ++ (b ∷ [])) ≡ halt → ListFault text BadByte i
      stuck z = bad r (label_alive p seen x r.fine (good_parts x d.well).0 f) z

      go : (k : Kind) → KindView b k → raw_text (p ++ (b ∷ [])) ≡ raw_after k → Good text (p ++ (b ∷ [])) rest i (step_after x seen k)
      go Comma (is_comma c n) z = comma_good x c n r f count d l z
      go LabelByte v z = stuck z
      go Quote v z = stuck z
      go Open v z = stuck z
      go Close v z = stuck z
      go Semicolon v z = stuck z
      go Blank v z = stuck z
      go Other v z = stuck z

  -- a byte inside or just after the label x, which has no quotes
  bare_good : (x : List ℕ) (k : Kind) → KindView b k → Holds text p (b ∷ rest) i (in_bare x) seen
      → raw_text (p ++ (b ∷ [])) ≡ raw_bare x b k → Good text (p ++ (b ∷ [])) rest i (step_bare x seen b k)
  unfolding step_bare raw_bare
  bare_good x k v h e = go k v e
    where
      ends : (k : Kind) → KindView b k → is_label_byte b ≡ false → raw_text (p ++ (b ∷ [])) ≡ raw_after k
          → Good text (p ++ (b ∷ [])) rest i (step_after x seen k)
      ends k v n z = after_good x k v h.base h.bytes h.count (bare_end_here h.base n h.marks.0) h.marks.1 z

      go : (k : Kind) → KindView b k → raw_text (p ++ (b ∷ [])) ≡ raw_bare x b k → Good text (p ++ (b ∷ [])) rest i (step_bare x seen b k)
      go LabelByte (is_label n) z =
          letter_good false x n h.base h.bytes h.count h.marks.0 h.marks.1 z (eqb (length x) label_limit) refl
      go Quote (is_quote c) z = ends Quote (is_quote c) (subst (λ (w : ℕ). is_label_byte w ≡ false) (sym c) quote_not_label) z
      go Blank (is_blank c) z = ends Blank (is_blank c) (subst (λ (w : ℕ). is_label_byte w ≡ false) (sym c) blank_not_label) z
      go Open (is_open c n) z = ends Open (is_open c n) (plain_label b n) z
      go Close (is_close c n) z = ends Close (is_close c n) (plain_label b n) z
      go Comma (is_comma c n) z = ends Comma (is_comma c n) (plain_label b n) z
      go Semicolon (is_semicolon c n) z = ends Semicolon (is_semicolon c n) (plain_label b n) z
      go Other (is_other n) z = ends Other (is_other n) (plain_label b n) z

  -- the closing quote
  close_good : (x : List ℕ) → b ≡ quote_byte → Holds text p (b ∷ rest) i (in_quotes x) seen → (c : Bool) → eqb (length x) 0 ≡ c
      → raw_text (p ++ (b ∷ [])) ≡ cond c halt (on (after_quote (quoted_token x)))
      → Good text (p ++ (b ∷ [])) rest i (cond c (stop BadByte) (next (after_quote (quoted_token x)) seen))
  close_good x c h true z e = bad h.base (within_alive p seen true x text i h.base.fine h.marks.0 h.bytes) e
  close_good x c h false z e = (
    record {
      base =
          quote_pass h.base h.marks.0 c (label_alive (p ++ (b ∷ [])) seen (quoted_token x) h.base.fine whole bytes⁺)
          (λ (w : LabelCrowd text i). inside_no_start_here h.base h.marks.0 w.starts);
      bytes = bytes⁺;
      count = count_same p b (length seen) (quote_other b c) h.count;
      marks = (quote_end_here h.base h.marks.0 c some, h.marks.1);
    },
    e,
  )
    where
      some : 1 ≤ length x
      some = more (eqb-false (length x) 0 z)
        where
          more : (length x ≡ 0 → ⊥) → 1 ≤ length x
          more n = omega arith

      whole : loose_label (quoted_token x) ≡ true
      whole = form_loose true x some h.marks.0.letters

      bytes⁺ : p ++ (b ∷ []) ≡ lead_text seen ++ quoted_token x
      bytes⁺ =
          bytes_more (lead_text seen ++ (quote_byte ∷ x)) h.bytes
          ∙ append_assoc (lead_text seen) (quote_byte ∷ x) (b ∷ [])
          ∙ ap (λ (w : ℕ). lead_text seen ++ ((quote_byte ∷ x) ++ (w ∷ []))) c

  -- a byte after an opening quote and the bytes x
  quotes_good : (x : List ℕ) (k : Kind) → KindView b k → Holds text p (b ∷ rest) i (in_quotes x) seen
      → raw_text (p ++ (b ∷ [])) ≡ raw_quotes x b k → Good text (p ++ (b ∷ [])) rest i (step_quotes x seen b k)
  unfolding step_quotes raw_quotes
  quotes_good x k v h e = go k v e
    where
      stuck : raw_text (p ++ (b ∷ [])) ≡ halt → ListFault text BadByte i
      stuck z = bad h.base (within_alive p seen true x text i h.base.fine h.marks.0 h.bytes) z

      letter : is_inner_byte b ≡ true → raw_text (p ++ (b ∷ [])) ≡ on (in_quotes (x ++ (b ∷ [])))
          → Good text (p ++ (b ∷ [])) rest i (goes_on (eqb (length x) label_limit) (in_quotes (x ++ (b ∷ []))) seen)
      letter n z = letter_good true x n h.base h.bytes h.count h.marks.0 h.marks.1 z (eqb (length x) label_limit) refl

      go : (k : Kind) → KindView b k → raw_text (p ++ (b ∷ [])) ≡ raw_quotes x b k → Good text (p ++ (b ∷ [])) rest i (step_quotes x seen b k)
      go LabelByte (is_label n) z = letter (label_inner b n) z
      go Blank (is_blank c) z = letter (subst (λ (w : ℕ). is_inner_byte w ≡ true) (sym c) blank_inner) z
      go Quote (is_quote c) z = close_good x c h (eqb (length x) 0) refl z
      go Open v z = stuck z
      go Close v z = stuck z
      go Comma v z = stuck z
      go Semicolon v z = stuck z
      go Other v z = stuck z

  -- any byte
  step_good : (q : Phase) → Holds text p (b ∷ rest) i q seen → raw_text (p ++ (b ∷ [])) ≡ raw_step q b (kind_of b)
      → Good text (p ++ (b ∷ [])) rest i (step q seen b rest)
  unfolding step raw_step
  step_good at_start h e = due_good (kind_of b) (kind_view b) h.base h.bytes h.count h.marks.0 h.marks.1 h.marks.2 e
  step_good label_due h e = due_good (kind_of b) (kind_view b) h.base h.bytes h.count h.marks.0 h.marks.1 h.marks.2 e
  step_good (in_bare x) h e = bare_good x (kind_of b) (kind_view b) h e
  step_good (in_quotes x) h e = quotes_good x (kind_of b) (kind_view b) h e
  step_good (after_quote x) h e =
      after_good x (kind_of b) (kind_view b) h.base h.bytes h.count h.marks.0 h.marks.1 e

-- what reading a text must give
abbrev pub Result : List ℕ → Reading (List Token) → Type 0
Result text (good xs) =
    (text ≡ joined xs) × (good_labels xs ≡ true) × (distinct (map spelling xs) ≡ true) × (length xs ≤ list_limit)
    × ((q : Reason) (j : ℕ) → Fault ListText LabelCrowd text q j → ⊥)
Result text (refused r i) = ListFault text r i

-- the last label is complete
last_good : (text p : List ℕ) (i : ℕ) (seen : List Token) (x : Token) → Read ListText LabelCrowd text p [] i seen → p ≡ lead_text seen ++ x
    → Ended ListText text seen x i → length seen < list_limit → Result text (good (seen ++ (x ∷ [])))
last_good text p i seen x r f d l = (
  whole_text r ∙ bytes⁺,
  more.fine,
  more.different,
  omega (arith, length-append seen (x ∷ []), l),
  no_fault_left r (λ j c. c.starts.inside) (seen ++ (x ∷ []), good_loose (seen ++ (x ∷ [])) more.fine, bytes⁺),
)
  where
    bytes⁺ : p ≡ joined (seen ++ (x ∷ []))
    bytes⁺ = f ∙ sym (joined_last seen x)

    more : Read ListText LabelCrowd text p [] i (seen ++ (x ∷ []))
    more = read_more r d

-- a text of the grammar ends in a phase in which it may
not_whole : (p : List ℕ) (q : Phase) → raw_text p ≡ on q → may_end q ≡ false → ListText p → ⊥
not_whole p q e n w = let g = raw_text_lem p w in clash (subst (λ (z : Phase). may_end z ≡ true) (on_same (sym g.1 ∙ e)) g.2) n

end_good : (text p : List ℕ) (i : ℕ) (q : Phase) (seen : List Token) → Holds text p [] i q seen → raw_text p ≡ on q → Result text (end_of q seen i)
unfolding end_of joined
end_good text p i at_start seen h e = (
  whole_text h.base ∙ empty,
  h.base.fine,
  h.base.different,
  h.marks.2,
  no_fault_left h.base (λ j c. c.starts.inside) (seen, good_loose seen h.base.fine, empty),
)
  where
    empty : p ≡ joined seen
    empty = h.bytes ∙ subst (λ (w : List Token). lead_text w ≡ joined w) (sym h.marks.3) refl
end_good text p i label_due seen h e = ends_here h.base (lead_alive p seen h.base.fine h.bytes) (not_whole p label_due e refl)
end_good text p i (in_bare x) seen h e = last_good text p i seen x h.base h.bytes (bare_end_last h.base h.marks.0) h.marks.1
end_good text p i (in_quotes x) seen h e =
    ends_here h.base (within_alive p seen true x text i h.base.fine h.marks.0 h.bytes) (not_whole p (in_quotes x) e refl)
end_good text p i (after_quote x) seen h e = last_good text p i seen x h.base h.bytes h.marks.0 h.marks.1

-- from a phase that holds, the rest of the text
walk : (text p rest : List ℕ) (i : ℕ) (q : Phase) (seen : List Token) → Holds text p rest i q seen → raw_text p ≡ on q
    → Result text (read_from q seen i rest)
unfolding read_from
walk text p [] i q seen h e = end_good text p i q seen h e
walk text p (b ∷ rest) i q seen h e =
    go (step q seen b rest) (step_good text p b rest i seen q h (raw_snoc raw_byte at_start q p b e))
    (λ q' seen' h' e'. walk text (p ++ (b ∷ [])) rest (suc i) q' seen' h' e')
  where
    go : (z : Step) → Good text (p ++ (b ∷ [])) rest i z
        → ((q' : Phase) (seen' : List Token) → Holds text (p ++ (b ∷ [])) rest (suc i) q' seen' → raw_text (p ++ (b ∷ [])) ≡ on q'
        → Result text (read_from q' seen' (suc i) rest))
        → Result text (elim z [ next q' seen' ↦ read_from q' seen' (i + 1) rest | stop r ↦ refused r i ])
    go (next q' seen') g ih = subst (λ (w : ℕ). Result text (read_from q' seen' w rest)) (sym (add-one i)) (ih q' seen' g.0 g.1)
    go (stop r) g ih = g

-- the reading of any text
pub reading : (text : List ℕ) → Result text (read_list text)
unfolding read_list
reading text =
    walk text [] text 0 at_start []
    (record {
      base = read_start ListText LabelCrowd text;
      bytes = refl;
      count = sym (occurs_none comma_byte);
      marks = (known_start ListText text, λ k (z : suc k ≡ 0). absurd (omega arith), omega arith, refl);
    })
    (raw_nil raw_byte at_start)
