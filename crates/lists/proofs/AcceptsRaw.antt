-- Reading a list without limits and without the test for repeats: it stops exactly at the first byte after which the text can no
-- longer be continued to one of the grammar. Assumes nothing.
use Prim.Native.Nat.{ℕ, ◌≤◌}
use mathlib.Core.Path.{◌≡◌, refl, sym, ◌∙◌, ap, subst}
use mathlib.Core.Bool.{Bool, true, false, cond}
use mathlib.Core.Logic.{◌⊎◌, inl, inr}
use mathlib.Core.List.{List, [], ◌∷◌, ◌++◌, append_assoc, append-nil}
use native.Mathlib.Omega.{arith}
use lib.Dec.{eqb}
use lib.ListN.{length, length-append}
use borrow.Author.Tests.{ne_eqb}
use Rattle.trees.specs.declared.Kind.{Kind}
use Rattle.trees.specs.declared.Kind.TheVariants.{Label as LabelByte, Open, Close, Comma, Semicolon, Quote, Blank, Other}
use Rattle.trees.specs.Bytes.{is_label_byte, is_inner_byte, kind_of, comma_byte, quote_byte}
use Rattle.trees.specs.Token.{Token, all_of, loose_label, loose_labels, quoted_token}
use Rattle.trees.specs.Faults.{Continues}
use Rattle.trees.proofs.ListLaws.{bytes_snoc, loose_head, loose_cons, loose_none, loose_join}
use Rattle.trees.proofs.TokenForms.{inner_of, so_far, token_by, loose_formed, form_loose}
use Rattle.trees.proofs.ReadingLaws.{kind_label, kind_inner, Begun}
use Rattle.trees.proofs.RawRuns.{Raw, on, halt, raw_run, raw_nil, raw_cons, raw_bare_lem, raw_quoted, stopped}
use Rattle.lists.specs.ReadList.{Phase, at_start, label_due, in_bare, in_quotes, after_quote, joined}
use Rattle.lists.specs.ListGrammar.{ListText}

-- a byte where a label must begin
unfoldable pub raw_due : ℕ → Kind → Raw Phase
raw_due b LabelByte = on (in_bare (b ∷ []))
raw_due b Quote = on (in_quotes [])
raw_due b Open = halt
raw_due b Close = halt
raw_due b Comma = halt
raw_due b Semicolon = halt
raw_due b Blank = halt
raw_due b Other = halt

-- just after a label
unfoldable pub raw_after : Kind → Raw Phase
raw_after Comma = on label_due
raw_after LabelByte = halt
raw_after Quote = halt
raw_after Open = halt
raw_after Close = halt
raw_after Semicolon = halt
raw_after Blank = halt
raw_after Other = halt

-- inside a label without quotes
unfoldable pub raw_bare : List ℕ → ℕ → Kind → Raw Phase
unfolding raw_after
raw_bare x b LabelByte = on (in_bare (x ++ (b ∷ [])))
raw_bare x b Quote = raw_after Quote
raw_bare x b Open = raw_after Open
raw_bare x b Close = raw_after Close
raw_bare x b Comma = raw_after Comma
raw_bare x b Semicolon = raw_after Semicolon
raw_bare x b Blank = raw_after Blank
raw_bare x b Other = raw_after Other

-- between quotes
unfoldable pub raw_quotes : List ℕ → ℕ → Kind → Raw Phase
raw_quotes x b LabelByte = on (in_quotes (x ++ (b ∷ [])))
raw_quotes x b Blank = on (in_quotes (x ++ (b ∷ [])))
raw_quotes x b Quote = cond (eqb (length x) 0) halt (on (after_quote (quoted_token x)))
raw_quotes x b Open = halt
raw_quotes x b Close = halt
raw_quotes x b Comma = halt
raw_quotes x b Semicolon = halt
raw_quotes x b Other = halt

unfoldable pub raw_step : Phase → ℕ → Kind → Raw Phase
unfolding raw_due raw_after raw_bare raw_quotes
raw_step at_start b k = raw_due b k
raw_step label_due b k = raw_due b k
raw_step (in_bare x) b k = raw_bare x b k
raw_step (in_quotes x) b k = raw_quotes x b k
raw_step (after_quote x) b k = raw_after k

abbrev pub raw_byte : Phase → ℕ → Raw Phase
raw_byte p b = raw_step p b (kind_of b)

abbrev pub run : Phase → List ℕ → Raw Phase
run p text = raw_run raw_byte p text

-- the same, from the start of the text
abbrev pub raw_text : List ℕ → Raw Phase
raw_text text = run at_start text

-- the two phases in which a label may begin
abbrev pub due : Bool → Phase
due true = at_start
due false = label_due

-- the phase inside a label of either form, and after all its bytes
abbrev pub within : (quoted : Bool) → List ℕ → Phase
within true x = in_quotes x
within false x = in_bare x

abbrev pub passed : (quoted : Bool) → List ℕ → Phase
passed true x = after_quote (quoted_token x)
passed false x = in_bare x

-- a label's text, from where a label may begin
raw_whole : (c q : Bool) (x rest : List ℕ) → 1 ≤ length x → all_of (inner_of q) x ≡ true → run (due c) (token_by q x ++ rest) ≡ run (passed q x) rest
unfolding raw_step kind_of
raw_whole c true x rest l h =
    raw_quoted raw_byte in_quotes (λ y b k. grows y b (kind_inner b k)) (due c) (after_quote (quoted_token x)) x rest (begins c)
    (ap (λ (t : Bool). cond t halt (on (after_quote (quoted_token x)))) (ne_eqb (length x) 0 (λ (e : length x ≡ 0). omega arith))) h
  where
    grows : (y : List ℕ) (b : ℕ) → (kind_of b ≡ LabelByte) ⊎ (kind_of b ≡ Blank) → raw_byte (in_quotes y) b ≡ on (in_quotes (y ++ (b ∷ [])))
    grows y b (inl k) = ap (raw_quotes y b) k
    grows y b (inr k) = ap (raw_quotes y b) k

    begins : (c : Bool) → raw_byte (due c) quote_byte ≡ on (in_quotes [])
    begins true = refl
    begins false = refl
raw_whole c false x rest l h =
    raw_bare_lem raw_byte in_bare (λ y b k. ap (raw_bare y b) (kind_label b k)) (due c) (λ b k. begins c b ∙ ap (raw_due b) (kind_label b k)) x rest l h
  where
    begins : (c : Bool) (b : ℕ) → raw_byte (due c) b ≡ raw_due b (kind_of b)
    begins true b = refl
    begins false b = refl

-- a comma ends it
comma_next : (q : Bool) (x : List ℕ) → raw_byte (passed q x) comma_byte ≡ on label_due
unfolding raw_step kind_of
comma_next true x = refl
comma_next false x = refl

-- labels joined by commas end after a label
raw_joined : (c : Bool) (x : Token) (xs : List Token) → loose_labels (x ∷ xs) ≡ true
    → (q : Bool) × (y : List ℕ) × (run (due c) (joined (x ∷ xs)) ≡ on (passed q y))
unfolding joined
raw_joined c x [] h =
    let f = loose_formed x (loose_head x [] h).0 in (
      f.quoted,
      f.inner,
      ap (run (due c)) (f.is ∙ sym (append-nil (token_by f.quoted f.inner)))
          ∙ raw_whole c f.quoted f.inner [] f.some f.letters
          ∙ raw_nil raw_byte (passed f.quoted f.inner),
    )
raw_joined c x (y ∷ ys) h =
    let f = loose_formed x (loose_head x (y ∷ ys) h).0 in
    let i = raw_joined false y ys (loose_head x (y ∷ ys) h).1 in (
      i.0,
      i.1,
      ap (λ (w : Token). run (due c) (w ++ (comma_byte ∷ joined (y ∷ ys)))) f.is
          ∙ raw_whole c f.quoted f.inner (comma_byte ∷ joined (y ∷ ys)) f.some f.letters
          ∙ raw_cons raw_byte (passed f.quoted f.inner) label_due comma_byte (joined (y ∷ ys)) (comma_next f.quoted f.inner)
          ∙ i.2,
    )

-- the phases in which a list may end
abbrev pub may_end : Phase → Bool
may_end at_start = true
may_end label_due = false
may_end (in_bare x) = true
may_end (in_quotes x) = false
may_end (after_quote x) = true

passed_ends : (q : Bool) (x : List ℕ) → may_end (passed q x) ≡ true
passed_ends true x = refl
passed_ends false x = refl

-- so a text of the grammar is read to its end, and ends in such a phase
pub raw_text_lem : (s : List ℕ) → ListText s → (p : Phase) × (raw_text s ≡ on p) × (may_end p ≡ true)
unfolding joined
raw_text_lem s ([], h, e) = (at_start, ap raw_text e ∙ raw_nil raw_byte at_start, refl)
raw_text_lem s (x ∷ xs, h, e) =
    let g = raw_joined true x xs h in (passed g.0 g.1, ap raw_text e ∙ g.2, passed_ends g.0 g.1)

-- and where the reading stopped, no text of the grammar goes on
pub list_stopped : (p : List ℕ) → raw_text p ≡ halt → Continues ListText p → ⊥
list_stopped = stopped raw_byte ListText at_start (λ p w. let g = raw_text_lem p w in (g.0, g.1))

-- complete labels, each with its comma
abbrev pub lead_text : List Token → List ℕ
lead_text [] = []
lead_text (x ∷ xs) = x ++ (comma_byte ∷ lead_text xs)

pub lead_last : (xs : List Token) (x : Token) → lead_text (xs ++ (x ∷ [])) ≡ (lead_text xs ++ x) ++ (comma_byte ∷ [])
lead_last [] x = refl
lead_last (y ∷ ys) x = rw (lead_last ys x) (simp append_assoc)

pub joined_last : (xs : List Token) (x : Token) → joined (xs ++ (x ∷ [])) ≡ lead_text xs ++ x
unfolding joined
joined_last [] x = refl
joined_last (y ∷ []) x = simp append_assoc
joined_last (y ∷ z ∷ zs) x = ap (λ (q : List ℕ). y ++ (comma_byte ∷ q)) (joined_last (z ∷ zs) x) ∙ simp append_assoc

-- what was read can be continued: after a label, where one must begin, and inside one
pub label_continues : (xs : List Token) (x : Token) → loose_labels xs ≡ true → loose_label x ≡ true → Continues ListText (lead_text xs ++ x)
label_continues xs x h k =
    ([], (xs ++ (x ∷ []), loose_join xs (x ∷ []) h (loose_cons x [] k loose_none), append-nil (lead_text xs ++ x) ∙ sym (joined_last xs x)))

-- 97 is the label `a`
pub due_continues : (xs : List Token) → loose_labels xs ≡ true → Continues ListText (lead_text xs)
unfolding all_of is_label_byte
due_continues xs h =
    let c = label_continues xs (97 ∷ []) h (form_loose false (97 ∷ []) (omega arith) refl) in
    ((97 ∷ []) ++ c.0, subst ListText (append_assoc (lead_text xs) (97 ∷ []) c.0) c.1)

pub within_continues : (xs : List Token) (q : Bool) (x : List ℕ) → loose_labels xs ≡ true → Begun q x → all_of (inner_of q) x ≡ true
    → Continues ListText (lead_text xs ++ so_far q x)
unfolding is_inner_byte
within_continues xs true x h s k =
    let c = label_continues xs (quoted_token (x ++ (97 ∷ []))) h longer in
    ((97 ∷ (quote_byte ∷ [])) ++ c.0, subst ListText (same c.0) c.1)
  where
    same : (r : List ℕ)
        → (lead_text xs ++ quoted_token (x ++ (97 ∷ []))) ++ r ≡ (lead_text xs ++ (quote_byte ∷ x)) ++ ((97 ∷ (quote_byte ∷ [])) ++ r)
    same r = simp append_assoc

    longer : loose_label (quoted_token (x ++ (97 ∷ []))) ≡ true
    longer = form_loose true (x ++ (97 ∷ [])) (omega (arith, length-append x (97 ∷ []))) (bytes_snoc is_inner_byte x 97 k refl)
within_continues xs false x h s k = label_continues xs x h (form_loose false x s k)
