-- Laws that the readers of trees and of lists share: kinds of bytes, what stands ahead at a place, the test for a repeat, and how often
-- a byte stands in a text. Assumes nothing.
use Prim.Native.Nat.{ℕ, zero, suc, ◌+◌, ◌<◌, ◌≤◌}
use mathlib.Core.Path.{◌≡◌, refl, sym, ◌∙◌, ap, subst}
use mathlib.Core.Bool.{Bool, true, false, cond, ◌&&◌, ◌||◌, and-false}
use mathlib.Core.Logic.{◌⊎◌, inl, inr}
use mathlib.Core.List.{List, [], ◌∷◌, ◌++◌, map, append-nil}
use native.Mathlib.Omega.{arith}
use native.Mathlib.Nat.{le_of_suc-le-suc, not-suc-le-zero}
use lib.Dec.{eqb, leb}
use lib.ListN.{length, get_or, drop, length-append}
use lib.Seq.{drop_at}
use borrow.Author.Tests.{eqb-true, eqb-false, leb-true, le-leb, eq-eqb, ne_eqb, lt-leb}
use Rattle.trees.specs.declared.Kind.{Kind}
use Rattle.trees.specs.declared.Kind.TheVariants.{Label as LabelByte, Open, Close, Comma, Semicolon, Quote, Blank, Other}
use Rattle.trees.specs.Bytes.{is_label_byte, is_inner_byte, kind_of, open_byte, close_byte, comma_byte, semicolon_byte, quote_byte, blank_byte}
use Rattle.trees.specs.Label.{Label, label_limit, is_in}
use Rattle.trees.specs.Token.{Token, bare_byte, all_of, loose_label}
use Rattle.trees.specs.Reading.{run_of, quote_first, Ahead, bare_ahead, quoted_ahead, ahead, repeats}
use Rattle.trees.specs.Faults.{occurrences}
use Rattle.trees.proofs.Bools.{bool_cases, clash, and_left, and_right, refute, or_none_left, or_none_right}
use Rattle.trees.proofs.ListLaws.{label_not_quote}
use Rattle.trees.proofs.TokenForms.{inner_of, opening_of, so_far, token_by, label_by, loose_formed, inner_any, quote_not_inner}

-- ---- kinds of bytes

-- a byte that stands in no label and begins none
pub record Plain (b : ℕ) : Type 0 where
  pub inner : is_inner_byte b ≡ false
  pub begins : (is_label_byte b || eqb b quote_byte) ≡ false

pub plain_label : (b : ℕ) → Plain b → is_label_byte b ≡ false
plain_label b p = or_none_left (is_label_byte b) (eqb b quote_byte) p.begins

-- the four marks are such bytes
pub open_plain : Plain open_byte
unfolding is_label_byte is_inner_byte
open_plain = record { inner = refl; begins = refl }

pub close_plain : Plain close_byte
unfolding is_label_byte is_inner_byte
close_plain = record { inner = refl; begins = refl }

pub comma_plain : Plain comma_byte
unfolding is_label_byte is_inner_byte
comma_plain = record { inner = refl; begins = refl }

pub semicolon_plain : Plain semicolon_byte
unfolding is_label_byte is_inner_byte
semicolon_plain = record { inner = refl; begins = refl }

-- what the kind of a byte says of it
pub data KindView (b : ℕ) : Kind → Type 0 where
  is_label : is_label_byte b ≡ true → KindView b LabelByte
  is_open : b ≡ open_byte → Plain b → KindView b Open
  is_close : b ≡ close_byte → Plain b → KindView b Close
  is_comma : b ≡ comma_byte → Plain b → KindView b Comma
  is_semicolon : b ≡ semicolon_byte → Plain b → KindView b Semicolon
  is_quote : b ≡ quote_byte → KindView b Quote
  is_blank : b ≡ blank_byte → KindView b Blank
  is_other : Plain b → KindView b Other

other_plain : (b : ℕ) → is_label_byte b ≡ false → eqb b quote_byte ≡ false → eqb b blank_byte ≡ false → Plain b
unfolding is_inner_byte
other_plain b l q k = record { inner = rw (l, k) refl; begins = rw (l, q) refl }

kinds : (b : ℕ) (l o c m s q k : Bool) → is_label_byte b ≡ l → eqb b open_byte ≡ o → eqb b close_byte ≡ c → eqb b comma_byte ≡ m
    → eqb b semicolon_byte ≡ s → eqb b quote_byte ≡ q → eqb b blank_byte ≡ k
    → KindView b
    (cond l LabelByte (cond o Open (cond c Close (cond m Comma (cond s Semicolon (cond q Quote (cond k Blank Other)))))))
kinds b true o c m s q k el eo ec em es eq ek = is_label el
kinds b false true c m s q k el eo ec em es eq ek = is_open (eqb-true b open_byte eo) (subst Plain (sym (eqb-true b open_byte eo)) open_plain)
kinds b false false true m s q k el eo ec em es eq ek =
    is_close (eqb-true b close_byte ec) (subst Plain (sym (eqb-true b close_byte ec)) close_plain)
kinds b false false false true s q k el eo ec em es eq ek =
    is_comma (eqb-true b comma_byte em) (subst Plain (sym (eqb-true b comma_byte em)) comma_plain)
kinds b false false false false true q k el eo ec em es eq ek =
    is_semicolon (eqb-true b semicolon_byte es) (subst Plain (sym (eqb-true b semicolon_byte es)) semicolon_plain)
kinds b false false false false false true k el eo ec em es eq ek = is_quote (eqb-true b quote_byte eq)
kinds b false false false false false false true el eo ec em es eq ek = is_blank (eqb-true b blank_byte ek)
kinds b false false false false false false false el eo ec em es eq ek = is_other (other_plain b el eq ek)

pub kind_view : (b : ℕ) → KindView b (kind_of b)
unfolding kind_of
kind_view b =
    kinds b (is_label_byte b) (eqb b open_byte) (eqb b close_byte) (eqb b comma_byte) (eqb b semicolon_byte) (eqb b quote_byte)
    (eqb b blank_byte) refl refl refl refl refl refl refl

pub kind_label : (b : ℕ) → is_label_byte b ≡ true → kind_of b ≡ LabelByte
unfolding kind_of
kind_label b h = rw h

-- a byte between quotes is of one of two kinds
pub kind_inner : (b : ℕ) → is_inner_byte b ≡ true → (kind_of b ≡ LabelByte) ⊎ (kind_of b ≡ Blank)
kind_inner b h = go (kind_of b) refl (kind_view b)
  where
    go : (k : Kind) → kind_of b ≡ k → KindView b k → (kind_of b ≡ LabelByte) ⊎ (kind_of b ≡ Blank)
    go LabelByte e v = inl e
    go Open e (is_open d p) = clash h p.inner
    go Close e (is_close d p) = clash h p.inner
    go Comma e (is_comma d p) = clash h p.inner
    go Semicolon e (is_semicolon d p) = clash h p.inner
    go Quote e (is_quote d) = clash (subst (λ (w : ℕ). is_inner_byte w ≡ true) d h) quote_not_inner
    go Blank e v = inr e
    go Other e (is_other p) = clash h p.inner

-- a mark is no byte of a token
pub plain_not_of : (q : Bool) (b : ℕ) → Plain b → inner_of q b ≡ false
plain_not_of q b p = refute (inner_of q b) (λ (h : inner_of q b ≡ true). clash (inner_any q b h) p.inner)

-- ---- the longest run of bytes that pass a test

module _ (is : ℕ → Bool) where
  pub run_cons : (b : ℕ) (rest : List ℕ) → is b ≡ true → run_of is (b ∷ rest) ≡ b ∷ run_of is rest
  unfolding run_of
  run_cons b rest h = rw h

  pub run_none : (b : ℕ) (rest : List ℕ) → is b ≡ false → run_of is (b ∷ rest) ≡ []
  unfolding run_of
  run_none b rest h = rw h

  pub run_end : run_of is [] ≡ []
  unfolding run_of
  run_end = refl

  -- it goes through such bytes
  pub run_through : (x rest : List ℕ) → all_of is x ≡ true → run_of is (x ++ rest) ≡ x ++ run_of is rest
  unfolding all_of
  run_through [] rest h = refl
  run_through (b ∷ x) rest h =
      run_cons b (x ++ rest) (and_left (is b) (all_of is x) h)
      ∙ ap (λ (y : List ℕ). b ∷ y) (run_through x rest (and_right (is b) (all_of is x) h))

  run_byte_go : (b : ℕ) (s : List ℕ) (k : ℕ) → ((m : ℕ) → m < length (run_of is s) → is (get_or s m 0) ≡ true)
      → (is b ≡ true) ⊎ (is b ≡ false) → k < length (run_of is (b ∷ s)) → is (get_or (b ∷ s) k 0) ≡ true
  run_byte_go b s zero ih (inl h) l = h
  run_byte_go b s (suc k) ih (inl h) l = ih k (le_of_suc-le-suc (subst (λ (r : List ℕ). suc k < length r) (run_cons b s h) l))
  run_byte_go b s k ih (inr h) l = absurd (not-suc-le-zero (subst (λ (r : List ℕ). k < length r) (run_none b s h) l))

  -- its bytes pass the test
  pub run_byte : (s : List ℕ) (k : ℕ) → k < length (run_of is s) → is (get_or s k 0) ≡ true
  run_byte [] k l = absurd (not-suc-le-zero (subst (λ (r : List ℕ). k < length r) run_end l))
  run_byte (b ∷ s) k l = run_byte_go b s k (run_byte s) (bool_cases (is b)) l

  run_length_go : (b : ℕ) (s : List ℕ) → length (run_of is s) ≤ length s → (is b ≡ true) ⊎ (is b ≡ false)
      → length (run_of is (b ∷ s)) ≤ length (b ∷ s)
  run_length_go b s ih (inl h) = rw (run_cons b s h) (omega arith)
  run_length_go b s ih (inr h) = rw (run_none b s h) (omega arith)

  pub run_length : (s : List ℕ) → length (run_of is s) ≤ length s
  run_length [] = rw run_end (omega arith)
  run_length (b ∷ s) = run_length_go b s (run_length s) (bool_cases (is b))

-- ---- what stands ahead, by its form

-- what must follow the inner bytes: a quote, if one opened the label
abbrev pub closed_by : (quoted : Bool) → List ℕ → Bool
closed_by true after = quote_first after
closed_by false after = true

pub quote_first_lem : (rest : List ℕ) → quote_first (quote_byte ∷ rest) ≡ true
unfolding quote_first
quote_first_lem rest = refl

pub other_first : (b : ℕ) (rest : List ℕ) → eqb b quote_byte ≡ false → quote_first (b ∷ rest) ≡ false
unfolding quote_first
other_first b rest h = h

pub none_first : quote_first [] ≡ false
unfolding quote_first
none_first = refl

-- a place at which a quote stands
pub first_quote : (s : List ℕ) → quote_first s ≡ true → get_or s 0 0 ≡ quote_byte
unfolding quote_first
first_quote [] h = clash h refl
first_quote (b ∷ s) h = eqb-true b quote_byte h

both_true : (a : Bool) → a ≡ (a && true)
both_true true = refl
both_true false = refl

-- what stands ahead, by its form, its inner bytes and the bytes after what opens it
abbrev ahead_by : (quoted : Bool) → List ℕ → List ℕ → Ahead
ahead_by q run after =
    record {
      opening = opening_of q;
      inner = run;
      closed = leb 1 (length run) && closed_by q (drop (length run) after);
      label = label_by q run;
    }

bare_same : (run after : List ℕ) → bare_ahead run ≡ ahead_by false run after
bare_same run after =
    ap (λ (z : Bool). record { opening = 0; inner = run; closed = z; label = map bare_byte run }) (both_true (leb 1 (length run)))

module _ (q : Bool) (text : List ℕ) (form : quote_first text ≡ q) where
  ahead_is : ahead text ≡ ahead_by q (run_of (inner_of q) (drop (opening_of q) text)) (drop (opening_of q) text)
  unfolding ahead
  ahead_is = rw form (go q)
    where
      go : (c : Bool)
          → cond c (quoted_ahead (run_of is_inner_byte (drop 1 text)) (drop 1 text)) (bare_ahead (run_of is_label_byte text))
          ≡ ahead_by c (run_of (inner_of c) (drop (opening_of c) text)) (drop (opening_of c) text)
      go true = refl
      go false = bare_same (run_of is_label_byte text) text

  pub ahead_opening : (ahead text).opening ≡ opening_of q
  ahead_opening = ap (λ (a : Ahead). a.opening) ahead_is

  pub ahead_inner : (ahead text).inner ≡ run_of (inner_of q) (drop (opening_of q) text)
  ahead_inner = ap (λ (a : Ahead). a.inner) ahead_is

  pub ahead_label : (ahead text).label ≡ label_by q (ahead text).inner
  ahead_label = ap (λ (a : Ahead). a.label) ahead_is ∙ ap (label_by q) (sym ahead_inner)

  pub ahead_closed : (ahead text).closed ≡ (leb 1 (length (ahead text).inner) && closed_by q (drop (length (ahead text).inner) (drop (opening_of q) text)))
  ahead_closed =
      ap (λ (a : Ahead). a.closed) ahead_is
      ∙ ap (λ (x : List ℕ). leb 1 (length x) && closed_by q (drop (length x) (drop (opening_of q) text))) (sym ahead_inner)

-- ---- the test for a repeat

pub repeats_parts : (seen : List Label) (rest : List ℕ) → repeats seen rest ≡ true
    → (length (ahead rest).inner ≤ label_limit) × ((ahead rest).closed ≡ true) × (is_in (ahead rest).label seen ≡ true)
unfolding repeats
repeats_parts seen rest h = (
  leb-true (length (ahead rest).inner) label_limit
      (and_left (leb (length (ahead rest).inner) label_limit) (ahead rest).closed both),
  and_right (leb (length (ahead rest).inner) label_limit) (ahead rest).closed both,
  and_right (leb (length (ahead rest).inner) label_limit && (ahead rest).closed) (is_in (ahead rest).label seen) h,
)
  where
    both : (leb (length (ahead rest).inner) label_limit && (ahead rest).closed) ≡ true
    both = and_left (leb (length (ahead rest).inner) label_limit && (ahead rest).closed) (is_in (ahead rest).label seen) h

pub repeats_intro : (seen : List Label) (rest : List ℕ) → length (ahead rest).inner ≤ label_limit → (ahead rest).closed ≡ true
    → is_in (ahead rest).label seen ≡ true → repeats seen rest ≡ true
unfolding repeats
repeats_intro seen rest l c h = rw (le-leb (length (ahead rest).inner) label_limit l, c, h) refl

-- no repeat: the label is new, it is too long, or it is not closed
pub fresh_repeats : (seen : List Label) (rest : List ℕ) → is_in (ahead rest).label seen ≡ false → repeats seen rest ≡ false
unfolding repeats
fresh_repeats seen rest h = rw h (and-false (leb (length (ahead rest).inner) label_limit && (ahead rest).closed))

pub long_repeats : (seen : List Label) (rest : List ℕ) → label_limit < length (ahead rest).inner → repeats seen rest ≡ false
unfolding repeats
long_repeats seen rest h = rw (lt-leb (length (ahead rest).inner) label_limit h) refl

pub unclosed_repeats : (seen : List Label) (rest : List ℕ) → (ahead rest).closed ≡ false → repeats seen rest ≡ false
unfolding repeats
unclosed_repeats seen rest h =
    rw h (ap (λ (b : Bool). b && is_in (ahead rest).label seen) (and-false (leb (length (ahead rest).inner) label_limit)))

-- a token of which x was read: its form shows at its first byte
abbrev pub Begun : (quoted : Bool) → List ℕ → Type 0
Begun true x = Unit {0}
Begun false x = 1 ≤ length x

pub begun_form : (q : Bool) (x rest : List ℕ) → Begun q x → all_of (inner_of q) x ≡ true → quote_first (so_far q x ++ rest) ≡ q
unfolding all_of
begun_form true x rest s h = quote_first_lem (x ++ rest)
begun_form false [] rest s h = absurd (omega arith)
begun_form false (b ∷ x) rest s h = other_first b (x ++ rest) (label_not_quote b (and_left (is_label_byte b) (all_of is_label_byte x) h))

pub begun_some : (q : Bool) (x : List ℕ) → 1 ≤ length x → Begun q x
begun_some true x l = tt
begun_some false x l = l

module _ (q : Bool) (x rest : List ℕ) (s : Begun q x) (h : all_of (inner_of q) x ≡ true) where
  beyond : drop (opening_of q) (so_far q x ++ rest) ≡ x ++ rest
  beyond = go q
    where
      go : (c : Bool) → drop (opening_of c) (so_far c x ++ rest) ≡ x ++ rest
      go true = refl
      go false = refl

  -- its inner bytes
  pub begun_inner : (ahead (so_far q x ++ rest)).inner ≡ x ++ run_of (inner_of q) rest
  begun_inner =
      ahead_inner q (so_far q x ++ rest) (begun_form q x rest s h) ∙ ap (run_of (inner_of q)) beyond ∙ run_through (inner_of q) x rest h

  -- where no more follow
  module _ (e : run_of (inner_of q) rest ≡ []) where
    pub ended_inner : (ahead (so_far q x ++ rest)).inner ≡ x
    ended_inner = begun_inner ∙ ap (λ (y : List ℕ). x ++ y) e ∙ append-nil x

    pub ended_label : (ahead (so_far q x ++ rest)).label ≡ label_by q x
    ended_label = ahead_label q (so_far q x ++ rest) (begun_form q x rest s h) ∙ ap (label_by q) ended_inner

    pub ended_closed : (ahead (so_far q x ++ rest)).closed ≡ (leb 1 (length x) && closed_by q rest)
    ended_closed =
        ahead_closed q (so_far q x ++ rest) (begun_form q x rest s h)
        ∙ ap (λ (y : List ℕ). leb 1 (length y) && closed_by q (drop (length y) (drop (opening_of q) (so_far q x ++ rest)))) ended_inner
        ∙ ap (λ (y : List ℕ). leb 1 (length x) && closed_by q (drop (length x) y)) beyond
        ∙ ap (λ (y : List ℕ). leb 1 (length x) && closed_by q y) (drop_at x rest (length x) refl)

-- a label that ends here repeats exactly if it was seen
pub repeats_ended : (seen : List Label) (q : Bool) (x rest : List ℕ) → 1 ≤ length x → length x ≤ label_limit → all_of (inner_of q) x ≡ true
    → run_of (inner_of q) rest ≡ [] → closed_by q rest ≡ true → repeats seen (so_far q x ++ rest) ≡ is_in (label_by q x) seen
unfolding repeats
repeats_ended seen q x rest l m h e c =
    let s = begun_some q x l in
    rw (ended_inner q x rest s h e, ended_closed q x rest s h e, ended_label q x rest s h e, le-leb (length x) label_limit m, le-leb 1 (length x) l, c) refl

-- an overlong one does not
pub repeats_long : (seen : List Label) (q : Bool) (x : List ℕ) (b : ℕ) (rest : List ℕ) → Begun q x → all_of (inner_of q) x ≡ true
    → inner_of q b ≡ true → label_limit ≤ length x → repeats seen (so_far q x ++ (b ∷ rest)) ≡ false
repeats_long seen q x b rest s h k l =
    long_repeats seen (so_far q x ++ (b ∷ rest))
    (omega (
      arith,
      ap length (begun_inner q x (b ∷ rest) s h ∙ ap (λ (y : List ℕ). x ++ y) (run_cons (inner_of q) b rest k)),
      length-append x (b ∷ run_of (inner_of q) rest),
    ))

-- nor one whose quote does not close, or closes at once
pub repeats_unclosed : (seen : List Label) (x rest : List ℕ) → all_of is_inner_byte x ≡ true → run_of is_inner_byte rest ≡ []
    → quote_first rest ≡ false → repeats seen (quote_byte ∷ (x ++ rest)) ≡ false
repeats_unclosed seen x rest h e c =
    unclosed_repeats seen (quote_byte ∷ (x ++ rest))
    (ended_closed true x rest tt h e ∙ rw c (and-false (leb 1 (length x))))

pub repeats_empty : (seen : List Label) (rest : List ℕ) → repeats seen (quote_byte ∷ (quote_byte ∷ rest)) ≡ false
unfolding all_of
repeats_empty seen rest =
    unclosed_repeats seen (quote_byte ∷ (quote_byte ∷ rest))
    (ended_closed true [] (quote_byte ∷ rest) tt refl (run_none is_inner_byte quote_byte rest quote_not_inner))

-- how often a byte stands in a text
pub occurrences_append : (b : ℕ) (s t : List ℕ) → occurrences b (s ++ t) ≡ occurrences b s + occurrences b t
unfolding occurrences
occurrences_append b [] t = omega arith
occurrences_append b (x ∷ s) t = go (eqb b x) (occurrences_append b s t)
  where
    go : (c : Bool) → occurrences b (s ++ t) ≡ occurrences b s + occurrences b t
        → cond c (suc (occurrences b (s ++ t))) (occurrences b (s ++ t)) ≡ cond c (suc (occurrences b s)) (occurrences b s) + occurrences b t
    go true e = omega arith
    go false e = e

pub occurs_not : (b x : ℕ) (s : List ℕ) → (b ≡ x → ⊥) → occurrences b (x ∷ s) ≡ occurrences b s
unfolding occurrences
occurs_not b x s n = rw (ne_eqb b x n)

pub occurs : (b x : ℕ) (s : List ℕ) → b ≡ x → occurrences b (x ∷ s) ≡ suc (occurrences b s)
unfolding occurrences
occurs b x s e = rw (eq-eqb b x e)

pub occurs_none : (b : ℕ) → occurrences b [] ≡ 0
unfolding occurrences
occurs_none b = refl

-- a mark does not stand in a token
pub occurs_of : (q : Bool) (b : ℕ) (x : List ℕ) → inner_of q b ≡ false → all_of (inner_of q) x ≡ true → occurrences b x ≡ 0
unfolding all_of
occurs_of q b [] n h = occurs_none b
occurs_of q b (a ∷ x) n h =
    occurs_not b a x (λ (e : b ≡ a). clash (subst (λ (w : ℕ). inner_of q w ≡ true) (sym e) (and_left (inner_of q a) (all_of (inner_of q) x) h)) n)
    ∙ occurs_of q b x n (and_right (inner_of q a) (all_of (inner_of q) x) h)

pub occurs_token : (b : ℕ) (tok : Token) → Plain b → loose_label tok ≡ true → occurrences b tok ≡ 0
occurs_token b tok n h = let f = loose_formed tok h in ap (occurrences b) f.is ∙ go f.quoted f.inner f.letters
  where
    other : b ≡ quote_byte → ⊥
    other e = eqb-false b quote_byte (or_none_right (is_label_byte b) (eqb b quote_byte) n.begins) e

    go : (q : Bool) (x : List ℕ) → all_of (inner_of q) x ≡ true → occurrences b (token_by q x) ≡ 0
    go true x k =
        occurs_not b quote_byte (x ++ (quote_byte ∷ [])) other
        ∙ occurrences_append b x (quote_byte ∷ [])
        ∙ omega (arith, occurs_of true b x (plain_not_of true b n) k, occurs_not b quote_byte [] other, occurs_none b)
    go false x k = occurs_of false b x (plain_not_of false b n) k
