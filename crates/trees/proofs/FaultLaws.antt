-- Laws of the faults of a text, for any grammar: where labels begin, which faults can stand at a place, and that the first fault is
-- one. The readers of trees and of lists cite these laws. Assumes nothing.
use Prim.Native.Nat.{ℕ, zero, suc, ◌+◌, ◌-◌, ◌<◌, ◌≤◌}
use mathlib.Core.Path.{◌≡◌, refl, sym, ◌∙◌, ap, subst}
use mathlib.Core.Bool.{Bool, true, false, cond, ◌&&◌, ◌||◌}
use mathlib.Core.Logic.{◌⊎◌, inl, inr, ⊎_elim}
use mathlib.Core.List.{List, [], ◌∷◌, ◌++◌, map, map-append, append_assoc, append-nil}
use native.Mathlib.Omega.{arith}
use lib.Dec.{eqb, ltb, leb}
use lib.ListN.{length, get_or, take, drop, length-append, length-drop, drop_of_length-le}
use lib.Seq.{get_or-drop, drop-drop, take_at, drop_at, get_or_at}
use borrow.Author.Tests.{ltb-true, ltb-false, le-leb}
use Rattle.trees.specs.declared.Reason.{Reason}
use Rattle.trees.specs.declared.Reason.TheVariants.{BadByte, EndsTooSoon, LabelTooLong, TooMany, Repeated, ClaimDisagrees, ClaimLacks, ClaimSmall, Contents, Disagree, FirstLacks, JobTooLong, NotShared, SecondLacks, TooShort}
use Rattle.trees.specs.Bytes.{is_label_byte, is_inner_byte, open_byte, comma_byte, quote_byte}
use Rattle.trees.specs.Label.{Label, label_limit, is_in, distinct}
use Rattle.trees.specs.Token.{Token, spelling, all_of, good_label, good_labels}
use Rattle.trees.specs.Reading.{run_of, quote_first, repeats}
use Rattle.trees.specs.Refusals.{number_of}
use Rattle.trees.specs.Faults.{Continues, Edge, LabelStarts, label_from, Fault, bad_byte, ends_too_soon, label_too_long, too_many}
use Rattle.trees.specs.Faults.{repeated, FirstFault}
use Rattle.trees.proofs.Bools.{bool_cases, clash, refute, or_inl, or_inr}
use Rattle.trees.proofs.ListLaws.{in_none, in_left, in_here, in_last_cases, good_none, good_join, good_cons, distinct_none, distinct_last}
use Rattle.trees.proofs.ListLaws.{bytes_one, bytes_snoc, label_not_quote}
use Rattle.trees.proofs.TokenForms.{inner_of, opening_of, token_by, label_by, inner_any, form_spelling, form_good, quote_not_inner}
use Rattle.trees.proofs.ReadingLaws.{Plain, open_plain, comma_plain, run_byte, run_length, run_cons, run_none, run_end, closed_by, quote_first_lem}
use Rattle.trees.proofs.ReadingLaws.{other_first, first_quote, ahead_opening, ahead_inner, ahead_label, ahead_closed, repeats_parts, repeats_intro}

pub lt_or_le : (a b : ℕ) → (a < b) ⊎ (b ≤ a)
lt_or_le a b = ⊎_elim (λ (h : ltb a b ≡ true). inl (ltb-true a b h)) (λ (h : ltb a b ≡ false). inr (ltb-false a b h)) (bool_cases (ltb a b))

-- ---- the token that begins at a place

-- where its inner bytes begin
abbrev inner_start : List ℕ → ℕ → ℕ
inner_start text j = j + (label_from text j).opening

-- the first place after them
abbrev inner_end : List ℕ → ℕ → ℕ
inner_end text j = inner_start text j + length (label_from text j).inner

module _ (text : List ℕ) (j : ℕ) (q : Bool) (form : quote_first (drop j text) ≡ q) where
  pub opening_at : (label_from text j).opening ≡ opening_of q
  opening_at = ahead_opening q (drop j text) form

  pub inner_at : (label_from text j).inner ≡ run_of (inner_of q) (drop (j + opening_of q) text)
  inner_at = ahead_inner q (drop j text) form ∙ ap (run_of (inner_of q)) (drop-drop (opening_of q) j text)

  letter_at : (m : ℕ) → inner_start text j ≤ m → m < inner_end text j → inner_of q (get_or text m 0) ≡ true
  letter_at m l h =
      subst (λ (n : ℕ). inner_of q (get_or text n 0) ≡ true) same
      (subst (λ (b : ℕ). inner_of q b ≡ true) (get_or-drop (j + opening_of q) text (m - (j + opening_of q)) 0)
      (run_byte (inner_of q) (drop (j + opening_of q) text) (m - (j + opening_of q)) (omega (arith, ap length inner_at, opening_at))))
    where
      same : j + opening_of q + (m - (j + opening_of q)) ≡ m
      same = omega (arith, opening_at)

  first_at : (m : ℕ) → j ≤ m → m < inner_start text j → get_or text m 0 ≡ quote_byte
  first_at m l h = go q form opening_at
    where
      go : (c : Bool) → quote_first (drop j text) ≡ c → (label_from text j).opening ≡ opening_of c → get_or text m 0 ≡ quote_byte
      go true f o =
          ap (λ (n : ℕ). get_or text n 0) same ∙ sym (get_or-drop j text 0 0) ∙ first_quote (drop j text) f
        where
          same : m ≡ j + 0
          same = omega arith
      go false f o = absurd (omega arith)

  inside_at : (n : ℕ) → n < length (label_from text j).inner → inner_start text j + n < length text
  inside_at n h =
      omega (arith, ap length inner_at, run_length (inner_of q) (drop (j + opening_of q) text), length-drop (j + opening_of q) text, opening_at)

-- its inner bytes are such as can stand between quotes
inner_byte : (text : List ℕ) (j m : ℕ) → inner_start text j ≤ m → m < inner_end text j → is_inner_byte (get_or text m 0) ≡ true
inner_byte text j m l h = inner_any (quote_first (drop j text)) (get_or text m 0) (letter_at text j (quote_first (drop j text)) refl m l h)

-- and lie in the text
inner_inside : (text : List ℕ) (j n : ℕ) → n < length (label_from text j).inner → inner_start text j + n < length text
inner_inside text j n h = inside_at text j (quote_first (drop j text)) refl n h

-- the place p of a text that goes on with b and rest
pub record Seam (text p : List ℕ) (b : ℕ) (rest : List ℕ) (i : ℕ) : Type 0 where
  pub inside : i < length text
  pub byte : get_or text i 0 ≡ b
  pub before : take i text ≡ p
  pub upto : take (suc i) text ≡ p ++ (b ∷ [])
  pub onward : drop i text ≡ b ∷ rest
  pub beyond : drop (suc i) text ≡ rest

pub seam : (text p : List ℕ) (b : ℕ) (rest : List ℕ) (i : ℕ) → text ≡ p ++ (b ∷ rest) → i ≡ length p → Seam text p b rest i
seam text p b rest i e l =
    record {
      inside = omega (arith, ap length e, length-append p (b ∷ rest));
      byte = ap (λ (t : List ℕ). get_or t i 0) e ∙ get_or_at p b rest 0 i (sym l);
      before = ap (λ (t : List ℕ). take i t) e ∙ take_at p (b ∷ rest) i (sym l);
      upto = ap (λ (t : List ℕ). take (suc i) t) e' ∙ take_at (p ++ (b ∷ [])) rest (suc i) l';
      onward = ap (λ (t : List ℕ). drop i t) e ∙ drop_at p (b ∷ rest) i (sym l);
      beyond = ap (λ (t : List ℕ). drop (suc i) t) e' ∙ drop_at (p ++ (b ∷ [])) rest (suc i) l';
    }
  where
    e' : text ≡ (p ++ (b ∷ [])) ++ rest
    e' = e ∙ sym (append_assoc p (b ∷ []) rest)

    l' : length (p ++ (b ∷ [])) ≡ suc i
    l' = omega (arith, length-append p (b ∷ []))

-- none of its bytes is `(` or `,`
not_inner : (b : ℕ) → (b ≡ open_byte) ⊎ (b ≡ comma_byte) → is_inner_byte b ≡ false
not_inner b (inl e) = rw e open_plain.inner
not_inner b (inr e) = rw e comma_plain.inner

not_quote : (b : ℕ) → (b ≡ open_byte) ⊎ (b ≡ comma_byte) → b ≡ quote_byte → ⊥
not_quote b (inl e) d = omega arith
not_quote b (inr e) d = omega arith

no_edge_in : (text : List ℕ) (j m : ℕ) → j ≤ m → m < inner_end text j → (get_or text m 0 ≡ open_byte) ⊎ (get_or text m 0 ≡ comma_byte) → ⊥
no_edge_in text j m l h e = go (lt_or_le m (inner_start text j))
  where
    go : (m < inner_start text j) ⊎ (inner_start text j ≤ m) → ⊥
    go (inl k) = not_quote (get_or text m 0) e (first_at text j (quote_first (drop j text)) refl m l k)
    go (inr k) = clash (inner_byte text j m k h) (not_inner (get_or text m 0) e)

-- so a token ends before the next place at which one can begin
pub ends_before : (text : List ℕ) (j k : ℕ) → Edge text k → j < k → inner_end text j < k
ends_before text j zero g h = omega arith
ends_before text j (suc m) g h = go (lt_or_le (inner_end text j) (suc m))
  where
    go : (inner_end text j < suc m) ⊎ (suc m ≤ inner_end text j) → inner_end text j < suc m
    go (inl l) = l
    go (inr l) = absurd (no_edge_in text j m (omega arith) (omega arith) (g m refl))

-- ---- what is known of the labels before a place

-- `seen` are the labels that begin before place i
pub record Known (Whole : List ℕ → Type 0) (text : List ℕ) (seen : List Label) (i : ℕ) : Type 0 where
  pub known : (k : ℕ) → LabelStarts Whole text k → k < i → is_in (label_from text k).label seen ≡ true
  pub origin : (y : Label) → is_in y seen ≡ true → (k : ℕ) × (k < i) × LabelStarts Whole text k × ((label_from text k).label ≡ y)

-- inside a token: it began at `start` and is no repeat, and x are its inner bytes before place i
pub record Inside (Whole : List ℕ → Type 0) (text : List ℕ) (seen : List Label) (q : Bool) (x : List ℕ) (i : ℕ) : Type 0 where
  pub start : ℕ
  pub starts : LabelStarts Whole text start
  pub marks : Known Whole text seen start
  pub form : quote_first (drop start text) ≡ q
  pub reach : start + opening_of q + length x ≡ i
  pub past : start < i
  pub letters : all_of (inner_of q) x ≡ true
  pub short : length x ≤ label_limit
  pub run : (label_from text start).inner ≡ x ++ run_of (inner_of q) (drop i text)
  pub fresh : repeats seen (drop start text) ≡ false

-- the token is complete and its label new; `seen` are the tokens before it
pub record Ended (Whole : List ℕ → Type 0) (text : List ℕ) (seen : List Token) (tok : Token) (i : ℕ) : Type 0 where
  pub well : good_label tok ≡ true
  pub new : is_in (spelling tok) (map spelling seen) ≡ false
  pub marks : Known Whole text (map spelling (seen ++ (tok ∷ []))) i

module _ (Whole : List ℕ → Type 0) (text : List ℕ) where
  pub known_start : Known Whole text [] 0
  known_start = record { known = λ k s l. absurd (omega arith); origin = λ y h. clash h (in_none y) }

  -- no label begins here
  pub known_skip : (seen : List Label) (i : ℕ) → (LabelStarts Whole text i → ⊥) → Known Whole text seen i → Known Whole text seen (suc i)
  known_skip seen i n m =
      record {
        known = λ k s l. go k s l (lt_or_le k i);
        origin = λ y h. let o = m.origin y h in (o.0, wide o.0 o.1, o.2, o.3);
      }
    where
      go : (k : ℕ) → LabelStarts Whole text k → k < suc i → (k < i) ⊎ (i ≤ k) → is_in (label_from text k).label seen ≡ true
      go k s l (inl h) = m.known k s h
      go k s l (inr h) = absurd (n (subst (LabelStarts Whole text) e s))
        where
          e : k ≡ i
          e = omega arith

      wide : (k : ℕ) → k < i → k < suc i
      wide k l = omega arith

  -- a bare label begins
  pub bare_begins : (seen : List Label) (i b : ℕ) (rest : List ℕ) → drop i text ≡ b ∷ rest → drop (suc i) text ≡ rest
      → LabelStarts Whole text i → is_label_byte b ≡ true → repeats seen (drop i text) ≡ false → Known Whole text seen i
      → Inside Whole text seen false (b ∷ []) (suc i)
  bare_begins seen i b rest e f s h n m =
      record {
        start = i;
        starts = s;
        marks = m;
        form = bare;
        reach = omega arith;
        past = omega arith;
        letters = bytes_one is_label_byte b h;
        short = omega arith;
        run =
            ahead_inner false (drop i text) bare
            ∙ ap (run_of is_label_byte) e
            ∙ run_cons is_label_byte b rest h
            ∙ ap (λ (r : List ℕ). b ∷ run_of is_label_byte r) (sym f);
        fresh = n;
      }
    where
      bare : quote_first (drop i text) ≡ false
      bare = ap quote_first e ∙ other_first b rest (label_not_quote b h)

  -- a quote opens a label
  pub quoted_begins : (seen : List Label) (i b : ℕ) (rest : List ℕ) → drop i text ≡ b ∷ rest → b ≡ quote_byte
      → LabelStarts Whole text i → repeats seen (drop i text) ≡ false → Known Whole text seen i
      → Inside Whole text seen true [] (suc i)
  unfolding all_of
  quoted_begins seen i b rest e c s n m =
      record {
        start = i;
        starts = s;
        marks = m;
        form = open_quote;
        reach = omega arith;
        past = omega arith;
        letters = refl;
        short = omega arith;
        run = inner_at text i true open_quote ∙ ap (λ (k : ℕ). run_of is_inner_byte (drop k text)) one_more;
        fresh = n;
      }
    where
      open_quote : quote_first (drop i text) ≡ true
      open_quote = ap quote_first e ∙ ap (λ (w : ℕ). quote_first (w ∷ rest)) c ∙ quote_first_lem rest

      one_more : i + 1 ≡ suc i
      one_more = omega arith

  pub inside_grow : (seen : List Label) (q : Bool) (x : List ℕ) (i b : ℕ) (rest : List ℕ) → drop i text ≡ b ∷ rest → drop (suc i) text ≡ rest
      → inner_of q b ≡ true → (length x ≡ label_limit → ⊥) → Inside Whole text seen q x i → Inside Whole text seen q (x ++ (b ∷ [])) (suc i)
  inside_grow seen q x i b rest e f h n m =
      record {
        start = m.start;
        starts = m.starts;
        marks = m.marks;
        form = m.form;
        reach = omega (arith, length-append x (b ∷ []), m.reach);
        past = omega (arith, m.past);
        letters = bytes_snoc (inner_of q) x b m.letters h;
        short = less m.short;
        run =
            m.run
            ∙ ap (λ (r : List ℕ). x ++ run_of (inner_of q) r) e
            ∙ ap (λ (r : List ℕ). x ++ r) (run_cons (inner_of q) b rest h)
            ∙ sym (append_assoc x (b ∷ []) (run_of (inner_of q) rest))
            ∙ ap (λ (r : List ℕ). (x ++ (b ∷ [])) ++ run_of (inner_of q) r) (sym f);
        fresh = m.fresh;
      }
    where
      less : length x ≤ label_limit → length (x ++ (b ∷ [])) ≤ label_limit
      less l = omega (arith, length-append x (b ∷ []), n)

  -- where a token goes on, no other can begin
  pub inside_edge : (seen : List Label) (q : Bool) (x : List ℕ) (i : ℕ) (m : Inside Whole text seen q x i) (k : ℕ) → Edge text k → k ≤ i
      → k ≤ m.start
  inside_edge seen q x i m k g l = go (lt_or_le m.start k)
    where
      go : (m.start < k) ⊎ (k ≤ m.start) → k ≤ m.start
      go (inl h) =
          absurd
          (omega (
            arith,
            ends_before text m.start k g h,
            m.reach,
            opening_at text m.start q m.form,
            ap length m.run,
            length-append x (run_of (inner_of q) (drop i text)),
          ))
      go (inr h) = h

  pub inside_no_start : (seen : List Label) (q : Bool) (x : List ℕ) (i : ℕ) → Inside Whole text seen q x i → Edge text i → ⊥
  inside_no_start seen q x i m g = omega (arith, inside_edge seen q x i m i g (omega arith), m.past)

  -- the token's inner bytes end here
  module _ (seen : List Label) (q : Bool) (x : List ℕ) (i : ℕ) (m : Inside Whole text seen q x i) (e : run_of (inner_of q) (drop i text) ≡ []) where
    whole : (label_from text m.start).inner ≡ x
    whole = m.run ∙ ap (λ (r : List ℕ). x ++ r) e ∙ append-nil x

    named : (label_from text m.start).label ≡ label_by q x
    named = ahead_label q (drop m.start text) m.form ∙ ap (label_by q) whole

    -- and its label is one of those seen
    pub inside_known : Known Whole text (seen ++ (label_by q x ∷ [])) i
    inside_known =
        record {
          known = λ k s l. go k s l (lt_or_le k m.start);
          origin = λ y h. from y (in_last_cases y seen (label_by q x) h);
        }
      where
        go : (k : ℕ) → LabelStarts Whole text k → k < i → (k < m.start) ⊎ (m.start ≤ k)
            → is_in (label_from text k).label (seen ++ (label_by q x ∷ [])) ≡ true
        go k s l (inl h) = in_left (label_from text k).label seen (label_by q x ∷ []) (m.marks.known k s h)
        go k s l (inr h) =
            subst (λ (w : Label). is_in w (seen ++ (label_by q x ∷ [])) ≡ true) (sym named ∙ ap (λ (n : ℕ). (label_from text n).label) d)
            (in_here (label_by q x) seen [])
          where
            d : m.start ≡ k
            d = omega (arith, inside_edge seen q x i m k s.first (omega arith))

        from : (y : Label) → (is_in y seen ≡ true) ⊎ (y ≡ label_by q x)
            → (k : ℕ) × (k < i) × LabelStarts Whole text k × ((label_from text k).label ≡ y)
        from y (inl h) = let o = m.marks.origin y h in (o.0, omega (arith, o.1, m.past), o.2, o.3)
        from y (inr h) = (m.start, m.past, m.starts, named ∙ sym h)

    -- which, being closed, it does not repeat
    pub inside_new : 1 ≤ length x → closed_by q (drop i text) ≡ true → is_in (label_by q x) seen ≡ false
    inside_new l c =
        refute (is_in (label_by q x) seen) (λ (h : is_in (label_by q x) seen ≡ true).
        clash
        (repeats_intro seen (drop m.start text) (omega (arith, ap length whole, m.short)) closed
        (subst (λ (w : Label). is_in w seen ≡ true) (sym named) h))
        m.fresh)
      where
        beyond : drop (length x) (drop (opening_of q) (drop m.start text)) ≡ drop i text
        beyond =
            ap (drop (length x)) (drop-drop (opening_of q) m.start text)
            ∙ drop-drop (length x) (m.start + opening_of q) text
            ∙ ap (λ (n : ℕ). drop n text) m.reach

        closed : (label_from text m.start).closed ≡ true
        closed =
            ahead_closed q (drop m.start text) m.form
            ∙ ap (λ (y : List ℕ). leb 1 (length y) && closed_by q (drop (length y) (drop (opening_of q) (drop m.start text)))) whole
            ∙ rw (beyond, le-leb 1 (length x) l, c) refl

  -- so for a list of tokens
  spelled_more : (seen : List Token) (tok : Token) (x : Label) → spelling tok ≡ x → map spelling seen ++ (x ∷ []) ≡ map spelling (seen ++ (tok ∷ []))
  spelled_more seen tok x e = ap (λ (w : Label). map spelling seen ++ (w ∷ [])) (sym e) ∙ sym (map-append spelling seen (tok ∷ []))

  ended : (seen : List Token) (q : Bool) (x : List ℕ) (i k : ℕ) → Inside Whole text (map spelling seen) q x i → 1 ≤ length x
      → is_in (label_by q x) (map spelling seen) ≡ false → Known Whole text (map spelling seen ++ (label_by q x ∷ [])) k
      → Ended Whole text seen (token_by q x) k
  ended seen q x i k m l n w =
      record {
        well = form_good q x l m.short m.letters;
        new = subst (λ (y : Label). is_in y (map spelling seen) ≡ false) (sym (form_spelling q x m.letters)) n;
        marks =
            subst (λ (ys : List Label). Known Whole text ys k) (spelled_more seen (token_by q x) (label_by q x) (form_spelling q x m.letters)) w;
      }

  -- a bare label ends with the byte before this place
  pub bare_ended : (seen : List Token) (x : List ℕ) (i : ℕ) → Inside Whole text (map spelling seen) false x i
      → run_of is_label_byte (drop i text) ≡ [] → Ended Whole text seen x i
  bare_ended seen x i m e =
      ended seen false x i i m (omega (arith, m.reach, m.past))
      (inside_new (map spelling seen) false x i m e (omega (arith, m.reach, m.past)) refl)
      (inside_known (map spelling seen) false x i m e)

  -- a quoted one with the quote at this place
  pub quote_ended : (seen : List Token) (x : List ℕ) (i b : ℕ) (rest : List ℕ) → Inside Whole text (map spelling seen) true x i
      → drop i text ≡ b ∷ rest → b ≡ quote_byte → 1 ≤ length x → Ended Whole text seen (token_by true x) (suc i)
  quote_ended seen x i b rest m e c l =
      ended seen true x i (suc i) m l (inside_new (map spelling seen) true x i m none l (ap quote_first here ∙ quote_first_lem rest))
      (known_skip (map spelling seen ++ (x ∷ [])) i
      (λ (s : LabelStarts Whole text i). inside_no_start (map spelling seen) true x i m s.first)
      (inside_known (map spelling seen) true x i m none))
    where
      here : drop i text ≡ quote_byte ∷ rest
      here = e ∙ ap (λ (w : ℕ). w ∷ rest) c

      none : run_of is_inner_byte (drop i text) ≡ []
      none = ap (run_of is_inner_byte) here ∙ run_none is_inner_byte quote_byte rest quote_not_inner

  -- ---- which faults do not stand at a place

  -- no label passes its limit here
  abbrev pub NotLong : ℕ → Type 0
  NotLong i =
      (j : ℕ) → LabelStarts Whole text j → label_limit < length (label_from text j).inner → j + (label_from text j).opening + label_limit ≡ i → ⊥

  -- no label that begins here is a repeat
  abbrev pub NotRepeat : ℕ → Type 0
  NotRepeat i =
      (k : ℕ) → k < i → LabelStarts Whole text i → LabelStarts Whole text k → length (label_from text i).inner ≤ label_limit
      → (label_from text i).closed ≡ true → (label_from text k).label ≡ (label_from text i).label → ⊥

  pub plain_not_long : (i : ℕ) → is_inner_byte (get_or text i 0) ≡ false → NotLong i
  plain_not_long i n j s l e = clash (inner_byte text j i (omega arith) (omega arith)) n

  pub edge_not_long : (i : ℕ) → Edge text i → NotLong i
  edge_not_long i g j s l e = omega (arith, ends_before text j i g (omega arith))

  pub inside_not_long : (seen : List Label) (q : Bool) (x : List ℕ) (i : ℕ) → Inside Whole text seen q x i → (length x ≡ label_limit → ⊥) → NotLong i
  inside_not_long seen q x i m n j s l e = go (lt_or_le j m.start)
    where
      go : (j < m.start) ⊎ (m.start ≤ j) → ⊥
      go (inl h) = omega (arith, ends_before text j m.start m.starts.first h, m.past)
      go (inr h) = n (omega (arith, m.reach, here, e))
        where
          same : j ≡ m.start
          same = omega (arith, inside_edge seen q x i m j s.first (omega arith))

          here : j + (label_from text j).opening ≡ m.start + opening_of q
          here = ap (λ (w : ℕ). w + (label_from text w).opening) same ∙ ap (λ (w : ℕ). m.start + w) (opening_at text m.start q m.form)

  pub plain_not_repeat : (i : ℕ) → (is_label_byte (get_or text i 0) || eqb (get_or text i 0) quote_byte) ≡ false → NotRepeat i
  plain_not_repeat i n k l s t b c e = clash s.beginning n

  pub inside_not_repeat : (seen : List Label) (q : Bool) (x : List ℕ) (i : ℕ) → Inside Whole text seen q x i → NotRepeat i
  inside_not_repeat seen q x i m k l s t b c e = inside_no_start seen q x i m s.first

  pub known_not_repeat : (seen : List Label) (i : ℕ) → Known Whole text seen i → repeats seen (drop i text) ≡ false → NotRepeat i
  known_not_repeat seen i m h k l s t b c e =
      clash (repeats_intro seen (drop i text) b c (subst (λ (w : Label). is_in w seen ≡ true) e (m.known k t l))) h

module _ (Whole : List ℕ → Type 0) (Crowd : List ℕ → ℕ → Type 0) (text : List ℕ) where
  -- a repeat of one of the labels seen
  pub repeat_fault : (seen : List Label) (i : ℕ) → Known Whole text seen i → LabelStarts Whole text i → repeats seen (drop i text) ≡ true
      → Fault Whole Crowd text Repeated i
  repeat_fault seen i m s h =
      let g = repeats_parts seen (drop i text) h in
      let o = m.origin (label_from text i).label g.2 in
      repeated i o.0 o.1 s o.2 g.0 g.1 o.3

  -- the byte by which a label passes its limit
  pub long_fault : (seen : List Label) (q : Bool) (x : List ℕ) (i b : ℕ) (rest : List ℕ) → drop i text ≡ b ∷ rest → inner_of q b ≡ true
      → length x ≡ label_limit → Inside Whole text seen q x i → Fault Whole Crowd text LabelTooLong i
  long_fault seen q x i b rest e h l m =
      subst (λ (w : ℕ). Fault Whole Crowd text LabelTooLong w) at (label_too_long m.start m.starts longer)
    where
      at : m.start + (label_from text m.start).opening + label_limit ≡ i
      at = omega (arith, m.reach, opening_at text m.start q m.form)

      run : (label_from text m.start).inner ≡ x ++ (b ∷ run_of (inner_of q) rest)
      run =
          m.run ∙ ap (λ (r : List ℕ). x ++ run_of (inner_of q) r) e ∙ ap (λ (r : List ℕ). x ++ r) (run_cons (inner_of q) b rest h)

      longer : label_limit < length (label_from text m.start).inner
      longer = omega (arith, ap length run, length-append x (b ∷ run_of (inner_of q) rest))

  -- what can be a fault at place i, by the numbers below n excluded one by one
  pub at_least : (n i : ℕ) → (1 < n → i < length text → Continues Whole (take (suc i) text)) → (2 < n → length text ≡ i → Whole text)
      → (3 < n → NotLong Whole text i) → (4 < n → Crowd text i → ⊥) → (5 < n → NotRepeat Whole text i)
      → (q : Reason) (j : ℕ) → Fault Whole Crowd text q j → j ≡ i → n ≤ number_of q
  unfolding number_of
  at_least n i c1 c2 c3 c4 c5 BadByte j (bad_byte i' l a d) e = go (lt_or_le 1 n)
    where
      go : (1 < n) ⊎ (n ≤ 1) → n ≤ 1
      go (inl h) =
          absurd (d (subst (λ (w : ℕ). Continues Whole (take (suc w) text)) (sym e) (c1 h (subst (λ (w : ℕ). w < length text) e l))))
      go (inr h) = h
  at_least n i c1 c2 c3 c4 c5 EndsTooSoon j (ends_too_soon a d) e = go (lt_or_le 2 n)
    where
      go : (2 < n) ⊎ (n ≤ 2) → n ≤ 2
      go (inl h) = absurd (d (c2 h e))
      go (inr h) = h
  at_least n i c1 c2 c3 c4 c5 LabelTooLong j (label_too_long k s l) e = go (lt_or_le 3 n)
    where
      go : (3 < n) ⊎ (n ≤ 3) → n ≤ 3
      go (inl h) = absurd (c3 h k s l e)
      go (inr h) = h
  at_least n i c1 c2 c3 c4 c5 TooMany j (too_many i' c) e = go (lt_or_le 4 n)
    where
      go : (4 < n) ⊎ (n ≤ 4) → n ≤ 4
      go (inl h) = absurd (c4 h (subst (λ (w : ℕ). Crowd text w) e c))
      go (inr h) = h
  at_least n i c1 c2 c3 c4 c5 Repeated j (repeated j' k l s t b f d) e = go (lt_or_le 5 n)
    where
      go : (5 < n) ⊎ (n ≤ 5) → n ≤ 5
      go (inl h) =
          absurd
          (subst
          (λ (w : ℕ). (k < w → LabelStarts Whole text w → length (label_from text w).inner ≤ label_limit → (label_from text w).closed ≡ true
          → (label_from text k).label ≡ (label_from text w).label → ⊥)) (sym e) (λ l' s' b' f' d'. c5 h k l' s' t b' f' d') l s b f d)
      go (inr h) = h
  at_least n i c1 c2 c3 c4 c5 FirstLacks j x'' e = elim x'' [ ]
  at_least n i c1 c2 c3 c4 c5 SecondLacks j x3 e = elim x3 [ ]
  at_least n i c1 c2 c3 c4 c5 Disagree j x4 e = elim x4 [ ]
  at_least n i c1 c2 c3 c4 c5 TooShort j x5 e = elim x5 [ ]
  at_least n i c1 c2 c3 c4 c5 Contents j x6 e = elim x6 [ ]
  at_least n i c1 c2 c3 c4 c5 JobTooLong j x7 e = elim x7 [ ]
  at_least n i c1 c2 c3 c4 c5 NotShared j x8 e = elim x8 [ ]
  at_least n i c1 c2 c3 c4 c5 ClaimLacks j x9 e = elim x9 [ ]
  at_least n i c1 c2 c3 c4 c5 ClaimDisagrees j x10 e = elim x10 [ ]
  at_least n i c1 c2 c3 c4 c5 ClaimSmall j x11 e = elim x11 [ ]

  pub fault_number : (q : Reason) (j : ℕ) → Fault Whole Crowd text q j → number_of q ≤ 5
  unfolding number_of
  fault_number BadByte j (bad_byte i l a d) = omega arith
  fault_number EndsTooSoon j (ends_too_soon a d) = omega arith
  fault_number LabelTooLong j (label_too_long k s l) = omega arith
  fault_number TooMany j (too_many i c) = omega arith
  fault_number Repeated j (repeated j' k l s t b f d) = omega arith
  fault_number FirstLacks j x' = elim x' [ ]
  fault_number SecondLacks j x'' = elim x'' [ ]
  fault_number Disagree j x3 = elim x3 [ ]
  fault_number TooShort j x4 = elim x4 [ ]
  fault_number Contents j x5 = elim x5 [ ]
  fault_number JobTooLong j x6 = elim x6 [ ]
  fault_number NotShared j x7 = elim x7 [ ]
  fault_number ClaimLacks j x8 = elim x8 [ ]
  fault_number ClaimDisagrees j x9 = elim x9 [ ]
  fault_number ClaimSmall j x10 = elim x10 [ ]

  -- no fault stands before place i
  abbrev pub Clean : ℕ → Type 0
  Clean i = (q : Reason) (j : ℕ) → Fault Whole Crowd text q j → i ≤ j

  -- place i is passed
  pub no_fault : (i : ℕ) → (i < length text → Continues Whole (take (suc i) text)) → (length text ≡ i → Whole text)
      → NotLong Whole text i → (Crowd text i → ⊥) → NotRepeat Whole text i → (q : Reason) (j : ℕ) → Fault Whole Crowd text q j → j ≡ i → ⊥
  no_fault i c1 c2 c3 c4 c5 q j f e =
      omega (arith, at_least 6 i (λ h. c1) (λ h. c2) (λ h. c3) (λ h. c4) (λ h. c5) q j f e, fault_number q j f)

  pub passed : (i : ℕ) → Clean i → i < length text → Continues Whole (take (suc i) text) → NotLong Whole text i → (Crowd text i → ⊥)
      → NotRepeat Whole text i → Clean (suc i)
  passed i m l c1 c3 c4 c5 q j f = go (lt_or_le i j)
    where
      go : (i < j) ⊎ (j ≤ i) → suc i ≤ j
      go (inl h) = h
      go (inr h) = absurd (no_fault i (λ h'. c1) (λ (h' : length text ≡ i). absurd (omega arith)) c3 c4 c5 q j f (omega (arith, m q j f)))

  pub first_fault : (r : Reason) (i : ℕ) → Clean i → Fault Whole Crowd text r i
      → ((q : Reason) (j : ℕ) → Fault Whole Crowd text q j → j ≡ i → number_of r ≤ number_of q) → FirstFault Whole Crowd text r i
  first_fault r i m f least = record { here = f; first = λ q j g. go q j g (lt_or_le i j) }
    where
      go : (q : Reason) (j : ℕ) → Fault Whole Crowd text q j → (i < j) ⊎ (j ≤ i) → (i < j) ⊎ ((i ≡ j) × (number_of r ≤ number_of q))
      go q j g (inl h) = inl h
      go q j g (inr h) = inr (omega (arith, m q j g), least q j g (omega (arith, m q j g)))

  -- a text of the grammar with no fault before its end has none
  pub none_left : ((j : ℕ) → Crowd text j → j < length text) → Whole text → Clean (length text) → (q : Reason) (j : ℕ)
      → Fault Whole Crowd text q j → ⊥
  none_left c w m BadByte j (bad_byte i l a d) = omega (arith, m BadByte i (bad_byte i l a d))
  none_left c w m EndsTooSoon j (ends_too_soon a d) = d w
  none_left c w m LabelTooLong j (label_too_long k s l) =
      omega (arith, inner_inside text k label_limit l, m LabelTooLong (k + (label_from text k).opening + label_limit) (label_too_long k s l))
  none_left c w m TooMany j (too_many i d) = omega (arith, c i d, m TooMany i (too_many i d))
  none_left c w m Repeated j (repeated i k l s t b f d) = omega (arith, s.inside, m Repeated i (repeated i k l s t b f d))
  none_left c w m FirstLacks j x' = elim x' [ ]
  none_left c w m SecondLacks j x'' = elim x'' [ ]
  none_left c w m Disagree j x3 = elim x3 [ ]
  none_left c w m TooShort j x4 = elim x4 [ ]
  none_left c w m Contents j x5 = elim x5 [ ]
  none_left c w m JobTooLong j x6 = elim x6 [ ]
  none_left c w m NotShared j x7 = elim x7 [ ]
  none_left c w m ClaimLacks j x8 = elim x8 [ ]
  none_left c w m ClaimDisagrees j x9 = elim x9 [ ]
  none_left c w m ClaimSmall j x10 = elim x10 [ ]

-- p was read and rest is left at place i: the tokens seen are good and their labels different, and no fault stands before i
pub record Read (Whole : List ℕ → Type 0) (Crowd : List ℕ → ℕ → Type 0) (text p rest : List ℕ) (i : ℕ) (seen : List Token) : Type 0 where
  pub split : text ≡ p ++ rest
  pub place : i ≡ length p
  pub fine : good_labels seen ≡ true
  pub different : distinct (map spelling seen) ≡ true
  pub clean : Clean Whole Crowd text i

pub read_start : (Whole : List ℕ → Type 0) (Crowd : List ℕ → ℕ → Type 0) (text : List ℕ) → Read Whole Crowd text [] text 0 []
read_start Whole Crowd text =
    record { split = refl; place = refl; fine = good_none; different = distinct_none; clean = λ q j f. omega arith }

-- a token that is complete joins those seen
pub read_more : {Whole : List ℕ → Type 0} {Crowd : List ℕ → ℕ → Type 0} {text p rest : List ℕ} {i : ℕ} {seen : List Token} {tok : Token} {k : ℕ}
    → Read Whole Crowd text p rest i seen → Ended Whole text seen tok k → Read Whole Crowd text p rest i (seen ++ (tok ∷ []))
read_more {seen = seen} {tok = tok} r e =
    record {
      split = r.split;
      place = r.place;
      fine = good_join seen (tok ∷ []) r.fine (good_cons tok [] e.well good_none);
      different =
          subst (λ (ys : List Label). distinct ys ≡ true) (sym (map-append spelling seen (tok ∷ [])))
          (distinct_last (map spelling seen) (spelling tok) r.different e.new);
      clean = r.clean;
    }

-- at the byte b: the first fault stands here, or the byte is passed
module _ {Whole : List ℕ → Type 0} {Crowd : List ℕ → ℕ → Type 0} {text p : List ℕ} {b : ℕ} {rest : List ℕ} {i : ℕ} {seen : List Token}
    (r : Read Whole Crowd text p (b ∷ rest) i seen) where
  cut : Seam text p b rest i
  cut = seam text p b rest i r.split r.place

  pub allowed_here : Continues Whole (p ++ (b ∷ [])) → Continues Whole (take (suc i) text)
  allowed_here c = subst (Continues Whole) (sym cut.upto) c

  go_past : Continues Whole (p ++ (b ∷ [])) → NotLong Whole text i → (Crowd text i → ⊥) → NotRepeat Whole text i
      → Read Whole Crowd text (p ++ (b ∷ [])) rest (suc i) seen
  go_past c n d e =
      record {
        split = r.split ∙ sym (append_assoc p (b ∷ []) rest);
        place = omega (arith, length-append p (b ∷ []), r.place);
        fine = r.fine;
        different = r.different;
        clean = passed Whole Crowd text i r.clean cut.inside (allowed_here c) n d e;
      }

  pub byte_here : get_or text i 0 ≡ b
  byte_here = cut.byte

  pub before_here : take i text ≡ p
  before_here = cut.before

  -- a byte that cannot stand here
  pub bad_here : Continues Whole p → (Continues Whole (p ++ (b ∷ [])) → ⊥) → FirstFault Whole Crowd text BadByte i
  unfolding number_of
  bad_here c n =
      first_fault Whole Crowd text BadByte i r.clean
      (bad_byte i cut.inside (subst (Continues Whole) (sym cut.before) c)
      (λ (d : Continues Whole (take (suc i) text)). n (subst (Continues Whole) cut.upto d)))
      (at_least Whole Crowd text 1 i (λ h. absurd (omega arith)) (λ h. absurd (omega arith)) (λ h. absurd (omega arith))
      (λ h. absurd (omega arith)) (λ h. absurd (omega arith)))

  -- row 4 at a byte by which no label passes its limit
  pub crowd_here : Continues Whole (p ++ (b ∷ [])) → NotLong Whole text i → Crowd text i → FirstFault Whole Crowd text TooMany i
  unfolding number_of
  crowd_here c n d =
      first_fault Whole Crowd text TooMany i r.clean (too_many i d)
      (at_least Whole Crowd text 4 i (λ a z. allowed_here c) (λ a z. absurd (omega (arith, cut.inside))) (λ a. n) (λ a. absurd (omega arith))
      (λ a. absurd (omega arith)))

  -- a byte that is in no label
  plain_inner : Plain b → is_inner_byte (get_or text i 0) ≡ false
  plain_inner n = subst (λ (w : ℕ). is_inner_byte w ≡ false) (sym cut.byte) n.inner

  plain_begins : Plain b → (is_label_byte (get_or text i 0) || eqb (get_or text i 0) quote_byte) ≡ false
  plain_begins n = subst (λ (w : ℕ). (is_label_byte w || eqb w quote_byte) ≡ false) (sym cut.byte) n.begins

  pub plain_not_long_here : Plain b → NotLong Whole text i
  plain_not_long_here n = plain_not_long Whole text i (plain_inner n)

  pub plain_no_start : Plain b → LabelStarts Whole text i → ⊥
  plain_no_start n s = clash s.beginning (plain_begins n)

  pub plain_pass : Plain b → Continues Whole (p ++ (b ∷ [])) → (Crowd text i → ⊥)
      → Read Whole Crowd text (p ++ (b ∷ [])) rest (suc i) seen
  plain_pass n c d = go_past c (plain_not_long_here n) d (plain_not_repeat Whole text i (plain_begins n))

  -- after `(` or `,` a label can begin
  pub edge_after : (b ≡ open_byte) ⊎ (b ≡ comma_byte) → Edge text (suc i)
  edge_after o k e =
      subst (λ (w : ℕ). (w ≡ open_byte) ⊎ (w ≡ comma_byte)) (sym cut.byte ∙ ap (λ (n : ℕ). get_or text n 0) same) o
    where
      same : i ≡ k
      same = omega arith

  pub plain_known : {ys : List Label} → Plain b → Known Whole text ys i → Known Whole text ys (suc i)
  plain_known {ys = ys} n = known_skip Whole text ys i (plain_no_start n)

  -- a byte that is no label byte ends the bare label x
  pub bare_end_here : {x : List ℕ} → is_label_byte b ≡ false → Inside Whole text (map spelling seen) false x i → Ended Whole text seen x i
  bare_end_here {x = x} n d = bare_ended Whole text seen x i d (ap (run_of is_label_byte) cut.onward ∙ run_none is_label_byte b rest n)

  -- inside a token of which x was read
  module _ {q : Bool} {x : List ℕ} (d : Inside Whole text (map spelling seen) q x i) where
    -- one more byte of it
    module _ (h : inner_of q b ≡ true) (c : Continues Whole (p ++ (b ∷ []))) where
      pub long_here : length x ≡ label_limit → FirstFault Whole Crowd text LabelTooLong i
      unfolding number_of
      long_here e =
          first_fault Whole Crowd text LabelTooLong i r.clean
          (long_fault Whole Crowd text (map spelling seen) q x i b rest cut.onward h e d)
          (at_least Whole Crowd text 3 i (λ a z. allowed_here c) (λ a z. absurd (omega (arith, cut.inside))) (λ a. absurd (omega arith))
          (λ a. absurd (omega arith)) (λ a. absurd (omega arith)))

      pub letter_pass : (length x ≡ label_limit → ⊥) → (Crowd text i → ⊥) → Read Whole Crowd text (p ++ (b ∷ [])) rest (suc i) seen
      letter_pass e n =
          go_past c (inside_not_long Whole text (map spelling seen) q x i d e) n (inside_not_repeat Whole text (map spelling seen) q x i d)

      pub letter_inside : (length x ≡ label_limit → ⊥) → Inside Whole text (map spelling seen) q (x ++ (b ∷ [])) (suc i)
      letter_inside e = inside_grow Whole text (map spelling seen) q x i b rest cut.onward cut.beyond h e d

    -- no label begins here
    pub inside_no_start_here : LabelStarts Whole text i → ⊥
    inside_no_start_here s = inside_no_start Whole text (map spelling seen) q x i d s.first

    -- a quote here is passed
    pub quote_pass : b ≡ quote_byte → Continues Whole (p ++ (b ∷ [])) → (Crowd text i → ⊥)
        → Read Whole Crowd text (p ++ (b ∷ [])) rest (suc i) seen
    quote_pass e c n =
        go_past c (plain_not_long Whole text i (subst (λ (w : ℕ). is_inner_byte w ≡ false) (sym (cut.byte ∙ e)) quote_not_inner)) n
        (inside_not_repeat Whole text (map spelling seen) q x i d)

  -- and closes a quoted label
  pub quote_end_here : {x : List ℕ} → Inside Whole text (map spelling seen) true x i → b ≡ quote_byte → 1 ≤ length x
      → Ended Whole text seen (token_by true x) (suc i)
  quote_end_here {x = x} d e l = quote_ended Whole text seen x i b rest d cut.onward e l

  -- a label byte or a quote where a label can begin
  module _ (k : Known Whole text (map spelling seen) i) (g : Edge text i) (h : (is_label_byte b || eqb b quote_byte) ≡ true)
      (c : Continues Whole (p ++ (b ∷ []))) where
    pub starts_here : LabelStarts Whole text i
    starts_here =
        record {
          inside = cut.inside;
          beginning = subst (λ (w : ℕ). (is_label_byte w || eqb w quote_byte) ≡ true) (sym cut.byte) h;
          first = g;
          allowed = allowed_here c;
        }

    test : (t : Bool) → repeats (map spelling seen) (b ∷ rest) ≡ t → repeats (map spelling seen) (drop i text) ≡ t
    test t e = subst (λ (w : List ℕ). repeats (map spelling seen) w ≡ t) (sym cut.onward) e

    pub repeat_here : (Crowd text i → ⊥) → repeats (map spelling seen) (b ∷ rest) ≡ true → FirstFault Whole Crowd text Repeated i
    unfolding number_of
    repeat_here n e =
        first_fault Whole Crowd text Repeated i r.clean
        (repeat_fault Whole Crowd text (map spelling seen) i k starts_here (test true e))
        (at_least Whole Crowd text 5 i (λ a z. allowed_here c) (λ a z. absurd (omega (arith, cut.inside))) (λ a. edge_not_long Whole text i g)
        (λ a. n) (λ a. absurd (omega arith)))

    pub begin_pass : (Crowd text i → ⊥) → repeats (map spelling seen) (b ∷ rest) ≡ false
        → Read Whole Crowd text (p ++ (b ∷ [])) rest (suc i) seen
    begin_pass n e = go_past c (edge_not_long Whole text i g) n (known_not_repeat Whole text (map spelling seen) i k (test false e))

    pub bare_inside : is_label_byte b ≡ true → repeats (map spelling seen) (b ∷ rest) ≡ false
        → Inside Whole text (map spelling seen) false (b ∷ []) (suc i)
    bare_inside l e = bare_begins Whole text (map spelling seen) i b rest cut.onward cut.beyond starts_here l (test false e) k

    pub quoted_inside : b ≡ quote_byte → repeats (map spelling seen) (b ∷ rest) ≡ false → Inside Whole text (map spelling seen) true [] (suc i)
    quoted_inside l e = quoted_begins Whole text (map spelling seen) i b rest cut.onward l starts_here (test false e) k

-- a byte that begins a label
pub label_begins : (b : ℕ) → is_label_byte b ≡ true → (is_label_byte b || eqb b quote_byte) ≡ true
label_begins b h = or_inl (is_label_byte b) (eqb b quote_byte) h

pub quote_begins : (b : ℕ) → b ≡ quote_byte → (is_label_byte b || eqb b quote_byte) ≡ true
quote_begins b e = or_inr (is_label_byte b) (eqb b quote_byte) (rw e refl)

-- at the end of the text
module _ {Whole : List ℕ → Type 0} {Crowd : List ℕ → ℕ → Type 0} {text p : List ℕ} {i : ℕ} {seen : List Token}
    (r : Read Whole Crowd text p [] i seen) where
  pub whole_text : text ≡ p
  whole_text = r.split ∙ append-nil p

  size : length text ≡ i
  size = ap length whole_text ∙ sym r.place

  pub ends_here : Continues Whole p → (Whole p → ⊥) → FirstFault Whole Crowd text EndsTooSoon i
  unfolding number_of
  ends_here c n =
      first_fault Whole Crowd text EndsTooSoon i r.clean
      (subst (λ (w : ℕ). Fault Whole Crowd text EndsTooSoon w) size
      (ends_too_soon (subst (Continues Whole) (sym whole_text) c) (λ (t : Whole text). n (subst Whole whole_text t))))
      (at_least Whole Crowd text 2 i (λ a z. absurd (omega (arith, size))) (λ a. absurd (omega arith)) (λ a. absurd (omega arith))
      (λ a. absurd (omega arith)) (λ a. absurd (omega arith)))

  pub no_fault_left : ((j : ℕ) → Crowd text j → j < length text) → Whole p → (q : Reason) (j : ℕ) → Fault Whole Crowd text q j → ⊥
  no_fault_left c t = none_left Whole Crowd text c (subst Whole (sym whole_text) t) (subst (Clean Whole Crowd text) (sym size) r.clean)

  -- a bare label ends with the text
  pub bare_end_last : {x : List ℕ} → Inside Whole text (map spelling seen) false x i → Ended Whole text seen x i
  bare_end_last {x = x} d =
      bare_ended Whole text seen x i d (ap (run_of is_label_byte) (drop_of_length-le text {i = i} (omega (arith, size))) ∙ run_end is_label_byte)

-- a fault's reason by its number
fault_reason : ℕ → Reason
fault_reason n =
    cond (eqb n 1) BadByte (cond (eqb n 2) EndsTooSoon (cond (eqb n 3) LabelTooLong (cond (eqb n 4) TooMany Repeated)))

fault_reason_lem : (Whole : List ℕ → Type 0) (Crowd : List ℕ → ℕ → Type 0) (text : List ℕ) (r : Reason) (i : ℕ)
    → Fault Whole Crowd text r i → fault_reason (number_of r) ≡ r
unfolding fault_reason number_of
fault_reason_lem Whole Crowd text BadByte i (bad_byte j l a d) = refl
fault_reason_lem Whole Crowd text EndsTooSoon i (ends_too_soon a d) = refl
fault_reason_lem Whole Crowd text LabelTooLong i (label_too_long k s l) = refl
fault_reason_lem Whole Crowd text TooMany i (too_many j c) = refl
fault_reason_lem Whole Crowd text Repeated i (repeated j k l s t b f d) = refl
fault_reason_lem Whole Crowd text FirstLacks i x' = elim x' [ ]
fault_reason_lem Whole Crowd text SecondLacks i x'' = elim x'' [ ]
fault_reason_lem Whole Crowd text Disagree i x3 = elim x3 [ ]
fault_reason_lem Whole Crowd text TooShort i x4 = elim x4 [ ]
fault_reason_lem Whole Crowd text Contents i x5 = elim x5 [ ]
fault_reason_lem Whole Crowd text JobTooLong i x6 = elim x6 [ ]
fault_reason_lem Whole Crowd text NotShared i x7 = elim x7 [ ]
fault_reason_lem Whole Crowd text ClaimLacks i x8 = elim x8 [ ]
fault_reason_lem Whole Crowd text ClaimDisagrees i x9 = elim x9 [ ]
fault_reason_lem Whole Crowd text ClaimSmall i x10 = elim x10 [ ]

-- the first fault of a text is one
pub first_unique : (Whole : List ℕ → Type 0) (Crowd : List ℕ → ℕ → Type 0) (text : List ℕ) (r q : Reason) (i j : ℕ)
    → FirstFault Whole Crowd text r i → FirstFault Whole Crowd text q j → (r ≡ q) × (i ≡ j)
first_unique Whole Crowd text r q i j f g = go (f.first q j g.here) (g.first r i f.here)
  where
    go : (i < j) ⊎ ((i ≡ j) × (number_of r ≤ number_of q)) → (j < i) ⊎ ((j ≡ i) × (number_of q ≤ number_of r)) → (r ≡ q) × (i ≡ j)
    go (inl h) (inl k) = absurd (omega arith)
    go (inl h) (inr k) = absurd (omega (arith, k.0))
    go (inr h) (inl k) = absurd (omega (arith, h.0))
    go (inr h) (inr k) = (
      sym (fault_reason_lem Whole Crowd text r i f.here)
          ∙ ap fault_reason (omega (arith, h.1, k.1))
          ∙ fault_reason_lem Whole Crowd text q j g.here,
      h.0,
    )
