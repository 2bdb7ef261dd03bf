-- The stage machine gives what `read_list` says: a repeat that is looked for at a label's first byte is the one found at its end,
-- since from its first byte on nothing is refused before the label ends unless it is overlong or does not close. Assumes nothing.
use Prim.Native.Nat.{ℕ, ◌+◌, ◌≤◌, ◌<◌}
use native.Mathlib.Nat.{zero-add}
use native.Mathlib.Omega.{arith}
use mathlib.Core.Path.{◌≡◌, refl, ap, sym, ◌∙◌}
use mathlib.Core.Logic.{◌⊎◌, inl, inr}
use mathlib.Core.Bool.{Bool, true, false, cond}
use mathlib.Core.List.{List, [], ◌∷◌, ◌++◌, map, append_assoc}
use lib.Dec.{eqb, ltb}
use lib.ListN.{length, set, replicate, length-append}
use borrow.Author.Tests.{eqb-true, eqb-false, ne_eqb, lt-ltb, ltb-true, ltb-false}
use Rattle.std.specs.Prelude.{Ok}
use Rattle.trees.specs.declared.Kind.{Kind}
use Rattle.trees.specs.declared.Kind.TheVariants.{Label as LabelByte, Open, Close, Comma, Semicolon, Quote, Blank, Other}
use Rattle.trees.specs.declared.Reason.{Reason}
use Rattle.trees.specs.declared.Reason.TheVariants.{BadByte, LabelTooLong, TooMany, Repeated}
use Rattle.trees.specs.declared.Body.{Body}
use Rattle.trees.specs.Bytes.{is_label_byte, is_inner_byte, kind_of, comma_byte, quote_byte}
use Rattle.trees.specs.Label.{label_limit, is_in}
use Rattle.trees.specs.Token.{Token, spelling, all_of, quoted_token}
use Rattle.trees.specs.Reading.{Reading, refused, run_of, repeats, quote_first}
use Rattle.trees.specs.Stored.{part_of}
use Rattle.trees.proofs.Bools.{bool_cases, or_none_right}
use Rattle.trees.proofs.AmongLaws.{part_here, among_parts_lem}
use Rattle.trees.proofs.ListLaws.{bytes_one, bytes_snoc, label_inner}
use Rattle.trees.proofs.TokenForms.{inner_of, opening_of, so_far, form_spelling, quote_not_label, quote_not_inner, blank_not_label, blank_inner}
use Rattle.trees.proofs.ReadingLaws.{Plain, plain_label, KindView, is_label, is_open, is_close, is_comma, is_semicolon, is_quote, is_blank}
use Rattle.trees.proofs.ReadingLaws.{is_other, kind_view, kind_label, kind_inner, run_none, run_end, Begun, quote_first_lem, other_first}
use Rattle.trees.proofs.ReadingLaws.{none_first, repeats_ended, repeats_long, repeats_unclosed, repeats_empty}
use Rattle.lists.specs.ListMachine.{Stage, Start, Due, Bare, Quoted, Closed}
use Rattle.lists.specs.ListMachine.{Move, Next, Stop}
use Rattle.lists.specs.declared.ListRead.{ListRead}
use Rattle.lists.specs.ReadList.{label_due, in_bare, in_quotes, after_quote, next, stop, begins, goes_on, step_due, step_after}
use Rattle.lists.specs.ReadList.{step_bare, step_quotes, step, end_of, read_from, read_list, list_limit, list_read, padded, places_of}
use Rattle.lists.specs.ReadList.{sizes_of, starts_of}
use Rattle.lists.specs.ListMachine.{After, after, answer_of, begin_of, due_of, close_of, more_of, bare_of, quote_of, quoted_of, closed_of}
use Rattle.lists.specs.ListMachine.{end_at, repeat_of, run_from, step_of}
use Rattle.lists.proofs.AcceptsRaw.{due, within}
use Rattle.lists.proofs.ReadSteps.{read_next, read_stop, due_step, letter_step}
use Rattle.lists.proofs.ListPlaces.{consumed, consumed_snoc, length_sizes, length_starts, among_seen, sizes_snoc}
use Rattle.lists.proofs.ListPlaces.{starts_snoc, store}
use Rattle.lists.proofs.MachineLaws.{Kept, answer_refused, close_new, close_repeat, end_new, end_repeat, run_end as machine-end}
use Rattle.lists.proofs.MachineLaws.{run_next, run_stop}

-- the arrays that hold the places of the labels seen
starting : List Token → List ℕ
starting seen = padded (starts_of seen 0)

sizing : List Token → List ℕ
sizing seen = padded (sizes_of seen)

-- an outcome beside them
abbrev storing : List Token → Move → After
storing seen o = after o (starting seen) (sizing seen)

-- ---- a complete token in its place after those seen, as the machine compares and keeps it

record Placed (text : List ℕ) (seen : List Token) (tok : Token) (first : ℕ) (rest : List ℕ) : Type 0 where
  text_is : text ≡ consumed seen ++ (tok ++ rest)
  first_is : first ≡ length (consumed seen)
  few : length seen < list_limit

module _ (text : List ℕ) (seen : List Token) (tok : Token) (first : ℕ) (rest : List ℕ) (w : Placed text seen tok first rest) where
  found : repeat_of text (starting seen) (sizing seen) (length seen) first (length tok) ≡ is_in (spelling tok) (map spelling seen)
  unfolding repeat_of starting sizing
  found =
      let named : part_of first (length tok) text ≡ tok =
      rw w.text_is (part_here (consumed seen) tok rest first w.first_is) in
      rw named
      (among_parts_lem text tok (starts_of seen 0) (sizes_of seen) _ _ (length seen) (length_starts seen 0) (length_sizes seen)
      ∙ among_seen text tok seen [] (tok ++ rest) 0 w.text_is refl)

  start_kept : set (starting seen) (length seen) first ≡ starting (seen ++ (tok ∷ []))
  unfolding starting
  start_kept =
      store (starts_of seen 0) first (length seen) (length_starts seen 0) w.few
      ∙ ap padded (ap (λ (n : ℕ). starts_of seen 0 ++ (n ∷ [])) (w.first_is ∙ sym (zero-add (length (consumed seen)))) ∙ sym (starts_snoc seen tok 0))

  size_kept : set (sizing seen) (length seen) (length tok) ≡ sizing (seen ++ (tok ∷ []))
  unfolding sizing
  size_kept =
      store (sizes_of seen) (length tok) (length seen) (length_sizes seen) w.few ∙ ap padded (sym (sizes_snoc seen tok))

  kept_of : (b : Bool) → is_in (spelling tok) (map spelling seen) ≡ b
      → Kept text (starting seen) (sizing seen) (length seen) first (length tok) b (starting (seen ++ (tok ∷ []))) (sizing (seen ++ (tok ∷ [])))
  kept_of b e = (sym (found ∙ e), (sym start_kept, sym size_kept))

count_kept : (seen : List Token) (tok : Token) → length seen + 1 ≡ length (seen ++ (tok ∷ []))
count_kept seen tok = simp length-append

-- ---- both readers inside a label

-- the stage inside a label of either form
abbrev stage_in : (quoted : Bool) → (first len count : ℕ) → Stage
stage_in true first len count = Quoted first len count
stage_in false first len count = Bare first len count

-- the reader stands `at` a place inside a label of which x was read, which began at `first`, after the labels `seen`
record Within (text : List ℕ) (seen : List Token) (q : Bool) (x : List ℕ) (first at : ℕ) (rest : List ℕ) : Type 0 where
  text_is : text ≡ consumed seen ++ (so_far q x ++ rest)
  first_is : first ≡ length (consumed seen)
  at_is : at ≡ first + (opening_of q + length x)
  few : length seen < list_limit
  short : length x ≤ label_limit
  begun : Begun q x
  letters : all_of (inner_of q) x ≡ true

so_far_length : (q : Bool) (x : List ℕ) → length (so_far q x) ≡ opening_of q + length x
so_far_length true x = omega arith
so_far_length false x = omega arith

so_far_more : (q : Bool) (x : List ℕ) (b : ℕ) (rest : List ℕ) → so_far q (x ++ (b ∷ [])) ++ rest ≡ so_far q x ++ (b ∷ rest)
so_far_more true x b rest = ap (λ (z : List ℕ). quote_byte ∷ z) (append_assoc x (b ∷ []) rest)
so_far_more false x b rest = append_assoc x (b ∷ []) rest

longer_begun : (q : Bool) (x : List ℕ) (b : ℕ) → Begun q (x ++ (b ∷ []))
longer_begun true x b = tt
longer_begun false x b = omega (arith, length-append x (b ∷ []))

-- the machine's step on one more byte of the label
machine_letter : (q : Bool) (text : List ℕ) (b at first len count : ℕ) (start size : List ℕ) → inner_of q b ≡ true
    → step_of text (kind_of b) at (stage_in q first len count) start size ≡ after (more_of at len (stage_in q first (len + 1) count)) start size
unfolding step_of bare_of quoted_of
machine_letter true text b at first len count start size h = go (kind_inner b h)
  where
    go : (kind_of b ≡ LabelByte) ⊎ (kind_of b ≡ Blank)
        → quoted_of text (kind_of b) at first len count start size ≡ after (more_of at len (Quoted first (len + 1) count)) start size
    go (inl k) = ap (λ (z : Kind). quoted_of text z at first len count start size) k
    go (inr k) = ap (λ (z : Kind). quoted_of text z at first len count start size) k
machine_letter false text b at first len count start size h =
    ap (λ (z : Kind). bare_of text z at first len count start size) (kind_label b h)

-- ---- both readers, from a place to the text's end

module _ (text : List ℕ) (body : Body) where
  -- the machine where a label must begin
  abbrev due_run : List Token → ℕ → List ℕ → ListRead
  due_run seen at rest = run_from text body (Due (length seen)) (starting seen) (sizing seen) at rest

  abbrev inside_run : Bool → List Token → List ℕ → ℕ → ℕ → List ℕ → ListRead
  inside_run q seen x first at rest = run_from text body (stage_in q first (length x) (length seen)) (starting seen) (sizing seen) at rest

  -- the machine just after a closing quote
  abbrev closed_run : List Token → ℕ → List ℕ → ListRead
  closed_run seen at rest = run_from text body (Closed (length seen)) (starting seen) (sizing seen) at rest

  -- what was read, a repeat of the label at `first` told before it
  abbrev or_repeat : Bool → ℕ → Reading (List Token) → ListRead
  or_repeat again first r = cond again (list_read body (refused Repeated first)) (list_read body r)

  -- what `read_from` gives, a repeat of the label that begins with x told first
  abbrev looked : Bool → List Token → List ℕ → ℕ → ℕ → List ℕ → ListRead
  looked q seen x first at rest =
      or_repeat (repeats (map spelling seen) (so_far q x ++ rest)) first (read_from (within q x) seen at rest)

  abbrev DueSame : List ℕ → Type 0
  DueSame rest = (seen : List Token) (at : ℕ) → text ≡ consumed seen ++ rest → at ≡ length (consumed seen) → length seen ≤ list_limit
      → due_run seen at rest ≡ list_read body (read_from label_due seen at rest)

  abbrev InsideSame : Bool → List ℕ → Type 0
  InsideSame q rest = (seen : List Token) (x : List ℕ) (first at : ℕ) → Within text seen q x first at rest
      → inside_run q seen x first at rest ≡ looked q seen x first at rest

  abbrev ClosedSame : List ℕ → Type 0
  ClosedSame rest = (seen : List Token) (tok : Token) (first at : ℕ) → Placed text seen tok first rest → at ≡ first + length tok
      → closed_run (seen ++ (tok ∷ [])) at rest ≡ list_read body (read_from (after_quote tok) seen at rest)

  -- ---- where the text ends

  due_end : DueSame []
  unfolding read_from end_of run_from end_at answer_of list_read
  due_end seen at t e h = refl

  closed_end : ClosedSame []
  unfolding read_from end_of run_from end_at answer_of list_read places_of starting sizing
  closed_end seen tok first at w e = refl

  end_told : (seen : List Token) (x : Token) (at : ℕ) → length seen + 1 ≡ length (seen ++ (x ∷ []))
      → answer_of (Ok (length seen + 1)) (starting (seen ++ (x ∷ []))) (sizing (seen ++ (x ∷ [])))
      ≡ list_read body (read_from (in_bare x) seen at [])
  unfolding answer_of read_from end_of list_read places_of starting sizing
  end_told seen x at e = rw e refl

  -- a bare label as a complete token
  bare_placed : (seen : List Token) (x : List ℕ) (first at : ℕ) (rest : List ℕ) → Within text seen false x first at rest
      → Placed text seen x first rest
  bare_placed seen x first at rest w = record { text_is = w.text_is; first_is = w.first_is; few = w.few }

  bare_look : (seen : List Token) (x : List ℕ) (first at : ℕ) (rest : List ℕ) → Within text seen false x first at rest
      → run_of is_label_byte rest ≡ [] → repeats (map spelling seen) (x ++ rest) ≡ is_in (spelling x) (map spelling seen)
  bare_look seen x first at rest w e =
      repeats_ended (map spelling seen) false x rest w.begun w.short w.letters e refl
      ∙ ap (λ (z : List ℕ). is_in z (map spelling seen)) (sym (form_spelling false x w.letters))

  bare_end : InsideSame false []
  bare_end seen x first at w = go (bool_cases (is_in (spelling x) (map spelling seen)))
    where
      look : repeats (map spelling seen) (x ++ []) ≡ is_in (spelling x) (map spelling seen)
      look = bare_look seen x first at [] w (run_end is_label_byte)

      go : (is_in (spelling x) (map spelling seen) ≡ true) ⊎ (is_in (spelling x) (map spelling seen) ≡ false)
          → inside_run false seen x first at [] ≡ looked false seen x first at []
      go (inl h) =
          rw (look, h)
          (machine-end text body _ _ _ at _ _ _
          (end_repeat _ _ _ _ _ _ true _ _ (kept_of text seen x first [] (bare_placed seen x first at [] w) true h) body at refl)
          ∙ answer_refused body Repeated first _ _)
      go (inr h) =
          rw (look, h)
          (machine-end text body _ _ _ at _ _ _
          (end_new _ _ _ _ _ _ false _ _ (kept_of text seen x first [] (bare_placed seen x first at [] w) false h) body at refl)
          ∙ end_told seen x at (count_kept seen x))

  quoted_end : InsideSame true []
  unfolding read_from end_of run_from end_at answer_of list_read
  quoted_end seen x first at w = rw (repeats_unclosed (map spelling seen) x [] w.letters (run_end is_inner_byte) none_first) refl

  -- ---- a byte inside a label or just after it
  module _ (q : Bool) (seen : List Token) (x : List ℕ) (first at b : ℕ) (rest : List ℕ) (w : Within text seen q x first at (b ∷ rest)) where
    abbrev Agreed : Type 0
    Agreed = inside_run q seen x first at (b ∷ rest) ≡ looked q seen x first at (b ∷ rest)

    abbrev stepped : After
    stepped = step_of text (kind_of b) at (stage_in q first (length x) (length seen)) (starting seen) (sizing seen)

    -- the byte is refused, and the label is not compared
    refused_here : (r : Reason) → repeats (map spelling seen) (so_far q x ++ (b ∷ rest)) ≡ false
        → stepped ≡ storing seen (Stop r at) → step (within q x) seen b rest ≡ stop r → Agreed
    refused_here r look same read =
        rw look
        (run_stop text body _ _ _ at b rest r at (starting seen) (sizing seen) (sym same)
        ∙ ap (list_read body) (sym (read_stop (within q x) seen at b rest r read)))

    -- one more byte of the label
    one_more : InsideSame q rest → inner_of q b ≡ true → length x < label_limit → Agreed
    unfolding more_of goes_on
    one_more inside_same l h =
        run_next text body (stage_in q first (length x) (length seen)) (starting seen) (sizing seen) at b rest
        (stage_in q first (length x + 1) (length seen)) (starting seen) (sizing seen)
        (sym (machine_letter q text b at first (length x) (length seen) (starting seen) (sizing seen) l ∙ small))
        ∙ ap (λ (n : ℕ). run_from text body (stage_in q first n (length seen)) (starting seen) (sizing seen) (at + 1) rest) longer
        ∙ inside_same seen (x ++ (b ∷ [])) first (at + 1) grown
        ∙ ap (λ (z : List ℕ). or_repeat (repeats (map spelling seen) z) first (read_from (within q (x ++ (b ∷ []))) seen (at + 1) rest))
        (so_far_more q x b rest)
        ∙ ap (or_repeat (repeats (map spelling seen) (so_far q x ++ (b ∷ rest))) first) (sym read)
      where
        longer : length x + 1 ≡ length (x ++ (b ∷ []))
        longer = simp length-append

        small : after (more_of at (length x) (stage_in q first (length x + 1) (length seen))) (starting seen) (sizing seen)
            ≡ after (Next (stage_in q first (length x + 1) (length seen))) (starting seen) (sizing seen)
        small = rw (lt-ltb (length x) label_limit h) refl

        grown : Within text seen q (x ++ (b ∷ [])) first (at + 1) rest
        grown =
            record {
              text_is = w.text_is ∙ ap (λ (z : List ℕ). consumed seen ++ z) (sym (so_far_more q x b rest));
              first_is = w.first_is;
              at_is = omega (arith, w.at_is, longer);
              few = w.few;
              short = omega (arith, longer);
              begun = longer_begun q x b;
              letters = bytes_snoc (inner_of q) x b w.letters l;
            }

        read : read_from (within q x) seen at (b ∷ rest) ≡ read_from (within q (x ++ (b ∷ []))) seen (at + 1) rest
        read =
            read_next (within q x) seen at b rest (within q (x ++ (b ∷ []))) seen
            (letter_step q x seen b rest l
            ∙ ap (λ (t : Bool). goes_on t (within q (x ++ (b ∷ []))) seen) (ne_eqb (length x) label_limit (λ (e : length x ≡ label_limit). omega arith)))

    overlong : inner_of q b ≡ true → length x ≡ label_limit → Agreed
    unfolding more_of goes_on
    overlong l h =
        refused_here LabelTooLong (repeats_long (map spelling seen) q x b rest w.begun w.letters l (omega arith))
        (machine_letter q text b at first (length x) (length seen) (starting seen) (sizing seen) l ∙ rw h refl)
        (letter_step q x seen b rest l ∙ rw h refl)

    letter : InsideSame q rest → inner_of q b ≡ true → Agreed
    letter inside_same l = go (bool_cases (ltb (length x) label_limit))
      where
        go : (ltb (length x) label_limit ≡ true) ⊎ (ltb (length x) label_limit ≡ false) → Agreed
        go (inl h) = one_more inside_same l (ltb-true (length x) label_limit h)
        go (inr h) =
            let far : label_limit ≤ length x = ltb-false (length x) label_limit h in
            overlong l (omega (arith, w.short))

    -- the label is complete, as the token tok before what follows: what comes next matters only where it is new
    settled : (tok : Token) (after-it : List ℕ) (o : Move) → Placed text seen tok first after-it
        → repeats (map spelling seen) (so_far q x ++ (b ∷ rest)) ≡ is_in (spelling tok) (map spelling seen)
        → stepped ≡ close_of text (starting seen) (sizing seen) (length seen) first (length tok) o
        → (after o (starting (seen ++ (tok ∷ []))) (sizing (seen ++ (tok ∷ []))) ≡ stepped
        → inside_run q seen x first at (b ∷ rest) ≡ list_read body (read_from (within q x) seen at (b ∷ rest)))
        → Agreed
    settled tok after-it o placed look same new = go (bool_cases (is_in (spelling tok) (map spelling seen)))
      where
        go : (is_in (spelling tok) (map spelling seen) ≡ true) ⊎ (is_in (spelling tok) (map spelling seen) ≡ false) → Agreed
        go (inl h) =
            rw (look, h)
            (run_stop text body _ _ _ at b rest Repeated first _ _
            (close_repeat _ _ _ _ _ _ true _ _ (kept_of text seen tok first after-it placed true h) o refl ∙ sym same))
        go (inr h) =
            rw (look, h)
            (new (close_new _ _ _ _ _ _ false _ _ (kept_of text seen tok first after-it placed false h) o refl ∙ sym same))

  -- ---- a bare label
  module _ (seen : List Token) (x : List ℕ) (first at b : ℕ) (rest : List ℕ) (w : Within text seen false x first at (b ∷ rest)) where
    abbrev bare_step : After
    bare_step = step_of text (kind_of b) at (Bare first (length x) (length seen)) (starting seen) (sizing seen)

    abbrev closing : Move → After
    closing o = close_of text (starting seen) (sizing seen) (length seen) first (length x) o

    bad_after : is_label_byte b ≡ false → bare_step ≡ closing (Stop BadByte at) → step (in_bare x) seen b rest ≡ stop BadByte
        → Agreed false seen x first at b rest w
    bad_after l same read =
        settled false seen x first at b rest w x (b ∷ rest) (Stop BadByte at) (bare_placed seen x first at (b ∷ rest) w)
        (bare_look seen x first at (b ∷ rest) w (run_none is_label_byte b rest l)) same
        (λ e. run_stop text body _ _ _ at b rest BadByte at _ _ e
        ∙ ap (list_read body) (sym (read_stop (in_bare x) seen at b rest BadByte read)))

    comma_after : DueSame rest → is_label_byte b ≡ false → b ≡ comma_byte → bare_step ≡ closing (Next (Due (length seen + 1)))
        → step (in_bare x) seen b rest ≡ next label_due (seen ++ (x ∷ [])) → Agreed false seen x first at b rest w
    comma_after due-same l c same read =
        let text_is : text ≡ consumed (seen ++ (x ∷ [])) ++ rest =
        w.text_is ∙ rw (c, consumed_snoc seen x) (simp append_assoc) in
        let at_is : at + 1 ≡ length (consumed (seen ++ (x ∷ []))) =
        rw (consumed_snoc seen x) (simp length-append (omega (arith, w.at_is, w.first_is))) in
        settled false seen x first at b rest w x (b ∷ rest) (Next (Due (length seen + 1))) (bare_placed seen x first at (b ∷ rest) w)
        (bare_look seen x first at (b ∷ rest) w (run_none is_label_byte b rest l)) same
        (λ e. run_next text body _ _ _ at b rest _ _ _ e
        ∙ rw (count_kept seen x) (due-same (seen ++ (x ∷ [])) (at + 1) text_is at_is (omega (arith, count_kept seen x, w.few)))
        ∙ ap (list_read body) (sym (read_next (in_bare x) seen at b rest label_due (seen ++ (x ∷ [])) read)))

    bare_cons : DueSame rest → InsideSame false rest → Agreed false seen x first at b rest w
    unfolding step_of bare_of step step_bare step_after
    bare_cons due-same inside_same = go (kind_of b) refl (kind_view b)
      where
        go : (k : Kind) → kind_of b ≡ k → KindView b k → Agreed false seen x first at b rest w
        go LabelByte k (is_label l) = letter false seen x first at b rest w inside_same l
        go Comma k (is_comma e l) = comma_after due-same (plain_label b l) e (rw k refl) (rw k refl)
        go Quote k (is_quote e) = bad_after (ap is_label_byte e ∙ quote_not_label) (rw k refl) (rw k refl)
        go Blank k (is_blank e) = bad_after (ap is_label_byte e ∙ blank_not_label) (rw k refl) (rw k refl)
        go Open k (is_open e l) = bad_after (plain_label b l) (rw k refl) (rw k refl)
        go Close k (is_close e l) = bad_after (plain_label b l) (rw k refl) (rw k refl)
        go Semicolon k (is_semicolon e l) = bad_after (plain_label b l) (rw k refl) (rw k refl)
        go Other k (is_other l) = bad_after (plain_label b l) (rw k refl) (rw k refl)

  -- ---- a quoted label
  module _ (seen : List Token) (x : List ℕ) (first at b : ℕ) (rest : List ℕ) (w : Within text seen true x first at (b ∷ rest)) where
    abbrev quoted_step : After
    quoted_step = step_of text (kind_of b) at (Quoted first (length x) (length seen)) (starting seen) (sizing seen)

    bad_inside : Plain b → quoted_step ≡ storing seen (Stop BadByte at) → step (in_quotes x) seen b rest ≡ stop BadByte
        → Agreed true seen x first at b rest w
    bad_inside l same read =
        refused_here true seen x first at b rest w BadByte
        (repeats_unclosed (map spelling seen) x (b ∷ rest) w.letters (run_none is_inner_byte b rest l.inner)
        (other_first b rest (or_none_right (is_label_byte b) (eqb b quote_byte) l.begins))) same read

    -- the closing quote, with nothing before it
    empty_quotes : length x ≡ 0 → b ≡ quote_byte → quoted_step ≡ quote_of text at first (length x) (length seen) (starting seen) (sizing seen)
        → step (in_quotes x) seen b rest ≡ cond (eqb (length x) 0) (stop BadByte) (next (after_quote (quoted_token x)) seen)
        → Agreed true seen x first at b rest w
    unfolding quote_of
    empty_quotes e c same read =
        refused_here true seen x first at b rest w BadByte (none x e) (same ∙ rw e refl) (read ∙ rw e refl)
      where
        none : (y : List ℕ) → length y ≡ 0 → repeats (map spelling seen) (quote_byte ∷ (y ++ (b ∷ rest))) ≡ false
        none [] z = rw c (repeats_empty (map spelling seen) rest)
        none (a ∷ y) z = absurd (omega arith)

    quoted_placed : b ≡ quote_byte → Placed text seen (quoted_token x) first rest
    quoted_placed c =
        record {
          text_is =
              w.text_is ∙ rw c (ap (λ (z : List ℕ). consumed seen ++ (quote_byte ∷ z)) (sym (append_assoc x (quote_byte ∷ []) rest)));
          first_is = w.first_is;
          few = w.few;
        }

    -- with a label before it
    full_quotes : ClosedSame rest → 1 ≤ length x → b ≡ quote_byte
        → quoted_step ≡ quote_of text at first (length x) (length seen) (starting seen) (sizing seen)
        → step (in_quotes x) seen b rest ≡ cond (eqb (length x) 0) (stop BadByte) (next (after_quote (quoted_token x)) seen)
        → Agreed true seen x first at b rest w
    unfolding quote_of
    full_quotes closed_same l c same read =
        settled true seen x first at b rest w (quoted_token x) rest (Next (Closed (length seen + 1))) (quoted_placed c) look
        (same ∙ rw (some, size) refl)
        (λ e. run_next text body _ _ _ at b rest _ _ _ e
        ∙ rw (count_kept seen (quoted_token x)) (closed_same seen (quoted_token x) first (at + 1) (quoted_placed c) (omega (arith, w.at_is, size)))
        ∙ ap (list_read body) (sym (read_next (in_quotes x) seen at b rest (after_quote (quoted_token x)) seen (read ∙ rw some refl))))
      where
        some : eqb (length x) 0 ≡ false
        some = ne_eqb (length x) 0 (λ (e : length x ≡ 0). omega arith)

        size : length x + 2 ≡ length (quoted_token x)
        size = omega (arith, length-append x (quote_byte ∷ []))

        look : repeats (map spelling seen) (quote_byte ∷ (x ++ (b ∷ rest))) ≡ is_in (spelling (quoted_token x)) (map spelling seen)
        look =
            repeats_ended (map spelling seen) true x (b ∷ rest) l w.short w.letters
            (run_none is_inner_byte b rest (ap is_inner_byte c ∙ quote_not_inner))
            (ap (λ (z : ℕ). quote_first (z ∷ rest)) c ∙ quote_first_lem rest)
            ∙ ap (λ (z : List ℕ). is_in z (map spelling seen)) (sym (form_spelling true x w.letters))

    quoted_cons : InsideSame true rest → ClosedSame rest → Agreed true seen x first at b rest w
    unfolding step_of quoted_of step step_quotes
    quoted_cons inside_same closed_same = go (kind_of b) refl (kind_view b)
      where
        closes : kind_of b ≡ Quote → b ≡ quote_byte → (eqb (length x) 0 ≡ true) ⊎ (eqb (length x) 0 ≡ false) → Agreed true seen x first at b rest w
        closes k e (inl z) = empty_quotes (eqb-true (length x) 0 z) e (rw k refl) (rw k refl)
        closes k e (inr z) = full_quotes closed_same (some (eqb-false (length x) 0 z)) e (rw k refl) (rw k refl)
          where
            some : (length x ≡ 0 → ⊥) → 1 ≤ length x
            some n = omega arith

        go : (k : Kind) → kind_of b ≡ k → KindView b k → Agreed true seen x first at b rest w
        go LabelByte k (is_label l) = letter true seen x first at b rest w inside_same (label_inner b l)
        go Blank k (is_blank e) = letter true seen x first at b rest w inside_same (ap is_inner_byte e ∙ blank_inner)
        go Quote k (is_quote e) = closes k e (bool_cases (eqb (length x) 0))
        go Open k (is_open e l) = bad_inside l (rw k refl) (rw k refl)
        go Close k (is_close e l) = bad_inside l (rw k refl) (rw k refl)
        go Comma k (is_comma e l) = bad_inside l (rw k refl) (rw k refl)
        go Semicolon k (is_semicolon e l) = bad_inside l (rw k refl) (rw k refl)
        go Other k (is_other l) = bad_inside l (rw k refl) (rw k refl)

  -- ---- just after a closing quote
  closed_cons : (b : ℕ) (rest : List ℕ) → DueSame rest → ClosedSame (b ∷ rest)
  unfolding step_of closed_of step step_after
  closed_cons b rest due-same seen tok first at w e = go (kind_of b) refl (kind_view b)
    where
      more : List Token
      more = seen ++ (tok ∷ [])

      bad : step_of text (kind_of b) at (Closed (length more)) (starting more) (sizing more) ≡ storing more (Stop BadByte at)
          → step (after_quote tok) seen b rest ≡ stop BadByte
          → closed_run more at (b ∷ rest) ≡ list_read body (read_from (after_quote tok) seen at (b ∷ rest))
      bad same read =
          run_stop text body _ _ _ at b rest BadByte at _ _ (sym same)
          ∙ ap (list_read body) (sym (read_stop (after_quote tok) seen at b rest BadByte read))

      text_is : b ≡ comma_byte → text ≡ consumed (seen ++ (tok ∷ [])) ++ rest
      text_is c = w.text_is ∙ rw (c, consumed_snoc seen tok) (simp append_assoc)

      at_is : at + 1 ≡ length (consumed (seen ++ (tok ∷ [])))
      at_is = rw (consumed_snoc seen tok) (simp length-append (omega (arith, e, w.first_is)))

      go : (k : Kind) → kind_of b ≡ k → KindView b k
          → closed_run (seen ++ (tok ∷ [])) at (b ∷ rest) ≡ list_read body (read_from (after_quote tok) seen at (b ∷ rest))
      go Comma k (is_comma c l) =
          run_next text body _ _ _ at b rest (Due (length more)) (starting more) (sizing more) (rw k refl)
          ∙ due-same (seen ++ (tok ∷ [])) (at + 1) (text_is c) at_is (omega (arith, count_kept seen tok, w.few))
          ∙ ap (list_read body) (sym (read_next (after_quote tok) seen at b rest label_due (seen ++ (tok ∷ [])) (rw k refl)))
      go LabelByte k v = bad (rw k refl) (rw k refl)
      go Quote k v = bad (rw k refl) (rw k refl)
      go Open k v = bad (rw k refl) (rw k refl)
      go Close k v = bad (rw k refl) (rw k refl)
      go Semicolon k v = bad (rw k refl) (rw k refl)
      go Blank k v = bad (rw k refl) (rw k refl)
      go Other k v = bad (rw k refl) (rw k refl)

  -- ---- a byte where a label must begin, at the start (c) or after a comma
  module _
      (stage : Stage) (c : Bool) (seen : List Token) (at b : ℕ) (rest : List ℕ)
      (text_is : text ≡ consumed seen ++ (b ∷ rest)) (at_is : at ≡ length (consumed seen)) (few : length seen ≤ list_limit)
      (machine : (k : Kind) → step_of text k at stage (starting seen) (sizing seen) ≡ storing seen (due_of k at (length seen)))
    where
      abbrev Begins : Type 0
      Begins = run_from text body stage (starting seen) (sizing seen) at (b ∷ rest) ≡ list_read body (read_from (due c) seen at (b ∷ rest))

      abbrev again : Bool
      again = repeats (map spelling seen) (b ∷ rest)

      machine_does : (o : Move) → due_of (kind_of b) at (length seen) ≡ o
          → storing seen o ≡ step_of text (kind_of b) at stage (starting seen) (sizing seen)
      machine_does o e = sym (machine (kind_of b) ∙ ap (storing seen) e)

      begin_stop : (r : Reason) → due_of (kind_of b) at (length seen) ≡ Stop r at → step_due seen again b (kind_of b) ≡ stop r → Begins
      begin_stop r m s =
          run_stop text body _ _ _ at b rest r at _ _ (machine_does (Stop r at) m)
          ∙ ap (list_read body) (sym (read_stop (due c) seen at b rest r (due_step c seen b rest ∙ s)))

      -- a label of either form begins, and x was read of it
      module _ (q : Bool) (x : List ℕ) (inside_same : InsideSame q rest) (so_far : so_far q x ++ rest ≡ b ∷ rest)
          (grown : length seen < list_limit → Within text seen q x at (at + 1) rest)
          (m : due_of (kind_of b) at (length seen) ≡ begin_of at (length seen) (stage_in q at (length x) (length seen)))
          (s : step_due seen again b (kind_of b) ≡ begins (eqb (length seen) list_limit) again (within q x) seen) where
        begin_looked : length seen < list_limit
            → looked q seen x at (at + 1) rest ≡ list_read body (read_from (due c) seen at (b ∷ rest))
        unfolding begins
        begin_looked h =
            ap (λ (z : List ℕ). or_repeat (repeats (map spelling seen) z) at (read_from (within q x) seen (at + 1) rest)) so_far
            ∙ go (bool_cases again)
          where
            room : eqb (length seen) list_limit ≡ false
            room = ne_eqb (length seen) list_limit (λ e. omega arith)

            go : (again ≡ true) ⊎ (again ≡ false)
                → or_repeat again at (read_from (within q x) seen (at + 1) rest) ≡ list_read body (read_from (due c) seen at (b ∷ rest))
            go (inl e) = rw e (ap (list_read body) (sym (read_stop (due c) seen at b rest Repeated (due_step c seen b rest ∙ s ∙ rw (room, e) refl))))
            go (inr e) = rw e (ap (list_read body) (sym (read_next (due c) seen at b rest (within q x) seen (due_step c seen b rest ∙ s ∙ rw (room, e) refl))))

        begin_label : (ltb (length seen) list_limit ≡ true) ⊎ (ltb (length seen) list_limit ≡ false) → Begins
        unfolding begin_of begins
        begin_label (inl h) =
            let l = ltb-true (length seen) list_limit h in
            run_next text body _ _ _ at b rest (stage_in q at (length x) (length seen)) (starting seen) (sizing seen)
            (machine_does (Next (stage_in q at (length x) (length seen))) (m ∙ rw h refl))
            ∙ inside_same seen x at (at + 1) (grown l)
            ∙ begin_looked l
        begin_label (inr h) =
            let far : list_limit ≤ length seen = ltb-false (length seen) list_limit h in
            let full : length seen ≡ list_limit = omega arith in
            begin_stop TooMany (m ∙ rw h refl) (s ∙ rw full refl)

      begin : InsideSame true rest → InsideSame false rest → Begins
      unfolding due_of step_due all_of
      begin quoted-same bare_same = go (kind_of b) refl (kind_view b)
        where
          go : (k : Kind) → kind_of b ≡ k → KindView b k → Begins
          go LabelByte k (is_label l) =
              begin_label false (b ∷ []) bare_same refl
              (λ h. record {
                text_is = text_is;
                first_is = at_is;
                at_is = omega arith;
                few = h;
                short = omega arith;
                begun = omega arith;
                letters = bytes_one is_label_byte b l;
              })
              (rw k refl) (rw k refl) (bool_cases (ltb (length seen) list_limit))
          go Quote k (is_quote e) =
              begin_label true [] quoted-same (ap (λ (z : ℕ). z ∷ rest) (sym e))
              (λ h. record {
                text_is = text_is ∙ ap (λ (z : ℕ). consumed seen ++ (z ∷ rest)) e;
                first_is = at_is;
                at_is = omega arith;
                few = h;
                short = omega arith;
                begun = tt;
                letters = refl;
              })
              (rw k refl) (rw k refl) (bool_cases (ltb (length seen) list_limit))
          go Open k l = begin_stop BadByte (rw k refl) (rw k refl)
          go Close k l = begin_stop BadByte (rw k refl) (rw k refl)
          go Comma k l = begin_stop BadByte (rw k refl) (rw k refl)
          go Semicolon k l = begin_stop BadByte (rw k refl) (rw k refl)
          go Blank k l = begin_stop BadByte (rw k refl) (rw k refl)
          go Other k l = begin_stop BadByte (rw k refl) (rw k refl)

  due_cons : (b : ℕ) (rest : List ℕ) → InsideSame true rest → InsideSame false rest → DueSame (b ∷ rest)
  unfolding step_of
  due_cons b rest quoted-same bare_same seen at t e h =
      begin (Due (length seen)) false seen at b rest t e h (λ k. refl) quoted-same bare_same

  all_same : (rest : List ℕ) → DueSame rest × InsideSame true rest × InsideSame false rest × ClosedSame rest
  all_same [] = (due_end, quoted_end, bare_end, closed_end)
  all_same (b ∷ rest) = let r = all_same rest in (
    due_cons b rest r.1 r.2,
    λ seen x first at w. quoted_cons seen x first at b rest w r.1 r.3,
    λ seen x first at w. bare_cons seen x first at b rest w r.0 r.2,
    closed_cons b rest r.0,
  )

-- the machine's answer is the definition's
pub simulated : (text : List ℕ) (body : Body)
    → run_from text body Start (replicate list_limit 0) (replicate list_limit 0) 0 text ≡ list_read body (read_list text)
unfolding starting sizing starts_of sizes_of step_of read_list read_from end_of run_from end_at answer_of list_read places_of consumed
simulated [] body = refl
simulated (b ∷ rest) body =
    let r = all_same (b ∷ rest) body rest in
    begin (b ∷ rest) body Start true [] 0 b rest refl refl (omega arith) (λ k. refl) r.1 r.2
