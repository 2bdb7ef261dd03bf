-- The three lines tell the set and the text: other sets of labels that can be written, and other texts, have other lines. Assumes nothing.
use Prim.Native.Nat.{ℕ, suc, ◌+◌, ◌-◌, ◌/◌, ◌%◌, ◌≤◌, ◌<◌, ◌^◌}
use mathlib.Core.Path.{◌≡◌, refl, sym, ◌∙◌, ap, ap₂, subst}
use mathlib.Core.Bool.{Bool, true, false}
use mathlib.Core.Logic.{◌⊎◌, inl, inr, ⊎_elim}
use mathlib.Core.List.{List, [], ◌∷◌, ◌++◌, map, append_assoc}
use mathlib.Core.Option.{Option, some, none}
use native.Mathlib.Omega.{arith}
use lib.Dec.{eqb, leb}
use lib.ListN.{length, drop, length-append, length-map}
use borrow.Author.Tests.{eq-eqb, eqb-true, leb-true, leb-false}
use lib.Seq.{drop-append_seam}
use Rattle.trees.specs.declared.Body.{Body}
use Rattle.trees.specs.declared.Body.TheVariants.{S, T, K, C, J, O}
use Rattle.trees.specs.declared.Refusal.{Refusal}
use Rattle.trees.specs.Refusals.{number_of, letter_of}
use Rattle.trees.specs.Label.{Label}
use Rattle.trees.specs.Token.{Token, spelling, token_of, good_labels}
use Rattle.trees.specs.declared.Edition.{Edition}
use Rattle.trees.specs.Edition.{ValidIn, normal_text_in}
use Rattle.trees.specs.Tree.{Tree, leaf, node, leaf_limit, leaves}
use Rattle.trees.specs.Text.{written, text_of}
use Rattle.trees.specs.Faults.{occurrences}
use Rattle.trees.specs.Words.{bytes_of}
use Rattle.trees.specs.Writable.{writable_labels}
use Rattle.trees.proofs.Bools.{bool_cases, clash, and_left, and_right}
use Rattle.trees.proofs.ListLaws.{good_head, good_split}
use Rattle.trees.proofs.ReadingLaws.{occurrences_append}
use Rattle.trees.proofs.WritableLaws.{tokens_good, tokens_back}
use Rattle.trees.proofs.EditionLaws.{normal_tree, normal_tree_valid}
use Rattle.lists.specs.ReadList.{joined}
use Rattle.agreement.specs.Restrict.{restrict_in}
use Rattle.agreement.specs.Places.{kept_text_in}
use Rattle.agreement.proofs.EditionText.{restrict_valid}
use Rattle.contents.specs.Contents.{line}
use Rattle.decimals.specs.Decimal.{is_digit, value_from, decimal_from, decimal_of, digit_room}
use Rattle.decimals.proofs.DecimalLaws.{all_digits, from_digits, from_large, from_some, decimal_value}
use Rattle.pairs.specs.Outcome.{refused}
use Rattle.lines.specs.Lines.{refused_words, naming_line, set_lines, record_lines, three_line, claim_line}
use Rattle.job.specs.Printed.{printed_of}
use Rattle.lines.proofs.LineLaws.{size_short}
use Rattle.job.proofs.ShownLaws.{cons_count}
use Rattle.job.proofs.TokenBytes.{token_comma, token_line}

-- ---- bytes that do not stand in a text

other_byte : (p : ℕ → Bool) (b c : ℕ) → p b ≡ false → p c ≡ true → eqb b c ≡ false
other_byte p b c h k =
    ⊎_elim (λ (e : eqb b c ≡ true). clash (subst (λ (z : ℕ). p z ≡ true) (sym (eqb-true b c e)) k) h) (λ (e : eqb b c ≡ false). e)
    (bool_cases (eqb b c))

digit_free : (b : ℕ) → is_digit b ≡ false → (l : List ℕ) → all_digits l ≡ true → occurrences b l ≡ 0
unfolding occurrences
digit_free b h [] g = refl
digit_free b h (c ∷ l) g =
    rw (other_byte is_digit b c h (and_left (is_digit c) (all_digits l) g)) (digit_free b h l (and_right (is_digit c) (all_digits l) g))

-- two texts that are cut at the first such byte
heads : (a c : ℕ) (x y : List ℕ) → a ∷ x ≡ c ∷ y → (a ≡ c) × (x ≡ y)
heads a c x y e = let h : a ≡ c = cc in let t : x ≡ y = cc in (h, t)

cut_at : (b : ℕ) (x y r t : List ℕ) → occurrences b x ≡ 0 → occurrences b y ≡ 0 → x ++ (b ∷ r) ≡ y ++ (b ∷ t) → (x ≡ y) × (r ≡ t)
cut_at b [] [] r t h k e = (refl, (heads b b r t e).1)
cut_at b [] (c ∷ y) r t h k e = absurd ((cons_count b c y k).0 (heads b c r (y ++ (b ∷ t)) e).0)
cut_at b (a ∷ x) [] r t h k e = absurd ((cons_count b a x h).0 (sym (heads a b (x ++ (b ∷ r)) t e).0))
cut_at b (a ∷ x) (c ∷ y) r t h k e =
    let w = heads a c (x ++ (b ∷ r)) (y ++ (b ∷ t)) e in
    let m = cut_at b x y r t (cons_count b a x h).1 (cons_count b c y k).1 w.1 in
    (ap₂ (λ (u : ℕ) (l : List ℕ). u ∷ l) w.0 m.0, m.1)

-- ---- the labels of a list, told by their commas

one_more : (b : ℕ) (l : List ℕ) → occurrences b (b ∷ l) ≡ suc (occurrences b l)
unfolding occurrences
one_more b l = rw (eq-eqb b b refl) refl

commas_just : (x : Token) (X : List Token) → good_labels (x ∷ X) ≡ true → occurrences 44 (joined (x ∷ X)) ≡ length X
unfolding joined
commas_just x [] g = token_comma x (good_head x [] g).0
commas_just x (y ∷ X) g =
    let h = good_head x (y ∷ X) g in
    omega (arith, token_comma x h.0, commas_just y X h.1, occurrences_append 44 x (44 ∷ joined (y ∷ X)), one_more 44 (joined (y ∷ X)))

joined_back : (X Y : List Token) → good_labels X ≡ true → good_labels Y ≡ true → length X ≡ length Y → joined X ≡ joined Y → X ≡ Y
unfolding joined
joined_back [] [] f g n e = refl
joined_back [] (y ∷ Y) f g n e = absurd (omega arith)
joined_back (x ∷ X) [] f g n e = absurd (omega arith)
joined_back (x ∷ []) (y ∷ []) f g n e = ap (λ (z : Token). z ∷ []) e
joined_back (x ∷ []) (y ∷ z ∷ Y) f g n e = absurd (omega arith)
joined_back (x ∷ w ∷ X) (y ∷ []) f g n e = absurd (omega arith)
joined_back (x ∷ w ∷ X) (y ∷ z ∷ Y) f g n e =
    let h = good_head x (w ∷ X) f in
    let k = good_head y (z ∷ Y) g in
    let c = cut_at 44 x y (joined (w ∷ X)) (joined (z ∷ Y)) (token_comma x h.0) (token_comma y k.0) e in
    ap₂ (λ (l : Token) (L : List Token). l ∷ L) c.0 (joined_back (w ∷ X) (z ∷ Y) h.1 k.1 (omega arith) c.1)

-- as many commas as tokens, or one less
commas_near : (X : List Token) → good_labels X ≡ true → (occurrences 44 (joined X) ≤ length X) × (length X ≤ occurrences 44 (joined X) + 1)
unfolding joined occurrences
commas_near [] g = (omega arith, omega arith)
commas_near (x ∷ X) g = (omega (arith, commas_just x X g), omega (arith, commas_just x X g))

-- ---- no line end inside a line

other_more : (b c : ℕ) (l : List ℕ) → eqb b c ≡ false → occurrences b (c ∷ l) ≡ occurrences b l
unfolding occurrences
other_more b c l h = rw h refl

joined_line : (Y : List Token) → good_labels Y ≡ true → occurrences 10 (joined Y) ≡ 0
unfolding joined occurrences
joined_line [] g = refl
joined_line (x ∷ []) g = token_line x (good_head x [] g).0
joined_line (x ∷ y ∷ Y) g =
    let h = good_head x (y ∷ Y) g in
    omega (
      arith,
      token_line x h.0,
      joined_line (y ∷ Y) h.1,
      occurrences_append 10 x (44 ∷ joined (y ∷ Y)),
      other_more 10 44 (joined (y ∷ Y)) refl,
    )

written_line : (t : Tree) → good_labels (leaves t) ≡ true → occurrences 10 (written t) ≡ 0
unfolding written leaves
written_line (leaf x) g = token_line x (good_head x [] g).0
written_line (node a b) g =
    let both = good_split (leaves a) (leaves b) g in
    let right : List ℕ = written b ++ (41 ∷ []) in
    omega (
      arith,
      written_line a both.0,
      written_line b both.1,
      other_more 10 40 (written a ++ (44 ∷ right)) refl,
      occurrences_append 10 (written a) (44 ∷ right),
      other_more 10 44 right refl,
      occurrences_append 10 (written b) (41 ∷ []),
      other_more 10 41 [] refl,
      nothing,
    )
  where
    nothing : occurrences 10 [] ≡ 0
    nothing = unfold occurrences in refl

pub kept_line : (e : Edition) (X : Label → Bool) (t : Tree) → ValidIn e t → occurrences 10 (kept_text_in e (restrict_in e X t)) ≡ 0
unfolding kept_text_in normal_text_in text_of occurrences
kept_line e X t v = go (restrict_in e X t) refl
  where
    go : (o : Option Tree) → restrict_in e X t ≡ o → occurrences 10 (kept_text_in e o) ≡ 0
    go none d = refl
    go (some r) d =
        omega (
          arith,
          occurrences_append 10 (written (normal_tree e r)) (59 ∷ []),
          other_more 10 59 [] refl,
          written_line (normal_tree e r) (normal_tree_valid e r (restrict_valid e X t r v d)).labels,
        )

-- ---- the lines

abbrev size_words : List Token → List ℕ
size_words X = bytes_of "size " ++ decimal_of (length X)

abbrev set_words : List Token → List ℕ
set_words X = bytes_of "set " ++ joined X

abbrev tree_words : List ℕ → List ℕ
tree_words text = bytes_of "tree " ++ text

lines_form : (X : List Token) (text : List ℕ)
    → set_lines X text ≡ size_words X ++ (10 ∷ (set_words X ++ (10 ∷ (tree_words text ++ (10 ∷ [])))))
unfolding set_lines line
lines_form X text =
    append_assoc (size_words X) (10 ∷ []) (line (set_words X) ++ line (tree_words text))
    ∙ ap (λ (l : List ℕ). size_words X ++ (10 ∷ l)) (append_assoc (set_words X) (10 ∷ []) (line (tree_words text)))

size_line : (X : List Token) → occurrences 10 (size_words X) ≡ 0
unfolding bytes_of occurrences decimal_of
size_line X = digit_free 10 no_digit_end (decimal_of (length X)) (from_digits digit_room (length X))
  where
    no_digit_end : is_digit 10 ≡ false
    no_digit_end = unfold is_digit in refl

set_line : (X : List Token) → occurrences 10 (set_words X) ≡ occurrences 10 (joined X)
unfolding bytes_of occurrences
set_line X = refl

tree_line : (text : List ℕ) → occurrences 10 (tree_words text) ≡ occurrences 10 text
unfolding bytes_of occurrences
tree_line text = refl

line_ends : (X : List Token) (text : List ℕ)
    → occurrences 10 (set_lines X text) ≡ 3 + occurrences 10 (joined X) + occurrences 10 text
unfolding occurrences
line_ends X text =
    let three : List ℕ = tree_words text ++ (10 ∷ []) in
    let two : List ℕ = set_words X ++ (10 ∷ three) in
    ap (occurrences 10) (lines_form X text)
    ∙ omega (
      arith,
      occurrences_append 10 (size_words X) (10 ∷ two),
      one_more 10 two,
      occurrences_append 10 (set_words X) (10 ∷ three),
      one_more 10 three,
      occurrences_append 10 (tree_words text) (10 ∷ []),
      one_more 10 [],
      size_line X,
      set_line X,
      tree_line text,
    )

size_back : (X Y : List Token) → size_words X ≡ size_words Y → decimal_of (length X) ≡ decimal_of (length Y)
unfolding bytes_of
size_back X Y e = ap (drop 5) e

set_back : (X Y : List Token) → set_words X ≡ set_words Y → joined X ≡ joined Y
unfolding bytes_of
set_back X Y e = ap (drop 4) e

tree_back : (p q : List ℕ) → tree_words p ≡ tree_words q → p ≡ q
unfolding bytes_of
tree_back p q e = ap (drop 5) e

-- written forms are told by their lines
tokens_lines : (X Y : List Token) (p q : List ℕ) → good_labels X ≡ true → good_labels Y ≡ true → length Y ≤ leaf_limit
    → occurrences 10 q ≡ 0 → set_lines X p ≡ set_lines Y q → (X ≡ Y) × (p ≡ q)
tokens_lines X Y p q goodX goodY few plain e =
    let set : occurrences 10 (joined X) ≡ 0 = joined_line X goodX in
    let other : occurrences 10 (joined Y) ≡ 0 = joined_line Y goodY in
    let ends = sym (line_ends X p) ∙ ap (occurrences 10) e ∙ line_ends Y q in
    let tree : occurrences 10 p ≡ 0 = omega (arith, ends, set, other, plain) in
    let f = sym (lines_form X p) ∙ e ∙ lines_form Y q in
    let a = cut_at 10 (size_words X) (size_words Y) _ _ (size_line X) (size_line Y) f in
    let b = cut_at 10 (set_words X) (set_words Y) _ _ (set_line X ∙ set) (set_line Y ∙ other) a.1 in
    let c = cut_at 10 (tree_words p) (tree_words q) [] [] (tree_line p ∙ tree) (tree_line q ∙ plain) b.1 in
    let j = set_back X Y b.0 in
    let small : length X < 10 ^ digit_room =
    omega (arith, (commas_near X goodX).1, ap (occurrences 44) j, (commas_near Y goodY).0) in
    let n : length X ≡ length Y =
    sym (decimal_value (length X) small) ∙ ap (value_from 0) (size_back X Y a.0) ∙ decimal_value (length Y) (omega arith) in
    (joined_back X Y goodX goodY n j, tree_back p q c.0)

-- and labels that can be written by these forms
forms_back : (X Y : List Label) → writable_labels X ≡ true → writable_labels Y ≡ true → map token_of X ≡ map token_of Y → X ≡ Y
forms_back X Y v w e = sym (tokens_back X v) ∙ ap (map spelling) e ∙ tokens_back Y w

pub lines_back : (X Y : List Label) (p q : List ℕ) → writable_labels X ≡ true → writable_labels Y ≡ true → length Y ≤ leaf_limit
    → occurrences 10 q ≡ 0 → record_lines X p ≡ record_lines Y q → (X ≡ Y) × (p ≡ q)
lines_back X Y p q v w few plain e =
    let k = tokens_lines (map token_of X) (map token_of Y) p q (tokens_good X v) (tokens_good Y w) (omega (arith, few, length-map Y token_of)) plain e in
    (forms_back X Y v w k.0, k.1)

-- ---- the lines of numbers 8 and 14

letter_plain : (b : Body) → eqb 32 (letter_of b) ≡ false
unfolding letter_of
letter_plain S = refl
letter_plain T = refl
letter_plain K = refl
letter_plain C = refl
letter_plain J = refl
letter_plain O = refl

blank_free : (n : ℕ) → occurrences 32 (decimal_of n) ≡ 0
unfolding decimal_of
blank_free n = digit_free 32 no_digit_blank (decimal_of n) (from_digits digit_room n)
  where
    no_digit_blank : is_digit 32 ≡ false
    no_digit_blank = unfold is_digit in refl

refused_blank : (l : List ℕ) → occurrences 32 (bytes_of "refused " ++ l) ≡ suc (occurrences 32 l)
unfolding bytes_of occurrences
refused_blank l = refl

words_blanks : (q : Refusal) → occurrences 32 (refused_words q) ≡ 3
unfolding refused_words
words_blanks q =
    let place : List ℕ = decimal_of q.place in
    let rest : List ℕ = 32 ∷ letter_of q.body ∷ 32 ∷ place in
    omega (
      arith,
      refused_blank (decimal_of (number_of q.reason) ++ rest),
      occurrences_append 32 (decimal_of (number_of q.reason)) rest,
      blank_free (number_of q.reason),
      one_more 32 (letter_of q.body ∷ 32 ∷ place),
      other_more 32 (letter_of q.body) (32 ∷ place) (letter_plain q.body),
      one_more 32 place,
      blank_free q.place,
    )

line_blanks : (w : List ℕ) → occurrences 32 (line w) ≡ occurrences 32 w
unfolding line occurrences
line_blanks w = omega (arith, occurrences_append 32 w (10 ∷ []))

-- the line of a refusal that names no label
pub refusal_no_three : (q p : Refusal) (a b c : Label) → printed_of (refused q) ≡ three_line p a b c → ⊥
unfolding printed_of naming_line
refusal_no_three q p a b c e =
    let w : List ℕ = refused_words p in
    let j : List ℕ = joined (map token_of (a ∷ b ∷ c ∷ [])) in
    omega (
      arith,
      ap (occurrences 32) e,
      line_blanks (refused_words q),
      words_blanks q,
      line_blanks (w ++ (32 ∷ j)),
      occurrences_append 32 w (32 ∷ j),
      words_blanks p,
      one_more 32 j,
    )

after_words : (w r : List ℕ) → drop (length w) (line (w ++ r)) ≡ r ++ (10 ∷ [])
unfolding line
after_words w r = ap (drop (length w)) (append_assoc w r (10 ∷ [])) ∙ drop-append_seam w (r ++ (10 ∷ []))

naming_joined : (p : Refusal) (X Y : List Token) → naming_line p X ≡ naming_line p Y → joined X ++ (10 ∷ []) ≡ joined Y ++ (10 ∷ [])
unfolding naming_line
naming_joined p X Y e =
    let w : List ℕ = refused_words p in
    let f : 32 ∷ (joined X ++ (10 ∷ [])) ≡ 32 ∷ (joined Y ++ (10 ∷ [])) =
    sym (after_words w (32 ∷ joined X)) ∙ ap (drop (length w)) e ∙ after_words w (32 ∷ joined Y) in
    (heads 32 32 (joined X ++ (10 ∷ [])) (joined Y ++ (10 ∷ [])) f).1

pub three_back : (p : Refusal) (a b c x y z : Label) → writable_labels (a ∷ b ∷ c ∷ []) ≡ true → writable_labels (x ∷ y ∷ z ∷ []) ≡ true
    → three_line p a b c ≡ three_line p x y z → (a ≡ x) × (b ≡ y) × (c ≡ z)
three_back p a b c x y z v w e =
    let one : List Label = a ∷ b ∷ c ∷ [] in
    let two : List Label = x ∷ y ∷ z ∷ [] in
    let X : List Token = map token_of one in
    let Y : List Token = map token_of two in
    let goodX = tokens_good one v in
    let goodY = tokens_good two w in
    let cut = cut_at 10 (joined X) (joined Y) [] [] (joined_line X goodX) (joined_line Y goodY) (naming_joined p X Y e) in
    let same : one ≡ two = forms_back one two v w (joined_back X Y goodX goodY refl cut.0) in
    let i : a ≡ x = cc in
    let k : b ≡ y = cc in
    let l : c ≡ z = cc in
    (i, k, l)

-- ---- the line of a claim that passes

-- a number from 100 on has three digits at least
long_digits : (n : ℕ) → 100 ≤ n → 3 ≤ length (decimal_of n)
unfolding decimal_of
long_digits n h =
    let one = from_large digit_room n (omega arith) (omega arith) in
    let two = from_large (digit_room - 1) (n / 10) (omega arith) (omega arith) in
    omega (
      arith,
      ap (length {A = ℕ}) one,
      ap (length {A = ℕ}) two,
      length-append (decimal_from (digit_room - 1) (n / 10)) ((48 + n % 10) ∷ []),
      length-append (decimal_from (digit_room - 1 - 1) (n / 10 / 10)) ((48 + n / 10 % 10) ∷ []),
      from_some (digit_room - 1 - 1) (n / 10 / 10) (omega arith),
    )

digits_line : (n : ℕ) → occurrences 10 (decimal_of n) ≡ 0
unfolding decimal_of
digits_line n = digit_free 10 no_digit_end (decimal_of n) (from_digits digit_room n)
  where
    no_digit_end : is_digit 10 ≡ false
    no_digit_end = unfold is_digit in refl

claim_digits : (n : ℕ) → drop 9 (claim_line n) ≡ decimal_of n ++ (10 ∷ [])
unfolding claim_line line bytes_of
claim_digits n = refl

-- the line tells the size
pub claim_back : (m n : ℕ) → m ≤ leaf_limit → claim_line m ≡ claim_line n → m ≡ n
claim_back m n few e =
    let same = (cut_at 10 (decimal_of m) (decimal_of n) [] [] (digits_line m) (digits_line n) (sym (claim_digits m) ∙ ap (drop 9) e ∙ claim_digits n)).0 in
    go (bool_cases (leb 100 n)) same
  where
    go : (leb 100 n ≡ true) ⊎ (leb 100 n ≡ false) → decimal_of m ≡ decimal_of n → m ≡ n
    go (inl h) same =
        absurd (omega (arith, size_short m few, long_digits n (leb-true 100 n h), ap (length {A = ℕ}) same))
    go (inr h) same =
        let small : n < 100 = leb-false 100 n h in
        sym (decimal_value m (omega arith)) ∙ ap (value_from 0) same ∙ decimal_value n (omega arith)
