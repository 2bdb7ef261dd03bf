-- A list is accepted exactly if it is good labels, all different as decoded and at most 80, joined by commas, and those labels are
-- read. Assumes nothing.
use Prim.Native.Nat.{ℕ, ◌+◌, ◌≤◌, ◌<◌}
use mathlib.Core.Path.{◌≡◌, refl, sym, ◌∙◌, ap, subst}
use mathlib.Core.Bool.{Bool, true, false, cond}
use mathlib.Core.List.{List, [], ◌∷◌, ◌++◌, map, map-append, append_assoc, append-nil}
use native.Mathlib.Omega.{arith}
use lib.Dec.{eqb}
use lib.ListN.{length, length-append}
use borrow.Author.Tests.{ne_eqb}
use Rattle.trees.specs.declared.Reason.TheVariants.{BadByte}
use Rattle.trees.specs.Bytes.{is_label_byte, is_inner_byte, kind_of, comma_byte, quote_byte}
use Rattle.trees.specs.Label.{Label, label_limit, is_in, distinct}
use Rattle.trees.specs.Token.{Token, spelling, all_of, good_labels, quoted_token}
use Rattle.trees.specs.Reading.{good, run_of, repeats}
use Rattle.lists.specs.ReadList.{Phase, label_due, in_bare, in_quotes, after_quote, next, stop, begins, goes_on, step_due, step}
use Rattle.lists.specs.ReadList.{read_from, read_list, joined, list_limit}
use Rattle.trees.proofs.Bools.{and_left, and_right}
use Rattle.trees.proofs.ListLaws.{good_parts, good_head, distinct_fresh}
use Rattle.trees.proofs.TokenForms.{inner_of, token_by, label_by, Formed, loose_formed, form_short, form_spelling, quote_not_inner}
use Rattle.trees.proofs.ReadingLaws.{kind_label, comma_plain, plain_label, run_none, run_end, repeats_ended, quote_first_lem}
use Rattle.lists.proofs.AcceptsRaw.{due, within, passed}
use Rattle.lists.proofs.ListFaultsWalk.{Result, reading}
use Rattle.lists.proofs.ReadSteps.{read_next, due_step, letter_step}

-- the bytes of a label that is not too long
read_letters : (q : Bool) (seen : List Token) (n : ℕ) (y x rest : List ℕ) → all_of (inner_of q) x ≡ true → length y + length x ≤ label_limit
    → (m : ℕ) × (read_from (within q y) seen n (x ++ rest) ≡ read_from (within q (y ++ x)) seen m rest)
unfolding all_of goes_on
read_letters q seen n y [] rest h l = (n, ap (λ (z : List ℕ). read_from (within q z) seen n rest) (sym (append-nil y)))
read_letters q seen n y (b ∷ x) rest h l =
    let g =
    read_letters q seen (n + 1) (y ++ (b ∷ [])) x rest (and_right (inner_of q b) (all_of (inner_of q) x) h) (omega (arith, length-append y (b ∷ []))) in (
      g.0,
      read_next (within q y) seen n b (x ++ rest) (within q (y ++ (b ∷ []))) seen
          (letter_step q y seen b (x ++ rest) (and_left (inner_of q b) (all_of (inner_of q) x) h)
          ∙ ap (λ (t : Bool). goes_on t (within q (y ++ (b ∷ []))) seen)
          (ne_eqb (length y) label_limit (λ (e : length y ≡ label_limit). omega arith)))
          ∙ g.1
          ∙ ap (λ (z : List ℕ). read_from (within q z) seen g.0 rest) (append_assoc y (b ∷ []) x),
    )

-- a label begins that is neither one too many nor a repeat
begun : (seen : List Token) (ph : Phase) (r : Bool) → length seen < list_limit → r ≡ false
    → begins (eqb (length seen) list_limit) r ph seen ≡ next ph seen
unfolding begins
begun seen ph r few e =
    ap (λ (t : Bool). begins t r ph seen) (ne_eqb (length seen) list_limit (λ (z : length seen ≡ list_limit). omega arith))
    ∙ ap (λ (t : Bool). begins false t ph seen) e

-- a label of either form that is not too long and was not seen before
read_whole : (c q : Bool) (seen : List Token) (n : ℕ) (x rest : List ℕ) → 1 ≤ length x → length x ≤ label_limit → all_of (inner_of q) x ≡ true
    → is_in (label_by q x) (map spelling seen) ≡ false → length seen < list_limit → run_of is_label_byte rest ≡ []
    → (m : ℕ) × (read_from (due c) seen n (token_by q x ++ rest) ≡ read_from (passed q x) seen m rest)
unfolding step_due step kind_of all_of
read_whole c true seen n x rest l k h f few e =
    let g = read_letters true seen (n + 1) [] x (quote_byte ∷ rest) h (omega arith) in (
      g.0 + 1,
      ap (λ (w : List ℕ). read_from (due c) seen n (quote_byte ∷ w)) (append_assoc x (quote_byte ∷ []) rest)
          ∙ read_next (due c) seen n quote_byte (x ++ (quote_byte ∷ rest)) (in_quotes []) seen
          (due_step c seen quote_byte (x ++ (quote_byte ∷ rest))
          ∙ begun seen (in_quotes []) (repeats (map spelling seen) (quote_byte ∷ (x ++ (quote_byte ∷ rest)))) few fresh)
          ∙ g.1
          ∙ read_next (in_quotes x) seen g.0 quote_byte rest (after_quote (quoted_token x)) seen
          (ap (λ (t : Bool). cond t (stop BadByte) (next (after_quote (quoted_token x)) seen)) (ne_eqb (length x) 0 (λ (z : length x ≡ 0). omega arith))),
    )
  where
    fresh : repeats (map spelling seen) (quote_byte ∷ (x ++ (quote_byte ∷ rest))) ≡ false
    fresh =
        repeats_ended (map spelling seen) true x (quote_byte ∷ rest) l k h (run_none is_inner_byte quote_byte rest quote_not_inner) (quote_first_lem rest) ∙ f
read_whole c false seen n [] rest l k h f few e = absurd (omega arith)
read_whole c false seen n (b ∷ x) rest l k h f few e =
    let g = read_letters false seen (n + 1) (b ∷ []) x rest (and_right (is_label_byte b) (all_of is_label_byte x) h) (omega arith) in (
      g.0,
      read_next (due c) seen n b (x ++ rest) (in_bare (b ∷ [])) seen
          (due_step c seen b (x ++ rest)
          ∙ ap (step_due seen (repeats (map spelling seen) (b ∷ (x ++ rest))) b) (kind_label b (and_left (is_label_byte b) (all_of is_label_byte x) h))
          ∙ begun seen (in_bare (b ∷ [])) (repeats (map spelling seen) (b ∷ (x ++ rest))) few
          (repeats_ended (map spelling seen) false (b ∷ x) rest l k h e refl ∙ f))
          ∙ g.1,
    )

-- where the list ends, and where it goes on
read_last : (q : Bool) (x : List ℕ) (seen : List Token) (m : ℕ) → read_from (passed q x) seen m [] ≡ good (seen ++ (token_by q x ∷ []))
unfolding read_from
read_last true x seen m = refl
read_last false x seen m = refl

read_comma : (q : Bool) (x : List ℕ) (seen : List Token) (m : ℕ) (rest : List ℕ)
    → read_from (passed q x) seen m (comma_byte ∷ rest) ≡ read_from label_due (seen ++ (token_by q x ∷ [])) (m + 1) rest
unfolding step kind_of
read_comma true x seen m rest = read_next (passed true x) seen m comma_byte rest label_due (seen ++ (token_by true x ∷ [])) refl
read_comma false x seen m rest = read_next (passed false x) seen m comma_byte rest label_due (seen ++ (token_by false x ∷ [])) refl

-- a good token that is new among those seen
read_token : (c : Bool) (seen : List Token) (n : ℕ) (x : Token) (xs : List Token) (rest : List ℕ) → good_labels (x ∷ xs) ≡ true
    → distinct (map spelling (seen ++ (x ∷ xs))) ≡ true → length seen < list_limit → run_of is_label_byte rest ≡ []
    → (q : Bool) × (y : List ℕ) × (m : ℕ) × (read_from (due c) seen n (x ++ rest) ≡ read_from (passed q y) seen m rest) × (x ≡ token_by q y)
read_token c seen n x xs rest g d few e =
    let t = (good_head x xs g).0 in
    let f = loose_formed x (good_parts x t).0 in
    let w =
    read_whole c f.quoted seen n f.inner rest f.some (form_short x t f) f.letters (fresh f) few e in
    (f.quoted, f.inner, w.0, ap (λ (z : Token). read_from (due c) seen n (z ++ rest)) f.is ∙ w.1, f.is)
  where
    new : is_in (spelling x) (map spelling seen) ≡ false
    new =
        distinct_fresh (map spelling seen) (spelling x) (map spelling xs)
        (subst (λ (z : List Label). distinct z ≡ true) (map-append spelling seen (x ∷ xs)) d)

    fresh : (f : Formed x) → is_in (label_by f.quoted f.inner) (map spelling seen) ≡ false
    fresh f =
        subst (λ (z : Label). is_in z (map spelling seen) ≡ false) (ap spelling f.is ∙ form_spelling f.quoted f.inner f.letters) new

-- labels joined by commas, after those seen
read_joined : (c : Bool) (seen : List Token) (n : ℕ) (x : Token) (xs : List Token) → good_labels (x ∷ xs) ≡ true
    → distinct (map spelling (seen ++ (x ∷ xs))) ≡ true → length seen + length (x ∷ xs) ≤ list_limit
    → read_from (due c) seen n (joined (x ∷ xs)) ≡ good (seen ++ (x ∷ xs))
unfolding joined
read_joined c seen n x [] g d l =
    let w = read_token c seen n x [] [] g d (omega arith) (run_end is_label_byte) in
    ap (λ (z : List ℕ). read_from (due c) seen n z) (sym (append-nil x))
    ∙ w.3
    ∙ read_last w.0 w.1 seen w.2
    ∙ ap (λ (z : Token). good (seen ++ (z ∷ []))) (sym w.4)
read_joined c seen n x (y ∷ ys) g d l =
    let w =
    read_token c seen n x (y ∷ ys) (comma_byte ∷ joined (y ∷ ys)) g d (omega arith)
    (run_none is_label_byte comma_byte (joined (y ∷ ys)) (plain_label comma_byte comma_plain)) in
    w.3
    ∙ read_comma w.0 w.1 seen w.2 (joined (y ∷ ys))
    ∙ ap (λ (z : Token). read_from label_due (seen ++ (z ∷ [])) (w.2 + 1) (joined (y ∷ ys))) (sym w.4)
    ∙ read_joined false (seen ++ (x ∷ [])) (w.2 + 1) y ys (good_head x (y ∷ ys) g).1
    (subst (λ (z : List Token). distinct (map spelling z) ≡ true) (sym (append_assoc seen (x ∷ []) (y ∷ ys))) d)
    (omega (arith, length-append seen (x ∷ [])))
    ∙ ap good (append_assoc seen (x ∷ []) (y ∷ ys))

-- good labels, all different as decoded and at most 80, are read from their text
pub list_reads : (xs : List Token) → good_labels xs ≡ true → distinct (map spelling xs) ≡ true → length xs ≤ list_limit
    → read_list (joined xs) ≡ good xs
unfolding read_list joined
list_reads [] g d l = refl
list_reads (x ∷ xs) g d l = read_joined true [] 0 x xs g d (omega arith)

-- a text that is accepted is the text of the labels read, and they are good, all different as decoded and at most 80
pub list_accepts : (text : List ℕ) (xs : List Token) → read_list text ≡ good xs
    → (text ≡ joined xs) × (good_labels xs ≡ true) × (distinct (map spelling xs) ≡ true) × (length xs ≤ list_limit)
list_accepts text xs e = let r = subst (Result text) e (reading text) in (r.0, r.1, r.2, r.3)
