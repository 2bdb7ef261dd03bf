-- Texts put into an area one after another, and a text handed over. Assumes nothing.
use Prim.Native.Nat.{ℕ, zero, suc, ◌+◌, ◌-◌, ◌*◌, ◌≤◌, ◌<◌, min}
use mathlib.Core.Path.{◌≡◌, refl, sym, ◌∙◌, ap, ap₂, subst}
use mathlib.Core.List.{List, [], ◌∷◌, ◌++◌, map, append_assoc, append-nil, map-append}
use native.Mathlib.Nat.{add-zero, zero-add}
use native.Mathlib.Numerals.{add-one}
use native.Mathlib.Omega.{arith}
use lib.ListN.{length, get_or, take, drop, replicate, length-append, length-take, length-map}
use borrow.Rule.Slice.PartMut.{put_mid}
use Rattle.std.proofs.lemmas.Slice.{put_mid-paste, take-put_mid, drop-put_mid}
use Rattle.std.proofs.lemmas.List.Edits.{length-paste}
use lib.Seq.{take_at, drop-drop}
use borrow.Author.Tests.{le-leb, lt-leb}
use Rattle.trees.specs.Label.{Label, label_limit}
use Rattle.trees.specs.Stored.{part_of, stored_of, stored_bytes, shown_of, shown_bytes}
use Rattle.trees.specs.Token.{Token, spelling, token_of, token_limit}
use Rattle.trees.proofs.StoredLaws.{shown_back}
use Rattle.trees.proofs.TokenLaws.{token_short}
use Rattle.lists.specs.ReadList.{joined}
use Rattle.std.specs.Prelude.{Ok, Err}
use Rattle.mast.specs.Largest.{too_short}
use Rattle.lines.specs.Output.{line_answer, line_output}
use Rattle.lines.specs.Lines.{label_in, labels_in, item_room}
use Rattle.lines.specs.Areas.{Put, item}

-- ---- one text after another

pub put_none : (a : List ℕ) (at : ℕ) → Put a at [] (at + 0) a
put_none a at =
    record {
      ends = refl;
      front = ap (λ (k : ℕ). take k a) (add-zero at) ∙ sym (append-nil (take at a));
      back = refl;
      whole = refl;
    }

pub put_then : {a b d x y : List ℕ} {at i j : ℕ} → Put a at x i b → Put b i y j d → Put a at (x ++ y) j d
put_then {a} {b} {d} {x} {y} {at} {i} {j} p q =
    record {
      ends = omega (arith, p.ends, q.ends, length-append x y);
      front = q.front ∙ ap (λ (l : List ℕ). l ++ y) p.front ∙ append_assoc (take at a) x y;
      back =
          q.back
          ∙ ap (λ (k : ℕ). drop k b) q.ends
          ∙ sym (drop-drop (length y) i b)
          ∙ ap (drop (length y)) p.back
          ∙ drop-drop (length y) i a
          ∙ ap (λ (k : ℕ). drop k a) (sym q.ends);
      whole = q.whole ∙ p.whole;
    }

-- the same text, told another way
pub put_as : {a b : List ℕ} {at i : ℕ} (x y : List ℕ) → x ≡ y → Put a at x i b → Put a at y i b
put_as {a} {b} {at} {i} x y e p = subst (λ (z : List ℕ). Put a at z i b) e p

-- the next place, told another way
pub put_to : {a b x : List ℕ} {at : ℕ} (i j : ℕ) → i ≡ j → Put a at x i b → Put a at x j b
put_to {a} {b} {x} {at} i j e p = subst (λ (k : ℕ). Put a at x k b) e p

-- nothing
pub put_same : (a : List ℕ) (at : ℕ) → Put a at [] at a
put_same a at = put_to (at + 0) at (add-zero at) (put_none a at)

-- x copied over a part of its length
pub put_over : (a y x : List ℕ) (at n : ℕ) → y ≡ x → n ≡ length x → at + length x ≤ length a → Put a at x (at + length x) (put_mid at n a y)
put_over a y x at n e en room =
    let l : length y ≡ length x = ap (length {A = ℕ}) e in
    record {
      ends = refl;
      front = take-put_mid at n a y (at + length x) (omega arith) (omega arith) ∙ ap (λ (z : List ℕ). take at a ++ z) e;
      back = drop-put_mid at n a y (at + length x) (omega arith) (omega arith) (omega arith);
      whole = ap (length {A = ℕ}) (put_mid-paste at n a y x (length x) e (sym en) refl) ∙ length-paste a at x (length x) (omega arith) (omega arith);
    }

-- ---- a text handed over

pub answer_fits : (text : List ℕ) (room n : ℕ) → length text ≤ room → n ≡ 0 + length text → Ok n ≡ line_answer text room
unfolding line_answer
answer_fits text room n h e = rw (le-leb (length text) room h) (ap Ok (e ∙ zero-add (length text)))

pub answer_short : (text : List ℕ) (room : ℕ) → room < length text → Err too_short ≡ line_answer text room
unfolding line_answer
answer_short text room h = rw (lt-leb (length text) room h) refl

pub output_fits : (text out : List ℕ) → length text ≤ length out → text ++ drop (length text) out ≡ line_output text out
unfolding line_output
output_fits text out h = rw (le-leb (length text) (length out) h) refl

pub handed : (text out copied : List ℕ) (n : ℕ) → copied ≡ text → n ≡ length text → n ≤ length out → copied ++ drop n out ≡ line_output text out
handed text out copied n e en h =
    ap₂ (λ (x : List ℕ) (k : ℕ). x ++ drop k out) e en ∙ output_fits text out (omega arith)

pub output_short : (text out : List ℕ) → length out < length text → out ≡ line_output text out
unfolding line_output
output_short text out h = rw (lt-leb (length text) (length out) h) refl

-- ---- labels

pub label_short : (text : List ℕ) (start size : ℕ) → length (label_in text start size) ≤ label_limit
unfolding label_in
label_short text start size = omega (arith, length-take label_limit (spelling (part_of start size text)))

-- what is kept of any label
stored_cut : (x : Label) → stored_bytes (stored_of x) ≡ take label_limit x
unfolding stored_bytes stored_of
stored_cut x =
    let n : ℕ = min (length x) label_limit in
    take_at (take label_limit x) (replicate (label_limit - length x) 0) n (omega (arith, length-take label_limit x))

-- what is printed of the part that a place and a size name
pub shown_part : (text : List ℕ) (start size : ℕ)
    → shown_bytes (shown_of (stored_bytes (stored_of (spelling (part_of start size text))))) ≡ token_of (label_in text start size)
unfolding label_in
shown_part text start size =
    ap (λ (l : Label). shown_bytes (shown_of l)) (stored_cut (spelling (part_of start size text)))
    ∙ shown_back (label_in text start size) (label_short text start size)

pub form_short : (text : List ℕ) (start size : ℕ) → length (token_of (label_in text start size)) ≤ token_limit
form_short text start size = token_short (label_in text start size) (label_short text start size)

pub item_first : (i : ℕ) (x : Token) → i ≡ 0 → x ≡ item i x
unfolding item
item_first zero x e = refl
item_first (suc i) x e = absurd (omega arith)

pub item_later : (i : ℕ) (x : Token) → (i ≡ 0 → ⊥) → (44 ∷ []) ++ x ≡ item i x
unfolding item
item_later zero x h = absurd (h refl)
item_later (suc i) x h = refl

pub item_short : (i : ℕ) (x : Token) → length (item i x) ≤ length x + 1
unfolding item
item_short zero x = omega arith
item_short (suc i) x = omega arith

-- the comma is before a label, so the first has none
pub item_grows : (i : ℕ) (x : Token) (at next : ℕ) → length x ≤ token_limit → next ≤ at + (item_room * i - 1)
    → next + length (item i x) ≤ at + (item_room * (i + 1) - 1)
unfolding item
item_grows zero x at next short h = omega arith
item_grows (suc i) x at next short h = omega arith

joined_more : (x : Token) (xs : List Token) (y : Token) → joined ((x ∷ xs) ++ (y ∷ [])) ≡ joined (x ∷ xs) ++ (44 ∷ y)
unfolding joined
joined_more x [] y = refl
joined_more x (z ∷ xs) y =
    ap (λ (l : List ℕ). x ++ (44 ∷ l)) (joined_more z xs y) ∙ sym (append_assoc x (44 ∷ joined (z ∷ xs)) (44 ∷ y))

-- one label more
pub joined_snoc : (xs : List Token) (y : Token) → joined (xs ++ (y ∷ [])) ≡ joined xs ++ item (length xs) y
unfolding joined item
joined_snoc [] y = refl
joined_snoc (x ∷ xs) y = joined_more x xs y

pub length_labels : (text starts sizes : List ℕ) (n : ℕ) → length (labels_in text starts sizes n) ≡ n
unfolding labels_in
length_labels text starts sizes zero = refl
length_labels text starts sizes (suc n) =
    length-append (labels_in text starts sizes n) (label_in text (get_or starts n 0) (get_or sizes n 0) ∷ [])
    ∙ ap (λ (k : ℕ). k + 1) (length_labels text starts sizes n)
    ∙ add-one n

-- the label with number i put after the first i
pub put_label : {a b d : List ℕ} {at i j : ℕ} (text starts sizes : List ℕ) (n : ℕ)
    → Put a at (joined (map token_of (labels_in text starts sizes n))) i b
    → Put b i (item n (token_of (label_in text (get_or starts n 0) (get_or sizes n 0)))) j d
    → Put a at (joined (map token_of (labels_in text starts sizes (n + 1)))) j d
unfolding labels_in
put_label text starts sizes n p q =
    let x : Label = label_in text (get_or starts n 0) (get_or sizes n 0) in
    let X : List Label = labels_in text starts sizes n in
    let Z : List Token = map token_of X in
    let count : n ≡ length Z = sym (length-map X token_of ∙ length_labels text starts sizes n) in
    put_as (joined Z ++ item n (token_of x)) (joined (map token_of (labels_in text starts sizes (n + 1))))
    (ap (λ (k : ℕ). joined Z ++ item k (token_of x)) count
    ∙ sym (joined_snoc Z (token_of x))
    ∙ ap joined (sym (map-append token_of X (x ∷ [])))
    ∙ ap (λ (k : ℕ). joined (map token_of (labels_in text starts sizes k))) (sym (add-one n)))
    (put_then p q)

-- no label
pub first_none : (a : List ℕ) (at : ℕ) (text starts sizes : List ℕ) → Put a at (joined (map token_of (labels_in text starts sizes 0))) at a
unfolding labels_in joined
first_none a at text starts sizes = put_to (at + 0) at (add-zero at) (put_none a at)
