-- The parts of the lines, one after another, are the lines. Assumes nothing.
use Prim.Native.Nat.{ℕ, ◌+◌, ◌≤◌, min}
use mathlib.Core.Path.{◌≡◌, refl, sym, ◌∙◌, ap, ap₂}
use mathlib.Core.List.{List, [], ◌∷◌, ◌++◌, map, append_assoc}
use native.Mathlib.Omega.{arith}
use lib.ListN.{length, take, length-append, length-take, length-map}
use lib.Seq.{take_all}
use Rattle.decimals.proofs.DecimalLaws.{decimal_short, from_few}
use Rattle.lines.proofs.AreaLaws.{put_then, form_short, item_short}
use Rattle.trees.specs.declared.Refusal.{Refusal}
use Rattle.trees.specs.Refusals.{number_of, letter_of}
use Rattle.trees.specs.Label.{Label}
use Rattle.trees.specs.Text.{tree_room}
use Rattle.trees.specs.Token.{Token, token_of, token_limit}
use Rattle.trees.specs.Tree.{leaf_limit}
use Rattle.lists.specs.ReadList.{joined}
use Rattle.mast.specs.declared.Named.{Named}
use Rattle.std.specs.Prelude.{Result}
use Rattle.decimals.specs.Decimal.{decimal_of}
use Rattle.trees.specs.Words.{bytes_of}
use Rattle.contents.specs.Contents.{line}
use Rattle.lines.specs.Lines.{item_room, words_room, refused_words, refused_line, naming_line, set_lines, record_lines, always_line, claim_line, label_in, named_line}
use Rattle.lines.specs.Output.{line_answer, line_output}
use Rattle.lines.specs.Areas.{Put, item}

words_of : (d p : List ℕ) (l : ℕ)
    → bytes_of "refused " ++ d ++ (32 ∷ l ∷ 32 ∷ []) ++ p ≡ bytes_of "refused " ++ (d ++ (32 ∷ l ∷ 32 ∷ p))
unfolding bytes_of
words_of d p l = simp append_assoc

pub refusal_parts : (q : Refusal) (n l : ℕ) → n ≡ number_of q.reason → l ≡ letter_of q.body
    → bytes_of "refused " ++ decimal_of n ++ (32 ∷ l ∷ 32 ∷ []) ++ decimal_of q.place ≡ refused_words q
unfolding refused_words
refusal_parts q n l e f = rw (e, f) (words_of (decimal_of (number_of q.reason)) (decimal_of q.place) (letter_of q.body))

-- the words and a line end
pub refusal_put : {a b d : List ℕ} {i n : ℕ} (q : Refusal) → Put a 0 (refused_words q) i b → Put b i (10 ∷ []) n d
    → Put a 0 (refused_line q) n d
unfolding refused_line line
refusal_put q p r = put_then p r

three_of_lem : (w x y z : List ℕ)
    → w ++ (32 ∷ []) ++ item 0 x ++ item 1 y ++ item 1 z ++ (10 ∷ []) ≡ line (w ++ (32 ∷ joined (x ∷ y ∷ z ∷ [])))
unfolding joined item line
three_of_lem w x y z = simp append_assoc

pub named_parts : (job : List ℕ) (q : Refusal) (n : Named)
    → refused_words q ++ (32 ∷ [])
    ++ item 0 (token_of (label_in job n.first.start n.first.size))
    ++ item 1 (token_of (label_in job n.second.start n.second.size))
    ++ item 1 (token_of (label_in job n.third.start n.third.size))
    ++ (10 ∷ [])
    ≡ named_line job q n
unfolding named_line naming_line
named_parts job q n =
    three_of_lem (refused_words q) (token_of (label_in job n.first.start n.first.size))
    (token_of (label_in job n.second.start n.second.size)) (token_of (label_in job n.third.start n.third.size))

-- words and what follows them, each with its line end: joined from the left, and line by line
lines_of : (n w d x j y t : List ℕ)
    → w ++ d ++ (n ++ x) ++ j ++ (n ++ y) ++ t ++ n ≡ ((w ++ d) ++ n) ++ (((x ++ j) ++ n) ++ ((y ++ t) ++ n))
lines_of n w d x j y t = simp append_assoc

pub record_parts : (X : List Label) (tree : List ℕ) (n : ℕ) → n ≡ length X
    → bytes_of "size " ++ decimal_of n ++ (10 ∷ bytes_of "set ") ++ joined (map token_of X) ++ (10 ∷ bytes_of "tree ") ++ tree ++ (10 ∷ [])
    ≡ record_lines X tree
unfolding set_lines line
record_parts X tree n e =
    rw (e ∙ sym (length-map X token_of))
    (lines_of (10 ∷ []) (bytes_of "size ") (decimal_of (length (map token_of X))) (bytes_of "set ") (joined (map token_of X)) (bytes_of "tree ") tree)

pub always_parts : (A : List Label) → bytes_of "always " ++ joined (map token_of A) ++ (10 ∷ []) ≡ always_line (map token_of A)
unfolding always_line line
always_parts A = refl

pub claim_parts : (n : ℕ) → bytes_of "claim ok " ++ decimal_of n ++ (10 ∷ []) ≡ claim_line n
unfolding claim_line line
claim_parts n = refl

-- what was put from 0 on is the front of the area
pub put_front : {a b text : List ℕ} {n : ℕ} → Put a 0 text n b → take n b ≡ text
put_front p = p.front

-- a size is at most 80, and so has at most two digits
pub size_short : (n : ℕ) → n ≤ leaf_limit → length (decimal_of n) ≤ 2
unfolding decimal_of
size_short n h = from_few 2 20 n (omega arith) (omega arith)

-- a total
pub total_short : (n : ℕ) → n ≤ 159 → length (decimal_of n) ≤ 3
unfolding decimal_of
total_short n h = from_few 3 20 n (omega arith) (omega arith)

pub words_short : (q : Refusal) → length (refused_words q) ≤ words_room
unfolding refused_words bytes_of
words_short q =
    omega (
      arith,
      length-append (decimal_of (number_of q.reason)) (32 ∷ letter_of q.body ∷ 32 ∷ decimal_of q.place),
      decimal_short (number_of q.reason),
      decimal_short q.place,
    )

pub words_fit : {a b : List ℕ} {i : ℕ} (q : Refusal) → Put a 0 (refused_words q) i b → words_room + 1 ≤ length a → i + 1 ≤ length b
words_fit q p h = omega (arith, p.ends, p.whole, words_short q, h)

-- an area from 0 to n, lent as a part
module _ {a b text : List ℕ} {n : ℕ} (p : Put a 0 text n b) where
  pub front_inside : n ≤ length b
  front_inside = omega (arith, p.ends, length-take n b, ap (length {A = ℕ}) (put_front p))

  pub front_length : n ≡ length (take n b)
  front_length = omega (arith, front_inside, length-take n b)

  pub front_answer : (r : Result ℕ Refusal) (room : ℕ) → r ≡ line_answer (take n b) room → r ≡ line_answer text room
  front_answer r room e = e ∙ ap (λ (t : List ℕ). line_answer t room) (put_front p)

  pub front_output : (o out : List ℕ) → o ≡ line_output (take n b) out → o ≡ line_output text out
  front_output o out e = e ∙ ap (λ (t : List ℕ). line_output t out) (put_front p)

-- a label that is printed, and the item it makes, are short
pub named_short : (text : List ℕ) (start size : ℕ) {x : Token} → x ≡ token_of (label_in text start size) → length x ≤ token_limit
named_short text start size {x} e = omega (arith, ap (length {A = ℕ}) e, form_short text start size)

pub item_named : (i : ℕ) (text : List ℕ) (start size : ℕ) {x : Token} → x ≡ token_of (label_in text start size) → length (item i x) ≤ item_room
item_named i text start size {x} e = omega (arith, named_short text start size e, item_short i x)

-- a set and a tree's text within the limits are printed whole
pub uncut : (X : ℕ → List Label) (tree : List ℕ) (n : ℕ) → n ≤ leaf_limit → length tree ≤ tree_room
    → record_lines (X (min n leaf_limit)) (take tree_room tree) ≡ record_lines (X n) tree
uncut X tree n few short =
    let e : min n leaf_limit ≡ n = omega arith in
    ap₂ (λ (k : ℕ) (t : List ℕ). record_lines (X k) t) e (take_all tree_room tree short)
