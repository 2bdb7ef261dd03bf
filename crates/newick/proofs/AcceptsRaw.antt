-- Reading without limits and without the test for repeats: it stops exactly at the first byte after which the text can no longer be
-- continued to one of the grammar. Assumes nothing.
use Prim.Native.Nat.{ℕ, ◌≤◌}
use mathlib.Core.Path.{◌≡◌, refl, ◌∙◌, ap, subst}
use mathlib.Core.Bool.{Bool, true, false, cond}
use mathlib.Core.Logic.{◌⊎◌, inl, inr}
use mathlib.Core.List.{List, [], ◌∷◌, ◌++◌, append_assoc}
use native.Mathlib.Omega.{arith}
use lib.Dec.{eqb}
use lib.ListN.{length, length-append}
use borrow.Author.Tests.{ne_eqb}
use Rattle.trees.specs.declared.Kind.{Kind}
use Rattle.trees.specs.declared.Kind.TheVariants.{Label as LabelByte, Open, Close, Comma, Semicolon, Quote, Blank, Other}
use Rattle.trees.specs.Bytes.{is_label_byte, is_inner_byte, kind_of, open_byte, close_byte, comma_byte, semicolon_byte, quote_byte}
use Rattle.trees.specs.Token.{Token, all_of, loose_label, loose_labels, quoted_token}
use Rattle.trees.specs.Tree.{Tree, leaf, node, leaves}
use Rattle.trees.specs.Text.{written, text_of}
use Rattle.trees.specs.Faults.{Continues}
use Rattle.newick.specs.ReadTree.{Opened, first, second, Phase, node_due, in_label, in_quotes, after_node, ended}
use Rattle.newick.specs.Grammar.{TreeText}
use Rattle.trees.proofs.Bools.{clash}
use Rattle.trees.proofs.ListLaws.{TokenView, bare, quoted, loose_view, loose_bare, loose_quoted, bytes_snoc, loose_head, loose_cons, loose_none}
use Rattle.trees.proofs.ListLaws.{loose_join, loose_split}
use Rattle.trees.proofs.TokenForms.{inner_of, so_far}
use Rattle.trees.proofs.RawRuns.{Raw, on, halt, raw_run, raw_nil, raw_cons, raw_same, raw_bare_lem, raw_quoted, stopped}
use Rattle.trees.proofs.ReadingLaws.{KindView, is_label, kind_view, kind_label, kind_inner, Begun, plain_label, close_plain, comma_plain}
use Rattle.trees.proofs.ReadingLaws.{semicolon_plain}
use Rattle.trees.proofs.WrittenLaws.{written_node}

-- a place in the text: the phase and the open `(`
abbrev pub Spot : Type 0
Spot = Phase × List Opened

-- a byte just after a whole node
unfoldable pub raw_after : Tree → List Opened → Kind → Raw Spot
raw_after t stack LabelByte = halt
raw_after t stack Open = halt
raw_after t [] Close = halt
raw_after t (first ∷ stack) Close = halt
raw_after t (second a ∷ stack) Close = on (after_node (node a t), stack)
raw_after t [] Comma = halt
raw_after t (first ∷ stack) Comma = on (node_due, second t ∷ stack)
raw_after t (second a ∷ stack) Comma = halt
raw_after t [] Semicolon = on (ended t, [])
raw_after t (o ∷ stack) Semicolon = halt
raw_after t stack Quote = halt
raw_after t stack Blank = halt
raw_after t stack Other = halt

-- a quote after an opening quote and the bytes x
unfoldable pub raw_closing : List ℕ → List Opened → Raw Spot
raw_closing x stack = cond (eqb (length x) 0) halt (on (after_node (leaf (quoted_token x)), stack))

unfoldable pub raw_step : Phase → List Opened → ℕ → Kind → Raw Spot
unfolding raw_after raw_closing
raw_step node_due stack b LabelByte = on (in_label (b ∷ []), stack)
raw_step node_due stack b Open = on (node_due, first ∷ stack)
raw_step node_due stack b Close = halt
raw_step node_due stack b Comma = halt
raw_step node_due stack b Semicolon = halt
raw_step node_due stack b Quote = on (in_quotes [], stack)
raw_step node_due stack b Blank = halt
raw_step node_due stack b Other = halt
raw_step (in_label x) stack b LabelByte = on (in_label (x ++ (b ∷ [])), stack)
raw_step (in_label x) stack b Open = halt
raw_step (in_label x) stack b Close = raw_after (leaf x) stack Close
raw_step (in_label x) stack b Comma = raw_after (leaf x) stack Comma
raw_step (in_label x) stack b Semicolon = raw_after (leaf x) stack Semicolon
raw_step (in_label x) stack b Quote = halt
raw_step (in_label x) stack b Blank = halt
raw_step (in_label x) stack b Other = halt
raw_step (in_quotes x) stack b LabelByte = on (in_quotes (x ++ (b ∷ [])), stack)
raw_step (in_quotes x) stack b Open = halt
raw_step (in_quotes x) stack b Close = halt
raw_step (in_quotes x) stack b Comma = halt
raw_step (in_quotes x) stack b Semicolon = halt
raw_step (in_quotes x) stack b Quote = raw_closing x stack
raw_step (in_quotes x) stack b Blank = on (in_quotes (x ++ (b ∷ [])), stack)
raw_step (in_quotes x) stack b Other = halt
raw_step (after_node t) stack b k = raw_after t stack k
raw_step (ended t) stack b k = halt

abbrev pub raw_byte : Spot → ℕ → Raw Spot
raw_byte s b = raw_step s.0 s.1 b (kind_of b)

abbrev pub run : Phase → List Opened → List ℕ → Raw Spot
run p stack text = raw_run raw_byte (p, stack) text

-- the same, from the start of the text
abbrev pub raw_text : List ℕ → Raw Spot
raw_text text = run node_due [] text

-- a bare label's text, from where a node is due, ends with a byte that is no label byte
bare_leaf : (stack : List Opened) (x : Token) (c : ℕ) (rest : List ℕ) → 1 ≤ length x → all_of is_label_byte x ≡ true → is_label_byte c ≡ false
    → run node_due stack (x ++ (c ∷ rest)) ≡ run (after_node (leaf x)) stack (c ∷ rest)
unfolding raw_step
bare_leaf stack x c rest l h n =
    raw_bare_lem raw_byte (λ y. (in_label y, stack)) (λ y b k. ap (raw_step (in_label y) stack b) (kind_label b k)) (node_due, stack)
    (λ b k. ap (raw_step node_due stack b) (kind_label b k)) x (c ∷ rest) l h
    ∙ raw_same raw_byte (in_label x, stack) (after_node (leaf x), stack) c rest (same (kind_of c) (kind_view c))
  where
    same : (k : Kind) → KindView c k → raw_step (in_label x) stack c k ≡ raw_step (after_node (leaf x)) stack c k
    same LabelByte (is_label l) = clash l n
    same Open v = refl
    same Close v = refl
    same Comma v = refl
    same Semicolon v = refl
    same Quote v = refl
    same Blank v = refl
    same Other v = refl

-- a label between quotes is read with its closing quote
quoted_leaf : (stack : List Opened) (x rest : List ℕ) → 1 ≤ length x → all_of is_inner_byte x ≡ true
    → run node_due stack (quoted_token x ++ rest) ≡ run (after_node (leaf (quoted_token x))) stack rest
unfolding raw_step raw_closing kind_of
quoted_leaf stack x rest l h =
    raw_quoted raw_byte (λ y. (in_quotes y, stack)) (λ y b k. grows y b (kind_inner b k)) (node_due, stack)
    (after_node (leaf (quoted_token x)), stack) x rest refl (rw (ne_eqb (length x) 0 (λ (e : length x ≡ 0). omega arith)) refl) h
  where
    grows : (y : List ℕ) (b : ℕ) → (kind_of b ≡ LabelByte) ⊎ (kind_of b ≡ Blank)
        → raw_step (in_quotes y) stack b (kind_of b) ≡ on (in_quotes (y ++ (b ∷ [])), stack)
    grows y b (inl e) = ap (raw_step (in_quotes y) stack b) e
    grows y b (inr e) = ap (raw_step (in_quotes y) stack b) e

raw_leaf : (stack : List Opened) (x : Token) (c : ℕ) (rest : List ℕ) → loose_label x ≡ true → is_label_byte c ≡ false
    → run node_due stack (x ++ (c ∷ rest)) ≡ run (after_node (leaf x)) stack (c ∷ rest)
raw_leaf stack x c rest h n = go x (loose_view x h)
  where
    go : (y : Token) → TokenView y → run node_due stack (y ++ (c ∷ rest)) ≡ run (after_node (leaf y)) stack (c ∷ rest)
    go y (bare y' l k) = bare_leaf stack y c rest l k n
    go y (quoted z l k) = quoted_leaf stack z (c ∷ rest) l k

pub written_leaf : (x : Token) → written (leaf x) ≡ x
unfolding written
written_leaf x = refl

-- a node's text is read as that node
raw_node : (t : Tree) (stack : List Opened) (c : ℕ) (rest : List ℕ) → loose_labels (leaves t) ≡ true → is_label_byte c ≡ false
    → run node_due stack (written t ++ (c ∷ rest)) ≡ run (after_node t) stack (c ∷ rest)
unfolding leaves raw_step kind_of
raw_node (leaf x) stack c rest h n =
    ap (λ (w : List ℕ). run node_due stack (w ++ (c ∷ rest))) (written_leaf x)
    ∙ raw_leaf stack x c rest (loose_head x [] h).0 n
raw_node (node a b) stack c rest h n =
    ap (run node_due stack) (written_node a b (c ∷ rest))
    ∙ raw_cons raw_byte (node_due, stack) (node_due, first ∷ stack) open_byte (written a ++ (comma_byte ∷ (written b ++ (close_byte ∷ (c ∷ rest))))) refl
    ∙ raw_node a (first ∷ stack) comma_byte (written b ++ (close_byte ∷ (c ∷ rest))) (loose_split (leaves a) (leaves b) h).0
    (plain_label comma_byte comma_plain)
    ∙ raw_cons raw_byte (after_node a, first ∷ stack) (node_due, second a ∷ stack) comma_byte (written b ++ (close_byte ∷ (c ∷ rest))) refl
    ∙ raw_node b (second a ∷ stack) close_byte (c ∷ rest) (loose_split (leaves a) (leaves b) h).1 (plain_label close_byte close_plain)
    ∙ raw_cons raw_byte (after_node b, second a ∷ stack) (after_node (node a b), stack) close_byte (c ∷ rest) refl

-- a text of the grammar is read to its end
pub raw_text_lem : (t : Tree) → loose_labels (leaves t) ≡ true → raw_text (text_of t) ≡ on (ended t, [])
unfolding text_of raw_step kind_of
raw_text_lem t h =
    raw_node t [] semicolon_byte [] h (plain_label semicolon_byte semicolon_plain)
    ∙ raw_cons raw_byte (after_node t, []) (ended t, []) semicolon_byte [] refl
    ∙ raw_nil raw_byte (ended t, [])

-- and where the reading stopped, no text of the grammar goes on
pub tree_stopped : (p : List ℕ) → raw_text p ≡ halt → Continues TreeText p → ⊥
tree_stopped = stopped raw_byte TreeText (node_due, []) (λ p w. ((ended w.0, []), ap raw_text w.2 ∙ raw_text_lem w.0 w.1))

-- the bytes and the complete labels of the open nodes
abbrev pub stack_text : List Opened → List ℕ
stack_text [] = []
stack_text (first ∷ stack) = stack_text stack ++ (open_byte ∷ [])
stack_text (second a ∷ stack) = stack_text stack ++ (open_byte ∷ (written a ++ (comma_byte ∷ [])))

abbrev pub stack_labels : List Opened → List Token
stack_labels [] = []
stack_labels (first ∷ stack) = stack_labels stack
stack_labels (second a ∷ stack) = stack_labels stack ++ leaves a

-- one way to close the open nodes after the node t, and the bytes that do it: 97 is the label `a`
closed : Tree → List Opened → Tree
closed t [] = t
closed t (first ∷ stack) = closed (node t (leaf (97 ∷ []))) stack
closed t (second a ∷ stack) = closed (node a t) stack

closing : List Opened → List ℕ
closing [] = semicolon_byte ∷ []
closing (first ∷ stack) = comma_byte ∷ (97 ∷ (close_byte ∷ closing stack))
closing (second a ∷ stack) = close_byte ∷ closing stack

closed_text : (stack : List Opened) (t : Tree) → (stack_text stack ++ written t) ++ closing stack ≡ text_of (closed t stack)
unfolding closed closing text_of written
closed_text [] t = refl
closed_text (first ∷ stack) t = simp append_assoc (simp append_assoc at (closed_text stack (node t (leaf (97 ∷ [])))))
closed_text (second a ∷ stack) t = simp append_assoc (simp append_assoc at (closed_text stack (node a t)))

closed_loose : (stack : List Opened) (t : Tree) → loose_labels (stack_labels stack) ≡ true → loose_labels (leaves t) ≡ true
    → loose_labels (leaves (closed t stack)) ≡ true
unfolding closed leaves loose_labels loose_label all_of is_label_byte
closed_loose [] t h k = k
closed_loose (first ∷ stack) t h k =
    closed_loose stack (node t (leaf (97 ∷ []))) h (loose_join (leaves t) ((97 ∷ []) ∷ []) k refl)
closed_loose (second a ∷ stack) t h k =
    let g = loose_split (stack_labels stack) (leaves a) h in closed_loose stack (node a t) g.0 (loose_join (leaves a) (leaves t) g.1 k)

-- what was read can be continued, after a node, inside a label, and where a node is due
pub after_continues : (stack : List Opened) (t : Tree) → loose_labels (stack_labels stack) ≡ true → loose_labels (leaves t) ≡ true
    → Continues TreeText (stack_text stack ++ written t)
after_continues stack t h k = (closing stack, (closed t stack, closed_loose stack t h k, closed_text stack t))

pub label_continues : (stack : List Opened) (x : Token) → loose_labels (stack_labels stack) ≡ true → loose_label x ≡ true
    → Continues TreeText (stack_text stack ++ x)
unfolding written leaves
label_continues stack x h k = after_continues stack (leaf x) h (loose_cons x [] k loose_none)

-- a text with something after it can be continued
less_continues : (p q : List ℕ) → Continues TreeText (p ++ q) → Continues TreeText p
less_continues p q c = (q ++ c.0, subst TreeText (append_assoc p q c.0) c.1)

pub due_continues : (stack : List Opened) → loose_labels (stack_labels stack) ≡ true → Continues TreeText (stack_text stack)
unfolding loose_label all_of is_label_byte
due_continues stack h = less_continues (stack_text stack) (97 ∷ []) (label_continues stack (97 ∷ []) h refl)

-- after an opening quote one byte more, if there is none, and a quote
pub quotes_continues : (stack : List Opened) (x : List ℕ) → loose_labels (stack_labels stack) ≡ true → all_of is_inner_byte x ≡ true
    → Continues TreeText (stack_text stack ++ (quote_byte ∷ x))
unfolding is_inner_byte is_label_byte
quotes_continues stack x h k =
    less_continues (stack_text stack ++ (quote_byte ∷ x)) (97 ∷ (quote_byte ∷ []))
    (subst (Continues TreeText) longer
    (label_continues stack (quoted_token (x ++ (97 ∷ []))) h
    (loose_quoted (x ++ (97 ∷ [])) (omega (arith, length-append x (97 ∷ []))) (bytes_snoc is_inner_byte x 97 k refl))))
  where
    longer : stack_text stack ++ quoted_token (x ++ (97 ∷ [])) ≡ (stack_text stack ++ (quote_byte ∷ x)) ++ (97 ∷ (quote_byte ∷ []))
    longer = simp append_assoc

-- so with a token of either form that is not complete
pub inside_continues : (q : Bool) (stack : List Opened) (x : List ℕ) → loose_labels (stack_labels stack) ≡ true → Begun q x
    → all_of (inner_of q) x ≡ true → Continues TreeText (stack_text stack ++ so_far q x)
inside_continues true stack x h s k = quotes_continues stack x h k
inside_continues false stack x h s k = label_continues stack x h (loose_bare x s k)
