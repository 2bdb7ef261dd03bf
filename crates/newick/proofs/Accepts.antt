-- A tree text is accepted exactly if it is the written text, with its `;`, of a valid tree, and that tree is read. Assumes nothing.
use Prim.Native.Nat.{ℕ, suc, ◌+◌, ◌-◌, ◌≤◌, ◌<◌}
use mathlib.Core.Path.{◌≡◌, refl, sym, ◌∙◌, ap, subst}
use mathlib.Core.Bool.{Bool, true, false, cond}
use mathlib.Core.Logic.{◌⊎◌, inl, inr}
use mathlib.Core.List.{List, [], ◌∷◌, ◌++◌, append_assoc, append-nil}
use native.Mathlib.Omega.{arith}
use lib.ListN.{length, length-append}
use borrow.Author.Tests.{ne_eqb}
use Rattle.trees.specs.declared.Kind.{Kind}
use Rattle.trees.specs.declared.Kind.TheVariants.{Label as LabelByte, Open, Close, Comma, Semicolon, Quote, Blank, Other}
use Rattle.trees.specs.declared.Reason.TheVariants.{LabelTooLong, TooMany, Repeated}
use Rattle.trees.specs.Bytes.{is_label_byte, is_inner_byte, kind_of, open_byte, close_byte, comma_byte, semicolon_byte, quote_byte}
use Rattle.trees.specs.Label.{Label, label_limit, is_in, distinct}
use Rattle.trees.specs.Token.{Token, spelling, all_of, good_label, good_labels, quoted_token}
use Rattle.trees.specs.Tree.{Tree, leaf, node, leaves, relabel, decoded, leaf_limit, Valid}
use Rattle.trees.specs.Text.{written, text_of}
use Rattle.trees.specs.Reading.{Reading, good, refused, run_of, repeats}
use Rattle.trees.specs.Faults.{occurrences}
use Rattle.newick.specs.ReadTree.{Opened, first, second, Phase, node_due, in_label, in_quotes, after_node, ended, State, Step, next}
use Rattle.newick.specs.ReadTree.{stop, step_after, step_due, step_label, step_inner, step_closing, step_quotes, step, read_from}
use Rattle.newick.specs.ReadTree.{read_tree}
use Rattle.trees.proofs.Bools.{clash, and_left, and_right}
use Rattle.trees.proofs.ListLaws.{TokenView, bare, quoted, loose_view, size_bare, spelling_quoted, good_head, good_parts, good_split}
use Rattle.trees.proofs.ListLaws.{distinct_left, distinct_fresh, good_loose}
use Rattle.trees.proofs.TokenForms.{inner_of, so_far, token_by, quote_not_inner, form_spelling}
use Rattle.trees.proofs.ReadingLaws.{KindView, is_label, kind_view, kind_label, kind_inner, plain_label, close_plain, comma_plain}
use Rattle.trees.proofs.ReadingLaws.{semicolon_plain, run_none, begun_some, ended_label, fresh_repeats}
use Rattle.trees.proofs.WrittenLaws.{text_read, written_node}
use Rattle.newick.proofs.TreeFaultsWalk.{Result, reading, opens_text}
use Rattle.newick.proofs.AcceptsRaw.{written_leaf}
use Rattle.newick.proofs.OpenNodes.{inner, leaves_inner}

-- the reader's state
abbrev at : Phase → List Opened → ℕ → List Label → State
at p stack opens seen = record { phase = p; stack = stack; opens = opens; seen = seen }

-- what a step leads to
follow : Step → ℕ → List ℕ → Reading Tree
follow (next s) n rest = read_from s (n + 1) rest
follow (stop r) n rest = refused r n

read_cons : (p : Phase) (stack : List Opened) (opens : ℕ) (seen : List Label) (n b : ℕ) (rest : List ℕ)
    → read_from (at p stack opens seen) n (b ∷ rest) ≡ follow (step p stack opens seen b rest) n rest
unfolding read_from follow
read_cons p stack opens seen n b rest = go (step p stack opens seen b rest)
  where
    go : (z : Step) → elim z [ next s' ↦ read_from s' (n + 1) rest | stop r ↦ refused r n ] ≡ follow z n rest
    go (next s') = refl
    go (stop r) = refl

-- from a state over a text, the reading gets to another state before the rest of the text
abbrev Gets : State → List ℕ → State → List ℕ → Type 0
Gets s text s' rest = (n : ℕ) → (m : ℕ) × (read_from s n text ≡ read_from s' m rest)

gets_next : (p : Phase) (stack : List Opened) (opens : ℕ) (seen : List Label) (b : ℕ) (rest : List ℕ) (s' : State)
    → step p stack opens seen b rest ≡ next s' → Gets (at p stack opens seen) (b ∷ rest) s' rest
unfolding follow
gets_next p stack opens seen b rest s' e n = (n + 1, read_cons p stack opens seen n b rest ∙ ap (λ (z : Step). follow z n rest) e)

gets_then : (s s' s'' : State) (t t' t'' : List ℕ) → Gets s t s' t' → Gets s' t' s'' t'' → Gets s t s'' t''
gets_then s s' s'' t t' t'' g h n = let a = g n in let b = h a.0 in (b.0, a.1 ∙ b.1)

-- a byte between quotes
gets_inner : (stack : List Opened) (opens : ℕ) (seen : List Label) (y : List ℕ) (b : ℕ) (rest : List ℕ) → is_inner_byte b ≡ true
    → length y < label_limit → Gets (at (in_quotes y) stack opens seen) (b ∷ rest) (at (in_quotes (y ++ (b ∷ []))) stack opens seen) rest
unfolding step step_quotes step_inner
gets_inner stack opens seen y b rest h l =
    gets_next (in_quotes y) stack opens seen b rest (at (in_quotes (y ++ (b ∷ []))) stack opens seen) (kinds (kind_inner b h) ∙ room)
  where
    kinds : (kind_of b ≡ LabelByte) ⊎ (kind_of b ≡ Blank) → step_quotes y stack opens seen b (kind_of b) ≡ step_inner y stack opens seen b
    kinds (inl e) = ap (step_quotes y stack opens seen b) e
    kinds (inr e) = ap (step_quotes y stack opens seen b) e

    room : step_inner y stack opens seen b ≡ next (at (in_quotes (y ++ (b ∷ []))) stack opens seen)
    room = rw (ne_eqb (length y) label_limit (λ (e : length y ≡ label_limit). omega arith))

-- one byte of a bare label
gets_letter : (stack : List Opened) (opens : ℕ) (seen : List Label) (y : Token) (b : ℕ) (rest : List ℕ) → is_label_byte b ≡ true
    → length y < label_limit → Gets (at (in_label y) stack opens seen) (b ∷ rest) (at (in_label (y ++ (b ∷ []))) stack opens seen) rest
unfolding step
gets_letter stack opens seen y b rest h l =
    gets_next (in_label y) stack opens seen b rest (at (in_label (y ++ (b ∷ []))) stack opens seen)
    (ap (λ (k : Kind). step_label y stack opens seen b k) (kind_label b h)
    ∙ ap (λ (t : Bool). cond t (stop LabelTooLong) (next (at (in_label (y ++ (b ∷ []))) stack opens seen)))
    (ne_eqb (length y) label_limit (λ (e : length y ≡ label_limit). omega arith)))

-- where the reader is inside a label of either form
abbrev inside : (quoted : Bool) → List ℕ → Phase
inside true y = in_quotes y
inside false y = in_label y

gets_one : (q : Bool) (stack : List Opened) (opens : ℕ) (seen : List Label) (y : List ℕ) (b : ℕ) (rest : List ℕ) → inner_of q b ≡ true
    → length y < label_limit → Gets (at (inside q y) stack opens seen) (b ∷ rest) (at (inside q (y ++ (b ∷ []))) stack opens seen) rest
gets_one true = gets_inner
gets_one false = gets_letter

-- all its bytes
gets_label : (q : Bool) (stack : List Opened) (opens : ℕ) (seen : List Label) (y x rest : List ℕ) → all_of (inner_of q) x ≡ true
    → length y + length x ≤ label_limit → Gets (at (inside q y) stack opens seen) (x ++ rest) (at (inside q (y ++ x)) stack opens seen) rest
unfolding all_of
gets_label q stack opens seen y [] rest h l = λ n. (n, ap (λ (z : List ℕ). read_from (at (inside q z) stack opens seen) n rest) (sym (append-nil y)))
gets_label q stack opens seen y (b ∷ x) rest h l =
    gets_then (at (inside q y) stack opens seen) (at (inside q (y ++ (b ∷ []))) stack opens seen) (at (inside q (y ++ (b ∷ x))) stack opens seen)
    (b ∷ (x ++ rest)) (x ++ rest) rest
    (gets_one q stack opens seen y b (x ++ rest) (and_left (inner_of q b) (all_of (inner_of q) x) h) (omega arith))
    (subst (λ (z : List ℕ). Gets (at (inside q (y ++ (b ∷ []))) stack opens seen) (x ++ rest) (at (inside q z) stack opens seen) rest)
    (append_assoc y (b ∷ []) x)
    (gets_label q stack opens seen (y ++ (b ∷ [])) x rest (and_right (inner_of q b) (all_of (inner_of q) x) h)
    (omega (arith, length-append y (b ∷ [])))))

-- a byte that is no label byte ends a bare label
gets_label_end : (stack : List Opened) (opens : ℕ) (seen : List Label) (x : Token) (c : ℕ) (rest : List ℕ) → is_label_byte c ≡ false
    → Gets (at (in_label x) stack opens seen) (c ∷ rest) (at (after_node (leaf x)) stack opens (seen ++ (spelling x ∷ []))) (c ∷ rest)
unfolding step
gets_label_end stack opens seen x c rest h n = (
  n,
  read_cons (in_label x) stack opens seen n c rest ∙ ap (λ (z : Step). follow z n rest) (same (kind_of c) (kind_view c))
      ∙ sym (read_cons (after_node (leaf x)) stack opens (seen ++ (spelling x ∷ [])) n c rest),
)
  where
    same : (k : Kind) → KindView c k → step_label x stack opens seen c k ≡ step_after (leaf x) stack opens (seen ++ (spelling x ∷ [])) k
    same LabelByte (is_label l) = clash l h
    same Open v = refl
    same Close v = refl
    same Comma v = refl
    same Semicolon v = refl
    same Quote v = refl
    same Blank v = refl
    same Other v = refl

-- a label that was not seen before is no repeat
fresh : (q : Bool) (seen : List Label) (x rest : List ℕ) → 1 ≤ length x → all_of (inner_of q) x ≡ true → run_of (inner_of q) rest ≡ []
    → distinct (seen ++ (spelling (token_by q x) ∷ [])) ≡ true → repeats seen (so_far q x ++ rest) ≡ false
fresh q seen x rest l h e d =
    fresh_repeats seen (so_far q x ++ rest)
    (ap (λ (w : Label). is_in w seen) (ended_label q x rest (begun_some q x l) h e ∙ sym (form_spelling q x h))
    ∙ distinct_fresh seen (spelling (token_by q x)) [] d)

-- a good bare label that was not seen before
gets_bare : (stack : List Opened) (opens : ℕ) (seen : List Label) (x : Token) (c : ℕ) (rest : List ℕ) → 1 ≤ length x → length x ≤ label_limit
    → all_of is_label_byte x ≡ true → distinct (seen ++ (spelling x ∷ [])) ≡ true → is_label_byte c ≡ false
    → Gets (at node_due stack opens seen) (x ++ (c ∷ rest)) (at (after_node (leaf x)) stack opens (seen ++ (spelling x ∷ []))) (c ∷ rest)
unfolding all_of step
gets_bare stack opens seen [] c rest l m h d n = absurd (omega arith)
gets_bare stack opens seen (b ∷ x) c rest l m h d n =
    gets_then (at node_due stack opens seen) (at (in_label (b ∷ [])) stack opens seen)
    (at (after_node (leaf (b ∷ x))) stack opens (seen ++ (spelling (b ∷ x) ∷ []))) ((b ∷ x) ++ (c ∷ rest)) (x ++ (c ∷ rest)) (c ∷ rest)
    (gets_next node_due stack opens seen b (x ++ (c ∷ rest)) (at (in_label (b ∷ [])) stack opens seen)
    (ap (step_due stack opens seen (repeats seen (b ∷ (x ++ (c ∷ rest)))) b) (kind_label b (and_left (is_label_byte b) (all_of is_label_byte x) h))
    ∙ ap (λ (t : Bool). cond t (stop Repeated) (next (at (in_label (b ∷ [])) stack opens seen)))
    (fresh false seen (b ∷ x) (c ∷ rest) l h (run_none is_label_byte c rest n) d)))
    (gets_then (at (in_label (b ∷ [])) stack opens seen) (at (in_label (b ∷ x)) stack opens seen)
    (at (after_node (leaf (b ∷ x))) stack opens (seen ++ (spelling (b ∷ x) ∷ []))) (x ++ (c ∷ rest)) (c ∷ rest) (c ∷ rest)
    (gets_label false stack opens seen (b ∷ []) x (c ∷ rest) (and_right (is_label_byte b) (all_of is_label_byte x) h) (omega arith))
    (gets_label_end stack opens seen (b ∷ x) c rest n))

-- and one between quotes
gets_quoted : (stack : List Opened) (opens : ℕ) (seen : List Label) (x rest : List ℕ) → 1 ≤ length x → length x ≤ label_limit
    → all_of is_inner_byte x ≡ true → distinct (seen ++ (spelling (quoted_token x) ∷ [])) ≡ true
    → Gets (at node_due stack opens seen) (quote_byte ∷ (x ++ (quote_byte ∷ rest)))
    (at (after_node (leaf (quoted_token x))) stack opens (seen ++ (spelling (quoted_token x) ∷ []))) rest
unfolding step step_quotes step_closing kind_of
gets_quoted stack opens seen x rest l m h d =
    gets_then (at node_due stack opens seen) (at (in_quotes []) stack opens seen) last
    (quote_byte ∷ (x ++ (quote_byte ∷ rest))) (x ++ (quote_byte ∷ rest)) rest
    (gets_next node_due stack opens seen quote_byte (x ++ (quote_byte ∷ rest)) (at (in_quotes []) stack opens seen)
    (ap (λ (t : Bool). cond t (stop Repeated) (next (at (in_quotes []) stack opens seen)))
    (fresh true seen x (quote_byte ∷ rest) l h (run_none is_inner_byte quote_byte rest quote_not_inner) d)))
    (gets_then (at (in_quotes []) stack opens seen) (at (in_quotes x) stack opens seen) last (x ++ (quote_byte ∷ rest)) (quote_byte ∷ rest) rest
    (gets_label true stack opens seen [] x (quote_byte ∷ rest) h (omega arith))
    (gets_next (in_quotes x) stack opens seen quote_byte rest last (rw (ne_eqb (length x) 0 (λ (e : length x ≡ 0). omega arith)) refl)))
  where
    last : State
    last = at (after_node (leaf (quoted_token x))) stack opens (seen ++ (spelling (quoted_token x) ∷ []))

-- a good label of either form
gets_leaf : (stack : List Opened) (opens : ℕ) (seen : List Label) (x : Token) (c : ℕ) (rest : List ℕ) → good_label x ≡ true
    → distinct (seen ++ (spelling x ∷ [])) ≡ true → is_label_byte c ≡ false
    → Gets (at node_due stack opens seen) (x ++ (c ∷ rest)) (at (after_node (leaf x)) stack opens (seen ++ (spelling x ∷ []))) (c ∷ rest)
gets_leaf stack opens seen x c rest g d n = let p = good_parts x g in go x (loose_view x p.0) p.1 d
  where
    last : Token → State
    last y = at (after_node (leaf y)) stack opens (seen ++ (spelling y ∷ []))

    go : (y : Token) → TokenView y → length (spelling y) ≤ label_limit → distinct (seen ++ (spelling y ∷ [])) ≡ true
        → Gets (at node_due stack opens seen) (y ++ (c ∷ rest)) (last y) (c ∷ rest)
    go y (bare y' l k) m e = gets_bare stack opens seen y c rest l (omega (arith, size_bare y k)) k e n
    go y (quoted z l k) m e =
        subst (λ (w : List ℕ). Gets (at node_due stack opens seen) (quote_byte ∷ w) (last (quoted_token z)) (c ∷ rest))
        (sym (append_assoc z (quote_byte ∷ []) (c ∷ rest)))
        (gets_quoted stack opens seen z (c ∷ rest) l (omega (arith, ap length (spelling_quoted z))) k e)

-- a node's text is read as that node
gets_node : (t : Tree) (stack : List Opened) (opens : ℕ) (seen : List Label) (c : ℕ) (rest : List ℕ) → good_labels (leaves t) ≡ true
    → distinct (seen ++ leaves (decoded t)) ≡ true → opens + inner t < leaf_limit → is_label_byte c ≡ false
    → Gets (at node_due stack opens seen) (written t ++ (c ∷ rest))
    (at (after_node t) stack (opens + inner t) (seen ++ leaves (decoded t))) (c ∷ rest)
unfolding leaves decoded relabel inner step kind_of
gets_node (leaf x) stack opens seen c rest g d l n =
    subst (λ (w : ℕ). Gets (at node_due stack opens seen) (written (leaf x) ++ (c ∷ rest)) (last w) (c ∷ rest)) zero_more
    (subst (λ (w : List ℕ). Gets (at node_due stack opens seen) (w ++ (c ∷ rest)) (last opens) (c ∷ rest))
    (sym (written_leaf x)) (gets_leaf stack opens seen x c rest (good_head x [] g).0 d n))
  where
    last : ℕ → State
    last w = at (after_node (leaf x)) stack w (seen ++ (spelling x ∷ []))

    zero_more : opens ≡ opens + 0
    zero_more = omega arith
gets_node (node a b) stack opens seen c rest g d l n =
    subst (λ (w : List ℕ). Gets (at node_due stack opens seen) w s₅ (c ∷ rest)) (sym (written_node a b (c ∷ rest)))
    (gets_then (at node_due stack opens seen) s₁ s₅ (open_byte ∷ t₁) t₁ (c ∷ rest)
    (gets_next node_due stack opens seen open_byte t₁ s₁
    (ap (λ (t : Bool). cond t (stop TooMany) (next s₁)) (ne_eqb opens (leaf_limit - 1) (λ (e : opens ≡ leaf_limit - 1). omega arith))))
    (gets_then s₁ s₂ s₅ t₁ (comma_byte ∷ t₂) (c ∷ rest)
    (gets_node a (first ∷ stack) (opens + 1) seen comma_byte t₂ (good_split (leaves a) (leaves b) g).0
    (distinct_left (seen ++ leaves (decoded a)) (leaves (decoded b)) d') (omega arith) (plain_label comma_byte comma_plain))
    (gets_then s₂ s₃ s₅ (comma_byte ∷ t₂) t₂ (c ∷ rest)
    (gets_next (after_node a) (first ∷ stack) (opens + 1 + inner a) (seen ++ leaves (decoded a)) comma_byte t₂ s₃ refl)
    (gets_then s₃ s₄ s₅ t₂ (close_byte ∷ (c ∷ rest)) (c ∷ rest)
    (gets_node b (second a ∷ stack) (opens + 1 + inner a) (seen ++ leaves (decoded a)) close_byte (c ∷ rest)
    (good_split (leaves a) (leaves b) g).1 d' (omega arith) (plain_label close_byte close_plain))
    (gets_next (after_node b) (second a ∷ stack) (opens + 1 + inner a + inner b) ((seen ++ leaves (decoded a)) ++ leaves (decoded b))
    close_byte (c ∷ rest) s₅ last)))))
  where
    t₂ : List ℕ
    t₂ = written b ++ (close_byte ∷ (c ∷ rest))

    t₁ : List ℕ
    t₁ = written a ++ (comma_byte ∷ t₂)

    s₁ : State
    s₁ = at node_due (first ∷ stack) (opens + 1) seen

    s₂ : State
    s₂ = at (after_node a) (first ∷ stack) (opens + 1 + inner a) (seen ++ leaves (decoded a))

    s₃ : State
    s₃ = at node_due (second a ∷ stack) (opens + 1 + inner a) (seen ++ leaves (decoded a))

    s₄ : State
    s₄ = at (after_node b) (second a ∷ stack) (opens + 1 + inner a + inner b) ((seen ++ leaves (decoded a)) ++ leaves (decoded b))

    s₅ : State
    s₅ = at (after_node (node a b)) stack (opens + (inner a + inner b + 1)) (seen ++ (leaves (decoded a) ++ leaves (decoded b)))

    d' : distinct ((seen ++ leaves (decoded a)) ++ leaves (decoded b)) ≡ true
    d' = subst (λ (w : List Label). distinct w ≡ true) (sym (append_assoc seen (leaves (decoded a)) (leaves (decoded b)))) d

    count : opens + 1 + inner a + inner b ≡ opens + (inner a + inner b + 1)
    count = omega arith

    last : next (at (after_node (node a b)) stack (opens + 1 + inner a + inner b) ((seen ++ leaves (decoded a)) ++ leaves (decoded b))) ≡ next s₅
    last =
        ap (λ (w : ℕ). next (at (after_node (node a b)) stack w ((seen ++ leaves (decoded a)) ++ leaves (decoded b)))) count
        ∙ ap (λ (w : List Label). next (at (after_node (node a b)) stack (opens + (inner a + inner b + 1)) w))
        (append_assoc seen (leaves (decoded a)) (leaves (decoded b)))

-- the text of a valid tree is read as that tree
pub reads : (t : Tree) → Valid t → read_tree (text_of t) ≡ good t
unfolding read_tree text_of step kind_of
reads t v =
    let few : 0 + inner t < leaf_limit = omega (arith, v.few, leaves_inner t) in
    let g = gets_node t [] 0 [] semicolon_byte [] v.labels v.different few (plain_label semicolon_byte semicolon_plain) 0 in
    let last = at (ended t) [] (0 + inner t) (leaves (decoded t)) in
    let h = gets_next (after_node t) [] (0 + inner t) (leaves (decoded t)) semicolon_byte [] last refl g.0 in g.1 ∙ h.1

-- a text that is accepted is the text of the tree read, and that tree is valid
pub accepts : (text : List ℕ) (t : Tree) → read_tree text ≡ good t → (text ≡ text_of t) × Valid t
accepts text t e = let r = subst (Result text) e (reading text) in (r.0, r.1)

-- trees with the same text are the same, if they are valid
pub text_injective : (s t : Tree) → Valid s → Valid t → text_of s ≡ text_of t → s ≡ t
text_injective s t v w e = text_read s t (good_loose (leaves s) v.labels) (good_loose (leaves t) w.labels) e

-- an accepted text has one `(` less than the tree has leaves
pub accepted_opens : (text : List ℕ) (t : Tree) → read_tree text ≡ good t → length (leaves t) ≡ suc (occurrences open_byte text)
accepted_opens text t e =
    let a = accepts text t e in
    opens_text t (good_loose (leaves t) a.1.labels) ∙ ap (λ (w : List ℕ). suc (occurrences open_byte w)) (sym a.0)
