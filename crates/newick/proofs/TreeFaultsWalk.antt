-- What holds at each step of reading a tree text: the bytes read are those of the state, its labels are the labels seen, and no fault
-- stands before the place. So the result is a valid tree's text without a fault, or the first fault. Assumes nothing.
use Prim.Native.Nat.{ℕ, suc, ◌+◌, ◌-◌, ◌≤◌, ◌<◌}
use mathlib.Core.Path.{◌≡◌, refl, sym, ◌∙◌, ap, subst}
use mathlib.Core.Bool.{Bool, true, false, cond, ◌||◌}
use mathlib.Core.Logic.{◌⊎◌, inl, inr}
use mathlib.Core.List.{List, [], ◌∷◌, ◌++◌, map, append_assoc, append-nil, map-append}
use native.Mathlib.Omega.{arith}
use native.Mathlib.Numerals.{add-one}
use lib.Dec.{eqb}
use lib.ListN.{length, take, length-append, get_or-eq_default}
use borrow.Author.Tests.{eqb-true, eqb-false}
use Rattle.trees.specs.declared.Kind.{Kind}
use Rattle.trees.specs.declared.Kind.TheVariants.{Label as LabelByte, Open, Close, Comma, Semicolon, Quote, Blank, Other}
use Rattle.trees.specs.declared.Reason.{Reason}
use Rattle.trees.specs.declared.Reason.TheVariants.{BadByte, LabelTooLong, TooMany, Repeated}
use Rattle.trees.specs.Bytes.{is_label_byte, is_inner_byte, kind_of, open_byte, close_byte, comma_byte, semicolon_byte, quote_byte}
use Rattle.trees.specs.Label.{Label, label_limit, distinct}
use Rattle.trees.specs.Token.{Token, spelling, all_of, loose_labels, quoted_token}
use Rattle.trees.specs.Tree.{Tree, leaf, node, leaves, decoded, leaf_limit, Valid}
use Rattle.trees.specs.Text.{written, text_of}
use Rattle.trees.specs.Reading.{Reading, good, refused, repeats}
use Rattle.trees.specs.Faults.{Continues, Edge, Fault, occurrences}
use Rattle.newick.specs.ReadTree.{Opened, first, second, Phase, node_due, in_label, in_quotes, after_node, ended, State, Step, next}
use Rattle.newick.specs.ReadTree.{stop, step_after, step_due, step_label, step_inner, step_closing, step_quotes, step, end_of}
use Rattle.newick.specs.ReadTree.{read_from, read_tree, start_state}
use Rattle.newick.specs.Grammar.{TreeText, OpenCrowd, TreeFault}
use Rattle.trees.proofs.Bools.{clash}
use Rattle.trees.proofs.ListLaws.{bytes_one, bytes_snoc, label_inner, good_parts, good_loose, loose_split, loose_head}
use Rattle.trees.proofs.RelabelLaws.{leaves_relabel}
use Rattle.trees.proofs.TokenForms.{inner_of, so_far, inner_any, blank_inner}
use Rattle.trees.proofs.ReadingLaws.{KindView, is_label, is_open, is_close, is_comma, is_semicolon, is_quote, is_blank, kind_view, Plain}
use Rattle.trees.proofs.ReadingLaws.{plain_label, open_plain, begun_some, occurrences_append, occurs, occurs_not, occurs_none, occurs_token}
use Rattle.trees.proofs.FaultLaws.{lt_or_le, Known, Inside, known_start, Read, read_start, read_more, byte_here, before_here}
use Rattle.trees.proofs.FaultLaws.{allowed_here, bad_here, crowd_here, plain_not_long_here, plain_pass, edge_after, plain_known}
use Rattle.trees.proofs.FaultLaws.{bare_end_here, long_here, letter_pass, letter_inside, quote_pass, quote_end_here, repeat_here, begin_pass}
use Rattle.trees.proofs.FaultLaws.{bare_inside, quoted_inside, label_begins, quote_begins, whole_text, ends_here, no_fault_left}
use Rattle.trees.proofs.RawRuns.{on, halt, on_same, raw_nil, raw_snoc}
use Rattle.newick.proofs.AcceptsRaw.{Spot, raw_after, raw_closing, raw_step, raw_byte, raw_text, raw_text_lem, tree_stopped, stack_text}
use Rattle.newick.proofs.AcceptsRaw.{stack_labels, after_continues, label_continues, due_continues, inside_continues}

-- the bytes that lead to a state, and its complete labels
abbrev text_at : Phase → List Opened → List ℕ
text_at node_due stack = stack_text stack
text_at (in_label x) stack = stack_text stack ++ x
text_at (in_quotes x) stack = stack_text stack ++ (quote_byte ∷ x)
text_at (after_node t) stack = stack_text stack ++ written t
text_at (ended t) stack = text_of t

abbrev labels_at : Phase → List Opened → List Token
labels_at node_due stack = stack_labels stack
labels_at (in_label x) stack = stack_labels stack
labels_at (in_quotes x) stack = stack_labels stack
labels_at (after_node t) stack = stack_labels stack ++ leaves t
labels_at (ended t) stack = leaves t

-- the labels of these tokens are those that begin before place i; a token of form q is being read
abbrev KnownOf : List ℕ → List Token → ℕ → Type 0
KnownOf text labels i = Known TreeText text (map spelling labels) i

abbrev InsideOf : List ℕ → List Token → Bool → List ℕ → ℕ → Type 0
InsideOf text labels q x i = Inside TreeText text (map spelling labels) q x i

-- where labels began, by phase
abbrev Marks : List ℕ → ℕ → Phase → List Opened → Type 0
Marks text i node_due stack = KnownOf text (stack_labels stack) i × Edge text i
Marks text i (in_label x) stack = InsideOf text (stack_labels stack) false x i
Marks text i (in_quotes x) stack = InsideOf text (stack_labels stack) true x i
Marks text i (after_node t) stack = KnownOf text (stack_labels stack ++ leaves t) i
Marks text i (ended t) stack = Unit {0}

-- what holds when p was read and rest is left, at place i: p are these bytes, with these labels complete and these marks
record Holds (text p rest : List ℕ) (i : ℕ) (bytes : List ℕ) (labels : List Token) (SlotMarks : Type 0) (opens : ℕ) (seen : List Label) : Type 0 where
  base : Read TreeText OpenCrowd text p rest i labels
  told : p ≡ bytes
  known : seen ≡ map spelling labels
  count : opens ≡ occurrences open_byte p
  few : opens < leaf_limit
  marks : SlotMarks

-- of a state
abbrev HoldsAt : (text p rest : List ℕ) → ℕ → Phase → List Opened → ℕ → List Label → Type 0
HoldsAt text p rest i phase stack opens seen =
    Holds text p rest i (text_at phase stack) (labels_at phase stack) (Marks text i phase stack) opens seen

-- what a step must give: the next state holds, or the first fault stands here
abbrev Good : List ℕ → List ℕ → List ℕ → ℕ → Step → Type 0
Good text p' rest i (next s) =
    HoldsAt text p' rest (suc i) s.phase s.stack s.opens s.seen × (raw_text p' ≡ on (s.phase, s.stack))
Good text p' rest i (stop r) = TreeFault text r i

-- the bytes of the state after `)` and after `,`
close_bytes : (stack : List Opened) (a t : Tree)
    → (stack_text (second a ∷ stack) ++ written t) ++ (close_byte ∷ []) ≡ stack_text stack ++ written (node a t)
unfolding written
close_bytes stack a t = simp append_assoc

comma_bytes : (stack : List Opened) (t : Tree) → (stack_text (first ∷ stack) ++ written t) ++ (comma_byte ∷ []) ≡ stack_text (second t ∷ stack)
comma_bytes stack t = simp append_assoc

more_bytes : (p q : List ℕ) (b c : ℕ) → p ≡ q → b ≡ c → p ++ (b ∷ []) ≡ q ++ (c ∷ [])
more_bytes p q b c e d = cc

so_far_more : (q : Bool) (x : List ℕ) (b : ℕ) → so_far q x ++ (b ∷ []) ≡ so_far q (x ++ (b ∷ []))
so_far_more true x b = refl
so_far_more false x b = refl

text_continues : (t : Tree) → loose_labels (leaves t) ≡ true → Continues TreeText (text_of t)
text_continues t h = ([], (t, h, append-nil (text_of t)))

module _ {text p rest : List ℕ} {i : ℕ} {bytes : List ℕ} {labels : List Token} {SlotMarks : Type 0} {opens : ℕ} {seen : List Label}
    (h : Holds text p rest i bytes labels SlotMarks opens seen) where
  loose : loose_labels labels ≡ true
  loose = good_loose labels h.base.fine

  -- what was read can be continued
  alive : Continues TreeText bytes → Continues TreeText p
  alive c = subst (Continues TreeText) (sym h.told) c

-- a bare label has a byte
bare_some : {text : List ℕ} {seen : List Label} {x : List ℕ} {i : ℕ} → Inside TreeText text seen false x i → 1 ≤ length x
bare_some m = omega (arith, m.reach, m.past)

module _ {text p rest : List ℕ} {i : ℕ} (stack : List Opened) {opens : ℕ} {seen : List Label} where
  due_alive : HoldsAt text p rest i node_due stack opens seen → Continues TreeText p
  due_alive h = alive h (due_continues stack (loose h))

  label_alive : (x : List ℕ) → HoldsAt text p rest i (in_label x) stack opens seen → Continues TreeText p
  label_alive x h = alive h (inside_continues false stack x (loose h) (bare_some h.marks) h.marks.letters)

  quotes_alive : (x : List ℕ) → HoldsAt text p rest i (in_quotes x) stack opens seen → Continues TreeText p
  quotes_alive x h = alive h (inside_continues true stack x (loose h) tt h.marks.letters)

  after_alive : (t : Tree) → HoldsAt text p rest i (after_node t) stack opens seen → Continues TreeText p
  after_alive t h =
      let g = loose_split (stack_labels stack) (leaves t) (loose h) in alive h (after_continues stack t g.0 g.1)

-- one step, at the byte b
module _ {text p : List ℕ} {b : ℕ} {rest : List ℕ} {i : ℕ} {labels : List Token} (r : Read TreeText OpenCrowd text p (b ∷ rest) i labels) where
  bad : Continues TreeText p → raw_text (p ++ (b ∷ [])) ≡ halt → TreeFault text BadByte i
  bad c e = bad_here r c (tree_stopped (p ++ (b ∷ [])) e)

  -- the byte is not `(`
  no_crowd : (b ≡ open_byte → ⊥) → OpenCrowd text i → ⊥
  no_crowd n c = n (sym (byte_here r) ∙ c.opening)

count_same : (p : List ℕ) (b opens : ℕ) → (b ≡ open_byte → ⊥) → opens ≡ occurrences open_byte p → opens ≡ occurrences open_byte (p ++ (b ∷ []))
count_same p b opens n e =
    omega (arith, occurrences_append open_byte p (b ∷ []), occurs_not open_byte b [] (λ (d : open_byte ≡ b). n (sym d)), occurs_none open_byte)

inner_not_open : (b : ℕ) → is_inner_byte b ≡ true → b ≡ open_byte → ⊥
inner_not_open b n o = clash (subst (λ (w : ℕ). is_inner_byte w ≡ true) o n) open_plain.inner

begins_not_open : (b : ℕ) → (is_label_byte b || eqb b quote_byte) ≡ true → b ≡ open_byte → ⊥
begins_not_open b n o = clash (subst (λ (w : ℕ). (is_label_byte w || eqb w quote_byte) ≡ true) o n) open_plain.begins

module _ (text p : List ℕ) (b : ℕ) (rest : List ℕ) (i : ℕ) where
  -- just after the node t
  after_good : (t : Tree) (stack : List Opened) (opens : ℕ) (seen : List Label) (k : Kind) → KindView b k
      → HoldsAt text p (b ∷ rest) i (after_node t) stack opens seen → raw_text (p ++ (b ∷ [])) ≡ raw_after t stack k
      → Good text (p ++ (b ∷ [])) rest i (step_after t stack opens seen k)
  unfolding step_after raw_after leaves text_of
  after_good t stack opens seen LabelByte v h e = bad h.base (after_alive stack t h) e
  after_good t stack opens seen Open v h e = bad h.base (after_alive stack t h) e
  after_good t [] opens seen Close v h e = bad h.base (after_alive [] t h) e
  after_good t (first ∷ stack) opens seen Close v h e = bad h.base (after_alive (first ∷ stack) t h) e
  after_good t (second a ∷ stack) opens seen Close (is_close c n) h e = (
    subst
        (λ (w : List Token).
        Holds text (p ++ (b ∷ [])) rest (suc i) (stack_text stack ++ written (node a t)) w (KnownOf text w (suc i)) opens seen) regrouped
        (record {
          base = plain_pass h.base n alive⁺ (no_crowd h.base other);
          told = bytes⁺;
          known = h.known;
          count = count_same p b opens other h.count;
          few = h.few;
          marks = plain_known h.base n h.marks;
        }),
    e,
  )
    where
      other : b ≡ open_byte → ⊥
      other d = omega arith

      regrouped : (stack_labels stack ++ leaves a) ++ leaves t ≡ stack_labels stack ++ leaves (node a t)
      regrouped = append_assoc (stack_labels stack) (leaves a) (leaves t)

      bytes⁺ : p ++ (b ∷ []) ≡ stack_text stack ++ written (node a t)
      bytes⁺ = more_bytes p (stack_text (second a ∷ stack) ++ written t) b close_byte h.told c ∙ close_bytes stack a t

      alive⁺ : Continues TreeText (p ++ (b ∷ []))
      alive⁺ =
          let g = loose_split (stack_labels stack) (leaves (node a t)) (subst (λ (w : List Token). loose_labels w ≡ true) regrouped (loose h)) in
          subst (Continues TreeText) (sym bytes⁺) (after_continues stack (node a t) g.0 g.1)
  after_good t [] opens seen Comma v h e = bad h.base (after_alive [] t h) e
  after_good t (first ∷ stack) opens seen Comma (is_comma c n) h e = (
    record {
      base = plain_pass h.base n alive⁺ (no_crowd h.base other);
      told = bytes⁺;
      known = h.known;
      count = count_same p b opens other h.count;
      few = h.few;
      marks = (plain_known h.base n h.marks, edge_after h.base (inr c));
    },
    e,
  )
    where
      other : b ≡ open_byte → ⊥
      other d = omega arith

      bytes⁺ : p ++ (b ∷ []) ≡ stack_text (second t ∷ stack)
      bytes⁺ = more_bytes p (stack_text (first ∷ stack) ++ written t) b comma_byte h.told c ∙ comma_bytes stack t

      alive⁺ : Continues TreeText (p ++ (b ∷ []))
      alive⁺ = subst (Continues TreeText) (sym bytes⁺) (due_continues (second t ∷ stack) (loose h))
  after_good t (second a ∷ stack) opens seen Comma v h e = bad h.base (after_alive (second a ∷ stack) t h) e
  after_good t [] opens seen Semicolon (is_semicolon c n) h e = (
    record {
      base = plain_pass h.base n (subst (Continues TreeText) (sym bytes⁺) (text_continues t (loose h))) (no_crowd h.base other);
      told = bytes⁺;
      known = h.known;
      count = count_same p b opens other h.count;
      few = h.few;
      marks = tt;
    },
    e,
  )
    where
      other : b ≡ open_byte → ⊥
      other d = omega arith

      bytes⁺ : p ++ (b ∷ []) ≡ text_of t
      bytes⁺ = more_bytes p (written t) b semicolon_byte h.told c
  after_good t (o ∷ stack) opens seen Semicolon v h e = bad h.base (after_alive (o ∷ stack) t h) e
  after_good t stack opens seen Quote v h e = bad h.base (after_alive stack t h) e
  after_good t stack opens seen Blank v h e = bad h.base (after_alive stack t h) e
  after_good t stack opens seen Other v h e = bad h.base (after_alive stack t h) e

  -- the bare label x ends with the byte before this one
  settled : (x : Token) (stack : List Opened) (opens : ℕ) (seen : List Label) → is_label_byte b ≡ false
      → HoldsAt text p (b ∷ rest) i (in_label x) stack opens seen
      → HoldsAt text p (b ∷ rest) i (after_node (leaf x)) stack opens (seen ++ (spelling x ∷ []))
  unfolding written leaves
  settled x stack opens seen n h =
      let d = bare_end_here h.base n h.marks in
      record {
        base = read_more h.base d;
        told = h.told;
        known = ap (λ (w : List Label). w ++ (spelling x ∷ [])) h.known ∙ sym (map-append spelling (stack_labels stack) (x ∷ []));
        count = h.count;
        few = h.few;
        marks = d.marks;
      }

  -- one more byte of a token of form q, of which x was read
  module _ (q : Bool) (x : List ℕ) (stack : List Opened) (opens : ℕ) (seen : List Label) (n : inner_of q b ≡ true)
      (h : Holds text p (b ∷ rest) i (stack_text stack ++ so_far q x) (stack_labels stack) (InsideOf text (stack_labels stack) q x i) opens seen) where
    grown_bytes : p ++ (b ∷ []) ≡ stack_text stack ++ so_far q (x ++ (b ∷ []))
    grown_bytes =
        ap (λ (w : List ℕ). w ++ (b ∷ [])) h.told
        ∙ append_assoc (stack_text stack) (so_far q x) (b ∷ [])
        ∙ ap (λ (w : List ℕ). stack_text stack ++ w) (so_far_more q x b)

    grown_alive : Continues TreeText (p ++ (b ∷ []))
    grown_alive =
        subst (Continues TreeText) (sym grown_bytes)
        (inside_continues q stack (x ++ (b ∷ [])) (loose h) (begun_some q (x ++ (b ∷ [])) (omega (arith, length-append x (b ∷ []))))
        (bytes_snoc (inner_of q) x b h.marks.letters n))

    letter_long : length x ≡ label_limit → TreeFault text LabelTooLong i
    letter_long e = long_here h.base h.marks n grown_alive e

    letter_more : (length x ≡ label_limit → ⊥)
        → Holds text (p ++ (b ∷ [])) rest (suc i) (stack_text stack ++ so_far q (x ++ (b ∷ []))) (stack_labels stack)
        (InsideOf text (stack_labels stack) q (x ++ (b ∷ [])) (suc i)) opens seen
    letter_more e =
        let other : b ≡ open_byte → ⊥ = inner_not_open b (inner_any q b n) in
        record {
          base = letter_pass h.base h.marks n grown_alive e (no_crowd h.base other);
          told = grown_bytes;
          known = h.known;
          count = count_same p b opens other h.count;
          few = h.few;
          marks = letter_inside h.base h.marks n grown_alive e;
        }

  -- of the bare label x
  letter_good : (x : Token) (stack : List Opened) (opens : ℕ) (seen : List Label) → is_label_byte b ≡ true
      → HoldsAt text p (b ∷ rest) i (in_label x) stack opens seen → raw_text (p ++ (b ∷ [])) ≡ on (in_label (x ++ (b ∷ [])), stack)
      → (c : Bool) → eqb (length x) label_limit ≡ c
      → Good text (p ++ (b ∷ [])) rest i
      (cond c (stop LabelTooLong) (next (record { phase = in_label (x ++ (b ∷ [])); stack = stack; opens = opens; seen = seen })))
  letter_good x stack opens seen n h e true d = letter_long false x stack opens seen n h (eqb-true (length x) label_limit d)
  letter_good x stack opens seen n h e false d = (letter_more false x stack opens seen n h (eqb-false (length x) label_limit d), e)

  -- of a label between quotes
  inner_good : (x : List ℕ) (stack : List Opened) (opens : ℕ) (seen : List Label) → is_inner_byte b ≡ true
      → HoldsAt text p (b ∷ rest) i (in_quotes x) stack opens seen → raw_text (p ++ (b ∷ [])) ≡ on (in_quotes (x ++ (b ∷ [])), stack)
      → Good text (p ++ (b ∷ [])) rest i (step_inner x stack opens seen b)
  unfolding step_inner
  inner_good x stack opens seen n h e = go (eqb (length x) label_limit) refl
    where
      go : (c : Bool) → eqb (length x) label_limit ≡ c
          → Good text (p ++ (b ∷ [])) rest i
          (cond c (stop LabelTooLong) (next (record { phase = in_quotes (x ++ (b ∷ [])); stack = stack; opens = opens; seen = seen })))
      go true d = letter_long true x stack opens seen n h (eqb-true (length x) label_limit d)
      go false d = (letter_more true x stack opens seen n h (eqb-false (length x) label_limit d), e)

  -- a byte inside or just after the bare label x
  label_good : (x : Token) (stack : List Opened) (opens : ℕ) (seen : List Label) (k : Kind) → KindView b k
      → HoldsAt text p (b ∷ rest) i (in_label x) stack opens seen → raw_text (p ++ (b ∷ [])) ≡ raw_step (in_label x) stack b k
      → Good text (p ++ (b ∷ [])) rest i (step_label x stack opens seen b k)
  unfolding step_label raw_step
  label_good x stack opens seen LabelByte (is_label n) h e = letter_good x stack opens seen n h e (eqb (length x) label_limit) refl
  label_good x stack opens seen Open v h e = bad h.base (label_alive stack x h) e
  label_good x stack opens seen Close (is_close c n) h e =
      after_good (leaf x) stack opens (seen ++ (spelling x ∷ [])) Close (is_close c n) (settled x stack opens seen (plain_label b n) h) e
  label_good x stack opens seen Comma (is_comma c n) h e =
      after_good (leaf x) stack opens (seen ++ (spelling x ∷ [])) Comma (is_comma c n) (settled x stack opens seen (plain_label b n) h) e
  label_good x stack opens seen Semicolon (is_semicolon c n) h e =
      after_good (leaf x) stack opens (seen ++ (spelling x ∷ [])) Semicolon (is_semicolon c n) (settled x stack opens seen (plain_label b n) h) e
  label_good x stack opens seen Quote v h e = bad h.base (label_alive stack x h) e
  label_good x stack opens seen Blank v h e = bad h.base (label_alive stack x h) e
  label_good x stack opens seen Other v h e = bad h.base (label_alive stack x h) e

  -- the closing quote
  closing_good : (x : List ℕ) (stack : List Opened) (opens : ℕ) (seen : List Label) → b ≡ quote_byte
      → HoldsAt text p (b ∷ rest) i (in_quotes x) stack opens seen → raw_text (p ++ (b ∷ [])) ≡ raw_closing x stack
      → Good text (p ++ (b ∷ [])) rest i (step_closing x stack opens seen)
  unfolding step_closing raw_closing written leaves
  closing_good x stack opens seen c h e = go (eqb (length x) 0) refl e
    where
      some : (length x ≡ 0 → ⊥) → 1 ≤ length x
      some n = omega arith

      other : b ≡ open_byte → ⊥
      other d = omega arith

      bytes⁺ : p ++ (b ∷ []) ≡ stack_text stack ++ quoted_token x
      bytes⁺ =
          more_bytes p (stack_text stack ++ (quote_byte ∷ x)) b quote_byte h.told c
          ∙ append_assoc (stack_text stack) (quote_byte ∷ x) (quote_byte ∷ [])

      go : (t : Bool) → eqb (length x) 0 ≡ t → raw_text (p ++ (b ∷ [])) ≡ cond t halt (on (after_node (leaf (quoted_token x)), stack))
          → Good text (p ++ (b ∷ [])) rest i
          (cond t (stop BadByte)
          (next
          (record {
            phase = after_node (leaf (quoted_token x));
            stack = stack;
            opens = opens;
            seen = seen ++ (spelling (quoted_token x) ∷ []);
          })))
      go true d z = bad h.base (quotes_alive stack x h) z
      go false d z =
          let m = quote_end_here h.base h.marks c (some (eqb-false (length x) 0 d)) in
          let alive⁺ =
          subst (Continues TreeText) (sym bytes⁺) (label_continues stack (quoted_token x) (loose h) (good_parts (quoted_token x) m.well).0) in (
            record {
              base = read_more (quote_pass h.base h.marks c alive⁺ (no_crowd h.base other)) m;
              told = bytes⁺;
              known =
                  ap (λ (w : List Label). w ++ (spelling (quoted_token x) ∷ [])) h.known
                  ∙ sym (map-append spelling (stack_labels stack) (quoted_token x ∷ []));
              count = count_same p b opens other h.count;
              few = h.few;
              marks = m.marks;
            },
            z,
          )

  -- a byte after an opening quote and the bytes x
  quotes_good : (x : List ℕ) (stack : List Opened) (opens : ℕ) (seen : List Label) (k : Kind) → KindView b k
      → HoldsAt text p (b ∷ rest) i (in_quotes x) stack opens seen → raw_text (p ++ (b ∷ [])) ≡ raw_step (in_quotes x) stack b k
      → Good text (p ++ (b ∷ [])) rest i (step_quotes x stack opens seen b k)
  unfolding step_quotes raw_step
  quotes_good x stack opens seen LabelByte (is_label n) h e = inner_good x stack opens seen (label_inner b n) h e
  quotes_good x stack opens seen Open v h e = bad h.base (quotes_alive stack x h) e
  quotes_good x stack opens seen Close v h e = bad h.base (quotes_alive stack x h) e
  quotes_good x stack opens seen Comma v h e = bad h.base (quotes_alive stack x h) e
  quotes_good x stack opens seen Semicolon v h e = bad h.base (quotes_alive stack x h) e
  quotes_good x stack opens seen Quote (is_quote c) h e = closing_good x stack opens seen c h e
  quotes_good x stack opens seen Blank (is_blank c) h e = inner_good x stack opens seen (ap is_inner_byte c ∙ blank_inner) h e
  quotes_good x stack opens seen Other v h e = bad h.base (quotes_alive stack x h) e

  -- a label of form q begins, with the inner bytes x by now
  module _ (q : Bool) (x : List ℕ) (stack : List Opened) (opens : ℕ) (seen : List Label) (n : (is_label_byte b || eqb b quote_byte) ≡ true)
      (s : so_far q x ≡ b ∷ []) (c : Continues TreeText (stack_text stack ++ so_far q x))
      (h : HoldsAt text p (b ∷ rest) i node_due stack opens seen) where
    begun_bytes : p ++ (b ∷ []) ≡ stack_text stack ++ so_far q x
    begun_bytes = ap (λ (w : List ℕ). w ++ (b ∷ [])) h.told ∙ ap (λ (w : List ℕ). stack_text stack ++ w) (sym s)

    begun_alive : Continues TreeText (p ++ (b ∷ []))
    begun_alive = subst (Continues TreeText) (sym begun_bytes) c

    decoded_test : (t : Bool) → repeats seen (b ∷ rest) ≡ t → repeats (map spelling (stack_labels stack)) (b ∷ rest) ≡ t
    decoded_test t d = subst (λ (w : List Label). repeats w (b ∷ rest) ≡ t) h.known d

    begin_repeat : repeats seen (b ∷ rest) ≡ true → TreeFault text Repeated i
    begin_repeat d =
        repeat_here h.base h.marks.0 h.marks.1 n begun_alive (no_crowd h.base (begins_not_open b n)) (decoded_test true d)

    begin_more : (Continues TreeText (p ++ (b ∷ [])) → repeats (map spelling (stack_labels stack)) (b ∷ rest) ≡ false
        → InsideOf text (stack_labels stack) q x (suc i)) → repeats seen (b ∷ rest) ≡ false
        → Holds text (p ++ (b ∷ [])) rest (suc i) (stack_text stack ++ so_far q x) (stack_labels stack)
        (InsideOf text (stack_labels stack) q x (suc i)) opens seen
    begin_more starts d =
        record {
          base = begin_pass h.base h.marks.0 h.marks.1 n begun_alive (no_crowd h.base (begins_not_open b n)) (decoded_test false d);
          told = begun_bytes;
          known = h.known;
          count = count_same p b opens (begins_not_open b n) h.count;
          few = h.few;
          marks = starts begun_alive (decoded_test false d);
        }

  -- a bare label begins
  begin_good : (stack : List Opened) (opens : ℕ) (seen : List Label) → is_label_byte b ≡ true
      → HoldsAt text p (b ∷ rest) i node_due stack opens seen → raw_text (p ++ (b ∷ [])) ≡ on (in_label (b ∷ []), stack)
      → (c : Bool) → repeats seen (b ∷ rest) ≡ c
      → Good text (p ++ (b ∷ [])) rest i
      (cond c (stop Repeated) (next (record { phase = in_label (b ∷ []); stack = stack; opens = opens; seen = seen })))
  begin_good stack opens seen n h e c d = go c d
    where
      continued : Continues TreeText (stack_text stack ++ (b ∷ []))
      continued = inside_continues false stack (b ∷ []) (loose h) (omega arith) (bytes_one is_label_byte b n)

      go : (c : Bool) → repeats seen (b ∷ rest) ≡ c
          → Good text (p ++ (b ∷ [])) rest i
          (cond c (stop Repeated) (next (record { phase = in_label (b ∷ []); stack = stack; opens = opens; seen = seen })))
      go true d = begin_repeat false (b ∷ []) stack opens seen (label_begins b n) refl continued h d
      go false d = (
        begin_more false (b ∷ []) stack opens seen (label_begins b n) refl continued h
            (λ a f. bare_inside h.base h.marks.0 h.marks.1 (label_begins b n) a n f) d,
        e,
      )

  -- a quote opens one
  quote_good : (stack : List Opened) (opens : ℕ) (seen : List Label) → b ≡ quote_byte
      → HoldsAt text p (b ∷ rest) i node_due stack opens seen → raw_text (p ++ (b ∷ [])) ≡ on (in_quotes [], stack)
      → (c : Bool) → repeats seen (b ∷ rest) ≡ c
      → Good text (p ++ (b ∷ [])) rest i
      (cond c (stop Repeated) (next (record { phase = in_quotes []; stack = stack; opens = opens; seen = seen })))
  unfolding all_of
  quote_good stack opens seen o h e c d = go c d
    where
      opening : so_far true [] ≡ b ∷ []
      opening = ap (λ (w : ℕ). w ∷ []) (sym o)

      continued : Continues TreeText (stack_text stack ++ (quote_byte ∷ []))
      continued = inside_continues true stack [] (loose h) tt refl

      go : (c : Bool) → repeats seen (b ∷ rest) ≡ c
          → Good text (p ++ (b ∷ [])) rest i
          (cond c (stop Repeated) (next (record { phase = in_quotes []; stack = stack; opens = opens; seen = seen })))
      go true d = begin_repeat true [] stack opens seen (quote_begins b o) opening continued h d
      go false d = (
        begin_more true [] stack opens seen (quote_begins b o) opening continued h
            (λ a f. quoted_inside h.base h.marks.0 h.marks.1 (quote_begins b o) a o f) d,
        e,
      )

  -- a `(` where it may stand
  open_good : (stack : List Opened) (opens : ℕ) (seen : List Label) → b ≡ open_byte → Plain b
      → HoldsAt text p (b ∷ rest) i node_due stack opens seen → raw_text (p ++ (b ∷ [])) ≡ on (node_due, first ∷ stack)
      → (c : Bool) → eqb opens (leaf_limit - 1) ≡ c
      → Good text (p ++ (b ∷ [])) rest i
      (cond c (stop TooMany) (next (record { phase = node_due; stack = first ∷ stack; opens = opens + 1; seen = seen })))
  open_good stack opens seen o n h e c d = go c d
    where
      bytes⁺ : p ++ (b ∷ []) ≡ stack_text stack ++ (open_byte ∷ [])
      bytes⁺ = more_bytes p (stack_text stack) b open_byte h.told o

      alive⁺ : Continues TreeText (p ++ (b ∷ []))
      alive⁺ = subst (Continues TreeText) (sym bytes⁺) (due_continues (first ∷ stack) (loose h))

      earlier : occurrences open_byte (take i text) ≡ opens
      earlier = ap (occurrences open_byte) (before_here h.base) ∙ sym h.count

      less : (opens ≡ leaf_limit - 1 → ⊥) → opens < leaf_limit → opens + 1 < leaf_limit
      less z w = omega arith

      go : (c : Bool) → eqb opens (leaf_limit - 1) ≡ c
          → Good text (p ++ (b ∷ [])) rest i
          (cond c (stop TooMany) (next (record { phase = node_due; stack = first ∷ stack; opens = opens + 1; seen = seen })))
      go true d =
          crowd_here h.base alive⁺ (plain_not_long_here h.base n)
          (record { opening = byte_here h.base ∙ o; allowed = allowed_here h.base alive⁺; earlier = earlier ∙ eqb-true opens (leaf_limit - 1) d })
      go false d = (
        record {
          base =
              plain_pass h.base n alive⁺
              (λ (w : OpenCrowd text i). eqb-false opens (leaf_limit - 1) d (sym earlier ∙ w.earlier));
          told = bytes⁺;
          known = h.known;
          count = omega (arith, h.count, occurrences_append open_byte p (b ∷ []), occurs open_byte b [] (sym o), occurs_none open_byte);
          few = less (eqb-false opens (leaf_limit - 1) d) h.few;
          marks = (plain_known h.base n h.marks.0, edge_after h.base (inl o));
        },
        e,
      )

  -- a byte where a node must begin
  due_good : (stack : List Opened) (opens : ℕ) (seen : List Label) (k : Kind) → KindView b k
      → HoldsAt text p (b ∷ rest) i node_due stack opens seen → raw_text (p ++ (b ∷ [])) ≡ raw_step node_due stack b k
      → Good text (p ++ (b ∷ [])) rest i (step_due stack opens seen (repeats seen (b ∷ rest)) b k)
  unfolding step_due raw_step
  due_good stack opens seen LabelByte (is_label n) h e = begin_good stack opens seen n h e (repeats seen (b ∷ rest)) refl
  due_good stack opens seen Open (is_open o n) h e = open_good stack opens seen o n h e (eqb opens (leaf_limit - 1)) refl
  due_good stack opens seen Close v h e = bad h.base (due_alive stack h) e
  due_good stack opens seen Comma v h e = bad h.base (due_alive stack h) e
  due_good stack opens seen Semicolon v h e = bad h.base (due_alive stack h) e
  due_good stack opens seen Quote (is_quote o) h e = quote_good stack opens seen o h e (repeats seen (b ∷ rest)) refl
  due_good stack opens seen Blank v h e = bad h.base (due_alive stack h) e
  due_good stack opens seen Other v h e = bad h.base (due_alive stack h) e

  -- any byte
  step_good : (q : Phase) (stack : List Opened) (opens : ℕ) (seen : List Label) → HoldsAt text p (b ∷ rest) i q stack opens seen
      → raw_text (p ++ (b ∷ [])) ≡ raw_step q stack b (kind_of b) → Good text (p ++ (b ∷ [])) rest i (step q stack opens seen b rest)
  unfolding step raw_step
  step_good node_due stack opens seen h e = due_good stack opens seen (kind_of b) (kind_view b) h e
  step_good (in_label x) stack opens seen h e = label_good x stack opens seen (kind_of b) (kind_view b) h e
  step_good (in_quotes x) stack opens seen h e = quotes_good x stack opens seen (kind_of b) (kind_view b) h e
  step_good (after_node t) stack opens seen h e = after_good t stack opens seen (kind_of b) (kind_view b) h e
  step_good (ended t) stack opens seen h e = bad h.base (subst (Continues TreeText) (sym h.told) (text_continues t (loose h))) e

-- a tree has one leaf more than its text has `(`
opens_leaves : (t : Tree) → loose_labels (leaves t) ≡ true → length (leaves t) ≡ suc (occurrences open_byte (written t))
unfolding leaves written
opens_leaves (leaf x) h = omega (arith, occurs_token open_byte x open_plain (loose_head x [] h).0)
opens_leaves (node a b) h =
    let g = loose_split (leaves a) (leaves b) h in
    omega (
      arith,
      length-append (leaves a) (leaves b),
      opens_leaves a g.0,
      opens_leaves b g.1,
      occurs open_byte open_byte (written a ++ (comma_byte ∷ (written b ++ (close_byte ∷ [])))) refl,
      occurrences_append open_byte (written a) (comma_byte ∷ (written b ++ (close_byte ∷ []))),
      occurs_not open_byte comma_byte (written b ++ (close_byte ∷ [])) (λ (e : open_byte ≡ comma_byte). omega arith),
      occurrences_append open_byte (written b) (close_byte ∷ []),
      occurs_not open_byte close_byte [] (λ (e : open_byte ≡ close_byte). omega arith),
      occurs_none open_byte,
    )

pub opens_text : (t : Tree) → loose_labels (leaves t) ≡ true → length (leaves t) ≡ suc (occurrences open_byte (text_of t))
unfolding text_of
opens_text t h =
    omega (
      arith,
      opens_leaves t h,
      occurrences_append open_byte (written t) (semicolon_byte ∷ []),
      occurs_not open_byte semicolon_byte [] (λ (e : open_byte ≡ semicolon_byte). omega arith),
      occurs_none open_byte,
    )

crowd_inside : (text : List ℕ) (j : ℕ) → OpenCrowd text j → j < length text
crowd_inside text j c = go (lt_or_le j (length text))
  where
    go : (j < length text) ⊎ (length text ≤ j) → j < length text
    go (inl h) = h
    go (inr h) = absurd (omega (arith, c.opening, get_or-eq_default text 0 h))

-- what reading a text must give
abbrev pub Result : List ℕ → Reading Tree → Type 0
Result text (good t) = (text ≡ text_of t) × Valid t × ((q : Reason) (j : ℕ) → Fault TreeText OpenCrowd text q j → ⊥)
Result text (refused r i) = TreeFault text r i

-- a text of the grammar ends in the phase `ended`
not_ended : (p : List ℕ) (q : Phase) (stack : List Opened) → raw_text p ≡ on (q, stack) → ((t : Tree) → q ≡ ended t → ⊥) → TreeText p → ⊥
not_ended p q stack e n w = n w.0 (ap (λ (z : Spot). z.0) (on_same (sym e ∙ ap raw_text w.2 ∙ raw_text_lem w.0 w.1)))

end_good : (text p : List ℕ) (i : ℕ) (q : Phase) (stack : List Opened) (opens : ℕ) (seen : List Label) → HoldsAt text p [] i q stack opens seen
    → raw_text p ≡ on (q, stack) → Result text (end_of q i)
unfolding end_of decoded
end_good text p i node_due stack opens seen h e =
    ends_here h.base (due_alive stack h)
    (not_ended p node_due stack e (λ t (d : node_due ≡ ended t). let z : ◌≡◌ {A = ℕ} 0 1 = cc in omega arith))
end_good text p i (in_label x) stack opens seen h e =
    ends_here h.base (label_alive stack x h)
    (not_ended p (in_label x) stack e (λ t (d : in_label x ≡ ended t). let z : ◌≡◌ {A = ℕ} 0 1 = cc in omega arith))
end_good text p i (in_quotes x) stack opens seen h e =
    ends_here h.base (quotes_alive stack x h)
    (not_ended p (in_quotes x) stack e (λ t (d : in_quotes x ≡ ended t). let z : ◌≡◌ {A = ℕ} 0 1 = cc in omega arith))
end_good text p i (after_node u) stack opens seen h e =
    ends_here h.base (after_alive stack u h)
    (not_ended p (after_node u) stack e (λ t (d : after_node u ≡ ended t). let z : ◌≡◌ {A = ℕ} 0 1 = cc in omega arith))
end_good text p i (ended t) stack opens seen h e = (
  whole_text h.base ∙ h.told,
  record {
    labels = h.base.fine;
    different = subst (λ (w : List Label). distinct w ≡ true) (sym (leaves_relabel spelling t)) h.base.different;
    few = omega (arith, opens_text t (loose h), h.count, ap (occurrences open_byte) h.told, h.few);
  },
  no_fault_left h.base (crowd_inside text) (t, loose h, h.told),
)

-- from a state that holds, the rest of the text
walk : (text p rest : List ℕ) (i : ℕ) (s : State) → HoldsAt text p rest i s.phase s.stack s.opens s.seen
    → raw_text p ≡ on (s.phase, s.stack) → Result text (read_from s i rest)
unfolding read_from
walk text p [] i s h e = end_good text p i s.phase s.stack s.opens s.seen h e
walk text p (b ∷ rest) i s h e =
    go (step s.phase s.stack s.opens s.seen b rest)
    (step_good text p b rest i s.phase s.stack s.opens s.seen h (raw_snoc raw_byte (node_due, []) (s.phase, s.stack) p b e))
    (λ s' h' e'. walk text (p ++ (b ∷ [])) rest (suc i) s' h' e')
  where
    go : (z : Step) → Good text (p ++ (b ∷ [])) rest i z
        → ((s' : State) → HoldsAt text (p ++ (b ∷ [])) rest (suc i) s'.phase s'.stack s'.opens s'.seen
        → raw_text (p ++ (b ∷ [])) ≡ on (s'.phase, s'.stack) → Result text (read_from s' (suc i) rest))
        → Result text (elim z [ next s' ↦ read_from s' (i + 1) rest | stop r ↦ refused r i ])
    go (next s') g ih = subst (λ (w : ℕ). Result text (read_from s' w rest)) (sym (add-one i)) (ih s' g.0 g.1)
    go (stop r) g ih = g

-- the reading of any text
pub reading : (text : List ℕ) → Result text (read_tree text)
unfolding read_tree
reading text =
    walk text [] text 0 start_state
    (record {
      base = read_start TreeText OpenCrowd text;
      told = refl;
      known = refl;
      count = sym (occurs_none open_byte);
      few = omega arith;
      marks = (known_start TreeText text, λ k (z : suc k ≡ 0). absurd (omega arith));
    })
    (raw_nil raw_byte (node_due, []))
