-- A byte leads the reading machine and the reading of a tree text to the same: both go on and the one follows the other, or
-- both stop for the same reason at the same place. Assumes nothing.
use Prim.Native.Nat.{ℕ, ◌+◌, ◌-◌, ◌≤◌, ◌<◌}
use mathlib.Core.Path.{◌≡◌, refl, ap, sym, ◌∙◌, subst}
use mathlib.Core.Bool.{Bool, true, false, cond}
use mathlib.Core.Logic.{◌⊎◌, inl, inr}
use mathlib.Core.List.{List, [], ◌∷◌, ◌++◌, append_assoc}
use native.Mathlib.Omega.{arith}
use lib.Dec.{eqb, ltb}
use Rattle.std.specs.Prelude.{Some, None}
use lib.ListN.{length, get_or, set, length-append}
use borrow.Author.Tests.{eqb-true, eqb-false, eq-eqb, ne_eqb, ltb-true, ltb-false}
use Rattle.trees.specs.declared.Kind.{Kind}
use Rattle.trees.specs.declared.Kind.TheVariants.{Label as LabelByte, Open, Close, Comma, Semicolon, Quote, Blank, Other}
use Rattle.trees.specs.declared.Reason.TheVariants.{BadByte, LabelTooLong, TooMany, Repeated}
use Rattle.trees.specs.Bytes.{is_label_byte, is_inner_byte, kind_of, quote_byte}
use Rattle.trees.specs.Label.{Label, label_limit, is_in}
use Rattle.trees.specs.Token.{Token, spelling, quoted_token}
use Rattle.trees.specs.Tree.{Tree, leaf, node, leaf_limit}
use Rattle.trees.specs.Reading.{Reading, refused, run_of, repeats}
use Rattle.trees.specs.Arrays.{nodes_of}
use Rattle.trees.proofs.Bools.{bool_cases, or_none_right}
use Rattle.trees.proofs.ListLaws.{label_inner, size_bare, spelling_quoted}
use Rattle.trees.proofs.ReadingLaws.{KindView, is_label, is_open, is_close, is_comma, is_semicolon, is_quote, is_blank, is_other}
use Rattle.trees.proofs.ReadingLaws.{kind_view, Plain, plain_label, run_none, quote_first_lem, other_first, repeats_ended, repeats_long}
use Rattle.trees.proofs.ReadingLaws.{repeats_unclosed, repeats_empty}
use Rattle.trees.proofs.TokenForms.{quote_not_label, quote_not_inner, blank_not_label, blank_inner, form_spelling}
use Rattle.newick.specs.declared.Mode.TheVariants.{Due, Inside}
use Rattle.newick.specs.Machine.{Scan}
use Rattle.newick.specs.ReadTree.{Opened, first, second, Phase, node_due, in_label, in_quotes, after_node, ended, State, Step, next}
use Rattle.newick.specs.ReadTree.{stop, step, step_after, step_due, step_label, step_inner, step_closing, step_quotes, read_from}
use Rattle.newick.specs.Machine.{open_limit, Arrays, arrays, Progress, on, halt, scan, repeat_of, due_of}
use Rattle.newick.specs.Machine.{close_of, closed, comma_of, parted, after_of, label_end, inside_of, inner_of, closing_of, quoted_of, move_of}
use Rattle.newick.proofs.MachineLaws.{move_due, move_inside, move_quoted, move_after, move_done, leaf_known, end_known}
use Rattle.newick.proofs.OpenNodes.{text_in, nodes_in}
use Rattle.newick.proofs.Columns.{filled}
use Rattle.newick.proofs.RepeatLaws.{repeat_seen}
use Rattle.newick.proofs.Following.{Follows, begin_follows, quote_follows, more_follows, inner_follows, leaf_follows}
use Rattle.newick.proofs.Following.{closing_follows, open_follows, comma_follows, close_follows, semicolon_follows}

-- inside a label the reading has looked ahead: a repeat was told at its first byte
abbrev pub pending : Phase → List Label → List ℕ → Bool
pending node_due seen rest = false
pending (in_label x) seen rest = repeats seen (x ++ rest)
pending (in_quotes x) seen rest = repeats seen (quote_byte ∷ (x ++ rest))
pending (after_node t) seen rest = false
pending (ended t) seen rest = false

abbrev pub state : Phase → List Opened → ℕ → List Label → State
state ph s o seen = record { phase = ph; stack = s; opens = o; seen = seen }

-- the reading's result from here
abbrev pub expected : Phase → List Opened → List Label → Scan → ℕ → List ℕ → Reading Tree
expected ph s seen st i rest =
    cond (pending ph seen rest) (refused Repeated (length (text_in s))) (read_from (state ph s st.opens seen) i rest)

-- the machine follows a reading whose result is R
pub record Follower (text : List ℕ) (R : Reading Tree) (st : Scan) (a : Arrays) (i : ℕ) (rest : List ℕ) : Type 0 where
  pub ph : Phase
  pub s : List Opened
  pub seen : List Label
  pub follows : Follows text ph s seen st a i rest
  pub told : expected ph s seen st i rest ≡ R

-- where a step leads
abbrev pub Leads : List ℕ → Reading Tree → ℕ → List ℕ → Progress → Type 0
Leads text R i rest (on st a) = Follower text R st a i rest
Leads text R i rest (halt r j) = R ≡ refused r j

pub leads_as : (text : List ℕ) (i : ℕ) (rest : List ℕ) {R Q : Reading Tree} {x y : Progress} → R ≡ Q → x ≡ y
    → Leads text R i rest x → Leads text Q i rest y
leads_as text i rest {R} {Q} {x} {y} e f h =
    subst (λ (r : Reading Tree). Leads text r i rest y) e (subst (λ (o : Progress). Leads text R i rest o) f h)

-- a label that is complete: if it repeats, the reading told so at its first byte, and the machine does now
told_or : (text : List ℕ) (i : ℕ) (rest : List ℕ) (p : ℕ) (q : Bool) (R : Reading Tree) (o : Progress) → Leads text R i rest o
    → Leads text (cond q (refused Repeated p) R) i rest (cond q (halt Repeated p) o)
told_or text i rest p true R o h = refl
told_or text i rest p false R o h = h

-- the reading after a step
abbrev after : Step → ℕ → List ℕ → Reading Tree
after (next p) i rest = read_from p (i + 1) rest
after (stop r) i rest = refused r i

read_cons : (p : State) (i b : ℕ) (rest : List ℕ)
    → read_from p i (b ∷ rest) ≡ after (step p.phase p.stack p.opens p.seen b rest) i rest
unfolding read_from
read_cons p i b rest = go (step p.phase p.stack p.opens p.seen b rest)
  where
    go : (x : Step) → elim x [ next s' ↦ read_from s' (i + 1) rest | stop r ↦ refused r i ] ≡ after x i rest
    go (next p') = refl
    go (stop r) = refl

-- the top of the code's stack
module _ {text : List ℕ} {t : Tree} {s : List Opened} {seen : List Label} {st : Scan} {a : Arrays} {i : ℕ} {rest : List ℕ} where
  not_flat : {p : Opened} → Follows text (after_node t) (p ∷ s) seen st a i rest → eqb st.depth 0 ≡ false
  not_flat F = ne_eqb st.depth 0 (λ (e : st.depth ≡ 0). absurd (omega (arith, F.counts.depth, e)))

  top_first : Follows text (after_node t) (first ∷ s) seen st a i rest → get_or a.stack (st.depth - 1) None ≡ None
  top_first F = let e : st.depth - 1 ≡ length s = omega (arith, F.counts.depth) in rw e F.stack.holds.0

  top_second : {c : Tree} → Follows text (after_node t) (second c ∷ s) seen st a i rest
      → get_or a.stack (st.depth - 1) None ≡ Some (nodes_in s + nodes_of c - 1)
  top_second F = let e : st.depth - 1 ≡ length s = omega (arith, F.counts.depth) in rw e F.stack.holds.0

-- a byte after a node
moves_after : {text : List ℕ} {t : Tree} (s : List Opened) {seen : List Label} {st : Scan} {a : Arrays} {i b : ℕ} {rest : List ℕ} (k : Kind)
    → KindView b k → Follows text (after_node t) s seen st a i (b ∷ rest)
    → Leads text (after (step_after t s st.opens seen k) i rest) (i + 1) rest (after_of st a (nodes_in s + nodes_of t - 1) i k)
unfolding step_after after_of close_of closed comma_of parted nodes_in
moves_after s LabelByte h F = refl
moves_after s Open h F = refl
moves_after [] {st = st} Close h F = rw (eq-eqb st.depth 0 F.counts.depth)
moves_after (first ∷ s) Close h F = rw (not_flat F, top_first F)
moves_after {t = t} (second c ∷ s) {seen = seen} Close (is_close e l) F =
    rw (not_flat F, top_second F)
    (record { ph = after_node (node c t); s = s; seen = seen; follows = close_follows e F; told = refl })
moves_after [] {st = st} Comma h F = rw (eq-eqb st.depth 0 F.counts.depth)
moves_after {t = t} (first ∷ s) {seen = seen} Comma (is_comma e l) F =
    rw (not_flat F, top_first F)
    (record { ph = node_due; s = second t ∷ s; seen = seen; follows = comma_follows e F; told = refl })
moves_after (second c ∷ s) Comma h F = rw (not_flat F, top_second F)
moves_after {t = t} [] {seen = seen} {st = st} Semicolon (is_semicolon e l) F =
    rw (eq-eqb st.depth 0 F.counts.depth)
    (record { ph = ended t; s = []; seen = seen; follows = semicolon_follows e F; told = refl })
moves_after (p ∷ s) Semicolon h F = rw (not_flat F)
moves_after s Quote h F = refl
moves_after s Blank h F = refl
moves_after s Other h F = refl

module _ {text : List ℕ} {x : List ℕ} {s : List Opened} {seen : List Label} {st : Scan} {a : Arrays} {i : ℕ} {rest : List ℕ} where
  -- the code's comparison of a bare label
  pub seen_before : Follows text (in_label x) s seen st a i rest
      → repeat_of text a.start a.size st.nodes (length (text_in s)) (length x) ≡ is_in (spelling x) seen
  unfolding filled
  seen_before F =
      repeat_seen text x (omega (arith, size_bare x F.mode.1, F.mode.2)) s rest a.start a.size st.nodes F.parted
      (omega (arith, F.counts.nodes)) F.columns.start F.columns.size
      ∙ ap (is_in (spelling x)) (sym F.labels)

  -- the reading's, where no label byte follows
  pub told_bare : Follows text (in_label x) s seen st a i rest → run_of is_label_byte rest ≡ [] → repeats seen (x ++ rest) ≡ is_in (spelling x) seen
  told_bare F e =
      repeats_ended seen false x rest F.mode.2 F.mode.3 F.mode.1 e refl
      ∙ ap (λ (y : Label). is_in y seen) (sym (form_spelling false x F.mode.1))

  -- the code's of one between quotes
  seen_quoted : 1 ≤ length x → Follows text (in_quotes x) s seen st a i (quote_byte ∷ rest)
      → repeat_of text a.start a.size st.nodes (length (text_in s)) (length x + 2) ≡ is_in x seen
  unfolding filled
  seen_quoted l F =
      let size : length (quoted_token x) ≡ length x + 2 = omega (arith, length-append x (quote_byte ∷ [])) in
      rw (← size)
      (repeat_seen text (quoted_token x) (rw (spelling_quoted x) l) s rest a.start a.size st.nodes
      (F.parted ∙ ap (λ (r : List ℕ). text_in s ++ (quote_byte ∷ r)) (sym (append_assoc x (quote_byte ∷ []) rest)))
      (omega (arith, F.counts.nodes)) F.columns.start F.columns.size
      ∙ rw (spelling_quoted x) (ap (is_in x) (sym F.labels)))

module _ {text : List ℕ} {x : Token} {s : List Opened} {seen : List Label} {st : Scan} {a : Arrays} {i b : ℕ} {rest : List ℕ}
    (F : Follows text (in_label x) s seen st a i (b ∷ rest)) where
  -- the byte after a label
  moves_end : (k : Kind) → KindView b k → is_label_byte b ≡ false
      → step_label x s st.opens seen b k ≡ step_after (leaf x) s st.opens (seen ++ (spelling x ∷ [])) k
      → Leads text
      (cond (repeats seen (x ++ (b ∷ rest))) (refused Repeated (length (text_in s))) (after (step_label x s st.opens seen b k) i rest))
      (i + 1) rest (label_end text st a (length (text_in s)) (length x) i k)
  unfolding nodes_of
  moves_end k h n e =
      rw (told_bare F (run_none is_label_byte b rest n), e)
      (leads_as text (i + 1) rest refl (sym (end_known text st a (length (text_in s)) (length x) (is_in (spelling x) seen) (seen_before F) i k))
      (told_or text (i + 1) rest (length (text_in s)) (is_in (spelling x) seen) _ _ (rw u at (moves_after s k h (leaf_follows F)))))
    where
      u : nodes_in s + nodes_of (leaf x) - 1 ≡ st.nodes
      u = omega (arith, F.counts.nodes)

  -- a byte inside or just after a label
  moves_label : (k : Kind) → KindView b k
      → Leads text
      (cond (repeats seen (x ++ (b ∷ rest))) (refused Repeated (length (text_in s))) (after (step_label x s st.opens seen b k) i rest))
      (i + 1) rest (inside_of text st a (length (text_in s)) (length x) i k)
  unfolding inside_of step_label step_after
  moves_label LabelByte (is_label h) = go (bool_cases (ltb (length x) label_limit))
    where
      go : (ltb (length x) label_limit ≡ true) ⊎ (ltb (length x) label_limit ≡ false)
          → Leads text
          (cond (repeats seen (x ++ (b ∷ rest))) (refused Repeated (length (text_in s)))
          (after (cond (eqb (length x) label_limit) (stop LabelTooLong) (next (state (in_label (x ++ (b ∷ []))) s st.opens seen))) i rest))
          (i + 1) rest
          (cond (ltb (length x) label_limit) (on (scan (Inside (length (text_in s)) (length x + 1)) st.depth st.opens st.nodes) a)
          (halt LabelTooLong i))
      go (inl q) =
          let l : length x < label_limit = ltb-true (length x) label_limit q in
          rw (q, ne_eqb (length x) label_limit (λ (e : length x ≡ label_limit). absurd (omega (arith, l, e))))
          (record {
            ph = in_label (x ++ (b ∷ []));
            s = s;
            seen = seen;
            follows = more_follows h l F;
            told = rw (append_assoc x (b ∷ []) rest) refl;
          })
      go (inr q) =
          let l : label_limit ≤ length x = ltb-false (length x) label_limit q in
          rw (q, repeats_long seen false x b rest F.mode.2 F.mode.1 h l, eq-eqb (length x) label_limit (omega (arith, l, F.mode.3)))
  moves_label Open (is_open e p) = moves_end Open (is_open e p) (plain_label b p) refl
  moves_label Close (is_close e p) = moves_end Close (is_close e p) (plain_label b p) refl
  moves_label Comma (is_comma e p) = moves_end Comma (is_comma e p) (plain_label b p) refl
  moves_label Semicolon (is_semicolon e p) = moves_end Semicolon (is_semicolon e p) (plain_label b p) refl
  moves_label Quote (is_quote e) = moves_end Quote (is_quote e) (ap is_label_byte e ∙ quote_not_label) refl
  moves_label Blank (is_blank e) = moves_end Blank (is_blank e) (ap is_label_byte e ∙ blank_not_label) refl
  moves_label Other (is_other p) = moves_end Other (is_other p) (plain_label b p) refl

-- a byte after an opening quote
module _ {text : List ℕ} {x : List ℕ} {s : List Opened} {seen : List Label} {st : Scan} {a : Arrays} {i b : ℕ} {rest : List ℕ}
    (F : Follows text (in_quotes x) s seen st a i (b ∷ rest)) where
  abbrev Goes : Step → Progress → Type 0
  Goes z o =
      Leads text (cond (repeats seen (quote_byte ∷ (x ++ (b ∷ rest)))) (refused Repeated (length (text_in s))) (after z i rest)) (i + 1) rest o

  -- one that may stand there
  moves_inner : is_inner_byte b ≡ true → Goes (step_inner x s st.opens seen b) (inner_of st a (length (text_in s)) (length x) i)
  unfolding step_inner inner_of
  moves_inner h = go (bool_cases (ltb (length x) label_limit))
    where
      go : (ltb (length x) label_limit ≡ true) ⊎ (ltb (length x) label_limit ≡ false)
          → Goes (step_inner x s st.opens seen b) (inner_of st a (length (text_in s)) (length x) i)
      go (inl q) =
          let l : length x < label_limit = ltb-true (length x) label_limit q in
          rw (q, ne_eqb (length x) label_limit (λ (e : length x ≡ label_limit). absurd (omega (arith, l, e))))
          (record {
            ph = in_quotes (x ++ (b ∷ []));
            s = s;
            seen = seen;
            follows = inner_follows h l F;
            told = rw (append_assoc x (b ∷ []) rest) refl;
          })
      go (inr q) =
          let l : label_limit ≤ length x = ltb-false (length x) label_limit q in
          rw (q, repeats_long seen true x b rest tt F.mode.1 h l, eq-eqb (length x) label_limit (omega (arith, l, F.mode.2)))

  -- a label whose quote does not close is not compared
  moves_broken : Plain b → Goes (stop BadByte) (halt BadByte i)
  moves_broken p =
      rw (repeats_unclosed seen x (b ∷ rest) F.mode.1 (run_none is_inner_byte b rest p.inner)
      (other_first b rest (or_none_right (is_label_byte b) (eqb b quote_byte) p.begins)))

  -- the closing quote
  moves_closing : b ≡ quote_byte → Goes (step_closing x s st.opens seen) (closing_of text st a (length (text_in s)) (length x) i)
  unfolding step_closing closing_of
  moves_closing e = go (bool_cases (eqb (length x) 0))
    where
      empty : (y : List ℕ) → length y ≡ 0 → repeats seen (quote_byte ∷ (y ++ (b ∷ rest))) ≡ false
      empty [] z = ap (λ (c : ℕ). repeats seen (quote_byte ∷ (c ∷ rest))) e ∙ repeats_empty seen rest
      empty (c ∷ y) z = absurd (omega (arith, z))

      some : (length x ≡ 0 → ⊥) → 1 ≤ length x
      some n = omega arith

      go : (eqb (length x) 0 ≡ true) ⊎ (eqb (length x) 0 ≡ false)
          → Goes (step_closing x s st.opens seen) (closing_of text st a (length (text_in s)) (length x) i)
      go (inl q) = rw (q, empty x (eqb-true (length x) 0 q))
      go (inr q) =
          let l : 1 ≤ length x = some (eqb-false (length x) 0 q) in
          let E : Follows text (in_quotes x) s seen st a i (quote_byte ∷ rest)
          = subst (λ (c : ℕ). Follows text (in_quotes x) s seen st a i (c ∷ rest)) e F in
          let none : run_of is_inner_byte (quote_byte ∷ rest) ≡ [] = run_none is_inner_byte quote_byte rest quote_not_inner in
          rw (
            q,
            ap (λ (c : ℕ). repeats seen (quote_byte ∷ (x ++ (c ∷ rest)))) e
                ∙ repeats_ended seen true x (quote_byte ∷ rest) l F.mode.2 F.mode.1 none (quote_first_lem rest),
          )
          (leads_as text (i + 1) rest refl (sym (leaf_known text st a (length (text_in s)) (length x + 2) (is_in x seen) (seen_quoted l E)))
          (told_or text (i + 1) rest (length (text_in s)) (is_in x seen) _ _
          (record {
            ph = after_node (leaf (quoted_token x));
            s = s;
            seen = seen ++ (spelling (quoted_token x) ∷ []);
            follows = closing_follows e F;
            told = refl;
          })))

  moves_quoted : (k : Kind) → KindView b k → Goes (step_quotes x s st.opens seen b k) (quoted_of text st a (length (text_in s)) (length x) i k)
  unfolding quoted_of step_quotes
  moves_quoted LabelByte (is_label h) = moves_inner (label_inner b h)
  moves_quoted Open (is_open e p) = moves_broken p
  moves_quoted Close (is_close e p) = moves_broken p
  moves_quoted Comma (is_comma e p) = moves_broken p
  moves_quoted Semicolon (is_semicolon e p) = moves_broken p
  moves_quoted Quote (is_quote e) = moves_closing e
  moves_quoted Blank (is_blank e) = moves_inner (ap is_inner_byte e ∙ blank_inner)
  moves_quoted Other (is_other p) = moves_broken p

-- a byte where a node must begin
module _ {text : List ℕ} {s : List Opened} {seen : List Label} {st : Scan} {a : Arrays} {i b : ℕ} {rest : List ℕ}
    (F : Follows text node_due s seen st a i (b ∷ rest)) where
  moves_due : (k : Kind) → KindView b k
      → Leads text (after (step_due s st.opens seen (repeats seen (b ∷ rest)) b k) i rest) (i + 1) rest (due_of st a i k)
  unfolding step_due due_of
  moves_due LabelByte (is_label h) =
      record { ph = in_label (b ∷ []); s = s; seen = seen; follows = begin_follows h F; told = go (repeats seen (b ∷ rest)) }
    where
      go : (q : Bool)
          → cond q (refused Repeated (length (text_in s))) (read_from (state (in_label (b ∷ [])) s st.opens seen) (i + 1) rest)
          ≡ after (cond q (stop Repeated) (next (state (in_label (b ∷ [])) s st.opens seen))) i rest
      go true = ap (refused Repeated) (omega (arith, F.place))
      go false = refl
  moves_due Open (is_open o n) = go (bool_cases (ltb st.opens open_limit))
    where
      go : (ltb st.opens open_limit ≡ true) ⊎ (ltb st.opens open_limit ≡ false)
          → Leads text
          (after (cond (eqb st.opens (leaf_limit - 1)) (stop TooMany) (next (state node_due (first ∷ s) (st.opens + 1) seen))) i rest)
          (i + 1) rest
          (cond (ltb st.opens open_limit)
          (on (scan Due (st.depth + 1) (st.opens + 1) st.nodes)
          (arrays (set a.stack st.depth None) a.left a.right a.start a.size))
          (halt TooMany i))
      go (inl q) =
          let l : st.opens < open_limit = ltb-true st.opens open_limit q in
          rw (q, ne_eqb st.opens open_limit (λ (e : st.opens ≡ open_limit). absurd (omega (arith, l, e))))
          (record { ph = node_due; s = first ∷ s; seen = seen; follows = open_follows o l F; told = refl })
      go (inr q) =
          let l : open_limit ≤ st.opens = ltb-false st.opens open_limit q in
          rw (q, eq-eqb st.opens open_limit (omega (arith, l, F.counts.few)))
  moves_due Close h = refl
  moves_due Comma h = refl
  moves_due Semicolon h = refl
  moves_due Quote (is_quote e) =
      record { ph = in_quotes []; s = s; seen = seen; follows = quote_follows e F; told = rw (← e) (go (repeats seen (b ∷ rest))) }
    where
      go : (q : Bool)
          → cond q (refused Repeated (length (text_in s))) (read_from (state (in_quotes []) s st.opens seen) (i + 1) rest)
          ≡ after (cond q (stop Repeated) (next (state (in_quotes []) s st.opens seen))) i rest
      go true = ap (refused Repeated) (omega (arith, F.place))
      go false = refl
  moves_due Blank h = refl
  moves_due Other h = refl

-- a byte in any phase
pub moves : {text : List ℕ} (ph : Phase) {s : List Opened} {seen : List Label} {st : Scan} {a : Arrays} {i b : ℕ} {rest : List ℕ}
    → Follows text ph s seen st a i (b ∷ rest)
    → Leads text (expected ph s seen st i (b ∷ rest)) (i + 1) rest (move_of st.mode text st a i (kind_of b))
unfolding step
moves {text = text} node_due {s = s} {seen = seen} {st = st} {a = a} {i = i} {b = b} {rest = rest} F =
    leads_as text (i + 1) rest (sym (read_cons (state node_due s st.opens seen) i b rest))
    (sym (move_due st.mode text st a i (kind_of b) F.mode)) (moves_due F (kind_of b) (kind_view b))
moves {text = text} (in_label x) {s = s} {seen = seen} {st = st} {a = a} {i = i} {b = b} {rest = rest} F =
    leads_as text (i + 1) rest
    (ap (λ (r : Reading Tree). cond (repeats seen (x ++ (b ∷ rest))) (refused Repeated (length (text_in s))) r)
    (sym (read_cons (state (in_label x) s st.opens seen) i b rest)))
    (sym (move_inside st.mode text st a i (kind_of b) (length (text_in s)) (length x) F.mode.0)) (moves_label F (kind_of b) (kind_view b))
moves {text = text} (in_quotes x) {s = s} {seen = seen} {st = st} {a = a} {i = i} {b = b} {rest = rest} F =
    leads_as text (i + 1) rest
    (ap (λ (r : Reading Tree). cond (repeats seen (quote_byte ∷ (x ++ (b ∷ rest)))) (refused Repeated (length (text_in s))) r)
    (sym (read_cons (state (in_quotes x) s st.opens seen) i b rest)))
    (sym (move_quoted st.mode text st a i (kind_of b) (length (text_in s)) (length x) F.mode.0)) (moves_quoted F (kind_of b) (kind_view b))
moves {text = text} (after_node t) {s = s} {seen = seen} {st = st} {a = a} {i = i} {b = b} {rest = rest} F =
    leads_as text (i + 1) rest (sym (read_cons (state (after_node t) s st.opens seen) i b rest))
    (sym (move_after st.mode text st a i (kind_of b) (nodes_in s + nodes_of t - 1) F.mode)) (moves_after s (kind_of b) (kind_view b) F)
moves {text = text} (ended t) {s = s} {seen = seen} {st = st} {a = a} {i = i} {b = b} {rest = rest} F =
    leads_as text (i + 1) rest (sym (read_cons (state (ended t) s st.opens seen) i b rest))
    (sym (move_done st.mode text st a i (kind_of b) F.mode.0)) refl
