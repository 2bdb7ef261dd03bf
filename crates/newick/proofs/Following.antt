-- What it is for the reading machine to follow the reading of a tree text, and that it still does after each kind of step
-- that goes on. Assumes nothing.
use Prim.Native.Nat.{ℕ, ◌+◌, ◌*◌, ◌-◌, ◌≤◌, ◌<◌}
use mathlib.Core.Path.{◌≡◌, refl, ap, sym, ◌∙◌}
use mathlib.Core.Bool.{true}
use mathlib.Core.List.{List, [], ◌∷◌, ◌++◌, map, append_assoc, map-append}
use native.Mathlib.Omega.{arith}
use Rattle.std.specs.Prelude.{Option, Some, None}
use lib.ListN.{length, get_or, set, length-append, length-set}
use lib.Seq.{get_or-set_same, get_or-set_other}
use Rattle.trees.specs.Bytes.{is_label_byte, is_inner_byte, open_byte, close_byte, comma_byte, semicolon_byte, quote_byte}
use Rattle.trees.specs.Label.{Label, label_limit}
use Rattle.trees.specs.Token.{Token, spelling, token_limit, all_of, all_label_bytes, all_inner_bytes, quoted_token}
use Rattle.trees.specs.Tree.{Tree, leaf, node, leaves}
use Rattle.trees.specs.Text.{written, text_of}
use Rattle.trees.specs.Arrays.{nodes_of, node_limit}
use Rattle.trees.proofs.ListLaws.{bytes_one, bytes_snoc}
use Rattle.trees.proofs.ArrayLaws.{nodes_pos, node_length}
use Rattle.newick.specs.declared.Mode.{Mode}
use Rattle.newick.specs.declared.Mode.TheVariants.{Due, Inside, Quoted, After, Done}
use Rattle.newick.specs.Machine.{Scan}
use Rattle.newick.specs.ReadTree.{Opened, first, second, Phase, node_due, in_label, in_quotes, after_node, ended}
use Rattle.newick.specs.Machine.{open_limit, Arrays, arrays, scan, leaf_scan, leaf_arrays}
use Rattle.newick.proofs.OpenNodes.{inner, nodes_inner, text_in, nodes_in, leaves_in, opens_in, second_place, nodes_bound}
use Rattle.newick.proofs.OpenNodes.{depth_bound, heading, opens_here, nodes_here, labels_by}
use Rattle.newick.proofs.Columns.{Column, column_in, filled, Columns, refilled, comma_filled, leaf_columns}
use Rattle.newick.proofs.Columns.{node_columns}

-- the code's counts, where the phase adds h `(` and k nodes
pub record Counts (s : List Opened) (h k : ℕ) (d o n : ℕ) : Type 0 where
  pub depth : d ≡ length s
  pub opens : o ≡ opens_in s + h
  pub few : o ≤ open_limit
  pub nodes : n ≡ nodes_in s + k

-- the code's stack: each `(` with its first child's number, if it has one
abbrev pub StackHolds : List Opened → List (Option ℕ) → Type 0
StackHolds [] k = Unit {0}
StackHolds (first ∷ s) k = (get_or k (length s) None ≡ None) × StackHolds s k
StackHolds (second t ∷ s) k = (get_or k (length s) None ≡ Some (nodes_in s + nodes_of t - 1)) × StackHolds s k

pub record Stacked (s : List Opened) (k : List (Option ℕ)) : Type 0 where
  pub wide : length k ≡ open_limit
  pub holds : StackHolds s k

stack_kept : (s : List Opened) (k : List (Option ℕ)) (i : ℕ) (v : Option ℕ) → length s ≤ i → StackHolds s k → StackHolds s (set k i v)
stack_kept [] k i v h f = f
stack_kept (first ∷ s) k i v h f =
    (get_or-set_other k i (length s) v None (omega arith) ∙ f.0, stack_kept s k i v (omega arith) f.1)
stack_kept (second t ∷ s) k i v h f =
    (get_or-set_other k i (length s) v None (omega arith) ∙ f.0, stack_kept s k i v (omega arith) f.1)

-- the code's mode
abbrev pub ModeIs : Phase → List Opened → Mode → Type 0
ModeIs node_due s m = m ≡ Due
ModeIs (in_label x) s m =
    (m ≡ Inside (length (text_in s)) (length x)) × (all_label_bytes x ≡ true) × (1 ≤ length x) × (length x ≤ label_limit)
ModeIs (in_quotes x) s m = (m ≡ Quoted (length (text_in s)) (length x)) × (all_inner_bytes x ≡ true) × (length x ≤ label_limit)
ModeIs (after_node t) s m = m ≡ After (nodes_in s + nodes_of t - 1)
ModeIs (ended t) s m = (m ≡ Done) × (s ≡ [])

-- how far a text can go: to each `(` a byte, to each node 36, since a token has at most 34 and `,` or `)` follows it
abbrev pub Near : Phase → (i opens nodes : ℕ) → Type 0
Near node_due i o n = i ≤ o + 36 * n
Near (in_label x) i o n = i ≤ o + 36 * n + length x
Near (in_quotes x) i o n = i ≤ o + 36 * n + length x + 1
Near (after_node t) i o n = i + 1 ≤ o + 36 * n
Near (ended t) i o n = Unit {0}

-- the machine at place i, with `rest` to come, stands where the reading does
pub record Follows (text : List ℕ) (ph : Phase) (s : List Opened) (seen : List Label) (st : Scan) (a : Arrays) (i : ℕ) (rest : List ℕ)
    : Type 0 where
  pub parted : text ≡ text_in s ++ (heading ph ++ rest)
  pub place : i ≡ length (text_in s) + length (heading ph)
  pub near : Near ph i st.opens st.nodes
  pub counts : Counts s (opens_here ph) (nodes_here ph) st.depth st.opens st.nodes
  pub labels : seen ≡ map spelling (labels_by s ph)
  pub columns : Columns s ph a.left a.right a.start a.size
  pub stack : Stacked s a.stack
  pub mode : ModeIs ph s st.mode

-- a label that is complete at place j, with `post` to come, is a leaf
leaf_at : (text : List ℕ) (s : List Opened) (seen : List Label) (st : Scan) (a : Arrays) (x : Token) (j : ℕ) (post : List ℕ)
    → text ≡ text_in s ++ (x ++ post) → j ≡ length (text_in s) + length x → j ≤ st.opens + 36 * st.nodes + token_limit
    → Counts s 0 0 st.depth st.opens st.nodes → seen ≡ map spelling (leaves_in s)
    → Columns s node_due a.left a.right a.start a.size → Stacked s a.stack
    → Follows text (after_node (leaf x)) s (seen ++ (spelling x ∷ [])) (leaf_scan st) (leaf_arrays st a (length (text_in s)) (length x)) j post
unfolding written nodes_of leaves inner
leaf_at text s seen st a x j post ep ej en C el ec es =
    let e : st.nodes ≡ nodes_in s = omega (arith, C.nodes) in
    let room : st.nodes < node_limit = omega (arith, C.nodes, C.opens, C.few, nodes_bound s) in
    record {
      parted = ep;
      place = ej;
      near = omega (arith, en);
      counts = record { depth = C.depth; opens = C.opens; few = C.few; nodes = omega (arith, C.nodes) };
      labels = ap (λ (l : List Label). l ++ (spelling x ∷ [])) el ∙ sym (map-append spelling (leaves_in s) (x ∷ []));
      columns = leaf_columns st.nodes ec e room;
      stack = es;
      mode = ap After (omega (arith, e));
    }

module _ {text : List ℕ} {s : List Opened} {seen : List Label} {st : Scan} {a : Arrays} {i : ℕ} {rest : List ℕ} where
  -- a bare label begins
  pub begin_follows : {b : ℕ} → is_label_byte b ≡ true → Follows text node_due s seen st a i (b ∷ rest)
      → Follows text (in_label (b ∷ [])) s seen (scan (Inside i 1) st.depth st.opens st.nodes) a (i + 1) rest
  unfolding filled
  begin_follows {b = b} h F =
      record {
        parted = F.parted;
        place = omega (arith, F.place);
        near = omega (arith, F.near);
        counts = F.counts;
        labels = F.labels;
        columns = refilled (λ (f : Column). refl) F.columns;
        stack = F.stack;
        mode = (ap (λ (p : ℕ). Inside p 1) (omega (arith, F.place)), bytes_one is_label_byte b h, omega arith, omega arith);
      }

  -- a label between quotes begins
  pub quote_follows : {b : ℕ} → b ≡ quote_byte → Follows text node_due s seen st a i (b ∷ rest)
      → Follows text (in_quotes []) s seen (scan (Quoted i 0) st.depth st.opens st.nodes) a (i + 1) rest
  unfolding filled all_of
  quote_follows e F =
      record {
        parted = F.parted ∙ ap (λ (c : ℕ). text_in s ++ (c ∷ rest)) e;
        place = omega (arith, F.place);
        near = omega (arith, F.near);
        counts = F.counts;
        labels = F.labels;
        columns = refilled (λ (f : Column). refl) F.columns;
        stack = F.stack;
        mode = (ap (λ (p : ℕ). Quoted p 0) (omega (arith, F.place)), refl, omega arith);
      }

  -- a label goes on
  pub more_follows : {x : Label} {b : ℕ} → is_label_byte b ≡ true → length x < label_limit → Follows text (in_label x) s seen st a i (b ∷ rest)
      → Follows text (in_label (x ++ (b ∷ []))) s seen
      (scan (Inside (length (text_in s)) (length x + 1)) st.depth st.opens st.nodes) a (i + 1) rest
  unfolding filled
  more_follows {x = x} {b = b} h l F =
      let more : length (x ++ (b ∷ [])) ≡ length x + 1 = length-append x (b ∷ []) in
      record {
        parted = F.parted ∙ ap (λ (r : List ℕ). text_in s ++ r) (sym (append_assoc x (b ∷ []) rest));
        place = omega (arith, F.place, more);
        near = omega (arith, F.near, more);
        counts = F.counts;
        labels = F.labels;
        columns = refilled (λ (f : Column). refl) F.columns;
        stack = F.stack;
        mode = (ap (Inside (length (text_in s))) (sym more), bytes_snoc is_label_byte x b F.mode.1 h, omega (arith, more), omega (arith, more, l));
      }

  -- so does one between quotes
  pub inner_follows : {x : List ℕ} {b : ℕ} → is_inner_byte b ≡ true → length x < label_limit → Follows text (in_quotes x) s seen st a i (b ∷ rest)
      → Follows text (in_quotes (x ++ (b ∷ []))) s seen
      (scan (Quoted (length (text_in s)) (length x + 1)) st.depth st.opens st.nodes) a (i + 1) rest
  unfolding filled
  inner_follows {x = x} {b = b} h l F =
      let more : length (x ++ (b ∷ [])) ≡ length x + 1 = length-append x (b ∷ []) in
      record {
        parted = F.parted ∙ ap (λ (r : List ℕ). text_in s ++ (quote_byte ∷ r)) (sym (append_assoc x (b ∷ []) rest));
        place = omega (arith, F.place, more);
        near = omega (arith, F.near, more);
        counts = F.counts;
        labels = F.labels;
        columns = refilled (λ (f : Column). refl) F.columns;
        stack = F.stack;
        mode = (ap (Quoted (length (text_in s))) (sym more), bytes_snoc is_inner_byte x b F.mode.1 h, omega (arith, more, l));
      }

  -- a bare label ends before the byte at i
  pub leaf_follows : {x : Token} → Follows text (in_label x) s seen st a i rest
      → Follows text (after_node (leaf x)) s (seen ++ (spelling x ∷ [])) (leaf_scan st) (leaf_arrays st a (length (text_in s)) (length x)) i rest
  unfolding filled
  leaf_follows F =
      leaf_at text s seen st a _ i rest F.parted F.place (omega (arith, F.near, F.mode.3)) F.counts F.labels (refilled (λ (f : Column). refl) F.columns) F.stack

  -- one between quotes with the quote at i
  pub closing_follows : {x : List ℕ} {b : ℕ} → b ≡ quote_byte → Follows text (in_quotes x) s seen st a i (b ∷ rest)
      → Follows text (after_node (leaf (quoted_token x))) s (seen ++ (spelling (quoted_token x) ∷ [])) (leaf_scan st)
      (leaf_arrays st a (length (text_in s)) (length x + 2)) (i + 1) rest
  unfolding filled
  closing_follows {x = x} {b = b} e F =
      let size : length (quoted_token x) ≡ length x + 2 = omega (arith, length-append x (quote_byte ∷ [])) in
      rw (← size)
      (leaf_at text s seen st a (quoted_token x) (i + 1) rest
      (F.parted ∙ ap (λ (c : ℕ). text_in s ++ (quote_byte ∷ (x ++ (c ∷ rest)))) e
      ∙ ap (λ (r : List ℕ). text_in s ++ (quote_byte ∷ r)) (sym (append_assoc x (quote_byte ∷ []) rest)))
      (omega (arith, F.place, size)) (omega (arith, F.near, F.mode.2)) F.counts F.labels (refilled (λ (f : Column). refl) F.columns) F.stack)

  -- `(` begins a node
  pub open_follows : {b : ℕ} → b ≡ open_byte → st.opens < open_limit → Follows text node_due s seen st a i (b ∷ rest)
      → Follows text node_due (first ∷ s) seen (scan Due (st.depth + 1) (st.opens + 1) st.nodes)
      (arrays (set a.stack st.depth None) a.left a.right a.start a.size) (i + 1) rest
  unfolding filled text_in nodes_in leaves_in opens_in column_in
  open_follows eb l F =
      let C = F.counts in
      let inside : length s < length a.stack = omega (arith, F.stack.wide, l, C.opens, depth_bound s) in
      record {
        parted = F.parted ∙ rw eb (simp append_assoc);
        place = omega (arith, F.place, length-append (text_in s) (open_byte ∷ []));
        near = omega (arith, F.near);
        counts = record { depth = omega (arith, C.depth); opens = omega (arith, C.opens); few = omega (arith, l); nodes = C.nodes };
        labels = F.labels;
        columns = refilled (λ (f : Column). refl) F.columns;
        stack = record {
          wide = length-set a.stack st.depth None ∙ F.stack.wide;
          holds = (
            rw C.depth (get_or-set_same a.stack (length s) None None inside),
            stack_kept s a.stack st.depth None (omega (arith, C.depth)) F.stack.holds,
          );
        };
        mode = refl;
      }

  -- `,` after the first child
  pub comma_follows : {t : Tree} {b : ℕ} → b ≡ comma_byte → Follows text (after_node t) (first ∷ s) seen st a i (b ∷ rest)
      → Follows text node_due (second t ∷ s) seen (scan Due st.depth st.opens st.nodes)
      (arrays (set a.stack (st.depth - 1) (Some (nodes_in s + nodes_of t - 1))) a.left a.right a.start a.size) (i + 1) rest
  unfolding text_in nodes_in leaves_in opens_in
  comma_follows {t = t} eb F =
      let C = F.counts in
      let d : st.depth - 1 ≡ length s = omega (arith, C.depth) in
      let inside : length s < length a.stack = omega (arith, F.stack.wide, C.few, C.opens, depth_bound s) in
      record {
        parted = F.parted ∙ rw eb (simp append_assoc);
        place = omega (arith, F.place, second_place t s, length-append (text_in s) (open_byte ∷ []));
        near = omega (arith, F.near);
        counts = record { depth = C.depth; opens = omega (arith, C.opens); few = C.few; nodes = omega (arith, C.nodes) };
        labels = F.labels;
        columns = refilled (λ (f : Column). comma_filled f s t) F.columns;
        stack = record {
          wide = length-set a.stack (st.depth - 1) (Some (nodes_in s + nodes_of t - 1)) ∙ F.stack.wide;
          holds = (
            rw d (get_or-set_same a.stack (length s) (Some (nodes_in s + nodes_of t - 1)) None inside),
            stack_kept s a.stack (st.depth - 1) (Some (nodes_in s + nodes_of t - 1)) (omega (arith, d)) F.stack.holds.1,
          );
        };
        mode = refl;
      }

  -- `)` after the second child: a node
  pub close_follows : {c t : Tree} {b : ℕ} → b ≡ close_byte → Follows text (after_node t) (second c ∷ s) seen st a i (b ∷ rest)
      → Follows text (after_node (node c t)) s seen (scan (After st.nodes) (st.depth - 1) st.opens (st.nodes + 1))
      (arrays a.stack (set a.left st.nodes (nodes_in s + nodes_of c - 1))
      (set a.right st.nodes (nodes_in (second c ∷ s) + nodes_of t - 1)) a.start a.size) (i + 1) rest
  unfolding text_in nodes_in leaves_in opens_in inner nodes_of written leaves
  close_follows {c = c} {t = t} eb F =
      let C = F.counts in
      let d : st.depth - 1 ≡ length s = omega (arith, C.depth) in
      let room : st.nodes < node_limit = omega (arith, C.nodes, C.opens, C.few, nodes_bound (second c ∷ s), nodes_inner t) in
      record {
        parted = F.parted ∙ rw eb (simp append_assoc);
        place = omega (arith, F.place, second_place c s, node_length c t);
        near = omega (arith, F.near);
        counts = record { depth = d; opens = omega (arith, C.opens); few = C.few; nodes = omega (arith, C.nodes) };
        labels = F.labels ∙ ap (map spelling) (append_assoc (leaves_in s) (leaves c) (leaves t));
        columns = node_columns st.nodes (nodes_in s + nodes_of c - 1) F.columns C.nodes room refl;
        stack = record { wide = F.stack.wide; holds = F.stack.holds.1 };
        mode = ap After (omega (arith, C.nodes, nodes_pos t));
      }

-- `;` after the whole tree
pub semicolon_follows : {text : List ℕ} {t : Tree} {seen : List Label} {st : Scan} {a : Arrays} {i b : ℕ} {rest : List ℕ} → b ≡ semicolon_byte
    → Follows text (after_node t) [] seen st a i (b ∷ rest)
    → Follows text (ended t) [] seen (scan Done st.depth st.opens st.nodes) a (i + 1) rest
unfolding text_of filled
semicolon_follows {t = t} eb F =
    record {
      parted = F.parted ∙ rw eb (simp append_assoc);
      place = omega (arith, F.place, length-append (written t) (semicolon_byte ∷ []));
      near = tt;
      counts = F.counts;
      labels = F.labels;
      columns = refilled (λ (f : Column). refl) F.columns;
      stack = F.stack;
      mode = (refl, refl);
    }
