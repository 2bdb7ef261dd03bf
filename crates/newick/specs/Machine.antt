-- The reading machine over lists of array entries, with a definition for each function of the source that takes a step. Intermediate:
-- nothing public rests on this text; proofs/Simulation.antt relates it to the reading of a tree text.
use Rattle.std.specs.Prelude.{ℕ, ◌+◌, ◌-◌, ◌*◌, ◌≤◌, ◌<◌, ◌≡◌, Bool, cond, List, eqb, ltb, length, get_or, set, replicate, ⊤, Option, Some, None, Result, Ok, Err}
use Rattle.trees.specs.declared.Kind.{Kind}
use Rattle.trees.specs.declared.Kind.TheVariants.{Label as LabelByte, Open, Close, Comma, Semicolon, Quote, Blank, Other}
use Rattle.trees.specs.declared.Reason.{Reason}
use Rattle.trees.specs.declared.Reason.TheVariants.{BadByte, EndsTooSoon, LabelTooLong, TooMany, Repeated}
use Rattle.trees.specs.declared.Body.{Body}
use Rattle.trees.specs.declared.Edition.{Edition}
use Rattle.trees.specs.declared.TreeArrays.{TreeArrays}
use Rattle.trees.specs.Edition.{in_edition}
use Rattle.trees.specs.declared.Refusal.{Refusal}
use Rattle.trees.specs.Label.{label_limit}
use Rattle.trees.specs.Tree.{leaf_limit}
use Rattle.trees.specs.Arrays.{no_arrays, node_limit}
use Rattle.trees.specs.Stored.{part_of, is_among}
use Rattle.trees.specs.Token.{token_limit}
use Rattle.newick.specs.declared.Mode.{Mode}
use Rattle.newick.specs.declared.Mode.TheVariants.{Due, Inside, Quoted, After, Done}
use Rattle.trees.specs.declared.Halt.{Halt}
use Rattle.newick.specs.declared.Reader.{Reader}
use Rattle.newick.specs.declared.TreeRead.{TreeRead}

-- a tree of 80 leaves has 79 `(`
abbrev pub open_limit : ℕ
open_limit = leaf_limit - 1

-- the arrays that the steps fill; the stack has the first child of each open `(`, if it has one
pub record Arrays : Type 0 where
  pub stack : List (Option ℕ)
  pub left : List ℕ
  pub right : List ℕ
  pub start : List ℕ
  pub size : List ℕ

abbrev pub arrays : List (Option ℕ) → List ℕ → List ℕ → List ℕ → List ℕ → Arrays
arrays k l r s z = record { stack = k; left = l; right = r; start = s; size = z }

-- where the reader stands, and how many `(` are open, how many were read, how many nodes are complete
pub record Scan : Type 0 where
  pub mode : Mode
  pub depth : ℕ
  pub opens : ℕ
  pub nodes : ℕ

abbrev pub scan : Mode → ℕ → ℕ → ℕ → Scan
scan m depth opens nodes = record { mode = m; depth = depth; opens = opens; nodes = nodes }

-- the state and the arrays after a step, or a refusal's reason and place
pub data Progress : Type 0 where
  on : Scan → Arrays → Progress
  halt : Reason → ℕ → Progress

-- what a reader has
abbrev pub text_in : Reader → List ℕ
text_in r = in_edition r.edition r.text.now

abbrev pub scan_in : Mode → Reader → Scan
scan_in m r = scan m r.depth r.opens r.tree.nodes

abbrev pub arrays_in : Reader → Arrays
arrays_in r = arrays r.stack r.tree.left r.tree.right r.tree.start r.tree.size

abbrev pub progress_of : Result Mode Halt → Reader → Progress
progress_of (Ok m) r = on (scan_in m r) (arrays_in r)
progress_of (Err f) r = halt f.0 f.1

-- a step leads from one reader to another, of the same text
pub record Steps (old new : Reader) (result : Result Mode Halt) (p : Progress) : Type 0 where
  pub progress : progress_of result new ≡ p
  pub edition_kept : new.edition ≡ old.edition
  pub text_kept : new.text ≡ old.text

-- nothing is read yet
pub record Fresh (e : Edition) (text : List ℕ) (r : Reader) : Type 0 where
  pub edition_is : r.edition ≡ e
  pub text_is : r.text.now ≡ text
  pub none_open : r.depth ≡ 0
  pub none_read : r.opens ≡ 0
  pub stack_is : r.stack ≡ replicate open_limit None
  pub tree_is : r.tree ≡ no_arrays

-- one of the first n nodes is a leaf whose label is that of the `len` bytes from `first`
unfoldable pub repeat_of : List ℕ → (start size : List ℕ) → ℕ → (first len : ℕ) → Bool
repeat_of text start size n first len = is_among text start size n (part_of first len text)

-- a byte where a node must begin
unfoldable pub due_of : Scan → Arrays → ℕ → Kind → Progress
due_of st a i LabelByte = on (scan (Inside i 1) st.depth st.opens st.nodes) a
due_of st a i Open =
    cond (ltb st.opens open_limit)
    (on (scan Due (st.depth + 1) (st.opens + 1) st.nodes)
    (arrays (set a.stack st.depth None) a.left a.right a.start a.size))
    (halt TooMany i)
due_of st a i Close = halt BadByte i
due_of st a i Comma = halt BadByte i
due_of st a i Semicolon = halt BadByte i
due_of st a i Quote = on (scan (Quoted i 0) st.depth st.opens st.nodes) a
due_of st a i Blank = halt BadByte i
due_of st a i Other = halt BadByte i

-- `)` after node u, given the first child
unfoldable pub closed : Option ℕ → Scan → Arrays → ℕ → ℕ → Progress
closed None st a u i = halt BadByte i
closed (Some child) st a u i =
    on (scan (After st.nodes) (st.depth - 1) st.opens (st.nodes + 1))
    (arrays a.stack (set a.left st.nodes child) (set a.right st.nodes u) a.start a.size)

-- `)` after node u: the innermost `(` must have its first child, and becomes a node
unfoldable pub close_of : Scan → Arrays → ℕ → ℕ → Progress
unfolding closed
close_of st a u i = cond (eqb st.depth 0) (halt BadByte i) (closed (get_or a.stack (st.depth - 1) None) st a u i)

-- `,` after node u, given the first child
unfoldable pub parted : Option ℕ → Scan → Arrays → ℕ → ℕ → Progress
parted None st a u i =
    on (scan Due st.depth st.opens st.nodes) (arrays (set a.stack (st.depth - 1) (Some u)) a.left a.right a.start a.size)
parted (Some child) st a u i = halt BadByte i

-- `,` after node u: it is the first child of the innermost `(`, which must lack one
unfoldable pub comma_of : Scan → Arrays → ℕ → ℕ → Progress
unfolding parted
comma_of st a u i = cond (eqb st.depth 0) (halt BadByte i) (parted (get_or a.stack (st.depth - 1) None) st a u i)

-- a byte just after node u
unfoldable pub after_of : Scan → Arrays → ℕ → ℕ → Kind → Progress
unfolding close_of comma_of
after_of st a u i LabelByte = halt BadByte i
after_of st a u i Open = halt BadByte i
after_of st a u i Close = close_of st a u i
after_of st a u i Comma = comma_of st a u i
after_of st a u i Semicolon =
    cond (eqb st.depth 0) (on (scan Done st.depth st.opens st.nodes) a) (halt BadByte i)
after_of st a u i Quote = halt BadByte i
after_of st a u i Blank = halt BadByte i
after_of st a u i Other = halt BadByte i

-- a leaf is the node with the next number
abbrev pub leaf_scan : Scan → Scan
leaf_scan st = scan (After st.nodes) st.depth st.opens (st.nodes + 1)

abbrev pub leaf_arrays : Scan → Arrays → ℕ → ℕ → Arrays
leaf_arrays st a first len =
    arrays a.stack (set a.left st.nodes st.nodes) (set a.right st.nodes st.nodes)
    (set a.start st.nodes first) (set a.size st.nodes len)

-- the label of `len` bytes from `first` is complete: it is a leaf, unless it repeats
unfoldable pub leaf_of : List ℕ → Scan → Arrays → (first len : ℕ) → Progress
unfolding repeat_of
leaf_of text st a first len =
    cond (repeat_of text a.start a.size st.nodes first len) (halt Repeated first)
    (on (leaf_scan st) (leaf_arrays st a first len))

-- the byte after a label, given the result of the label
abbrev pub after_leaf : Progress → (u i : ℕ) → Kind → Progress
after_leaf (on st a) u i k = after_of st a u i k
after_leaf (halt r j) u i k = halt r j

-- the byte after a bare label
unfoldable pub label_end : List ℕ → Scan → Arrays → (first len i : ℕ) → Kind → Progress
unfolding leaf_of after_of
label_end text st a first len i k = after_leaf (leaf_of text st a first len) st.nodes i k

-- a byte inside or just after a bare label
unfoldable pub inside_of : List ℕ → Scan → Arrays → (first len i : ℕ) → Kind → Progress
unfolding label_end
inside_of text st a first len i LabelByte =
    cond (ltb len label_limit) (on (scan (Inside first (len + 1)) st.depth st.opens st.nodes) a) (halt LabelTooLong i)
inside_of text st a first len i Open = label_end text st a first len i Open
inside_of text st a first len i Close = label_end text st a first len i Close
inside_of text st a first len i Comma = label_end text st a first len i Comma
inside_of text st a first len i Semicolon = label_end text st a first len i Semicolon
inside_of text st a first len i Quote = label_end text st a first len i Quote
inside_of text st a first len i Blank = label_end text st a first len i Blank
inside_of text st a first len i Other = label_end text st a first len i Other

-- a byte that is allowed between quotes, after the quote at `first` and `inner` bytes
unfoldable pub inner_of : Scan → Arrays → (first inner i : ℕ) → Progress
inner_of st a first inner i =
    cond (ltb inner label_limit) (on (scan (Quoted first (inner + 1)) st.depth st.opens st.nodes) a) (halt LabelTooLong i)

-- a quote there: it ends the label, of which both quotes are a part
unfoldable pub closing_of : List ℕ → Scan → Arrays → (first len i : ℕ) → Progress
unfolding leaf_of
closing_of text st a first len i = cond (eqb len 0) (halt BadByte i) (leaf_of text st a first (len + 2))

-- a byte after an opening quote
unfoldable pub quoted_of : List ℕ → Scan → Arrays → (first len i : ℕ) → Kind → Progress
unfolding inner_of closing_of
quoted_of text st a first len i LabelByte = inner_of st a first len i
quoted_of text st a first len i Open = halt BadByte i
quoted_of text st a first len i Close = halt BadByte i
quoted_of text st a first len i Comma = halt BadByte i
quoted_of text st a first len i Semicolon = halt BadByte i
quoted_of text st a first len i Quote = closing_of text st a first len i
quoted_of text st a first len i Blank = inner_of st a first len i
quoted_of text st a first len i Other = halt BadByte i

-- one step by mode, on the byte at place i, of kind k
unfoldable pub move_of : Mode → List ℕ → Scan → Arrays → ℕ → Kind → Progress
unfolding due_of inside_of quoted_of after_of
move_of Due text st a i k = due_of st a i k
move_of (Inside first len) text st a i k = inside_of text st a first len i k
move_of (Quoted first len) text st a i k = quoted_of text st a first len i k
move_of (After u) text st a i k = after_of st a u i k
move_of Done text st a i k = halt BadByte i

abbrev pub refusal : Body → Reason → ℕ → Result ℕ Refusal
refusal body r i = Err (record { reason = r; body = body; place = i })

-- a refusal, with arrays of no node
abbrev pub turned_down : Result ℕ Refusal → TreeRead
turned_down answer = record { answer = answer; tree = no_arrays }

-- the answer with the arrays that were filled
abbrev pub with_arrays : Result ℕ Refusal → ℕ → (l r s z : List ℕ) → TreeRead
with_arrays answer nodes l r s z =
    record { answer = answer; tree = record { nodes = nodes; left = l; right = r; start = s; size = z } }

-- an answer about the given body
abbrev pub told : Body → Result ℕ Halt → Result ℕ Refusal
told body (Ok n) = Ok n
told body (Err f) = refusal body f.0 f.1

-- with the arrays of a tree that was read
abbrev pub told_read : Body → Result ℕ Halt → TreeArrays → TreeRead
told_read body (Ok n) tree = record { answer = Ok n; tree = tree }
told_read body (Err f) tree = turned_down (refusal body f.0 f.1)

-- the answer if the text ends here
unfoldable pub answer_of : Mode → List ℕ → Body → Scan → (start size : List ℕ) → Result ℕ Refusal
unfolding repeat_of
answer_of Due text body st start size = refusal body EndsTooSoon (length text)
answer_of (Inside first len) text body st start size =
    cond (repeat_of text start size st.nodes first len) (refusal body Repeated first)
    (refusal body EndsTooSoon (length text))
answer_of (Quoted first len) text body st start size = refusal body EndsTooSoon (length text)
answer_of (After u) text body st start size = refusal body EndsTooSoon (length text)
answer_of Done text body st start size = Ok (st.opens + 1)

-- a token of `len` bytes from `first` can be stored as the next leaf
pub record Fits (depth opens nodes first len : ℕ) : Type 0 where
  pub one_more : nodes + depth ≤ 2 * opens
  pub short : len ≤ token_limit
  pub near : first < 65536

-- what a step in this mode may rely on, beside what holds of every reader
abbrev pub Ready : Mode → Scan → Type 0
Ready Due st = ⊤
Ready (Inside first len) st = Fits st.depth st.opens st.nodes first len
Ready (Quoted first len) st = Fits st.depth st.opens st.nodes first (len + 2)
Ready (After u) st = (st.nodes + st.depth ≤ 2 * st.opens + 1) × (u < node_limit)
Ready Done st = ⊤
