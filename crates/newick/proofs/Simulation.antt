-- The reading machine tells what the reading of a tree text tells: it starts with it, may take each step, follows it byte by
-- byte, and ends as it does. Assumes nothing.
use Prim.Native.Nat.{ℕ, ◌+◌, ◌*◌, ◌≤◌, ◌<◌}
use mathlib.Core.Path.{◌≡◌, refl, ap, sym, ◌∙◌, subst}
use mathlib.Core.Bool.{Bool, true, false, cond}
use mathlib.Core.List.{List, [], ◌∷◌, ◌++◌}
use native.Mathlib.Omega.{arith}
use native.Mathlib.Numerals.{add-one}
use lib.ListN.{length, get_or, drop, replicate, length-append, length-replicate, drop_of_length-le}
use lib.Seq.{drop-cons}
use Rattle.trees.specs.declared.Reason.{Reason}
use Rattle.trees.specs.declared.Reason.TheVariants.{EndsTooSoon, Repeated}
use Rattle.trees.specs.declared.Body.{Body}
use Rattle.trees.specs.declared.Edition.{Edition}
use Rattle.trees.specs.Edition.{in_edition}
use Rattle.trees.specs.declared.Refusal.{Refusal}
use Rattle.trees.specs.Bytes.{is_label_byte, is_inner_byte, kind_of}
use Rattle.trees.specs.Label.{Label, is_in}
use Rattle.trees.specs.Token.{spelling, token_limit}
use Rattle.trees.specs.Tree.{Tree, leaves}
use Rattle.trees.specs.Reading.{good, refused}
use Rattle.trees.specs.Arrays.{nodes_of, node_limit, arrays_of, no_arrays}
use Rattle.trees.proofs.ReadingLaws.{run_end, none_first, repeats_unclosed}
use Rattle.newick.specs.declared.Mode.TheVariants.{Due}
use Rattle.newick.specs.Machine.{Scan}
use Rattle.newick.specs.declared.Mode.{Mode}
use Rattle.trees.specs.declared.Halt.{Halt}
use Rattle.newick.specs.declared.Reader.{Reader}
use Rattle.std.specs.Prelude.{Option, None, Result, Ok, Err}
use Rattle.newick.specs.ReadTree.{Opened, Phase, node_due, in_label, in_quotes, after_node, ended, read_from, end_of}
use Rattle.newick.specs.ReadTree.{read_tree, tree_read}
use Rattle.newick.specs.Machine.{open_limit, Arrays, arrays, Progress, progress_of, scan, move_of, answer_of, refusal, turned_down}
use Rattle.newick.specs.Machine.{with_arrays, scan_in, arrays_in, told, told_read, Fresh, Fits, Ready}
use Rattle.newick.proofs.MachineLaws.{ready_as, answer_as}
use Rattle.newick.proofs.OpenNodes.{nodes_inner, leaves_inner, text_in, nodes_in, leaves_in, opens_in, heading, nodes_bound}
use Rattle.newick.proofs.OpenNodes.{nodes_here, opens_here}
use Rattle.newick.proofs.Columns.{column_in, filled}
use Rattle.newick.proofs.Following.{Follows}
use Rattle.newick.proofs.Moves.{Follower, Leads, expected, moves, leads_as, seen_before, told_bare}

-- the machine stands where the reading of this text does
abbrev pub Simulates : List ℕ → Scan → Arrays → ℕ → Type 0
Simulates text st a i = Follower text (read_tree text) st a i (drop i text)

pub starts_so : (text : List ℕ)
    → Simulates text (scan Due 0 0 0)
    (arrays (replicate open_limit None) (replicate node_limit 0) (replicate node_limit 0) (replicate node_limit 0) (replicate node_limit 0)) 0
unfolding read_tree text_in nodes_in leaves_in opens_in column_in filled
starts_so text =
    record {
      ph = node_due;
      s = [];
      seen = [];
      follows = record {
        parted = refl;
        place = refl;
        near = omega arith;
        counts = record { depth = refl; opens = refl; few = omega arith; nodes = refl };
        labels = refl;
        columns = record { left = refl; right = refl; start = refl; size = refl };
        stack = record { wide = length-replicate {A = Option ℕ} open_limit None; holds = tt };
        mode = refl;
      };
      told = refl;
    }

-- the place lies in the text
place_in : {text : List ℕ} {ph : Phase} {s : List Opened} {seen : List Label} {st : Scan} {a : Arrays} {i : ℕ} {rest : List ℕ}
    → Follows text ph s seen st a i rest → i + length rest ≡ length text
place_in {ph = ph} {s = s} {rest = rest} F =
    omega (arith, F.place, ap length F.parted ∙ length-append (text_in s) (heading ph ++ rest), length-append (heading ph) rest)

-- a label that is being read can be stored as a leaf
token_fits : {text : List ℕ} {ph : Phase} {s : List Opened} {seen : List Label} {st : Scan} {a : Arrays} {i : ℕ} {rest : List ℕ} {len : ℕ}
    → Follows text ph s seen st a i rest → nodes_here ph ≡ 0 → opens_here ph ≡ 0 → len ≤ token_limit
    → i ≤ st.opens + 36 * st.nodes + length (heading ph) → Fits st.depth st.opens st.nodes (length (text_in s)) len
token_fits {s = s} F n o l h =
    let C = F.counts in
    record {
      one_more = omega (arith, C.nodes, C.depth, C.opens, n, o, nodes_bound s);
      short = l;
      near = omega (arith, F.place, h, C.few, C.nodes, C.opens, n, o, nodes_bound s);
    }

ready_by : {text : List ℕ} (ph : Phase) {s : List Opened} {seen : List Label} {st : Scan} {a : Arrays} {i : ℕ} {rest : List ℕ}
    → Follows text ph s seen st a i rest → Ready st.mode st
ready_by node_due {st = st} F = ready_as st (sym F.mode) tt
ready_by (in_label x) F = ready_as _ (sym F.mode.0) (token_fits F refl refl (omega (arith, F.mode.3)) F.near)
ready_by (in_quotes x) F = ready_as _ (sym F.mode.0) (token_fits F refl refl (omega (arith, F.mode.2)) (omega (arith, F.near)))
ready_by (after_node t) {s = s} {st = st} F =
    let C = F.counts in
    ready_as st (sym F.mode) (
      omega (arith, C.nodes, C.depth, C.opens, nodes_bound s, nodes_inner t),
      omega (arith, C.few, C.opens, nodes_bound s, nodes_inner t),
    )
ready_by (ended t) {st = st} F = ready_as st (sym F.mode.0) tt

-- a refusal
refused_so : (text : List ℕ) (body : Body) (r : Reason) (i : ℕ) → refused r i ≡ read_tree text
    → turned_down (refusal body r i) ≡ tree_read body (read_tree text)
unfolding tree_read
refused_so text body r i e = ap (tree_read body) e

module _ (text : List ℕ) (st : Scan) (a : Arrays) (i : ℕ) (S : Simulates text st a i) where
  -- the step may be taken
  pub ready_so : Ready st.mode st
  ready_so = ready_by S.ph S.follows

  -- what its result says
  leads_so : (x : Progress) → i < length text → x ≡ move_of st.mode text st a i (kind_of (get_or text i 0))
      → Leads text (read_tree text) (i + 1) (drop (i + 1) text) x
  leads_so x h e =
      let d : drop i text ≡ get_or text i 0 ∷ drop (i + 1) text
      = drop-cons text i 0 h ∙ ap (λ (n : ℕ). get_or text i 0 ∷ drop n text) (sym (add-one i)) in
      leads_as text (i + 1) (drop (i + 1) text) (ap (expected S.ph S.s S.seen st i) (sym d) ∙ S.told) (sym e)
      (moves S.ph (subst (λ (r : List ℕ). Follows text S.ph S.s S.seen st a i r) d S.follows))

-- where a step goes on the reader follows
pub goes_on_so : (text : List ℕ) (m n : Mode) (old new : Reader) (i : ℕ) → Simulates text (scan_in m old) (arrays_in old) i → i < length text
    → progress_of (Ok n) new ≡ move_of m text (scan_in m old) (arrays_in old) i (kind_of (get_or text i 0))
    → Simulates text (scan_in n new) (arrays_in new) (i + 1)
goes_on_so text m n old new i S h e = leads_so text (scan_in m old) (arrays_in old) i S (progress_of (Ok n) new) h e

-- where it stops the reading does
pub stops_so : (text : List ℕ) (m : Mode) (old new : Reader) (i : ℕ) (body : Body) (f : Halt) → Simulates text (scan_in m old) (arrays_in old) i
    → i < length text → progress_of (Err f) new ≡ move_of m text (scan_in m old) (arrays_in old) i (kind_of (get_or text i 0))
    → turned_down (refusal body f.0 f.1) ≡ tree_read body (read_tree text)
stops_so text m old new i body f S h e =
    refused_so text body f.0 f.1 (sym (leads_so text (scan_in m old) (arrays_in old) i S (progress_of (Err f) new) h e))

-- what the answer at the end says of the reading
abbrev Ends : List ℕ → Body → Scan → Arrays → Result ℕ Refusal → Type 0
Ends text body st a (Ok n) = with_arrays (Ok n) st.nodes a.left a.right a.start a.size ≡ tree_read body (read_tree text)
Ends text body st a (Err r) = turned_down (Err r) ≡ tree_read body (read_tree text)

-- a tree
good_so : {text : List ℕ} (body : Body) {t : Tree} {seen : List Label} {st : Scan} {a : Arrays} {i : ℕ}
    → Follows text (ended t) [] seen st a i [] → good t ≡ read_tree text
    → with_arrays (Ok (st.opens + 1)) st.nodes a.left a.right a.start a.size ≡ tree_read body (read_tree text)
unfolding tree_read arrays_of text_in nodes_in opens_in column_in filled
good_so body {t = t} {st = st} F e =
    let count : st.opens + 1 ≡ length (leaves t) = omega (arith, F.counts.opens, leaves_inner t) in
    let nodes : st.nodes ≡ nodes_of t = omega (arith, F.counts.nodes) in
    let C = F.columns in
    rw (count, nodes, C.left, C.right, C.start, C.size) (ap (tree_read body) e)

ends_by : {text : List ℕ} (body : Body) (ph : Phase) {s : List Opened} {seen : List Label} {st : Scan} {a : Arrays} {i : ℕ}
    → Follows text ph s seen st a i [] → i ≡ length text → expected ph s seen st i [] ≡ read_tree text
    → Ends text body st a (answer_of st.mode text body st a.start a.size)
unfolding answer_of read_from end_of
ends_by {text = text} body node_due {st = st} {a = a} F l e =
    subst (Ends text body st a) (sym (answer_as text body st a.start a.size F.mode))
    (refused_so text body EndsTooSoon (length text) (rw (← l) e))
ends_by {text = text} body (in_label x) {s = s} {seen = seen} {st = st} {a = a} {i = i} F l e =
    subst (Ends text body st a) (sym (answer_as text body st a.start a.size F.mode.0))
    (rw (seen_before F) (go (is_in (spelling x) seen) (rw (told_bare F (run_end is_label_byte)) at e)))
  where
    go : (q : Bool) → cond q (refused Repeated (length (text_in s))) (refused EndsTooSoon i) ≡ read_tree text
        → Ends text body st a (cond q (refusal body Repeated (length (text_in s))) (refusal body EndsTooSoon (length text)))
    go true h = refused_so text body Repeated (length (text_in s)) h
    go false h = refused_so text body EndsTooSoon (length text) (rw (← l) h)
ends_by {text = text} body (in_quotes x) {seen = seen} {st = st} {a = a} F l e =
    subst (Ends text body st a) (sym (answer_as text body st a.start a.size F.mode.0))
    (refused_so text body EndsTooSoon (length text) (rw (← l) (rw (repeats_unclosed seen x [] F.mode.1 (run_end is_inner_byte) none_first) at e)))
ends_by {text = text} body (after_node t) {st = st} {a = a} F l e =
    subst (Ends text body st a) (sym (answer_as text body st a.start a.size F.mode))
    (refused_so text body EndsTooSoon (length text) (rw (← l) e))
ends_by {text = text} body (ended t) {seen = seen} {st = st} {a = a} {i = i} F l e =
    subst (Ends text body st a) (sym (answer_as text body st a.start a.size F.mode.0))
    (good_so body (subst (λ (q : List Opened). Follows text (ended t) q seen st a i []) F.mode.1 F) e)

-- the text ends
module _ (text : List ℕ) (st : Scan) (a : Arrays) (i : ℕ) (S : Simulates text st a i) (body : Body) (x : Result ℕ Refusal) (end : length text ≤ i)
    (answer : x ≡ answer_of st.mode text body st a.start a.size) where
  ends_so : Ends text body st a x
  ends_so =
      let d : drop i text ≡ [] = drop_of_length-le text end in
      let F : Follows text S.ph S.s S.seen st a i []
      = subst (λ (r : List ℕ). Follows text S.ph S.s S.seen st a i r) d S.follows in
      subst (Ends text body st a) (sym answer)
      (ends_by body S.ph F (omega (arith, place_in F)) (ap (expected S.ph S.s S.seen st i) (sym d) ∙ S.told))

pub ends_reader : (text : List ℕ) (m : Mode) (r : Reader) (i : ℕ) (body : Body) (x : Result ℕ Halt) → Simulates text (scan_in m r) (arrays_in r) i
    → length text ≤ i → told body x ≡ answer_of m text body (scan_in m r) r.tree.start r.tree.size
    → told_read body x r.tree ≡ tree_read body (read_tree text)
ends_reader text m r i body (Ok n) S end e = ends_so text (scan_in m r) (arrays_in r) i S body (Ok n) end e
ends_reader text m r i body (Err f) S end e = ends_so text (scan_in m r) (arrays_in r) i S body (refusal body f.0 f.1) end e

-- a reader that has read nothing
pub fresh_so : (e : Edition) (text : List ℕ) (r : Reader) → Fresh e text r → Simulates (in_edition e text) (scan_in Due r) (arrays_in r) 0
unfolding no_arrays
fresh_so e text r f = rw (f.none_open, f.none_read, f.stack_is, f.tree_is) (starts_so (in_edition e text))
