-- What arrays stand for by the tests of the code, and runs of stores joined. Assumes nothing.
use Prim.Native.Nat.{ℕ, suc, ◌+◌, ◌-◌, ◌≤◌, ◌<◌, min}
use mathlib.Core.Path.{◌≡◌, refl, sym, ◌∙◌, ap, ap₂, subst}
use mathlib.Core.Bool.{Bool, true, false, cond, ◌&&◌}
use mathlib.Core.List.{List, [], ◌∷◌, ◌++◌, append_assoc}
use mathlib.Core.Option.{Option, none, some}
use native.Mathlib.Nat.{add-zero, add-suc, suc-add}
use native.Mathlib.Omega.{arith}
use lib.Dec.{eqb, leb}
use lib.ListN.{length, get_or, set, take, drop, replicate, length-append}
use lib.Seq.{sets, sets-eq}
use borrow.Rule.Slice.PartMut.{put_mid}
use Rattle.std.proofs.lemmas.Slice.{put_mid-paste}
use Rattle.std.proofs.lemmas.List.Edits.{paste_all}
use borrow.Author.Tests.{le-leb, lt-leb, eq-eqb, ne_eqb}
use Rattle.trees.specs.declared.Edition.{Edition}
use Rattle.trees.specs.declared.TreeArrays.{TreeArrays}
use Rattle.trees.specs.Tree.{Tree, leaves}
use Rattle.trees.specs.Text.{text_of}
use Rattle.trees.specs.Arrays.{good_nodes, tree_at, Standing, no_leaf, one_tree, no_tree, tree_of}
use Rattle.trees.specs.Edition.{normal_in, normal_text_in}
use Rattle.std.specs.Prelude.{Result, Ok, Err}
use Rattle.writer.specs.declared.WriteError.{WriteError}
use Rattle.writer.specs.declared.WriteError.TheVariants.{NoTree, Refused}
use Rattle.writer.specs.Write.{standing_text, output_too_short, text_answer, text_output, write_answer, output_after}
use Rattle.writer.specs.Passes.{weight_at, weight_cap, root_sum, below, shown_text, node_text, Good, root_tree, root_text}
use Rattle.writer.proofs.PassLaws.{leaves_found, lengths_found, written_bound, normal_length}

-- ---- runs of stores

pub sets_append : (x y l : List ℕ) (i : ℕ) → sets l i (x ++ y) ≡ sets (sets l i x) (i + length x) y
sets_append [] y l i = ap (λ (k : ℕ). sets l k y) (sym (add-zero i))
sets_append (v ∷ x) y l i =
    sets_append x y (set l i v) (suc i)
    ∙ ap (λ (k : ℕ). sets (sets (set l i v) (suc i) x) k y) (suc-add i (length x) ∙ sym (add-suc i (length x)))

-- a text copied over a part of the same length
pub copied : (x y l : List ℕ) (i n : ℕ) → y ≡ x → n ≡ length x → i + length x ≤ length l → put_mid i n l y ≡ sets l i x
copied x y l i n ey en room =
    put_mid-paste i n l y x (length x) ey (sym en) refl
    ∙ paste_all l i x (length x) refl
    ∙ sym (append_assoc (take i l) x (drop (i + length x) l))
    ∙ sym (sets-eq x l i room)

-- ---- what arrays stand for

-- the text is the root's and `;`
pub text_length : (e : Edition) (t : Tree) → length (normal_text_in e t) ≡ length (shown_text (normal_in e t)) + 1
unfolding normal_text_in text_of
text_length e t = length-append (shown_text (normal_in e t)) (59 ∷ [])

-- r is two more than the length of the last node's text, which no edition changes
pub record Found (a : TreeArrays) (text : List ℕ) (r : ℕ) : Type 0 where
  pub some : 2 ≤ r
  pub exact : (e : Edition) → length (leaves (below a text (a.nodes - 1))) ≤ 80
      → r - 2 ≡ length (normal_text_in e (below a text (a.nodes - 1)))

module _ (a : TreeArrays) (text : List ℕ) where
  pub stands_empty : (e : Edition) → a.nodes ≡ 0 → standing_text e (tree_of a text) ≡ some []
  unfolding tree_of standing_text
  stands_empty e h = rw (eq-eqb a.nodes 0 h) refl

  pub stands_long : (e : Edition) → 159 < a.nodes → standing_text e (tree_of a text) ≡ none
  unfolding tree_of standing_text
  stands_long e h = rw (ne_eqb a.nodes 0 (omega arith), lt-leb a.nodes 159 h) refl

  pub stands_bad : (e : Edition) → (a.nodes ≡ 0 → ⊥) → good_nodes a text a.nodes ≡ false → standing_text e (tree_of a text) ≡ none
  unfolding tree_of standing_text
  stands_bad e h bad = go (leb a.nodes 159)
    where
      go : (b : Bool)
          → standing_text e (cond (eqb a.nodes 0) no_leaf
          (cond (b && good_nodes a text a.nodes && leb (length (leaves (tree_at a.nodes a text (a.nodes - 1)))) 80)
          (one_tree (tree_at a.nodes a text (a.nodes - 1))) no_tree))
          ≡ none
      go true = rw (ne_eqb a.nodes 0 h, bad) refl
      go false = rw (ne_eqb a.nodes 0 h) refl

  module _ (g : Good a text) where
    -- the tree as it is read is the root's
    read : Tree
    read = tree_at a.nodes a text (a.nodes - 1)

    root_below : read ≡ below a text (a.nodes - 1)
    unfolding read below
    root_below = ap (λ (k : ℕ). tree_at k a text (a.nodes - 1)) (omega (arith, g.some))

    root_count : length (leaves read) ≡ length (leaves (below a text (a.nodes - 1)))
    root_count = ap (λ (t : Tree). length (leaves t)) root_below

    stands_by : tree_of a text ≡ cond (leb (length (leaves read)) 80) (one_tree read) no_tree
    unfolding tree_of read
    stands_by = rw (ne_eqb a.nodes 0 (omega (arith, g.some)), le-leb a.nodes 159 g.few, g.each) refl

    pub stands_many : (e : Edition) → 80 < length (leaves (below a text (a.nodes - 1))) → standing_text e (tree_of a text) ≡ none
    unfolding standing_text
    stands_many e h =
        ap (standing_text e)
        (stands_by ∙ ap (λ (b : Bool). cond b (one_tree read) no_tree) (lt-leb (length (leaves read)) 80 (omega (arith, root_count))))

    -- at most 80 leaves: the text of the root's tree belongs in the output
    pub stands_tree : (e : Edition) → length (leaves (below a text (a.nodes - 1))) ≤ 80
        → standing_text e (tree_of a text) ≡ some (normal_text_in e (below a text (a.nodes - 1)))
    unfolding standing_text
    stands_tree e h =
        ap (standing_text e)
        (stands_by ∙ ap (λ (b : Bool). cond b (one_tree read) no_tree) (le-leb (length (leaves read)) 80 (omega (arith, root_count))))
        ∙ ap (λ (t : Tree). some (normal_text_in e t)) root_below

    root_last : a.nodes - 1 < a.nodes
    root_last = omega (arith, g.some)

    -- the root's sums tell how many leaves there are, up to 81, and how long the text is
    pub root_leaves : root_sum a.left a.right (replicate 159 0) 1 81 a.nodes ≡ min 81 (length (leaves (below a text (a.nodes - 1))))
    unfolding root_sum
    root_leaves = leaves_found a text a.nodes g.each (replicate 159 0) g.few g.few (a.nodes - 1) root_last

    -- w tells how many bytes each leaf writes, and r is the root's sum
    pub found_length : (w : List ℕ) → ((u : ℕ) → u < a.nodes → get_or w u 0 ≡ weight_at text a.left a.start a.size u)
        → (r : ℕ) → r ≡ root_sum a.left a.right w 3 weight_cap a.nodes → Found a text r
    unfolding root_sum
    found_length w weights r is =
        let sum = lengths_found a text a.nodes g.each w weights (replicate 159 0) g.few (a.nodes - 1) root_last in
        record {
          some = omega (arith, is, sum);
          exact = λ (e : Edition) (h : length (leaves (below a text (a.nodes - 1))) ≤ 80).
              omega (
                arith,
                h,
                is,
                sum,
                written_bound a text a.nodes g.each (a.nodes - 1) root_last,
                normal_length e (below a text (a.nodes - 1)),
                text_length e (below a text (a.nodes - 1)),
              );
        }

-- ---- the answer and the output

-- r is the answer and o the output afterwards, for the text x, if any
abbrev TextDone : Option (List ℕ) → List ℕ → Result ℕ WriteError → List ℕ → Type 0
TextDone x out r o = (r ≡ text_answer x (length out)) × (o ≡ text_output x out)

abbrev pub Done : Edition → Standing → List ℕ → Result ℕ WriteError → List ℕ → Type 0
Done e s out r o = (r ≡ write_answer e s (length out)) × (o ≡ output_after e s out)

pub done_as : (e : Edition) (s : Standing) (x : Option (List ℕ)) (out : List ℕ) (r : Result ℕ WriteError) (o : List ℕ) → standing_text e s ≡ x
    → TextDone x out r o → Done e s out r o
unfolding write_answer output_after
done_as e s x out r o is d = subst (λ (y : Option (List ℕ)). TextDone y out r o) (sym is) d

pub done_none : (out : List ℕ) → TextDone none out (Err NoTree) out
unfolding text_answer text_output
done_none out = (refl, refl)

pub done_empty : (out : List ℕ) → TextDone (some []) out (Ok 0) out
unfolding text_answer text_output
done_empty out = (rw (le-leb 0 (length out) (omega arith)) refl, rw (le-leb 0 (length out) (omega arith)) refl)

module _ (x out : List ℕ) where
  pub done_short : length out < length x → TextDone (some x) out (Err (Refused output_too_short)) out
  unfolding text_answer text_output
  done_short h = (rw (lt-leb (length x) (length out) h) refl, rw (lt-leb (length x) (length out) h) refl)

  pub done_fits : length x ≤ length out → TextDone (some x) out (Ok (length x)) (x ++ drop (length x) out)
  unfolding text_answer text_output
  done_fits h = (rw (le-leb (length x) (length out) h) refl, rw (le-leb (length x) (length out) h) refl)

-- the node's text stored from 0 to j, and `;` at j
pub done_stored : (e : Edition) (t : Tree) (out o : List ℕ) (j : ℕ) → length (normal_text_in e t) ≤ length out
    → j ≡ 0 + length (shown_text (normal_in e t)) → o ≡ sets out 0 (shown_text (normal_in e t))
    → TextDone (some (normal_text_in e t)) out (Ok (j + 1)) (set o j 59)
unfolding normal_text_in text_of
done_stored e t out o j h ej eo =
    let k : j + 1 ≡ length (normal_text_in e t) = omega (arith, text_length e t) in
    let d : 0 + length (normal_text_in e t) ≡ length (normal_text_in e t) = omega arith in (
      ap Ok k ∙ (done_fits (normal_text_in e t) out h).0,
      ap₂ (λ (l : List ℕ) (i : ℕ). set l i 59) eo ej
          ∙ sym (sets_append (shown_text (normal_in e t)) (59 ∷ []) out 0)
          ∙ sets-eq (normal_text_in e t) out 0 (omega arith)
          ∙ ap (λ (i : ℕ). normal_text_in e t ++ drop i out) d
          ∙ (done_fits (normal_text_in e t) out h).1,
    )

-- arrays that fail a test
module _ (e : Edition) (a : TreeArrays) (text out : List ℕ) where
  pub tree_empty : a.nodes ≡ 0 → Done e (tree_of a text) out (Ok 0) out
  tree_empty h = done_as e (tree_of a text) (some []) out (Ok 0) out (stands_empty a text e h) (done_empty out)

  pub tree_long : 159 < a.nodes → Done e (tree_of a text) out (Err NoTree) out
  tree_long h = done_as e (tree_of a text) none out (Err NoTree) out (stands_long a text e h) (done_none out)

  pub tree_bad : (a.nodes ≡ 0 → ⊥) → good_nodes a text a.nodes ≡ false → Done e (tree_of a text) out (Err NoTree) out
  tree_bad h bad = done_as e (tree_of a text) none out (Err NoTree) out (stands_bad a text e h bad) (done_none out)

-- good arrays: the answer and the output by the tests of the code. n is the count of leaves, at most 81, and bytes the text's length.
module _ (e : Edition) (a : TreeArrays) (text : List ℕ) (g : Good a text) (out : List ℕ)
    (n : ℕ) (count : n ≡ min 81 (length (leaves (root_tree a text)))) where
  pub nodes_many : 80 < n → Done e (tree_of a text) out (Err NoTree) out
  nodes_many h =
      done_as e (tree_of a text) none out (Err NoTree) out (stands_many a text g e (omega (arith, count, h))) (done_none out)

  module _ (h : n ≤ 80) where
    pub few_leaves : length (leaves (root_tree a text)) ≤ 80
    few_leaves = omega (arith, count, h)

    module _ (bytes : ℕ) (long : (d : Edition) → length (leaves (root_tree a text)) ≤ 80 → bytes ≡ length (normal_text_in d (root_tree a text))) where
      pub nodes_short : length out < bytes → Done e (tree_of a text) out (Err (Refused output_too_short)) out
      nodes_short k =
          done_as e (tree_of a text) (some (normal_text_in e (root_tree a text))) out (Err (Refused output_too_short)) out
          (stands_tree a text g e few_leaves) (done_short (normal_text_in e (root_tree a text)) out (omega (arith, k, long e few_leaves)))

      module _ (fits : bytes ≤ length out) where
        -- the root's text, and `;` after it
        pub root_fits : length (root_text e a text) < length out
        unfolding node_text
        root_fits = omega (arith, fits, long e few_leaves, text_length e (root_tree a text))

        pub nodes_stored : (o : List ℕ) (j : ℕ) → j ≡ 0 + length (root_text e a text) → o ≡ sets out 0 (root_text e a text)
            → Done e (tree_of a text) out (Ok (j + 1)) (set o j 59)
        unfolding node_text
        nodes_stored o j ej eo =
            done_as e (tree_of a text) (some (normal_text_in e (root_tree a text))) out (Ok (j + 1)) (set o j 59)
            (stands_tree a text g e few_leaves)
            (done_stored e (root_tree a text) out o j (omega (arith, fits, long e few_leaves)) ej eo)
