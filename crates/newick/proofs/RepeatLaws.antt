-- The comparison of a label with the leaves so far is the test whether it was seen, as decoded. Assumes nothing.
use Prim.Native.Nat.{ℕ, ◌+◌, ◌≤◌}
use mathlib.Core.Path.{◌≡◌, refl, ap, ap₂, sym, ◌∙◌}
use mathlib.Core.Bool.{Bool, false, ◌||◌, or-false}
use mathlib.Core.List.{List, [], ◌∷◌, ◌++◌, map, append_assoc, map-append}
use native.Mathlib.Omega.{arith}
use lib.ListN.{length, length-append}
use Rattle.trees.specs.Bytes.{open_byte, close_byte, comma_byte}
use Rattle.trees.specs.Label.{is_in}
use Rattle.trees.specs.Token.{Token, spelling}
use Rattle.trees.specs.Tree.{Tree, leaf, node, leaves}
use Rattle.trees.specs.Text.{written}
use Rattle.trees.specs.Arrays.{starts, sizes, padded}
use Rattle.trees.specs.Stored.{part_of, is_among}
use Rattle.trees.proofs.ListLaws.{in_append}
use Rattle.trees.proofs.AmongLaws.{part_here, part_same, part_none, among_parts, parts_append, among_parts_lem}
use Rattle.newick.specs.ReadTree.{Opened, first, second}
use Rattle.newick.specs.Machine.{repeat_of}
use Rattle.newick.proofs.OpenNodes.{text_in, nodes_in, leaves_in}
use Rattle.newick.proofs.Columns.{column_in, start_column, size_column, start_columnar, size_columnar, column_length}
use Rattle.newick.proofs.Columns.{column_in_length}

module _ (text : List ℕ) (x : Token) (some : 1 ≤ length (spelling x)) where
  -- one of these tokens stands for the same label
  abbrev held : List Token → Bool
  held ys = is_in (spelling x) (map spelling ys)

  held_append : (ys zs : List Token) → held (ys ++ zs) ≡ (held ys || held zs)
  held_append ys zs = ap (is_in (spelling x)) (map-append spelling ys zs) ∙ in_append (spelling x) (map spelling ys) (map spelling zs)

  -- the label looked for among these places and sizes
  abbrev among : List ℕ → List ℕ → Bool
  among = among_parts text x

  same_sizes : (t : Tree) (p : ℕ) → length (starts t p) ≡ length (sizes t)
  same_sizes t p = column_length start_column _ _ start_columnar t 0 p ∙ sym (column_length size_column _ _ size_columnar t 0 p)

  -- an inner node is no leaf with a label
  no_leaf_lem : (b : Bool) → (b || among (0 ∷ []) (0 ∷ [])) ≡ b
  unfolding among_parts
  no_leaf_lem b = rw (part_none text x 0 some) (or-false b)

  among_node : (a b : Tree) (p q : ℕ) → among (starts a p) (sizes a) ≡ held (leaves a) → among (starts b q) (sizes b) ≡ held (leaves b)
      → among (starts a p ++ (starts b q ++ (0 ∷ []))) (sizes a ++ (sizes b ++ (0 ∷ []))) ≡ held (leaves a ++ leaves b)
  unfolding among_parts
  among_node a b p q ia ib =
      parts_append text x (starts a p) (sizes a) (starts b q ++ (0 ∷ [])) (sizes b ++ (0 ∷ [])) (same_sizes a p)
      ∙ ap₂ ◌||◌ ia
      (parts_append text x (starts b q) (sizes b) (0 ∷ []) (0 ∷ []) (same_sizes b q) ∙ no_leaf_lem (among (starts b q) (sizes b)) ∙ ib)
      ∙ sym (held_append (leaves a) (leaves b))

  among_tree : (t : Tree) (p : ℕ) (pre post : List ℕ) → p ≡ length pre → text ≡ pre ++ (written t ++ post)
      → among (starts t p) (sizes t) ≡ held (leaves t)
  unfolding among_parts starts sizes is_in leaves written
  among_tree (leaf y) p pre post ep e = ap (λ (b : Bool). b || false) (part_same text x y pre post p ep e)
  among_tree (node a b) p pre post ep e =
      among_node a b (p + 1) (p + 1 + length (written a) + 1)
      (among_tree a (p + 1) (pre ++ (open_byte ∷ [])) (comma_byte ∷ (written b ++ (close_byte ∷ post)))
      (omega (arith, ep, length-append pre (open_byte ∷ []))) (e ∙ simp append_assoc))
      (among_tree b (p + 1 + length (written a) + 1) (pre ++ (open_byte ∷ (written a ++ (comma_byte ∷ [])))) (close_byte ∷ post)
      (rw ep (simp length-append (omega arith))) (e ∙ simp append_assoc))

  among_open : (s : List Opened) (post : List ℕ) → text ≡ text_in s ++ post
      → among (column_in start_column s) (column_in size_column s) ≡ held (leaves_in s)
  unfolding among_parts column_in text_in leaves_in is_in
  among_open [] post e = refl
  among_open (first ∷ s) post e = among_open s (open_byte ∷ post) (e ∙ append_assoc (text_in s) (open_byte ∷ []) post)
  among_open (second t ∷ s) post e = go (among_open s (open_byte ∷ (written t ++ (comma_byte ∷ post))) (e ∙ simp append_assoc))
    where
      it : among (starts t (length (text_in s) + 1)) (sizes t) ≡ held (leaves t)
      it =
          among_tree t (length (text_in s) + 1) (text_in s ++ (open_byte ∷ [])) (comma_byte ∷ post)
          (sym (length-append (text_in s) (open_byte ∷ []))) (e ∙ simp append_assoc)

      go : among (column_in start_column s) (column_in size_column s) ≡ held (leaves_in s)
          → among (column_in start_column s ++ starts t (length (text_in s) + 1)) (column_in size_column s ++ sizes t)
          ≡ held (leaves_in s ++ leaves t)
      go ih =
          parts_append text x (column_in start_column s) (column_in size_column s) (starts t (length (text_in s) + 1)) (sizes t)
          (column_in_length start_column _ _ start_columnar s ∙ sym (column_in_length size_column _ _ size_columnar s))
          ∙ ap₂ ◌||◌ ih it
          ∙ sym (held_append (leaves_in s) (leaves t))

  -- the test of the code is the test whether the label was seen
  pub repeat_seen : (s : List Opened) (rest S Z : List ℕ) (k : ℕ) → text ≡ text_in s ++ (x ++ rest) → k ≡ nodes_in s
      → S ≡ padded (column_in start_column s) → Z ≡ padded (column_in size_column s)
      → repeat_of text S Z k (length (text_in s)) (length x) ≡ held (leaves_in s)
  unfolding repeat_of
  repeat_seen s rest S Z k e ek es ez =
      ap (is_among text S Z k) here
      ∙ rw (es, ez) (among_parts_lem text x (column_in start_column s) (column_in size_column s) _ _ k cs cz)
      ∙ among_open s (x ++ rest) e
    where
      here : part_of (length (text_in s)) (length x) text ≡ x
      here = rw e (part_here (text_in s) x rest (length (text_in s)) refl)

      cs : length (column_in start_column s) ≡ k
      cs = column_in_length start_column _ _ start_columnar s ∙ sym ek

      cz : length (column_in size_column s) ≡ k
      cz = column_in_length size_column _ _ size_columnar s ∙ sym ek
