-- The arrays of a tree as columns of entries, filled from the front as nodes are completed in the order of the text.
-- Assumes nothing.
use Prim.Native.Nat.{ℕ, ◌+◌, ◌-◌, ◌<◌}
use mathlib.Core.Path.{◌≡◌, refl, ap, ap₂, sym, ◌∙◌}
use mathlib.Core.List.{List, [], ◌∷◌, ◌++◌, append_assoc}
use native.Mathlib.Omega.{arith}
use lib.ListN.{length, set, length-append}
use Rattle.trees.specs.Bytes.{open_byte}
use Rattle.trees.specs.Label.{Label}
use Rattle.trees.specs.Tree.{Tree, leaf, node}
use Rattle.trees.specs.Text.{written}
use Rattle.trees.specs.Arrays.{nodes_of, lefts, rights, starts, sizes, padded, node_limit}
use Rattle.newick.specs.ReadTree.{Opened, first, second, Phase, node_due, in_label, in_quotes, after_node, ended}
use Rattle.newick.proofs.OpenNodes.{text_in, nodes_in, second_place}
use Rattle.newick.proofs.Entries.{stored, kept}

-- an array's entries for a tree whose first node has number n and whose text starts at p
abbrev pub Column : Type 0
Column = Tree → ℕ → ℕ → List ℕ

-- a leaf has one entry, an inner node its children's and one more
pub record Columnar (f : Column) (e : Label → ℕ → ℕ → ℕ) (g : Tree → Tree → ℕ → ℕ) : Type 0 where
  pub at_leaf : (x : Label) (n p : ℕ) → f (leaf x) n p ≡ e x n p ∷ []
  pub at_node : (a b : Tree) (n p : ℕ)
      → f (node a b) n p ≡ f a n (p + 1) ++ (f b (n + nodes_of a) (p + 1 + length (written a) + 1) ++ (g a b n ∷ []))

abbrev pub left_column : Column
left_column = λ t n p. lefts t n

abbrev pub right_column : Column
right_column = λ t n p. rights t n

abbrev pub start_column : Column
start_column = λ t n p. starts t p

abbrev pub size_column : Column
size_column = λ t n p. sizes t

pub left_columnar : Columnar left_column (λ x n p. n) (λ a b n. n + nodes_of a - 1)
unfolding lefts
left_columnar = record { at_leaf = λ x n p. refl; at_node = λ a b n p. refl }

pub right_columnar : Columnar right_column (λ x n p. n) (λ a b n. n + nodes_of a + nodes_of b - 1)
unfolding rights
right_columnar = record { at_leaf = λ x n p. refl; at_node = λ a b n p. refl }

pub start_columnar : Columnar start_column (λ x n p. p) (λ a b n. 0)
unfolding starts
start_columnar = record { at_leaf = λ x n p. refl; at_node = λ a b n p. refl }

pub size_columnar : Columnar size_column (λ x n p. length x) (λ a b n. 0)
unfolding sizes
size_columnar = record { at_leaf = λ x n p. refl; at_node = λ a b n p. refl }

-- the entries of the nodes complete before the innermost `(`'s child
unfoldable pub column_in : Column → List Opened → List ℕ
unfolding text_in nodes_in
column_in f [] = []
column_in f (first ∷ s) = column_in f s
column_in f (second t ∷ s) = column_in f s ++ f t (nodes_in s) (length (text_in s) + 1)

-- and with the node that was just read
unfoldable pub filled : Column → List Opened → Phase → List ℕ
unfolding column_in
filled f s node_due = column_in f s
filled f s (in_label x) = column_in f s
filled f s (in_quotes x) = column_in f s
filled f s (after_node t) = column_in f s ++ f t (nodes_in s) (length (text_in s))
filled f s (ended t) = column_in f s ++ f t (nodes_in s) (length (text_in s))

module _ (f : Column) (e : Label → ℕ → ℕ → ℕ) (g : Tree → Tree → ℕ → ℕ) (law : Columnar f e g) where
  pub column_length : (t : Tree) (n p : ℕ) → length (f t n p) ≡ nodes_of t
  unfolding nodes_of
  column_length (leaf x) n p = ap length (law.at_leaf x n p)
  column_length (node a b) n p = go (column_length a n (p + 1)) (column_length b (n + nodes_of a) (p + 1 + length (written a) + 1))
    where
      go : length (f a n (p + 1)) ≡ nodes_of a → length (f b (n + nodes_of a) (p + 1 + length (written a) + 1)) ≡ nodes_of b
          → length (f (node a b) n p) ≡ nodes_of a + nodes_of b + 1
      go ha hb = rw (law.at_node a b n p) (simp length-append (omega arith))

  pub column_in_length : (s : List Opened) → length (column_in f s) ≡ nodes_in s
  unfolding column_in nodes_in
  column_in_length [] = refl
  column_in_length (first ∷ s) = column_in_length s
  column_in_length (second t ∷ s) =
      length-append (column_in f s) (f t (nodes_in s) (length (text_in s) + 1))
      ∙ ap₂ ◌+◌ (column_in_length s) (column_length t (nodes_in s) (length (text_in s) + 1))

  -- a leaf adds its entry
  pub leaf_filled : (s : List Opened) (x : Label)
      → filled f s (after_node (leaf x)) ≡ column_in f s ++ (e x (nodes_in s) (length (text_in s)) ∷ [])
  unfolding filled
  leaf_filled s x = ap (λ (l : List ℕ). column_in f s ++ l) (law.at_leaf x (nodes_in s) (length (text_in s)))

  -- so does an inner node after its two children
  pub node_filled : (s : List Opened) (a t : Tree)
      → filled f s (after_node (node a t)) ≡ filled f (second a ∷ s) (after_node t) ++ (g a t (nodes_in s) ∷ [])
  unfolding filled column_in nodes_in
  node_filled s a t =
      rw (second_place a s, law.at_node a t (nodes_in s) (length (text_in s))) (simp append_assoc)

  -- the array after a leaf is stored
  pub leaf_stored : {l : List ℕ} (s : List Opened) (x : Label) (n v : ℕ) → n ≡ nodes_in s → n < node_limit → v ≡ e x (nodes_in s) (length (text_in s))
      → l ≡ padded (column_in f s) → set l n v ≡ padded (filled f s (after_node (leaf x)))
  leaf_stored s x n v en h ev el =
      stored (column_in f s) (filled f s (after_node (leaf x))) v n (en ∙ sym (column_in_length s)) h
      (leaf_filled s x ∙ ap (λ (w : ℕ). column_in f s ++ (w ∷ [])) (sym ev)) el

  filled_length : (s : List Opened) (t : Tree) → length (filled f s (after_node t)) ≡ nodes_in s + nodes_of t
  unfolding filled
  filled_length s t =
      length-append (column_in f s) (f t (nodes_in s) (length (text_in s)))
      ∙ ap₂ ◌+◌ (column_in_length s) (column_length t (nodes_in s) (length (text_in s)))

  -- and after an inner node is
  pub node_stored : {l : List ℕ} (s : List Opened) (c t : Tree) (n v : ℕ) → n ≡ nodes_in (second c ∷ s) + nodes_of t → n < node_limit
      → v ≡ g c t (nodes_in s) → l ≡ padded (filled f (second c ∷ s) (after_node t))
      → set l n v ≡ padded (filled f s (after_node (node c t)))
  node_stored s c t n v en h ev el =
      stored (filled f (second c ∷ s) (after_node t)) (filled f s (after_node (node c t))) v n (en ∙ sym (filled_length (second c ∷ s) t)) h
      (node_filled s c t ∙ ap (λ (w : ℕ). filled f (second c ∷ s) (after_node t) ++ (w ∷ [])) (sym ev)) el

  -- or where its entry is 0 and nothing is stored
  pub node_kept : {l : List ℕ} (s : List Opened) (c t : Tree) (n : ℕ) → n ≡ nodes_in (second c ∷ s) + nodes_of t → n < node_limit
      → 0 ≡ g c t (nodes_in s) → l ≡ padded (filled f (second c ∷ s) (after_node t)) → l ≡ padded (filled f s (after_node (node c t)))
  node_kept s c t n en h ev el =
      kept (filled f (second c ∷ s) (after_node t)) (filled f s (after_node (node c t)))
      (omega (arith, en, h, filled_length (second c ∷ s) t))
      (node_filled s c t ∙ ap (λ (w : ℕ). filled f (second c ∷ s) (after_node t) ++ (w ∷ [])) (sym ev)) el

pub comma_filled : (f : Column) (s : List Opened) (t : Tree) → filled f (first ∷ s) (after_node t) ≡ filled f (second t ∷ s) node_due
unfolding filled column_in text_in nodes_in
comma_filled f s t = ap (λ (p : ℕ). column_in f s ++ f t (nodes_in s) p) (length-append (text_in s) (open_byte ∷ []))

-- the four arrays of the code so far
pub record Columns (s : List Opened) (ph : Phase) (l r p z : List ℕ) : Type 0 where
  pub left : l ≡ padded (filled left_column s ph)
  pub right : r ≡ padded (filled right_column s ph)
  pub start : p ≡ padded (filled start_column s ph)
  pub size : z ≡ padded (filled size_column s ph)

-- where what is filled stays, the arrays do
pub refilled : {s s' : List Opened} {ph ph' : Phase} {l r p z : List ℕ} → ((f : Column) → filled f s ph ≡ filled f s' ph')
    → Columns s ph l r p z → Columns s' ph' l r p z
refilled h C =
    record {
      left = C.left ∙ ap (λ (w : List ℕ). padded w) (h left_column);
      right = C.right ∙ ap (λ (w : List ℕ). padded w) (h right_column);
      start = C.start ∙ ap (λ (w : List ℕ). padded w) (h start_column);
      size = C.size ∙ ap (λ (w : List ℕ). padded w) (h size_column);
    }

module _ {s : List Opened} {l r p z : List ℕ} where
  pub leaf_columns : {x : Label} (n : ℕ) → Columns s node_due l r p z → n ≡ nodes_in s → n < node_limit
      → Columns s (after_node (leaf x)) (set l n n) (set r n n) (set p n (length (text_in s))) (set z n (length x))
  unfolding filled
  leaf_columns {x = x} n C e h =
      record {
        left = leaf_stored left_column _ _ left_columnar s x n n e h e C.left;
        right = leaf_stored right_column _ _ right_columnar s x n n e h e C.right;
        start = leaf_stored start_column _ _ start_columnar s x n (length (text_in s)) e h refl C.start;
        size = leaf_stored size_column _ _ size_columnar s x n (length x) e h refl C.size;
      }

  pub node_columns : {c t : Tree} (n v : ℕ) → Columns (second c ∷ s) (after_node t) l r p z → n ≡ nodes_in (second c ∷ s) + nodes_of t → n < node_limit
      → v ≡ nodes_in s + nodes_of c - 1
      → Columns s (after_node (node c t)) (set l n v) (set r n (nodes_in (second c ∷ s) + nodes_of t - 1)) p z
  unfolding nodes_in
  node_columns {c = c} {t = t} n v C e h q =
      record {
        left = node_stored left_column _ _ left_columnar s c t n v e h q C.left;
        right = node_stored right_column _ _ right_columnar s c t n (nodes_in s + nodes_of c + nodes_of t - 1) e h refl C.right;
        start = node_kept start_column _ _ start_columnar s c t n e h refl C.start;
        size = node_kept size_column _ _ size_columnar s c t n e h refl C.size;
      }
