-- One test of a node, one entry of a pass: a step of the code against its definition. Assumes nothing.
use Prim.Native.Nat.{ℕ, ◌+◌, ◌-◌, ◌≤◌, ◌<◌, min}
use mathlib.Core.Path.{◌≡◌, refl, sym, ◌∙◌, ap, ap₂}
use mathlib.Core.Bool.{Bool, true, false, cond}
use mathlib.Core.Logic.{◌⊎◌, inl, inr}
use mathlib.Core.List.{List, ◌++◌}
use native.Mathlib.Numerals.{add-one}
use native.Mathlib.Omega.{arith}
use lib.Dec.{ltb, leb}
use lib.ListN.{length, get_or, take, replicate, length-append, length-take, length-replicate}
use borrow.Author.Tests.{le-leb, lt-leb, lt-ltb, le-ltb, eq-eqb, ne_eqb}
use Rattle.trees.specs.declared.Edition.{Edition}
use Rattle.trees.specs.declared.Edition.TheVariants.{One}
use Rattle.trees.specs.declared.TreeArrays.{TreeArrays}
use Rattle.trees.specs.Label.{Label, label_limit, label_less}
use Rattle.trees.specs.Token.{Token, spelling, token_of, token_limit}
use Rattle.trees.specs.Arrays.{is_leaf, label_at, good_node, good_nodes}
use Rattle.trees.specs.Edition.{in_edition, key}
use Rattle.trees.specs.Stored.{StoredLabel, ShownLabel, stored_bytes, stored_of, shown_bytes, shown_of, part_of, leaf_label, leaf_spelling}
use Rattle.trees.proofs.Bools.{bool_cases, clash, and_intro}
use Rattle.trees.proofs.ArrayLaws.{good_at}
use Rattle.trees.proofs.FoldLaws.{leaf_key, one_itself}
use Rattle.writer.specs.Passes.{leaf_token, weight_at, sum_at, least_at, goes_first}

-- ---- the test of a node; l, r, s and n are its entries

module _ (a : TreeArrays) (text : List ℕ) (u l : ℕ) (is-left : l ≡ get_or a.left u 0) where
  module _ (s n : ℕ) (is-start : s ≡ get_or a.start u 0) (is-size : n ≡ get_or a.size u 0) (own-child : l ≡ u) where
    pub past_end : length text < s + n → false ≡ good_node a text u
    unfolding good_node is_leaf
    past_end h =
        rw (eq-eqb (get_or a.left u 0) u (sym is-left ∙ own-child), lt-leb (get_or a.start u 0 + get_or a.size u 0) (length text) (omega arith)) refl

    -- x is the part of the text that the entries name
    pub label_test : s + n ≤ length text → (x : Token) → x ≡ part_of s n text → (k : ℕ) → k ≡ length (spelling x)
        → leb k label_limit ≡ good_node a text u
    unfolding good_node is_leaf label_at part_of
    label_test h x ex k ek =
        let inside = le-leb (get_or a.start u 0 + get_or a.size u 0) (length text) (omega arith) in
        let named = ex ∙ ap₂ (λ (i j : ℕ). part_of i j text) is-start is-size in
        let is : k ≡ length (spelling (label_at a text u)) = ek ∙ ap (λ (y : Token). length (spelling y)) (rw inside at named) in
        rw (eq-eqb (get_or a.left u 0) u (sym is-left ∙ own-child), inside) (ap (λ (m : ℕ). leb m label_limit) is)

  pub children_test : (r : ℕ) → r ≡ get_or a.right u 0 → (l ≡ u → ⊥) → l < u → ltb r u ≡ good_node a text u
  unfolding good_node is_leaf
  children_test r e f h =
      rw (ne_eqb (get_or a.left u 0) u (λ (k : get_or a.left u 0 ≡ u). f (is-left ∙ k)), lt-ltb (get_or a.left u 0) u (omega arith))
      (ap (λ (k : ℕ). ltb k u) e)

  pub children_late : (l ≡ u → ⊥) → u ≤ l → false ≡ good_node a text u
  unfolding good_node is_leaf
  children_late f h =
      rw (ne_eqb (get_or a.left u 0) u (λ (k : get_or a.left u 0 ≡ u). f (is-left ∙ k)), le-ltb (get_or a.left u 0) u (omega arith))

pub good_fails : (a : TreeArrays) (text : List ℕ) (n u : ℕ) → u < n → good_node a text u ≡ false → false ≡ good_nodes a text n
good_fails a text n u h e = go (bool_cases (good_nodes a text n))
  where
    go : (good_nodes a text n ≡ true) ⊎ (good_nodes a text n ≡ false) → false ≡ good_nodes a text n
    go (inl g) = clash (good_at a text n g u h) e
    go (inr g) = sym g

pub good_more : (a : TreeArrays) (text : List ℕ) (u : ℕ) → good_nodes a text u ≡ true → good_node a text u ≡ true
    → good_nodes a text (u + 1) ≡ true
unfolding good_nodes
good_more a text u g e = rw (add-one u) (and_intro (good_nodes a text u) (good_node a text u) g e)

-- ---- what a leaf is compared by

-- x and y are the leaves that t names, a and b their tokens
pub order_told : (e : Edition) (text s z t : List ℕ) (i j x y : ℕ) → x ≡ get_or t i 0 → y ≡ get_or t j 0
    → (a b : Token) → a ≡ leaf_label text s z x → b ≡ leaf_label text s z y
    → (r : Bool) → r ≡ label_less (key e a) (key e b) → r ≡ goes_first (in_edition e text) s z t i j
unfolding goes_first
order_told e text s z t i j x y ex ey a b ea eb r er =
    er
    ∙ ap₂ (λ (p q : Token). label_less (key e p) (key e q)) (ea ∙ ap (leaf_label text s z) ex) (eb ∙ ap (leaf_label text s z) ey)
    ∙ ap₂ label_less (leaf_key e text s z (get_or t i 0)) (leaf_key e text s z (get_or t j 0))

-- ---- what a leaf writes, by edition 1 as it stands

-- as many bytes count as are shown
shown_length : (x : Label) → (shown_of x).len ≡ length (shown_bytes (shown_of x))
unfolding shown_of shown_bytes
shown_length x =
    omega (
      arith,
      length-take (min (length (token_of x)) token_limit) (take token_limit (token_of x) ++ replicate (token_limit - length (token_of x)) 0),
      length-append (take token_limit (token_of x)) (replicate (token_limit - length (token_of x)) 0),
      length-take token_limit (token_of x),
      length-replicate {A = ℕ} (token_limit - length (token_of x)) 0,
    )

-- what the code answers for leaf u: x is its label as it is kept, and y as it is shown
module _ (text s z : List ℕ) (u : ℕ) (x : StoredLabel) (ex : x ≡ stored_of (leaf_spelling (in_edition One text) s z u)) (y : ShownLabel)
    (ey : y ≡ shown_of (stored_bytes x)) where
  kept_as : x ≡ stored_of (leaf_spelling text s z u)
  kept_as = ex ∙ ap (λ (t : List ℕ). stored_of (leaf_spelling t s z u)) (one_itself text)

  pub token_bytes : shown_bytes y ≡ leaf_token text s z u
  unfolding leaf_token
  token_bytes = ap shown_bytes ey ∙ ap (λ (k : StoredLabel). shown_bytes (shown_of (stored_bytes k))) kept_as

  pub token_count : y.len ≡ length (leaf_token text s z u)
  unfolding leaf_token
  token_count =
      ap (λ (k : ShownLabel). k.len) ey
      ∙ shown_length (stored_bytes x)
      ∙ ap (λ (k : StoredLabel). length (shown_bytes (shown_of (stored_bytes k)))) kept_as

  pub token_few : y.len ≤ token_limit
  unfolding shown_of
  token_few = rw ey (omega arith)

pub weight_leaf : (text l s z : List ℕ) (u : ℕ) → get_or l u 0 ≡ u → length (leaf_token text s z u) ≡ weight_at text l s z u
unfolding weight_at
weight_leaf text l s z u e = rw (eq-eqb (get_or l u 0) u e) refl

pub weight_node : (text l s z : List ℕ) (u : ℕ) → (get_or l u 0 ≡ u → ⊥) → 0 ≡ weight_at text l s z u
unfolding weight_at
weight_node text l s z u ne = rw (ne_eqb (get_or l u 0) u ne) refl

-- ---- an entry of a pass; v is what the code answers

module _ (l r w : List ℕ) (plus cap : ℕ) (t : List ℕ) (u : ℕ) where
  pub sum_leaf : get_or l u 0 ≡ u → (x : ℕ) → x ≡ get_or w u 0 → (v : ℕ) → v ≡ min cap (x + plus) → v ≡ sum_at l r w plus cap t u
  unfolding sum_at
  sum_leaf e x ex v ev = rw (eq-eqb (get_or l u 0) u e) (ev ∙ ap (λ (k : ℕ). min cap (k + plus)) ex)

  pub sum_node : (i j : ℕ) → i ≡ get_or l u 0 → j ≡ get_or r u 0 → (i ≡ u → ⊥) → (x y : ℕ) → x ≡ get_or t i 0 → y ≡ get_or t j 0
      → (v : ℕ) → v ≡ min cap (x + y) → v ≡ sum_at l r w plus cap t u
  unfolding sum_at
  sum_node i j ei ej ne x y ex ey v ev =
      rw (ne_eqb (get_or l u 0) u (λ (k : get_or l u 0 ≡ u). ne (ei ∙ k)))
      (ev ∙ ap₂ (λ (p q : ℕ). min cap (p + q)) (ex ∙ ap (λ (k : ℕ). get_or t k 0) ei) (ey ∙ ap (λ (k : ℕ). get_or t k 0) ej))

module _ (text l r s z t : List ℕ) (u : ℕ) where
  pub least_leaf : get_or l u 0 ≡ u → u ≡ least_at text l r s z t u
  unfolding least_at
  least_leaf e = rw (eq-eqb (get_or l u 0) u e)

  pub least_node : (i j : ℕ) → i ≡ get_or l u 0 → j ≡ get_or r u 0 → (i ≡ u → ⊥) → (b : Bool) → b ≡ goes_first text s z t i j
      → (x y : ℕ) → x ≡ get_or t i 0 → y ≡ get_or t j 0 → (v : ℕ) → v ≡ cond b x y → v ≡ least_at text l r s z t u
  unfolding least_at
  least_node i j ei ej ne b eb x y ex ey v ev =
      rw (ne_eqb (get_or l u 0) u (λ (k : get_or l u 0 ≡ u). ne (ei ∙ k)))
      (ev ∙ ap₂ (cond b) (ex ∙ ap (λ (k : ℕ). get_or t k 0) ei) (ey ∙ ap (λ (k : ℕ). get_or t k 0) ej)
      ∙ ap (λ (d : Bool). cond d (get_or t (get_or l u 0) 0) (get_or t (get_or r u 0) 0)) (eb ∙ ap₂ (goes_first text s z t) ei ej))
