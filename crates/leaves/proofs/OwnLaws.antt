-- The arrays of a valid tree, node by node: its layout and its labels; and what the search for a label finds in them.
-- Assumes nothing.
use Prim.Native.Nat.{ℕ, zero, suc, ◌+◌, ◌-◌, ◌<◌, ◌≤◌, min}
use mathlib.Core.Path.{◌≡◌, refl, sym, ◌∙◌, ap, subst}
use mathlib.Core.Bool.{Bool, true, false, cond}
use mathlib.Core.Logic.{◌⊎◌, inl, inr}
use mathlib.Core.List.{List}
use native.Mathlib.Omega.{arith}
use lib.Dec.{eqb}
use lib.ListN.{length, get_or, replicate}
use borrow.Author.Tests.{ne_eqb, eq-eqb, le-leb}
use Rattle.trees.specs.Label.{Label, same_label, is_in}
use Rattle.trees.specs.Token.{Token, spelling}
use Rattle.trees.specs.Tree.{Tree, leaf, node, leaves, decoded, Valid}
use Rattle.trees.specs.declared.Edition.{Edition}
use Rattle.trees.specs.Edition.{in_edition, folded, keyed, ValidIn}
use Rattle.trees.specs.Text.{text_of}
use Rattle.trees.specs.Arrays.{arrays_of, nodes_of, lefts, rights, starts, sizes, is_leaf, node_limit}
use Rattle.trees.specs.Stored.{part_of}
use Rattle.trees.specs.Postorder.{postorder, subtree, LaidNode, laid_leaf, laid_node, Laid}
use Rattle.trees.proofs.Bools.{bool_cases, clash}
use Rattle.trees.proofs.LabelLaws.{same_eq, eq_same}
use Rattle.trees.proofs.ArrayLaws.{own_stands, good_at, label_inside, few_nodes}
use Rattle.trees.proofs.PostorderLaws.{laid_arrays, length_postorder, label_shown, LeafAt, leaf_at, subtree_in, holds_leaf}
use Rattle.trees.proofs.FoldLaws.{fold_part}
use Rattle.trees.proofs.EditionLaws.{text_folded, arrays_folded, valid_folded, valid_spelled}
use Rattle.trees.proofs.RelabelLaws.{nodes_relabel}
use Rattle.trees.proofs.DecodedLaws.{decoded_nodes, token_of_leaf, leaf_of_token}
use Rattle.leaves.specs.Find.{labelled, leaf_from, found_leaf, found_in, leaf_found_in, ShowsLeaf}
use Rattle.leaves.proofs.FindLaws.{found_here, found_none}
use Rattle.std.proofs.Common.{Some, None}

-- what the search finds in a tree's own arrays
abbrev pub own_found : Tree → Label → ℕ
own_found t x = found_leaf (text_of t) (arrays_of t).left (arrays_of t).start (arrays_of t).size x (nodes_of t)

pub own_laid : (t : Tree) → Laid (arrays_of t).left (arrays_of t).right (postorder t)
unfolding arrays_of
own_laid t = laid_arrays t (replicate (node_limit - length (lefts t 0)) 0) (replicate (node_limit - length (rights t 0)) 0)

-- a leaf is its own left child, and no other node is
laid_own : {ts : List Tree} {l r u : ℕ} {s : Tree} {x : Label} → s ≡ leaf x → LaidNode ts l r u s → l ≡ u
laid_own e (laid_leaf h) = h
laid_own e (laid_node h k) = let z : ◌≡◌ {A = ℕ} 0 1 = cc in absurd (omega arith)

laid_other : {ts : List Tree} {l r u : ℕ} {s a b : Tree} → s ≡ node a b → LaidNode ts l r u s → l < u
laid_other e (laid_leaf h) = let z : ◌≡◌ {A = ℕ} 0 1 = cc in absurd (omega arith)
laid_other e (laid_node h k) = h

pub own_leaf : (t : Tree) (u : ℕ) (x : Label) → u < nodes_of t → subtree (postorder t) u ≡ leaf x → get_or (arrays_of t).left u 0 ≡ u
own_leaf t u x h e = laid_own e (own_laid t u (omega (arith, length_postorder t)))

pub own_inner : (t : Tree) (u : ℕ) (a b : Tree) → u < nodes_of t → subtree (postorder t) u ≡ node a b
    → get_or (arrays_of t).left u 0 < u
own_inner t u a b h e = laid_other e (own_laid t u (omega (arith, length_postorder t)))

-- a leaf's token is the part of the text that its start and size name
pub own_label : (t : Tree) → Valid t → (u : ℕ) (x : Token) → u < nodes_of t → subtree (postorder t) u ≡ leaf x
    → part_of (get_or (arrays_of t).start u 0) (get_or (arrays_of t).size u 0) (text_of t) ≡ x
unfolding part_of is_leaf arrays_of
own_label t v u x h e =
    let i = label_inside (arrays_of t) (text_of t) u (good_at (arrays_of t) (text_of t) (nodes_of t) (own_stands t v).good u h)
    (eq-eqb (get_or (arrays_of t).left u 0) u (own_leaf t u x h e)) in
    rw (le-leb (get_or (arrays_of t).start u 0 + get_or (arrays_of t).size u 0) (length (text_of t)) i.inside)
    (label_shown t (replicate (node_limit - length (starts t 0)) 0) (replicate (node_limit - length (sizes t)) 0) u h x e)

-- and it stands for the label of the decoded tree's leaf
pub own_spelling : (t : Tree) → Valid t → (u : ℕ) (x : Label) → u < nodes_of t → subtree (postorder (decoded t)) u ≡ leaf x
    → spelling (part_of (get_or (arrays_of t).start u 0) (get_or (arrays_of t).size u 0) (text_of t)) ≡ x
own_spelling t v u x h e =
    let f = token_of_leaf t u x h e in
    ap spelling (own_label t v u f.token h f.is) ∙ f.label

abbrev pub own_labelled : Tree → Label → ℕ → Bool
own_labelled t x = labelled (text_of t) (arrays_of t).left (arrays_of t).start (arrays_of t).size x

labelled_leaf : (t : Tree) → Valid t → (u : ℕ) (x : Label) (y : Token) → u < nodes_of t → subtree (postorder t) u ≡ leaf y
    → own_labelled t x u ≡ same_label (spelling y) x
unfolding labelled
labelled_leaf t v u x y h e =
    rw (eq-eqb (get_or (arrays_of t).left u 0) u (own_leaf t u y h e), own_label t v u y h e) refl

labelled_inner : (t : Tree) (u : ℕ) (x : Label) (a b : Tree) → u < nodes_of t → subtree (postorder t) u ≡ node a b
    → own_labelled t x u ≡ false
unfolding labelled
labelled_inner t u x a b h e =
    rw (ne_eqb (get_or (arrays_of t).left u 0) u (λ (k : get_or (arrays_of t).left u 0 ≡ u). omega (arith, own_inner t u a b h e)))
    refl

-- a node passes the test exactly if it is the leaf with the label
pub labelled_is : (t : Tree) → Valid t → (u : ℕ) (x : Label) → u < nodes_of t → own_labelled t x u ≡ true
    → subtree (postorder (decoded t)) u ≡ leaf x
labelled_is t v u x h k = go (subtree (postorder t) u) refl
  where
    go : (s : Tree) → subtree (postorder t) u ≡ s → subtree (postorder (decoded t)) u ≡ leaf x
    go (leaf y) e = leaf_of_token t u y h e ∙ ap leaf (same_eq (spelling y) x (sym (labelled_leaf t v u x y h e) ∙ k))
    go (node a b) e = clash k (labelled_inner t u x a b h e)

pub is_labelled : (t : Tree) → Valid t → (u : ℕ) (x : Label) → u < nodes_of t → subtree (postorder (decoded t)) u ≡ leaf x
    → own_labelled t x u ≡ true
is_labelled t v u x h e =
    let f = token_of_leaf t u x h e in
    labelled_leaf t v u x f.token h f.is ∙ eq_same (spelling f.token) x f.label

-- the search stops at the first node that passes, or passes none
pub data Search (is : ℕ → Bool) (n u r : ℕ) : Type 0 where
  hit : r < u + n → is r ≡ true → Search is n u r
  none : r ≡ u + n → ((k : ℕ) → u ≤ k → k < u + n → is k ≡ false) → Search is n u r

pub search_from : (is : ℕ → Bool) (n u : ℕ) → Search is n u (leaf_from is n u)
unfolding leaf_from
search_from is zero u = none (omega arith) (λ k h l. absurd (omega arith))
search_from is (suc n) u = go (is u) refl (search_from is n (suc u))
  where
    go : (b : Bool) → is u ≡ b → Search is n (suc u) (leaf_from is n (suc u))
        → Search is (suc n) u (cond b u (leaf_from is n (suc u)))
    go true e s = hit (omega arith) e
    go false e (hit h k) = hit (omega arith) k
    go false e (none h k) = none (omega arith) (λ j p q. later j p q (bool_cases (eqb j u)))
      where
        later : (j : ℕ) → u ≤ j → j < u + suc n → (eqb j u ≡ true) ⊎ (eqb j u ≡ false) → is j ≡ false
        later j p q (inl f) = subst (λ (i : ℕ). is i ≡ false) (sym (borrow.Author.Tests.eqb-true j u f)) e
        later j p q (inr f) = k j (omega (arith, borrow.Author.Tests.eqb-false j u f)) (omega arith)

-- the leaf's number where the tree holds the label, and the number of nodes where it does not
pub record Found (t : Tree) (x : Label) (r : ℕ) : Type 0 where
  pub below : r < nodes_of t
  pub is : subtree (postorder t) r ≡ leaf x

found_search : (t : Tree) (x : Label) → Valid t → Search (own_labelled t x) (nodes_of t) 0 (own_found t x)
unfolding found_leaf
found_search t x v =
    let e : min (nodes_of t) node_limit ≡ nodes_of t = omega (arith, few_nodes t v) in
    rw e (search_from (own_labelled t x) (nodes_of t) 0)

pub found : (t : Tree) (x : Label) → Valid t → is_in x (leaves (decoded t)) ≡ true → Found (decoded t) x (own_found t x)
found t x v h = go (found_search t x v) (leaf_at (decoded t) x h)
  where
    go : Search (own_labelled t x) (nodes_of t) 0 (own_found t x) → LeafAt (decoded t) x → Found (decoded t) x (own_found t x)
    go (hit l k) a =
        record { below = omega (arith, decoded_nodes t); is = labelled_is t v (own_found t x) x (omega arith) k }
    go (none e k) a =
        let below : a.at < nodes_of t = omega (arith, a.below, decoded_nodes t) in
        clash (is_labelled t v a.at x below a.is) (k a.at (omega arith) (omega arith))

pub missing : (t : Tree) (x : Label) → Valid t → is_in x (leaves (decoded t)) ≡ false → own_found t x ≡ nodes_of t
missing t x v h = go (found_search t x v)
  where
    go : Search (own_labelled t x) (nodes_of t) 0 (own_found t x) → own_found t x ≡ nodes_of t
    go (hit l k) =
        clash
        (subtree_in (decoded t) (own_found t x) (omega (arith, decoded_nodes t)) x
        (holds_leaf (subtree (postorder (decoded t)) (own_found t x)) x (labelled_is t v (own_found t x) x (omega arith) k)))
        h
    go (none e k) = omega arith

-- by an edition: the tree as it reads it has the same arrays, and its text is the text as it reads that
module _ (e : Edition) (t : Tree) (x : Label) where
  found_folded : found_in e t x ≡ own_found (folded e t) x
  found_folded = rw (text_folded e t, arrays_folded e t, nodes_relabel (in_edition e) t) refl

  pub missing_in : ValidIn e t → is_in x (leaves (keyed e t)) ≡ false → found_in e t x ≡ nodes_of t
  missing_in v h = found_folded ∙ missing (folded e t) x (valid_folded e t v) h ∙ nodes_relabel (in_edition e) t

  -- the leaf that is found has the key
  pub found_shown : ValidIn e t → is_in x (leaves (keyed e t)) ≡ true → ShowsLeaf e t (found_in e t x) x
  unfolding is_leaf
  found_shown v h =
      let w = valid_folded e t v in
      let f : Found (keyed e t) x (found_in e t x) = rw found_folded (found (folded e t) x w h) in
      let below : found_in e t x < nodes_of (folded e t) = omega (arith, f.below, decoded_nodes (folded e t)) in
      let own = token_of_leaf (folded e t) (found_in e t x) x below f.is in
      record {
        below = omega (arith, nodes_relabel (in_edition e) t);
        leaf =
            eq-eqb (get_or (arrays_of t).left (found_in e t x) 0) (found_in e t x)
            (rw (arrays_folded e t) at (own_leaf (folded e t) (found_in e t x) own.token below own.is));
        label =
            ap spelling (sym (fold_part e (get_or (arrays_of t).start (found_in e t x) 0) (get_or (arrays_of t).size (found_in e t x) 0) (text_of t)))
            ∙ (rw (text_folded e t, arrays_folded e t) at (own_spelling (folded e t) w (found_in e t x) x below f.is));
      }

  -- as an option
  nodes_few : ValidIn e t → min (nodes_of t) node_limit ≡ nodes_of t
  nodes_few v = let h = few_nodes t (valid_spelled e t v) in omega arith

  pub found_some_in : ValidIn e t → is_in x (leaves (keyed e t)) ≡ true → leaf_found_in e t x ≡ Some (found_in e t x)
  found_some_in v h =
      let n = nodes_few v in
      sym (found_here _ _ _ _ _ _ (found_in e t x) (omega (arith, (found_shown v h).below, n)) refl)

  pub found_none_in : ValidIn e t → is_in x (leaves (keyed e t)) ≡ false → leaf_found_in e t x ≡ None
  found_none_in v h = sym (found_none _ _ _ _ _ _ (nodes_few v ∙ sym (missing_in v h)))
