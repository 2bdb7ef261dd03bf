-- The rows of ancestor numbers of one rank tell which later ranks clash with it: of three leaves the least common ancestors with the
-- first tell the closer pair. Assumes nothing.
use Prim.Native.Nat.{ℕ, zero, suc, ◌%◌, ◌<◌, min}
use mathlib.Core.Path.{◌≡◌, refl, sym, ◌∙◌, ap, subst}
use mathlib.Core.Bool.{Bool, true, false, not, ◌||◌}
use mathlib.Core.Logic.{inl, inr}
use mathlib.Core.List.{List, [], ◌∷◌}
use native.Mathlib.Omega.{arith}
use lib.ListN.{length, get_or}
use Rattle.trees.specs.Label.{Label, same_label, is_in, distinct}
use Rattle.trees.specs.Tree.{Tree}
use Rattle.trees.specs.Arrays.{arrays_of, nodes_of}
use Rattle.trees.specs.Postorder.{postorder, subtree}
use Rattle.trees.proofs.Bools.{clash}
use Rattle.trees.proofs.LabelLaws.{same_refl, ne_same}
use Rattle.trees.proofs.ListLaws.{at_in, distinct_head, distinct_tail}
use Rattle.trees.proofs.ArrayLaws.{nodes_leaves}
use Rattle.trees.proofs.PostorderLaws.{subtree_in, holds_leaf}
use Rattle.agreement.specs.Closer.{holds, closer, OneOf}
use Rattle.agreement.specs.Answer.{differ, clashing}
use Rattle.agreement.proofs.CloserOnce.{closer_once}
use Rattle.leaves.proofs.OwnLaws.{own_laid}
use Rattle.triples.specs.Clash.{rank_of, RankedTree}
use Rattle.triples.specs.Loops.{LowAt, lca_number, LcaRow, apart_of, clash_at, Tells}
use Rattle.triples.proofs.LcaNumbers.{LcaAt, lca_number_at, closer_number}

-- a label's rank is its position
pub rank_at : (xs : List Label) (k : ℕ) → distinct xs ≡ true → k < length xs → rank_of xs (get_or xs k []) ≡ k
unfolding rank_of
rank_at [] k d h = absurd (omega arith)
rank_at (x ∷ xs) zero d h = rw (same_refl x) refl
rank_at (x ∷ xs) (suc k) d h =
    let l : k < length xs = omega arith in
    let other : same_label (get_or xs k []) x ≡ false =
    ne_same (get_or xs k []) x
    (λ (e : get_or xs k [] ≡ x). clash (subst (λ (y : Label). is_in y xs ≡ true) e (at_in xs k l)) (distinct_head x xs d)) in
    rw other (ap suc (rank_at xs k (distinct_tail x xs d) l))

apart_labels : (xs : List Label) (i j : ℕ) → distinct xs ≡ true → i < j → j < length xs → get_or xs i [] ≡ get_or xs j [] → ⊥
apart_labels xs i j d h k e =
    let r = sym (rank_at xs i d (omega arith)) ∙ ap (rank_of xs) e ∙ rank_at xs j d k in
    omega arith

-- of three tests of which one holds, the first two tell the third
third_test : (x y z : Bool) → OneOf x y z → z ≡ not (x || y)
third_test x y z (inl h) = rw (h.2, h.0) refl
third_test x y z (inr (inl h)) = rw (h.2, h.0, h.1) refl
third_test x y z (inr (inr h)) = rw (h.2, h.0, h.1) refl

two_tell : (x y u v : Bool) → (differ x u || (differ y v || differ (not (x || y)) (not (u || v)))) ≡ (differ x u || differ y v)
unfolding differ
two_tell true true true true = refl
two_tell true true true false = refl
two_tell true true false true = refl
two_tell true true false false = refl
two_tell true false true true = refl
two_tell true false true false = refl
two_tell true false false true = refl
two_tell true false false false = refl
two_tell false true true true = refl
two_tell false true true false = refl
two_tell false true false true = refl
two_tell false true false false = refl
two_tell false false true true = refl
two_tell false false true false = refl
two_tell false false false true = refl
two_tell false false false false = refl

-- one tree's row
module _ (t : Tree) (xs : List Label) (left : List ℕ) (nodes : ℕ) (leaf : List ℕ) (r : RankedTree t xs left nodes leaf)
    (low : List ℕ) (end : ℕ) (e : end ≡ min nodes 159) (filled : (u : ℕ) → u < end → LowAt left low u) where
  end_is : end ≡ nodes_of t
  end_is = omega (arith, e, r.size, nodes_leaves t, r.proper.few)

  own_lows : (u : ℕ) → u < nodes_of t → LowAt (arrays_of t).left low u
  own_lows u h = subst (λ (l : List ℕ). LowAt l low u) r.children (filled u (omega (arith, end_is)))

  held : (i : ℕ) → i < length xs → holds t (get_or xs i []) ≡ true
  unfolding holds
  held i h =
      let a = r.numbered i h in
      subtree_in t (get_or leaf i 0) a.below (get_or xs i []) (holds_leaf (subtree (postorder t) (get_or leaf i 0)) (get_or xs i []) a.is)

  row_at : (n i q : ℕ) (row : List ℕ) → n ≡ length xs → i < n → q < n → LcaRow low end leaf n i row
      → LcaAt t (get_or xs i []) (get_or xs q []) (get_or row q 0)
  row_at n i q row len hi hq f =
      let a = r.numbered i (omega arith) in
      let b = r.numbered q (omega arith) in
      let u = get_or leaf i 0 in
      let v = get_or leaf q 0 in
      let at = lca_number_at t r.proper.different (arrays_of t).left (arrays_of t).right low (own_laid t) own_lows
      (get_or xs i []) (get_or xs q []) u v a.below b.below a.is b.is in
      let m : lca_number low (nodes_of t) u v % 256 ≡ lca_number low (nodes_of t) u v = omega (arith, at.below, nodes_leaves t, r.proper.few) in
      subst (LcaAt t (get_or xs i []) (get_or xs q []))
      (sym (f q hq (omega (arith, a.below, end_is)) (omega (arith, b.below, end_is))
      ∙ ap (λ (z : ℕ). lca_number low z u v % 256) end_is
      ∙ m))
      at

-- both trees' rows
module _ (s t : Tree) (xs : List Label) (d : distinct xs ≡ true) (left1 : List ℕ) (nodes1 : ℕ) (leaf1 left2 : List ℕ) (nodes2 : ℕ)
    (leaf2 : List ℕ) (r1 : RankedTree s xs left1 nodes1 leaf1) (r2 : RankedTree t xs left2 nodes2 leaf2) (low1 low2 : List ℕ)
    (end1 end2 : ℕ) (e1 : end1 ≡ min nodes1 159) (e2 : end2 ≡ min nodes2 159) (f1 : (u : ℕ) → u < end1 → LowAt left1 low1 u)
    (f2 : (u : ℕ) → u < end2 → LowAt left2 low2 u) where
  two_clash : (i j k : ℕ) → i < j → j < k → k < length xs
      → clash_at s t xs i j k
      ≡ (differ (closer s (get_or xs i []) (get_or xs j []) (get_or xs k [])) (closer t (get_or xs i []) (get_or xs j []) (get_or xs k []))
      || differ (closer s (get_or xs i []) (get_or xs k []) (get_or xs j [])) (closer t (get_or xs i []) (get_or xs k []) (get_or xs j [])))
  unfolding clash_at clashing
  two_clash i j k h l m =
      let a = get_or xs i [] in
      let b = get_or xs j [] in
      let c = get_or xs k [] in
      let hi : i < length xs = omega arith in
      let hj : j < length xs = omega arith in
      let ij = apart_labels xs i j d h hj in
      let ik = apart_labels xs i k d (omega arith) m in
      let jk = apart_labels xs j k d l m in
      let h1 = held s xs left1 nodes1 leaf1 r1 low1 end1 e1 f1 in
      let h2 = held t xs left2 nodes2 leaf2 r2 low2 end2 e2 f2 in
      rw (
        third_test (closer s a b c) (closer s a c b) (closer s b c a)
            (closer_once s a b c r1.proper.different ij ik jk (h1 i hi) (h1 j hj) (h1 k m)),
        third_test (closer t a b c) (closer t a c b) (closer t b c a)
            (closer_once t a b c r2.proper.different ij ik jk (h2 i hi) (h2 j hj) (h2 k m)),
      )
      (two_tell (closer s a b c) (closer s a c b) (closer t a b c) (closer t a c b))

  pub rows_tell : (n i : ℕ) (row1 row2 : List ℕ) → n ≡ length xs → i < n → LcaRow low1 end1 leaf1 n i row1
      → LcaRow low2 end2 leaf2 n i row2 → Tells (clash_at s t xs i) i n row1 row2
  unfolding apart_of
  rows_tell n i row1 row2 len hi g1 g2 j k h l m =
      let a = get_or xs i [] in
      let b = get_or xs j [] in
      let c = get_or xs k [] in
      let hj : j < n = omega arith in
      let j1 = row_at s xs left1 nodes1 leaf1 r1 low1 end1 e1 f1 n i j row1 len hi hj g1 in
      let k1 = row_at s xs left1 nodes1 leaf1 r1 low1 end1 e1 f1 n i k row1 len hi m g1 in
      let j2 = row_at t xs left2 nodes2 leaf2 r2 low2 end2 e2 f2 n i j row2 len hi hj g2 in
      let k2 = row_at t xs left2 nodes2 leaf2 r2 low2 end2 e2 f2 n i k row2 len hi m g2 in
      rw (
        two_clash i j k h l (omega arith),
        closer_number s a b c (get_or row1 j 0) (get_or row1 k 0) r1.proper.different j1 k1,
        closer_number s a c b (get_or row1 k 0) (get_or row1 j 0) r1.proper.different k1 j1,
        closer_number t a b c (get_or row2 j 0) (get_or row2 k 0) r2.proper.different j2 k2,
        closer_number t a c b (get_or row2 k 0) (get_or row2 j 0) r2.proper.different k2 j2,
      )
      refl
