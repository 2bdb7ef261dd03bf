-- From nodes to ranks: the leaves' values by rank, the lines of ranks, and the lines' heads. Assumes nothing.
use Prim.Native.Nat.{ℕ, zero, suc, ◌+◌, ◌<◌, ◌≤◌, min}
use mathlib.Core.Path.{◌≡◌, refl, sym, ◌∙◌, ap}
use mathlib.Core.Bool.{Bool, true, false, cond, not, ◌&&◌}
use mathlib.Core.Logic.{◌⊎◌, inl, inr}
use mathlib.Core.List.{List, []}
use native.Mathlib.Omega.{arith}
use lib.Dec.{eqb}
use lib.ListN.{length, get_or, set, replicate}
use lib.Seq.{get_or-set_same, get_or-set_other}
use borrow.Author.Tests.{eqb-true, eqb-false, ne_eqb}
use Rattle.std.specs.Prelude.{Option, Some, None}
use Rattle.trees.specs.declared.TreeArrays.{TreeArrays}
use Rattle.trees.specs.Label.{Label, is_in}
use Rattle.trees.specs.Tree.{Tree, leaf}
use Rattle.trees.specs.Arrays.{nodes_of}
use Rattle.trees.specs.Postorder.{postorder, subtree, LaidNode, laid_leaf, laid_node}
use Rattle.trees.proofs.Bools.{bool_cases, refute}
use Rattle.trees.proofs.EntryLaws.{store_next}
use Rattle.trees.proofs.ListLaws.{at_in}
use Rattle.trees.proofs.PostorderLaws.{node_leaf, leaf_once, leaf_at}
use Rattle.leaves.specs.Numbered.{LeafIs}
use Rattle.agreement.specs.Closer.{holds}
use Rattle.places.specs.Nodes.{TreeRanks, is_inner, rank_among, LeafNumbers, ValuesByRank, RankNumbers, line_at, HeadOn, no_leaf, leaf_there, LinesByRank}
use Rattle.places.proofs.RankLaws.{once, rank_is, leaf_rank}
use Rattle.places.proofs.UpwardLaws.{inner_yes, inner_no, laid_at}

-- values by rank

module _ {t : Tree} {C K : List Label} {tree : TreeArrays} {rank : List ℕ} {m : ℕ} {ks : List ℕ}
    (g : TreeRanks t C K tree rank m ks) (u a b : ℕ) (values out : List ℕ) (h : u < nodes_of t) (ea : a ≡ get_or tree.left u 0)
    (eb : b ≡ get_or tree.right u 0) (size : length out ≡ 81) (ranks : ValuesByRank t C u values out) where
  -- a leaf that is stored at a common rank has that rank's label
  stored_label_lem : (x : Label) → LeafIs t u x → (r : ℕ) → r < length C → r ≡ min (get_or rank u 0) 80 → get_or C r [] ≡ x
  stored_label_lem x l r k e = go (bool_cases (is_in x C))
    where
      go : (is_in x C ≡ true) ⊎ (is_in x C ≡ false) → get_or C r [] ≡ x
      go (inl c) =
          let i = rank_is C x (once g) c in
          let same : r ≡ rank_among C x = omega (arith, leaf_rank g u x l c, i.0, g.few) in
          ap (λ (n : ℕ). get_or C n []) same ∙ i.1
      go (inr c) = absurd (omega (arith, g.ranked.other u x l c, g.few))

  step : {s : Tree} → LaidNode (postorder t) a b u s → subtree (postorder t) u ≡ s
      → ValuesByRank t C (u + 1) values (cond (is_inner a b u) out (set out (min (get_or rank u 0) 80) (get_or values u 0)))
  step (laid_node la lb) is r v hr hv l = rw (inner_yes a b u la lb) (go (bool_cases (eqb v u)))
    where
      go : (eqb v u ≡ true) ⊎ (eqb v u ≡ false) → get_or out r 0 ≡ get_or values v 0
      go (inl e) =
          absurd
          (node_leaf (subtree (postorder t) a) (subtree (postorder t) b) (get_or C r [])
          (sym is ∙ ap (subtree (postorder t)) (sym (eqb-true v u e)) ∙ l.is))
      go (inr e) = ranks r v hr (omega (arith, eqb-false v u e)) l
  step (laid_leaf {x} e) is r v hr hv l =
      rw (inner_no a b u (omega arith)) (go (bool_cases (eqb r (min (get_or rank u 0) 80))) (bool_cases (eqb v u)))
    where
      own : LeafIs t u x
      own = record { below = h; is = is }

      go : (eqb r (min (get_or rank u 0) 80) ≡ true) ⊎ (eqb r (min (get_or rank u 0) 80) ≡ false) → (eqb v u ≡ true) ⊎ (eqb v u ≡ false)
          → get_or (set out (min (get_or rank u 0) 80) (get_or values u 0)) r 0 ≡ get_or values v 0
      go (inl i) j =
          let same = eqb-true r (min (get_or rank u 0) 80) i in
          let label = stored_label_lem x own r hr same in
          let node : v ≡ u = leaf_once t g.proper.different v u l.below h x (l.is ∙ ap leaf label) is in
          ap (λ (n : ℕ). get_or (set out (min (get_or rank u 0) 80) (get_or values u 0)) n 0) same
          ∙ get_or-set_same out (min (get_or rank u 0) 80) (get_or values u 0) 0 (omega arith) ∙ ap (λ (n : ℕ). get_or values n 0) (sym node)
      go (inr i) (inl j) =
          let held : get_or rank u 0 ≡ r = g.ranked.held u r hr (rw (← eqb-true v u j) l) in
          absurd (omega (arith, held, g.few, eqb-false r (min (get_or rank u 0) 80) i))
      go (inr i) (inr j) =
          get_or-set_other out (min (get_or rank u 0) 80) r (get_or values u 0) 0 (eqb-false r (min (get_or rank u 0) 80) i)
          ∙ ranks r v hr (omega (arith, eqb-false v u j)) l

  pub ranks_more : ValuesByRank t C (u + 1) values (cond (is_inner a b u) out (set out (min (get_or rank u 0) 80) (get_or values u 0)))
  ranks_more = step (rw (ea, eb) (laid_at g u h)) refl

-- node u as it is stored
pub ranks_step : {t : Tree} {C K : List Label} {tree : TreeArrays} {rank : List ℕ} {m : ℕ} {ks : List ℕ} → TreeRanks t C K tree rank m ks
    → (u a b r x : ℕ) (values out out' : List ℕ) → u < nodes_of t → a ≡ get_or tree.left u 0 → b ≡ get_or tree.right u 0
    → r ≡ get_or rank u 0 → x ≡ get_or values u 0 → length out ≡ 81 → out' ≡ cond (is_inner a b u) out (set out (min r 80) x)
    → ValuesByRank t C u values out → ValuesByRank t C (u + 1) values out'
ranks_step g u a b r x values out out' h ea eb er ex size e ranks =
    rw (e, er, ex) (ranks_more g u a b values out h ea eb size ranks)

-- the leaf with a common label
leaf_of : {t : Tree} {C K : List Label} {tree : TreeArrays} {rank : List ℕ} {m : ℕ} {ks : List ℕ} → TreeRanks t C K tree rank m ks
    → (r : ℕ) → r < length C → (u : ℕ) × LeafIs t u (get_or C r [])
unfolding holds
leaf_of {t} {C} g r h =
    let a = leaf_at t (get_or C r []) (g.held (get_or C r []) (at_in C r h)) in
    (a.at, record { below = a.below; is = a.is })

pub rank_numbers : {t : Tree} {C K : List Label} {tree : TreeArrays} {rank : List ℕ} {m : ℕ} {ks : List ℕ} (number top line tops : List ℕ)
    → TreeRanks t C K tree rank m ks → LeafNumbers t C K number top → ValuesByRank t C (nodes_of t) number line
    → ValuesByRank t C (nodes_of t) top tops → RankNumbers t C K line tops
rank_numbers {C = C} number top line tops g numbers by bt = record {
  line_is = λ r h. let l = leaf_of g r h in by r l.0 h l.1.below l.1 ∙ numbers.number_is l.0 (get_or C r []) l.1;
  top_is = λ r h. let l = leaf_of g r h in bt r l.0 h l.1.below l.1 ∙ numbers.top_is l.0 (get_or C r []) l.1;
}

-- lines by rank

none_filled : (n i : ℕ) → get_or (replicate {A = Option ℕ} n None) i None ≡ None
none_filled zero i = refl
none_filled (suc n) zero = refl
none_filled (suc n) (suc i) = none_filled n i

module _ (number one two tops : List ℕ) where
  pub lines_none : (line : List ℕ) (heads : List (Option ℕ)) → heads ≡ replicate {A = Option ℕ} 160 None → LinesByRank 0 number one two tops line heads
  lines_none line heads e = record {
    each = λ r h. absurd (omega arith);
    head_on = λ j h. no_leaf (ap (λ (l : List (Option ℕ)). get_or l j None) e ∙ none_filled 160 j) (λ r l. absurd (omega arith));
  }

  module _ (r j : ℕ) (line : List ℕ) (heads : List (Option ℕ)) (h : r < 80) (small : j ≤ 159) (sl : length line ≡ 81) (sh : length heads ≡ 160)
      (is : j ≡ line_at (get_or number r 0) (get_or one r 0) (get_or two r 0)) (lines : LinesByRank r number one two tops line heads) where
    kept : (i : ℕ) (n : Option ℕ) → (i ≡ j → ⊥) → HeadOn r line tops i n → HeadOn (r + 1) (set line r j) tops i n
    kept i n d (no_leaf e f) = no_leaf e (λ q l k. go q l k (bool_cases (eqb q r)))
      where
        go : (q : ℕ) → q < r + 1 → get_or (set line r j) q 0 ≡ i → (eqb q r ≡ true) ⊎ (eqb q r ≡ false) → ⊥
        go q l k (inl c) =
            d (sym k ∙ ap (λ (n : ℕ). get_or (set line r j) n 0) (eqb-true q r c) ∙ get_or-set_same line r j 0 (omega arith))
        go q l k (inr c) =
            f q (omega (arith, eqb-false q r c)) (sym (get_or-set_other line r q j 0 (eqb-false q r c)) ∙ k)
    kept i n d (leaf_there q l k e) =
        leaf_there q (omega arith) (get_or-set_other line r q j 0 (omega arith) ∙ k) e

    head_next : (i : ℕ) → i < 160 → (eqb i j ≡ true) ⊎ (eqb i j ≡ false)
        → HeadOn (r + 1) (set line r j) tops i (get_or (set heads j (Some (get_or tops r 0))) i None)
    head_next i l (inl e) =
        let same = eqb-true i j e in
        leaf_there r (omega arith) (get_or-set_same line r j 0 (omega arith) ∙ sym same)
        (ap (λ (n : ℕ). get_or (set heads j (Some (get_or tops r 0))) n None) same ∙ get_or-set_same heads j (Some (get_or tops r 0)) None (omega arith))
    head_next i l (inr e) =
        rw (get_or-set_other heads j i (Some (get_or tops r 0)) None (eqb-false i j e))
        (kept i (get_or heads i None) (eqb-false i j e) (lines.head_on i l))

    pub lines_more : LinesByRank (r + 1) number one two tops (set line r j) (set heads j (Some (get_or tops r 0)))
    lines_more = record {
      each =
          store_next (λ k x. x ≡ line_at (get_or number k 0) (get_or one k 0) (get_or two k 0)) line r j (omega arith) lines.each is;
      head_on = λ i l. head_next i l (bool_cases (eqb i j));
    }

-- a leaf is on line j exactly if it is not required and both its places have that number
pub line_test : (n a b j : ℕ) (k : Bool) → eqb n 0 ≡ not k → a < 159 → j < 159 → eqb (line_at n a b) j ≡ (not k && (eqb a j && eqb b j))
unfolding line_at
line_test n a b j true e ha hj = rw (e, ne_eqb 159 j (omega arith)) refl
line_test n a b j false e ha hj = rw e (go (bool_cases (eqb a b)) (bool_cases (eqb a j)))
  where
    go : (eqb a b ≡ true) ⊎ (eqb a b ≡ false) → (eqb a j ≡ true) ⊎ (eqb a j ≡ false)
        → eqb (cond (eqb a b) (min a 159) 159) j ≡ (eqb a j && eqb b j)
    go (inl c) (inl d) =
        let m : min a 159 ≡ a = omega arith in
        rw (c, m, d) (sym (ap (λ (i : ℕ). eqb i j) (sym (eqb-true a b c)) ∙ d))
    go (inl c) (inr d) =
        let m : min a 159 ≡ a = omega arith in
        rw (c, m, d) refl
    go (inr c) (inl d) =
        rw (c, ne_eqb 159 j (omega arith), d)
        (sym (refute (eqb b j) (λ f. eqb-false a b c (eqb-true a j d ∙ sym (eqb-true b j f)))))
    go (inr c) (inr d) = rw (c, ne_eqb 159 j (omega arith), d) refl

-- a line is a place's number in the first tree, or 159
pub line_cases : (n a b : ℕ) → a < 159 → (line_at n a b ≡ a) ⊎ (line_at n a b ≡ 159)
unfolding line_at
line_cases n a b h = go (eqb n 0) (eqb a b)
  where
    go : (p q : Bool) → (cond p (cond q (min a 159) 159) 159 ≡ a) ⊎ (cond p (cond q (min a 159) 159) 159 ≡ 159)
    go true true = inl (omega arith)
    go true false = inr refl
    go false q = inr refl

-- the label of rank r as it is stored
pub lines_step : (number one two tops : List ℕ) (r j x : ℕ) (line : List ℕ) (heads : List (Option ℕ)) (line' : List ℕ) (heads' : List (Option ℕ)) → r < 80 → j ≤ 159 → length line ≡ 81
    → length heads ≡ 160 → j ≡ line_at (get_or number r 0) (get_or one r 0) (get_or two r 0) → x ≡ get_or tops r 0 → line' ≡ set line r j
    → heads' ≡ set heads j (Some x) → LinesByRank r number one two tops line heads → LinesByRank (r + 1) number one two tops line' heads'
lines_step number one two tops r j x line heads line' heads' h small sl sh is ex el eh lines =
    rw (el, eh, ex) (lines_more number one two tops r j line heads h small sl sh is lines)
