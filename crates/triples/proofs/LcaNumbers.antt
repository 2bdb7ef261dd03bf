-- The number of a least common ancestor is the smallest number of a node that holds both leaves, and comparing these numbers
-- tells the closer pair. Assumes nothing.
use Prim.Native.Nat.{ℕ, zero, suc, ◌+◌, ◌-◌, ◌<◌, ◌≤◌, min, max}
use mathlib.Core.Path.{◌≡◌, refl, sym, ◌∙◌, ap}
use mathlib.Core.Bool.{Bool, true, false, not, ◌&&◌}
use mathlib.Core.Logic.{◌⊎◌, inl, inr}
use mathlib.Core.List.{List}
use native.Mathlib.Omega.{arith}
use lib.Dec.{ltb, leb, eqb}
use lib.ListN.{get_or}
use borrow.Author.Tests.{lt-ltb, le-ltb, le-leb, leb-true, ltb-true, ltb-false, eqb-true, eqb-false}
use Rattle.trees.specs.Label.{Label, distinct}
use Rattle.trees.specs.Tree.{Tree, leaf, node, leaves}
use Rattle.trees.specs.Arrays.{nodes_of}
use Rattle.trees.specs.Postorder.{postorder, subtree, LaidNode, laid_leaf, laid_node, Laid}
use Rattle.trees.proofs.Bools.{bool_cases, clash, and_left, and_right, and_intro, refute}
use Rattle.trees.proofs.ArrayLaws.{nodes_pos}
use Rattle.trees.proofs.PostorderLaws.{Third, in_first_lem, in_second_lem, at_last, third, length_postorder, root_last, subtree_in, nested}
use Rattle.trees.proofs.PostorderLaws.{leaf_at, leaf_once, holds_leaf as leaf_held, at_left, at_right, at_root}
use Rattle.agreement.specs.Closer.{holds, lca, closer}
use Rattle.agreement.proofs.HoldsLaws.{distinct_node}
use Rattle.agreement.proofs.CloserLaws.{lca_left, lca_right, lca_top}
use Rattle.leaves.specs.Find.{leaf_from}
use Rattle.triples.specs.Loops.{LowAt, span_from, lca_number}
use Rattle.triples.proofs.LoopLaws.{FirstHit, hit, none, first_hit}

-- the nodes of subtree s, which ends at number w, stand in the tree's numbering from `low` on
record Run (t : Tree) (w : ℕ) (s : Tree) : Type 0 where
  low : ℕ
  ends : low + nodes_of s ≡ w + 1
  each : (i : ℕ) → i < nodes_of s → subtree (postorder t) (low + i) ≡ subtree (postorder s) i

run_left : (a b : Tree) (w : ℕ) (s : Tree) → w < nodes_of a → Run a w s → Run (node a b) w s
run_left a b w s h r =
    record {
      low = r.low;
      ends = r.ends;
      each = λ i k. at_left a b (r.low + i) (omega (arith, r.ends)) ∙ r.each i k;
    }

run_right : (a b : Tree) (w j : ℕ) (s : Tree) → j < nodes_of b → w ≡ nodes_of a + j → Run b j s → Run (node a b) w s
run_right a b w j s h e r =
    record {
      low = nodes_of a + r.low;
      ends = omega (arith, r.ends);
      each = λ i k. at_right a b (nodes_of a + r.low + i) (r.low + i) (omega (arith, r.ends)) (omega arith) ∙ r.each i k;
    }

run_root : (t : Tree) (w : ℕ) → w + 1 ≡ nodes_of t → Run t w t
run_root t w e =
    record {
      low = 0;
      ends = omega arith;
      each = λ i k. let z : 0 + i ≡ i = omega arith in ap (λ (n : ℕ). subtree (postorder t) n) z;
    }

run : (t : Tree) (w : ℕ) → w < nodes_of t → Run t w (subtree (postorder t) w)
unfolding nodes_of postorder
run (leaf x) zero h = run_root (leaf x) 0 (omega arith)
run (leaf x) (suc w) h = absurd (omega arith)
run (node a b) w h = go (third (nodes_of a) (nodes_of b) w h) (λ k. run a w k) (λ j k. run b j k)
  where
    go : Third (nodes_of a) (nodes_of b) w → (w < nodes_of a → Run a w (subtree (postorder a) w))
        → ((j : ℕ) → j < nodes_of b → Run b j (subtree (postorder b) j))
        → Run (node a b) w (subtree (postorder (node a b)) w)
    go (in_first_lem k) f g = rw (at_left a b w k) (run_left a b w (subtree (postorder a) w) k (f k))
    go (in_second_lem j k e) f g = rw (at_right a b w j k e) (run_right a b w j (subtree (postorder b) j) k e (g j k))
    go (at_last e) f g = rw (at_root a b w e) (run_root (node a b) w (omega arith))

-- a leaf stands below a node exactly if its number is in the node's run
module _ (t : Tree) (d : distinct (leaves t) ≡ true) (x : Label) (u : ℕ) (below : u < nodes_of t)
    (is : subtree (postorder t) u ≡ leaf x) (w : ℕ) (s : Tree) (r : Run t w s) where
  run_holds : r.low ≤ u → u ≤ w → holds s x ≡ true
  unfolding holds
  run_holds h k =
      let i = u - r.low in
      let e : r.low + i ≡ u = omega arith in
      let l : i < nodes_of s = omega (arith, r.ends) in
      subtree_in s i l x
      (leaf_held (subtree (postorder s) i) x (sym (r.each i l) ∙ ap (λ (n : ℕ). subtree (postorder t) n) e ∙ is))

  holds_run : w < nodes_of t → holds s x ≡ true → (r.low ≤ u) × (u ≤ w)
  unfolding holds
  holds_run low-w h =
      let a = leaf_at s x h in
      let e = leaf_once t d u (r.low + a.at) below (omega (arith, r.ends, a.below)) x is (r.each a.at a.below ∙ a.is) in
      omega (arith, e, a.below, r.ends)

-- the first node below a node is a leaf, and that of its left child
first_leaf : (s : Tree) → (x : Label) × (subtree (postorder s) 0 ≡ leaf x)
unfolding postorder
first_leaf (leaf x) = (x, refl)
first_leaf (node a b) = let f = first_leaf a in (f.0, at_left a b 0 (nodes_pos a) ∙ f.1)

low_child : (t : Tree) → distinct (leaves t) ≡ true → (w l : ℕ) (a b : Tree) → w < nodes_of t → l < nodes_of t
    → (r : Run t w (node a b)) (q : Run t l a) → q.low ≡ r.low
unfolding nodes_of
low_child t d w l a b hw hl r q =
    let f = first_leaf a in
    let p = nodes_pos a in
    leaf_once t d q.low r.low (omega (arith, q.ends)) (omega (arith, r.ends)) f.0
    (ap (λ (n : ℕ). subtree (postorder t) n) (omega arith) ∙ q.each 0 p ∙ f.1)
    (ap (λ (n : ℕ). subtree (postorder t) n) (omega arith) ∙ r.each 0 (omega arith) ∙ at_left a b 0 p ∙ f.1)

-- the array of first nodes below
module _ (t : Tree) (d : distinct (leaves t) ≡ true) (left right low : List ℕ) (laid : Laid left right (postorder t))
    (filled : (u : ℕ) → u < nodes_of t → LowAt left low u) where
  low_step : (w : ℕ) → w < nodes_of t → (s : Tree) → LaidNode (postorder t) (get_or left w 0) (get_or right w 0) w s → (r : Run t w s)
      → ((l : ℕ) → l < w → (h : l < nodes_of t) → get_or low l 0 ≡ (run t l h).low) → get_or low w 0 ≡ r.low
  unfolding nodes_of
  low_step w h s (laid_leaf e) r ih =
      filled w h ∙ rw (le-ltb (get_or left w 0) w (omega arith)) (omega (arith, r.ends))
  low_step w h s (laid_node hl hr) r ih =
      let l = get_or left w 0 in
      let k : l < nodes_of t = omega arith in
      filled w h
      ∙ rw (lt-ltb l w hl)
      (ih l hl k ∙ low_child t d w l (subtree (postorder t) l) (subtree (postorder t) (get_or right w 0)) h k r (run t l k))

  low_is : (n w : ℕ) → w < n → (h : w < nodes_of t) → get_or low w 0 ≡ (run t w h).low
  low_is zero w l h = absurd (omega arith)
  low_is (suc n) w l h =
      low_step w h (subtree (postorder t) w) (laid w (omega (arith, length_postorder t))) (run t w h)
      (λ v k m. low_is n v (omega arith) m)

-- the smallest number of a node that holds both labels
pub record LcaAt (t : Tree) (a b : Label) (n : ℕ) : Type 0 where
  pub below : n < nodes_of t
  pub first : holds (subtree (postorder t) n) a ≡ true
  pub second : holds (subtree (postorder t) n) b ≡ true
  pub least : (m : ℕ) → m < n → holds (subtree (postorder t) m) a ≡ true → holds (subtree (postorder t) m) b ≡ true → ⊥

-- the search finds it
module _ (t : Tree) (d : distinct (leaves t) ≡ true) (left right low : List ℕ) (laid : Laid left right (postorder t))
    (filled : (u : ℕ) → u < nodes_of t → LowAt left low u) (a b : Label) (u v : ℕ) (below-u : u < nodes_of t)
    (below-v : v < nodes_of t) (is-a : subtree (postorder t) u ≡ leaf a) (is_b : subtree (postorder t) v ≡ leaf b) where
  spans : ℕ → Bool
  spans w = leb (get_or low w 0) (min u v)

  told : (w : ℕ) → w < nodes_of t → max u v ≤ w → spans w ≡ true
      → (holds (subtree (postorder t) w) a ≡ true) × (holds (subtree (postorder t) w) b ≡ true)
  unfolding spans
  told w h k e =
      let r = run t w h in
      let z = low_is t d left right low laid filled (suc w) w (omega arith) h in
      let p = leb-true (get_or low w 0) (min u v) e in (
        run_holds t d a u below-u is-a w (subtree (postorder t) w) r (omega (arith, z, p)) (omega arith),
        run_holds t d b v below-v is_b w (subtree (postorder t) w) r (omega (arith, z, p)) (omega arith),
      )

  tell : (w : ℕ) → w < nodes_of t → holds (subtree (postorder t) w) a ≡ true → holds (subtree (postorder t) w) b ≡ true
      → (max u v ≤ w) × (spans w ≡ true)
  unfolding spans
  tell w h p q =
      let r = run t w h in
      let z = low_is t d left right low laid filled (suc w) w (omega arith) h in
      let k = holds_run t d a u below-u is-a w (subtree (postorder t) w) r h p in
      let l = holds_run t d b v below-v is_b w (subtree (postorder t) w) r h q in
      (omega (arith, k, l), le-leb (get_or low w 0) (min u v) (omega (arith, z, k, l)))

  held : (x : Label) (w : ℕ) → w < nodes_of t → subtree (postorder t) w ≡ leaf x → holds t x ≡ true
  unfolding holds
  held x w h e = subtree_in t w h x (leaf_held (subtree (postorder t) w) x e)

  pub lca_number_at : LcaAt t a b (lca_number low (nodes_of t) u v)
  unfolding lca_number span_from spans
  lca_number_at = go (leaf_from spans (nodes_of t - max u v) (max u v)) (first_hit spans (nodes_of t - max u v) (max u v))
    where
      go : (r : ℕ) → FirstHit spans (nodes_of t - max u v) (max u v) r → LcaAt t a b r
      go r (hit h k e f) =
          let b = told r (omega arith) h e in
          record {
            below = omega arith;
            first = b.0;
            second = b.1;
            least = λ m l p q.
                let g = tell m (omega arith) p q in
                clash g.1 (f m g.0 l);
          }
      go r (none e f) =
          let w = nodes_of t - 1 in
          let one : w + 1 ≡ nodes_of t = omega arith in
          let root = root_last t w one in
          let g =
          tell w (omega arith) (rw root (held a u below-u is-a)) (rw root (held b v below-v is_b)) in
          clash g.1 (f w g.0 (omega arith))

-- that node is the least common ancestor
lca_split : (p q : Tree) (a b : Label) (n : ℕ) → distinct (leaves (node p q)) ≡ true → LcaAt (node p q) a b n
    → (LcaAt p a b n → subtree (postorder p) n ≡ lca p a b)
    → ((j : ℕ) → LcaAt q a b j → subtree (postorder q) j ≡ lca q a b)
    → Third (nodes_of p) (nodes_of q) n → subtree (postorder (node p q)) n ≡ lca (node p q) a b
unfolding holds
lca_split p q a b n d r f g (in_first_lem h) =
    let x : holds p a ≡ true = subtree_in p n h a (rw (at_left p q n h) at r.first) in
    let y : holds p b ≡ true = subtree_in p n h b (rw (at_left p q n h) at r.second) in
    at_left p q n h
    ∙ f
    (record {
      below = h;
      first = rw (at_left p q n h) at r.first;
      second = rw (at_left p q n h) at r.second;
      least = λ m l i j.
          let k : m < nodes_of p = omega arith in r.least m l (rw (at_left p q m k) i) (rw (at_left p q m k) j);
    })
    ∙ sym (lca_left p q a b (and_intro (holds p a) (holds p b) x y))
lca_split p q a b n d r f g (in_second_lem j h e) =
    let i : holds (subtree (postorder q) j) a ≡ true = rw (at_right p q n j h e) at r.first in
    let k : holds (subtree (postorder q) j) b ≡ true = rw (at_right p q n j h e) at r.second in
    let x : holds q a ≡ true = subtree_in q j h a i in
    let y : holds q b ≡ true = subtree_in q j h b k in
    let z : (holds p a && holds p b) ≡ false =
    refute (holds p a && holds p b) (λ m. clash x ((distinct_node p q d).apart a (and_left (holds p a) (holds p b) m))) in
    at_right p q n j h e
    ∙ g j
    (record {
      below = h;
      first = i;
      second = k;
      least = λ m l u v.
          let o : m < nodes_of q = omega arith in
          r.least (nodes_of p + m) (omega arith) (rw (at_right p q (nodes_of p + m) m o refl) u)
          (rw (at_right p q (nodes_of p + m) m o refl) v);
    })
    ∙ sym (lca_right p q a b z (and_intro (holds q a) (holds q b) x y))
lca_split p q a b n d r f g (at_last e) =
    let i = nodes_pos p in
    let j = nodes_pos q in
    let m = nodes_of p - 1 in
    let k : m < nodes_of p = omega arith in
    let root-p : subtree (postorder (node p q)) m ≡ p = at_left p q m k ∙ root_last p m (omega arith) in
    let o = nodes_of q - 1 in
    let l : o < nodes_of q = omega arith in
    let root-q : subtree (postorder (node p q)) (nodes_of p + o) ≡ q =
    at_right p q (nodes_of p + o) o l refl ∙ root_last q o (omega arith) in
    at_root p q n e
    ∙ sym (lca_top p q a b
    (refute (holds p a && holds p b)
    (λ h.
    r.least m (omega arith) (rw root-p (and_left (holds p a) (holds p b) h)) (rw root-p (and_right (holds p a) (holds p b) h))))
    (refute (holds q a && holds q b)
    (λ h.
    r.least (nodes_of p + o) (omega arith) (rw root-q (and_left (holds q a) (holds q b) h))
    (rw root-q (and_right (holds q a) (holds q b) h)))))

pub lca_is : (t : Tree) (a b : Label) (n : ℕ) → distinct (leaves t) ≡ true → LcaAt t a b n → subtree (postorder t) n ≡ lca t a b
unfolding nodes_of postorder lca
lca_is (leaf x) a b zero d r = refl
lca_is (leaf x) a b (suc n) d r = absurd (omega (arith, r.below))
lca_is (node p q) a b n d r =
    let c = distinct_node p q d in
    lca_split p q a b n d r (λ s. lca_is p a b n c.one s) (λ j s. lca_is q a b j c.two s)
    (third (nodes_of p) (nodes_of q) n r.below)

-- of two nodes that hold a leaf, the one with the larger number holds what the other holds
held_later : (t : Tree) → distinct (leaves t) ≡ true → (m n : ℕ) → m < n → n < nodes_of t → (a c : Label)
    → holds (subtree (postorder t) m) a ≡ true → holds (subtree (postorder t) n) a ≡ true
    → holds (subtree (postorder t) m) c ≡ true → holds (subtree (postorder t) n) c ≡ true
unfolding holds
held_later t d m n l h a c p q r = nested t d m n l h a p q c r

-- the key law: a and b are the closer pair exactly if their ancestor has the smaller number
pub closer_number : (t : Tree) (a b c : Label) (n m : ℕ) → distinct (leaves t) ≡ true → LcaAt t a b n → LcaAt t a c m
    → closer t a b c ≡ ltb n m
unfolding closer
closer_number t a b c n m d r s =
    rw (← lca_is t a b n d r) (go (bool_cases (holds (subtree (postorder t) n) c)) (bool_cases (ltb n m)))
  where
    go : (holds (subtree (postorder t) n) c ≡ true) ⊎ (holds (subtree (postorder t) n) c ≡ false)
        → (ltb n m ≡ true) ⊎ (ltb n m ≡ false) → not (holds (subtree (postorder t) n) c) ≡ ltb n m
    go (inl h) (inl k) = absurd (s.least n (ltb-true n m k) r.first h)
    go (inl h) (inr k) = rw (h, k) refl
    go (inr h) (inl k) = rw (h, k) refl
    go (inr h) (inr k) = clash (later (bool_cases (eqb m n))) h
      where
        later : (eqb m n ≡ true) ⊎ (eqb m n ≡ false) → holds (subtree (postorder t) n) c ≡ true
        later (inl e) = rw (← eqb-true m n e) s.second
        later (inr e) =
            held_later t d m n (omega (arith, ltb-false n m k, eqb-false m n e)) r.below a c s.first r.first s.second
