-- From the root down: whatever a node passes on to its children is right, so each leaf ends with the number of its place and the rank of
-- that place's head. Assumes nothing.
use Prim.Native.Nat.{ℕ, ◌+◌, ◌-◌, ◌*◌, ◌<◌, ◌≤◌, min}
use mathlib.Core.Path.{◌≡◌, refl, sym, ◌∙◌, ap}
use mathlib.Core.Bool.{true, false}
use mathlib.Core.Logic.{◌⊎◌, inl, inr}
use mathlib.Core.List.{List}
use native.Mathlib.Omega.{arith}
use native.Mathlib.Decide.{dec_lt}
use lib.Dec.{eqb}
use lib.ListN.{length, get_or, set, replicate, length-set}
use lib.Seq.{get_or-set_same, get_or-set_other}
use borrow.Author.Tests.{eqb-true, eqb-false}
use Rattle.trees.specs.declared.TreeArrays.{TreeArrays}
use Rattle.trees.specs.Label.{Label, is_in, distinct}
use Rattle.trees.specs.Tree.{Tree, leaf, node, leaves}
use Rattle.trees.specs.Arrays.{nodes_of, lefts, rights, arrays_of, node_limit}
use Rattle.trees.specs.Postorder.{postorder, subtree, LaidNode, laid_leaf, laid_node}
use Rattle.trees.proofs.Bools.{bool_cases, clash, refute}
use Rattle.trees.proofs.ArrayLaws.{nodes_pos}
use Rattle.trees.proofs.PostorderLaws.{root_last, each_subtree, ParentIs, parent_of}
use Rattle.leaves.specs.Numbered.{LeafIs}
use Rattle.agreement.specs.Closer.{holds}
use Rattle.agreement.proofs.HoldsLaws.{holds_self, holds_left, holds_right, distinct_node}
use Rattle.pieces.specs.Pieces.{required_in, number_below, line_in}
use Rattle.places.specs.Nodes.{TreeRanks, least_rank, BelowIs, child_number, child_top, down_in, top_below, top_in, PassedOn, LeafNumbers}
use Rattle.places.proofs.RankLaws.{number_by_rank}
use Rattle.places.proofs.UpwardLaws.{filled, laid_at, nodes_few}

-- one step down

line_left : (K : List Label) (p q : Tree) (x : Label) (n : ℕ) → holds p x ≡ true
    → line_in K (node p q) x n ≡ line_in K p x (number_below K p q n)
unfolding line_in
line_left K p q x n h = rw h refl

line_right : (K : List Label) (p q : Tree) (x : Label) (n : ℕ) → holds p x ≡ false
    → line_in K (node p q) x n ≡ line_in K q x (number_below K q p n)
unfolding line_in
line_right K p q x n h = rw h refl

top_left : (C K : List Label) (p q : Tree) (x : Label) (n : ℕ) → holds p x ≡ true
    → down_in (top_below C K) (node p q) x n ≡ down_in (top_below C K) p x (top_below C K p q n)
unfolding down_in
top_left C K p q x n h = rw h refl

top_right : (C K : List Label) (p q : Tree) (x : Label) (n : ℕ) → holds p x ≡ false
    → down_in (top_below C K) (node p q) x n ≡ down_in (top_below C K) q x (top_below C K q p n)
unfolding down_in
top_right C K p q x n h = rw h refl

-- the number n and the head h of a subtree lead to those of each leaf below
pub record LeadsDown (t : Tree) (C K : List Label) (v : Tree) (n h : ℕ) : Type 0 where
  pub line : (x : Label) → holds v x ≡ true → line_in K t x (2 * length K - 2) ≡ line_in K v x n
  pub top : (x : Label) → holds v x ≡ true → top_in C K t x ≡ down_in (top_below C K) v x h

-- node v is the root, or a child of a node from u on
pub data Reached (left right : List ℕ) (nodes u v : ℕ) : Type 0 where
  is_root : v + 1 ≡ nodes → Reached left right nodes u v
  has_parent : (w : ℕ) → u ≤ w → w < nodes → get_or left w 0 < w → (get_or left w 0 ≡ v) ⊎ (get_or right w 0 ≡ v)
      → Reached left right nodes u v

-- all nodes that are reached have the right number and head
abbrev pub Reaching : Tree → List Label → List Label → TreeArrays → ℕ → List ℕ → List ℕ → Type 0
Reaching t C K tree u number top =
    (v : ℕ) → v < nodes_of t → Reached tree.left tree.right (nodes_of t) u v
    → LeadsDown t C K (subtree (postorder t) v) (get_or number v 0) (get_or top v 0)

module _ {t : Tree} {C K : List Label} {tree : TreeArrays} {rank : List ℕ} {m : ℕ} {ks : List ℕ}
    (g : TreeRanks t C K tree rank m ks) where
  sub_distinct : (u : ℕ) → u < nodes_of t → distinct (leaves (subtree (postorder t) u)) ≡ true
  sub_distinct u h =
      each_subtree (λ s. distinct (leaves s) ≡ true) (λ a b d. (distinct_node a b d).one) (λ a b d. (distinct_node a b d).two) t
      g.proper.different u h

  parent : (v : ℕ) → v + 1 < nodes_of t → (j : ℕ) × ParentIs tree.left tree.right (nodes_of t) v j
  unfolding arrays_of
  parent v h =
      rw (g.left_are, g.right_are)
      (parent_of t (replicate (node_limit - length (lefts t 0)) 0) (replicate (node_limit - length (rights t 0)) 0) v h)

  -- the root
  pub reach_root : (number top : List ℕ) (i : ℕ) → i + 1 ≡ nodes_of t → get_or number i 0 ≡ 2 * length K - 2
      → get_or top i 0 ≡ least_rank C K (subtree (postorder t) i) → Reaching t C K tree (nodes_of t) number top
  reach_root number top i e n h v l (has_parent w a b c d) = absurd (omega arith)
  reach_root number top i e n h v l (is_root r) =
      let same : v ≡ i = omega arith in
      let whole : subtree (postorder t) i ≡ t = root_last t i e in
      rw (same, n, h, whole) (record { line = λ x k. refl; top = λ x k. unfold top_in in refl })

  -- a later node has been reached
  reached : (u v : ℕ) → v < nodes_of t → u ≤ v + 1 → Reached tree.left tree.right (nodes_of t) u v
  reached u v h l = go (dec_lt (v + 1) (nodes_of t))
    where
      go : Dec (v + 1 < nodes_of t) → Reached tree.left tree.right (nodes_of t) u v
      go (yes k) = let p = parent v k in has_parent p.0 (omega (arith, p.1.later)) p.1.below p.1.inner p.1.child
      go (no k) = is_root (omega arith)

  -- children of an inner node
  module _ (p q : Tree) (n h : ℕ) (d : distinct (leaves (node p q)) ≡ true) (leads : LeadsDown t C K (node p q) n h) where
    apart : (x : Label) → holds q x ≡ true → holds p x ≡ false
    unfolding holds
    apart x k = refute (is_in x (leaves p)) (λ j. clash k ((distinct_node p q d).apart x j))

    leads_left : LeadsDown t C K p (child_number (required_in K p) (required_in K q) (least_rank C K p) (least_rank C K q) n)
        (child_top (required_in K p) (required_in K q) (least_rank C K p) h)
    leads_left = record {
      line = λ x k.
          leads.line x (holds_left p q x k) ∙ line_left K p q x n k
          ∙ ap (line_in K p x)
          (number_by_rank C K g.few g.ordered g.within p q n (distinct_node p q d).one (distinct_node p q d).two);
      top = λ x k. leads.top x (holds_left p q x k) ∙ top_left C K p q x h k ∙ (unfold top_below in refl);
    }

    leads_right : LeadsDown t C K q (child_number (required_in K q) (required_in K p) (least_rank C K q) (least_rank C K p) n)
        (child_top (required_in K q) (required_in K p) (least_rank C K q) h)
    leads_right = record {
      line = λ x k.
          leads.line x (holds_right p q x k) ∙ line_right K p q x n (apart x k)
          ∙ ap (line_in K q x)
          (number_by_rank C K g.few g.ordered g.within q p n (distinct_node p q d).two (distinct_node p q d).one);
      top = λ x k. leads.top x (holds_right p q x k) ∙ top_right C K p q x h (apart x k) ∙ (unfold top_below in refl);
    }

  -- stores at a and b
  stored : (P : ℕ → ℕ → ℕ → Type 0) (number top : List ℕ) (a b x y z w v : ℕ) → a < length number → b < length number
      → a < length top → b < length top → P a x z → P b y w → ((v ≡ a → ⊥) → (v ≡ b → ⊥) → P v (get_or number v 0) (get_or top v 0))
      → P v (get_or (set (set number a x) b y) v 0) (get_or (set (set top a z) b w) v 0)
  stored P number top a b x y z w v ha hb ka kb pa pb other = go (bool_cases (eqb v b)) (bool_cases (eqb v a))
    where
      go : (eqb v b ≡ true) ⊎ (eqb v b ≡ false) → (eqb v a ≡ true) ⊎ (eqb v a ≡ false)
          → P v (get_or (set (set number a x) b y) v 0) (get_or (set (set top a z) b w) v 0)
      go (inl e) k =
          rw (
            eqb-true v b e,
            get_or-set_same (set number a x) b y 0 (omega (arith, length-set number a x)),
            get_or-set_same (set top a z) b w 0 (omega (arith, length-set top a z)),
          )
          pb
      go (inr e) (inl k) =
          let ne : a ≡ b → ⊥ = λ d. eqb-false v b e (eqb-true v a k ∙ d) in
          rw (
            eqb-true v a k,
            get_or-set_other (set number a x) b a y 0 ne,
            get_or-set_other (set top a z) b a w 0 ne,
            get_or-set_same number a x 0 ha,
            get_or-set_same top a z 0 ka,
          )
          pa
      go (inr e) (inr k) =
          rw (
            get_or-set_other (set number a x) b v y 0 (eqb-false v b e),
            get_or-set_other (set top a z) b v w 0 (eqb-false v b e),
            get_or-set_other number a v x 0 (eqb-false v a k),
            get_or-set_other top a v z 0 (eqb-false v a k),
          )
          (other (eqb-false v a k) (eqb-false v b e))

  module _ (u a b : ℕ) (many least number top number' top' : List ℕ) (h : u < nodes_of t) (ea : a ≡ get_or tree.left u 0)
      (eb : b ≡ get_or tree.right u 0) (below : BelowIs t C K (nodes_of t) many least) (sn : length number ≡ 159)
      (st : length top ≡ 159) (passed : PassedOn many least a b u number top number' top')
      (reaching : Reaching t C K tree (u + 1) number top) where
    -- what is reached from u on is a child of u, or was reached before
    earlier : (v : ℕ) → Reached tree.left tree.right (nodes_of t) u v → (a ≡ v → a < u → ⊥) → (b ≡ v → a < u → ⊥)
        → Reached tree.left tree.right (nodes_of t) (u + 1) v
    earlier v (is_root e) na nb = is_root e
    earlier v (has_parent w i j k c) na nb = go (bool_cases (eqb w u)) c
      where
        go : (eqb w u ≡ true) ⊎ (eqb w u ≡ false) → (get_or tree.left w 0 ≡ v) ⊎ (get_or tree.right w 0 ≡ v)
            → Reached tree.left tree.right (nodes_of t) (u + 1) v
        go (inr e) d = has_parent w (omega (arith, eqb-false w u e)) j k d
        go (inl e) (inl d) =
            let same = eqb-true w u e in
            let lu : get_or tree.left w 0 ≡ a = ap (λ (i : ℕ). get_or tree.left i 0) same ∙ sym ea in
            absurd (na (sym lu ∙ d) (omega (arith, lu, same)))
        go (inl e) (inr d) =
            let same = eqb-true w u e in
            let lu : get_or tree.left w 0 ≡ a = ap (λ (i : ℕ). get_or tree.left i 0) same ∙ sym ea in
            let ru : get_or tree.right w 0 ≡ b = ap (λ (i : ℕ). get_or tree.right i 0) same ∙ sym eb in
            absurd (nb (sym ru ∙ d) (omega (arith, lu, same)))

    step : {s : Tree} → LaidNode (postorder t) a b u s → subtree (postorder t) u ≡ s → Reaching t C K tree u number' top'
    step (laid_leaf e) is v l r =
        let same = passed.leaf_kept (omega arith) in
        rw (same.0, same.1) (reaching v l (earlier v r (λ i j. omega arith) (λ i j. omega arith)))
    step (laid_node la lb) is v l r =
        let p = subtree (postorder t) a in
        let q = subtree (postorder t) b in
        let here : LeadsDown t C K (node p q) (get_or number u 0) (get_or top u 0) = rw is at (reaching u h (reached (u + 1) u h (omega arith))) in
        let d : distinct (leaves (node p q)) ≡ true = rw is at (sub_distinct u h) in
        rw (passed.numbers la lb, passed.tops la lb)
        (stored (λ i n k. LeadsDown t C K (subtree (postorder t) i) n k) number top a b
        (child_number (get_or many a 0) (get_or many b 0) (get_or least a 0) (get_or least b 0) (get_or number u 0))
        (child_number (get_or many b 0) (get_or many a 0) (get_or least b 0) (get_or least a 0) (get_or number u 0))
        (child_top (get_or many a 0) (get_or many b 0) (get_or least a 0) (get_or top u 0))
        (child_top (get_or many b 0) (get_or many a 0) (get_or least b 0) (get_or top u 0)) v
        (omega (arith, nodes_few g)) (omega (arith, nodes_few g)) (omega (arith, nodes_few g)) (omega (arith, nodes_few g))
        (rw (below.many_is a (omega arith), below.many_is b (omega arith), below.least_is a (omega arith), below.least_is b (omega arith))
        (leads_left p q (get_or number u 0) (get_or top u 0) d here))
        (rw (below.many_is a (omega arith), below.many_is b (omega arith), below.least_is a (omega arith), below.least_is b (omega arith))
        (leads_right p q (get_or number u 0) (get_or top u 0) d here))
        (λ na nb. reaching v l (earlier v r (λ i j. na (sym i)) (λ i j. nb (sym i)))))

    pub reach_next : Reaching t C K tree u number' top'
    reach_next = step (rw (ea, eb) (laid_at g u h)) refl

  pub reach_leaves : (number top : List ℕ) → Reaching t C K tree 0 number top → LeafNumbers t C K number top
  reach_leaves number top r = record {
    number_is = λ u x l. sym (line u x l);
    top_is = λ u x l. sym (head u x l);
  }
    where
      leads : (u : ℕ) (x : Label) → LeafIs t u x → LeadsDown t C K (leaf x) (get_or number u 0) (get_or top u 0)
      leads u x l = rw l.is at (r u l.below (reached 0 u l.below (omega arith)))

      line : (u : ℕ) (x : Label) → LeafIs t u x → line_in K t x (2 * length K - 2) ≡ get_or number u 0
      line u x l = (leads u x l).line x (holds_self x) ∙ (unfold line_in in refl)

      head : (u : ℕ) (x : Label) → LeafIs t u x → top_in C K t x ≡ get_or top u 0
      head u x l = (leads u x l).top x (holds_self x) ∙ (unfold down_in in refl)

  -- the root's number and head are everywhere at the beginning
  pub reach_start : (count n x y : ℕ) (least : List ℕ) → count ≡ length K → n ≡ nodes_of t → x ≡ 2 * min count 80 - 2
      → y ≡ get_or least (n - 1) 0 → ((u : ℕ) → u < nodes_of t → get_or least u 0 ≡ least_rank C K (subtree (postorder t) u))
      → Reaching t C K tree n (replicate {A = ℕ} 159 x) (replicate {A = ℕ} 159 y)
  reach_start count n x y least ec en ex ey f =
      let l : n - 1 < 159 = omega (arith, nodes_few g, nodes_pos t) in
      rw en
      (reach_root (replicate {A = ℕ} 159 x) (replicate {A = ℕ} 159 y) (n - 1) (omega (arith, nodes_pos t))
      (filled 159 (n - 1) x l ∙ omega (arith, g.required_few)) (filled 159 (n - 1) y l ∙ ey ∙ f (n - 1) (omega (arith, nodes_pos t))))

  -- node u as it passes on
  pub reach_step : (v u a b : ℕ) (many least number top number' top' : List ℕ) → v ≡ u + 1 → u < nodes_of t → a ≡ get_or tree.left u 0
      → b ≡ get_or tree.right u 0 → BelowIs t C K (nodes_of t) many least → length number ≡ 159 → length top ≡ 159
      → PassedOn many least a b u number top number' top' → Reaching t C K tree v number top → Reaching t C K tree u number' top'
  reach_step v u a b many least number top number' top' e h ea eb below sn st passed reaching =
      reach_next u a b many least number top number' top' h ea eb below sn st passed (rw e at reaching)
