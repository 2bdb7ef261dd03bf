-- From the leaves up: what is stored for a node is right if its children's entries are. Assumes nothing.
use Prim.Native.Nat.{ℕ, zero, suc, ◌+◌, ◌%◌, ◌<◌, ◌≤◌, min}
use mathlib.Core.Path.{◌≡◌, refl, sym, ◌∙◌, ap}
use mathlib.Core.Bool.{Bool, true, false, cond}
use mathlib.Core.Logic.{◌⊎◌, inl, inr}
use mathlib.Core.List.{List}
use native.Mathlib.Omega.{arith}
use lib.ListN.{length, get_or, set, replicate}
use borrow.Author.Tests.{lt-ltb, le-ltb}
use Rattle.trees.specs.declared.TreeArrays.{TreeArrays}
use Rattle.trees.specs.Label.{Label, is_in}
use Rattle.trees.specs.Tree.{Tree}
use Rattle.trees.specs.Arrays.{nodes_of}
use Rattle.trees.specs.Postorder.{postorder, subtree, LaidNode, laid_leaf, laid_node}
use Rattle.trees.proofs.Bools.{bool_cases}
use Rattle.trees.proofs.EntryLaws.{store_next, fits_byte}
use Rattle.trees.proofs.ArrayLaws.{nodes_leaves}
use Rattle.trees.proofs.PostorderLaws.{length_postorder, subtree_few}
use Rattle.leaves.specs.Numbered.{LeafIs}
use Rattle.leaves.proofs.OwnLaws.{own_laid}
use Rattle.pieces.specs.Pieces.{required_in}
use Rattle.places.specs.Nodes.{TreeRanks, is_inner, required_at, many_at, least_rank_at, rank_among, least_rank, BelowIs}
use Rattle.places.proofs.RankLaws.{leaf_rank, required_test, many_leaf, many_node, many_few, least_few}

-- the test of an inner node
pub inner_yes : (a b u : ℕ) → a < u → b < u → is_inner a b u ≡ true
inner_yes a b u h k = rw (lt-ltb a u h, lt-ltb b u k) refl

pub inner_no : (a b u : ℕ) → u ≤ a → is_inner a b u ≡ false
inner_no a b u h = rw (le-ltb a u h) refl

-- an entry of an array of one value
pub filled : (n i a : ℕ) → i < n → get_or (replicate {A = ℕ} n a) i 0 ≡ a
filled zero i a h = absurd (omega arith)
filled (suc n) zero a h = refl
filled (suc n) (suc i) a h = filled n i a (omega arith)

module _ {t : Tree} {C K : List Label} {tree : TreeArrays} {rank : List ℕ} {m : ℕ} {number : List ℕ}
    (g : TreeRanks t C K tree rank m number) where
  pub laid_at : (u : ℕ) → u < nodes_of t
      → LaidNode (postorder t) (get_or tree.left u 0) (get_or tree.right u 0) u (subtree (postorder t) u)
  laid_at u h = rw (g.left_are, g.right_are) (own_laid t u (omega (arith, length_postorder t)))

  pub nodes_few : nodes_of t ≤ 159
  nodes_few = omega (arith, nodes_leaves t, g.proper.few)

  module _ (u a b : ℕ) (many least : List ℕ) (h : u < nodes_of t) (below : BelowIs t C K u many least) where
    many_stored : {v : Tree} → LaidNode (postorder t) a b u v → subtree (postorder t) u ≡ v
        → many_at many a b u (required_at number (get_or rank u 0) m) ≡ required_in K v
    unfolding many_at
    many_stored (laid_leaf {x} e) is =
        rw (inner_no a b u (omega arith), required_test g u x (record { below = h; is = is })) (sym (many_leaf K x))
    many_stored (laid_node l r) is =
        rw (inner_yes a b u l r, below.many_is a l, below.many_is b r) (sym (many_node K (subtree (postorder t) a) (subtree (postorder t) b)))

    least_stored : {v : Tree} → LaidNode (postorder t) a b u v → subtree (postorder t) u ≡ v
        → least_rank_at least a b u (required_at number (get_or rank u 0) m) (get_or rank u 0) ≡ least_rank C K v
    unfolding least_rank_at least_rank
    least_stored (laid_leaf {x} e) is =
        let l : LeafIs t u x = record { below = h; is = is } in
        rw (inner_no a b u (omega arith), required_test g u x l) (go x l (bool_cases (is_in x K)))
      where
        go : (x : Label) → LeafIs t u x → (is_in x K ≡ true) ⊎ (is_in x K ≡ false)
            → cond (is_in x K) (get_or rank u 0) 80 ≡ cond (is_in x K) (rank_among C x) 80
        go x l (inl k) = rw k (leaf_rank g u x l (g.within x k))
        go x l (inr k) = rw k refl
    least_stored (laid_node l r) is = rw (inner_yes a b u l r, below.least_is a l, below.least_is b r) refl

  pub below_more : (u a b : ℕ) (many least : List ℕ) → u < nodes_of t → a ≡ get_or tree.left u 0 → b ≡ get_or tree.right u 0
      → length many ≡ 159 → length least ≡ 159 → BelowIs t C K u many least
      → BelowIs t C K (u + 1) (set many u (many_at many a b u (required_at number (get_or rank u 0) m) % 256))
      (set least u (least_rank_at least a b u (required_at number (get_or rank u 0) m) (get_or rank u 0) % 256))
  below_more u a b many least h ea eb sm sl below = record {
    many_is =
        store_next (λ k x. x ≡ required_in K (subtree (postorder t) k)) many u
        (many_at many a b u (required_at number (get_or rank u 0) m) % 256) (omega (arith, nodes_few)) below.many_is
        (ap (λ (n : ℕ). n % 256) em ∙ fits_byte (required_in K v) (omega (arith, many_few K v, subtree_few 80 t g.proper.few u h)));
    least_is =
        store_next (λ k x. x ≡ least_rank C K (subtree (postorder t) k)) least u
        (least_rank_at least a b u (required_at number (get_or rank u 0) m) (get_or rank u 0) % 256) (omega (arith, nodes_few)) below.least_is
        (ap (λ (n : ℕ). n % 256) el ∙ fits_byte (least_rank C K v) (omega (arith, least_few C K g.few g.ordered g.within v)));
  }
    where
      v : Tree
      v = subtree (postorder t) u

      laid : LaidNode (postorder t) a b u v
      laid = rw (ea, eb) (laid_at u h)

      em : many_at many a b u (required_at number (get_or rank u 0) m) ≡ required_in K v
      em = many_stored u a b many least h below laid refl

      el : least_rank_at least a b u (required_at number (get_or rank u 0) m) (get_or rank u 0) ≡ least_rank C K v
      el = least_stored u a b many least h below laid refl

  -- all nodes are passed through
  pub all_nodes : (n : ℕ) → n ≡ min tree.nodes 159 → n ≡ nodes_of t
  all_nodes n e = omega (arith, g.nodes_are, nodes_few)

  -- node u as it is stored
  pub below_step : (u a b r : ℕ) (required : Bool) (many least many' least' : List ℕ) → u < nodes_of t → a ≡ get_or tree.left u 0
      → b ≡ get_or tree.right u 0 → r ≡ get_or rank u 0 → required ≡ required_at number r m → length many ≡ 159 → length least ≡ 159
      → many' ≡ set many u (many_at many a b u required % 256) → least' ≡ set least u (least_rank_at least a b u required r % 256)
      → BelowIs t C K u many least → BelowIs t C K (u + 1) many' least'
  below_step u a b r required many least many' least' h ea eb er eq sm sl em el below =
      rw (em, el, eq, er) (below_more u a b many least h ea eb sm sl below)
