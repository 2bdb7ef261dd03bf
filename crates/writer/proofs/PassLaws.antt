-- What the passes find: the number of leaves, the length of the written text and the smallest label below each node.
-- Assumes nothing.
use Prim.Native.Nat.{ℕ, zero, suc, ◌+◌, ◌*◌, ◌≤◌, ◌<◌, min}
use mathlib.Core.Path.{◌≡◌, refl, sym, ◌∙◌, ap, ap₂, subst}
use mathlib.Core.Bool.{Bool, true, false, cond}
use mathlib.Core.Logic.{◌⊎◌, inl, inr}
use mathlib.Core.List.{List, [], ◌∷◌, ◌++◌}
use native.Mathlib.Nat.{le_of_suc-le-suc, not-suc-le-zero, eq-or-lt_of_le}
use native.Mathlib.Numerals.{add-one}
use native.Mathlib.Omega.{arith}
use borrow.Author.Tests.{ne_eqb}
use lib.ListN.{length, get_or, set, replicate, length-append, length-set, get_or-replicate}
use lib.Seq.{get_or-set_same, get_or-set_other}
use Rattle.trees.specs.declared.Edition.{Edition}
use Rattle.trees.specs.declared.TreeArrays.{TreeArrays}
use Rattle.trees.specs.Label.{Label, label_less}
use Rattle.trees.specs.Token.{spelling, token_limit}
use Rattle.trees.specs.Tree.{Tree, leaf, node, leaves, relabel, smallest}
use Rattle.trees.specs.Text.{written}
use Rattle.trees.specs.Arrays.{is_leaf, label_at, good_nodes}
use Rattle.trees.specs.Edition.{in_edition, key, keyed, normal_in, rewritten}
use Rattle.trees.proofs.Bools.{bool_cases}
use Rattle.trees.proofs.ArrayLaws.{good_at, label_inside, children_below, shown_label}
use Rattle.trees.proofs.EditionLaws.{keyed_leaf, keyed_node}
use Rattle.trees.specs.Stored.{leaf_spelling}
use Rattle.trees.proofs.FoldLaws.{leaf_key}
use Rattle.trees.proofs.StoredLaws.{stored_back, shown_back}
use Rattle.trees.proofs.TokenLaws.{token_short}
use Rattle.writer.specs.Passes.{pass, leaf_token, weight_at, weight_cap, sum_at, goes_first, least_at, below, shown_text, node_text, Leasts}
use Rattle.writer.proofs.NodeLaws.{by_number, below_leaf, below_node}

abbrev in_order_lem : Bool → Tree → Tree → Tree
in_order_lem b x y = cond b (node x y) (node y x)

-- `(`, `,` and `)`
pair_length : (x y : List ℕ) → length (40 ∷ (x ++ (44 ∷ (y ++ (41 ∷ []))))) ≡ length x + length y + 3
pair_length x y = omega (arith, length-append x (44 ∷ (y ++ (41 ∷ []))), length-append y (41 ∷ []))

pub pass_length : (f : List ℕ → ℕ → ℕ) (t : List ℕ) (n : ℕ) → length (pass f t n) ≡ length t
unfolding pass
pass_length f t zero = refl
pass_length f t (suc n) = length-set (pass f t n) n (f (pass f t n) n) ∙ pass_length f t n

-- a turn of the loop
pub pass_step : (f : List ℕ → ℕ → ℕ) (t s : List ℕ) (n v : ℕ) → s ≡ pass f t n → v ≡ f s n → set s n v ≡ pass f t (n + 1)
unfolding pass
pass_step f t s n v e d = ap (set s n) d ∙ ap (λ (x : List ℕ). set x n (f x n)) e ∙ rw (add-one n)

-- what each entry has by those before it, every entry has
pub pass_holds : (P : ℕ → ℕ → Type 0) (f : List ℕ → ℕ → ℕ) (t : List ℕ) (n : ℕ) → n ≤ length t
    → ((s : List ℕ) (u : ℕ) → u < n → ((k : ℕ) → k < u → P k (get_or s k 0)) → P u (f s u))
    → (u : ℕ) → u < n → P u (get_or (pass f t n) u 0)
unfolding pass
pass_holds P f t zero l step u h = absurd (not-suc-le-zero h)
pass_holds P f t (suc n) l step u h =
    go (pass_holds P f t n (omega arith) (λ s v hv. step s v (omega arith))) (eq-or-lt_of_le (le_of_suc-le-suc h))
  where
    last : ((v : ℕ) → v < n → P v (get_or (pass f t n) v 0)) → P n (get_or (set (pass f t n) n (f (pass f t n) n)) n 0)
    last ih =
        subst (P n) (sym (get_or-set_same (pass f t n) n (f (pass f t n) n) 0 (omega (arith, pass_length f t n))))
        (step (pass f t n) n (omega arith) ih)

    go : ((v : ℕ) → v < n → P v (get_or (pass f t n) v 0)) → (u ≡ n) ⊎ (u < n)
        → P u (get_or (set (pass f t n) n (f (pass f t n) n)) u 0)
    go ih (inl e) = subst (λ (k : ℕ). P k (get_or (set (pass f t n) n (f (pass f t n) n)) k 0)) (sym e) (last ih)
    go ih (inr m) =
        subst (P u) (sym (get_or-set_other (pass f t n) n u (f (pass f t n) n) 0 (λ (e : u ≡ n). omega arith))) (ih u m)

module _ (a : TreeArrays) (text : List ℕ) (n : ℕ) (g : good_nodes a text n ≡ true) where
  -- a measure of trees that adds up at nodes is found by a pass of sums, at most the cap
  pub sums_found : (f : Tree → ℕ) (w : List ℕ) (plus cap : ℕ)
      → ((u : ℕ) → u < n → is_leaf a u ≡ true → f (leaf (label_at a text u)) ≡ get_or w u 0 + plus)
      → ((x y : Tree) → f (node x y) ≡ f x + f y)
      → (t : List ℕ) → n ≤ length t
      → (u : ℕ) → u < n → get_or (pass (sum_at a.left a.right w plus cap) t n) u 0 ≡ min cap (f (below a text u))
  unfolding sum_at is_leaf
  sums_found f w plus cap at_leaf at_node t l =
      pass_holds (λ u v. v ≡ min cap (f (below a text u))) (sum_at a.left a.right w plus cap) t n l
      (λ s u h all. go s u h all (bool_cases (is_leaf a u)))
    where
      go : (s : List ℕ) (u : ℕ) → u < n → ((k : ℕ) → k < u → get_or s k 0 ≡ min cap (f (below a text k)))
          → (is_leaf a u ≡ true) ⊎ (is_leaf a u ≡ false)
          → sum_at a.left a.right w plus cap s u ≡ min cap (f (below a text u))
      go s u h all (inl e) = rw e (ap (min cap) (sym (ap f (below_leaf a text u e) ∙ at_leaf u h e)))
      go s u h all (inr e) =
          let x : ℕ = get_or a.left u 0 in
          let y : ℕ = get_or a.right u 0 in
          let p : get_or s x 0 ≡ min cap (f (below a text x)) = all x (children_below a text u (good_at a text n g u h) e).left_below in
          let q : get_or s y 0 ≡ min cap (f (below a text y)) = all y (children_below a text u (good_at a text n g u h) e).right_below in
          let d : f (below a text u) ≡ f (below a text x) + f (below a text y) =
          ap f (below_node a text n g u h e) ∙ at_node (below a text x) (below a text y) in
          rw e (omega arith)

  -- a leaf's label lies in the text, and what the leaf writes is the label's written form
  label_part : (u : ℕ) → u < n → is_leaf a u ≡ true → leaf_spelling text a.start a.size u ≡ spelling (label_at a text u)
  label_part u h e = ap spelling (shown_label a text u (good_at a text n g u h) e)

  pub label_token : (u : ℕ) → u < n → is_leaf a u ≡ true → leaf_token text a.start a.size u ≡ rewritten (label_at a text u)
  unfolding leaf_token
  label_token u h e =
      let short = (label_inside a text u (good_at a text n g u h) e).short in
      rw (label_part u h e, stored_back (spelling (label_at a text u)) short) (shown_back (spelling (label_at a text u)) short)

  label_weight : (u : ℕ) → u < n → is_leaf a u ≡ true
      → length (rewritten (label_at a text u)) ≡ weight_at text a.left a.start a.size u
  unfolding weight_at is_leaf
  label_weight u h e = rw e (ap length (sym (label_token u h e)))

  pub leaves_found : (t : List ℕ) → n ≤ length t → n ≤ 159
      → (u : ℕ) → u < n
      → get_or (pass (sum_at a.left a.right (replicate 159 0) 1 81) t n) u 0 ≡ min 81 (length (leaves (below a text u)))
  unfolding leaves
  leaves_found t l m =
      sums_found (λ x. length (leaves x)) (replicate 159 0) 1 81
      (λ u h e. ap (λ (k : ℕ). k + 1) (sym (get_or-replicate 159 u 0 0 (omega arith))))
      (λ x y. length-append (leaves x) (leaves y)) t l

  -- w tells how many bytes each leaf writes
  pub lengths_found : (w : List ℕ) → ((u : ℕ) → u < n → get_or w u 0 ≡ weight_at text a.left a.start a.size u)
      → (t : List ℕ) → n ≤ length t
      → (u : ℕ) → u < n
      → get_or (pass (sum_at a.left a.right w 3 weight_cap) t n) u 0
      ≡ min weight_cap (length (shown_text (below a text u)) + 3)
  unfolding written relabel
  lengths_found w weights t l =
      sums_found (λ x. length (shown_text x) + 3) w 3 weight_cap
      (λ u h e. ap (λ (k : ℕ). k + 3) (label_weight u h e ∙ sym (weights u h)))
      (λ x y. omega (arith, pair_length (shown_text x) (shown_text y))) t l

  -- no leaf writes more than the limit, and at most three bytes more
  pub written_bound : (u : ℕ) → u < n
      → length (shown_text (below a text u)) + 3 ≤ (token_limit + 3) * length (leaves (below a text u))
  unfolding written relabel leaves
  written_bound =
      by_number
      (λ u. u < n → length (shown_text (below a text u)) + 3 ≤ (token_limit + 3) * length (leaves (below a text u)))
      (λ u all h. go u all h (bool_cases (is_leaf a u)))
    where
      go : (u : ℕ)
          → ((k : ℕ) → k < u → k < n
          → length (shown_text (below a text k)) + 3 ≤ (token_limit + 3) * length (leaves (below a text k)))
          → u < n → (is_leaf a u ≡ true) ⊎ (is_leaf a u ≡ false)
          → length (shown_text (below a text u)) + 3 ≤ (token_limit + 3) * length (leaves (below a text u))
      go u all h (inl e) =
          rw (below_leaf a text u e)
          (omega (arith, token_short (spelling (label_at a text u)) (label_inside a text u (good_at a text n g u h) e).short))
      go u all h (inr e) =
          let x : Tree = below a text (get_or a.left u 0) in
          let y : Tree = below a text (get_or a.right u 0) in
          let l : get_or a.left u 0 < u = (children_below a text u (good_at a text n g u h) e).left_below in
          let r : get_or a.right u 0 < u = (children_below a text u (good_at a text n g u h) e).right_below in
          rw (below_node a text n g u h e)
          (omega (
            arith,
            all (get_or a.left u 0) l (omega arith),
            all (get_or a.right u 0) r (omega arith),
            length-append (leaves x) (leaves y),
            pair_length (shown_text x) (shown_text y),
          ))

  module _ (e : Edition) where
    -- as an edition reads the text, the label is the one that is compared
    label_key : (u : ℕ) → u < n → is_leaf a u ≡ true → leaf_spelling (in_edition e text) a.start a.size u ≡ key e (label_at a text u)
    label_key u h l = sym (leaf_key e text a.start a.size u) ∙ ap (key e) (shown_label a text u (good_at a text n g u h) l)

    pub leasts_found : (t : List ℕ) → n ≤ length t
        → Leasts e a text (pass (least_at (in_edition e text) a.left a.right a.start a.size) t n) n
    unfolding least_at is_leaf smallest goes_first
    leasts_found t l =
        pass_holds (λ u v. label v ≡ least u) (least_at (in_edition e text) a.left a.right a.start a.size) t n l
        (λ s u h all. go s u h all (bool_cases (is_leaf a u)))
      where
        label : ℕ → Label
        label v = leaf_spelling (in_edition e text) a.start a.size v

        least : ℕ → Label
        least u = smallest (keyed e (below a text u))

        pair : (i j : ℕ) (x y : Label) (b : Bool) → label i ≡ x → label j ≡ y → label (cond b i j) ≡ cond b x y
        pair i j x y true p q = p
        pair i j x y false p q = q

        go : (s : List ℕ) (u : ℕ) → u < n → ((k : ℕ) → k < u → label (get_or s k 0) ≡ least k)
            → (is_leaf a u ≡ true) ⊎ (is_leaf a u ≡ false)
            → label (least_at (in_edition e text) a.left a.right a.start a.size s u) ≡ least u
        go s u h all (inl d) =
            rw d (label_key u h d ∙ sym (ap smallest (ap (keyed e) (below_leaf a text u d) ∙ keyed_leaf e (label_at a text u))))
        go s u h all (inr d) =
            let x : ℕ = get_or a.left u 0 in
            let y : ℕ = get_or a.right u 0 in
            let p : label (get_or s x 0) ≡ least x = all x (children_below a text u (good_at a text n g u h) d).left_below in
            let q : label (get_or s y 0) ≡ least y = all y (children_below a text u (good_at a text n g u h) d).right_below in
            let b : Bool = label_less (label (get_or s x 0)) (label (get_or s y 0)) in
            ap (λ (c : Bool). label (cond c u (cond b (get_or s x 0) (get_or s y 0)))) d
            ∙ pair (get_or s x 0) (get_or s y 0) (least x) (least y) b p q
            ∙ ap (λ (c : Bool). cond c (least x) (least y)) (ap₂ label_less p q)
            ∙ sym (ap smallest (ap (keyed e) (below_node a text n g u h d) ∙ keyed_node e (below a text x) (below a text y)))

    -- how an inner node is written: first the child that holds the smaller smallest label
    pub node_written : (t : List ℕ) → Leasts e a text t n → (u : ℕ) → u < n → is_leaf a u ≡ false → (b : Bool)
        → b ≡ goes_first (in_edition e text) a.start a.size t (get_or a.left u 0) (get_or a.right u 0)
        → node_text e a text u
        ≡ 40 ∷ (node_text e a text (cond b (get_or a.left u 0) (get_or a.right u 0))
        ++ (44 ∷ (node_text e a text (cond b (get_or a.right u 0) (get_or a.left u 0)) ++ (41 ∷ []))))
    unfolding node_text normal_in relabel written goes_first
    node_written t least u h d b k =
        let x : ℕ = get_or a.left u 0 in
        let y : ℕ = get_or a.right u 0 in
        let p : leaf_spelling (in_edition e text) a.start a.size (get_or t x 0) ≡ smallest (keyed e (below a text x)) =
        least x (omega (arith, (children_below a text u (good_at a text n g u h) d).left_below)) in
        let q : leaf_spelling (in_edition e text) a.start a.size (get_or t y 0) ≡ smallest (keyed e (below a text y)) =
        least y (omega (arith, (children_below a text u (good_at a text n g u h) d).right_below)) in
        ap (λ (s : Tree). shown_text (normal_in e s)) (below_node a text n g u h d)
        ∙ ap (λ (c : Bool). shown_text (in_order_lem c (normal_in e (below a text x)) (normal_in e (below a text y))))
        (sym (k ∙ ap₂ label_less p q))
        ∙ go x y b
      where
        go : (x y : ℕ) (c : Bool)
            → shown_text (in_order_lem c (normal_in e (below a text x)) (normal_in e (below a text y)))
            ≡ 40 ∷ (shown_text (normal_in e (below a text (cond c x y)))
            ++ (44 ∷ (shown_text (normal_in e (below a text (cond c y x))) ++ (41 ∷ []))))
        go x y true = refl
        go x y false = refl

module _ (e : Edition) where
  pub leaf_written : (a : TreeArrays) (text : List ℕ) (u : ℕ) → is_leaf a u ≡ true → node_text e a text u ≡ rewritten (label_at a text u)
  unfolding node_text normal_in relabel written
  leaf_written a text u l = rw (below_leaf a text u l)

  -- the order of the children does not change the length
  pub normal_length : (t : Tree) → length (shown_text (normal_in e t)) ≡ length (shown_text t)
  unfolding normal_in relabel written
  normal_length (leaf x) = refl
  normal_length (node x y) = go (label_less (smallest (keyed e x)) (smallest (keyed e y))) (normal_length x) (normal_length y)
    where
      go : (b : Bool) → length (shown_text (normal_in e x)) ≡ length (shown_text x) → length (shown_text (normal_in e y)) ≡ length (shown_text y)
          → length (shown_text (in_order_lem b (normal_in e x) (normal_in e y))) ≡ length (shown_text (node x y))
      go true p q = omega (arith, pair_length (shown_text (normal_in e x)) (shown_text (normal_in e y)), pair_length (shown_text x) (shown_text y))
      go false p q = omega (arith, pair_length (shown_text (normal_in e y)) (shown_text (normal_in e x)), pair_length (shown_text x) (shown_text y))

-- an inner node with its children in the order of writing
pub record Pair (e : Edition) (a : TreeArrays) (text : List ℕ) (u f s : ℕ) : Type 0 where
  pub first : f < u
  pub second : s < u
  pub made : node_text e a text u ≡ 40 ∷ (node_text e a text f ++ (44 ∷ (node_text e a text s ++ (41 ∷ []))))
  pub long : length (node_text e a text u) ≡ length (node_text e a text f) + length (node_text e a text s) + 3

either_below : (b : Bool) (x y u : ℕ) → x < u → y < u → cond b x y < u
either_below true x y u p q = p
either_below false x y u p q = q

module _ (e : Edition) (a : TreeArrays) (text : List ℕ) (n : ℕ) (g : good_nodes a text n ≡ true) where
  -- l and r are the children, b tells which goes first
  pub pair_of : (t : List ℕ) → Leasts e a text t n → (u : ℕ) → u < n
      → (l r : ℕ) → l ≡ get_or a.left u 0 → r ≡ get_or a.right u 0 → (l ≡ u → ⊥) → (b : Bool)
      → b ≡ goes_first (in_edition e text) a.start a.size t l r
      → (f s : ℕ) → f ≡ cond b l r → s ≡ cond b r l → Pair e a text u f s
  unfolding is_leaf
  pair_of t least u h l r el er ne b eb f s ef es =
      let d : is_leaf a u ≡ false = ne_eqb (get_or a.left u 0) u (λ (k : get_or a.left u 0 ≡ u). ne (el ∙ k)) in
      let x : get_or a.left u 0 < u = (children_below a text u (good_at a text n g u h) d).left_below in
      let y : get_or a.right u 0 < u = (children_below a text u (good_at a text n g u h) d).right_below in
      let f' : f ≡ cond b (get_or a.left u 0) (get_or a.right u 0) = ef ∙ ap₂ (cond b) el er in
      let s' : s ≡ cond b (get_or a.right u 0) (get_or a.left u 0) = es ∙ ap₂ (cond b) er el in
      let m : node_text e a text u ≡ 40 ∷ (node_text e a text f ++ (44 ∷ (node_text e a text s ++ (41 ∷ [])))) =
      node_written a text n g e t least u h d b (eb ∙ ap₂ (goes_first (in_edition e text) a.start a.size t) el er)
      ∙ ap₂ (λ (p q : ℕ). 40 ∷ (node_text e a text p ++ (44 ∷ (node_text e a text q ++ (41 ∷ []))))) (sym f') (sym s') in
      record {
        first = subst (λ (k : ℕ). k < u) (sym f') (either_below b (get_or a.left u 0) (get_or a.right u 0) u x y);
        second = subst (λ (k : ℕ). k < u) (sym s') (either_below b (get_or a.right u 0) (get_or a.left u 0) u y x);
        made = m;
        long = ap length m ∙ pair_length (node_text e a text f) (node_text e a text s);
      }
