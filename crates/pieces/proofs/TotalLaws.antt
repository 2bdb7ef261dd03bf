-- How many lines and labels the pieces have. C-17: "at most n + k - 1"; with K empty "its total is n". Assumes nothing.
use Prim.Native.Nat.{ℕ, suc, ◌+◌, ◌*◌, ◌≤◌}
use mathlib.Core.Path.{◌≡◌, refl, sym, ◌∙◌}
use mathlib.Core.Bool.{Bool, true, false, cond, ◌||◌}
use mathlib.Core.Logic.{◌⊎◌, inl, inr}
use mathlib.Core.List.{List, [], ◌∷◌}
use mathlib.Core.Option.{Option, some, none}
use native.Mathlib.Omega.{arith}
use lib.ListN.{length}
use Rattle.trees.specs.Label.{Label, is_in, distinct}
use Rattle.trees.specs.Tree.{Tree, leaves, normal}
use Rattle.trees.proofs.Bools.{clash, refute, or_cases}
use Rattle.trees.proofs.SameLaws.{tree_sym, same_length, same_distinct}
use Rattle.trees.proofs.NormalLaws.{normal_same}
use Rattle.agreement.specs.Closer.{Common}
use Rattle.agreement.specs.Restrict.{restrict}
use Rattle.agreement.specs.Sets.{keep, common, set_of}
use Rattle.agreement.proofs.SetLaws.{in_head, keep_few, inc_distinct, common_inc, common_in}
use Rattle.agreement.proofs.RestrictLaws.{restrict_empty, restrict_distinct}
use Rattle.pieces.specs.Pieces.{first_only, clades_of, hangs_at, hanging, Piece, listed, pieces_at, pieces_over, pieces, total, hung, At}
use Rattle.pieces.proofs.HangsAtLaws.{hangs_there}
use Rattle.pieces.proofs.CladesLaws.{Once, clades_count, places_once}
use Rattle.pieces.proofs.NumberLaws.{required_count, restrict_count}
use Rattle.pieces.proofs.JoinLaws.{restrict_unasked}

-- labels of one of two sets that share none
count_apart : (A B : Label → Bool) (C : List Label) → ((x : Label) → A x ≡ true → B x ≡ false)
    → length (keep (λ x. A x || B x) C) ≡ length (keep A C) + length (keep B C)
unfolding keep
count_apart A B [] f = refl
count_apart A B (x ∷ C) f = go (A x) (B x) (f x) (count_apart A B C f)
  where
    go : (a b : Bool) → (a ≡ true → b ≡ false) → length (keep (λ y. A y || B y) C) ≡ length (keep A C) + length (keep B C)
        → length (cond (a || b) (x ∷ keep (λ y. A y || B y) C) (keep (λ y. A y || B y) C))
        ≡ length (cond a (x ∷ keep A C) (keep A C)) + length (cond b (x ∷ keep B C) (keep B C))
    go true true h ih = clash refl (h refl)
    go true false h ih = omega arith
    go false true h ih = omega arith
    go false false h ih = omega arith

count_none : (X : Label → Bool) (C : List Label) → ((x : Label) → X x ≡ false) → length (keep X C) ≡ 0
unfolding keep
count_none X [] f = refl
count_none X (x ∷ C) f = rw (f x) (count_none X C f)

-- one line more, or none
hung_line : (r zs : List Label) (ps : List Piece) → hung (listed r zs ps) ≡ length zs + hung ps
unfolding hung listed
hung_line r [] ps = omega arith
hung_line r (z ∷ zs) ps = refl

lines_line : (r zs : List Label) (ps : List Piece) → length (listed r zs ps) ≤ length ps + 1
unfolding listed
lines_line r [] ps = omega arith
lines_line r (z ∷ zs) ps = omega arith

lines_hung_line : (r zs : List Label) (ps : List Piece) → length ps ≤ hung ps → length (listed r zs ps) ≤ hung (listed r zs ps)
unfolding listed hung
lines_hung_line r [] ps h = h
lines_hung_line r (z ∷ zs) ps h = omega arith

total_line : (r zs : List Label) (ps : List Piece) → length r ≤ 1 → total ps ≤ length ps + hung ps
    → total (listed r zs ps) ≤ length (listed r zs ps) + hung (listed r zs ps)
unfolding listed hung total
total_line r [] ps l h = h
total_line r (z ∷ zs) ps l h = omega arith

first_few : (q : List Label) → length (first_only q) ≤ 1
unfolding first_only
first_few [] = omega arith
first_few (x ∷ q) = omega arith

module _ (s t : Tree) (K : List Label) where
  -- the leaf hangs at some place of the list
  hangs_in : List (List Label) → Label → Bool
  hangs_in [] x = false
  hangs_in (q ∷ qs) x = hangs_at s t K q x || hangs_in qs x

  hangs_in_lem : (qs : List (List Label)) (x : Label) → hangs_in qs x ≡ true
      → (j : ℕ) × (q : List Label) × At qs j q × (hangs_at s t K q x ≡ true)
  unfolding hangs_in
  hangs_in_lem [] x h = clash h refl
  hangs_in_lem (q ∷ qs) x h = go (or_cases (hangs_at s t K q x) (hangs_in qs x) h) (hangs_in_lem qs x)
    where
      go : (hangs_at s t K q x ≡ true) ⊎ (hangs_in qs x ≡ true)
          → (hangs_in qs x ≡ true → (j : ℕ) × (p : List Label) × At qs j p × (hangs_at s t K p x ≡ true))
          → (j : ℕ) × (p : List Label) × At (q ∷ qs) j p × (hangs_at s t K p x ≡ true)
      go (inl k) f = (0, q, refl, k)
      go (inr k) f = let r = f k in (suc r.0, r.1, r.2, r.3)

  once_tail : (q : List Label) (qs : List (List Label)) → Once (q ∷ qs) → Once qs
  once_tail q qs f i j p h k = let e : suc i ≡ suc j = f (suc i) (suc j) p h k in omega arith

  -- no leaf hangs at two places
  hangs_once : (q : List Label) (qs : List (List Label)) → Once (q ∷ qs) → (x : Label) → hangs_at s t K q x ≡ true → hangs_in qs x ≡ false
  hangs_once q qs f x h = refute (hangs_in qs x) twice
    where
      twice : hangs_in qs x ≡ true → ⊥
      twice k =
          let r = hangs_in_lem qs x k in
          let e : r.1 ≡ q = sym (hangs_there s t K r.1 x r.3).in_first ∙ (hangs_there s t K q x h).in_first in
          let z : 0 ≡ suc r.0 = f 0 (suc r.0) q refl (rw e at r.2) in
          omega arith

  hung_count : (qs : List (List Label)) → Once qs → hung (pieces_at s t K qs) ≡ length (keep (hangs_in qs) (common s t))
  unfolding hung pieces_at hangs_in hanging
  hung_count [] f = sym (count_none (hangs_in []) (common s t) (λ x. refl))
  hung_count (q ∷ qs) f =
      omega (
        arith,
        hung_line (first_only q) (hanging s t K q) (pieces_at s t K qs),
        hung_count qs (once_tail q qs f),
        count_apart (hangs_at s t K q) (hangs_in qs) (common s t) (hangs_once q qs f),
      )

  lines_few : (qs : List (List Label)) → length (pieces_at s t K qs) ≤ length qs
  unfolding pieces_at
  lines_few [] = omega arith
  lines_few (q ∷ qs) = omega (arith, lines_line (first_only q) (hanging s t K q) (pieces_at s t K qs), lines_few qs)

  lines_hung : (qs : List (List Label)) → length (pieces_at s t K qs) ≤ hung (pieces_at s t K qs)
  unfolding pieces_at hung
  lines_hung [] = omega arith
  lines_hung (q ∷ qs) = lines_hung_line (first_only q) (hanging s t K q) (pieces_at s t K qs) (lines_hung qs)

  total_lines : (qs : List (List Label)) → total (pieces_at s t K qs) ≤ length (pieces_at s t K qs) + hung (pieces_at s t K qs)
  unfolding pieces_at hung total
  total_lines [] = omega arith
  total_lines (q ∷ qs) = total_line (first_only q) (hanging s t K q) (pieces_at s t K qs) (first_few q) (total_lines qs)

  -- the required leaves are common ones, and none of them hangs anywhere
  hung_few : (qs : List (List Label)) → Once qs → distinct (leaves s) ≡ true → distinct K ≡ true → Common s t (set_of K)
      → hung (pieces_at s t K qs) + length K ≤ length (common s t)
  hung_few qs f d dk held =
      omega (
        arith,
        hung_count qs f,
        required_count K (common s t) dk (inc_distinct (common s t) (common_inc s t d))
            (λ x m. common_in s t x (held x m).0 (held x m).1),
        count_apart (hangs_in qs) (set_of K) (common s t) (λ x h. let r = hangs_in_lem qs x h in (hangs_there s t K r.1 x r.3).outside),
        keep_few (λ x. hangs_in qs x || is_in x K) (common s t),
      )

-- what is counted of the pieces, with k required leaves
pub record Counted (s t : Tree) (K : List Label) (ps : List Piece) : Type 0 where
  -- a line for each place at most
  pub lines : length ps + 1 ≤ 2 * length K
  -- a leaf at least on each line
  pub leaves_on_lines : length ps ≤ hung ps
  -- each leaf on one line, and no required one
  pub others : hung ps + length K ≤ length (common s t)
  -- with a head on each line
  pub labels : total ps ≤ length ps + hung ps

pub counted : (s t : Tree) (K : List Label) (y : Label) → is_in y K ≡ true → distinct (leaves s) ≡ true → distinct K ≡ true
    → Common s t (set_of K) → Counted s t K (pieces s t K)
unfolding pieces pieces_over
counted s t K y k ds dk held = go (restrict (set_of K) s) refl
  where
    go : (o : Option Tree) → restrict (set_of K) s ≡ o → Counted s t K (pieces_over s t K o)
    go none e = clash (held y k).0 (restrict_empty (set_of K) s e y k)
    go (some r) e =
        let dn : distinct (leaves (normal r)) ≡ true = same_distinct (tree_sym (normal_same r)) (restrict_distinct (set_of K) s r e ds) in
        record {
          lines = omega (
            arith,
            lines_few s t K (clades_of (normal r)),
            clades_count (normal r),
            same_length (normal_same r),
            restrict_count K s r ds dk (λ x m. (held x m).0) e,
          );
          leaves_on_lines = lines_hung s t K (clades_of (normal r));
          others = hung_few s t K (clades_of (normal r)) (places_once (normal r) dn) ds dk held;
          labels = total_lines s t K (clades_of (normal r));
        }

-- "is at most n + k - 1, with n common leaves in all"
pub total_bound : (s t : Tree) (K : List Label) (y : Label) → is_in y K ≡ true → distinct (leaves s) ≡ true → distinct K ≡ true
    → Common s t (set_of K) → total (pieces s t K) + 1 ≤ length (common s t) + length K
total_bound s t K y k ds dk held =
    let c = counted s t K y k ds dk held in
    omega (arith, c.lines, c.others, c.labels)

-- "its total is n"
whole_total : (zs : List Label) → total (listed [] zs []) ≡ length zs
unfolding total listed
whole_total [] = refl
whole_total (z ∷ zs) = omega arith

whole_hung : (zs : List Label) → hung (listed [] zs []) ≡ length zs
unfolding hung listed
whole_hung [] = refl
whole_hung (z ∷ zs) = omega arith

pub total_whole : (s t : Tree) → total (pieces s t []) ≡ length (common s t)
unfolding pieces pieces_over
total_whole s t = rw (restrict_unasked s) (whole_total (common s t))

-- with at most 80 common leaves the lines have at most 159 labels, since no more leaves are required than are common
pub total_few : (s t : Tree) (K : List Label) → distinct (leaves s) ≡ true → distinct K ≡ true → Common s t (set_of K)
    → length (common s t) ≤ 80 → total (pieces s t K) ≤ 159
total_few s t [] ds dk held l = omega (arith, total_whole s t)
total_few s t (k ∷ K) ds dk held l =
    let c = counted s t (k ∷ K) k (in_head k K) ds dk held in
    omega (arith, c.lines, c.others, c.labels)

-- the lines' bytes: at most 38 for what is not a leaf's and 35 for each leaf
bytes_whole : (s t : Tree) → length (common s t) ≤ 80 → 38 * length (pieces s t []) + 35 * hung (pieces s t []) ≤ 3869
unfolding pieces pieces_over
bytes_whole s t l =
    rw (restrict_unasked s) (omega (arith, lines_line [] (common s t) [], whole_hung (common s t)))

pub lines_bound : (s t : Tree) (K : List Label) → distinct (leaves s) ≡ true → distinct K ≡ true → Common s t (set_of K)
    → length (common s t) ≤ 80 → 38 * length (pieces s t K) + 35 * hung (pieces s t K) ≤ 3869
lines_bound s t [] ds dk held l = bytes_whole s t l
lines_bound s t (k ∷ K) ds dk held l =
    let c = counted s t (k ∷ K) k (in_head k K) ds dk held in
    omega (arith, c.lines, c.leaves_on_lines, c.others)
