-- What the loops of the test compute, over the arrays that they are lent. Intermediate: nothing public rests on this text.
use Rattle.std.specs.Prelude.{ℕ, zero, suc, ◌+◌, ◌-◌, ◌%◌, ◌≤◌, ◌<◌, min, max, ◌≡◌, Bool, true, cond, ◌||◌, List, [], map, ltb, leb, length, get_or, Option, Some, None, is_some, Result, Ok, Err}
use Rattle.trees.specs.declared.Reason.TheVariants.{FirstLacks, SecondLacks}
use Rattle.trees.specs.declared.Body.TheVariants.{K}
use Rattle.trees.specs.declared.Refusal.{Refusal}
use Rattle.trees.specs.declared.TreeArrays.{TreeArrays}
use Rattle.trees.specs.Label.{Label, label_less, distinct}
use Rattle.trees.specs.Token.{Token, spelling}
use Rattle.trees.specs.Tree.{Tree, Valid}
use Rattle.trees.specs.Text.{text_of}
use Rattle.trees.specs.Arrays.{arrays_of}
use Rattle.trees.specs.Stored.{part_of}
use Rattle.lists.specs.declared.LabelPlaces.{LabelPlaces}
use Rattle.lists.specs.ReadList.{joined, places_of, list_limit}
use Rattle.agreement.specs.Answer.{differ, clashing}
use Rattle.leaves.specs.Find.{leaf_from, leaf_found}
use Rattle.triples.specs.declared.Indices.{Indices}

-- the label that token k of a list's text decodes to
unfoldable pub label_in : List ℕ → List ℕ → List ℕ → ℕ → Label
label_in text start size k = spelling (part_of (get_or start k 0) (get_or size k 0) text)

-- how many of the first n labels come before x in label order
unfoldable pub less_count : (ℕ → Label) → Label → ℕ → ℕ
less_count f x zero = 0
less_count f x (suc n) = less_count f x n + cond (label_less (f n) x) 1 0

-- the rank of label k in label order
unfoldable pub rank_in : List ℕ → List ℕ → List ℕ → ℕ → ℕ → ℕ
unfolding less_count label_in
rank_in text start size count k = less_count (label_in text start size) (label_in text start size k) count

-- the entry at the rank of each of the first n labels is a label of that rank
abbrev pub InOrder : (ℕ → ℕ) → ℕ → ℕ → List ℕ → Type 0
InOrder rank count n order =
    (k : ℕ) → k < n → (get_or order (rank k) 0 < count) × (rank (get_or order (rank k) 0) ≡ rank k)

-- the leaves of the first n labels in a tree's arrays
abbrev pub LeavesFound : List ℕ → TreeArrays → (ℕ → Label) → ℕ → List (Option ℕ) → Type 0
LeavesFound text tree f n leaf =
    (k : ℕ) → k < n → get_or leaf k None ≡ leaf_found text tree.left tree.start tree.size (f k) tree.nodes

-- the first of the n labels from k on whose leaf one of the trees lacks
unfoldable pub lack_from : List (Option ℕ) → List (Option ℕ) → List ℕ → ℕ → ℕ → Result (Prim.Unit {0}) Refusal
lack_from leaf1 leaf2 start zero k = Ok (Prim.tt {0})
lack_from leaf1 leaf2 start (suc n) k =
    cond (is_some (get_or leaf1 k None))
    (cond (is_some (get_or leaf2 k None)) (lack_from leaf1 leaf2 start n (suc k))
    (Err (record { reason = SecondLacks; body = K; place = get_or start k 0 })))
    (Err (record { reason = FirstLacks; body = K; place = get_or start k 0 }))

-- the number of the first node below node u: a leaf's own, else that of the left child
abbrev pub LowAt : List ℕ → List ℕ → ℕ → Type 0
LowAt left low u = get_or low u 0 ≡ cond (ltb (get_or left u 0) u) (get_or low (get_or left u 0) 0) u

-- the first node from b on whose first node below is not past a
unfoldable pub span_from : List ℕ → ℕ → ℕ → ℕ → ℕ
unfolding leaf_from
span_from low a nodes b = leaf_from (λ w. leb (get_or low w 0) a) (nodes - b) b

-- the number of the least common ancestor of leaves u and v: the first node past neither that spans both
unfoldable pub lca_number : List ℕ → ℕ → ℕ → ℕ → ℕ
unfolding span_from
lca_number low nodes u v = span_from low (min u v) nodes (max u v)

-- the ancestor numbers of the label of rank i and the first n labels, as bytes
abbrev pub LcaRow : List ℕ → ℕ → List ℕ → ℕ → ℕ → List ℕ → Type 0
LcaRow low nodes leaf n i row =
    (q : ℕ) → q < n → get_or leaf i 0 < nodes → get_or leaf q 0 < nodes
    → get_or row q 0 ≡ lca_number low nodes (get_or leaf i 0) (get_or leaf q 0) % 256

-- two numbers are not ordered in one tree as in the other
unfoldable pub apart_of : ℕ → ℕ → ℕ → ℕ → Bool
unfolding differ
apart_of x1 y1 x2 y2 = differ (ltb x1 y1) (ltb x2 y2) || differ (ltb y1 x1) (ltb y2 x2)

-- the labels of ranks i, j and k clash
unfoldable pub clash_at : Tree → Tree → List Label → ℕ → ℕ → ℕ → Bool
unfolding clashing
clash_at s t xs i j k = clashing s t (get_or xs i []) (get_or xs j []) (get_or xs k [])

-- the rows of rank i determine which later ranks clash
abbrev pub Tells : (ℕ → ℕ → Bool) → ℕ → ℕ → List ℕ → List ℕ → Type 0
Tells clash i count row1 row2 =
    (j k : ℕ) → i < j → j < k → k < count
    → clash j k ≡ apart_of (get_or row1 j 0) (get_or row1 k 0) (get_or row2 j 0) (get_or row2 k 0)

-- the first rank past j, past i, and of all, that begins or ends a clash; the number of labels if there is none
unfoldable pub third_of : (ℕ → ℕ → Bool) → ℕ → ℕ → ℕ
unfolding leaf_from
third_of clash count j = leaf_from (clash j) (count - (j + 1)) (j + 1)

unfoldable pub second_of : (ℕ → ℕ → Bool) → ℕ → ℕ → ℕ
unfolding leaf_from third_of
second_of clash count i = leaf_from (λ j. ltb (third_of clash count j) count) (count - (i + 1)) (i + 1)

-- a number, where it is below n
abbrev pub below : ℕ → ℕ → Option ℕ
below n r = cond (ltb r n) (Some r) None

-- the first clash of which rank i is the first
unfoldable pub three_of : (ℕ → ℕ → Bool) → ℕ → ℕ → Option Indices
unfolding second_of third_of
three_of clash count i =
    cond (ltb (second_of clash count i) count)
    (Some (record { first = i; second = second_of clash count i; third = third_of clash count (second_of clash count i) }))
    None

unfoldable pub first_of : (ℕ → ℕ → ℕ → Bool) → ℕ → ℕ
unfolding leaf_from second_of
first_of clash count = leaf_from (λ i. ltb (second_of (clash i) count i) count) (count - 0) 0

-- the places of three labels by their ranks, if there are three
unfoldable pub told_of : List ℕ → List ℕ → Option Indices → Option Indices
told_of order start None = None
told_of order start (Some r) = Some (record {
  first = get_or start (get_or order r.first 0) 0;
  second = get_or start (get_or order r.second 0) 0;
  third = get_or start (get_or order r.third 0) 0;
})

-- two trees and a list of tokens as the readers return them
pub record AsRead (s t : Tree) (xs : List Token) (first second list : List ℕ) (one two : TreeArrays) (places : LabelPlaces) : Type 0 where
  pub valid1 : Valid s
  pub valid2 : Valid t
  pub text1 : first ≡ text_of s
  pub text2 : second ≡ text_of t
  pub tree1 : one ≡ arrays_of s
  pub tree2 : two ≡ arrays_of t
  pub listed : list ≡ joined xs
  pub placed : places ≡ places_of xs
  pub different : distinct (map spelling xs) ≡ true
  pub few : length xs ≤ list_limit
