-- The pieces of a job: the common leaves by the places at which they hang between the required ones. C-17; 003, section 5 (Theorem 11), has
-- the reduction to pieces with one required leaf each.
use Rattle.std.specs.Prelude.{ℕ, zero, suc, ◌+◌, ◌-◌, ◌*◌, ◌≡◌, Bool, true, false, cond, not, ◌&&◌, ◌||◌, List, [], ◌∷◌, ◌++◌, leb, length}
use Rattle.std.proofs.Math.Option.{Option, some, none}
use Rattle.trees.specs.Label.{Label, same_label, label_less, is_in}
use Rattle.trees.specs.Tree.{Tree, leaf, node, leaves, normal}
use Rattle.agreement.specs.Closer.{holds, closer, Common}
use Rattle.agreement.specs.Restrict.{restrict}
use Rattle.agreement.specs.Sets.{sorted, keep, common, set_of}
use Rattle.agreement.specs.Answer.{largest_set}

-- the first list, or the second if the first is empty
unfoldable pub nonempty_or : List Label → List Label → List Label
nonempty_or [] ys = ys
nonempty_or (x ∷ xs) ys = x ∷ xs

-- the first label; the label of no bytes if there is none
unfoldable pub head_of : List Label → Label
head_of [] = []
head_of (x ∷ xs) = x

-- the first label as a list of none or one
unfoldable pub first_only : List Label → List Label
first_only [] = []
first_only (x ∷ xs) = x ∷ []

-- the same labels in the same order: of two lists in label order, the same set
unfoldable pub same_set : List Label → List Label → Bool
unfolding same_label
same_set [] [] = true
same_set [] (y ∷ ys) = false
same_set (x ∷ xs) [] = false
same_set (x ∷ xs) (y ∷ ys) = same_label x y && same_set xs ys

-- "just the required leaves that its lowest ancestor with any holds", in the order of the text: on the way up from x, the first node with
-- required leaves below it
unfoldable pub lowest : List Label → Tree → Label → List Label
unfolding nonempty_or keep holds
lowest K (leaf y) x = keep (set_of K) (y ∷ [])
lowest K (node p q) x = nonempty_or (cond (holds p x) (lowest K p x) (lowest K q x)) (keep (set_of K) (leaves (node p q)))

-- "Every other common leaf hangs at one place in each tree, above the node with just the required leaves that its lowest ancestor with any
-- holds": a place is the required leaves below it, in label order. Of a required leaf it is the leaf itself.
unfoldable pub place_of : List Label → Tree → Label → List Label
unfolding lowest sorted
place_of K t x = sorted (lowest K t x)

-- the same by closer pairs: q has the required leaves that are below the least common ancestor of x and any required leaf
pub record IsPlace (t : Tree) (K : List Label) (x : Label) (q : List Label) : Type 0 where
  pub held : (y : Label) → is_in y q ≡ true → holds t y ≡ true
  pub chosen : (y : Label) → is_in y q ≡ true → is_in y K ≡ true
  pub nearest : (y : Label) → is_in y q ≡ true → (z : Label) → is_in z K ≡ true → holds t z ≡ true → closer t x z y ≡ false
  pub all : (y : Label) → is_in y K ≡ true → holds t y ≡ true
      → ((z : Label) → is_in z K ≡ true → holds t z ≡ true → closer t x z y ≡ false) → is_in y q ≡ true

-- the places of a tree, "one above each node, the root included", by the leaves below them, "a node after its children"
unfoldable pub clades_of : Tree → List (List Label)
unfolding sorted leaves
clades_of (leaf x) = (x ∷ []) ∷ []
clades_of (node a b) = clades_of a ++ (clades_of b ++ (sorted (leaves (node a b)) ∷ []))

-- the leaf is not required, and it hangs at that place in both trees; "one whose places differ is in no answer"
unfoldable pub hangs_at : Tree → Tree → List Label → List Label → Label → Bool
unfolding place_of same_set is_in
hangs_at s t K q x = not (is_in x K) && (same_set (place_of K s x) q && same_set (place_of K t x) q)

-- the same as a record: not required, and that place in both trees
pub record HangsThere (s t : Tree) (K : List Label) (q : List Label) (x : Label) : Type 0 where
  pub outside : is_in x K ≡ false
  pub in_first : place_of K s x ≡ q
  pub in_second : place_of K t x ≡ q

-- "the leaves that hang there in both trees in label order"
unfoldable pub hanging : Tree → Tree → List Label → List Label → List Label
unfolding hangs_at keep common
hanging s t K q = keep (hangs_at s t K q) (common s t)

-- an `at` line: "the smallest required label below", none if K is empty, and the leaves that hang there
pub record Piece : Type 0 where
  pub required : List Label
  pub others : List Label

-- "places with no such leaf are skipped"
unfoldable pub listed : List Label → List Label → List Piece → List Piece
listed r [] ps = ps
listed r (x ∷ xs) ps = record { required = r; others = x ∷ xs } ∷ ps

unfoldable pub pieces_at : Tree → Tree → List Label → List (List Label) → List Piece
unfolding listed first_only hanging
pieces_at s t K [] = []
pieces_at s t K (q ∷ qs) = listed (first_only q) (hanging s t K q) (pieces_at s t K qs)

-- "A job with K empty is one piece, all common leaves and no required one, or no piece if there are none"
unfoldable pub pieces_over : Tree → Tree → List Label → Option Tree → List Piece
unfolding listed pieces_at clades_of normal common
pieces_over s t K none = listed [] (common s t) []
pieces_over s t K (some r) = pieces_at s t K (clades_of (normal r))

-- "For each place, a node after its children in normal text", of the required leaves' common restricted tree: that of the first tree, since
-- both have one normal form (`one_normal`)
unfoldable pub pieces : Tree → Tree → List Label → List Piece
unfolding pieces_over restrict is_in
pieces s t K = pieces_over s t K (restrict (set_of K) s)

-- "the total counts every label on the `at` lines, as often as it stands there"
unfoldable pub total : List Piece → ℕ
total [] = 0
total (p ∷ ps) = length p.required + length p.others + total ps

-- the leaves on the `at` lines, without the required labels
unfoldable pub hung : List Piece → ℕ
hung [] = 0
hung (p ∷ ps) = length p.others + hung ps

-- the labels of an `at` line
abbrev pub labels_of : Piece → List Label
labels_of p = p.required ++ p.others

-- the set for what is left of two trees; no label if nothing is left of one
unfoldable pub set_over : Option Tree → Option Tree → List Label → List Label
unfolding largest_set
set_over none u K = []
set_over (some a) none K = []
set_over (some a) (some b) K = largest_set a b K

-- "the sets it gives for the pieces, each with its one required label": 003, section 5, restricts both trees to the labels of the piece
unfoldable pub piece_set : Tree → Tree → Piece → List Label
unfolding set_over restrict is_in
piece_set s t p = set_over (restrict (set_of (labels_of p)) s) (restrict (set_of (labels_of p)) t) p.required

-- the labels of all these sets, one set after the other
unfoldable pub joined_sets : Tree → Tree → List Piece → List Label
unfolding piece_set
joined_sets s t [] = []
joined_sets s t (p ∷ ps) = piece_set s t p ++ joined_sets s t ps

-- a set of common leaves that contains the required ones and of which each other leaf has one place in both trees (003, Lemma 6)
pub record PlacedSet (s t : Tree) (K : List Label) (X : Label → Bool) : Type 0 where
  pub common_leaves : Common s t X
  pub required : (x : Label) → is_in x K ≡ true → X x ≡ true
  pub one_place : (x : Label) → X x ≡ true → is_in x K ≡ false → place_of K s x ≡ place_of K t x

-- the part of a set that hangs at a place, and the required label of its line (003, sections 3 and 4: the part of a decomposition, with κ)
unfoldable pub part_at : Tree → Tree → List Label → (Label → Bool) → List Label → Label → Bool
unfolding head_of hangs_at
part_at s t K X q x = X x && (same_label x (head_of q) || hangs_at s t K q x)

-- numbers of places

-- q is in the list, with j others before it
abbrev pub At : List (List Label) → ℕ → List Label → Type 0
At [] j q = ⊥
At (p ∷ ps) zero q = p ≡ q
At (p ∷ ps) (suc j) q = At ps j q

-- how many required leaves a tree has, and the smallest of them
unfoldable pub required_in : List Label → Tree → ℕ
unfolding keep leaves is_in
required_in K t = length (keep (set_of K) (leaves t))

unfoldable pub least_in : List Label → Tree → Label
unfolding head_of sorted keep leaves is_in
least_in K t = head_of (sorted (keep (set_of K) (leaves t)))

-- the number of the place above the child p, whose sibling is q, if the place above the node has the number n. "a node after its children
-- in normal text": the child with the greater smallest label comes right before the node, and has one place less than twice its required
-- leaves. If only one child has required leaves, it has the node's place.
unfoldable pub number_below : List Label → Tree → Tree → ℕ → ℕ
unfolding required_in least_in label_less
number_below K p q n =
    cond (leb 1 (required_in K p) && leb 1 (required_in K q))
    (cond (label_less (least_in K p) (least_in K q)) (n - 2 * required_in K q) (n - 1)) n

-- the number of a leaf's place, from the root down; n is the number of the place above the root
unfoldable pub line_in : List Label → Tree → Label → ℕ → ℕ
unfolding number_below holds
line_in K (leaf y) x n = n
line_in K (node p q) x n = cond (holds p x) (line_in K p x (number_below K p q n)) (line_in K q x (number_below K q p n))
