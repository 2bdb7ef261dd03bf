-- What the definitions of this crate promise, in the order of C-17. The main theorem is `joined_promise`. Each theorem cites one name.
-- Assumes nothing.
use Prim.Native.Nat.{ℕ, ◌+◌, ◌-◌, ◌*◌, ◌≤◌}
use mathlib.Core.Path.{◌≡◌}
use mathlib.Core.Bool.{Bool, true, false, not, ◌&&◌}
use mathlib.Core.Logic.{◌↔◌}
use mathlib.Core.Option.{some}
use mathlib.Core.List.{List, [], ◌∷◌, ◌++◌, map}
use lib.Dec.{eqb}
use lib.ListN.{length}
use Rattle.trees.specs.Label.{Label, label_less, is_in, distinct}
use Rattle.trees.specs.Tree.{Tree, leaves, leaf_limit, normal, Same}
use Rattle.agreement.specs.Closer.{holds, Agree, Common}
use Rattle.agreement.specs.Restrict.{restrict}
use Rattle.agreement.specs.Sets.{increasing, keep, common, set_of}
use Rattle.agreement.specs.Answer.{largest_set}
use Rattle.pieces.specs.Pieces.{head_of, place_of, IsPlace, clades_of, hangs_at, HangsThere, hanging, Piece, listed, pieces, total, hung}
use Rattle.pieces.specs.Pieces.{joined_sets, PlacedSet, part_at, At, line_in}
use Rattle.pieces.specs.Items.{items_of}
use Rattle.pieces.specs.PieceRows.{PieceRow, pieces_shown, rows, PlaceNumberRow, numbers, number_rows}
use Rattle.pieces.proofs.PlaceLaws.{place_is, place_inc, place_required, one_place_lem}
use Rattle.pieces.proofs.HangsAtLaws
use Rattle.pieces.proofs.PartLaws
use Rattle.pieces.proofs.CladesLaws
use Rattle.pieces.proofs.NumberLaws
use Rattle.pieces.proofs.JoinLaws
use Rattle.pieces.proofs.TotalLaws
use Rattle.pieces.proofs.ItemLaws
use Rattle.pieces.proofs.SidesLaws.{pieces_same}
use Rattle.pieces.proofs.Cases

-- "When k required leaves, k at least 1, agree, their common restricted tree has 2k - 1 places, one above each node, the root included."
pub place_count : (t : Tree) → length (clades_of t) + 1 ≡ 2 * length (leaves t)
place_count = CladesLaws.clades_count

pub required_tree_promise : (K : List Label) (t : Tree) (y : Label) → is_in y K ≡ true → holds t y ≡ true
    → (r : Tree) × (restrict (set_of K) t ≡ some r)
required_tree_promise = NumberLaws.required_tree

module _ (s t : Tree) (K : List Label) (r : Tree) (ds : distinct (leaves s) ≡ true) (dt : distinct (leaves t) ≡ true)
    (dk : distinct K ≡ true) (held : Common s t (set_of K)) (agree : Agree s t (set_of K)) (is : restrict (set_of K) s ≡ some r) where
  pub required_place_count : length (clades_of (normal r)) + 1 ≡ 2 * length K
  required_place_count = NumberLaws.required_places s t K r ds dt dk held agree is

  -- It is common: both trees have one normal form of it.
  pub common_tree : (u : Tree) × (restrict (set_of K) t ≡ some u) × (normal r ≡ normal u)
  common_tree = NumberLaws.one_normal s t r K ds dt held agree is

  -- "Every other common leaf hangs at one place in each tree": its place is listed, with the number that the leaf gets from the root down.
  pub place_listed : (x : Label)
      → At (clades_of (normal r)) (line_in K s x (2 * length K - 2)) (place_of K s x)
      × At (clades_of (normal r)) (line_in K t x (2 * length K - 2)) (place_of K t x)
  place_listed = NumberLaws.places_numbered s t K r ds dt dk held agree is

  -- So a leaf is on the line with number j exactly if j is its number in both trees.
  pub line_by_number : (j : ℕ) (q : List Label) → At (clades_of (normal r)) j q → (x : Label)
      → hangs_at s t K q x
      ≡ (not (is_in x K) && (eqb (line_in K s x (2 * length K - 2)) j && eqb (line_in K t x (2 * length K - 2)) j))
  line_by_number = NumberLaws.hangs_by_number s t K r ds dt dk held agree is

  pub line_leaves_by_number : (j : ℕ) (q : List Label) → At (clades_of (normal r)) j q
      → hanging s t K q
      ≡ keep (λ x. not (is_in x K) && (eqb (line_in K s x (2 * length K - 2)) j && eqb (line_in K t x (2 * length K - 2)) j)) (common s t)
  line_leaves_by_number = NumberLaws.hanging_by_number s t K r ds dt dk held agree is

-- No place is listed twice.
pub place_once : (t : Tree) → distinct (leaves t) ≡ true → (i j : ℕ) (q : List Label) → At (clades_of t) i q → At (clades_of t) j q → i ≡ j
place_once = CladesLaws.places_once

-- "above the node with just the required leaves that its lowest ancestor with any holds": these are the required leaves below the least
-- common ancestor of the leaf and any required leaf, in label order.
pub place_leaves : (K : List Label) (t : Tree) (x : Label) → distinct (leaves t) ≡ true → holds t x ≡ true → IsPlace t K x (place_of K t x)
place_leaves = place_is

pub place_in_order : (K : List Label) (t : Tree) (x : Label) → distinct (leaves t) ≡ true → increasing (place_of K t x) ≡ true
place_in_order = place_inc

-- A required leaf has itself for its place.
pub place_of_required : (K : List Label) (t : Tree) (x : Label) → is_in x K ≡ true → holds t x ≡ true → place_of K t x ≡ x ∷ []
place_of_required = place_required

-- "and one whose places differ is in no answer"
pub place_promise : (s t : Tree) (K : List Label) (X : Label → Bool) → distinct (leaves s) ≡ true → distinct (leaves t) ≡ true
    → Common s t X → Agree s t X → ((x : Label) → is_in x K ≡ true → X x ≡ true) → (x : Label) → X x ≡ true → is_in x K ≡ false
    → place_of K s x ≡ place_of K t x
place_promise = one_place_lem

-- "the smallest required label below"
pub line_head : (t : Tree) → distinct (leaves t) ≡ true → (j : ℕ) (q : List Label) → At (clades_of t) j q
    → (is_in (head_of q) q ≡ true) × ((y : Label) → is_in y q ≡ true → label_less y (head_of q) ≡ false)
line_head = CladesLaws.place_head

-- "the leaves that hang there in both trees in label order"
pub line_leaves : (s t : Tree) (K q : List Label) (x : Label)
    → (is_in x (hanging s t K q) ≡ true) ↔ ((holds s x ≡ true) × (holds t x ≡ true) × HangsThere s t K q x)
line_leaves = HangsAtLaws.hanging_exactly

pub line_in_order : (s t : Tree) (K q : List Label) → distinct (leaves s) ≡ true → increasing (hanging s t K q) ≡ true
line_in_order = HangsAtLaws.hanging_order

-- The total "is at most n + k - 1, with n common leaves in all", for k at least 1.
pub total_promise : (s t : Tree) (K : List Label) (y : Label) → is_in y K ≡ true → distinct (leaves s) ≡ true → distinct K ≡ true
    → Common s t (set_of K) → total (pieces s t K) + 1 ≤ length (common s t) + length K
total_promise = TotalLaws.total_bound

-- It is the number of labels on the lines, one after the other.
pub items_promise : (ps : List Piece) → length (items_of ps) ≡ total ps
items_promise = ItemLaws.items_count

-- "The engine's set is the required leaves joined with the sets it gives for the pieces, each with its one required label." K may be empty,
-- and the set is the first among equally large ones.
pub joined_promise : (s t : Tree) (K : List Label) → distinct (leaves s) ≡ true → distinct (leaves t) ≡ true → distinct K ≡ true
    → Common s t (set_of K) → Agree s t (set_of K)
    → largest_set s t K ≡ keep (set_of (K ++ joined_sets s t (pieces s t K))) (common s t)
joined_promise = JoinLaws.set_by_pieces

-- 003's reduction (Theorems 4 and 9). Let a set contain the required leaves, and let each other leaf of it have one place. The trees agree
-- on the set exactly if they agree on the required leaves and on each part that hangs at one place, with the head of that place.
pub parts_promise : (s t : Tree) (K : List Label) (X : Label → Bool) → distinct (leaves s) ≡ true → distinct (leaves t) ≡ true
    → (y : Label) → is_in y K ≡ true → PlacedSet s t K X
    → Agree s t X ↔ (Agree s t (set_of K) × ((q : List Label) → Agree s t (part_at s t K X q)))
parts_promise = PartLaws.agree_by_parts

-- "A job with K empty is one piece, all common leaves and no required one, or no piece if there are none; its total is n"
pub no_required_pieces : (s t : Tree) → pieces s t [] ≡ listed [] (common s t) []
no_required_pieces = JoinLaws.unasked_pieces

pub no_required_total : (s t : Tree) → total (pieces s t []) ≡ length (common s t)
no_required_total = TotalLaws.total_whole

-- The bytes of all lines: 38 for each line and 35 for each leaf are enough.
pub lines_room_lem : (s t : Tree) (K : List Label) → distinct (leaves s) ≡ true → distinct K ≡ true → Common s t (set_of K)
    → length (common s t) ≤ leaf_limit → 38 * length (pieces s t K) + 35 * hung (pieces s t K) ≤ 3869
lines_room_lem = TotalLaws.lines_bound

-- "Left and right children mean nothing.": equal trees have the same lines
pub sides_mean_nothing_pieces : (s s' t t' : Tree) (K : List Label) → Same s s' → Same t t' → distinct (leaves s) ≡ true
    → distinct (leaves t) ≡ true → pieces s t K ≡ pieces s' t' K
sides_mean_nothing_pieces = pieces_same

-- 01's printed case, the starred cases, and cases on which a nearby definition is wrong.
pub cases_promise : map pieces_shown rows ≡ map (λ (r : PieceRow). some r.expected) rows
cases_promise = Cases.row_cases

pub number_cases_promise : map numbers number_rows ≡ map (λ (r : PlaceNumberRow). some r.expected) number_rows
number_cases_promise = Cases.number_cases
