-- What the places of `divide` are, which its contract states by `PiecesAt`, in the order of C-17. Assumes nothing.
use Prim.Native.Nat.{ℕ, ◌<◌}
use mathlib.Core.Path.{◌≡◌}
use mathlib.Core.List.{List}
use lib.ListN.{get_or}
use Rattle.trees.specs.declared.Edition.{Edition}
use Rattle.trees.specs.Edition.{keyed}
use Rattle.trees.specs.Stored.{part_of}
use Rattle.trees.specs.Text.{text_of}
use Rattle.trees.specs.Token.{Token}
use Rattle.trees.specs.Tree.{Tree}
use Rattle.lists.specs.ReadList.{keys_of}
use Rattle.agreement.specs.Places.{spelled_in}
use Rattle.pieces.specs.Pieces.{pieces, total}
use Rattle.pieces.specs.Items.{items_of, no_item}
use Rattle.division.specs.declared.PiecePlaces.{PiecePlaces}
use Rattle.division.specs.PiecesAt.{pieces_for, start_at, size_at, mark_at, PiecesAt}
use Rattle.division.proofs.PieceLaws

module _ (e : Edition) (s t : Tree) (xs : List Token) (p : PiecePlaces) (there : PiecesAt e s t xs p) where
  -- "the total counts every label on the `at` lines, as often as it stands there"
  pub count_promise : p.count ≡ total (pieces (keyed e s) (keyed e t) (keys_of e xs))
  unfolding pieces_for
  count_promise = there.count_is

  -- "Labels are printed as the first tree spells them": an entry is the part of the first tree's text that spells the label with that number.
  pub spelling_promise : (i : ℕ) → i < p.count
      → part_of (start_at p i) (size_at p i) (text_of s)
      ≡ spelled_in e s (get_or (items_of (pieces (keyed e s) (keyed e t) (keys_of e xs))) i no_item).label
  unfolding pieces_for
  spelling_promise = PieceLaws.label_spelled e s t xs p there

  -- The mark tells where a line with a required label begins.
  pub head_promise : (i : ℕ) → i < p.count
      → mark_at p i ≡ (get_or (items_of (pieces (keyed e s) (keyed e t) (keys_of e xs))) i no_item).head
  unfolding pieces_for
  head_promise = there.head_is
