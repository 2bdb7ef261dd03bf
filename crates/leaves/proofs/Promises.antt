-- What finding a leaf by its label promises, over the arrays that the reader of tree text makes, for both editions at once. Each proof
-- cites one name. Assumes nothing.
use mathlib.Core.Path.{◌≡◌}
use mathlib.Core.Bool.{true, false}
use Rattle.std.proofs.Common.{Some, None}
use Rattle.trees.specs.declared.Edition.{Edition}
use Rattle.trees.specs.Edition.{keyed, ValidIn}
use Rattle.trees.specs.Label.{Label, is_in}
use Rattle.trees.specs.Tree.{Tree, leaves}
use Rattle.trees.specs.Arrays.{nodes_of}
use Rattle.leaves.specs.Find.{found_in, leaf_found_in, ShowsLeaf}
use Rattle.leaves.proofs.OwnLaws.{found_shown, missing_in, found_some_in, found_none_in}

-- "A leaf's label can be shown as the part of the caller's text that holds it": a label that the tree has is found, at the leaf whose
-- part of the text has its key
pub held_label_found : (e : Edition) (t : Tree) (x : Label) → ValidIn e t → is_in x (leaves (keyed e t)) ≡ true → ShowsLeaf e t (found_in e t x) x
held_label_found = found_shown

pub held_label_some : (e : Edition) (t : Tree) (x : Label) → ValidIn e t → is_in x (leaves (keyed e t)) ≡ true → leaf_found_in e t x ≡ Some (found_in e t x)
held_label_some = found_some_in

-- For a label that the tree lacks, there is none: the search ends at the number of nodes.
pub lacking_label_none : (e : Edition) (t : Tree) (x : Label) → ValidIn e t → is_in x (leaves (keyed e t)) ≡ false → leaf_found_in e t x ≡ None
lacking_label_none = found_none_in

pub lacking_label_told : (e : Edition) (t : Tree) (x : Label) → ValidIn e t → is_in x (leaves (keyed e t)) ≡ false → found_in e t x ≡ nodes_of t
lacking_label_told = missing_in
