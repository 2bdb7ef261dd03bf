-- The grammar of tree text, limits and repeats left aside, and where row 4 of the table applies in it. 01, "Tree text" and "Why a job is
-- turned down".
use Rattle.std.specs.Prelude.{ℕ, suc, ◌-◌, ◌≡◌, true, List, get_or, take}
use Rattle.trees.specs.declared.Reason.{Reason}
use Rattle.trees.specs.Bytes.{open_byte}
use Rattle.trees.specs.Token.{loose_labels}
use Rattle.trees.specs.Tree.{Tree, leaves, leaf_limit}
use Rattle.trees.specs.Text.{text_of}
use Rattle.trees.specs.Faults.{Continues, FirstFault, occurrences}

-- a text of the grammar, limits and repeats left aside: each label bare, or between quotes (C-12)
abbrev pub TreeText : List ℕ → Type 0
TreeText text = (t : Tree) × (loose_labels (leaves t) ≡ true) × (text ≡ text_of t)

-- "a tree's 80th `(` where `(` may stand"
pub record OpenCrowd (text : List ℕ) (i : ℕ) : Type 0 where
  pub opening : get_or text i 0 ≡ open_byte
  pub allowed : Continues TreeText (take (suc i) text)
  pub earlier : occurrences open_byte (take i text) ≡ leaf_limit - 1

-- the refusal that the table gives a tree text
abbrev pub TreeFault : List ℕ → Reason → ℕ → Type 0
TreeFault = FirstFault TreeText OpenCrowd
