-- Equal restrictions. 003, Lemma 1: trees agree on a set exactly if their restrictions to it are equal trees.
use Rattle.std.proofs.Math.Option.{Option, some, none}
use Rattle.trees.specs.Tree.{Tree, Same}

-- no leaf is left of either, or equal trees are left of both
pub data SameKept : Option Tree → Option Tree → Type 0 where
  both_none : SameKept none none
  both_some : {p q : Tree} → Same p q → SameKept (some p) (some q)
