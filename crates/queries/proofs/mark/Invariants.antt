-- `queries::mark` meets its contract. Assumes nothing.
use mathlib.Core.Path.{◌≡◌}
use mathlib.Core.Bool.{true}
use mathlib.Core.List.{List, map}
use lib.ListN.{length}
use Rattle.trees.specs.Edition.{in_edition}
use Rattle.trees.specs.Label.{Label}
use Rattle.trees.specs.Token.{Token, spelling}
use Rattle.trees.specs.Tree.{Tree, decoded}
use Rattle.agreement.specs.Sets.{increasing}
use Rattle.leaves.specs.Numbered.{Numbered}
use Rattle.pairs.specs.OwnLeaves.{OwnTree}
use Rattle.queries.specs.ListRead.{OwnList}
use Rattle.queries.specs.FirstMarks.{FirstMarked}
use Rattle.queries.proofs.mark.Given as goal

abbrev pub invariant-loop-k : goal.invariant-loop-k
invariant-loop-k l = (s : Tree) (C : List Label) (K : List Token)
    → OwnTree s l.edition l.text1 l.tree1
    → OwnList K (in_edition l.edition l.list) l.places.start l.places.size l.places.count → increasing C ≡ true → l.m ≡ length C
    → Numbered (decoded s) C l.order1 → FirstMarked l.k C (map spelling K) l.number
