-- `unread_tree` meets its contract. Assumes nothing.
use mathlib.Core.Path.{refl}
use Rattle.pairs.specs.PairRead.{unread_tree}
use Rattle.pairs.proofs.unread_tree.Goals as goal

pub returns-in-Ok : goal.returns-in-Ok
unfolding unread_tree
returns-in-Ok c =
    rw c.in-Ok.is refl

pub returns-in-Err : goal.returns-in-Err
unfolding unread_tree
returns-in-Err c =
    rw c.in-Err.is refl
