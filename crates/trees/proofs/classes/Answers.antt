-- `classes` meets its contract: the table is computed. Assumes nothing.
use mathlib.Core.Path.{refl}
use Rattle.trees.specs.Bytes.{class_table}
use Rattle.trees.proofs.classes.Goals as goal

pub returns : goal.returns
unfolding class_table
returns c =
    refl
