-- `compare_stored` meets its contract: the parts that it compares are the stored labels. Assumes nothing.
use Rattle.trees.specs.Stored.{stored_bytes}
use Rattle.trees.proofs.compare_stored.Goals as goal

pub returns : goal.returns
unfolding stored_bytes
returns c =
    cc
