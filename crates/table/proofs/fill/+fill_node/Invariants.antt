-- Children have smaller numbers.
use Rattle.table.proofs.fill.+fill_node.Given as goal

abbrev pub decreases-fill_node : goal.decreases-fill_node
decreases-fill_node l = l.u
