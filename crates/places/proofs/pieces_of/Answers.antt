-- `pieces_of` meets its contract. Assumes nothing.
use Rattle.places.proofs.PieceLaws.{pieces_stored}
use Rattle.places.proofs.pieces_of.Goals as goal

pub returns-clause-piece_ranks : goal.returns-clause-piece_ranks
returns-clause-piece_ranks c =
    λ s t K posed agree.
    pieces_stored posed agree c.min-n.result c.min-n.ensures _ _ _ _ _ _ c.tree_places-first.ensures c.tree_places-second.ensures
    c.lines_of-lines.ensures _ c.list_lines.ensures
