-- `tree_places` meets its contract. Assumes nothing.
use Rattle.places.proofs.LineLaws.{rank_numbers}
use Rattle.places.proofs.tree_places.Goals as goal

pub returns : goal.returns
returns c =
    λ t C K g e.
    let ranked = c.by_rank.ensures t C K _ _ g in
    rank_numbers _ _ _ _ g (c.places_in-places.ensures t C K _ _ _ g (c.below_of-below.ensures t C K g) e) ranked.0 ranked.1
