-- `divide` meets its contract: the list of ranks is that of the pieces, and each rank's leaf stands at its place. Assumes nothing.
use Rattle.trees.specs.Edition.{folded, keyed}
use Rattle.trees.proofs.TokenLaws.{valid_decoded}
use Rattle.lists.specs.ReadList.{keys_of}
use Rattle.division.proofs.PosedLaws.{posed}
use Rattle.division.proofs.PieceLaws.{required_agree, pieces_at_lem}
use Rattle.division.proofs.divide.Goals as goal

pub returns : goal.returns
returns c =
    λ e s t xs X h d.
    let z = c.args in let a = h.asked in
    let proper = valid_decoded (folded e s) a.one.valid in
    let ranks = c.pieces_of-list.ensures.piece_ranks (keyed e s) (keyed e t) (keys_of e xs)
    (posed a (c.rank_leaves.ensures (keyed e s) _ proper a.one.ordered a.one.count a.one.few a.one.numbered)
    (c.rank_leaves-2.ensures (keyed e t) _ (valid_decoded (folded e t) a.two.valid) a.two.ordered a.two.count a.two.few
    a.two.numbered))
    (required_agree e s t xs proper a.different X d) in
    pieces_at_lem e s t xs z.tree1 z.order.first z.order.count a.one c.pieces_of-list.result _ ranks c.places_at.ensures
