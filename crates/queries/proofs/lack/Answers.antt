-- `queries::lack` meets its contract. Assumes nothing.
use mathlib.Core.Path.{◌∙◌, ap}
use native.Mathlib.Omega.{arith}
use Rattle.trees.specs.Edition.{folded, keyed}
use Rattle.agreement.specs.Closer.{holds}
use Rattle.queries.proofs.MarkLaws.{lack_told_of}
use Rattle.queries.proofs.LookupLaws.{token_read}
use Rattle.queries.proofs.lack.Goals as goal

pub returns : goal.returns
returns c =
    λ s t xs h.
    let g = c.args in
    let x = token_read g.edition g.list.now h.own_list g.n (omega (arith, h.below, h.own_list.count_is)) c.leaf_label-token.ensures in
    let held = c.holds_label.ensures (folded g.edition s) h.own ∙ ap (holds (keyed g.edition s)) x in
    rw (c.lack_reason.ensures, c.from.ensures) (lack_told_of g.edition s t xs _ _ _ _ g.n h g.body _ held)
