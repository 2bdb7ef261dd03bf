-- `strict::stray_leaf` meets its contract. Assumes nothing.
use mathlib.Core.Path.{ap, ◌∙◌}
use Rattle.std.proofs.Common.{Err}
use Rattle.trees.specs.Tree.{decoded}
use Rattle.pairs.proofs.RankLaws.{own_proper, own_nodes, own_left}
use Rattle.pairs.proofs.StrayLaws.{shared_first, shared_second, shared_all, partners_of}
use Rattle.pairs.proofs.strict.stray_leaf.Goals as goal

pub returns-in-Some : goal.returns-in-Some
returns-in-Some c =
    λ s t first second one two p.
    ap Err c.stray.ensures
    ∙ shared_first one two _ (c.in-Some.ensures.lone (decoded s) (decoded t) (own_left one) (own_nodes one) (own_proper two) p)

pub returns-in-Some-lone_leaf : goal.returns-in-Some-lone_leaf
returns-in-Some-lone_leaf c =
    λ s t first second one two p.
    let lone = c.in_default.ensures.lone (decoded s) (decoded t) (own_left one) (own_nodes one) (own_proper two) p in
    let back = c.turned_round-back.ensures (decoded s) (decoded t) (own_left one) (own_nodes one) (own_proper two) p in
    ap Err c.stray-in-Some-lone_leaf.ensures
    ∙ shared_second one two lone _
    (c.in-Some-lone_leaf.ensures.lone (decoded t) (decoded s) (own_left two) (own_nodes two) (own_proper one)
    (partners_of (own_nodes two) back))

pub returns : goal.returns
returns c =
    λ s t first second one two p.
    let lone = c.in_default.ensures.lone (decoded s) (decoded t) (own_left one) (own_nodes one) (own_proper two) p in
    let back = c.turned_round-back.ensures (decoded s) (decoded t) (own_left one) (own_nodes one) (own_proper two) p in
    shared_all one two lone
    (c.in_default-lone_leaf.ensures.lone (decoded t) (decoded s) (own_left two) (own_nodes two) (own_proper one)
    (partners_of (own_nodes two) back))
