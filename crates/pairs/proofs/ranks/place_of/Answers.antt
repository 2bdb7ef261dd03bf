-- `ranks::place_of` meets its contract. Assumes nothing.
use Rattle.std.proofs.Common.{rules, of_calls, not, arith, ℕ, ◌<◌, ◌≤◌, ◌≡◌, [], length, get_or}
use Rattle.std.proofs.lemmas.List.{length-take}
use Rattle.std.proofs.lemmas.List.Sorted.{IsPartitionPoint-from_clause}
use Rattle.trees.specs.Edition.{in_edition, key}
use Rattle.trees.specs.Label.{label_less}
use Rattle.trees.specs.Stored.{leaf_spelling}
use Rattle.pairs.proofs.RankLaws.{order_parted, point_place, own_part}
use Rattle.pairs.proofs.ranks.place_of.Goals as goal

pub returns-clause-place : goal.returns-clause-place
returns-clause-place c = λ t C o inc e n.
    let x = key c.args.edition c.args.token.now in
    let shown = leaf_spelling (in_edition c.args.edition c.args.text.now) c.args.tree.now.start c.args.tree.now.size in
    let order = c.args.order.now in
    let room : c.args.m ≤ length order = omega (arith, c.told-order, c.requires) in
    let is : (r : ℕ) → r < length C → shown (get_or order r 0) ≡ get_or C r [] = λ r h. own_part o _ _ (n r h) in
    let point = IsPartitionPoint-from_clause (λ u. not (label_less x (shown u))) _ _ c.partition_point.ensures.partitioned
    (order_parted x C shown order c.args.m e room is inc)
    (λ a r q k. search (rules, of_calls)) in
    point_place x C shown order c.args.m e room is _ (omega (arith, c.partition_point.ensures.bound, length-take c.args.m order)) point
