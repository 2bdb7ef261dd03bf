-- `read_pair` meets its contract. Assumes nothing.
use Prim.Native.Nat.{min}
use mathlib.Core.Path.{◌∙◌, sym, ap, ap₂}
use native.Mathlib.Omega.{arith}
use Rattle.std.proofs.lemmas.Result.{err_from_is_err_and}
use Rattle.trees.specs.Edition.{folded}
use Rattle.trees.specs.declared.Body.TheVariants.{S, T}
use Rattle.pairs.specs.Outcome.{refused}
use Rattle.pairs.proofs.StepLaws.{trees_first, trees_second, trees_stray}
use Rattle.pairs.proofs.PairLaws.{ReadAs, tree_read_lem, tree_unread, tree_leaves, tree_few, tree_most, tree_count, all_shared, pair_clear}
use Rattle.pairs.proofs.read_pair.Goals as goal
use Rattle.pairs.proofs.read_pair.Goals.{In-Ok, In-Ok-answer2}

one : (c : In-Ok) → ReadAs c.args.options.edition c.args.first.now c.read_tree-one.result.tree c.in-Ok.leaves1
one c = tree_read_lem _ S _ _ _ c.read_tree-one.ensures c.in-Ok.is

two : (c : In-Ok-answer2) → ReadAs c.args.options.edition c.args.second.now c.read_tree-two.result.tree c.in-Ok-answer2.leaves2
two c = tree_read_lem _ T _ _ _ c.read_tree-two.ensures c.in-Ok-answer2.is

pub returns-in_default : goal.returns-in_default
returns-in_default c =
    let a = c.args in let u = tree_unread a.options.edition S a.first.now _ _ c.read_tree-one.ensures c.in_default.is in
    trees_first a.options a.first.now a.second.now _ u ∙ ap refused (sym c.unread_tree.ensures)

pub returns-in_default-answer2 : goal.returns-in_default-answer2
returns-in_default-answer2 c =
    let a = c.args in let s = one (goal.at.returns-in_default-answer2 c).In-Ok in
    let u = tree_unread a.options.edition T a.second.now _ _ c.read_tree-two.ensures c.in_default-answer2.is in
    trees_second a.options a.first.now a.second.now s.of s.is _ u
    ∙ ap refused (sym c.unread_tree-in_default-answer2.ensures)

pub pair_leaves-requires : goal.pair_leaves-requires
pair_leaves-requires c =
    let w = goal.at.pair_leaves-requires c in (tree_few (one w.In-Ok), tree_few (two w.In-Ok-answer2))

pub returns-in_err-partner : goal.returns-in_err-partner
returns-in_err-partner c =
    let a = c.args in let w = goal.at.returns-in_err-partner c in let s = one w.In-Ok in let t = two w.In-Ok-answer2 in
    let r = err_from_is_err_and c.from_residual.result c.from_residual.ensures.1 in
    rw (r.1, r.2) (trees_stray a.options a.first.now a.second.now s.of s.is t.of t.is _ (c.in_err-partner.ensures s.of t.of (tree_leaves s) (tree_leaves t)))

pub order_in-order-requires : goal.order_in-order-requires
order_in-order-requires c =
    let s = one (goal.at.order_in-order-requires c).In-Ok in (tree_few s, omega (arith, c.min.ensures, tree_count s))

pub returns : goal.returns
returns c =
    let a = c.args in let w = goal.at.returns c in let s = one w.In-Ok in let t = two w.In-Ok-answer2 in
    let p = c.in_ok-partner.ensures s.of t.of (tree_leaves s) (tree_leaves t) in
    let k = all_shared a.options s.of t.of p.1 in
    let d = c.order_in-order.ensures.ordered (folded a.options.edition s.of) (folded a.options.edition t.of) (tree_leaves s)
    (tree_leaves t).valid (c.min.ensures ∙ ap₂ min (tree_most s) (tree_most t)) p.0 in
    pair_clear a.options a.first.now a.second.now _ s t k c.order_in-order.ensures.count_bound d
