-- `strict::pair_leaves` meets its contract. Assumes nothing.
use mathlib.Core.Path.{◌∙◌, sym}
use Rattle.std.proofs.lemmas.Result.{err_from_is_err_and}
use Rattle.trees.specs.Edition.{folded}
use Rattle.pairs.proofs.StrayLaws.{paired_plain, paired_strict}
use Rattle.pairs.proofs.strict.pair_leaves.Goals as goal

pub returns-in_err-stray_leaf : goal.returns-in_err-stray_leaf
returns-in_err-stray_leaf c =
    λ s t one two.
    let r = err_from_is_err_and c.from_residual.result c.from_residual.ensures.1 in
    let p = c.partners-partner.ensures (folded _ s) (folded _ t) one two in
    rw (r.1, r.2) (sym c.in_err-stray_leaf.was ∙ c.stray_leaf.ensures (folded _ s) (folded _ t) _ _ one two p ∙ paired_strict _ s t c.if-options.true)

pub returns-in_ok-stray_leaf : goal.returns-in_ok-stray_leaf
returns-in_ok-stray_leaf c =
    λ s t one two.
    let p = c.partners-partner.ensures (folded _ s) (folded _ t) one two in
    (p, sym c.in_ok-stray_leaf.was ∙ c.stray_leaf.ensures (folded _ s) (folded _ t) _ _ one two p ∙ paired_strict _ s t c.if-options.true)

pub returns-else-options : goal.returns-else-options
returns-else-options c =
    λ s t one two. (c.partners-partner.ensures (folded _ s) (folded _ t) one two, paired_plain _ s t c.if-options.false)
