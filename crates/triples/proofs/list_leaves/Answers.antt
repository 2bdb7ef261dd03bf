-- The invariant: each label passed has its leaf. Assumes nothing.
use Rattle.std.proofs.Common.{◌≡◌, None, ap, sym, ◌∙◌, arith, length-set, get_or, set, get_or-set_same, get_or-set_other}
use Rattle.trees.specs.Edition.{in_edition}
use Rattle.trees.proofs.FoldLaws.{fold_part}
use Rattle.trees.proofs.EntryLaws.{below_next}
use Rattle.trees.specs.Token.{Token, spelling}
use Rattle.leaves.specs.Find.{leaf_found}
use Rattle.triples.specs.Loops.{label_in}
use Rattle.triples.proofs.list_leaves.Goals as goal

pub loop-k-preserved : goal.loop-k-preserved
unfolding label_in
loop-k-preserved c =
    let l = c.loop-k.invariant.0 in let a = c.args in let text = in_edition a.edition a.text.now in let k = c.loop-k.k in
    let new = c.find_leaf.result in (
      length-set c.loop-k.leaf k new ∙ l,
      below_next (λ i. get_or (set c.loop-k.leaf k new) i None ≡ leaf_found text a.tree.now.left a.tree.now.start a.tree.now.size
          (label_in (in_edition a.edition a.list.now) a.places.now.start a.places.now.size i) a.tree.now.nodes) k
          (λ i h. get_or-set_other c.loop-k.leaf k i new None (omega arith) ∙ c.loop-k.invariant.1 i h)
          (get_or-set_same c.loop-k.leaf k new None (omega (arith, l)) ∙ c.find_leaf.ensures ∙ ap (λ (p : Token). leaf_found text a.tree.now.left
          a.tree.now.start a.tree.now.size (spelling p) a.tree.now.nodes) (ap (in_edition a.edition) c.leaf_label-token.ensures ∙ sym (fold_part a.edition _ _ a.list.now))),
    )
