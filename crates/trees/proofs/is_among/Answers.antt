-- `is_among` meets its contract: the loop's count is the definition's. Assumes nothing.
use mathlib.Core.Path.{sym, ap, ◌∙◌}
use native.Mathlib.Omega.{arith}
use Rattle.trees.specs.Label.{same_label}
use Rattle.trees.specs.Token.{Token, spelling}
use Rattle.trees.specs.Edition.{in_edition, key}
use Rattle.trees.proofs.FoldLaws.{fold_part}
use Rattle.trees.proofs.AmongLaws.{among_none, among_hit, among_miss}
use Rattle.trees.proofs.is_among.Goals as goal

pub returns-then-same_label : goal.returns-then-same_label
returns-then-same_label c =
    let s = c.args in let l = c.loop-u in let here = sym (c.same_label.ensures ∙ ap (λ (y : Token). same_label (key s.edition s.token.now) (spelling y)) (ap (in_edition s.edition) c.leaf_label.ensures ∙ sym (fold_part s.edition _ _ s.text.now))) in
    sym (among_hit (in_edition s.edition s.text.now) (in_edition s.edition s.token.now) s.start.now s.size.now l.u (omega arith) (here ∙ c.if-same_label.true)) ∙ l.invariant

pub loop-u-preserved : goal.loop-u-preserved
loop-u-preserved c =
    let s = c.args in let l = c.loop-u in let here = sym (c.same_label.ensures ∙ ap (λ (y : Token). same_label (key s.edition s.token.now) (spelling y)) (ap (in_edition s.edition) c.leaf_label.ensures ∙ sym (fold_part s.edition _ _ s.text.now))) in
    sym (among_miss (in_edition s.edition s.text.now) (in_edition s.edition s.token.now) s.start.now s.size.now l.u (omega arith) (here ∙ c.if-same_label.false)) ∙ l.invariant

pub returns : goal.returns
returns c =
    let s = c.args in let l = c.loop-u in sym (among_none (in_edition s.edition s.text.now) (in_edition s.edition s.token.now) s.start.now s.size.now l.u (omega arith)) ∙ l.invariant
