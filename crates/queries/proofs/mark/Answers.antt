-- `queries::mark` meets its contract. Assumes nothing.
use mathlib.Core.Path.{◌≡◌, ◌∙◌, subst}
use mathlib.Core.Bool.{false}
use mathlib.Core.List.{map}
use lib.ListN.{length-map}
use native.Mathlib.Omega.{arith}
use Rattle.trees.specs.Label.{Label, is_in}
use Rattle.trees.specs.Token.{spelling}
use Rattle.queries.proofs.LookupLaws.{token_read, marks_none, marks_next}
use Rattle.queries.proofs.mark.Goals as goal

pub loop-k-init : goal.loop-k-init
loop-k-init c = λ s C K o l i e n. marks_none C (map spelling K)

pub returns-in_default-clause-marked_to : goal.returns-in_default-clause-marked_to
returns-in_default-clause-marked_to c = λ s C K o l i e n.
    let x = token_read c.args.edition c.args.list.now l c.loop-k.k c.loop-k-test.true c.leaf_label-token.ensures in
    record {
      earlier = (c.loop-k.invariant s C K o l i e n).inside;
      missing = subst (λ (y : Label). is_in y C ≡ false) x (c.in_default.ensures.found_rank s C o e n);
    }

pub loop-k-preserved : goal.loop-k-preserved
loop-k-preserved c = λ s C K o l i e n.
    let x = token_read c.args.edition c.args.list.now l c.loop-k.k c.loop-k-test.true c.leaf_label-token.ensures in
    let f = c.in-Some.ensures.found_rank s C o e n in
    marks_next c.loop-k.k C (map spelling K) c.loop-k.number _ _ i l.different (omega arith)
    (omega (arith, l.count_is, length-map K spelling)) (omega arith) f.0 (f.1 ∙ x) (omega arith) (c.loop-k.invariant s C K o l i e n)
