-- The three readings are taken apart: a refusal is the verdict, else the comparison gives it. Assumes nothing.
use Rattle.std.proofs.Common.{sym, ◌∙◌}
use Rattle.std.proofs.lemmas.Result.{err_from_is_err_and}
use Rattle.trees.specs.declared.Body.TheVariants.{S, T, K}
use Rattle.triples.proofs.Readings.{tree_was, list_was, first_refused, second_refused, list_refused, all_read}
use Rattle.triples.proofs.Readings.{given_read, few_read}
use Rattle.newick.proofs.EditionReads.{answer_in}
use Rattle.lists.proofs.EditionLists.{list_answer_in}
use Rattle.triples.proofs.agree_on.Goals as goal

pub returns-in_err-one : goal.returns-in_err-one
returns-in_err-one c =
    let r = err_from_is_err_and c.from_residual.result c.from_residual.ensures.1 in
    rw (r.1, r.2)
    (first_refused _ _ _ c.read_tree-one.result _ (c.read_tree-one.ensures ∙ sym (answer_in _ S _)) c.in_err-one.was)

pub returns-in_err-two : goal.returns-in_err-two
returns-in_err-two c =
    let s = tree_was S _ c.read_tree-one.result _ (c.read_tree-one.ensures ∙ sym (answer_in _ S _)) c.in_ok-one.was in
    let r = err_from_is_err_and c.from_residual-in_err-two.result c.from_residual-in_err-two.ensures.1 in
    rw (r.1, r.2)
    (second_refused _ _ _ _ s c.read_tree-two.result _ (c.read_tree-two.ensures ∙ sym (answer_in _ T _)) c.in_err-two.was)

pub returns-in_err-three : goal.returns-in_err-three
returns-in_err-three c =
    let s = tree_was S _ c.read_tree-one.result _ (c.read_tree-one.ensures ∙ sym (answer_in _ S _)) c.in_ok-one.was in
    let t = tree_was T _ c.read_tree-two.result _ (c.read_tree-two.ensures ∙ sym (answer_in _ T _)) c.in_ok-two.was in
    let r = err_from_is_err_and c.from_residual-in_err-three.result c.from_residual-in_err-three.ensures.1 in
    rw (r.1, r.2)
    (list_refused _ _ _ _ s _ t c.read_list-three.result _ (c.read_list-three.ensures ∙ sym (list_answer_in _ K _)) c.in_err-three.was)

pub compared-requires : goal.compared-requires
compared-requires c =
    let s = tree_was S _ c.read_tree-one.result _ (c.read_tree-one.ensures ∙ sym (answer_in _ S _)) c.in_ok-one.was in
    let t = tree_was T _ c.read_tree-two.result _ (c.read_tree-two.ensures ∙ sym (answer_in _ T _)) c.in_ok-two.was in
    let k = list_was K _ c.read_list-three.result _ (c.read_list-three.ensures ∙ sym (list_answer_in _ K _)) c.in_ok-three.was in
    few_read _ _ _ _ s _ t _ k

pub returns : goal.returns
returns c =
    let s = tree_was S _ c.read_tree-one.result _ (c.read_tree-one.ensures ∙ sym (answer_in _ S _)) c.in_ok-one.was in
    let t = tree_was T _ c.read_tree-two.result _ (c.read_tree-two.ensures ∙ sym (answer_in _ T _)) c.in_ok-two.was in
    let k = list_was K _ c.read_list-three.result _ (c.read_list-three.ensures ∙ sym (list_answer_in _ K _)) c.in_ok-three.was in
    c.compared.ensures s.tree t.tree k.labels (given_read _ _ _ _ s _ t _ k) ∙ all_read _ _ _ _ s _ t _ k
