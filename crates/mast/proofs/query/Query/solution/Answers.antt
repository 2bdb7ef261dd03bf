-- The writer's answer to the restricted arrays decides: their text is that of the set's restriction. Assumes nothing.
use mathlib.Core.Path.{sym, ◌∙◌, ap}
use Rattle.trees.specs.Edition.{folded, keyed}
use Rattle.trees.proofs.EditionLaws.{valid_folded, arrays_folded}
use Rattle.mast.proofs.SolutionLaws.{placed_result, ranked_proper, restricted_text, set_written, set_refused, set_output}
use Rattle.trees.specs.Arrays.{tree_of}
use Rattle.table.specs.Choice.{chosen_from}
use Rattle.mast.specs.Largest.{solution}
use Rattle.mast.proofs.query.Query.solution.Goals as goal

pub returns-in_default : goal.returns-in_default
returns-in_default c =
    let a = c.args in
    record {
      answer = λ s t xs C k.
          set_refused (solution a.self.now.edition s t xs (chosen_from a.chosen.now 0 C)) (tree_of c.restrict_tree-restricted.result a.self.now.first.now) a.out.now
          (restricted_text k t xs _ _ (c.kept_leaves-kept.ensures (keyed a.self.now.edition s) C (ranked_proper k) k.count k.numbered) _
          c.restrict_tree-restricted.ensures.tree)
          _ (sym c.write_tree-written.ensures.answer ∙ c.in_default.is);
      output = λ s t xs C k.
          c.write_tree-written.ensures.output
          ∙ set_output (solution a.self.now.edition s t xs (chosen_from a.chosen.now 0 C)) (tree_of c.restrict_tree-restricted.result a.self.now.first.now) a.out.now
          (restricted_text k t xs _ _ (c.kept_leaves-kept.ensures (keyed a.self.now.edition s) C (ranked_proper k) k.count k.numbered) _
          c.restrict_tree-restricted.ensures.tree);
    }

pub returns-clause-answer : goal.returns-clause-answer
returns-clause-answer c =
    let a = c.args in
    λ s t xs C k.
    let e = k.arrays_is ∙ sym (arrays_folded a.self.now.edition s) in
    placed_result _ _ (chosen_from a.chosen.now 0 C) _
    (c.set_places-set.ensures (folded a.self.now.edition s) C (valid_folded a.self.now.edition s k.valid) (ap (λ t. t.start) e) (ap (λ t. t.size) e)
    k.count k.numbered)
    ∙ set_written (solution a.self.now.edition s t xs (chosen_from a.chosen.now 0 C)) (tree_of c.restrict_tree-restricted.result a.self.now.first.now) a.out.now
    (restricted_text k t xs _ _ (c.kept_leaves-kept.ensures (keyed a.self.now.edition s) C (ranked_proper k) k.count k.numbered) _
    c.restrict_tree-restricted.ensures.tree)
    _ (sym c.write_tree-written.ensures.answer ∙ c.in-Ok.is)

pub returns-clause-output : goal.returns-clause-output
returns-clause-output c =
    let a = c.args in
    λ s t xs C k.
    c.write_tree-written.ensures.output
    ∙ set_output (solution a.self.now.edition s t xs (chosen_from a.chosen.now 0 C)) (tree_of c.restrict_tree-restricted.result a.self.now.first.now) a.out.now
    (restricted_text k t xs _ _ (c.kept_leaves-kept.ensures (keyed a.self.now.edition s) C (ranked_proper k) k.count k.numbered) _
    c.restrict_tree-restricted.ensures.tree)
