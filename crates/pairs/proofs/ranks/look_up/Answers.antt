-- `ranks::look_up` meets its contract. Assumes nothing.
use mathlib.Core.Path.{sym, ◌∙◌}
use native.Mathlib.Omega.{arith}
use Rattle.trees.proofs.FoldLaws.{key_size}
use Rattle.leaves.proofs.FindLaws.{some_found}
use Rattle.pairs.proofs.RankLaws.{partner_empty, partner_missing, partner_found, empty_list}
use Rattle.pairs.proofs.ranks.look_up.Goals as goal

pub returns-then-spelled_size-eq0 : goal.returns-then-spelled_size-eq0
returns-then-spelled_size-eq0 c =
    λ t o. partner_empty o _ 0 (empty_list _ (key_size _ _ ∙ sym c.spelled_size.ensures ∙ c.if-spelled_size-eq0.true))

pub returns-in_err-v : goal.returns-in_err-v
returns-in_err-v c =
    λ t o. rw c.from_residual.ensures (partner_missing o _ 0 (sym c.in_err-v.ensures))

pub overflow_cast-result : goal.overflow_cast-result
overflow_cast-result c = omega (arith, (some_found _ _ _ _ _ _ _ (sym c.in_ok-v.ensures)).1)

pub returns : goal.returns
returns c =
    λ t o. partner_found o _ _ (sym c.in_ok-v.ensures)
