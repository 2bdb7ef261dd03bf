-- The invariant: the search from here on finds what the whole search finds. Assumes nothing.
use Rattle.std.proofs.Common.{◌≡◌, ℕ, Result, Err, ap, sym, ◌∙◌, arith}
use Rattle.trees.specs.declared.Reason.{Reason}
use Rattle.trees.specs.declared.Reason.TheVariants.{FirstLacks, SecondLacks}
use Rattle.trees.specs.declared.Body.TheVariants.{K}
use Rattle.trees.specs.declared.Refusal.{Refusal}
use Rattle.triples.proofs.LoopLaws.{lack_one, lack_two, lack_next, lack_end}
use Rattle.triples.proofs.lacking.Goals as goal

refused : (reason : Reason) (x : Refusal) (p q : ℕ) → x ≡ record { reason = reason; body = K; place = p } → p ≡ q
    → ◌≡◌ {A = Result (Prim.Unit {0}) Refusal} (Err x) (Err (record { reason = reason; body = K; place = q }))
refused reason x p q e d = ap Err (e ∙ ap (λ (n : ℕ). record { reason = reason; body = K; place = n }) d)

pub returns-then-is_none : goal.returns-then-is_none
returns-then-is_none c =
    refused FirstLacks _ _ _ c.lacks.ensures c.from.ensures
    ∙ sym (lack_one _ _ _ _ _ c.loop-k-test.true c.if-is_none.ensures) ∙ c.loop-k.invariant

pub returns-then-is_none-2 : goal.returns-then-is_none-2
returns-then-is_none-2 c =
    refused SecondLacks _ _ _ c.lacks-then-is_none-2.ensures c.from-then-is_none-2.ensures
    ∙ sym (lack_two _ _ _ _ _ c.loop-k-test.true c.if-is_none.ensures c.if-is_none-2.ensures) ∙ c.loop-k.invariant

pub loop-k-preserved : goal.loop-k-preserved
loop-k-preserved c = sym (lack_next _ _ _ _ _ c.loop-k-test.true c.if-is_none.ensures c.if-is_none-2.ensures) ∙ c.loop-k.invariant

pub returns : goal.returns
returns c = sym (lack_end _ _ _ _ _ (omega arith)) ∙ c.loop-k.invariant
