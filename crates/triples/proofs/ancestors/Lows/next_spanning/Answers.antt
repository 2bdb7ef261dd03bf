-- The invariant: the search from here on finds what the search from w finds. Assumes nothing.
use Rattle.std.proofs.Common.{◌≡◌, ℕ, ◌≤◌, max, List, sym, ◌∙◌, arith, le-leb}
use native.Mathlib.Decide.{dec_le}
use borrow.Author.Tests.{lt-leb}
use Rattle.triples.specs.Loops.{span_from}
use Rattle.triples.proofs.SpanLaws.{span_end, span_hit, span_miss}
use Rattle.triples.proofs.ancestors.Lows.next_spanning.Goals as goal

pub returns-then-self-k : goal.returns-then-self-k
returns-then-self-k c = sym (span_hit _ _ _ _ (le-leb _ _ c.if-self-k.true)) ∙ c.loop-k.invariant

pub loop-k-preserved : goal.loop-k-preserved
loop-k-preserved c = sym (span_miss _ _ _ _ c.loop-k-test.true (lt-leb _ _ c.if-self-k.false)) ∙ c.loop-k.invariant

passed : (low : List ℕ) (v nodes w k : ℕ) → nodes ≤ k → (w ≤ nodes → k ≤ nodes) → span_from low v nodes k ≡ span_from low v nodes w
    → max w nodes ≡ span_from low v nodes w
passed low v nodes w k h f e = go (dec_le w nodes)
  where
    go : Dec (w ≤ nodes) → max w nodes ≡ span_from low v nodes w
    go (yes p) = omega (arith, f p, span_end low v nodes k h, e)
    go (no p) = omega (arith, span_end low v nodes w (omega arith))

pub returns : goal.returns
returns c = c.max.ensures ∙ passed _ _ _ _ c.loop-k.k c.loop-k-test.false c.loop-k.auto.k-end c.loop-k.invariant
