-- `contents::decimal::value_of` meets its contract. Assumes nothing.
use Rattle.std.proofs.Common.{◌≡◌, ◌-◌, ◌+◌, ◌*◌, ◌∙◌, refl, arith, get_or, ap, drop, ℕ}
use Rattle.decimals.specs.Decimal.{value_from}
use Rattle.contents.proofs.RunLaws.{bound_more, bound_small, bound_none, value_more, value_done}
use Rattle.contents.proofs.decimal.value_of.Goals as goal

pub loop-b-init : goal.loop-b-init
loop-b-init c = record { small = bound_none; whole = refl }

pub overflow_mul-v : goal.overflow_mul-v
overflow_mul-v c = omega (arith, bound_small c.loop-b.b-index (omega arith))

pub overflow_add-v : goal.overflow_add-v
overflow_add-v c = omega (arith, bound_small c.loop-b.b-index (omega arith))

pub loop-b-preserved : goal.loop-b-preserved
loop-b-preserved c =
    let l = c.loop-b in
    let digits = c.args.digits.now in
    let d : c.from.result ≡ get_or digits l.b-index 0 - 48 = c.from.ensures ∙ c.saturating_sub.ensures in
    record {
      small = omega (arith, d, bound_more l.b-index l.v (get_or digits l.b-index 0) l.invariant.small (omega (arith, c.type_inv.digits l.b-index)));
      whole =
          ap (λ (k : ℕ). value_from (l.v * 10 + k) (drop (l.b-index + 1) digits)) d
          ∙ value_more digits l.b-index l.v c.loop-b-test.true
          ∙ l.invariant.whole;
    }

pub returns : goal.returns
returns c =
    let l = c.loop-b in value_done c.args.digits.now l.b-index l.v (omega arith) ∙ l.invariant.whole
