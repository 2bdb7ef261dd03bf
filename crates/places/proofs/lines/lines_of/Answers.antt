-- `lines::lines_of` meets its contract. Assumes nothing.
use lib.ListN.{length, length-set}
use mathlib.Core.Path.{refl, sym, ◌∙◌, ap}
use native.Mathlib.Omega.{arith}
use Rattle.places.specs.Nodes.{numbers, tops}
use Rattle.places.proofs.ArrayLaws.{number_get, top_get}
use Rattle.places.proofs.LineLaws.{lines_none, lines_step}
use Rattle.places.proofs.lines.lines_of.Goals as goal

pub loop-r-init : goal.loop-r-init
loop-r-init c = record { line_size = refl; heads_size = refl; right = lines_none _ _ _ _ _ _ refl }

pub loop-r-preserved : goal.loop-r-preserved
loop-r-preserved c =
    let l = c.loop-r in
    let p = c.put_line.ensures in
    let one = c.args.one.now in
    let two = c.args.two.now in
    record {
      line_size = ap length p.line_after ∙ length-set l.line _ _ ∙ l.invariant.line_size;
      heads_size = ap length p.heads_after ∙ length-set l.heads _ _ ∙ l.invariant.heads_size;
      right =
          lines_step _ (numbers one) (numbers two) (tops one) _ _ _ l.line l.heads _ _ (omega (arith, c.loop-r-test.true, c.requires))
          c.line_at-j.ensures.upper_bound l.invariant.line_size l.invariant.heads_size
          (rw (number_get one l.r, number_get two l.r) c.line_at-j.ensures.value)
          (sym (top_get one l.r)) p.line_after p.heads_after l.invariant.right;
    }
