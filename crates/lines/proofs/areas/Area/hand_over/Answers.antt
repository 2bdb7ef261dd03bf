-- `Area::hand_over` meets its contract: all of the text, or nothing. Assumes nothing.
use native.Mathlib.Omega.{arith}
use lib.ListN.{take, length-take}
use Rattle.lines.proofs.AreaLaws.{handed, answer_fits, answer_short, output_short}
use Rattle.lines.proofs.areas.Area.hand_over.Goals as goal

pub returns-then-out-n : goal.returns-then-out-n
returns-then-out-n g c =
    let s = c.args.self.now in let t = take s.at s.bytes in
    record {
      answer = answer_short t _ (omega (arith, length-take s.at s.bytes, c.if-out-n.true, c.requires));
      output = output_short t c.args.out.now (omega (arith, length-take s.at s.bytes, c.if-out-n.true, c.requires));
    }

pub returns : goal.returns
returns g c =
    let s = c.args.self.now in let t = take s.at s.bytes in
    record {
      answer = answer_fits t _ _ (omega (arith, length-take s.at s.bytes, c.if-out-n.false, c.requires))
          (omega (arith, length-take s.at s.bytes, c.requires));
      output = handed t c.args.out.now _ s.at c.copy_from_slice.ensures.after (omega (arith, length-take s.at s.bytes, c.requires))
          (omega (arith, c.if-out-n.false));
    }
