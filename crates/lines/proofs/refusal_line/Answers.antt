-- `lines::refusal_line` meets its contract: the words and a line end. Assumes nothing.
use borrow.Author.Rules.{rules}
use Rattle.lines.proofs.LineLaws.{words_fit, refusal_put, front_answer, front_output}
use Rattle.lines.proofs.refusal_line.Goals as goal

pub put_byte-requires : goal.put_byte-requires
put_byte-requires c =
    (search rules, words_fit c.args.refusal c.put_refusal.ensures (search rules))

pub returns : goal.returns
returns c =
    let p = refusal_put c.args.refusal c.put_refusal.ensures c.put_byte.ensures in
    record { answer = front_answer p _ _ c.hand_over.ensures.answer; output = front_output p _ _ c.hand_over.ensures.output }
