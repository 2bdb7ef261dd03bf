-- `lines::write_lines` meets its contract: the lines, or number 9. Assumes nothing.
use Rattle.lines.proofs.AreaLaws.{put_then}
use Rattle.lines.proofs.LineLaws.{front_answer, front_output}
use Rattle.lines.proofs.write_lines.Goals as goal

pub returns : goal.returns
returns c =
    let p = put_then c.put_asked.ensures.put c.put_record.ensures in
    record { answer = front_answer p _ _ c.hand_over.ensures.answer; output = front_output p _ _ c.hand_over.ensures.output }
