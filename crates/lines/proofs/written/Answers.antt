-- `lines::written` meets its contract: the lines, or nothing. Assumes nothing.
use Rattle.lines.specs.Output.{written_part}
use Rattle.lines.proofs.OutputLaws.{part_none}
use mathlib.Core.Path.{◌∙◌, sym, ap}
use Rattle.lines.proofs.written.Goals as goal

pub returns-in-Ok : goal.returns-in-Ok
unfolding written_part
returns-in-Ok c = c.part.ensures ∙ ap (written_part c.args.out.now) (sym c.in-Ok.is)

pub returns-in-Err : goal.returns-in-Err
unfolding written_part
returns-in-Err c = c.part-in-Err.ensures ∙ part_none c.args.out.now ∙ ap (written_part c.args.out.now) (sym c.in-Err.is)
