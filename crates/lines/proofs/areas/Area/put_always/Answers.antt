-- `Area::put_always` meets its contract: the parts of the line, one after another. Assumes nothing.
use Rattle.trees.specs.Words.{bytes_of}
use Rattle.lines.specs.Lines.{labels_in}
use Rattle.lines.proofs.AreaLaws.{put_then, put_as}
use Rattle.lines.proofs.LineLaws.{always_parts}
use Rattle.lines.proofs.areas.Area.put_always.Goals as goal

pub returns : goal.returns
unfolding bytes_of
returns g c =
    let a = c.args in let p = a.always.now in
    rw (← c.min.ensures)
    (put_as _ _ (always_parts (labels_in a.first.now p.start p.size c.min.result))
    (put_then (put_then c.put_bytes.ensures c.put_labels.ensures.put) c.put_byte.ensures))
