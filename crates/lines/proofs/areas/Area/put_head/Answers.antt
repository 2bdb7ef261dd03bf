-- `Area::put_head` meets its contract. Assumes nothing.
use mathlib.Core.List.{append_assoc}
use Rattle.trees.specs.Words.{bytes_of}
use Rattle.lines.specs.ItemText.{head_text}
use Rattle.lines.proofs.AreaLaws.{put_then, put_as}
use Rattle.lines.proofs.areas.Area.put_head.Goals as goal

pub returns : goal.returns
unfolding head_text bytes_of
returns g c =
    put_as _ _ (simp append_assoc)
    (put_then (put_then (put_then c.put_break.ensures c.put_bytes.ensures) c.put_shown.ensures) c.put_byte.ensures)
