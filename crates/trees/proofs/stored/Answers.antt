-- `stored` meets its contract. The loop keeps that the first i bytes are copied and 0 stands after them. Assumes nothing.
use mathlib.Core.Path.{◌≡◌, sym, ◌∙◌, ap}
use native.Mathlib.Omega.{arith}
use Rattle.trees.specs.Label.{label_limit}
use Rattle.trees.specs.Stored.{read_as, stored_of}
use Rattle.trees.proofs.StoredLaws.{copy_next, stored_made}
use Rattle.trees.proofs.DecodeLaws.{read_size, read_at, spelling_told}
use Rattle.trees.proofs.stored.Goals as goal

pub loop-i-preserved : goal.loop-i-preserved
loop-i-preserved c =
    let e = c.args.edition in let l = c.loop-i in let q = c.of-x.result.quoted in let x = c.of-x.result.bytes.now in let n = read_size e q x in
    copy_next label_limit (read_as e q x) l.i _ l.bytes l.invariant (c.decode.ensures ∙ sym (read_at e q x l.i (omega arith))) (omega arith) (omega arith)

pub returns : goal.returns
returns c =
    let e = c.args.edition in let l = c.loop-i in let q = c.of-x.result.quoted in let x = c.of-x.result.bytes.now in let n = read_size e q x in
    let all : l.i ≡ c.min-len.result = omega arith in
    rw (← all)
    (stored_made (read_as e q x) l.i l.bytes (omega arith) l.invariant
    ∙ ap stored_of (spelling_told e _ q x c.of-x.ensures.quoted c.of-x.ensures.bytes))
