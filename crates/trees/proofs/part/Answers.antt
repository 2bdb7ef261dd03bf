-- `part` meets its contract: the tests on the way say whether the part lies in the text. Assumes nothing.
use native.Mathlib.Omega.{arith}
use borrow.Author.Tests.{le-leb, lt-leb}
use native.Mathlib.Nat.{add-sub_cancel_left}
use Rattle.trees.specs.Stored.{part_of}
use Prim.Native.Nat.{◌+◌}
use lib.ListN.{length}
use mathlib.Core.Path.{refl}
use Rattle.trees.proofs.part.Goals as goal

pub returns-then-text-start : goal.returns-then-text-start
unfolding part_of
returns-then-text-start c =
    let a = c.args in rw (lt-leb (a.start + a.size) (length a.text.now) (omega arith)) refl

pub returns-then-text-start-2 : goal.returns-then-text-start-2
unfolding part_of
returns-then-text-start-2 c =
    let a = c.args in rw (lt-leb (a.start + a.size) (length a.text.now) (omega arith)) refl

pub returns : goal.returns
unfolding part_of
returns c =
    let a = c.args in rw (le-leb (a.start + a.size) (length a.text.now) (omega arith), add-sub_cancel_left) refl
