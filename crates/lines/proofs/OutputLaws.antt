-- The part of an output that was written; a text, or a count, that is cut where it has no more. Assumes nothing.
use Prim.Native.Nat.{ℕ, ◌+◌, ◌≤◌, min}
use mathlib.Core.Path.{◌≡◌, refl, sym, ◌∙◌, ap}
use mathlib.Core.Bool.{true, false}
use mathlib.Core.Logic.{◌⊎◌, inl, inr}
use mathlib.Core.List.{List, [], ◌++◌}
use native.Mathlib.Omega.{arith}
use lib.ListN.{length, take, drop, length-append}
use lib.Seq.{take_all, take-length, take-append_seam}
use lib.Dec.{leb}
use borrow.Author.Tests.{le-leb, leb-true, leb-false}
use Rattle.trees.specs.Stored.{part_of}
use Rattle.trees.proofs.Bools.{bool_cases}
use Rattle.lines.specs.Output.{line_answer, line_output, written_part}

pub part_none : (out : List ℕ) → part_of 0 0 out ≡ []
unfolding part_of
part_none out = rw (le-leb (0 + 0) (length out) (omega arith)) refl

pub written_whole : (text out : List ℕ) → length text ≤ length out
    → written_part (line_output text out) (line_answer text (length out)) ≡ text
unfolding line_output line_answer written_part part_of
written_whole text out h =
    let room : 0 + length text ≤ length (text ++ drop (length text) out) = omega (arith, length-append text (drop (length text) out)) in
    rw (le-leb (length text) (length out) h, le-leb (0 + length text) (length (text ++ drop (length text) out)) room)
    (take-append_seam text (drop (length text) out))

-- the front of a text: all of it if it has no more bytes
pub part_front : (text : List ℕ) (n : ℕ) → part_of 0 (min (length text) n) text ≡ take n text
unfolding part_of
part_front text n = rw (le-leb (0 + min (length text) n) (length text) (omega arith)) (go (bool_cases (leb (length text) n)))
  where
    go : (leb (length text) n ≡ true) ⊎ (leb (length text) n ≡ false) → take (min (length text) n) text ≡ take n text
    go (inl h) =
        let e : min (length text) n ≡ length text = omega (arith, leb-true (length text) n h) in
        ap (λ (k : ℕ). take k text) e ∙ take-length text ∙ sym (take_all n text (leb-true (length text) n h))
    go (inr h) =
        let e : min (length text) n ≡ n = omega (arith, leb-false (length text) n h) in
        ap (λ (k : ℕ). take k text) e
