-- What the answer for the lines of a set or a claim says of them: they are written, or number 9, and no label is named. Assumes nothing.
use Prim.Native.Nat.{ℕ, ◌<◌}
use mathlib.Core.Path.{◌≡◌, refl, sym, ◌∙◌, ap}
use mathlib.Core.Bool.{true, false}
use mathlib.Core.Logic.{◌⊎◌, inl, inr}
use mathlib.Core.List.{List}
use native.Mathlib.Omega.{arith}
use lib.Dec.{leb}
use lib.ListN.{length}
use borrow.Author.Tests.{leb-false}
use Rattle.trees.specs.declared.Reason.TheVariants.{TooShort}
use Rattle.trees.specs.declared.Refusal.{Refusal}
use Rattle.trees.proofs.Bools.{bool_cases}
use Rattle.mast.specs.Largest.{too_short}
use Rattle.mast.specs.declared.Denied.{Denied}
use Rattle.mast.specs.declared.Denied.TheVariants.{Naming, Refused}
use Rattle.std.specs.Prelude.{Result, Ok, Err}
use Rattle.lines.specs.Output.{line_answer}
use Rattle.job.specs.Answered.{lines_answer, record_answer}

pub record_told : (lines : List ℕ) (room : ℕ) {l : Result ℕ Refusal} → l ≡ line_answer lines room → lines_answer l ≡ record_answer lines room
unfolding record_answer
record_told lines room e = ap lines_answer e

pub record_written : (lines : List ℕ) (room n : ℕ) → record_answer lines room ≡ Ok n → Ok n ≡ line_answer lines room
unfolding record_answer lines_answer
record_written lines room n e = go (line_answer lines room) e
  where
    go : (l : Result ℕ Refusal) → lines_answer l ≡ Ok n → Ok n ≡ l
    go (Ok m) h = let k : n ≡ m = cc in ap Ok k
    go (Err q) h = let z : ◌≡◌ {A = ℕ} 0 1 = cc in absurd (omega arith)

-- the line's answer carries number 9 only where the output is too short
line_nine : (lines : List ℕ) (room : ℕ) (q : Refusal) → line_answer lines room ≡ Err q → (q ≡ too_short) × (room < length lines)
unfolding line_answer
line_nine lines room q e = go (bool_cases (leb (length lines) room))
  where
    go : (leb (length lines) room ≡ true) ⊎ (leb (length lines) room ≡ false) → (q ≡ too_short) × (room < length lines)
    go (inl f) =
        let g : Ok (length lines) ≡ Err q = rw f at e in
        let z : ◌≡◌ {A = ℕ} 0 1 = cc in
        absurd (omega arith)
    go (inr f) =
        let g : Err too_short ≡ Err q = rw f at e in
        let k : q ≡ too_short = cc in
        (k, leb-false (length lines) room f)

pub record_refused : (lines : List ℕ) (room : ℕ) (q : Refusal) → record_answer lines room ≡ Err (Refused q)
    → (Err q ≡ line_answer lines room) × (q.reason ≡ TooShort) × (room < length lines)
unfolding record_answer lines_answer
record_refused lines room q e = go (line_answer lines room) refl e
  where
    go : (l : Result ℕ Refusal) → line_answer lines room ≡ l → lines_answer l ≡ Err (Refused q)
        → (Err q ≡ line_answer lines room) × (q.reason ≡ TooShort) × (room < length lines)
    go (Ok n) f h = let z : ◌≡◌ {A = ℕ} 0 1 = cc in absurd (omega arith)
    go (Err p) f h =
        let k : p ≡ q = cc in
        let g : line_answer lines room ≡ Err q = f ∙ ap Err k in
        let w = line_nine lines room q g in
        (sym g, ap (λ (r : Refusal). r.reason) w.0, w.1)

-- answers that name labels
abbrev pub Names : Result ℕ Denied → Type 0
Names (Ok n) = ⊥
Names (Err (Naming q n)) = Prim.Unit {0}
Names (Err (Refused q)) = ⊥

pub record_no_names : (lines : List ℕ) (room : ℕ) → Names (record_answer lines room) → ⊥
unfolding record_answer lines_answer
record_no_names lines room = go (line_answer lines room)
  where
    go : (l : Result ℕ Refusal) → Names (lines_answer l) → ⊥
    go (Ok m) h = h
    go (Err q) h = h
