-- `read` answers what reading the text gives: the loop's state simulates the reading. Assumes nothing.
use Prim.Native.Nat.{ℕ, ◌+◌, ◌<◌}
use mathlib.Core.List.{List}
use mathlib.Core.Path.{◌≡◌, refl, ap, ap₂, ◌∙◌, subst, sym}
use native.Mathlib.Omega.{arith}
use lib.ListN.{length, get_or}
use Rattle.std.proofs.lemmas.Result.{err_from_is_err_and}
use Rattle.trees.specs.declared.Kind.{Kind}
use Rattle.trees.specs.Bytes.{kind_of, kind_of_code, class_table}
use Rattle.trees.specs.Edition.{in_edition}
use Rattle.trees.proofs.ByteLaws.{kind_told}
use Rattle.trees.proofs.FoldLaws.{fold_size, kind_folded}
use Rattle.newick.specs.declared.Reader.{Reader}
use Rattle.newick.specs.Machine.{scan_in, arrays_in, text_in, move_of}
use Rattle.newick.specs.ReadTree.{read_tree, tree_read}
use Rattle.newick.proofs.EditionReads.{answer_in}
use Rattle.newick.proofs.Simulation.{Simulates, fresh_so, goes_on_so, stops_so, ready_so, ends_reader}
use Rattle.newick.proofs.Reader.read.Goals as goal

-- the byte at a place of the reader's text
module _ (r : Reader) (text : List ℕ) (i : ℕ) (same : r.text.now ≡ text) (h : i < length text) where
  inside : i < length (text_in r)
  inside = omega (arith, fold_size r.edition r.text.now, ap length same, h)

  kind_here : (table : List ℕ) (k : Kind) → table ≡ class_table → get_or text i 0 < 256 → k ≡ kind_of_code (get_or table (get_or text i 0) 0)
      → k ≡ kind_of (get_or (text_in r) i 0)
  kind_here table k e b q =
      kind_told table _ k e b q
      ∙ subst (λ (x : List ℕ). kind_of (get_or x i 0) ≡ kind_of (get_or (text_in r) i 0)) same
      (kind_folded r.edition r.text.now i (rw same h))

pub loop-at-init : goal.loop-at-init
loop-at-init c = (refl, refl, fresh_so _ _ _ c.requires)

pub step-requires : goal.step-requires
step-requires c = let l = c.loop-at in ready_so _ (scan_in l.mode l.self) (arrays_in l.self) l.at l.invariant.2

pub returns-in_err-mode : goal.returns-in_err-mode
returns-in_err-mode c body =
    let l = c.loop-at in let r = l.self in let t = c.loop-at-test.true in
    let k = kind_here r _ l.at l.invariant.1 t _ _ c.classes-table.ensures (omega arith) c.kind_in.ensures in
    let x = err_from_is_err_and c.from_residual.result c.from_residual.ensures.1 in
    rw (x.1, x.2)
    (stops_so _ l.mode r c.step.new.self l.at body _ l.invariant.2 (inside r _ l.at l.invariant.1 t)
    (c.in_err-mode.ensures.progress ∙ ap (move_of l.mode (text_in r) (scan_in l.mode r) (arrays_in r) l.at) k)
    ∙ ap₂ (λ e s. tree_read body (read_tree (in_edition e s))) l.invariant.0 l.invariant.1
    ∙ answer_in c.args.self.now.edition body c.args.self.now.text.now)

pub loop-at-preserved : goal.loop-at-preserved
loop-at-preserved c =
    let l = c.loop-at in let r = l.self in let t = c.loop-at-test.true in let s = c.in_ok-mode.ensures in
    let k = kind_here r _ l.at l.invariant.1 t _ _ c.classes-table.ensures (omega arith) c.kind_in.ensures in
    let on = goes_on_so _ l.mode c.in_ok-mode.mode r c.step.new.self l.at l.invariant.2 (inside r _ l.at l.invariant.1 t)
    (s.progress ∙ ap (move_of l.mode (text_in r) (scan_in l.mode r) (arrays_in r) l.at) k) in (
      s.edition_kept ∙ l.invariant.0,
      ap (λ b. b.now) s.text_kept ∙ l.invariant.1,
      subst (λ (x : List ℕ). Simulates x (scan_in c.in_ok-mode.mode c.step.new.self) (arrays_in c.step.new.self) (l.at + 1))
          (sym (ap₂ (λ e b. in_edition e b.now) s.edition_kept s.text_kept)) on,
    )

pub returns : goal.returns
returns c body =
    let l = c.loop-at in let r = l.self in
    ends_reader _ l.mode r l.at body c.at_end.result l.invariant.2
    (omega (arith, fold_size r.edition r.text.now, ap length l.invariant.1, c.loop-at-test.false)) (c.at_end.ensures body)
    ∙ ap₂ (λ e s. tree_read body (read_tree (in_edition e s))) l.invariant.0 l.invariant.1
    ∙ answer_in c.args.self.now.edition body c.args.self.now.text.now
