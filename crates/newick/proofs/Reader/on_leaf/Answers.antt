-- `on_leaf` takes the step `leaf_of`, and a leaf leaves its mark. Assumes nothing.
use Prim.Native.Nat.{ℕ}
use mathlib.Core.List.{List}
use mathlib.Core.Path.{◌≡◌, refl, ap, sym, ◌∙◌}
use native.Mathlib.Omega.{arith}
use Rattle.trees.specs.declared.Edition.{Edition}
use Rattle.trees.specs.Edition.{in_edition}
use Rattle.trees.specs.Stored.{part_of, is_among}
use Rattle.trees.proofs.EntryLaws.{fits_byte, fits_place}
use Rattle.trees.proofs.FoldLaws.{fold_part}
use Rattle.trees.proofs.SlotLaws.{slot_small, marked_next}
use Rattle.newick.specs.Machine.{leaf_of, repeat_of}
use Rattle.newick.proofs.Reader.on_leaf.Goals as goal

-- the part of the text as the edition reads it
part_in : (e : Edition) (first len : ℕ) (text token : List ℕ) → token ≡ part_of first len text
    → in_edition e token ≡ part_of first len (in_edition e text)
part_in e first len text token h = ap (in_edition e) h ∙ sym (fold_part e first len text)

pub returns-then-repeats : goal.returns-then-repeats
unfolding leaf_of repeat_of
returns-then-repeats c m =
    let r = c.repeats.ensures ∙ ap (is_among _ _ _ _) (part_in _ _ _ _ _ c.part-token.ensures) in
    record { progress = rw (sym r ∙ c.if-repeats.true); edition_kept = refl; text_kept = refl }

pub bounds-self-slot : goal.bounds-self-slot
bounds-self-slot c = rw c.slot-slot.ensures (slot_small _)

pub invariant_of-self : goal.invariant_of-self
invariant_of-self c =
    let first = c.narrow_place.ensures ∙ fits_place _ (omega arith) in
    let len = c.narrow.ensures ∙ fits_byte _ (omega arith) in
    record {
      few = c.args.self.now.few;
      deep = c.args.self.now.deep;
      marked = rw (first, len)
          (marked_next _ _ _ _ _ c.args.self.now.marked _ _ _ _ (part_in _ _ _ _ _ c.part-token.ensures) c.slot-slot.ensures _ (omega arith));
    }

pub returns : goal.returns
unfolding leaf_of repeat_of
returns c m =
    let r = c.repeats.ensures ∙ ap (is_among _ _ _ _) (part_in _ _ _ _ _ c.part-token.ensures) in
    let own = c.narrow-own.ensures ∙ fits_byte _ (omega arith) in
    let first = c.narrow_place.ensures ∙ fits_place _ (omega arith) in
    let len = c.narrow.ensures ∙ fits_byte _ (omega arith) in
    record { progress = rw (own, first, len) (rw (sym r ∙ c.if-repeats.false)); edition_kept = refl; text_kept = refl }
