-- `keep` tells a repeat or keeps a label's place, with its mark. Assumes nothing.
use mathlib.Core.Path.{refl, ap, sym, ◌∙◌}
use native.Mathlib.Omega.{arith}
use Rattle.trees.specs.Edition.{in_edition}
use Rattle.trees.proofs.EntryLaws.{fits_byte, fits_place}
use Rattle.trees.proofs.FoldLaws.{fold_part}
use Rattle.trees.proofs.SlotLaws.{slot_small, met_told, marked_next}
use Rattle.lists.specs.ListMachine.{repeat_of}
use Rattle.lists.proofs.Reader.keep.Goals as goal

pub returns-then-is_met : goal.returns-then-is_met
unfolding repeat_of
returns-then-is_met c =
    let token = ap (in_edition _) c.part-token.ensures ∙ sym (fold_part _ _ _ _) in
    let r = met_told _ _ _ _ _ c.args.self.now.marked _ _ _ _ token c.slot-slot.ensures _ _ c.is_met.ensures in
    record { kept = (sym r ∙ c.if-is_met.true, refl); edition_kept = refl; text_kept = refl }

pub bounds-self-slot : goal.bounds-self-slot
bounds-self-slot c = rw c.slot-slot.ensures (slot_small _)

pub invariant_of-self-2 : goal.invariant_of-self-2
invariant_of-self-2 c =
    let first = c.narrow_place.ensures ∙ fits_place _ (omega (arith, c.requires)) in
    let len = c.narrow.ensures ∙ fits_byte _ (omega (arith, c.requires)) in
    let token = ap (in_edition _) c.part-token.ensures ∙ sym (fold_part _ _ _ _) in
    record { marked = rw (first, len) (marked_next _ _ _ _ _ c.args.self.now.marked _ _ _ _ token c.slot-slot.ensures _ c.requires.free) }

pub returns : goal.returns
unfolding repeat_of
returns c =
    let first = c.narrow_place.ensures ∙ fits_place _ (omega (arith, c.requires)) in
    let len = c.narrow.ensures ∙ fits_byte _ (omega (arith, c.requires)) in
    let token = ap (in_edition _) c.part-token.ensures ∙ sym (fold_part _ _ _ _) in
    let r = met_told _ _ _ _ _ c.args.self.now.marked _ _ _ _ token c.slot-slot.ensures _ _ c.is_met.ensures in
    record { kept = (sym r ∙ c.if-is_met.false, rw (first, len) refl); edition_kept = refl; text_kept = refl }
