-- A list is refused exactly with its first fault, and an accepted list has no fault. Assumes nothing.
use Prim.Native.Nat.{ℕ}
use mathlib.Core.Path.{◌≡◌, ◌∙◌, ap, subst}
use mathlib.Core.List.{List}
use Rattle.trees.specs.declared.Reason.{Reason}
use Rattle.trees.specs.Token.{Token}
use Rattle.trees.specs.Reading.{Reading, good, refused}
use Rattle.trees.specs.Faults.{Fault}
use Rattle.lists.specs.ReadList.{read_list}
use Rattle.lists.specs.ListGrammar.{ListText, LabelCrowd, ListFault}
use Rattle.trees.proofs.FaultLaws.{first_unique}
use Rattle.lists.proofs.ListFaultsWalk.{Result, reading}

-- the refusal is the first fault
pub list_refusal_lem : (text : List ℕ) (r : Reason) (i : ℕ) → read_list text ≡ refused r i → ListFault text r i
list_refusal_lem text r i e = subst (Result text) e (reading text)

-- an accepted list has no fault
pub list_accepted_clean : (text : List ℕ) (xs : List Token) → read_list text ≡ good xs → (q : Reason) (j : ℕ)
    → Fault ListText LabelCrowd text q j → ⊥
list_accepted_clean text xs e = let r = subst (Result text) e (reading text) in r.4

-- the first fault is the refusal
pub list_fault_refused : (text : List ℕ) (r : Reason) (i : ℕ) → ListFault text r i → read_list text ≡ refused r i
list_fault_refused text r i f = go (read_list text) (reading text)
  where
    go : (a : Reading (List Token)) → Result text a → a ≡ refused r i
    go (good xs) g = absurd (g.4 r i f.here)
    go (refused q j) g =
        let u = first_unique ListText LabelCrowd text q r j i g f in ap (λ (w : Reason). refused w j) u.0 ∙ ap (λ (w : ℕ). refused r w) u.1
