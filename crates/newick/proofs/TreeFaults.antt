-- A tree text is refused exactly with its first fault, and an accepted text has no fault. Assumes nothing.
use Prim.Native.Nat.{ℕ}
use mathlib.Core.Path.{◌≡◌, ◌∙◌, ap, subst}
use mathlib.Core.List.{List}
use Rattle.trees.specs.declared.Reason.{Reason}
use Rattle.trees.specs.Tree.{Tree}
use Rattle.trees.specs.Reading.{Reading, good, refused}
use Rattle.trees.specs.Faults.{Fault}
use Rattle.newick.specs.ReadTree.{read_tree}
use Rattle.newick.specs.Grammar.{TreeText, OpenCrowd, TreeFault}
use Rattle.trees.proofs.FaultLaws.{first_unique}
use Rattle.newick.proofs.TreeFaultsWalk.{Result, reading}

-- the refusal is the first fault
pub refusal : (text : List ℕ) (r : Reason) (i : ℕ) → read_tree text ≡ refused r i → TreeFault text r i
refusal text r i e = subst (Result text) e (reading text)

-- an accepted text has no fault
pub accepted_clean : (text : List ℕ) (t : Tree) → read_tree text ≡ good t → (q : Reason) (j : ℕ) → Fault TreeText OpenCrowd text q j → ⊥
accepted_clean text t e = let r = subst (Result text) e (reading text) in r.2

-- the first fault is the refusal
pub fault_refused : (text : List ℕ) (r : Reason) (i : ℕ) → TreeFault text r i → read_tree text ≡ refused r i
fault_refused text r i f = go (read_tree text) (reading text)
  where
    go : (a : Reading Tree) → Result text a → a ≡ refused r i
    go (good t) g = absurd (g.2 r i f.here)
    go (refused q j) g = let u = first_unique TreeText OpenCrowd text q r j i g f in ap (λ (w : Reason). refused w j) u.0 ∙ ap (λ (w : ℕ). refused r w) u.1
