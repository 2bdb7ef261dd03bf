-- What comes with an answer: the pieces of its job with a set, none with a refusal. Assumes nothing.
use Prim.Native.Nat.{ℕ}
use mathlib.Core.Path.{◌≡◌, sym, subst}
use mathlib.Core.Bool.{Bool, true, false, cond}
use native.Mathlib.Omega.{arith}
use lib.Dec.{leb}
use lib.ListN.{length}
use Rattle.std.specs.Prelude.{Result, Ok, Err, IsErr}
use Rattle.trees.specs.declared.Refusal.{Refusal}
use Rattle.pairs.specs.Outcome.{Outcome, refused, found}
use Rattle.division.specs.declared.PiecePlaces.{PiecePlaces}
use Rattle.division.specs.PiecesAt.{PiecesAt}
use Rattle.mast.specs.declared.Denied.{Denied}
use Rattle.mast.specs.declared.Divided.{Divided}
use Rattle.mast.specs.declared.Found.{Found}
use Rattle.mast.specs.NamedLabels.{result_of}
use Rattle.mast.specs.Largest.{Solution, solution_text, too_short, fitted, largest_of}
use Rattle.mast.specs.PiecesWith.{PiecesWith}

pub pieces_refused : (x : Outcome Solution) (q : Refusal) (r : Result Divided Denied) → x ≡ refused q → IsErr r → PiecesWith x r
pieces_refused x q r d h = subst (λ (y : Outcome Solution). PiecesWith y r) (sym d) h

-- with a set, and none if its text does not fit
module _ (r : Solution) (room : ℕ) (x : Outcome Solution) (is : x ≡ fitted room r) where
  pub pieces_fitted : (f : Found) → Ok f ≡ largest_of (fitted room r) → (p : PiecePlaces)
      → PiecesAt r.edition r.first r.second r.required p
      → PiecesWith x (Ok (record { size = f.size; length = f.length; set = f.set; pieces = p }))
  unfolding fitted result_of
  pieces_fitted f told p there = subst With (sym is) (go (leb (length (solution_text r)) room) told)
    where
      With : Outcome Solution → Type 0
      With y = PiecesWith y (Ok (record { size = f.size; length = f.length; set = f.set; pieces = p }))

      go : (b : Bool) → Ok f ≡ largest_of (cond b (found r) (refused too_short)) → With (cond b (found r) (refused too_short))
      go true e = there
      go false e = let z : ◌≡◌ {A = ℕ} 0 1 = cc in absurd (omega arith)

  pub pieces_unfitted : (e : Denied) → Err e ≡ largest_of (fitted room r) → (d : Result Divided Denied) → IsErr d → PiecesWith x d
  unfolding fitted result_of
  pieces_unfitted f told d there = subst With (sym is) (go (leb (length (solution_text r)) room) told)
    where
      With : Outcome Solution → Type 0
      With y = PiecesWith y d

      go : (b : Bool) → Err f ≡ largest_of (cond b (found r) (refused too_short)) → With (cond b (found r) (refused too_short))
      go true e = let z : ◌≡◌ {A = ℕ} 0 1 = cc in absurd (omega arith)
      go false e = there
