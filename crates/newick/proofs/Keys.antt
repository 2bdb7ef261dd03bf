-- The tags that the last arm of a `match` leaves: a tag that is none of them does not come there. Assumes nothing.
use Prim.Native.Nat.{ℕ}
use mathlib.Core.Path.{◌≡◌}
use mathlib.Core.Bool.{Bool, true, false, cond}
use mathlib.Core.Logic.{inl, inr}
use mathlib.Core.List.{List, [], ◌∷◌}
use lib.Dec.{eqb}
use borrow.Author.Tests.{eq-eqb}
use types.Run.{OneOf}
use Rattle.trees.proofs.Bools.{clash}

abbrev pub no_key : List ℕ → ℕ → Bool
no_key [] x = true
no_key (k ∷ ks) x = cond (eqb x k) false (no_key ks x)

here : (b : Bool) (x k : ℕ) → cond (eqb x k) false b ≡ true → x ≡ k → ⊥
here b x k h e = clash {b = cond (eqb x k) false b} h (rw (eq-eqb x k e))

later : (a b : Bool) → cond a false b ≡ true → b ≡ true
later true b h = clash {b = false} h (mathlib.Core.Path.refl)
later false b h = h

pub left_over : (ks : List ℕ) (x : ℕ) → no_key ks x ≡ true → OneOf ks x → ⊥
left_over [] x h o = o
left_over (k ∷ []) x h o = here true x k h o
left_over (k ∷ k' ∷ ks) x h (inl e) = here (no_key (k' ∷ ks) x) x k h e
left_over (k ∷ k' ∷ ks) x h (inr o) = left_over (k' ∷ ks) x (later (eqb x k) (no_key (k' ∷ ks) x) h) o
