-- What is returned of a refusal. Assumes nothing.
use Prim.Native.Nat.{ℕ}
use mathlib.Core.Path.{◌≡◌, refl, sym, ◌∙◌, ap}
use mathlib.Core.List.{List}
use native.Mathlib.Omega.{arith}
use Rattle.std.specs.Prelude.{Ok, Err}
use Rattle.trees.specs.declared.Refusal.{Refusal}
use Rattle.trees.specs.Label.{Label}
use Rattle.pairs.specs.Outcome.{Outcome, refused, naming, found, and_then}
use Rattle.mast.specs.declared.Denied.{Denied}
use Rattle.mast.specs.declared.Denied.TheVariants.{Naming, Refused}
use Rattle.mast.specs.NamedLabels.{named_of, result_of}
use Rattle.mast.specs.Settled.{DeniedIs}

pub refused_result : {A B : Type 0} (f : A → B) (x : Outcome A) (q : Refusal) → x ≡ refused q → Err (Refused q) ≡ result_of f x
unfolding result_of
refused_result f x q h = ap (result_of f) (sym h)

-- a list is refused, and so what comes after it
pub denied_result : {A B : Type 0} (f : A → B) (x : Outcome (List Label)) (on : List Label → Outcome A) (d : Denied) → DeniedIs x d
    → Err d ≡ result_of f (and_then x on)
unfolding result_of and_then
denied_result f x on (Naming q n) h =
    ap (λ k. Err (Naming q k)) h.named ∙ ap (λ (y : Outcome (List Label)). result_of f (and_then y on)) (sym h.is)
denied_result f x on (Refused q) h = ap (λ (y : Outcome (List Label)). result_of f (and_then y on)) (sym h)

-- what an answer comes from

pub result_ok : {A B : Type 0} (f : A → B) (x : Outcome A) (y : B) → Ok y ≡ result_of f x → (a : A) × (x ≡ found a) × (y ≡ f a)
unfolding result_of
result_ok f (found a) y h = let e : y ≡ f a = cc in (a, refl, e)
result_ok f (naming q n) y h = let z : ◌≡◌ {A = ℕ} 0 1 = cc in absurd (omega arith)
result_ok f (refused q) y h = let z : ◌≡◌ {A = ℕ} 0 1 = cc in absurd (omega arith)

-- a refusal is handed on
pub result_err : {A B C D : Type 0} (f : A → B) (g : C → D) (on : A → Outcome C) (x : Outcome A) (d : Denied) → Err d ≡ result_of f x
    → Err d ≡ result_of g (and_then x on)
unfolding result_of and_then
result_err f g on (found a) d h = let z : ◌≡◌ {A = ℕ} 0 1 = cc in absurd (omega arith)
result_err f g on (naming q n) d h = let e : d ≡ Naming q (named_of n) = cc in ap Err e
result_err f g on (refused q) d h = let e : d ≡ Refused q = cc in ap Err e
