-- The numbers of what is returned are those of its outcome. Assumes nothing.
use mathlib.Core.Path.{◌≡◌, refl, ◌∙◌, ap}
use Rattle.std.specs.Prelude.{Result, Ok, Err}
use Rattle.pairs.specs.Outcome.{Outcome, refused, naming, found}
use Rattle.mast.specs.declared.Denied.{Denied}
use Rattle.mast.specs.NamedLabels.{result_of}
use Rattle.cabi.specs.declared.AgreeResult.{AgreeResult}
use Rattle.cabi.specs.Numbers.{denied_with, numbers_for}

-- by what is returned, of which f makes y and `given` makes the numbers
module _ {A B : Type 0} (f : A → B) (given : B → AgreeResult) where
  abbrev pub told_numbers : Result B Denied → AgreeResult
  told_numbers (Ok y) = given y
  told_numbers (Err d) = denied_with d

  pub told_numbers_lem : (x : Outcome A) (y : Result B Denied) → y ≡ result_of f x → told_numbers y ≡ numbers_for (λ a. given (f a)) x
  unfolding result_of numbers_for
  told_numbers_lem x y e = ap told_numbers e ∙ go x
    where
      go : (x : Outcome A) → told_numbers (result_of f x) ≡ numbers_for (λ a. given (f a)) x
      go (found r) = refl
      go (naming q n) = refl
      go (refused q) = refl
