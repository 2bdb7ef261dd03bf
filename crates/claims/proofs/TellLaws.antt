-- The answer to a claim from what the engine tells of it. Assumes nothing.
use Prim.Native.Nat.{ℕ, ◌<◌, ◌≤◌}
use mathlib.Core.Path.{◌≡◌, refl, sym, ◌∙◌, ap}
use mathlib.Core.Option.{Option, some, none}
use native.Mathlib.Omega.{arith}
use Rattle.std.specs.Prelude.{Some, None, Ok, Err}
use Rattle.std.proofs.lemmas.Option.{none-some, same_Some}
use lib.ListN.{length}
use borrow.Author.Tests.{lt-ltb, le-ltb}
use Rattle.trees.specs.declared.Reason.TheVariants.{ClaimLacks}
use Rattle.trees.specs.declared.Body.TheVariants.{K}
use Rattle.agreement.specs.Answer.{Three}
use Rattle.mast.specs.declared.Compared.{Compared}
use Rattle.mast.specs.declared.Named.{Named}
use Rattle.mast.specs.declared.Denied.TheVariants.{Naming, Refused}
use Rattle.mast.specs.NamedLabels.{result_of}
use Rattle.mast.specs.Compare.{Comparison, place_if, named_if, compared_parts}
use Rattle.claims.specs.Judge.{claim_disagreement, fifteen, judged_by_size, judged_by_three, judged_by_list, verdict_on, claim_of}

module _ (c : Compared) (x : Comparison) (h : c ≡ compared_parts x) where
  missing_is : c.missing ≡ place_if x.required x.missed
  unfolding compared_parts
  missing_is = ap (λ y. y.missing) h

  clash_is : c.clash ≡ named_if x.edition x.first x.further x.clash
  unfolding compared_parts
  clash_is = ap (λ y. y.clash) h

  count_is : c.count ≡ length x.further
  unfolding compared_parts
  count_is = ap (λ y. y.count) h

  size_is : c.size ≡ x.size
  unfolding compared_parts
  size_is = ap (λ y. y.size) h

  -- 13
  pub lacking_told : (place : ℕ) → c.missing ≡ Some place
      → Err (Refused (record { reason = ClaimLacks; body = K; place = place })) ≡ claim_of (verdict_on x)
  unfolding place_if verdict_on judged_by_list result_of
  lacking_told place d = go x.missed (sym d ∙ missing_is)
    where
      go : (o : Option ℕ) → Some place ≡ place_if x.required o
          → Err (Refused (record { reason = ClaimLacks; body = K; place = place })) ≡ claim_of (judged_by_list x o)
      go none k = absurd (none-some place (sym k))
      go (some n) k = rw (same_Some _ _ k) refl

  module _ (all : c.missing ≡ None) where
    none_lacking : verdict_on x ≡ judged_by_three x x.clash
    unfolding place_if verdict_on judged_by_list
    none_lacking = go x.missed (sym all ∙ missing_is)
      where
        go : (o : Option ℕ) → None ≡ place_if x.required o → judged_by_list x o ≡ judged_by_three x x.clash
        go none k = refl
        go (some n) k = absurd (none-some _ k)

    -- 14
    pub clash_told_lem : (n : Named) → c.clash ≡ Some n → Err (Naming claim_disagreement n) ≡ claim_of (verdict_on x)
    unfolding named_if judged_by_three result_of
    clash_told_lem n d = rw none_lacking (go x.clash (sym d ∙ clash_is))
      where
        go : (o : Option Three) → Some n ≡ named_if x.edition x.first x.further o
            → Err (Naming claim_disagreement n) ≡ claim_of (judged_by_three x o)
        go none k = absurd (none-some n (sym k))
        go (some r) k = ap (λ m. Err (Naming claim_disagreement m)) (same_Some _ _ k)

    module _ (agreed : c.clash ≡ None) where
      by_size : verdict_on x ≡ judged_by_size x
      unfolding named_if judged_by_three
      by_size = rw none_lacking (go x.clash (sym agreed ∙ clash_is))
        where
          go : (o : Option Three) → None ≡ named_if x.edition x.first x.further o → judged_by_three x o ≡ judged_by_size x
          go none k = refl
          go (some r) k = absurd (none-some _ k)

      -- 15
      pub small_told : c.count < c.size → Err (Refused fifteen) ≡ claim_of (verdict_on x)
      unfolding judged_by_size result_of
      small_told l = rw (by_size, lt-ltb (length x.further) x.size (omega (arith, l, count_is, size_is))) refl

      -- or it passes
      pub passed_told : c.size ≤ c.count → Ok c.count ≡ claim_of (verdict_on x)
      unfolding judged_by_size result_of
      passed_told l =
          rw (by_size, le-ltb (length x.further) x.size (omega (arith, l, count_is, size_is))) (ap Ok count_is)
