-- Arrays that are filled from their front: what one more entry makes of them. Assumes nothing.
use Prim.Native.Nat.{ℕ, suc, ◌-◌, ◌<◌}
use mathlib.Core.Path.{◌≡◌, sym, ◌∙◌, ap}
use mathlib.Core.List.{List, [], ◌∷◌, ◌++◌}
use native.Mathlib.Omega.{arith}
use lib.ListN.{length, set, replicate, length-append}
use lib.Seq.{set-append_seam, append_snoc}
use Rattle.trees.specs.Arrays.{padded_to}

module _ (n : ℕ) (xs : List ℕ) (h : length xs < n) where
  one_more : (v : ℕ) → padded_to n (xs ++ (v ∷ [])) ≡ xs ++ (v ∷ replicate (n - suc (length xs)) 0)
  one_more v =
      let e : length (xs ++ (v ∷ [])) ≡ suc (length xs) = simp length-append (omega arith) in
      rw e (append_snoc xs v (replicate (n - suc (length xs)) 0))

  one_zero : padded_to n xs ≡ xs ++ (0 ∷ replicate (n - suc (length xs)) 0)
  one_zero =
      let e : n - length xs ≡ suc (n - suc (length xs)) = omega arith in
      ap (λ (k : ℕ). xs ++ replicate k 0) e

  -- a store just past the entries lengthens them
  pub padded_store : (v : ℕ) → set (padded_to n xs) (length xs) v ≡ padded_to n (xs ++ (v ∷ []))
  padded_store v =
      ap (λ (l : List ℕ). set l (length xs) v) one_zero ∙ set-append_seam xs 0 (replicate (n - suc (length xs)) 0) v ∙ sym (one_more v)

  -- an entry that is 0 stands there already
  pub padded_zero : padded_to n xs ≡ padded_to n (xs ++ (0 ∷ []))
  padded_zero = one_zero ∙ sym (one_more 0)
