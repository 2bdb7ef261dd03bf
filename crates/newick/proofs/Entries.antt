-- Array entries after a store, in an array that is filled from its front. Assumes nothing.
use Prim.Native.Nat.{ℕ, ◌<◌}
use mathlib.Core.Path.{◌≡◌}
use mathlib.Core.List.{List, [], ◌∷◌, ◌++◌}
use native.Mathlib.Omega.{arith}
use lib.ListN.{length, set}
use Rattle.trees.specs.Arrays.{padded, node_limit}
use Rattle.trees.proofs.PaddedLaws.{padded_store, padded_zero}

-- an entry stored just after those that are filled
pub stored : {a : List ℕ} (xs ys : List ℕ) (v n : ℕ) → n ≡ length xs → n < node_limit → ys ≡ xs ++ (v ∷ []) → a ≡ padded xs → set a n v ≡ padded ys
stored xs ys v n en h ey ea = rw (ea, en, ey) (padded_store node_limit xs (omega (arith, en, h)) v)

-- an entry that is 0 stands there already
pub kept : {a : List ℕ} (xs ys : List ℕ) → length xs < node_limit → ys ≡ xs ++ (0 ∷ []) → a ≡ padded xs → a ≡ padded ys
kept xs ys h ey ea = rw (ea, ey) (padded_zero node_limit xs h)
