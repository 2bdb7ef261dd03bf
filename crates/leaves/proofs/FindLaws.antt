-- The steps of the search for a leaf with a label. Assumes nothing.
use Prim.Native.Nat.{ℕ, zero, suc, ◌+◌, ◌-◌, ◌<◌, ◌≤◌, min}
use mathlib.Core.Path.{◌≡◌, refl, sym, ◌∙◌, ap}
use mathlib.Core.Bool.{Bool, true, false, cond}
use mathlib.Core.Logic.{◌⊎◌, inl, inr}
use mathlib.Core.List.{List}
use native.Mathlib.Omega.{arith}
use native.Mathlib.Numerals.{add-one}
use lib.Dec.{ltb}
use borrow.Author.Tests.{ltb-true, ltb-false, lt-ltb, le-ltb}
use Rattle.std.proofs.Common.{Some, None}
use Rattle.std.specs.Prelude.{is_some}
use Rattle.std.specs.Option.{unwrap_or}
use Rattle.trees.specs.Arrays.{node_limit}
use Rattle.trees.specs.Label.{Label}
use Rattle.trees.proofs.Bools.{bool_cases}
use Rattle.leaves.specs.Find.{labelled, leaf_from, found_leaf, leaf_found}

from_suc : (is : ℕ → Bool) (m u : ℕ) → is u ≡ false → leaf_from is (suc m) u ≡ leaf_from is m (suc u)
unfolding leaf_from
from_suc is m u k = rw k refl

hit : (is : ℕ → Bool) (m u : ℕ) → is u ≡ true → leaf_from is m u ≡ u
unfolding leaf_from
hit is zero u k = refl
hit is (suc m) u k = rw k refl

-- the same, over the number of nodes that are left
pub from_hit : (is : ℕ → Bool) (n u : ℕ) → is u ≡ true → leaf_from is (n - u) u ≡ u
from_hit is n u k = hit is (n - u) u k

pub from_miss : (is : ℕ → Bool) (n u : ℕ) → u < n → is u ≡ false → leaf_from is (n - u) u ≡ leaf_from is (n - (u + 1)) (u + 1)
from_miss is n u h k =
    let e : n - u ≡ suc (n - (u + 1)) = omega arith in
    rw (e, from_suc is (n - (u + 1)) u k, add-one u) refl

pub from_end : (is : ℕ → Bool) (n u : ℕ) → n ≤ u → leaf_from is (n - u) u ≡ u
unfolding leaf_from
from_end is n u h =
    let e : n - u ≡ 0 = omega arith in
    rw e refl

from_past : (is : ℕ → Bool) (n u : ℕ) → leaf_from is n u ≤ u + n
unfolding leaf_from
from_past is zero u = omega arith
from_past is (suc n) u = go (is u) (from_past is n (suc u))
  where
    go : (b : Bool) → leaf_from is n (suc u) ≤ suc u + n → cond b u (leaf_from is n (suc u)) ≤ u + suc n
    go true h = omega arith
    go false h = omega arith

-- what is found, as an option
module _ (text left start size : List ℕ) (x : Label) (nodes : ℕ) where
  found_past : found_leaf text left start size x nodes ≤ min nodes node_limit
  unfolding found_leaf
  found_past = omega (arith, from_past (labelled text left start size x) (min nodes node_limit) 0)

  pub found_here : (u : ℕ) → u < min nodes node_limit → u ≡ found_leaf text left start size x nodes → Some u ≡ leaf_found text left start size x nodes
  unfolding leaf_found
  found_here u h e = rw (← e, lt-ltb u (min nodes node_limit) h) refl

  pub found_none : min nodes node_limit ≡ found_leaf text left start size x nodes → None ≡ leaf_found text left start size x nodes
  unfolding leaf_found
  found_none e = rw (← e, le-ltb (min nodes node_limit) (min nodes node_limit) (omega arith)) refl

  -- the number that an option stands for, and whether there is one
  pub found_number : unwrap_or (leaf_found text left start size x nodes) (min nodes node_limit) ≡ found_leaf text left start size x nodes
  unfolding leaf_found
  found_number = go (bool_cases (ltb (found_leaf text left start size x nodes) (min nodes node_limit)))
    where
      go : (ltb (found_leaf text left start size x nodes) (min nodes node_limit) ≡ true)
          ⊎ (ltb (found_leaf text left start size x nodes) (min nodes node_limit) ≡ false)
          → unwrap_or (leaf_found text left start size x nodes) (min nodes node_limit) ≡ found_leaf text left start size x nodes
      go (inl h) = rw h refl
      go (inr h) = rw h (omega (arith, ltb-false (found_leaf text left start size x nodes) (min nodes node_limit) h, found_past))

  pub found_is_some : is_some (leaf_found text left start size x nodes) ≡ ltb (found_leaf text left start size x nodes) (min nodes node_limit)
  unfolding leaf_found
  found_is_some = go (ltb (found_leaf text left start size x nodes) (min nodes node_limit))
    where
      go : (b : Bool) → is_some (cond b (Some (found_leaf text left start size x nodes)) None) ≡ b
      go true = refl
      go false = refl

  -- what each outcome says
  pub some_found : (u : ℕ) → leaf_found text left start size x nodes ≡ Some u → (u ≡ found_leaf text left start size x nodes) × (u < min nodes node_limit)
  some_found u e = (ap (λ o. unwrap_or o (min nodes node_limit)) (sym e) ∙ found_number, ltb-true u (min nodes node_limit) told)
    where
      told : ltb u (min nodes node_limit) ≡ true
      told = rw (ap (λ o. unwrap_or o (min nodes node_limit)) (sym e) ∙ found_number) (sym found_is_some ∙ ap is_some e)

  pub none_found : leaf_found text left start size x nodes ≡ None → found_leaf text left start size x nodes ≡ min nodes node_limit
  none_found e = sym found_number ∙ ap (λ o. unwrap_or o (min nodes node_limit)) e
