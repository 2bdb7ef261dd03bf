-- What two texts come to, in 01's order: S, T, then 12 if the options are strict. Each theorem cites one name. Assumes nothing.
use Prim.Native.Nat.{ℕ}
use mathlib.Core.Path.{◌≡◌, refl}
use mathlib.Core.Bool.{true}
use mathlib.Core.List.{List}
use Rattle.trees.specs.declared.Reason.{Reason}
use Rattle.trees.specs.declared.Reason.TheVariants.{NotShared}
use Rattle.trees.specs.declared.Body.TheVariants.{S, T}
use Rattle.trees.specs.Edition.{folded, keyed}
use Rattle.trees.specs.Label.{Label}
use Rattle.trees.specs.Tree.{Tree}
use Rattle.trees.specs.Reading.{good, refused as unread}
use Rattle.newick.specs.ReadTree.{read_tree_in}
use Rattle.agreement.specs.Closer.{holds}
use Rattle.agreement.specs.Places.{place_in}
use Rattle.agreement.specs.Strict.{SameLeaves, IsStray}
use Rattle.pairs.specs.declared.Options.{Options}
use Rattle.pairs.specs.Outcome.{refused, found}
use Rattle.pairs.specs.TwoTrees.{trees_of}
use Rattle.pairs.proofs.StrayLaws.{shared_nowhere}
use Rattle.pairs.proofs.StepLaws.{trees_first, trees_second, trees_both, stray_first, stray_second}

module _ (o : Options) (first second : List ℕ) where
  -- "A body that fails to read ends the job there."
  pub first_refused : (r : Reason) (i : ℕ) → read_tree_in o.edition first ≡ unread r i
      → trees_of o first second ≡ refused (record { reason = r; body = S; place = i })
  first_refused r i e = trees_first o first second _ (record { reason = r; place = i; is = e; told = refl })

  module _ (s : Tree) (e : read_tree_in o.edition first ≡ good s) where
    pub second_refused : (r : Reason) (i : ℕ) → read_tree_in o.edition second ≡ unread r i
        → trees_of o first second ≡ refused (record { reason = r; body = T; place = i })
    second_refused r i f = trees_second o first second s e _ (record { reason = r; place = i; is = f; told = refl })

    module _ (t : Tree) (f : read_tree_in o.edition second ≡ good t) where
      -- C-11: 12 "with the letter and place of the first such leaf in S or, if S has none, in T"
      pub twelve_in_first : o.strict ≡ true → (x : Label) → IsStray (keyed o.edition s) (keyed o.edition t) x
          → trees_of o first second ≡ refused (record { reason = NotShared; body = S; place = place_in (folded o.edition s) 0 x })
      twelve_in_first = stray_first o first second s e t f

      pub twelve_in_second : o.strict ≡ true → (x : Label)
          → ((y : Label) → holds (keyed o.edition s) y ≡ true → holds (keyed o.edition t) y ≡ true)
          → IsStray (keyed o.edition t) (keyed o.edition s) x
          → trees_of o first second ≡ refused (record { reason = NotShared; body = T; place = place_in (folded o.edition t) 0 x })
      twelve_in_second = stray_second o first second s e t f

      pub both_read : (o.strict ≡ true → SameLeaves (keyed o.edition s) (keyed o.edition t))
          → trees_of o first second ≡ found (record { first = s; second = t })
      both_read h = trees_both o first second s e t f (shared_nowhere o s t h)
