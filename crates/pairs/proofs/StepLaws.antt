-- The steps of a query one after the other, and what each body and 12 make of it. Assumes nothing.
use Prim.Native.Nat.{ℕ}
use mathlib.Core.Path.{◌≡◌, refl, ◌∙◌, ap}
use mathlib.Core.Bool.{true}
use mathlib.Core.List.{List}
use native.Mathlib.Omega.{arith}
use Rattle.trees.specs.declared.Reason.{Reason}
use Rattle.trees.specs.declared.Reason.TheVariants.{NotShared}
use Rattle.trees.specs.declared.Body.{Body}
use Rattle.trees.specs.declared.Body.TheVariants.{S, T}
use Rattle.trees.specs.declared.Refusal.{Refusal}
use Rattle.trees.specs.Edition.{folded, keyed}
use Rattle.trees.specs.Label.{Label}
use Rattle.trees.specs.Tree.{Tree}
use Rattle.trees.specs.Reading.{Reading, good, refused as unread}
use Rattle.newick.specs.ReadTree.{read_tree_in}
use Rattle.agreement.specs.Closer.{holds}
use Rattle.agreement.specs.Places.{place_in}
use Rattle.agreement.specs.Strict.{IsStray, Stray, in_first, in_second, nowhere}
use Rattle.pairs.specs.declared.Options.{Options}
use Rattle.std.proofs.Common.{Err}
use Rattle.pairs.specs.Outcome.{Outcome, Trio, refused, naming, found, and_then}
use Rattle.pairs.specs.TwoTrees.{body_of, stray_for, shared_by, trees_of}
use Rattle.pairs.specs.LoneLeaves.{shared_of}
use Rattle.pairs.proofs.StrayLaws.{stray_told}

-- what comes after a step that is refused, and after one that is not
pub then_refused : {A B : Type 0} (x : Outcome A) (f : A → Outcome B) (q : Refusal) → x ≡ refused q → and_then x f ≡ refused q
unfolding and_then
then_refused x f q e = ap (λ y. and_then y f) e

pub then_naming : {A B : Type 0} (x : Outcome A) (f : A → Outcome B) (q : Refusal) (n : Trio) → x ≡ naming q n → and_then x f ≡ naming q n
unfolding and_then
then_naming x f q n e = ap (λ y. and_then y f) e

pub then_found : {A B : Type 0} (x : Outcome A) (f : A → Outcome B) (y : A) → x ≡ found y → and_then x f ≡ f y
unfolding and_then
then_found x f y e = ap (λ z. and_then z f) e

-- a text that is not read is turned down for a reason, at a place
pub record Unread (A : Type 0) (x : Reading A) (body : Body) (refusal : Refusal) : Type 0 where
  pub reason : Reason
  pub place : ℕ
  pub is : x ≡ unread reason place
  pub told : refusal ≡ record { reason = reason; body = body; place = place }

pub body_unread : {A : Type 0} (body : Body) (x : Reading A) (q : Refusal) → Unread A x body q → body_of body x ≡ refused q
unfolding body_of
body_unread body x q u = rw (u.is, u.told) refl

pub body_read : {A : Type 0} (body : Body) (x : Reading A) (y : A) → x ≡ good y → body_of body x ≡ found y
unfolding body_of
body_read body x y e = ap (body_of body) e

-- S, T and 12
module _ (o : Options) (first second : List ℕ) where
  pub trees_first : (a : Refusal) → Unread Tree (read_tree_in o.edition first) S a → trees_of o first second ≡ refused a
  unfolding trees_of
  trees_first a u = then_refused _ _ a (body_unread S _ a u)

  module _ (s : Tree) (e : read_tree_in o.edition first ≡ good s) where
    pub trees_second : (a : Refusal) → Unread Tree (read_tree_in o.edition second) T a → trees_of o first second ≡ refused a
    unfolding trees_of
    trees_second a u = then_found _ _ s (body_read S _ s e) ∙ then_refused _ _ a (body_unread T _ a u)

    module _ (t : Tree) (f : read_tree_in o.edition second ≡ good t) where
      pub trees_read : (r : Stray) → stray_for o s t ≡ r → trees_of o first second ≡ shared_by o.edition s t r
      unfolding trees_of
      trees_read r k =
          then_found _ _ s (body_read S _ s e) ∙ then_found _ _ t (body_read T _ t f) ∙ ap (shared_by o.edition s t) k

      pub trees_both : stray_for o s t ≡ nowhere → trees_of o first second ≡ found (record { first = s; second = t })
      unfolding shared_by
      trees_both = trees_read nowhere

      pub trees_stray : (p : Refusal) → Err p ≡ shared_of (folded o.edition s) (folded o.edition t) (stray_for o s t)
          → trees_of o first second ≡ refused p
      unfolding shared_of shared_by
      trees_stray p k = go (stray_for o s t) refl k
        where
          go : (r : Stray) → stray_for o s t ≡ r → Err p ≡ shared_of (folded o.edition s) (folded o.edition t) r
              → trees_of o first second ≡ refused p
          go (in_first x) h k =
              let z : record { reason = NotShared; body = S; place = place_in (folded o.edition s) 0 x } ≡ p = cc in
              trees_read (in_first x) h ∙ ap refused z
          go (in_second x) h k =
              let z : record { reason = NotShared; body = T; place = place_in (folded o.edition t) 0 x } ≡ p = cc in
              trees_read (in_second x) h ∙ ap refused z
          go nowhere h k = let z : ◌≡◌ {A = ℕ} 0 1 = cc in absurd (omega arith)

      pub stray_first : o.strict ≡ true → (x : Label) → IsStray (keyed o.edition s) (keyed o.edition t) x
          → trees_of o first second ≡ refused (record { reason = NotShared; body = S; place = place_in (folded o.edition s) 0 x })
      unfolding shared_by
      stray_first h x k = trees_read (in_first x) (stray_told o s t h (in_first x) k)

      pub stray_second : o.strict ≡ true → (x : Label)
          → ((y : Label) → holds (keyed o.edition s) y ≡ true → holds (keyed o.edition t) y ≡ true)
          → IsStray (keyed o.edition t) (keyed o.edition s) x
          → trees_of o first second ≡ refused (record { reason = NotShared; body = T; place = place_in (folded o.edition t) 0 x })
      unfolding shared_by
      stray_second h x a k = trees_read (in_second x) (stray_told o s t h (in_second x) (a, k))
