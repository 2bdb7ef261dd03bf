-- What holds of each way to stop at the trees, or at a list, and of what is asked of them, holds of the whole. Assumes nothing.
use Prim.Native.Nat.{ℕ}
use mathlib.Core.Path.{◌≡◌, refl}
use mathlib.Core.List.{List}
use Rattle.trees.specs.declared.Reason.{Reason}
use Rattle.trees.specs.declared.Reason.TheVariants.{NotShared}
use Rattle.trees.specs.declared.Body.{Body}
use Rattle.trees.specs.declared.Body.TheVariants.{S, T}
use Rattle.trees.specs.declared.Edition.{Edition}
use Rattle.trees.specs.Edition.{folded}
use Rattle.trees.specs.Label.{Label}
use Rattle.trees.specs.Token.{Token}
use Rattle.trees.specs.Tree.{Tree}
use Rattle.trees.specs.Reading.{Reading, good, refused as unread}
use Rattle.newick.specs.ReadTree.{read_tree_in}
use Rattle.lists.specs.ReadList.{read_list_in}
use Rattle.agreement.specs.Places.{place_in}
use Rattle.agreement.specs.Strict.{Stray, in_first, in_second, nowhere}
use Rattle.pairs.specs.declared.Options.{Options}
use Rattle.pairs.specs.Outcome.{Outcome, refused, and_then}
use Rattle.pairs.specs.TwoTrees.{Trees, body_of, stray_for, shared_by, trees_of}
use Rattle.queries.specs.Query.{list_of}

module _ {A : Type 0} (o : Options) (first second : List ℕ) (on : Trees → Outcome A) (P : Outcome A → Type 0)
    (one : (r : Reason) (i : ℕ) → read_tree_in o.edition first ≡ unread r i → P (refused (record { reason = r; body = S; place = i })))
    (two : (r : Reason) (i : ℕ) → read_tree_in o.edition second ≡ unread r i → P (refused (record { reason = r; body = T; place = i })))
    (lone-first : (s : Tree) (x : Label) → P (refused (record { reason = NotShared; body = S; place = place_in (folded o.edition s) 0 x })))
    (lone-second : (t : Tree) (x : Label) → P (refused (record { reason = NotShared; body = T; place = place_in (folded o.edition t) 0 x })))
    (both : (s t : Tree) → read_tree_in o.edition first ≡ good s → read_tree_in o.edition second ≡ good t
    → P (on (record { first = s; second = t }))) where
  pub each_way : P (and_then (trees_of o first second) on)
  unfolding trees_of body_of shared_by
  each_way = go (read_tree_in o.edition first) (read_tree_in o.edition second) refl refl
    where
      shared : (s t : Tree) → read_tree_in o.edition first ≡ good s → read_tree_in o.edition second ≡ good t → (z : Stray)
          → P (and_then (shared_by o.edition s t z) on)
      shared s t e f (in_first x) = lone-first s x
      shared s t e f (in_second x) = lone-second t x
      shared s t e f nowhere = both s t e f

      go : (a b : Reading Tree) → read_tree_in o.edition first ≡ a → read_tree_in o.edition second ≡ b
          → P (and_then (and_then (body_of S a) (λ s. and_then (body_of T b) (λ t. shared_by o.edition s t (stray_for o s t)))) on)
      go (unread r i) b e f = one r i e
      go (good s) (unread r i) e f = two r i f
      go (good s) (good t) e f = shared s t e f (stray_for o s t)

pub each_list : {A : Type 0} (e : Edition) (body : Body) (text : List ℕ) (on : List Token → Outcome A) (P : Outcome A → Type 0)
    → ((r : Reason) (i : ℕ) → read_list_in e text ≡ unread r i → P (refused (record { reason = r; body = body; place = i })))
    → ((xs : List Token) → read_list_in e text ≡ good xs → P (on xs)) → P (and_then (list_of e body text) on)
unfolding list_of body_of and_then
each_list e body text on P stop read = go (read_list_in e text) refl
  where
    go : (z : Reading (List Token)) → read_list_in e text ≡ z → P (and_then (body_of body z) on)
    go (unread r i) h = stop r i h
    go (good xs) h = read xs h
