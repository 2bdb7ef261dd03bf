-- The steps of a query after both trees: what the lists, 6, 7 and 8 make of it. Assumes nothing.
use Prim.Native.Nat.{ℕ}
use mathlib.Core.Path.{◌≡◌, refl, sym, ◌∙◌, ap}
use mathlib.Core.List.{List}
use lib.ListN.{length}
use Rattle.trees.specs.declared.Body.TheVariants.{K, C}
use Rattle.trees.specs.declared.Refusal.{Refusal}
use Rattle.trees.specs.declared.Edition.{Edition}
use Rattle.trees.specs.Edition.{keyed}
use Rattle.trees.specs.Label.{Label}
use Rattle.trees.specs.Token.{Token}
use Rattle.trees.specs.Tree.{Tree}
use Rattle.trees.specs.Reading.{good}
use Rattle.newick.specs.ReadTree.{read_tree_in}
use Rattle.lists.specs.ReadList.{read_list_in}
use Rattle.agreement.specs.Answer.{Answer, largest}
use Rattle.agreement.specs.Strict.{SameLeaves}
use Rattle.pairs.specs.Outcome.{Outcome, refused, found, and_then}
use Rattle.pairs.specs.TwoTrees.{Trees, stray_for, trees_of}
use Rattle.pairs.proofs.StrayLaws.{shared_nowhere}
use Rattle.pairs.proofs.StepLaws.{then_refused, then_found, trees_both}
use Rattle.queries.specs.Query.{Task, task, plain, list_of, held_by, required_of}
use Rattle.queries.proofs.ListLaws.{list_read_lem}
use Rattle.mast.specs.Largest.{solve_list, solve}
use Rattle.mast.specs.Compare.{compare_other, compare_answers, compare_lists, compare}
use Rattle.mast.specs.Reads.{Reads}

pub trees_reads : (q : Task) (s t : Tree) (xs : List Token) → Reads q s t xs
    → trees_of q.options q.first q.second ≡ found (record { first = s; second = t })
trees_reads q s t xs r =
    trees_both q.options q.first q.second s r.first_is t r.second_is (shared_nowhere q.options s t r.shared)

module _ (q : Task) where
  abbrev E : Edition
  E = q.options.edition

  abbrev Both : Outcome Trees
  Both = trees_of q.options q.first q.second

  -- the largest set
  module _ (room : ℕ) where
    pub solve_stopped : (a : Refusal) → Both ≡ refused a → solve q room ≡ refused a
    unfolding solve
    solve_stopped = then_refused Both _

    module _ (p : Trees) (e : Both ≡ found p) where
      pub solve_unlisted : (a : Refusal) → list_of E K q.required ≡ refused a → solve q room ≡ refused a
      unfolding solve
      solve_unlisted a f = then_found Both _ p e ∙ then_refused _ _ a f

      pub solve_listed : (xs : List Token) → list_of E K q.required ≡ found xs → solve q room ≡ solve_list E room p xs
      unfolding solve
      solve_listed xs f = then_found Both _ p e ∙ then_found _ _ xs f

    pub solve_reads : (s t : Tree) (xs : List Token) → Reads q s t xs → solve q room ≡ solve_list E room (record { first = s; second = t }) xs
    solve_reads s t xs r = solve_listed _ (trees_reads q s t xs r) xs (list_read_lem E K q.required xs r.list_is)

    -- "a larger set is still impossible in both sorts"
    pub strict_as_plain : (s t : Tree) → read_tree_in E q.first ≡ good s → read_tree_in E q.second ≡ good t
        → SameLeaves (keyed E s) (keyed E t) → solve q room ≡ solve (task (plain E) q.first q.second q.required) room
    unfolding solve stray_for
    strict_as_plain s t e f h =
        ap (λ (x : Outcome Trees). and_then x (λ p. and_then (list_of E K q.required) (solve_list E room p)))
        (trees_both q.options q.first q.second s e t f (shared_nowhere q.options s t (λ _. h))
        ∙ sym (trees_both (plain E) q.first q.second s e t f refl))

  -- a further list
  module _ (other : List ℕ) where
    pub compare_stopped : (a : Refusal) → Both ≡ refused a → compare q other ≡ refused a
    unfolding compare
    compare_stopped = then_refused Both _

    module _ (p : Trees) (e : Both ≡ found p) where
      pub compare_unlisted : (a : Refusal) → list_of E K q.required ≡ refused a → compare q other ≡ refused a
      unfolding compare
      compare_unlisted a f = then_found Both _ p e ∙ then_refused _ _ a f

      module _ (xs : List Token) (f : list_of E K q.required ≡ found xs) where
        pub compare_unclaimed : (a : Refusal) → list_of E C other ≡ refused a → compare q other ≡ refused a
        unfolding compare
        compare_unclaimed a g = then_found Both _ p e ∙ then_found _ _ xs f ∙ then_refused _ _ a g

        pub compare_listed : (ys : List Token) → list_of E C other ≡ found ys → compare q other ≡ compare_lists E p xs ys
        unfolding compare
        compare_listed ys g = then_found Both _ p e ∙ then_found _ _ xs f ∙ then_found _ _ ys g

    pub compare_reads : (s t : Tree) (xs ys : List Token) → Reads q s t xs → read_list_in E other ≡ good ys
        → compare q other ≡ compare_lists E (record { first = s; second = t }) xs ys
    compare_reads s t xs ys r g =
        compare_listed _ (trees_reads q s t xs r) xs (list_read_lem E K q.required xs r.list_is) ys (list_read_lem E C other ys g)

-- if 6, 7 and 8 of the required list are not given
pub size_first : (e : Edition) (s : Tree) (xs ys : List Token) (A B : Answer) (X : List Label) → A ≡ largest X
    → compare_answers e s xs ys A B ≡ compare_other e s xs ys (length X) B
unfolding compare_answers required_of held_by
size_first e s xs ys A B X h = ap (λ (A : Answer). compare_answers e s xs ys A B) h
