-- A further list of labels beside the largest set; a claimed set is judged by this. C-16: "A body with letter C, listed and read right after K
-- and written like K, holds the claimed set."
use Rattle.std.specs.Prelude.{ℕ, suc, ◌<◌, ◌≡◌, true, false, cond, List, [], ◌∷◌, length, get_or, Some, None, Result, Option as Optional}
use Rattle.std.proofs.Math.Option.{Option, some, none}
use Rattle.trees.specs.declared.Body.TheVariants.{K, C}
use Rattle.trees.specs.declared.Edition.{Edition}
use Rattle.trees.specs.Label.{Label, is_in}
use Rattle.trees.specs.Token.{Token}
use Rattle.trees.specs.Tree.{Tree}
use Rattle.lists.specs.ReadList.{keys_of}
use Rattle.agreement.specs.Answer.{Three, Answer}
use Rattle.agreement.specs.Places.{place_of_number}
use Rattle.mast.specs.declared.Named.{Named}
use Rattle.mast.specs.declared.Compared.{Compared}
use Rattle.mast.specs.declared.Denied.{Denied}
use Rattle.pairs.specs.Outcome.{Outcome, found, and_then, trio}
use Rattle.pairs.specs.TwoTrees.{Trees, trees_of}
use Rattle.mast.specs.NamedLabels.{named_of, result_of}
use Rattle.queries.specs.Query.{Task, AllHeld, with_clash, with_set, list_of, answer_to, held_by, required_of}

pub record Comparison : Type 0 where
  pub edition : Edition
  -- the first tree, which spells all that is printed
  pub first : Tree
  pub required : List Token
  pub further : List Token
  -- of the largest set
  pub size : ℕ
  -- the index in the required list, from 0, of its first label that the further list lacks
  pub missed : Option ℕ
  -- the further list's first three labels with different closer pairs
  pub clash : Option Three

-- "the first required label missing from the claim": its index in list order
unfoldable pub missing : List Label → List Label → ℕ → Option ℕ
missing [] Y n = none
missing (x ∷ xs) Y n = cond (is_in x Y) (missing xs Y (suc n)) (some n)

-- label n of K is the first that Y lacks
pub record IsMissing (K Y : List Label) (n : ℕ) : Type 0 where
  pub in_list : n < length K
  pub earlier : (m : ℕ) → m < n → is_in (get_or K m []) Y ≡ true
  pub lacked : is_in (get_or K n []) Y ≡ false

-- three labels with different closer pairs, if there are such
unfoldable pub clash_of : AllHeld → Option Three
clash_of (with_clash r) = some r
clash_of (with_set X) = none

unfoldable pub comparison : Edition → Tree → List Token → List Token → ℕ → AllHeld → Comparison
unfolding missing clash_of
comparison e s xs ys size h =
    record {
      edition = e;
      first = s;
      required = xs;
      further = ys;
      size = size;
      missed = missing (keys_of e xs) (keys_of e ys) 0;
      clash = clash_of h;
    }

-- "A label of C absent from a tree takes 6 or 7 with letter C": from the answer to the further list, if the largest set has `size` labels
unfoldable pub compare_other : Edition → Tree → List Token → List Token → ℕ → Answer → Outcome Comparison
unfolding and_then held_by comparison
compare_other e s xs ys size B = and_then (held_by C ys B) (λ h. found (comparison e s xs ys size h))

-- "after number 8": 6, 7 and 8 of the required list come first
unfoldable pub compare_answers : Edition → Tree → List Token → List Token → Answer → Answer → Outcome Comparison
unfolding and_then required_of compare_other
compare_answers e s xs ys A B = and_then (required_of e s xs A) (λ X. compare_other e s xs ys (length X) B)

unfoldable pub compare_lists : Edition → Trees → List Token → List Token → Outcome Comparison
unfolding compare_answers answer_to
compare_lists e p xs ys = compare_answers e p.first xs ys (answer_to e p xs) (answer_to e p ys)

-- S, T, then 12, then both lists
unfoldable pub compare : Task → List ℕ → Outcome Comparison
unfolding and_then trees_of list_of compare_lists
compare q other =
    and_then (trees_of q.options q.first q.second)
    (λ p. and_then (list_of q.options.edition K q.required)
    (λ xs. and_then (list_of q.options.edition C other) (compare_lists q.options.edition p xs)))

-- ---- what is returned

-- the place of the label with an index in a list, if there is one
unfoldable pub place_if : List Token → Option ℕ → Optional ℕ
place_if xs none = None
place_if xs (some n) = Some (place_of_number xs n)

-- three labels of a list by their places, if there are such
unfoldable pub named_if : Edition → Tree → List Token → Option Three → Optional Named
unfolding named_of
named_if e s ys none = None
named_if e s ys (some r) = Some (named_of (trio e s ys r.one r.two r.three))

-- the sizes, the place of the first missing label, and the three labels; or a refusal
unfoldable pub compared_parts : Comparison → Compared
unfolding place_if named_if
compared_parts c =
    record {
      size = c.size;
      count = length c.further;
      missing = place_if c.required c.missed;
      clash = named_if c.edition c.first c.further c.clash;
    }

abbrev pub compared_of : Outcome Comparison → Result Compared Denied
compared_of x = result_of compared_parts x
