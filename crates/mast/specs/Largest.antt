-- The largest set: the answer to three texts and an output. 01, "Job and printed result", "Why a job is turned down".
use Rattle.std.specs.Prelude.{ℕ, cond, List, [], ◌++◌, map, leb, length, drop, Result, Ok, Err}
use Rattle.trees.specs.declared.Reason.TheVariants.{TooShort}
use Rattle.trees.specs.declared.Body.TheVariants.{K, O}
use Rattle.trees.specs.declared.Refusal.{Refusal}
use Rattle.trees.specs.declared.Edition.{Edition}
use Rattle.trees.specs.Edition.{folded}
use Rattle.trees.specs.Label.{Label}
use Rattle.trees.specs.Token.{Token}
use Rattle.trees.specs.Tree.{Tree}
use Rattle.lists.specs.declared.LabelPlaces.{LabelPlaces}
use Rattle.lists.specs.ReadList.{padded, places_of}
use Rattle.agreement.specs.Sets.{set_of}
use Rattle.agreement.specs.Restrict.{restrict_in}
use Rattle.agreement.specs.Answer.{Answer}
use Rattle.agreement.specs.Places.{token_in, place_in, kept_text_in}
use Rattle.mast.specs.declared.Denied.{Denied}
use Rattle.mast.specs.declared.Found.{Found}
use Rattle.pairs.specs.Outcome.{Outcome, refused, naming, found, and_then}
use Rattle.pairs.specs.TwoTrees.{Trees, trees_of}
use Rattle.mast.specs.NamedLabels.{result_of}
use Rattle.queries.specs.Query.{Task, list_of, answer_to, required_of}

-- the answer: the set in label order, by its keys; the two trees, of which the first spells all that is printed, and the required list
pub record Solution : Type 0 where
  pub edition : Edition
  pub first : Tree
  pub second : Tree
  pub required : List Token
  pub set : List Label

-- by its parts
abbrev pub solution : Edition → Tree → Tree → List Token → List Label → Solution
solution e s t xs X = record { edition = e; first = s; second = t; required = xs; set = X }

-- the normal text of its common restriction
unfoldable pub solution_text : Solution → List ℕ
unfolding kept_text_in
solution_text r = kept_text_in r.edition (restrict_in r.edition (set_of r.set) r.first)

-- number 9, O 0
abbrev pub too_short : Refusal
too_short = record { reason = TooShort; body = O; place = 0 }

-- "too short exactly if it has fewer bytes than the text"
unfoldable pub fitted : ℕ → Solution → Outcome Solution
unfolding solution_text
fitted room r = cond (leb (length (solution_text r)) room) (found r) (refused too_short)

-- "then 6 or 7, then 8, then 9 for the output", from the answer to the required list
unfoldable pub solution_of : Edition → Tree → Tree → List Token → ℕ → Answer → Outcome Solution
unfolding and_then required_of fitted
solution_of e s t xs room A = and_then (required_of e s xs A) (λ X. fitted room (solution e s t xs X))

unfoldable pub solve_list : Edition → ℕ → Trees → List Token → Outcome Solution
unfolding solution_of answer_to
solve_list e room p xs = solution_of e p.first p.second xs room (answer_to e p xs)

-- "Order: .. S, T, K, then 6 or 7, then 8, then 9 for the output."
unfoldable pub solve : Task → ℕ → Outcome Solution
unfolding and_then trees_of list_of solve_list
solve q room =
    and_then (trees_of q.options q.first q.second)
    (λ p. and_then (list_of q.options.edition K q.required) (solve_list q.options.edition room p))

-- the places of the labels of a set in the text of a tree, in label order: "the part of the text shown for it has both quotes"
unfoldable pub set_places : Tree → List Label → LabelPlaces
set_places s X =
    record { count = length X; start = padded (map (place_in s 0) X); size = padded (map (λ (x : Label). length (token_in s x)) X) }

-- what is returned: the size and the text's length, with the set's places; the three labels that a refusal names; or the refusal
unfoldable pub found_set : Solution → Found
unfolding set_places solution_text
found_set r =
    record { size = length r.set; length = length (solution_text r); set = set_places (folded r.edition r.first) r.set }

abbrev pub largest_of : Outcome Solution → Result Found Denied
largest_of x = result_of found_set x

-- the set of an answer; a refusal has none
unfoldable pub set_of_answer : Result Found Denied → LabelPlaces
set_of_answer (Ok f) = f.set
set_of_answer (Err d) = places_of []

-- what the output then holds: "On success the output holds the normal text and its further bytes are unchanged"; otherwise
-- "an output keeps every byte"
unfoldable pub output_of : Outcome Solution → List ℕ → List ℕ
unfolding solution_text
output_of (found r) out = solution_text r ++ drop (length (solution_text r)) out
output_of (naming q n) out = out
output_of (refused q) out = out
