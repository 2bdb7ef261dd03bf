-- Demand 3 for the engine's answer to three texts and an output of `room` bytes, in 01's order. The contract of `largest` states that
-- `solve` is what is returned. Trees and lists are of tokens; agreement is about their keys, for both editions at once. Assumes nothing.
use Prim.Native.Nat.{ℕ, ◌<◌}
use mathlib.Core.Path.{◌≡◌, refl}
use mathlib.Core.Logic.{◌↔◌}
use mathlib.Core.Option.{some}
use mathlib.Core.Bool.{true}
use mathlib.Core.List.{List, [], ◌∷◌, ◌++◌}
use lib.ListN.{length, get_or, drop}
use Rattle.std.specs.Prelude.{Some, Ok, Err}
use Rattle.trees.specs.declared.Body.TheVariants.{K, S, T}
use Rattle.trees.specs.declared.Refusal.{Refusal}
use Rattle.trees.specs.declared.Reason.{Reason}
use Rattle.trees.specs.declared.Reason.TheVariants.{NotShared}
use Rattle.trees.specs.declared.Edition.{Edition}
use Rattle.trees.specs.declared.Edition.TheVariants.{One}
use Rattle.trees.specs.Refusals.{value, row, row_naming, number_of, letter_of, row_of, row_naming_of}
use Rattle.trees.specs.Label.{Label, is_in}
use Rattle.trees.specs.Token.{Token}
use Rattle.trees.specs.Edition.{key, folded, keyed, ValidIn}
use Rattle.trees.specs.Tree.{Tree}
use Rattle.trees.specs.Text.{text_of}
use Rattle.trees.specs.Reading.{good, refused as unread}
use Rattle.newick.specs.ReadTree.{read_tree, read_tree_in}
use Rattle.newick.proofs.EditionReads.{one_reads}
use Rattle.lists.specs.ReadList.{read_list, read_list_in, joined, folded_list, keys_of}
use Rattle.lists.proofs.EditionLists.{one_list}
use Rattle.agreement.specs.Sets.{set_of}
use Rattle.agreement.specs.Places.{place_in, token_in, place_of_number, place_of_label, token_of_key, spelled_in, LeafShown, Listed}
use Rattle.agreement.specs.Answer.{Three, Answer, answer}
use Rattle.agreement.specs.Closer.{holds, Common}
use Rattle.agreement.specs.Demand.{IsAnswer, Clash}
use Rattle.agreement.specs.RightAnswer.{RightAnswer}
use Rattle.agreement.specs.Strict.{SameLeaves, IsStray}
use Rattle.agreement.proofs.PlaceLaws.{list_listed, listed_key, number_listed}
use Rattle.agreement.proofs.EditionText.{spelled_shown, spelled_key, spelled_size}
use Rattle.mast.specs.declared.Denied.TheVariants.{Naming, Refused}
use Rattle.mast.specs.declared.Found.{Found}
use Rattle.mast.specs.declared.Compared.{Compared}
use Rattle.mast.specs.declared.Named.{Named}
use Rattle.pairs.specs.Outcome.{Trio, refused, naming, found, trio}
use Rattle.mast.specs.NamedLabels.{named_of, result_of}
use Rattle.queries.specs.Query.{Task, task, plain, disagreement}
use Rattle.mast.specs.Largest.{Solution, solution, solution_text, too_short, solution_of, solve, output_of, found_set, largest_of, set_of_answer, set_places}
use Rattle.mast.specs.Compare.{Comparison, missing, IsMissing, compare_other, compare, named_if}
use Rattle.mast.specs.PaperNumbers.{said_of_denied, said_of_largest, said_of_compare}
use Rattle.mast.specs.Reads.{Reads, SetGiven}
use Rattle.mast.specs.Shown.{ShownInTree, NamesShown, HeldAndListed}
use Rattle.mast.proofs.ShownLaws.{set_is_shown, names_are_shown}
use Rattle.pairs.proofs.StepLaws.{trees_first, trees_second, trees_both, stray_first, stray_second}
use Rattle.queries.proofs.ListLaws.{list_unread}
use Rattle.mast.proofs.WayLaws.{solve_stopped, solve_unlisted, strict_as_plain}
use Rattle.pairs.proofs.StrayLaws.{shared_nowhere}
use Rattle.mast.proofs.OutcomeLaws.{outcome_decides, eight_exactly, set_exactly, nine_exactly, compare_decides}
use Rattle.mast.proofs.OutcomeLaws.{set_given_shown, names_given_shown, compare_names_shown, further_names_shown}
use Rattle.mast.proofs.MissingLaws.{missing_exactly}

-- "Order: .. S, T, K": "A body that fails to read ends the job there"
module _ (q : Task) (room : ℕ) (r : Reason) (i : ℕ) where
  pub first_body : read_tree_in q.options.edition q.first ≡ unread r i
      → solve q room ≡ refused (record { reason = r; body = S; place = i })
  first_body e =
      solve_stopped q room _ (trees_first q.options q.first q.second _ (record { reason = r; place = i; is = e; told = refl }))

  pub second_body : (s : Tree) → read_tree_in q.options.edition q.first ≡ good s
      → read_tree_in q.options.edition q.second ≡ unread r i → solve q room ≡ refused (record { reason = r; body = T; place = i })
  second_body s e f =
      solve_stopped q room _
      (trees_second q.options q.first q.second s e _ (record { reason = r; place = i; is = f; told = refl }))

  pub third_body : (s t : Tree) → read_tree_in q.options.edition q.first ≡ good s
      → read_tree_in q.options.edition q.second ≡ good t
      → (q.options.strict ≡ true → SameLeaves (keyed q.options.edition s) (keyed q.options.edition t))
      → read_list_in q.options.edition q.required ≡ unread r i → solve q room ≡ refused (record { reason = r; body = K; place = i })
  third_body s t e f h g =
      solve_unlisted q room _ (trees_both q.options q.first q.second s e t f (shared_nowhere q.options s t h)) _
      (list_unread q.options.edition K q.required _ (record { reason = r; place = i; is = g; told = refl }))

-- C-11, "after both trees are read and before K": a strict job gets number 12 at the first leaf of the first tree that the second lacks. If
-- there is none, it is the first leaf of the second tree that the first lacks.
module _ (q : Task) (room : ℕ) (s t : Tree) (e : read_tree_in q.options.edition q.first ≡ good s)
    (f : read_tree_in q.options.edition q.second ≡ good t) where
  pub stray_in_first : q.options.strict ≡ true → (x : Label) → IsStray (keyed q.options.edition s) (keyed q.options.edition t) x
      → solve q room ≡ refused (record { reason = NotShared; body = S; place = place_in (folded q.options.edition s) 0 x })
  stray_in_first h x k = solve_stopped q room _ (stray_first q.options q.first q.second s e t f h x k)

  pub stray_in_second : q.options.strict ≡ true → (x : Label)
      → ((y : Label) → holds (keyed q.options.edition s) y ≡ true → holds (keyed q.options.edition t) y ≡ true)
      → IsStray (keyed q.options.edition t) (keyed q.options.edition s) x
      → solve q room ≡ refused (record { reason = NotShared; body = T; place = place_in (folded q.options.edition t) 0 x })
  stray_in_second h x a k = solve_stopped q room _ (stray_second q.options q.first q.second s e t f h x a k)

  -- "a larger set is still impossible in both sorts": if both trees have the same leaves, a strict job is answered like one that is not
  -- strict.
  pub strict_promise : SameLeaves (keyed q.options.edition s) (keyed q.options.edition t)
      → solve q room ≡ solve (task (plain q.options.edition) q.first q.second q.required) room
  strict_promise = strict_as_plain q room s t e f

module _ (q : Task) (room : ℕ) (s t : Tree) (xs : List Token) (reads : Reads q s t xs) where
  -- 6 or 7, then 8, then the set: whatever meets 01's sentences on two trees and a list decides the answer.
  pub outcome_promise : (A : Answer)
      → RightAnswer (keyed q.options.edition s) (keyed q.options.edition t) (keys_of q.options.edition xs) A
      → solve q room ≡ solution_of q.options.edition s t xs room A
  outcome_promise = outcome_decides q s t xs reads room

  -- 8 exactly if three required labels have different closer pairs.
  pub eight_promise : Common (keyed q.options.edition s) (keyed q.options.edition t) (set_of (keys_of q.options.edition xs))
      → ((a : Label) × (b : Label) × (c : Label)
      × Clash (keyed q.options.edition s) (keyed q.options.edition t) (keys_of q.options.edition xs) a b c)
      ↔ ((a : Label) × (b : Label) × (c : Label) × (solve q room ≡ naming disagreement (trio q.options.edition s xs a b c)))
  eight_promise = eight_exactly q s t xs reads room

  -- A set is returned exactly if it is the largest, the first among equals, and the text of the common restriction fits.
  pub set_promise : (X : List Label)
      → (solve q room ≡ found (solution q.options.edition s t xs X)) ↔ SetGiven q.options.edition s t xs X room
  set_promise = set_exactly q s t xs reads room

  -- 9 comes last, and "only for a real lack".
  pub nine_promise : (solve q room ≡ refused too_short)
      ↔ ((X : List Label) × IsAnswer (keyed q.options.edition s) (keyed q.options.edition t) (keys_of q.options.edition xs) X
      × (room < length (solution_text (solution q.options.edition s t xs X))))
  nine_promise = nine_exactly q s t xs reads room

  -- What a caller receives of a set: entry r of its starts and sizes names a part of the first text, a whole leaf, which is label r of the set.
  pub set_shown_promise : (X : List Label) → solve q room ≡ found (solution q.options.edition s t xs X) → (r : ℕ)
      → r < (set_of_answer (largest_of (solve q room))).count
      → ShownInTree q.options.edition q.first (get_or (set_of_answer (largest_of (solve q room))).start r 0)
      (get_or (set_of_answer (largest_of (solve q room))).size r 0) (get_or X r [])
  set_shown_promise = set_given_shown q s t xs reads room

  -- And of labels that are named: the refusal is number 8, each place is where the required list has that label as a whole, and each start and
  -- size name the whole leaf with it in the first text.
  pub names_shown_promise : (p : Refusal) (n : Trio) → solve q room ≡ naming p n
      → (p ≡ disagreement) × NamesShown q.options.edition q.first q.required (named_of n) n.labels
  names_shown_promise = names_given_shown q s t xs reads room

-- "an output keeps every byte"; "On success the output holds the normal text and its further bytes are unchanged"
pub kept_on_refusal : (q : Refusal) (out : List ℕ) → output_of (refused q) out ≡ out
unfolding output_of
kept_on_refusal q out = refl

pub kept_on_eight : (q : Refusal) (n : Trio) (out : List ℕ) → output_of (naming q n) out ≡ out
unfolding output_of
kept_on_eight q n out = refl

pub written_on_success : (r : Solution) (out : List ℕ) → output_of (found r) out ≡ solution_text r ++ drop (length (solution_text r)) out
unfolding output_of
written_on_success r out = refl

-- "A size printed with no set of that size: the size is that set's length"
pub size_promise : (r : Solution)
    → (largest_of (found r) ≡ Ok (record {
      size = length r.set;
      length = length (solution_text r);
      set = set_places (folded r.edition r.first) r.set;
    }))
    × ((set_of_answer (largest_of (found r))).count ≡ length r.set)
unfolding result_of found_set set_of_answer set_places
size_promise r = (refl, refl)

-- "If an answer is an enum, the promises use a definition that gives this paper's number and values for each of its cases."
pub rows_promise : (f : Found) (n : Named) (q : Refusal)
    → (said_of_largest (Ok f) ≡ value (f.size ∷ f.length ∷ []))
    × (said_of_largest (Err (Naming disagreement n)) ≡ row_naming 8 75 0 (n.first.place ∷ n.second.place ∷ n.third.place ∷ []))
    × (said_of_largest (Err (Refused too_short)) ≡ row 9 79 0)
    × (said_of_largest (Err (Refused q)) ≡ row (number_of q.reason) (letter_of q.body) q.place)
unfolding said_of_largest said_of_denied row_of row_naming_of
rows_promise f n q = (refl, refl, refl, refl)

pub compare_rows_promise : (d : Compared) (n : Named) (q : Refusal)
    → (said_of_compare (Ok d) ≡ value d)
    × (said_of_compare (Err (Naming disagreement n)) ≡ row_naming 8 75 0 (n.first.place ∷ n.second.place ∷ n.third.place ∷ []))
    × (said_of_compare (Err (Refused q)) ≡ row (number_of q.reason) (letter_of q.body) q.place)
unfolding said_of_compare said_of_denied row_of row_naming_of
compare_rows_promise d n q = (refl, refl, refl)

-- C-16, "the first required label missing from the claim"
pub missing_promise : (K Y : List Label) (n : ℕ) → (missing K Y 0 ≡ some n) ↔ IsMissing K Y n
missing_promise = missing_exactly

-- A further list is read right after the required one. If 6, 7 and 8 of the required list are not given, it is compared with the largest
-- set.
pub compare_promise : (q : Task) (other : List ℕ) (s t : Tree) (xs ys : List Token) → Reads q s t xs
    → read_list_in q.options.edition other ≡ good ys → (X : List Label)
    → IsAnswer (keyed q.options.edition s) (keyed q.options.edition t) (keys_of q.options.edition xs) X
    → compare q other
    ≡ compare_other q.options.edition s xs ys (length X)
    (answer (keyed q.options.edition s) (keyed q.options.edition t) (keys_of q.options.edition ys))
compare_promise q other s t xs ys reads = compare_decides q s t xs reads other ys

-- What a caller receives of it: the required labels that number 8 names, as from `largest`; and the further list's three labels with
-- different closer pairs, each with its place in that list.
module _ (q : Task) (other : List ℕ) (s t : Tree) (xs ys : List Token) (reads : Reads q s t xs)
    (g : read_list_in q.options.edition other ≡ good ys) where
  pub compare_names_promise : (p : Refusal) (n : Trio) → compare q other ≡ naming p n
      → (p ≡ disagreement) × NamesShown q.options.edition q.first q.required (named_of n) n.labels
  compare_names_promise = compare_names_shown q s t xs reads other ys g

  pub further_names_promise : (c : Comparison) (r : Three) → compare q other ≡ found c → c.clash ≡ some r
      → (n : Named) × (named_if c.edition c.first c.further c.clash ≡ Some n) × NamesShown q.options.edition q.first other n r
  further_names_promise = further_names_shown q s t xs reads other ys g

-- "Old records must still be judged by the first edition": under edition 1 trees and lists are read as before C-15.
pub first_edition : (text : List ℕ) → (read_tree_in One text ≡ read_tree text) × (read_list_in One text ≡ read_list text)
first_edition text = (one_reads text, one_list text)

-- "the part of the text shown for it has both quotes": at the place of a label of the set or of number 8, the first tree's text has a whole
-- leaf, as a token with that key.
pub set_places_promise : (e : Edition) (t : Tree) (x : Label) → holds (keyed e t) x ≡ true
    → LeafShown (text_of t) (place_in (folded e t) 0 x) (spelled_in e t x) × (key e (spelled_in e t x) ≡ x)
    × (length (spelled_in e t x) ≡ length (token_in (folded e t) x))
set_places_promise e t x h = (spelled_shown e t x, spelled_key e t x h, spelled_size e t x)

pub eight_places_promise : (e : Edition) (xs : List Token) (x : Label) → is_in x (keys_of e xs) ≡ true
    → Listed (joined xs) (place_of_label (folded_list e xs) 0 x) (token_of_key e xs x) × (key e (token_of_key e xs x) ≡ x)
eight_places_promise e xs x h = (list_listed e xs x h, listed_key e xs x h)

-- The same of all that is returned, for any set and any three labels: entry r of a set's starts and sizes names label r; a named label's place
-- is in its list, its start and size are in the first tree's text. `set_shown_promise` and `names_shown_promise` are this for the answer.
pub set_labels_promise : (e : Edition) (s t : Tree) (xs : List Token) (X : List Label) → ValidIn e s
    → ((x : Label) → is_in x X ≡ true → holds (keyed e s) x ≡ true) → (r : ℕ) → r < (set_of_answer (largest_of (found (solution e s t xs X)))).count
    → ShownInTree e (text_of s) (get_or (set_of_answer (largest_of (found (solution e s t xs X)))).start r 0)
    (get_or (set_of_answer (largest_of (found (solution e s t xs X)))).size r 0) (get_or X r [])
set_labels_promise e s t xs X v held r = set_is_shown e s X v held r t xs (text_of s) refl (found (solution e s t xs X)) refl

pub named_labels_promise : (n : Trio) → ValidIn n.edition n.first → HeldAndListed n n.labels.one → HeldAndListed n n.labels.two
    → HeldAndListed n n.labels.three → NamesShown n.edition (text_of n.first) (joined n.list) (named_of n) n.labels
named_labels_promise = names_are_shown

pub lacking_places_promise : (xs : List Token) (n : ℕ) → n < length xs → Listed (joined xs) (place_of_number xs n) (get_or xs n [])
lacking_places_promise = number_listed
