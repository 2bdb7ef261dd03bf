-- What the definitions of this crate promise, in 01's order. Each theorem cites one name. Assumes nothing.
use Prim.Native.Nat.{ℕ, ◌+◌, ◌/◌, ◌%◌, ◌≤◌, ◌<◌}
use mathlib.Core.Path.{◌≡◌}
use mathlib.Core.Bool.{Bool, true, false}
use mathlib.Core.Logic.{◌↔◌}
use mathlib.Core.Option.{some, none}
use mathlib.Core.List.{List, [], map}
use lib.ListN.{length, get_or}
use Rattle.trees.specs.Label.{Label, distinct, is_in}
use Rattle.trees.specs.declared.Edition.{Edition}
use Rattle.trees.specs.declared.Edition.TheVariants.{One}
use Rattle.trees.specs.Token.{Token, token_of, good_label}
use Rattle.trees.specs.Tree.{Tree, leaves, leaf_limit, relabel, Same, Proper}
use Rattle.trees.specs.Edition.{in_edition, key, folded, keyed, ValidIn, normal_in, rewritten, normal_text_in}
use Rattle.trees.specs.Text.{text_of}
use Rattle.trees.specs.Reading.{good}
use Rattle.newick.specs.ReadTree.{read_tree_in}
use Rattle.lists.specs.ReadList.{joined, folded_list, keys_of}
use Rattle.agreement.specs.Closer.{holds, closer, OneOf, Agree, Common}
use Rattle.agreement.specs.Restrict.{restrict, restrict_in, keyed_kept}
use Rattle.agreement.specs.SameKept.{SameKept}
use Rattle.agreement.specs.Places.{place_in, place_of_number, place_of_label, token_of_key, LeafShown, Listed, kept_text_in, spelled_in, printed_in}
use Rattle.agreement.specs.Sets.{increasing, sorted, common, set_of}
use Rattle.agreement.specs.Weights.{required_unit, best}
use Rattle.agreement.specs.Answer.{Answer, first_lacks, second_lacks, disagree, largest, agree_on, largest_set, answer}
use Rattle.agreement.specs.Demand.{IsAnswer, Clash, IsDisagreement, IsFirstLacks, IsSecondLacks}
use Rattle.agreement.specs.RightAnswer.{RightAnswer}
use Rattle.agreement.specs.Greatest.{Greatest}
use Rattle.agreement.specs.Powers.{whole, decode, telling}
use Rattle.agreement.specs.Starred.{Row, answered, rows}
use Rattle.agreement.specs.OwnCases.{own_rows}
use Rattle.agreement.specs.Strict.{IsStray, Stray, StrayTold, stray_of}
use Rattle.agreement.proofs.AnswerLaws
use Rattle.agreement.proofs.DemandLaws
use Rattle.agreement.proofs.Tells
use Rattle.agreement.proofs.CloserOnce.{closer_once}
use Rattle.agreement.proofs.AgreeRestrict.{agree_iff_same}
use Rattle.agreement.proofs.EditionText.{restrict_keyed, kept_none_in, kept_some_in, kept_read_in, one_text_in, one_same}
use Rattle.agreement.proofs.EditionText.{spelled_shown, spelled_key, spelled_good, printed_one}
use Rattle.agreement.proofs.Recurrence.{best_greatest}
use Rattle.agreement.proofs.PlaceLaws.{list_listed, listed_key, number_listed}
use Rattle.agreement.proofs.SidesLaws.{answer_same}
use Rattle.agreement.proofs.SidesText.{spelled_same, kept_text_same}
use Rattle.agreement.proofs.StrictLaws.{stray_exactly, stray_held, stray_least}
use Rattle.agreement.proofs.Table

-- "Of three different leaves in a binary tree, exactly one pair has its least common ancestor below that of all three"
pub one_closer_pair : (t : Tree) (a b c : Label) → distinct (leaves t) ≡ true
    → (a ≡ b → ⊥) → (a ≡ c → ⊥) → (b ≡ c → ⊥) → holds t a ≡ true → holds t b ≡ true → holds t c ≡ true
    → OneOf (closer t a b c) (closer t a c b) (closer t b c a)
one_closer_pair = closer_once

-- 003, Lemma 1: the trees agree on a set exactly if their restrictions to it are equal trees.
pub restriction_decides : (s t : Tree) (X : Label → Bool) → distinct (leaves s) ≡ true → distinct (leaves t) ≡ true → Common s t X
    → Agree s t X ↔ SameKept (restrict X s) (restrict X t)
restriction_decides = agree_iff_same

-- C-15: a tree of tokens can be restricted to the leaves whose keys are in a set; they keep their spelling. The keys of the result are the
-- restriction of the tree of keys.
pub restriction_by_keys : (e : Edition) (X : Label → Bool) (t : Tree) → keyed_kept e (restrict_in e X t) ≡ restrict X (keyed e t)
restriction_by_keys = restrict_keyed

-- "The empty set of leaves has a text of no bytes". Any other restriction has the normal text of what is left, which reads as the normal
-- tree.
pub empty_text : (e : Edition) (X : Label → Bool) (t : Tree) → restrict_in e X t ≡ none → kept_text_in e (restrict_in e X t) ≡ []
empty_text = kept_none_in

pub restriction_text : (e : Edition) (X : Label → Bool) (t r : Tree) → restrict_in e X t ≡ some r → kept_text_in e (restrict_in e X t) ≡ normal_text_in e r
restriction_text = kept_some_in

pub restriction_read : (e : Edition) (X : Label → Bool) (t r : Tree) → ValidIn e t → restrict_in e X t ≡ some r
    → read_tree_in e (kept_text_in e (restrict_in e X t)) ≡ good (relabel rewritten (normal_in e r))
restriction_read = kept_read_in

-- "the normal text of the common restriction": the restrictions of both trees have the same text "up to spelling". Under edition 1 they
-- have the same bytes.
pub common_restriction : (e : Edition) (s t : Tree) (X : Label → Bool) → ValidIn e s → ValidIn e t → Common (keyed e s) (keyed e t) X
    → Agree (keyed e s) (keyed e t) X → in_edition e (kept_text_in e (restrict_in e X s)) ≡ in_edition e (kept_text_in e (restrict_in e X t))
common_restriction = one_text_in

pub first_edition_bytes : (x y : List ℕ) → in_edition One x ≡ in_edition One y → x ≡ y
first_edition_bytes = one_same

-- C-15, "Labels are printed as the first tree spells them": what is printed for a key is the leaf that has it (`leaf_place_lem`,
-- `leaf_token_lem`), a good token; under edition 1 it is the label itself
pub printed_is_good : (e : Edition) (t : Tree) (x : Label) → ValidIn e t → holds (keyed e t) x ≡ true → good_label (spelled_in e t x) ≡ true
printed_is_good e t x v h = spelled_good e t x v

pub printed_before : (t : Tree) (x : Label) → holds (keyed One t) x ≡ true → printed_in One t x ≡ token_of x
printed_before = printed_one

-- 001, Lemma 3.1, with weights: no set on which the trees agree weighs more than the recurrence gives, and one weighs as much.
pub recurrence_promise : (w : Label → ℕ) (s t : Tree) → distinct (leaves s) ≡ true → distinct (leaves t) ≡ true
    → Greatest w s t (best w s t)
recurrence_promise = best_greatest

-- "Trees agree on a set of leaves common to both exactly if each three of the set have the same closer pair in both"
pub agreement_test : (s t : Tree) (X : List Label) → increasing X ≡ true → (agree_on s t X ≡ true) ↔ Agree s t (set_of X)
agreement_test s t X h = AnswerLaws.agree_on_exactly s t X h

-- "Sets of 0, 1 or 2 common leaves always agree."
pub small_sets : (s t : Tree) (X : List Label) → length X ≤ 2 → agree_on s t X ≡ true
small_sets s t X few = AnswerLaws.small_agree s t X few

-- "Left and right children mean nothing.": equal trees have one answer
pub sides_mean_nothing : (s s' t t' : Tree) (K : List Label) → Same s s' → Same t t' → distinct (leaves s) ≡ true → distinct (leaves t) ≡ true
    → distinct K ≡ true → answer s t K ≡ answer s' t' K
sides_mean_nothing = answer_same

-- Their leaves are spelled alike, and their restrictions have one text.
pub sides_spell_alike : (e : Edition) (s s' : Tree) → Same s s' → ValidIn e s → (x : Label) → holds (keyed e s) x ≡ true
    → spelled_in e s x ≡ spelled_in e s' x
sides_spell_alike e s s' p v x h = spelled_same e p v.different x h

pub sides_one_text : (e : Edition) (s s' : Tree) → Same s s' → ValidIn e s → (X : Label → Bool)
    → kept_text_in e (restrict_in e X s) ≡ kept_text_in e (restrict_in e X s')
sides_one_text e s s' p v X = kept_text_same e p v.different X

module _ (s t : Tree) (K : List Label) (proper : Proper s) (different : distinct K ≡ true) where
  -- "Largest is meant over all sets of common leaves that contain the required ones and on which the trees agree. Of two sets as large as
  -- each other, the first is the one that holds the smallest label standing in only one of them."
  pub set_promise : (X : List Label) → (answer s t K ≡ largest X) ↔ IsAnswer s t K X
  set_promise X = DemandLaws.largest_exactly s t K proper.different different X

  -- 6, "the first tree lacks a required label": "the first label in list order that either tree lacks"
  pub six_promise : (n : ℕ) → (answer s t K ≡ first_lacks n) ↔ IsFirstLacks s t K n
  six_promise n = DemandLaws.first_lacks_exactly s t K proper.different different n

  -- 7, "only the second lacks it"
  pub seven_promise : (n : ℕ) → (answer s t K ≡ second_lacks n) ↔ IsSecondLacks s t K n
  seven_promise n = DemandLaws.second_lacks_exactly s t K proper.different different n

  -- 8, "three required leaves have different closer pairs", if no number before 8 is given.
  pub eight_promise : Common s t (set_of K)
      → ((a : Label) × (b : Label) × (c : Label) × Clash s t K a b c)
      ↔ ((a : Label) × (b : Label) × (c : Label) × (answer s t K ≡ disagree a b c))
  eight_promise held = DemandLaws.eight_exactly s t K proper.different different held

  -- "Number 8 names the first such three, sorted, compared label by label."
  pub eight_names : (a b c : Label) → Common s t (set_of K) → (answer s t K ≡ disagree a b c) ↔ IsDisagreement s t K a b c
  eight_names a b c held = DemandLaws.disagree_exactly s t K proper.different different a b c held

  -- "A job that no row turns away is answered with its set."
  pub answered_promise : Common s t (set_of K) → ((a b c : Label) → Clash s t K a b c → ⊥)
      → answer s t K ≡ largest (largest_set s t K)
  answered_promise held free = DemandLaws.set_answered s t K proper.different different held free

  -- "exactly what comes back": whatever meets these sentences is the answer.
  pub answer_promise : (A : Answer) → (answer s t K ≡ A) ↔ RightAnswer s t K A
  answer_promise A = DemandLaws.answer_exactly s t K proper.different different A

  -- "Document 001, Lemma 3.1, gives a recurrence over pairs of nodes. It may be used; it is not the definition." If labels weigh units and
  -- powers of two, the greatest weight gives the set, or shows that three required labels have different closer pairs.
  module _ (M : ℕ) (held : Common s t (set_of K)) (great : Greatest (telling leaf_limit (sorted K) (common s t)) s t M) where
    pub weight_tells_set : M / whole / required_unit ≡ length K → answer s t K ≡ largest (decode leaf_limit (common s t) (M % whole))
    weight_tells_set = Tells.told_set s t K proper different held M great

    -- The units of the greatest weight are the size.
    pub weight_tells_size : M / whole / required_unit ≡ length K
        → length (decode leaf_limit (common s t) (M % whole)) ≡ M / whole / required_unit + M / whole % required_unit
    weight_tells_size = Tells.told_size s t K proper different held M great

    pub weight_tells_eight : (M / whole / required_unit ≡ length K → ⊥)
        → (a : Label) × (b : Label) × (c : Label) × (answer s t K ≡ disagree a b c)
    weight_tells_eight = Tells.told_eight s t K proper different held M great

-- Where a label is, and as which token: a leaf in its tree's text; a label in the text of a list, by itself ("its three labels") or by its
-- index ("its first byte in K").
pub leaf_place_lem : (e : Edition) (t : Tree) (x : Label) → holds (keyed e t) x ≡ true
    → LeafShown (text_of t) (place_in (folded e t) 0 x) (spelled_in e t x)
leaf_place_lem e t x h = spelled_shown e t x

pub leaf_token_lem : (e : Edition) (t : Tree) (x : Label) → holds (keyed e t) x ≡ true → key e (spelled_in e t x) ≡ x
leaf_token_lem = spelled_key

pub label_place : (e : Edition) (xs : List Token) (x : Label) → is_in x (keys_of e xs) ≡ true
    → Listed (joined xs) (place_of_label (folded_list e xs) 0 x) (token_of_key e xs x)
label_place = list_listed

pub label_token : (e : Edition) (xs : List Token) (x : Label) → is_in x (keys_of e xs) ≡ true → key e (token_of_key e xs x) ≡ x
label_token = listed_key

pub number_place : (xs : List Token) (n : ℕ) → n < length xs → Listed (joined xs) (place_of_number xs n) (get_or xs n [])
number_place = number_listed

-- C-11: "a leaf that stands in only one tree". It is the first in the first tree or, if that has none, in the second. If there is none at
-- all, both trees have the same leaves.
pub stray_promise : (s t : Tree) (r : Stray) → (stray_of s t ≡ r) ↔ StrayTold s t r
stray_promise = stray_exactly

-- It is a leaf of its tree, and no other leaf that the other tree lacks has a smaller place.
pub stray_leaf : (t other : Tree) (x : Label) → IsStray t other x → holds t x ≡ true
stray_leaf = stray_held

pub stray_place : (e : Edition) (t other : Tree) (x : Label) → IsStray (keyed e t) other x → (y : Label) → holds (keyed e t) y ≡ true
    → holds other y ≡ false → place_in (folded e t) 0 x ≤ place_in (folded e t) 0 y
stray_place e t = stray_least (folded e t)

-- "The starred cases are shown of the definitions, gathered in one table with one theorem."
pub starred_promise : map answered rows ≡ map (λ (r : Row). some r.expected) rows
starred_promise = Table.starred_cases

-- Further cases of our own, by the same test.
pub own_promise : map answered own_rows ≡ map (λ (r : Row). some r.expected) own_rows
own_promise = Table.own_cases
