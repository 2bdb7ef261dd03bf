-- What a solution says of the bodies: the tree, the list and the answer it comes from. Assumes nothing.
use Prim.Native.Nat.{ℕ, ◌≤◌}
use mathlib.Core.Path.{◌≡◌, refl, sym, subst}
use mathlib.Core.Bool.{Bool, true, false, cond}
use mathlib.Core.List.{List}
use mathlib.Core.Option.{Option, some, none}
use native.Mathlib.Omega.{arith}
use lib.Dec.{leb, ltb}
use lib.ListN.{length}
use borrow.Author.Tests.{leb-true}
use Rattle.trees.specs.declared.Body.TheVariants.{K, C}
use Rattle.trees.specs.Label.{Label, is_in}
use Rattle.trees.specs.declared.Edition.{Edition}
use Rattle.trees.specs.Edition.{folded, keyed, ValidIn}
use Rattle.trees.specs.Token.{Token}
use Rattle.trees.specs.Tree.{Tree, leaf_limit, leaves, Proper}
use Rattle.trees.specs.Reading.{good}
use Rattle.newick.specs.ReadTree.{read_tree_in}
use Rattle.newick.proofs.Promises.{accepted_text}
use Rattle.lists.specs.ReadList.{read_list_in, folded_list, keys_of}
use Rattle.lists.proofs.Promises.{accepted_list}
use Rattle.agreement.specs.Closer.{holds}
use Rattle.agreement.specs.Sets.{set_of}
use Rattle.agreement.specs.Restrict.{restrict_in}
use Rattle.agreement.specs.Answer.{Answer, first_lacks, second_lacks, disagree, largest, answer}
use Rattle.agreement.specs.Places.{place_in, place_of_label, token_of_key, kept_text_in, spelled_in, name_in, Listed}
use Rattle.agreement.specs.Demand.{IsAnswer}
use Rattle.agreement.specs.RightAnswer.{RightAnswer}
use Rattle.agreement.proofs.Promises.{set_promise, answer_promise}
use Rattle.agreement.proofs.SetLaws.{within_few}
use Rattle.pairs.specs.Outcome.{Outcome, refused, naming, found, and_then, Trio}
use Rattle.queries.specs.Query.{Task, with_clash, with_set, list_of, answer_to, held_by, required_of}
use Rattle.mast.specs.Largest.{Solution, solution, solution_text, too_short, fitted, solution_of, solve_list, solve}
use Rattle.mast.specs.Compare.{Comparison, missing, clash_of, comparison, compare_other, compare_answers, compare_lists, compare}
use Rattle.claims.specs.Judge.{fifteen, judged_by_size, judged_by_three, judged_by_list, verdict_on, judge}
use Rattle.job.specs.Answered.{of_claim}
use Rattle.trees.specs.Words.{Within}
use Rattle.trees.proofs.TokenLaws.{valid_decoded}
use Rattle.trees.proofs.EditionLaws.{valid_folded}
use Rattle.agreement.proofs.EditionText.{spelled_shown, spelled_good}
use Rattle.agreement.proofs.PlaceLaws.{list_listed}
use Rattle.job.proofs.ShownLaws.{Stands}
use Rattle.job.proofs.TreesLaws.{each_way, each_list}

pub record SolvedBy (q : Task) (room : ℕ) (r : Solution) : Type 0 where
  pub read : read_tree_in r.edition q.first ≡ good r.first
  pub listed : read_list_in r.edition q.required ≡ good r.required
  pub is : answer (keyed r.edition r.first) (keyed r.edition r.second) (keys_of r.edition r.required) ≡ largest r.set
  pub short : length (solution_text r) ≤ room

-- three labels of a list, with the first tree's text
pub record NamedBy (first list : List ℕ) (n : Trio) : Type 0 where
  pub other : Tree
  pub read : read_tree_in n.edition first ≡ good n.first
  pub listed : read_list_in n.edition list ≡ good n.list
  pub is : answer (keyed n.edition n.first) (keyed n.edition other) (keys_of n.edition n.list)
      ≡ disagree n.labels.one n.labels.two n.labels.three

-- what a solution comes from
abbrev pub From : Task → ℕ → Outcome Solution → Type 0
From q room (found r) = SolvedBy q room r
From q room (naming p n) = (of_claim p.body ≡ false) × NamedBy q.first q.required n
From q room (refused p) = Prim.Unit {0}

module _ (q : Task) where
  abbrev E : Edition
  E = q.options.edition

  module _ (room : ℕ) where
    abbrev Out : Outcome Solution → Type 0
    Out x = From q room x

    pub solution_from : Out (solve q room)
    unfolding solve solve_list answer_to solution_of required_of held_by fitted solution_text of_claim
    solution_from =
        each_way q.options q.first q.second _ Out (λ r i e. tt) (λ r i e. tt) (λ s x. tt) (λ t x. tt)
        (λ (s t : Tree) (e : read_tree_in E q.first ≡ good s) (f : read_tree_in E q.second ≡ good t).
        each_list E K q.required (solve_list E room (record { first = s; second = t })) Out (λ r i g. tt)
        (λ (xs : List Token) (g : read_list_in E q.required ≡ good xs). answers s t e xs g (answer (keyed E s) (keyed E t) (keys_of E xs)) refl))
      where
        answers : (s t : Tree) → read_tree_in E q.first ≡ good s → (xs : List Token) → read_list_in E q.required ≡ good xs → (w : Answer)
            → answer (keyed E s) (keyed E t) (keys_of E xs) ≡ w → Out (solution_of E s t xs room w)
        answers s t ea xs ec (first_lacks n) e = tt
        answers s t ea xs ec (second_lacks n) e = tt
        answers s t ea xs ec (disagree a b c) e = (refl, record { other = t; read = ea; listed = ec; is = e })
        answers s t ea xs ec (largest X) e = fits (leb (length (kept_text_in E (restrict_in E (set_of X) s))) room) refl
          where
            fits : (p : Bool) → leb (length (kept_text_in E (restrict_in E (set_of X) s))) room ≡ p
                → Out (cond p (found (solution E s t xs X)) (refused too_short))
            fits true l = record { read = ea; listed = ec; is = e; short = leb-true _ room l }
            fits false l = tt

  -- what a judgement comes from: 8 names labels of the list, 14 of the claim
  module _ (claim : List ℕ) where
    abbrev pub Judged : Outcome ℕ → Type 0
    Judged (found n) = Prim.Unit {0}
    Judged (naming p n) = NamedBy q.first (cond (of_claim p.body) claim q.required) n
    Judged (refused p) = Prim.Unit {0}

    abbrev By : Outcome Comparison → Type 0
    By x = Judged (and_then x verdict_on)

    pub judged_from : Judged (judge q claim)
    unfolding judge compare compare_lists answer_to compare_answers required_of held_by compare_other comparison clash_of verdict_on judged_by_list judged_by_three judged_by_size of_claim
    judged_from =
        each_way q.options q.first q.second _ By (λ r i e. tt) (λ r i e. tt) (λ s x. tt) (λ t x. tt)
        (λ (s t : Tree) (e : read_tree_in E q.first ≡ good s) (f : read_tree_in E q.second ≡ good t).
        each_list E K q.required (λ xs. and_then (list_of E C claim) (compare_lists E (record { first = s; second = t }) xs)) By (λ r i g. tt)
        (λ (xs : List Token) (g : read_list_in E q.required ≡ good xs).
        each_list E C claim (compare_lists E (record { first = s; second = t }) xs) By (λ r i h. tt)
        (λ (ys : List Token) (h : read_list_in E claim ≡ good ys).
        answers s t e xs ys g h (answer (keyed E s) (keyed E t) (keys_of E xs)) refl)))
      where
        sized : (ys : List Token) (p : Bool) → Judged (cond p (refused fifteen) (found (length ys)))
        sized ys true = tt
        sized ys false = tt

        both : (s t : Tree) (xs ys : List Token) → read_tree_in E q.first ≡ good s → read_list_in E claim ≡ good ys → (X : List Label) (B : Answer)
            → answer (keyed E s) (keyed E t) (keys_of E ys) ≡ B → By (compare_other E s xs ys (length X) B)
        both s t xs ys ea ey X (first_lacks n) e = tt
        both s t xs ys ea ey X (second_lacks n) e = tt
        both s t xs ys ea ey X (disagree a b c) e = go (missing (keys_of E xs) (keys_of E ys) 0)
          where
            go : (o : Option ℕ) → Judged (judged_by_list (comparison E s xs ys (length X) (with_clash (record { one = a; two = b; three = c }))) o)
            go none = record { other = t; read = ea; listed = ey; is = e }
            go (some n) = tt
        both s t xs ys ea ey X (largest Y) e = go (missing (keys_of E xs) (keys_of E ys) 0)
          where
            go : (o : Option ℕ) → Judged (judged_by_list (comparison E s xs ys (length X) (with_set Y)) o)
            go none = sized ys (ltb (length ys) (length X))
            go (some n) = tt

        answers : (s t : Tree) → read_tree_in E q.first ≡ good s → (xs ys : List Token) → read_list_in E q.required ≡ good xs
            → read_list_in E claim ≡ good ys → (A : Answer) → answer (keyed E s) (keyed E t) (keys_of E xs) ≡ A
            → By (compare_answers E s xs ys A (answer (keyed E s) (keyed E t) (keys_of E ys)))
        answers s t ea xs ys ec ed (first_lacks n) e = tt
        answers s t ea xs ys ec ed (second_lacks n) e = tt
        answers s t ea xs ys ec ed (disagree a b c) e = record { other = t; read = ea; listed = ec; is = e }
        answers s t ea xs ys ec ed (largest X) e = both s t xs ys ea ed X (answer (keyed E s) (keyed E t) (keys_of E ys)) refl

-- a label of a first tree that was read: it stands in its text, as the tree spells it
module _ (e : Edition) (first : List ℕ) (s : Tree) (read : read_tree_in e first ≡ good s) where
  pub read_valid : ValidIn e s
  read_valid = (accepted_text e first s read).1

  pub read_proper : Proper (keyed e s)
  read_proper = valid_decoded (folded e s) (valid_folded e s read_valid)

  pub read_shown : (x : Label) → holds (keyed e s) x ≡ true → Stands first (place_in (folded e s) 0 x) (spelled_in e s x) (name_in e s x)
  read_shown x h =
      record {
        at =
            subst (λ (t : List ℕ). Within t (place_in (folded e s) 0 x) (spelled_in e s x)) (sym (accepted_text e first s read).0)
            (spelled_shown e s x).shown;
        good = spelled_good e s x read_valid;
        spelled = refl;
      }

-- the set of a solution: at most 80 labels, each shown in the first tree's text
module _ (q : Task) (room : ℕ) (r : Solution) (b : SolvedBy q room r) where
  pub set_proper : Proper (keyed r.edition r.first)
  set_proper = read_proper r.edition q.first r.first b.read

  pub set_answer : IsAnswer (keyed r.edition r.first) (keyed r.edition r.second) (keys_of r.edition r.required) r.set
  set_answer =
      (set_promise (keyed r.edition r.first) (keyed r.edition r.second) (keys_of r.edition r.required) set_proper
      (accepted_list r.edition q.required r.required b.listed).different r.set).0 b.is

  pub in_tree : (x : Label) → is_in x r.set ≡ true → holds (keyed r.edition r.first) x ≡ true
  in_tree x h = (set_answer.allowed_set.common_leaves x h).0

  pub set_few : length r.set ≤ leaf_limit
  unfolding holds
  set_few =
      omega (
        arith,
        within_few r.set (leaves (keyed r.edition r.first)) set_answer.allowed_set.ordered set_proper.different in_tree,
        set_proper.few,
      )

  pub set_shown : (x : Label) → is_in x r.set ≡ true
      → Stands q.first (place_in (folded r.edition r.first) 0 x) (spelled_in r.edition r.first x) (name_in r.edition r.first x)
  set_shown x h = read_shown r.edition q.first r.first b.read x (in_tree x h)

-- the three labels stand in the list and in the first tree
module _ (first list : List ℕ) (n : Trio) (w : NamedBy first list n) where
  abbrev e : Edition
  e = n.edition

  abbrev L : List Label
  L = keys_of n.edition n.list

  three : RightAnswer (keyed e n.first) (keyed e w.other) L (disagree n.labels.one n.labels.two n.labels.three)
  three =
      (answer_promise (keyed e n.first) (keyed e w.other) L (read_proper e first n.first w.read)
      (accepted_list e list n.list w.listed).different (disagree n.labels.one n.labels.two n.labels.three)).0 w.is

  pub three_in : (is_in n.labels.one L ≡ true) × (is_in n.labels.two L ≡ true) × (is_in n.labels.three L ≡ true)
  three_in = (three.1.clash.in_one, three.1.clash.in_two, three.1.clash.in_three)

  pub three_held : (x : Label) → is_in x L ≡ true → holds (keyed e n.first) x ≡ true
  three_held x h = (three.0 x h).0

  -- in the list
  pub label_listed : (x : Label) → is_in x L ≡ true → Listed list (place_of_label (folded_list e n.list) 0 x) (token_of_key e n.list x)
  label_listed x h =
      subst (λ (t : List ℕ). Listed t (place_of_label (folded_list e n.list) 0 x) (token_of_key e n.list x))
      (sym (accepted_list e list n.list w.listed).is) (list_listed e n.list x h)

  pub three_shown : (x : Label) → is_in x L ≡ true
      → Stands first (place_in (folded e n.first) 0 x) (spelled_in e n.first x) (name_in e n.first x)
  three_shown x h = read_shown e first n.first w.read x (three_held x h)
