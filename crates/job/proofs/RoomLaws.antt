-- The engine's own area holds the text of every restriction: number 9 stands only for the caller's output. Assumes nothing.
use Prim.Native.Nat.{ℕ, ◌≤◌}
use mathlib.Core.Path.{◌≡◌, refl, sym, subst}
use mathlib.Core.Bool.{Bool}
use mathlib.Core.List.{List}
use mathlib.Core.Option.{Option, some, none}
use native.Mathlib.Omega.{arith}
use lib.ListN.{length}
use borrow.Author.Tests.{le-leb}
use Rattle.trees.specs.declared.Reason.{Reason}
use Rattle.trees.specs.declared.Body.TheVariants.{K}
use Rattle.trees.specs.declared.Refusal.{Refusal}
use Rattle.trees.specs.Refusals.{number_of}
use Rattle.trees.specs.Label.{Label}
use Rattle.trees.specs.declared.Edition.{Edition}
use Rattle.trees.specs.Edition.{keyed, ValidIn, normal_text_in}
use Rattle.trees.specs.Token.{Token}
use Rattle.trees.specs.Tree.{Tree}
use Rattle.trees.specs.Text.{tree_room}
use Rattle.trees.specs.Reading.{good, refused as unread}
use Rattle.trees.specs.Faults.{Fault, bad_byte, ends_too_soon, label_too_long, too_many, repeated}
use Rattle.trees.proofs.EditionLaws.{valid_spelled, normal_tree, normal_tree_valid}
use Rattle.trees.proofs.ArrayLaws.{text_short}
use Rattle.newick.specs.ReadTree.{read_tree_in}
use Rattle.newick.proofs.EditionReads.{accepts_in, refusal_in}
use Rattle.lists.specs.ReadList.{read_list_in, keys_of}
use Rattle.lists.proofs.Promises.{refused_first}
use Rattle.agreement.specs.Sets.{set_of}
use Rattle.agreement.specs.Restrict.{restrict_in}
use Rattle.agreement.specs.Answer.{Answer, first_lacks, second_lacks, disagree, largest, answer}
use Rattle.agreement.specs.Places.{kept_text_in}
use Rattle.agreement.proofs.EditionText.{restrict_valid}
use Rattle.pairs.specs.Outcome.{Outcome, refused, naming, found}
use Rattle.queries.specs.Query.{Task, answer_to, held_by, required_of}
use Rattle.mast.specs.Largest.{solution, solution_text, fitted, solution_of, solve_list, solve}
use Rattle.job.proofs.TreesLaws.{each_way, each_list}

-- ---- the text of a restriction

pub kept_short : (e : Edition) (X : Label → Bool) (t : Tree) → ValidIn e t → length (kept_text_in e (restrict_in e X t)) ≤ tree_room
unfolding kept_text_in normal_text_in
kept_short e X t v = go (restrict_in e X t) refl
  where
    go : (o : Option Tree) → restrict_in e X t ≡ o → length (kept_text_in e o) ≤ tree_room
    go none d = omega arith
    go (some r) d =
        text_short (normal_tree e r) (valid_spelled e (normal_tree e r) (normal_tree_valid e r (restrict_valid e X t r v d)))

pub text_fits : (e : Edition) (s t : Tree) (xs : List Token) (X : List Label) → ValidIn e s → fitted tree_room (solution e s t xs X) ≡ found (solution e s t xs X)
unfolding fitted solution_text
text_fits e s t xs X v = rw (le-leb (length (kept_text_in e (restrict_in e (set_of X) s))) tree_room (kept_short e (set_of X) s v)) refl

-- ---- the other refusals

pub fault_low : {Whole : List ℕ → Type 0} {Crowd : List ℕ → ℕ → Type 0} {text : List ℕ} {r : Reason} {i : ℕ} → Fault Whole Crowd text r i
    → number_of r ≤ 5
unfolding number_of
fault_low (bad_byte i a b c) = omega arith
fault_low (ends_too_soon a b) = omega arith
fault_low (label_too_long j a b) = omega arith
fault_low (too_many i a) = omega arith
fault_low (repeated j k a b c d e f) = omega arith

-- not number 9
abbrev pub NotNine : {A : Type 0} → Outcome A → Type 0
NotNine (found x) = Prim.Unit {0}
NotNine (naming q n) = Prim.Unit {0}
NotNine (refused q) = number_of q.reason ≡ 9 → ⊥

module _ (q : Task) where
  abbrev E : Edition
  E = q.options.edition

  never_nine : NotNine (solve q tree_room)
  unfolding solve solve_list answer_to solution_of required_of held_by number_of
  never_nine =
      each_way q.options q.first q.second _ NotNine
      (λ (r : Reason) (i : ℕ) (e : read_tree_in E q.first ≡ unread r i). low r (fault_low (refusal_in E q.first r i e).here))
      (λ (r : Reason) (i : ℕ) (e : read_tree_in E q.second ≡ unread r i). low r (fault_low (refusal_in E q.second r i e).here))
      (λ s x h. omega arith) (λ t x h. omega arith)
      (λ (s t : Tree) (e : read_tree_in E q.first ≡ good s) (f : read_tree_in E q.second ≡ good t).
      each_list E K q.required (solve_list E tree_room (record { first = s; second = t })) NotNine
      (λ (r : Reason) (i : ℕ) (g : read_list_in E q.required ≡ unread r i). low r (fault_low (refused_first E q.required r i g).here))
      (λ (xs : List Token) (g : read_list_in E q.required ≡ good xs). answers s t e xs (answer (keyed E s) (keyed E t) (keys_of E xs))))
    where
      low : (r : Reason) → number_of r ≤ 5 → number_of r ≡ 9 → ⊥
      low r h e = omega arith

      answers : (s t : Tree) → read_tree_in E q.first ≡ good s → (xs : List Token) (w : Answer) → NotNine (solution_of E s t xs tree_room w)
      answers s t e xs (first_lacks n) = λ h. omega arith
      answers s t e xs (second_lacks n) = λ h. omega arith
      answers s t e xs (disagree a b c) = tt
      answers s t e xs (largest X) = subst NotNine (sym (text_fits E s t xs X (accepts_in E q.first s e).1)) tt

  -- whatever is asked
  pub engine_fits : (p : Refusal) → solve q tree_room ≡ refused p → number_of p.reason ≡ 9 → ⊥
  engine_fits p e = subst NotNine e never_nine
