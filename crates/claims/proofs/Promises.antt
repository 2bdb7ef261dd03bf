-- What is promised about a claim, in the order of C-16. Each theorem cites one name. The contract of `judge` states that its judgement is
-- what is returned. Trees and lists are of tokens; agreement is about their keys, for both editions at once. Assumes nothing.
use Prim.Native.Nat.{ℕ}
use mathlib.Core.Path.{◌≡◌, refl}
use mathlib.Core.Bool.{true}
use mathlib.Core.List.{List, [], ◌∷◌}
use mathlib.Core.Logic.{◌↔◌}
use lib.ListN.{length}
use Rattle.trees.specs.declared.Reason.{Reason}
use Rattle.trees.specs.declared.Reason.TheVariants.{FirstLacks, SecondLacks, NotShared, ClaimLacks}
use Rattle.trees.specs.declared.Body.TheVariants.{S, T, K, C}
use Rattle.trees.specs.declared.Refusal.{Refusal}
use Rattle.trees.specs.Refusals.{value, row, row_naming, number_of, letter_of}
use Rattle.trees.specs.Edition.{folded, keyed}
use Rattle.trees.specs.Label.{Label}
use Rattle.trees.specs.Token.{Token}
use Rattle.trees.specs.Tree.{Tree}
use Rattle.trees.specs.Reading.{good, refused as unread}
use Rattle.newick.specs.ReadTree.{read_tree_in}
use Rattle.lists.specs.ReadList.{read_list_in, keys_of}
use Rattle.agreement.specs.Closer.{holds, Common}
use Rattle.agreement.specs.Sets.{set_of}
use Rattle.agreement.specs.Strict.{SameLeaves, IsStray}
use Rattle.agreement.specs.Places.{place_in, place_of_number}
use Rattle.agreement.specs.Demand.{Allowed, IsAnswer, IsFirstLacks, IsSecondLacks, IsDisagreement}
use Rattle.pairs.specs.Outcome.{refused, naming, found, trio}
use Rattle.queries.specs.Query.{Task, disagreement}
use Rattle.mast.specs.declared.Named.{Named}
use Rattle.claims.specs.Claim.{IsClaim, Verdict, claim_lacks, claim_disagrees, claim_small, Clear, VerdictIs}
use Rattle.claims.specs.Judge.{ReadsClaim, claim_disagreement, fifteen, judge, judgement_of}
use Rattle.mast.specs.declared.Denied.TheVariants.{Naming, Refused}
use Rattle.mast.specs.PaperNumbers.{said_of_denied}
use Rattle.std.specs.Prelude.{Ok, Err}
use Rattle.claims.specs.PaperNumbers.{said_of_claim}
use Rattle.claims.proofs.JudgeLaws
use Rattle.claims.proofs.VerdictLaws

-- "any of the tied largest ones passes, whoever made it": the engine's own set passes, and each allowed set of the same size.
pub own_set_passes : (s t : Tree) (L X : List Label) → IsAnswer s t L X → IsClaim s t L X
own_set_passes = VerdictLaws.answer_passes

pub tied_set_passes : (s t : Tree) (L X Y : List Label) → IsAnswer s t L X → Allowed s t L Y → length Y ≡ length X → IsClaim s t L Y
tied_set_passes = VerdictLaws.tied_passes

-- "no larger such set exists": whatever passes has the size of the engine's set
pub passing_size : (s t : Tree) (L X Y : List Label) → IsAnswer s t L X → IsClaim s t L Y → length Y ≡ length X
passing_size = VerdictLaws.passes_size

-- No claim passes if number 8 or a number before it is given.
pub passing_is_clear : (s t : Tree) (L Y : List Label) → IsClaim s t L Y → Clear s t L
passing_is_clear = VerdictLaws.passes_clear

-- "A body .. listed and read right after K": S, T, 12, K, then C, before 6, 7 and 8.
module _ (q : Task) (claim : List ℕ) where
  pub first_body : (r : Reason) (i : ℕ) → read_tree_in q.options.edition q.first ≡ unread r i
      → judge q claim ≡ refused (record { reason = r; body = S; place = i })
  first_body = JudgeLaws.first_refused q claim

  pub second_body : (s : Tree) → read_tree_in q.options.edition q.first ≡ good s → (r : Reason) (i : ℕ)
      → read_tree_in q.options.edition q.second ≡ unread r i
      → judge q claim ≡ refused (record { reason = r; body = T; place = i })
  second_body = JudgeLaws.second_refused q claim

  module _ (s t : Tree) (e : read_tree_in q.options.edition q.first ≡ good s) (f : read_tree_in q.options.edition q.second ≡ good t) where
    pub stray_in_first : q.options.strict ≡ true → (x : Label) → IsStray (keyed q.options.edition s) (keyed q.options.edition t) x
        → judge q claim ≡ refused (record { reason = NotShared; body = S; place = place_in (folded q.options.edition s) 0 x })
    stray_in_first = JudgeLaws.stray_first q claim s t e f

    pub stray_in_second : q.options.strict ≡ true → (x : Label)
        → ((y : Label) → holds (keyed q.options.edition s) y ≡ true → holds (keyed q.options.edition t) y ≡ true)
        → IsStray (keyed q.options.edition t) (keyed q.options.edition s) x
        → judge q claim ≡ refused (record { reason = NotShared; body = T; place = place_in (folded q.options.edition t) 0 x })
    stray_in_second = JudgeLaws.stray_second q claim s t e f

    module _ (h : q.options.strict ≡ true → SameLeaves (keyed q.options.edition s) (keyed q.options.edition t)) (r : Reason) (i : ℕ) where
      pub third_body : read_list_in q.options.edition q.required ≡ unread r i
          → judge q claim ≡ refused (record { reason = r; body = K; place = i })
      third_body = JudgeLaws.list_refused q claim s t e f h r i

      pub claim_body : (xs : List Token) → read_list_in q.options.edition q.required ≡ good xs
          → read_list_in q.options.edition claim ≡ unread r i → judge q claim ≡ refused (record { reason = r; body = C; place = i })
      claim_body = JudgeLaws.claim_refused q claim s t e f h r i

module _ (q : Task) (claim : List ℕ) (s t : Tree) (xs ys : List Token) (read : ReadsClaim q claim s t xs ys) where
  abbrev one : Tree
  one = keyed q.options.edition s

  abbrev two : Tree
  two = keyed q.options.edition t

  abbrev L : List Label
  L = keys_of q.options.edition xs

  abbrev Y : List Label
  Y = keys_of q.options.edition ys

  -- "after number 8": 6, 7 and 8 of the required list come first.
  pub six_promise : (n : ℕ) → IsFirstLacks one two L n
      → judge q claim ≡ refused (record { reason = FirstLacks; body = K; place = place_of_number xs n })
  six_promise = JudgeLaws.six_of_list q claim s t xs ys read

  pub seven_promise : (n : ℕ) → IsSecondLacks one two L n
      → judge q claim ≡ refused (record { reason = SecondLacks; body = K; place = place_of_number xs n })
  seven_promise = JudgeLaws.seven_of_list q claim s t xs ys read

  pub eight_promise : (a b c : Label) → Common one two (set_of L) → IsDisagreement one two L a b c
      → judge q claim ≡ naming disagreement (trio q.options.edition s xs a b c)
  eight_promise = JudgeLaws.eight_of_list q claim s t xs ys read

  module _ (clear : Clear one two L) where
    -- Then one of the verdicts on the claim holds, and it decides.
    pub some_verdict : (v : Verdict) × VerdictIs one two L Y v × (judge q claim ≡ judgement_of q.options.edition s xs ys v)
    some_verdict = JudgeLaws.verdict_found q claim s t xs ys read clear

    pub verdict_promise : (v : Verdict) → VerdictIs one two L Y v → judge q claim ≡ judgement_of q.options.edition s xs ys v
    verdict_promise = JudgeLaws.verdict_decides q claim s t xs ys read clear

  -- "It is accepted exactly if it holds every required label, the trees agree on it and no larger such set exists"; its size is returned.
  pub passes_promise : (n : ℕ) → (judge q claim ≡ found n) ↔ (IsClaim one two L Y × (n ≡ length ys))
  passes_promise = JudgeLaws.accepted_exactly q claim s t xs ys read

  -- "A label of C absent from a tree takes 6 or 7 with letter C, after number 8", then 13, 14, 15: each exactly if its sentence holds and
  -- none before it does
  pub claim_six_promise : (p : ℕ) → (judge q claim ≡ refused (record { reason = FirstLacks; body = C; place = p }))
      ↔ (Clear one two L × ((n : ℕ) × IsFirstLacks one two Y n × (p ≡ place_of_number ys n)))
  claim_six_promise = JudgeLaws.six_exactly q claim s t xs ys read

  pub claim_seven_promise : (p : ℕ) → (judge q claim ≡ refused (record { reason = SecondLacks; body = C; place = p }))
      ↔ (Clear one two L × ((n : ℕ) × IsSecondLacks one two Y n × (p ≡ place_of_number ys n)))
  claim_seven_promise = JudgeLaws.seven_exactly q claim s t xs ys read

  pub thirteen_promise : (p : ℕ) → (judge q claim ≡ refused (record { reason = ClaimLacks; body = K; place = p }))
      ↔ (Clear one two L × ((n : ℕ) × VerdictIs one two L Y (claim_lacks n) × (p ≡ place_of_number xs n)))
  thirteen_promise = JudgeLaws.missing_exactly q claim s t xs ys read

  pub fourteen_promise : (a b c : Label)
      → (judge q claim ≡ naming claim_disagreement (trio q.options.edition s ys a b c)) ↔ (Clear one two L × VerdictIs one two L Y (claim_disagrees a b c))
  fourteen_promise = JudgeLaws.clash_exactly q claim s t xs ys read

  pub fifteen_promise : (judge q claim ≡ refused fifteen) ↔ (Clear one two L × VerdictIs one two L Y claim_small)
  fifteen_promise = JudgeLaws.small_exactly q claim s t xs ys read

-- "If an answer is an enum, the promises use a definition that gives this paper's number and values for each of its cases."
pub rows_promise : (n : ℕ) (m : Named) (q : Refusal)
    → (said_of_claim (Ok n) ≡ value n)
    × (said_of_claim (Err (Naming disagreement m)) ≡ row_naming 8 75 0 (m.first.place ∷ m.second.place ∷ m.third.place ∷ []))
    × (said_of_claim (Err (Naming claim_disagreement m)) ≡ row_naming 14 67 0 (m.first.place ∷ m.second.place ∷ m.third.place ∷ []))
    × (said_of_claim (Err (Refused q)) ≡ row (number_of q.reason) (letter_of q.body) q.place)
unfolding said_of_claim said_of_denied
rows_promise n m q = (refl, refl, refl, refl)
