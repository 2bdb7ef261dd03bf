-- The steps with which every query goes on after S, T and 12, in 01's order: the lists, then 6 or 7, then 8. Trees and lists are of tokens;
-- agreement is about their keys, which are the decoded labels (C-12) as the edition reads them (C-15).
use Rattle.std.specs.Prelude.{ℕ, false, List}
use Rattle.trees.specs.declared.Reason.TheVariants.{FirstLacks, SecondLacks, Disagree}
use Rattle.trees.specs.declared.Body.{Body}
use Rattle.trees.specs.declared.Body.TheVariants.{K}
use Rattle.trees.specs.declared.Refusal.{Refusal}
use Rattle.trees.specs.declared.Edition.{Edition}
use Rattle.trees.specs.Edition.{keyed}
use Rattle.trees.specs.Label.{Label}
use Rattle.trees.specs.Token.{Token}
use Rattle.trees.specs.Tree.{Tree}
use Rattle.lists.specs.ReadList.{read_list_in, keys_of}
use Rattle.agreement.specs.Answer.{Three, Answer, first_lacks, second_lacks, disagree, largest, answer}
use Rattle.agreement.specs.Places.{place_of_number}
use Rattle.pairs.specs.declared.Options.{Options}
use Rattle.pairs.specs.Outcome.{Outcome, refused, naming, found, and_then, trio}
use Rattle.pairs.specs.TwoTrees.{Trees, body_of}

-- what the engine is given
pub record Task : Type 0 where
  pub options : Options
  pub first : List ℕ
  pub second : List ℕ
  pub required : List ℕ

abbrev pub task : Options → List ℕ → List ℕ → List ℕ → Task
task options first second required = record { options = options; first = first; second = second; required = required }

-- no option but the edition
abbrev pub plain : Edition → Options
plain e = record { strict = false; edition = e }

-- a list, K or C
unfoldable pub list_of : Edition → Body → List ℕ → Outcome (List Token)
unfolding body_of read_list_in
list_of e body text = body_of body (read_list_in e text)

-- the answer to a list for two trees, by their keys
unfoldable pub answer_to : Edition → Trees → List Token → Answer
unfolding answer
answer_to e p xs = answer (keyed e p.first) (keyed e p.second) (keys_of e xs)

-- what is left of an answer where both trees have all labels of the list: its first three with different closer pairs, or the largest set
pub data AllHeld : Type 0 where
  with_clash : Three → AllHeld
  with_set : List Label → AllHeld

-- 6 and 7 "go to the first label in list order that either tree lacks", at its "first byte in K"; with the letter C for a claim (C-16)
unfoldable pub held_by : Body → List Token → Answer → Outcome AllHeld
held_by body xs (first_lacks n) = refused (record { reason = FirstLacks; body = body; place = place_of_number xs n })
held_by body xs (second_lacks n) = refused (record { reason = SecondLacks; body = body; place = place_of_number xs n })
held_by body xs (disagree a b c) = found (with_clash (record { one = a; two = b; three = c }))
held_by body xs (largest X) = found (with_set X)

-- number 8, "K 0"
abbrev pub disagreement : Refusal
disagreement = record { reason = Disagree; body = K; place = 0 }

-- "three required leaves have different closer pairs", or the set
unfoldable pub agreed_on : Edition → Tree → List Token → AllHeld → Outcome (List Label)
agreed_on e s xs (with_clash r) = naming disagreement (trio e s xs r.one r.two r.three)
agreed_on e s xs (with_set X) = found X

-- "then 6 or 7, then 8": the set for the required list, from the answer to it
unfoldable pub required_of : Edition → Tree → List Token → Answer → Outcome (List Label)
unfolding and_then held_by agreed_on
required_of e s xs A = and_then (held_by K xs A) (agreed_on e s xs)

unfoldable pub required_set : Edition → Trees → List Token → Outcome (List Label)
unfolding required_of answer_to
required_set e p xs = required_of e p.first xs (answer_to e p xs)
