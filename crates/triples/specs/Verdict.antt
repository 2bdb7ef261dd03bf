-- The verdict on two tree texts and a list of labels. 01, "Agreement" and rows 1 to 8 of "Why a job is turned down".
use Rattle.std.specs.Prelude.{ℕ, ◌≡◌, Option, Some, None, Result, Ok, Err, List, [], ◌∷◌, map}
use Rattle.trees.specs.declared.Reason.TheVariants.{FirstLacks, SecondLacks, Disagree as DisagreeReason}
use Rattle.trees.specs.declared.Body.TheVariants.{S, T, K}
use Rattle.trees.specs.Refusals.{Said, value, row_of, row_naming_of}
use Rattle.trees.specs.Token.{Token, spelling}
use Rattle.trees.specs.Tree.{Tree, decoded}
use Rattle.trees.specs.declared.Edition.{Edition}
use Rattle.trees.specs.Edition.{in_edition}
use Rattle.trees.specs.Reading.{Reading, good, refused}
use Rattle.newick.specs.ReadTree.{read_tree}
use Rattle.lists.specs.ReadList.{read_list}
use Rattle.agreement.specs.Answer.{Answer, first_lacks, second_lacks, disagree, largest, answer}
use Rattle.agreement.specs.Places.{place_of_number, place_of_label}
use Rattle.trees.specs.declared.Refusal.{Refusal}
use Rattle.triples.specs.declared.Indices.{Indices}

-- the places of three labels with different closer pairs, or none where the trees agree; or a refusal
abbrev pub AgreeVerdict : Type 0
AgreeVerdict = Result (Option Indices) Refusal

-- the trees agree
abbrev pub agreed : AgreeVerdict
agreed = Ok None

-- three labels, at these places
abbrev pub clash_at_places : ℕ → ℕ → ℕ → AgreeVerdict
clash_at_places a b c = Ok (Some (record { first = a; second = b; third = c }))

-- the trees agree on the list exactly if the answer with the list required is a set; places are those of the list's tokens
unfoldable pub verdict_of : List Token → Answer → AgreeVerdict
verdict_of xs (first_lacks n) = Err (record { reason = FirstLacks; body = K; place = place_of_number xs n })
verdict_of xs (second_lacks n) = Err (record { reason = SecondLacks; body = K; place = place_of_number xs n })
verdict_of xs (disagree a b c) = clash_at_places (place_of_label xs 0 a) (place_of_label xs 0 b) (place_of_label xs 0 c)
verdict_of xs (largest X) = agreed

-- trees and list are of tokens, the answer is about their decoded labels
unfoldable pub verdict_on_list : Tree → Tree → Reading (List Token) → AgreeVerdict
unfolding verdict_of
verdict_on_list s t (good xs) = verdict_of xs (answer (decoded s) (decoded t) (map spelling xs))
verdict_on_list s t (refused r i) = Err (record { reason = r; body = K; place = i })

unfoldable pub verdict_on_second : Tree → Reading Tree → Reading (List Token) → AgreeVerdict
unfolding verdict_on_list
verdict_on_second s (good t) list = verdict_on_list s t list
verdict_on_second s (refused r i) list = Err (record { reason = r; body = T; place = i })

-- "Order: S, T, K, then 6 or 7, then 8"; "A body that fails to read ends the job there"
unfoldable pub verdict_on : Reading Tree → Reading Tree → Reading (List Token) → AgreeVerdict
unfolding verdict_on_second
verdict_on (good s) second list = verdict_on_second s second list
verdict_on (refused r i) second list = Err (record { reason = r; body = S; place = i })

unfoldable pub verdict : List ℕ → List ℕ → List ℕ → AgreeVerdict
unfolding verdict_on
verdict first second list = verdict_on (read_tree first) (read_tree second) (read_list list)

-- by an edition, which reads the bytes of all three
abbrev pub verdict_in : Edition → List ℕ → List ℕ → List ℕ → AgreeVerdict
verdict_in e first second list = verdict (in_edition e first) (in_edition e second) (in_edition e list)

-- all three bodies were read
pub record AllRead (one two : Reading Tree) (three : Reading (List Token)) : Type 0 where
  pub first : Tree
  pub second : Tree
  pub labels : List Token
  pub read1 : one ≡ good first
  pub read2 : two ≡ good second
  pub read3 : three ≡ good labels

-- An answer in 01's terms: that the trees agree, or a row of "Why a job is turned down"; 8 has the places of its three labels in K.
unfoldable pub said_of : AgreeVerdict → Said (Prim.Unit {0})
unfolding row_of row_naming_of
said_of (Ok None) = value (Prim.tt {0})
said_of (Ok (Some p)) = row_naming_of (record { reason = DisagreeReason; body = K; place = 0 }) (p.first ∷ p.second ∷ p.third ∷ [])
said_of (Err r) = row_of r
