-- The answer of writing a tree, and what the output then holds. 01, "Why a job is turned down".
use Rattle.std.specs.Prelude.{ℕ, ◌<◌, ◌≡◌, cond, List, [], ◌++◌, leb, length, drop, Result, Ok, Err}
use Rattle.std.proofs.Math.Option.{Option, none, some}
use Rattle.trees.specs.declared.Edition.{Edition}
use Rattle.trees.specs.declared.Edition.TheVariants.{One, Two}
use Rattle.trees.specs.declared.Refusal.{Refusal}
use Rattle.trees.specs.declared.Reason.TheVariants.{TooShort}
use Rattle.trees.specs.declared.Body.TheVariants.{O}
use Rattle.trees.specs.Refusals.{Said, value, row_of}
use Rattle.trees.specs.Tree.{leaf, node}
use Rattle.trees.specs.Edition.{normal_text_in}
use Rattle.trees.specs.Arrays.{Standing, no_leaf, one_tree, no_tree}
use Rattle.trees.specs.Words.{bytes_of}
use Rattle.writer.specs.declared.WriteError.{WriteError}
use Rattle.writer.specs.declared.WriteError.TheVariants.{NoTree, Refused}

-- "The empty set of leaves has a text of no bytes". A tree has its normal text under an edition: the edition decides the order of children,
-- and "Labels are printed as the first tree spells them" (C-15).
unfoldable pub standing_text : Edition → Standing → Option (List ℕ)
unfolding normal_text_in
standing_text e no_leaf = some []
standing_text e (one_tree t) = some (normal_text_in e t)
standing_text e no_tree = none

-- number 9, O 0
unfoldable pub output_too_short : Refusal
output_too_short = record { reason = TooShort; body = O; place = 0 }

-- "An output is too short exactly if it has fewer bytes than the text that belongs in it"
unfoldable pub text_answer : Option (List ℕ) → ℕ → Result ℕ WriteError
unfolding output_too_short
text_answer none n = Err NoTree
text_answer (some x) n = cond (leb (length x) n) (Ok (length x)) (Err (Refused output_too_short))

-- "On success the output holds the normal text and its further bytes are unchanged", "an output keeps every byte"
unfoldable pub text_output : Option (List ℕ) → List ℕ → List ℕ
text_output none out = out
text_output (some x) out = cond (leb (length x) (length out)) (x ++ drop (length x) out) out

-- the answer for an output of n bytes
unfoldable pub write_answer : Edition → Standing → ℕ → Result ℕ WriteError
unfolding standing_text text_answer
write_answer e s n = text_answer (standing_text e s) n

-- the output afterwards
unfoldable pub output_after : Edition → Standing → List ℕ → List ℕ
unfolding standing_text text_output
output_after e s out = text_output (standing_text e s) out

-- An answer in 01's terms: so many bytes, or a row of "Why a job is turned down". Arrays that represent no tree have no row there, since
-- 01 speaks of texts alone.
unfoldable pub said_of : Result ℕ WriteError → Said (Option ℕ)
unfolding row_of
said_of (Ok n) = value (some n)
said_of (Err (Refused r)) = row_of r
said_of (Err NoTree) = value none

-- "9 stands only for a real lack": a text belongs in the output, and is longer than it
pub record Lack (o : Option (List ℕ)) (n : ℕ) (r : Refusal) : Type 0 where
  pub text : List ℕ
  pub belongs : o ≡ some text
  pub longer : n < length text
  pub told : r ≡ output_too_short

-- C-15, for the tree `(a,B);`. Under edition 1 a capital comes before any small letter, under edition 2 `a` comes before `B`; both keep
-- their spelling.
pub record EditionTexts : Type 0 where
  pub by_first : standing_text One (one_tree (node (leaf (bytes_of "a")) (leaf (bytes_of "B")))) ≡ some (bytes_of "(B,a);")
  pub by_second : standing_text Two (one_tree (node (leaf (bytes_of "a")) (leaf (bytes_of "B")))) ≡ some (bytes_of "(a,B);")
