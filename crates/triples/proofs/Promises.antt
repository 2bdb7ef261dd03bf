-- What the verdict promises, in 01's order, for each edition at once; each proof is a name cited. The texts are any bytes;
-- the contract of `agree_on` says that `verdict_in` is what comes back. Assumes nothing.
use Prim.Native.Nat.{ℕ}
use mathlib.Core.Path.{◌≡◌, refl}
use mathlib.Core.Logic.{◌↔◌}
use mathlib.Core.List.{List, [], ◌∷◌}
use Rattle.std.specs.Prelude.{Err}
use Rattle.trees.specs.declared.Reason.{Reason}
use Rattle.trees.specs.declared.Refusal.{Refusal}
use Rattle.trees.specs.Refusals.{number_of, letter_of, value, row, row_naming}
use Rattle.trees.specs.Label.{Label}
use Rattle.trees.specs.Token.{Token}
use Rattle.trees.specs.Tree.{Tree}
use Rattle.trees.specs.declared.Edition.{Edition}
use Rattle.trees.specs.Edition.{keyed, ValidIn}
use Rattle.trees.specs.declared.TreeArrays.{TreeArrays}
use Rattle.trees.specs.Arrays.{arrays_of}
use Rattle.trees.specs.Reading.{good, refused}
use Rattle.newick.specs.ReadTree.{read_tree_in}
use Rattle.lists.specs.ReadList.{read_list_in, folded_list, keys_of}
use Rattle.agreement.specs.Closer.{Agree, Common}
use Rattle.agreement.specs.Sets.{set_of}
use Rattle.agreement.specs.Demand.{IsDisagreement, IsFirstLacks, IsSecondLacks}
use Rattle.agreement.specs.Places.{place_of_number, place_of_label}
use Rattle.triples.specs.Verdict.{agreed, clash_at_places, verdict_in, AllRead, said_of}
use Rattle.leaves.specs.Numbered.{Numbered}
use Rattle.triples.specs.Clash.{RankedTree}
use Rattle.triples.proofs.Composed.{ranked_in}
use Rattle.triples.proofs.VerdictLaws.{first_row_in, second_row_in, list_row_in, six_row_in, seven_row_in, eight_row_in}
use Rattle.triples.proofs.VerdictLaws.{agreed_told_in, agreed_bodies_in}

-- Each answer is a row of 01's table, or that the trees agree.
pub answers_told : (a b c : ℕ) (r : Refusal)
    → (said_of agreed ≡ value (Prim.tt {0})) × (said_of (clash_at_places a b c) ≡ row_naming 8 75 0 (a ∷ b ∷ c ∷ []))
    × (said_of (Err r) ≡ row (number_of r.reason) (letter_of r.body) r.place)
unfolding said_of
answers_told a b c r = (refl, refl, refl)

-- The arrays of a tree that was read meet what `first_clash` takes for granted.
pub read_is_ranked : (e : Edition) (t : Tree) → ValidIn e t → (tree : TreeArrays) → tree ≡ arrays_of t → (C : List Label) (leaf : List ℕ)
    → Numbered (keyed e t) C leaf → RankedTree (keyed e t) C tree.left tree.nodes leaf
read_is_ranked = ranked_in

-- "Order: .. S, T, K, then 6 or 7, then 8"; "A body that fails to read ends the job there."
module _ (e : Edition) (first second list : List ℕ) (r : Reason) (i : ℕ) where
  pub first_refused : read_tree_in e first ≡ refused r i → said_of (verdict_in e first second list) ≡ row (number_of r) 83 i
  first_refused = first_row_in e first second list r i

  pub second_refused : (s : Tree) → read_tree_in e first ≡ good s → read_tree_in e second ≡ refused r i
      → said_of (verdict_in e first second list) ≡ row (number_of r) 84 i
  second_refused = second_row_in e first second list r i

  pub list_refused : (s t : Tree) → read_tree_in e first ≡ good s → read_tree_in e second ≡ good t → read_list_in e list ≡ refused r i
      → said_of (verdict_in e first second list) ≡ row (number_of r) 75 i
  list_refused = list_row_in e first second list r i

module _ (e : Edition) (first second list : List ℕ) (s t : Tree) (xs : List Token) (read1 : read_tree_in e first ≡ good s)
    (read2 : read_tree_in e second ≡ good t) (read3 : read_list_in e list ≡ good xs) where
  -- "Numbers 6 and 7 go to the first label in list order that either tree lacks."
  pub six_promise : (n : ℕ) → IsFirstLacks (keyed e s) (keyed e t) (keys_of e xs) n
      → said_of (verdict_in e first second list) ≡ row 6 75 (place_of_number xs n)
  six_promise = six_row_in e first second list s t xs read1 read2 read3

  pub seven_promise : (n : ℕ) → IsSecondLacks (keyed e s) (keyed e t) (keys_of e xs) n
      → said_of (verdict_in e first second list) ≡ row 7 75 (place_of_number xs n)
  seven_promise = seven_row_in e first second list s t xs read1 read2 read3

  -- "Number 8 names the first such three, sorted, compared label by label."
  pub eight_promise : (a b c : Label) → Common (keyed e s) (keyed e t) (set_of (keys_of e xs))
      → IsDisagreement (keyed e s) (keyed e t) (keys_of e xs) a b c
      → said_of (verdict_in e first second list)
      ≡ row_naming 8 75 0 (place_of_label (folded_list e xs) 0 a ∷ place_of_label (folded_list e xs) 0 b ∷ place_of_label (folded_list e xs) 0 c ∷ [])
  eight_promise = eight_row_in e first second list s t xs read1 read2 read3

  -- "Trees agree on a set of leaves common to both exactly if each three of the set have the same closer pair in both"
  pub agreed_exactly : (verdict_in e first second list ≡ agreed)
      ↔ (Common (keyed e s) (keyed e t) (set_of (keys_of e xs)) × Agree (keyed e s) (keyed e t) (set_of (keys_of e xs)))
  agreed_exactly = agreed_told_in e first second list s t xs read1 read2 read3

-- If a body cannot be read, the trees do not agree.
pub agreed_read : (e : Edition) (first second list : List ℕ) → verdict_in e first second list ≡ agreed
    → AllRead (read_tree_in e first) (read_tree_in e second) (read_list_in e list)
agreed_read = agreed_bodies_in
