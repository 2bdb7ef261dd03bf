-- The verdict taken apart: each body's refusal, numbers 6, 7 and 8, and agreement; the theory of agreement is cited. Assumes nothing.
use Prim.Native.Nat.{ℕ}
use mathlib.Core.Path.{◌≡◌, refl, sym, ◌∙◌, ap}
use mathlib.Core.Bool.{true}
use mathlib.Core.Logic.{◌↔◌}
use mathlib.Core.List.{List, [], ◌∷◌, map}
use native.Mathlib.Omega.{arith}
use Rattle.std.specs.Prelude.{Err}
use Rattle.trees.specs.declared.Reason.{Reason}
use Rattle.trees.specs.declared.Reason.TheVariants.{FirstLacks, SecondLacks}
use Rattle.trees.specs.declared.Body.TheVariants.{S, T, K}
use Rattle.trees.specs.Refusals.{number_of, row, row_naming}
use Rattle.trees.specs.Label.{Label, distinct}
use Rattle.trees.specs.Token.{Token, spelling}
use Rattle.trees.specs.Tree.{Tree, leaves, decoded}
use Rattle.trees.specs.declared.Edition.{Edition}
use Rattle.trees.specs.Edition.{in_edition, folded, keyed}
use Rattle.trees.specs.Reading.{Reading, good, refused}
use Rattle.newick.specs.ReadTree.{read_tree, read_tree_in}
use Rattle.newick.proofs.EditionReads.{folded_read, folded_refused}
use Rattle.trees.proofs.TokenLaws.{valid_decoded}
use Rattle.newick.proofs.Accepts.{accepts}
use Rattle.lists.specs.ReadList.{read_list, read_list_in, folded_list, keys_of}
use Rattle.lists.proofs.EditionLists.{list_folded_read, list_folded_refused}
use Rattle.lists.proofs.Accepts.{list_accepts}
use Rattle.agreement.specs.Closer.{Agree, Common}
use Rattle.agreement.specs.Sets.{set_of}
use Rattle.agreement.specs.Answer.{Answer, first_lacks, second_lacks, disagree, largest, largest_set, answer}
use Rattle.agreement.specs.Demand.{IsDisagreement, IsFirstLacks, IsSecondLacks}
use Rattle.agreement.specs.Places.{place_of_number, place_of_label}
use Rattle.agreement.proofs.PlaceLaws.{number_folded}
use Rattle.agreement.proofs.AnswerLaws.{agree_no_clash}
use Rattle.agreement.proofs.DemandLaws.{set_answered, disagree_exactly, largest_exactly, first_lacks_exactly}
use Rattle.agreement.proofs.DemandLaws.{second_lacks_exactly, allowed_held}
use Rattle.triples.specs.Verdict.{agreed, clash_at_places, verdict_of, verdict_on_list, verdict_on_second, verdict_on, verdict, verdict_in, AllRead, said_of}
use Rattle.triples.proofs.Readings.{agreed_on_lem}

-- "Order: .. S, T, K, then 6 or 7, then 8"; "A body that fails to read ends the job there."
module _ (first second list : List ℕ) (r : Reason) (i : ℕ) where
  first_turned_down : read_tree first ≡ refused r i → verdict first second list ≡ Err (record { reason = r; body = S; place = i })
  unfolding verdict verdict_on
  first_turned_down e = rw e refl

  second_turned_down : (s : Tree) → read_tree first ≡ good s → read_tree second ≡ refused r i
      → verdict first second list ≡ Err (record { reason = r; body = T; place = i })
  unfolding verdict verdict_on verdict_on_second
  second_turned_down s e d = rw (e, d) refl

  list_turned_down : (s t : Tree) → read_tree first ≡ good s → read_tree second ≡ good t → read_list list ≡ refused r i
      → verdict first second list ≡ Err (record { reason = r; body = K; place = i })
  unfolding verdict verdict_on verdict_on_second verdict_on_list
  list_turned_down s t e d f = rw (e, d, f) refl

  first_row : read_tree first ≡ refused r i → said_of (verdict first second list) ≡ row (number_of r) 83 i
  unfolding said_of
  first_row e = ap said_of (first_turned_down e)

  second_row : (s : Tree) → read_tree first ≡ good s → read_tree second ≡ refused r i
      → said_of (verdict first second list) ≡ row (number_of r) 84 i
  unfolding said_of
  second_row s e d = ap said_of (second_turned_down s e d)

  list_row : (s t : Tree) → read_tree first ≡ good s → read_tree second ≡ good t → read_list list ≡ refused r i
      → said_of (verdict first second list) ≡ row (number_of r) 75 i
  unfolding said_of
  list_row s t e d f = ap said_of (list_turned_down s t e d f)

module _ (first second list : List ℕ) (s t : Tree) (xs : List Token) (read1 : read_tree first ≡ good s)
    (read2 : read_tree second ≡ good t) (read3 : read_list list ≡ good xs) where
  -- the trees and the labels that those read stand for
  abbrev S' : Tree
  S' = decoded s

  abbrev T' : Tree
  T' = decoded t

  abbrev labels : List Label
  labels = map spelling xs

  on_answer : verdict first second list ≡ verdict_of xs (answer S' T' labels)
  unfolding verdict verdict_on verdict_on_second verdict_on_list
  on_answer = rw (read1, read2, read3) refl

  d1 : distinct (leaves S') ≡ true
  d1 = (valid_decoded s (accepts first s read1).1).different

  d3 : distinct labels ≡ true
  d3 = (list_accepts list xs read3).2

  -- "Numbers 6 and 7 go to the first label in list order that either tree lacks."
  six_told : (n : ℕ) → IsFirstLacks S' T' labels n
      → verdict first second list ≡ Err (record { reason = FirstLacks; body = K; place = place_of_number xs n })
  unfolding verdict_of
  six_told n p = on_answer ∙ ap (verdict_of xs) ((first_lacks_exactly S' T' labels d1 d3 n).1 p)

  seven_told : (n : ℕ) → IsSecondLacks S' T' labels n
      → verdict first second list ≡ Err (record { reason = SecondLacks; body = K; place = place_of_number xs n })
  unfolding verdict_of
  seven_told n p = on_answer ∙ ap (verdict_of xs) ((second_lacks_exactly S' T' labels d1 d3 n).1 p)

  -- "Number 8 names the first such three, sorted, compared label by label."
  eight_told : (a b c : Label) → Common S' T' (set_of labels) → IsDisagreement S' T' labels a b c
      → verdict first second list ≡ clash_at_places (place_of_label xs 0 a) (place_of_label xs 0 b) (place_of_label xs 0 c)
  unfolding verdict_of
  eight_told a b c h p = on_answer ∙ ap (verdict_of xs) ((disagree_exactly S' T' labels d1 d3 a b c h).1 p)

  -- "Trees agree on a set of leaves common to both exactly if each three of the set have the same closer pair in both"
  agreed_told : (verdict first second list ≡ agreed) ↔ (Common S' T' (set_of labels) × Agree S' T' (set_of labels))
  unfolding verdict_of
  agreed_told = (λ e. there (answer S' T' labels) refl (sym on_answer ∙ e), λ h. on_answer ∙ ap (verdict_of xs) (back h))
    where
      back : Common S' T' (set_of labels) × Agree S' T' (set_of labels) → answer S' T' labels ≡ largest (largest_set S' T' labels)
      back (c, a) = set_answered S' T' labels d1 d3 c (agree_no_clash S' T' (set_of labels) labels a (λ x m. m))

      there : (A : Answer) → answer S' T' labels ≡ A → verdict_of xs (answer S' T' labels) ≡ agreed
          → Common S' T' (set_of labels) × Agree S' T' (set_of labels)
      there (first_lacks n) e h = absurd (let d = ap (verdict_of xs) e in let z : ◌≡◌ {A = ℕ} 0 1 = cc in omega arith)
      there (second_lacks n) e h = absurd (let d = ap (verdict_of xs) e in let z : ◌≡◌ {A = ℕ} 0 1 = cc in omega arith)
      there (disagree a b c) e h = absurd (let d = ap (verdict_of xs) e in let z : ◌≡◌ {A = ℕ} 0 1 = cc in omega arith)
      there (largest X) e h =
          let p = ((largest_exactly S' T' labels d1 d3 X).0 e).allowed_set in
          (allowed_held S' T' labels X p, λ a b c i j k. p.agreed a b c (p.required a i) (p.required b j) (p.required c k))

  six_row : (n : ℕ) → IsFirstLacks S' T' labels n → said_of (verdict first second list) ≡ row 6 75 (place_of_number xs n)
  unfolding said_of
  six_row n p = ap said_of (six_told n p)

  seven_row : (n : ℕ) → IsSecondLacks S' T' labels n → said_of (verdict first second list) ≡ row 7 75 (place_of_number xs n)
  unfolding said_of
  seven_row n p = ap said_of (seven_told n p)

  eight_row : (a b c : Label) → Common S' T' (set_of labels) → IsDisagreement S' T' labels a b c
      → said_of (verdict first second list)
      ≡ row_naming 8 75 0 (place_of_label xs 0 a ∷ place_of_label xs 0 b ∷ place_of_label xs 0 c ∷ [])
  unfolding said_of
  eight_row a b c h p = ap said_of (eight_told a b c h p)

agreed_bodies : (first second list : List ℕ) → verdict first second list ≡ agreed
    → AllRead (read_tree first) (read_tree second) (read_list list)
unfolding verdict
agreed_bodies first second list e = agreed_on_lem (read_tree first) (read_tree second) (read_list list) e

-- ---- by an edition: what is read of the texts, as they stand

module _ (e : Edition) (first second list : List ℕ) where
  module _ (r : Reason) (i : ℕ) where
    pub first_row_in : read_tree_in e first ≡ refused r i → said_of (verdict_in e first second list) ≡ row (number_of r) 83 i
    first_row_in h = first_row (in_edition e first) (in_edition e second) (in_edition e list) r i (folded_refused e first r i h)

    pub second_row_in : (s : Tree) → read_tree_in e first ≡ good s → read_tree_in e second ≡ refused r i
        → said_of (verdict_in e first second list) ≡ row (number_of r) 84 i
    second_row_in s h k =
        second_row (in_edition e first) (in_edition e second) (in_edition e list) r i (folded e s) (folded_read e first s h)
        (folded_refused e second r i k)

    pub list_row_in : (s t : Tree) → read_tree_in e first ≡ good s → read_tree_in e second ≡ good t → read_list_in e list ≡ refused r i
        → said_of (verdict_in e first second list) ≡ row (number_of r) 75 i
    list_row_in s t h k l =
        list_row (in_edition e first) (in_edition e second) (in_edition e list) r i (folded e s) (folded e t) (folded_read e first s h)
        (folded_read e second t k) (list_folded_refused e list r i l)

  module _ (s t : Tree) (xs : List Token) (read1 : read_tree_in e first ≡ good s) (read2 : read_tree_in e second ≡ good t)
      (read3 : read_list_in e list ≡ good xs) where
    pub six_row_in : (n : ℕ) → IsFirstLacks (keyed e s) (keyed e t) (keys_of e xs) n
        → said_of (verdict_in e first second list) ≡ row 6 75 (place_of_number xs n)
    six_row_in n p =
        six_row (in_edition e first) (in_edition e second) (in_edition e list) (folded e s) (folded e t) (folded_list e xs)
        (folded_read e first s read1) (folded_read e second t read2) (list_folded_read e list xs read3) n p
        ∙ ap (λ (k : ℕ). row 6 75 k) (number_folded e xs n)

    pub seven_row_in : (n : ℕ) → IsSecondLacks (keyed e s) (keyed e t) (keys_of e xs) n
        → said_of (verdict_in e first second list) ≡ row 7 75 (place_of_number xs n)
    seven_row_in n p =
        seven_row (in_edition e first) (in_edition e second) (in_edition e list) (folded e s) (folded e t) (folded_list e xs)
        (folded_read e first s read1) (folded_read e second t read2) (list_folded_read e list xs read3) n p
        ∙ ap (λ (k : ℕ). row 7 75 k) (number_folded e xs n)

    pub eight_row_in : (a b c : Label) → Common (keyed e s) (keyed e t) (set_of (keys_of e xs))
        → IsDisagreement (keyed e s) (keyed e t) (keys_of e xs) a b c
        → said_of (verdict_in e first second list)
        ≡ row_naming 8 75 0 (place_of_label (folded_list e xs) 0 a ∷ place_of_label (folded_list e xs) 0 b ∷ place_of_label (folded_list e xs) 0 c ∷ [])
    eight_row_in =
        eight_row (in_edition e first) (in_edition e second) (in_edition e list) (folded e s) (folded e t) (folded_list e xs)
        (folded_read e first s read1) (folded_read e second t read2) (list_folded_read e list xs read3)

    pub agreed_told_in : (verdict_in e first second list ≡ agreed)
        ↔ (Common (keyed e s) (keyed e t) (set_of (keys_of e xs)) × Agree (keyed e s) (keyed e t) (set_of (keys_of e xs)))
    agreed_told_in =
        agreed_told (in_edition e first) (in_edition e second) (in_edition e list) (folded e s) (folded e t) (folded_list e xs)
        (folded_read e first s read1) (folded_read e second t read2) (list_folded_read e list xs read3)

  -- a body that is read as the edition reads its bytes is read
  tree_read_lem : (text : List ℕ) (s : Tree) → read_tree (in_edition e text) ≡ good s → (t : Tree) × (read_tree_in e text ≡ good t)
  tree_read_lem text s h = go (read_tree_in e text) refl
    where
      go : (w : Reading Tree) → read_tree_in e text ≡ w → (t : Tree) × (read_tree_in e text ≡ good t)
      go (good t) k = (t, k)
      go (refused r i) k = let l = sym (folded_refused e text r i k) ∙ h in let z : ◌≡◌ {A = ℕ} 0 1 = cc in absurd (omega arith)

  list_read : (text : List ℕ) (ys : List Token) → read_list (in_edition e text) ≡ good ys → (xs : List Token) × (read_list_in e text ≡ good xs)
  list_read text ys h = go (read_list_in e text) refl
    where
      go : (w : Reading (List Token)) → read_list_in e text ≡ w → (xs : List Token) × (read_list_in e text ≡ good xs)
      go (good xs) k = (xs, k)
      go (refused r i) k = let l = sym (list_folded_refused e text r i k) ∙ h in let z : ◌≡◌ {A = ℕ} 0 1 = cc in absurd (omega arith)

  pub agreed_bodies_in : verdict_in e first second list ≡ agreed → AllRead (read_tree_in e first) (read_tree_in e second) (read_list_in e list)
  agreed_bodies_in h =
      let w = agreed_bodies (in_edition e first) (in_edition e second) (in_edition e list) h in
      let s = tree_read_lem first w.first w.read1 in
      let t = tree_read_lem second w.second w.read2 in
      let xs = list_read list w.labels w.read3 in
      record { first = s.0; second = t.0; labels = xs.0; read1 = s.1; read2 = t.1; read3 = xs.1 }
