-- What the readers hand over: a refusal is the verdict, and what was read is two valid trees and a list. Assumes nothing.
use Prim.Native.Nat.{ℕ, ◌≤◌}
use mathlib.Core.Path.{◌≡◌, refl, sym, ◌∙◌, ap}
use mathlib.Core.List.{List, map}
use native.Mathlib.Omega.{arith}
use Rattle.std.specs.Prelude.{Ok, Err}
use Rattle.trees.specs.declared.Body.{Body}
use Rattle.trees.specs.declared.Body.TheVariants.{S, T, K}
use Rattle.trees.specs.declared.Refusal.{Refusal}
use Rattle.trees.specs.Token.{Token, spelling}
use Rattle.trees.specs.Tree.{Tree, decoded}
use Rattle.trees.specs.Arrays.{arrays_of}
use Rattle.trees.specs.Reading.{Reading, good, refused}
use Rattle.newick.specs.declared.TreeRead.{TreeRead}
use Rattle.newick.specs.ReadTree.{read_tree, tree_read}
use Rattle.newick.proofs.Accepts.{accepts}
use Rattle.lists.specs.declared.LabelPlaces.{LabelPlaces}
use Rattle.lists.specs.declared.ListRead.{ListRead}
use Rattle.lists.specs.ReadList.{read_list, list_read, places_of}
use Rattle.lists.proofs.Accepts.{list_accepts}
use Rattle.agreement.specs.Answer.{answer}
use Rattle.triples.specs.Verdict.{AgreeVerdict, agreed, verdict_of, verdict_on_list, verdict_on_second, verdict_on, verdict, AllRead}
use Rattle.triples.specs.Loops.{AsRead}

-- a tree that was read, and a list
pub record TreeWas (reading : Reading Tree) (r : TreeRead) : Type 0 where
  pub tree : Tree
  pub read : reading ≡ good tree
  pub arrays : r.tree ≡ arrays_of tree

pub record ListWas (reading : Reading (List Token)) (r : ListRead) : Type 0 where
  pub labels : List Token
  pub read : reading ≡ good labels
  pub places : r.places ≡ places_of labels

pub tree_was : (body : Body) (reading : Reading Tree) (r : TreeRead) (n : ℕ) → r ≡ tree_read body reading → r.answer ≡ Ok n
    → TreeWas reading r
unfolding tree_read
tree_was body (good t) r n e a = record { tree = t; read = refl; arrays = ap (λ (q : TreeRead). q.tree) e }
tree_was body (refused x i) r n e a =
    absurd (let b = ap (λ (q : TreeRead). q.answer) e in let z : ◌≡◌ {A = ℕ} 0 1 = cc in omega arith)

pub list_was : (body : Body) (reading : Reading (List Token)) (r : ListRead) (n : ℕ) → r ≡ list_read body reading
    → r.answer ≡ Ok n → ListWas reading r
unfolding list_read
list_was body (good xs) r n e a = record { labels = xs; read = refl; places = ap (λ (q : ListRead). q.places) e }
list_was body (refused x i) r n e a =
    absurd (let b = ap (λ (q : ListRead). q.answer) e in let z : ◌≡◌ {A = ℕ} 0 1 = cc in omega arith)

-- a body that cannot be read decides
first_body : (reading second : Reading Tree) (list : Reading (List Token)) (r : TreeRead) (x : Refusal) → r ≡ tree_read S reading
    → r.answer ≡ Err x → ◌≡◌ {A = AgreeVerdict} (Err x) (verdict_on reading second list)
unfolding tree_read verdict_on
first_body (good t) second list r x e a =
    absurd (let b = ap (λ (q : TreeRead). q.answer) e in let z : ◌≡◌ {A = ℕ} 0 1 = cc in omega arith)
first_body (refused y i) second list r x e a =
    let b = ap (λ (q : TreeRead). q.answer) e in
    let d : x ≡ record { reason = y; body = S; place = i } = cc in
    ap Err d

second_body : (s : Tree) (reading : Reading Tree) (list : Reading (List Token)) (r : TreeRead) (x : Refusal) → r ≡ tree_read T reading
    → r.answer ≡ Err x → ◌≡◌ {A = AgreeVerdict} (Err x) (verdict_on_second s reading list)
unfolding tree_read verdict_on_second
second_body s (good t) list r x e a =
    absurd (let b = ap (λ (q : TreeRead). q.answer) e in let z : ◌≡◌ {A = ℕ} 0 1 = cc in omega arith)
second_body s (refused y i) list r x e a =
    let b = ap (λ (q : TreeRead). q.answer) e in
    let d : x ≡ record { reason = y; body = T; place = i } = cc in
    ap Err d

list_body : (s t : Tree) (reading : Reading (List Token)) (r : ListRead) (x : Refusal) → r ≡ list_read K reading
    → r.answer ≡ Err x → ◌≡◌ {A = AgreeVerdict} (Err x) (verdict_on_list s t reading)
unfolding list_read verdict_on_list
list_body s t (good xs) r x e a =
    absurd (let b = ap (λ (q : ListRead). q.answer) e in let z : ◌≡◌ {A = ℕ} 0 1 = cc in omega arith)
list_body s t (refused y i) r x e a =
    let b = ap (λ (q : ListRead). q.answer) e in
    let d : x ≡ record { reason = y; body = K; place = i } = cc in
    ap Err d

module _ (first second list : List ℕ) where
  pub first_refused : (r : TreeRead) (x : Refusal) → r ≡ tree_read S (read_tree first) → r.answer ≡ Err x
      → ◌≡◌ {A = AgreeVerdict} (Err x) (verdict first second list)
  unfolding verdict
  first_refused r x e a = first_body (read_tree first) (read_tree second) (read_list list) r x e a

  module _ (one : TreeRead) (s : TreeWas (read_tree first) one) where
    -- where the first tree was read
    on_second : verdict_on_second s.tree (read_tree second) (read_list list) ≡ verdict first second list
    unfolding verdict verdict_on
    on_second = ap (λ (q : Reading Tree). verdict_on q (read_tree second) (read_list list)) (sym s.read)

    pub second_refused : (r : TreeRead) (x : Refusal) → r ≡ tree_read T (read_tree second) → r.answer ≡ Err x
        → ◌≡◌ {A = AgreeVerdict} (Err x) (verdict first second list)
    second_refused r x e a = second_body s.tree (read_tree second) (read_list list) r x e a ∙ on_second

    module _ (two : TreeRead) (t : TreeWas (read_tree second) two) where
      -- where both were read
      on_list : verdict_on_list s.tree t.tree (read_list list) ≡ verdict first second list
      unfolding verdict_on_second
      on_list = ap (λ (q : Reading Tree). verdict_on_second s.tree q (read_list list)) (sym t.read) ∙ on_second

      pub list_refused : (r : ListRead) (x : Refusal) → r ≡ list_read K (read_list list) → r.answer ≡ Err x
          → ◌≡◌ {A = AgreeVerdict} (Err x) (verdict first second list)
      list_refused r x e a = list_body s.tree t.tree (read_list list) r x e a ∙ on_list

      module _ (three : ListRead) (k : ListWas (read_list list) three) where
        pub all_read : verdict_of k.labels (answer (decoded s.tree) (decoded t.tree) (map spelling k.labels)) ≡ verdict first second list
        unfolding verdict_on_list
        all_read = ap (λ (q : Reading (List Token)). verdict_on_list s.tree t.tree q) (sym k.read) ∙ on_list

        pub given_read : AsRead s.tree t.tree k.labels first second list one.tree two.tree three.places
        given_read =
            let a = accepts first s.tree s.read in
            let b = accepts second t.tree t.read in
            let c = list_accepts list k.labels k.read in
            record {
              valid1 = a.1;
              valid2 = b.1;
              text1 = a.0;
              text2 = b.0;
              tree1 = s.arrays;
              tree2 = t.arrays;
              listed = c.0;
              placed = k.places;
              different = c.2;
              few = c.3;
            }

        pub few_read : three.places.count ≤ 80
        unfolding places_of
        few_read = omega (arith, ap (λ (q : LabelPlaces). q.count) k.places, given_read.few)

-- where the verdict is that the trees agree, all three bodies were read
pub agreed_on_lem : (one two : Reading Tree) (three : Reading (List Token)) → verdict_on one two three ≡ agreed → AllRead one two three
unfolding verdict_on verdict_on_second verdict_on_list
agreed_on_lem (good s) (good t) (good xs) h =
    record { first = s; second = t; labels = xs; read1 = refl; read2 = refl; read3 = refl }
agreed_on_lem (good s) (good t) (refused r i) h = absurd (let z : ◌≡◌ {A = ℕ} 0 1 = cc in omega arith)
agreed_on_lem (good s) (refused r i) three h = absurd (let z : ◌≡◌ {A = ℕ} 0 1 = cc in omega arith)
agreed_on_lem (refused r i) two three h = absurd (let z : ◌≡◌ {A = ℕ} 0 1 = cc in omega arith)
