-- Both trees read: what the reader's answers say of them, and what is returned of both. Assumes nothing.
use Prim.Native.Nat.{ℕ, ◌≤◌}
use mathlib.Core.Path.{◌≡◌, refl, sym, ◌∙◌, ap}
use mathlib.Core.List.{List}
use native.Mathlib.Omega.{arith}
use lib.ListN.{length}
use Rattle.trees.specs.declared.TreeArrays.{TreeArrays}
use Rattle.trees.specs.declared.Body.{Body}
use Rattle.trees.specs.declared.Refusal.{Refusal}
use Rattle.trees.specs.declared.Edition.{Edition}
use Rattle.trees.specs.Edition.{in_edition, folded, keyed}
use Rattle.trees.specs.Tree.{Tree, leaves}
use Rattle.trees.specs.Arrays.{arrays_of, node_limit}
use Rattle.trees.specs.Reading.{Reading, good, refused as unread}
use Rattle.trees.proofs.ArrayLaws.{few_nodes}
use Rattle.trees.proofs.EditionLaws.{arrays_folded, valid_folded, text_folded, keyed_count}
use Rattle.std.specs.Prelude.{Result, Ok, Err}
use Rattle.newick.specs.declared.TreeRead.{TreeRead}
use Rattle.newick.specs.ReadTree.{read_tree_in, tree_read}
use Rattle.newick.proofs.EditionReads.{accepts_in}
use Rattle.agreement.specs.Strict.{Stray, in_first, in_second, nowhere}
use Rattle.pairs.specs.declared.Options.{Options}
use Rattle.pairs.specs.declared.Pair.{Pair}
use Rattle.std.proofs.Common.{Ok}
use Rattle.pairs.specs.Outcome.{found}
use Rattle.pairs.specs.TwoTrees.{stray_for, trees_of}
use Rattle.pairs.specs.LoneLeaves.{shared_of}
use Rattle.pairs.specs.OwnLeaves.{OwnLeaves, Ordered}
use Rattle.pairs.specs.PairRead.{unread_tree, OwnTrees, trees_in, PairIs}
use Rattle.pairs.proofs.RankLaws.{own_proper}
use Rattle.pairs.proofs.StepLaws.{Unread, trees_both}

-- what the reader says of a tree

pub record ReadAs (e : Edition) (text : List ℕ) (tree : TreeArrays) (count : ℕ) : Type 0 where
  pub of : Tree
  pub is : read_tree_in e text ≡ good of
  pub arrays : tree ≡ arrays_of of
  pub count_is : count ≡ length (leaves of)

tree_case : (body : Body) (x : Reading Tree) (r : TreeRead) (n : ℕ) → r ≡ tree_read body x → r.answer ≡ Ok n
    → (t : Tree) × (x ≡ good t) × (r.tree ≡ arrays_of t) × (n ≡ length (leaves t))
unfolding tree_read
tree_case body (good t) r n e h =
    let d : Ok n ≡ Ok (length (leaves t)) = sym h ∙ ap (λ q. q.answer) e in
    (t, refl, ap (λ q. q.tree) e, cc)
tree_case body (unread q i) r n e h =
    let d : ◌≡◌ {A = Result ℕ Refusal} (Err (record { reason = q; body = body; place = i })) (Ok n) = sym (ap (λ q. q.answer) e) ∙ h in
    let z : ◌≡◌ {A = ℕ} 0 1 = cc in
    absurd (omega arith)

pub tree_read_lem : (e : Edition) (body : Body) (text : List ℕ) (r : TreeRead) (n : ℕ) → r ≡ tree_read body (read_tree_in e text)
    → r.answer ≡ Ok n → ReadAs e text r.tree n
tree_read_lem e body text r n d h =
    let k = tree_case body (read_tree_in e text) r n d h in
    record { of = k.0; is = k.1; arrays = k.2; count_is = k.3 }

unread_case : (body : Body) (x : Reading Tree) (q : Refusal) → (tree_read body x).answer ≡ Err q
    → Unread Tree x body (unread_tree (tree_read body x).answer body)
unfolding tree_read unread_tree
unread_case body (good t) q h = let z : ◌≡◌ {A = ℕ} 0 1 = cc in absurd (omega arith)
unread_case body (unread r i) q h = record { reason = r; place = i; is = refl; told = refl }

pub tree_unread : (e : Edition) (body : Body) (text : List ℕ) (r : TreeRead) (q : Refusal) → r ≡ tree_read body (read_tree_in e text)
    → r.answer ≡ Err q → Unread Tree (read_tree_in e text) body (unread_tree r.answer body)
tree_unread e body text r q d h = rw d (unread_case body (read_tree_in e text) q (rw d at h))

-- what the engine's parts are handed of a tree, as the edition reads it
module _ {e : Edition} {text : List ℕ} {tree : TreeArrays} {n : ℕ} (r : ReadAs e text tree n) where
  pub folded_arrays : tree ≡ arrays_of (folded e r.of)
  folded_arrays = r.arrays ∙ sym (arrays_folded e r.of)

  pub tree_leaves : OwnLeaves (folded e r.of) (in_edition e text) tree.left tree.start tree.size tree.nodes
  unfolding arrays_of
  tree_leaves =
      let a = accepts_in e text r.of r.is in
      record {
        valid = valid_folded e r.of a.1;
        text_is = ap (in_edition e) a.0 ∙ sym (text_folded e r.of);
        left_is = ap (λ a. a.left) folded_arrays;
        start_is = ap (λ a. a.start) folded_arrays;
        size_is = ap (λ a. a.size) folded_arrays;
        nodes_is = ap (λ a. a.nodes) folded_arrays;
      }

  pub tree_most : n ≡ length (leaves (keyed e r.of))
  tree_most = r.count_is ∙ sym (keyed_count e r.of)

  pub tree_count : n ≤ 80
  tree_count = omega (arith, tree_most, (own_proper tree_leaves).few)

  pub tree_few : tree.nodes ≤ node_limit
  tree_few = let o = tree_leaves in omega (arith, o.nodes_is, few_nodes (folded e r.of) o.valid)

-- both trees

pub all_shared : (o : Options) (s t : Tree)
    → Ok tt ≡ shared_of (folded o.edition s) (folded o.edition t) (stray_for o s t) → stray_for o s t ≡ nowhere
unfolding shared_of
all_shared o s t k = go (stray_for o s t) k
  where
    go : (r : Stray) → Ok tt ≡ shared_of (folded o.edition s) (folded o.edition t) r → r ≡ nowhere
    go (in_first x) k = let z : ◌≡◌ {A = ℕ} 0 1 = cc in absurd (omega arith)
    go (in_second x) k = let z : ◌≡◌ {A = ℕ} 0 1 = cc in absurd (omega arith)
    go nowhere k = refl

module _ (o : Options) (first second : List ℕ) where
  pub pair_clear : (r : Pair) {m n : ℕ} (one : ReadAs o.edition first r.tree1 m) (two : ReadAs o.edition second r.tree2 n)
      → stray_for o one.of two.of ≡ nowhere
      → r.order.count ≤ 80
      → Ordered (keyed o.edition one.of) (keyed o.edition two.of) r.order.first r.order.second r.order.count
      → PairIs o first second (Ok r)
  pair_clear r one two k few d = (own, both)
    where
      own : OwnTrees o.edition first r.tree1 r.tree2 r.order
      own =
          let a = accepts_in o.edition first one.of one.is in
          record {
            s = one.of;
            t = two.of;
            valid1 = a.1;
            first_text = a.0;
            one = tree_leaves one;
            valid2 = (tree_leaves two).valid;
            first_arrays = folded_arrays one;
            second_arrays = folded_arrays two;
            few = few;
            ordered = d;
          }

      both : trees_of o first second ≡ found (trees_in own)
      both = trees_both o first second one.of one.is two.of two.is k
