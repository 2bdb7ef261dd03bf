-- A list's labels looked up: the search for a label's rank, and labels marked one after the other. Assumes nothing.
use Prim.Native.Nat.{ℕ, suc, ◌+◌, ◌<◌, ◌≤◌, min}
use mathlib.Core.Path.{◌≡◌, sym, ◌∙◌, ap}
use mathlib.Core.Bool.{true, false}
use mathlib.Core.Logic.{◌⊎◌, inl, inr}
use mathlib.Core.List.{List, [], map}
use native.Mathlib.Omega.{arith}
use lib.Dec.{eqb, ltb}
use lib.ListN.{length, get_or, set, replicate, length-set, length-replicate}
use lib.Seq.{get_or-set_same, get_or-set_other}
use borrow.Author.Tests.{eqb-true, eqb-false, lt-ltb, le-ltb}
use Rattle.trees.specs.declared.Edition.{Edition}
use Rattle.trees.specs.Edition.{in_edition, key}
use Rattle.trees.proofs.FoldLaws.{fold_part}
use Rattle.trees.specs.Label.{Label, same_label, is_in, distinct}
use Rattle.trees.specs.Token.{Token, spelling}
use Rattle.trees.specs.Tree.{Tree, decoded}
use Rattle.trees.specs.Stored.{part_of, leaf_label}
use Rattle.trees.proofs.EntryLaws.{below_next, filled_at}
use Rattle.trees.proofs.Bools.{bool_cases, clash, refute}
use Rattle.trees.proofs.LabelLaws.{eq_same, same_eq}
use Rattle.trees.proofs.ListLaws.{at_in}
use Rattle.agreement.specs.Closer.{holds, Common}
use Rattle.agreement.specs.Sets.{increasing, common, set_of}
use Rattle.agreement.proofs.SetLaws.{in_common, number_of}
use Rattle.triples.specs.Clash.{rank_of}
use Rattle.triples.proofs.Ranks.{part_at}
use Rattle.triples.proofs.RowLaws.{rank_at}
use Rattle.trees.specs.Arrays.{node_limit}
use Rattle.leaves.specs.Find.{found_leaf, leaf_found}
use Rattle.leaves.proofs.FindLaws.{found_is_some}
use Rattle.leaves.specs.Numbered.{Numbered}
use Rattle.pairs.specs.OwnLeaves.{OwnLeaves}
use Rattle.queries.specs.ListRead.{OwnList}
use Rattle.std.proofs.Common.{Some, None, is_some}
use Rattle.queries.specs.FirstMarks.{FoundRank, FirstMarked}
use Rattle.table.specs.Choice.{Marked}
use Rattle.pairs.proofs.RankLaws.{own_nodes, own_few, own_part, search_found, search_missing, inc_differ}

-- the search tells whether the tree holds a label: by its number, and by whether there is a leaf
pub search_holds : {t : Tree} {text left start size : List ℕ} {nodes : ℕ} → OwnLeaves t text left start size nodes → (x : Label)
    → ltb (found_leaf text left start size x nodes) nodes ≡ holds (decoded t) x
search_holds {t} {text} {left} {start} {size} {nodes} o x = go (bool_cases (holds (decoded t) x))
  where
    go : (holds (decoded t) x ≡ true) ⊎ (holds (decoded t) x ≡ false)
        → ltb (found_leaf text left start size x nodes) nodes ≡ holds (decoded t) x
    go (inl k) = lt-ltb (found_leaf text left start size x nodes) nodes (omega (arith, (search_found o x k).below, own_nodes o)) ∙ sym k
    go (inr k) = le-ltb (found_leaf text left start size x nodes) nodes (omega (arith, search_missing o x k)) ∙ sym k

pub search_some : {t : Tree} {text left start size : List ℕ} {nodes : ℕ} → OwnLeaves t text left start size nodes → (x : Label)
    → is_some (leaf_found text left start size x nodes) ≡ holds (decoded t) x
search_some {t} {text} {left} {start} {size} {nodes} o x =
    let n : min nodes node_limit ≡ nodes = omega (arith, own_few o) in
    found_is_some text left start size x nodes ∙ rw n (search_holds o x)

-- token k of the list stands for its label k
pub list_part : {K : List Token} {text start size : List ℕ} {count : ℕ} → OwnList K text start size count → (k : ℕ) → k < count
    → spelling (part_of (get_or start k 0) (get_or size k 0) text) ≡ get_or (map spelling K) k []
list_part {K} o k h = rw (o.text_is, o.start_is, o.size_is) (part_at K k (omega (arith, o.count_is)))

-- what a token's text stands for, as an edition reads it

pub token_read : (e : Edition) (text : List ℕ) {K : List Token} {start size token : List ℕ} {count : ℕ} → OwnList K (in_edition e text) start size count
    → (k : ℕ) → k < count → token ≡ leaf_label text start size k → key e token ≡ get_or (map spelling K) k []
token_read e text {K} {start} {size} o k h d =
    ap spelling (ap (in_edition e) d ∙ sym (fold_part e (get_or start k 0) (get_or size k 0) text)) ∙ list_part o k h

pub label_read : (e : Edition) (text token : List ℕ) (start size : List ℕ) (u : ℕ) {label : List ℕ} → label ≡ leaf_label text start size u
    → same_label (spelling (leaf_label (in_edition e text) start size u)) (key e token) ≡ same_label (key e label) (key e token)
label_read e text token start size u d =
    ap (λ (x : Label). same_label (spelling x) (key e token))
    (fold_part e (get_or start u 0) (get_or size u 0) text ∙ ap (in_edition e) (sym d))

-- the search for a rank

module _ {s : Tree} {text left start size : List ℕ} {nodes : ℕ} (o : OwnLeaves s text left start size nodes) (C : List Label) (order : List ℕ)
    (numbered : Numbered (decoded s) C order) (x : Label) (r : ℕ) (h : r < length C) where
  label_is : spelling (leaf_label text start size (get_or order r 0)) ≡ get_or C r []
  label_is = own_part o (get_or order r 0) (get_or C r []) (numbered r h)

  pub rank_here : same_label (spelling (leaf_label text start size (get_or order r 0))) x ≡ true → FoundRank C x (Some r)
  rank_here e = (h, sym label_is ∙ same_eq (spelling (leaf_label text start size (get_or order r 0))) x e)

  pub not_here : same_label (spelling (leaf_label text start size (get_or order r 0))) x ≡ false → get_or C r [] ≡ x → ⊥
  not_here e d = clash {b = same_label (spelling (leaf_label text start size (get_or order r 0))) x}
      (eq_same (spelling (leaf_label text start size (get_or order r 0))) x (label_is ∙ d)) e

pub rank_missing : (C : List Label) (x : Label) → ((q : ℕ) → q < length C → get_or C q [] ≡ x → ⊥) → FoundRank C x None
rank_missing C x none = refute (is_in x C) (λ m. let n = number_of C x m in none n.at n.below n.is)

-- labels marked one after the other

different_at : (K : List Label) → distinct K ≡ true → (i j : ℕ) → i < length K → j < length K → get_or K i [] ≡ get_or K j [] → i ≡ j
different_at K d i j hi hj e = sym (rank_at K i d hi) ∙ ap (rank_of K) e ∙ rank_at K j d hj

pub marks_none : (C K : List Label) → FirstMarked 0 C K (replicate 81 0)
marks_none C K = record {
  size = length-replicate {A = ℕ} 81 0;
  inside = λ k h. absurd (omega arith);
  held = λ r k h l e. absurd (omega arith);
  other = λ r h n. filled_at {A = ℕ} 0 81 r;
}

pub marks_next : (k : ℕ) (C K : List Label) (number : List ℕ) (r x : ℕ) → increasing C ≡ true → distinct K ≡ true → length C ≤ 80
    → k < length K → k < 80 → r < length C → get_or C r [] ≡ get_or K k [] → x ≡ k + 1 → FirstMarked k C K number
    → FirstMarked (k + 1) C K (set number r x)
marks_next k C K number r x inc dk few hk small hr e v m = record {
  size = length-set number r x ∙ m.size;
  inside = below_next (λ j. is_in (get_or K j []) C ≡ true) k m.inside (rw (← e) (at_in C r hr));
  held = λ q j hq hj d. held' q j hq hj d (bool_cases (eqb q r)) (bool_cases (eqb j k));
  other = λ q hq n. other' q hq n (bool_cases (eqb q r));
}
  where
    held' : (q j : ℕ) → q < length C → j < k + 1 → get_or C q [] ≡ get_or K j [] → (eqb q r ≡ true) ⊎ (eqb q r ≡ false)
        → (eqb j k ≡ true) ⊎ (eqb j k ≡ false) → get_or (set number r x) q 0 ≡ suc j
    held' q j hq hj d (inl a) b =
        let qr = eqb-true q r a in
        let jk : j ≡ k = different_at K dk j k (omega arith) hk (sym d ∙ ap (λ (i : ℕ). get_or C i []) qr ∙ e) in
        rw (qr, jk) (get_or-set_same number r x 0 (omega (arith, m.size)) ∙ omega arith)
    held' q j hq hj d (inr a) (inl b) =
        absurd (inc_differ C inc q r hq hr (eqb-false q r a) (d ∙ ap (λ (i : ℕ). get_or K i []) (eqb-true j k b) ∙ sym e))
    held' q j hq hj d (inr a) (inr b) =
        get_or-set_other number r q x 0 (eqb-false q r a) ∙ m.held q j hq (omega (arith, eqb-false j k b)) d

    other' : (q : ℕ) → q < length C → ((j : ℕ) → j < k + 1 → get_or C q [] ≡ get_or K j [] → ⊥) → (eqb q r ≡ true) ⊎ (eqb q r ≡ false)
        → get_or (set number r x) q 0 ≡ 0
    other' q hq n (inl a) = absurd (n k (omega arith) (ap (λ (i : ℕ). get_or C i []) (eqb-true q r a) ∙ e))
    other' q hq n (inr a) = get_or-set_other number r q x 0 (eqb-false q r a) ∙ m.other q hq (λ j h. n j (omega arith))

-- all labels are marked
pub marked_all : (C K : List Label) (number : List ℕ) → FirstMarked (length K) C K number → Marked C K number
marked_all C K number m = record {
  held = λ r k hr hk e. m.held r k hr hk e;
  other = λ r hr none. m.other r hr (λ k h e. clash {b = is_in (get_or C r []) K} (rw e (at_in K k h)) none);
}

pub marked_common : (s t : Tree) (K : List Label) (number : List ℕ) → FirstMarked (length K) (common s t) K number → Common s t (set_of K)
marked_common s t K number m x h =
    let k = number_of K x h in
    in_common s t x (rw k.is at (m.inside k.at k.below))
