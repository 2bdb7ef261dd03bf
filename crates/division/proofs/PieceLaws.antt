-- The pieces' labels by rank are found at the places of the first tree's leaves. Assumes nothing.
use Prim.Native.Nat.{ℕ, ◌<◌, min}
use mathlib.Core.Path.{◌≡◌, sym, ◌∙◌, ap, ap₂, subst}
use mathlib.Core.Bool.{true}
use mathlib.Core.List.{List, []}
use native.Mathlib.Omega.{arith}
use lib.ListN.{length, get_or}
use Rattle.trees.specs.declared.Edition.{Edition}
use Rattle.trees.specs.declared.TreeArrays.{TreeArrays}
use Rattle.trees.specs.Edition.{folded, keyed}
use Rattle.trees.specs.Label.{Label, distinct}
use Rattle.trees.specs.Stored.{part_of}
use Rattle.trees.specs.Text.{text_of}
use Rattle.trees.specs.Token.{Token}
use Rattle.trees.specs.Tree.{Tree, Proper}
use Rattle.trees.proofs.TokenLaws.{valid_decoded}
use Rattle.lists.specs.ReadList.{keys_of}
use Rattle.leaves.specs.Numbered.{LeafIs}
use Rattle.agreement.specs.Closer.{Agree}
use Rattle.agreement.specs.Sets.{common, set_of}
use Rattle.agreement.specs.Answer.{Answer, first_lacks, second_lacks, disagree, largest, answer}
use Rattle.agreement.specs.Places.{spelled_in}
use Rattle.agreement.proofs.Promises as agreement
use Rattle.pairs.specs.Outcome.{found}
use Rattle.pairs.proofs.LeafPlaces.{own_start, own_size}
use Rattle.pairs.proofs.RankLaws.{proper_nodes}
use Rattle.places.specs.declared.PieceList.{PieceList}
use Rattle.places.specs.PieceRanks.{PieceRanks, rank_at}
use Rattle.queries.specs.Query.{answer_to, held_by, required_of, required_set}
use Rattle.queries.specs.RankedList.{RankedArrays}
use Rattle.division.specs.declared.PiecePlaces.{PiecePlaces}
use Rattle.division.specs.PiecesAt.{pieces_for, label_at, start_at, size_at, PiecesAt}
use Rattle.division.specs.PiecesByRank.{leaf_of_rank, AtRanks}

-- the trees agree on a required list for which a set is found
module _ (e : Edition) (s t : Tree) (xs : List Token) (proper : Proper (keyed e s)) (different : distinct (keys_of e xs) ≡ true) where
  found_largest : (A : Answer) (X : List Label) → required_of e s xs A ≡ found X → A ≡ largest X
  unfolding required_of held_by
  found_largest (first_lacks n) X d = let z : ◌≡◌ {A = ℕ} 0 1 = cc in absurd (omega arith)
  found_largest (second_lacks n) X d = let z : ◌≡◌ {A = ℕ} 0 1 = cc in absurd (omega arith)
  found_largest (disagree a b c) X d = let z : ◌≡◌ {A = ℕ} 0 1 = cc in absurd (omega arith)
  found_largest (largest Y) X d = let k : Y ≡ X = cc in ap largest k

  pub required_agree : (X : List Label) → required_set e (record { first = s; second = t }) xs ≡ found X
      → Agree (keyed e s) (keyed e t) (set_of (keys_of e xs))
  unfolding required_set answer_to
  required_agree X d =
      let k = ((agreement.set_promise (keyed e s) (keyed e t) (keys_of e xs) proper different X).0
      (found_largest (answer (keyed e s) (keyed e t) (keys_of e xs)) X d)).allowed_set in
      λ a b c x y z. k.agreed a b c (k.required a x) (k.required b y) (k.required c z)

-- each label of the list is the leaf of its rank, so it stands where that leaf does
module _ (e : Edition) (s t : Tree) (xs : List Token) (tree : TreeArrays) (order : List ℕ) (m : ℕ)
    (one : RankedArrays (folded e s) (common (keyed e s) (keyed e t)) tree order m) where
  abbrev C : List Label
  C = common (keyed e s) (keyed e t)

  leaf_there : (r : ℕ) → r < length C → LeafIs (keyed e s) (leaf_of_rank order r) (get_or C r [])
  leaf_there r h =
      let l = one.numbered r h in
      let small : get_or order r 0 < 159 = omega (arith, l.below, proper_nodes (keyed e s) (valid_decoded (folded e s) one.valid)) in
      let k : min r 79 ≡ r = omega (arith, h, one.few, one.count) in
      let n : leaf_of_rank order r ≡ get_or order r 0 = ap (λ (i : ℕ). min (get_or order i 0) 158) k ∙ least small in
      subst (λ (u : ℕ). LeafIs (keyed e s) u (get_or C r [])) (sym n) l
    where
      least : {n : ℕ} → n < 159 → min n 158 ≡ n
      least h = omega arith

  module _ (list : PieceList) (p : PiecePlaces) (ranks : PieceRanks (keyed e s) (keyed e t) (keys_of e xs) list)
      (there : AtRanks list order tree.start tree.size p) where
    at : (i : ℕ) → i < p.count → i < list.count
    at i h = omega (arith, there.count_is)

    leaf_at : (i : ℕ) → i < list.count → LeafIs (keyed e s) (leaf_of_rank order (rank_at list i)) (label_at e s t xs i)
    unfolding pieces_for
    leaf_at i h =
        subst (λ (x : Label). LeafIs (keyed e s) (leaf_of_rank order (rank_at list i)) x) (ranks.label_is i h)
        (leaf_there (rank_at list i) (ranks.common_rank i h))

    pub pieces_at_lem : PiecesAt e s t xs p
    unfolding pieces_for
    pieces_at_lem =
        record {
          count_is = there.count_is ∙ ranks.count_is;
          start_is = λ i h.
              there.entries.starts i (at i h)
              ∙ ap (λ (q : TreeArrays). get_or q.start (leaf_of_rank order (rank_at list i)) 0) one.arrays_is
              ∙ own_start (folded e s) one.valid _ _ (leaf_at i (at i h));
          size_is = λ i h.
              there.entries.sizes i (at i h)
              ∙ ap (λ (q : TreeArrays). get_or q.size (leaf_of_rank order (rank_at list i)) 0) one.arrays_is
              ∙ own_size (folded e s) one.valid _ _ (leaf_at i (at i h));
          head_is = λ i h. there.entries.heads i (at i h) ∙ ranks.head_is i (at i h);
        }

-- such a place is that of the label as the first tree spells it
pub label_spelled : (e : Edition) (s t : Tree) (xs : List Token) (p : PiecePlaces) → PiecesAt e s t xs p → (i : ℕ) → i < p.count
    → part_of (start_at p i) (size_at p i) (text_of s) ≡ spelled_in e s (label_at e s t xs i)
unfolding spelled_in
label_spelled e s t xs p there i h = ap₂ (λ (n k : ℕ). part_of n k (text_of s)) (there.start_is i h) (there.size_is i h)
