-- From what the loops compute to the verdict on two trees and a list. Assumes nothing.
use Prim.Native.Nat.{ℕ, zero, suc, ◌+◌, ◌<◌, ◌≤◌}
use mathlib.Core.Path.{◌≡◌, refl, sym, ◌∙◌, ap, subst}
use mathlib.Core.Bool.{Bool, true, false, cond}
use mathlib.Core.Logic.{◌⊎◌, inl, inr}
use mathlib.Core.Option.{Option, some, none}
use mathlib.Core.List.{List, [], map}
use native.Mathlib.Omega.{arith}
use Rattle.std.specs.Prelude.{Option as Maybe, Some, None, is_some, Result, Ok, Err, min}
use Rattle.std.specs.Option.{unwrap_or}
use lib.Dec.{eqb}
use lib.ListN.{length, get_or, drop, drop_of_length-le, length-map}
use lib.Seq.{drop-cons}
use borrow.Author.Tests.{lt-ltb, le-ltb, eqb-true, eqb-false}
use Rattle.trees.specs.declared.Reason.TheVariants.{FirstLacks, SecondLacks}
use Rattle.trees.specs.declared.Body.TheVariants.{K}
use Rattle.trees.specs.declared.Refusal.{Refusal}
use Rattle.trees.specs.declared.TreeArrays.{TreeArrays}
use Rattle.trees.specs.Label.{Label, is_in, distinct}
use Rattle.trees.specs.Token.{Token, spelling}
use Rattle.trees.specs.Tree.{Tree, decoded, Valid}
use Rattle.trees.specs.declared.Edition.{Edition}
use Rattle.trees.specs.Edition.{folded, keyed, ValidIn}
use Rattle.trees.specs.Text.{text_of}
use Rattle.trees.specs.Arrays.{arrays_of, nodes_of, node_limit}
use Rattle.trees.proofs.ArrayLaws.{nodes_leaves}
use Rattle.trees.proofs.Bools.{bool_cases}
use Rattle.trees.proofs.TokenLaws.{valid_decoded}
use Rattle.trees.proofs.EditionLaws.{valid_folded, arrays_folded}
use Rattle.trees.proofs.DecodedLaws.{decoded_nodes, decoded_left}
use Rattle.lists.specs.declared.LabelPlaces.{LabelPlaces}
use Rattle.lists.specs.ReadList.{joined, places_of}
use Rattle.agreement.specs.Closer.{holds}
use Rattle.agreement.specs.Sets.{increasing, sorted}
use Rattle.agreement.specs.Answer.{Answer, first_lacks, second_lacks, disagree, largest, Three, first_clash, lacking}
use Rattle.agreement.specs.Answer.{largest_set, answer}
use Rattle.agreement.specs.Demand.{Clash}
use Rattle.agreement.specs.Places.{place_of_number, place_of_label}
use Rattle.agreement.proofs.SetLaws.{length_sorted, sorted_inc, inc_distinct, number_of}
use Rattle.agreement.proofs.AnswerLaws.{FirstThree, clash_found}
use Rattle.leaves.specs.Find.{leaf_found}
use Rattle.leaves.specs.Numbered.{LeafIs, Numbered}
use Rattle.leaves.proofs.OwnLaws.{own_found, found, missing}
use Rattle.triples.specs.declared.Indices.{Indices as Ranked}
use Rattle.triples.specs.Verdict.{AgreeVerdict, agreed, clash_at_places, verdict_of}
use Rattle.triples.specs.Clash.{rank_of, clash_ranks, RankedTree}
use Rattle.triples.specs.Loops.{label_in, rank_in, InOrder, LeavesFound, lack_from, told_of, AsRead}
use Rattle.triples.proofs.Ranks.{label_at, place_of, place_number, order_sorted}
use Rattle.triples.proofs.RowLaws.{rank_at}

-- what the search for a lacking label returns
abbrev Lacking : Type 0
Lacking = Result (Prim.Unit {0}) Refusal

-- the leaf with a label
abbrev own_leaf : Tree → Label → Maybe ℕ
own_leaf t x = leaf_found (text_of t) (arrays_of t).left (arrays_of t).start (arrays_of t).size x (nodes_of t)

-- the leaves of the list's labels in a tree, both as they were read
abbrev pub LeavesOf : Tree → List Token → List (Maybe ℕ) → Type 0
LeavesOf t xs leaf = (k : ℕ) → k < length xs → get_or leaf k None ≡ own_leaf t (get_or (map spelling xs) k [])

pub leaves_of : (t : Tree) (xs : List Token) (text list : List ℕ) (tree : TreeArrays) (places : LabelPlaces) → text ≡ text_of t
    → tree ≡ arrays_of t → list ≡ joined xs → places ≡ places_of xs → (leaf : List (Maybe ℕ))
    → LeavesFound text tree (label_in list places.start places.size) places.count leaf → LeavesOf t xs leaf
unfolding arrays_of places_of
leaves_of t xs text list tree places e d l p leaf f k h =
    let c : places.count ≡ length xs = ap (λ (q : LabelPlaces). q.count) p in
    f k (omega arith)
    ∙ ap (λ (z : List ℕ). leaf_found z tree.left tree.start tree.size (label_in list places.start places.size k) tree.nodes) e
    ∙ ap
    (λ (z : TreeArrays). leaf_found (text_of t) z.left z.start z.size (label_in list places.start places.size k) z.nodes)
    d
    ∙ ap (λ (z : Label). leaf_found (text_of t) (arrays_of t).left (arrays_of t).start (arrays_of t).size z (nodes_of t))
    (ap (λ (z : List ℕ). label_in z places.start places.size k) l
    ∙ ap (λ (z : LabelPlaces). label_in (joined xs) z.start z.size k) p
    ∙ label_at xs k h)

module _ (t : Tree) (x : Label) (v : Valid t) where
  few_nodes : min (nodes_of t) node_limit ≡ nodes_of t
  few_nodes = omega (arith, nodes_leaves (decoded t), (valid_decoded t v).few, decoded_nodes t)

  held_leaf : holds (decoded t) x ≡ true → own_leaf t x ≡ Some (own_found t x)
  unfolding holds leaf_found
  held_leaf h = rw (few_nodes, lt-ltb (own_found t x) (nodes_of t) (omega (arith, (found t x v h).below, decoded_nodes t))) refl

  lost_leaf : holds (decoded t) x ≡ false → own_leaf t x ≡ None
  unfolding holds leaf_found
  lost_leaf h = rw (few_nodes, le-ltb (own_found t x) (nodes_of t) (omega (arith, missing t x v h))) refl

  has_leaf : is_some (own_leaf t x) ≡ holds (decoded t) x
  has_leaf = go (bool_cases (holds (decoded t) x))
    where
      go : (holds (decoded t) x ≡ true) ⊎ (holds (decoded t) x ≡ false) → is_some (own_leaf t x) ≡ holds (decoded t) x
      go (inl h) = ap is_some (held_leaf h) ∙ sym h
      go (inr h) = ap is_some (lost_leaf h) ∙ sym h

module _ (s t : Tree) (xs : List Token) (v : Valid s) (w : Valid t) (different : distinct (map spelling xs) ≡ true) where
  -- the trees and the labels that those read stand for
  abbrev S : Tree
  S = decoded s

  abbrev T : Tree
  T = decoded t

  abbrev labels : List Label
  labels = map spelling xs

  as_many : length labels ≡ length xs
  as_many = length-map xs spelling

  -- what the search for a lacking label comes to
  data Lack (k : ℕ) : Option Answer → Lacking → Type 0 where
    no_lack : ((j : ℕ) → k ≤ j → j < length xs → (holds S (get_or labels j []) ≡ true) × (holds T (get_or labels j []) ≡ true)) → Lack k none (Ok (Prim.tt {0}))
    lack_first : (n : ℕ)
        → Lack k (some (first_lacks n)) (Err (record { reason = FirstLacks; body = K; place = place_of_number xs n }))
    lack_second : (n : ℕ)
        → Lack k (some (second_lacks n)) (Err (record { reason = SecondLacks; body = K; place = place_of_number xs n }))

  later : (k : ℕ) {o : Option Answer} {A : Lacking} → holds S (get_or labels k []) ≡ true → holds T (get_or labels k []) ≡ true
      → Lack (suc k) o A → Lack k o A
  later k p q (no_lack f) = no_lack (λ j h l. at j h l (bool_cases (eqb j k)))
    where
      at : (j : ℕ) → k ≤ j → j < length xs → (eqb j k ≡ true) ⊎ (eqb j k ≡ false)
          → (holds S (get_or labels j []) ≡ true) × (holds T (get_or labels j []) ≡ true)
      at j h l (inl e) = rw (eqb-true j k e) (p, q)
      at j h l (inr e) = f j (omega (arith, eqb-false j k e)) l
  later k p q (lack_first n) = lack_first n
  later k p q (lack_second n) = lack_second n

  module _ (leaf1 leaf2 : List (Maybe ℕ)) (l1 : LeavesOf s xs leaf1) (l2 : LeavesOf t xs leaf2) where
    lack_of : (n k : ℕ) → n + k ≡ length xs
        → Lack k (lacking S T (drop k labels) k) (lack_from leaf1 leaf2 (places_of xs).start n k)
    unfolding lacking lack_from
    lack_of zero k e =
        let past : length labels ≤ k = omega (arith, as_many) in
        rw (drop_of_length-le labels past) (no_lack (λ j h l. absurd (omega arith)))
    lack_of (suc n) k e =
        let here : k < length xs = omega arith in
        let x = get_or labels k [] in
        rw (
          drop-cons labels k [] (omega (arith, as_many)),
          ap is_some (l1 k here) ∙ has_leaf s x v,
          ap is_some (l2 k here) ∙ has_leaf t x w,
          place_number xs k here,
        )
        (go (holds S x) refl (holds T x) refl (lack_of n (suc k) (omega arith)))
      where
        next : Lacking
        next = lack_from leaf1 leaf2 (places_of xs).start n (suc k)

        go : (a : Bool) → holds S (get_or labels k []) ≡ a → (b : Bool) → holds T (get_or labels k []) ≡ b
            → Lack (suc k) (lacking S T (drop (suc k) labels) (suc k)) next
            → Lack k (cond a (cond b (lacking S T (drop (suc k) labels) (suc k)) (some (second_lacks k))) (some (first_lacks k)))
            (cond a (cond b next (Err (record { reason = SecondLacks; body = K; place = place_of_number xs k })))
            (Err (record { reason = FirstLacks; body = K; place = place_of_number xs k })))
        go true p true q r = later k p q r
        go true p false q r = lack_second k
        go false p b q r = lack_first k

  -- the verdict on three that clash
  abbrev clash_told : Option Three → AgreeVerdict
  clash_told none = agreed
  clash_told (some c) = clash_at_places (place_of_label xs 0 c.one) (place_of_label xs 0 c.two) (place_of_label xs 0 c.three)

  -- the answer where a label is lacking, and where none is
  answer_by : (o : Option Answer) → lacking S T labels 0 ≡ o
      → answer S T labels
      ≡ elim o [
        | some r ↦ r
        | none ↦
            elim (first_clash S T (sorted labels)) [ some c ↦ disagree c.one c.two c.three | none ↦ largest (largest_set S T labels) ]
      ]
  unfolding answer
  answer_by o e =
      ap
      (λ (z : Option Answer). elim z [
        | some r ↦ r
        | none ↦
            elim (first_clash S T (sorted labels)) [ some c ↦ disagree c.one c.two c.three | none ↦ largest (largest_set S T labels) ]
      ])
      e

  answer_clash : lacking S T labels 0 ≡ none → verdict_of xs (answer S T labels) ≡ clash_told (first_clash S T (sorted labels))
  unfolding verdict_of
  answer_clash e = ap (verdict_of xs) (answer_by none e) ∙ go (first_clash S T (sorted labels))
    where
      go : (o : Option Three)
          → verdict_of xs (elim o [ some c ↦ disagree c.one c.two c.three | none ↦ largest (largest_set S T labels) ]) ≡ clash_told o
      go none = refl
      go (some c) = refl

  -- the labels in label order, by their numbers in the list
  module _ (order : List ℕ)
      (o : (r : ℕ) → r < length xs → (get_or order r 0 < length xs) × (get_or labels (get_or order r 0) [] ≡ get_or (sorted labels) r [])) where
    -- the leaves in that order are those of the sorted labels
    leaves_ranked : (u : Tree) → Valid u → ((j : ℕ) → j < length xs → holds (decoded u) (get_or labels j []) ≡ true) → (leaf : List (Maybe ℕ)) (ranked : List ℕ)
        → LeavesOf u xs leaf → ((r : ℕ) → r < length xs → get_or ranked r 0 ≡ unwrap_or (get_or leaf (get_or order r 0) None) 0)
        → Numbered (decoded u) (sorted labels) ranked
    unfolding holds
    leaves_ranked u valid held leaf ranked l e r h =
        let k = o r (omega (arith, length_sorted labels, as_many)) in
        let x = get_or labels (get_or order r 0) [] in
        let g = e r (omega (arith, length_sorted labels, as_many))
        ∙ ap (λ (o : Maybe ℕ). unwrap_or o 0) (l (get_or order r 0) k.0 ∙ held_leaf u x valid (held (get_or order r 0) k.0)) in
        let f = found u (get_or labels (get_or order r 0) []) valid (held (get_or order r 0) k.0) in
        subst (λ (n : ℕ). LeafIs (decoded u) n (get_or (sorted labels) r [])) (sym g)
        (subst (λ (x : Label). LeafIs (decoded u) (own_found u (get_or labels (get_or order r 0) [])) x) k.1
        (record { below = f.below; is = f.is }))

    -- the place of a label by its rank
    place : (x : Label) → is_in x (sorted labels) ≡ true
        → (rank_of (sorted labels) x < length xs)
        × (get_or (places_of xs).start (get_or order (rank_of (sorted labels) x) 0) 0 ≡ place_of_label xs 0 x)
    place x h =
        let n = number_of (sorted labels) x h in
        let e : rank_of (sorted labels) x ≡ n.at =
        ap (rank_of (sorted labels)) (sym n.is)
        ∙ rank_at (sorted labels) n.at (inc_distinct (sorted labels) (sorted_inc labels different)) n.below in
        let l : rank_of (sorted labels) x < length xs = omega (arith, e, n.below, length_sorted labels, as_many) in
        let k = o (rank_of (sorted labels) x) l in (
          l,
          place_of xs (get_or order (rank_of (sorted labels) x) 0) different k.0
              ∙ ap (place_of_label xs 0) (k.1 ∙ ap (λ (m : ℕ). get_or (sorted labels) m []) e ∙ n.is),
        )

    told_clash : (c : Option Three) → FirstThree (Clash S T (sorted labels)) c
        → ◌≡◌ {A = AgreeVerdict} (Ok (told_of order (places_of xs).start (clash_ranks (sorted labels) c))) (clash_told c)
    unfolding told_of clash_ranks
    told_clash none f = refl
    told_clash (some c) f =
        let a = place c.one f.0.in_one in
        let b = place c.two f.0.in_two in
        let d = place c.three f.0.in_three in
        rw (a.1, b.1, d.1) refl

    told_verdict : lacking S T labels 0 ≡ none
        → ◌≡◌ {A = AgreeVerdict} (Ok (told_of order (places_of xs).start (clash_ranks (sorted labels) (first_clash S T (sorted labels)))))
        (verdict_of xs (answer S T labels))
    told_verdict e =
        told_clash (first_clash S T (sorted labels)) (clash_found S T (sorted labels) (sorted_inc labels different)) ∙ sym (answer_clash e)

nodes_is : (t : Tree) (tree : TreeArrays) → tree ≡ arrays_of t → tree.nodes ≡ nodes_of t
unfolding arrays_of
nodes_is t tree d = ap (λ (q : TreeArrays). q.nodes) d

-- the arrays of a tree that was read, with leaf numbers by rank, for the tree that it stands for
ranked_read : (t : Tree) → Valid t → (tree : TreeArrays) → tree ≡ arrays_of t → (C : List Label) (leaf : List ℕ) → Numbered (decoded t) C leaf
    → RankedTree (decoded t) C tree.left tree.nodes leaf
ranked_read t v tree d C leaf n =
    record {
      proper = valid_decoded t v;
      children = ap (λ (q : TreeArrays). q.left) d ∙ sym (decoded_left t);
      size = nodes_is t tree d ∙ sym (decoded_nodes t);
      numbered = n;
    }

pub ranked_in : (e : Edition) (t : Tree) → ValidIn e t → (tree : TreeArrays) → tree ≡ arrays_of t → (C : List Label) (leaf : List ℕ)
    → Numbered (keyed e t) C leaf → RankedTree (keyed e t) C tree.left tree.nodes leaf
ranked_in e t v tree d = ranked_read (folded e t) (valid_folded e t v) tree (d ∙ sym (arrays_folded e t))

module _ (s t : Tree) (xs : List Token) (first second list : List ℕ) (one two : TreeArrays) (places : LabelPlaces)
    (g : AsRead s t xs first second list one two places) where
  count_is : places.count ≡ length xs
  unfolding places_of
  count_is = ap (λ (q : LabelPlaces). q.count) g.placed

  module _ (leaf1 leaf2 : List (Maybe ℕ)) (f1 : LeavesFound first one (label_in list places.start places.size) places.count leaf1)
      (f2 : LeavesFound second two (label_in list places.start places.size) places.count leaf2) (lack : Lacking)
      (e : lack ≡ lack_from leaf1 leaf2 places.start places.count 0) where
    l1 : LeavesOf s xs leaf1
    l1 = leaves_of s xs first list one places g.text1 g.tree1 g.listed g.placed leaf1 f1

    l2 : LeavesOf t xs leaf2
    l2 = leaves_of t xs second list two places g.text2 g.tree2 g.listed g.placed leaf2 f2

    own_lack : lack ≡ lack_from leaf1 leaf2 (places_of xs).start (length xs) 0
    own_lack =
        e
        ∙ ap (λ (q : LabelPlaces). lack_from leaf1 leaf2 q.start places.count 0) g.placed
        ∙ ap (λ (n : ℕ). lack_from leaf1 leaf2 (places_of xs).start n 0) count_is

    view : Lack s t xs g.valid1 g.valid2 g.different 0 (lacking (decoded s) (decoded t) (map spelling xs) 0)
        (lack_from leaf1 leaf2 (places_of xs).start (length xs) 0)
    view = lack_of s t xs g.valid1 g.valid2 g.different leaf1 leaf2 l1 l2 (length xs) 0 (omega arith)

    -- a label is lacking
    pub lacked : (e : Refusal) → lack ≡ Err e → ◌≡◌ {A = AgreeVerdict} (Err e) (verdict_of xs (answer (decoded s) (decoded t) (map spelling xs)))
    unfolding verdict_of
    lacked e is =
        go (lacking (decoded s) (decoded t) (map spelling xs) 0) refl
        (lack_from leaf1 leaf2 (places_of xs).start (length xs) 0) (sym is ∙ own_lack) view
      where
        go : (o : Option Answer) → lacking (decoded s) (decoded t) (map spelling xs) 0 ≡ o → (A : Lacking) → Err e ≡ A
            → Lack s t xs g.valid1 g.valid2 g.different 0 o A
            → ◌≡◌ {A = AgreeVerdict} (Err e) (verdict_of xs (answer (decoded s) (decoded t) (map spelling xs)))
        go o h A k (no_lack f) = absurd (let z : ◌≡◌ {A = ℕ} 0 1 = cc in omega arith)
        go o h A k (lack_first n) =
            let d : e ≡ record { reason = FirstLacks; body = K; place = place_of_number xs n } = cc in
            ap Err d ∙ sym (ap (verdict_of xs) (answer_by s t xs g.valid1 g.valid2 g.different (some (first_lacks n)) h))
        go o h A k (lack_second n) =
            let d : e ≡ record { reason = SecondLacks; body = K; place = place_of_number xs n } = cc in
            ap Err d ∙ sym (ap (verdict_of xs) (answer_by s t xs g.valid1 g.valid2 g.different (some (second_lacks n)) h))

    abbrev Held : Type 0
    Held =
        (lacking (decoded s) (decoded t) (map spelling xs) 0 ≡ none)
        × ((j : ℕ) → j < length xs
        → (holds (decoded s) (get_or (map spelling xs) j []) ≡ true) × (holds (decoded t) (get_or (map spelling xs) j []) ≡ true))

    held_all : lack ≡ Ok (Prim.tt {0}) → Held
    held_all all =
        go (lacking (decoded s) (decoded t) (map spelling xs) 0) refl
        (lack_from leaf1 leaf2 (places_of xs).start (length xs) 0) (sym all ∙ own_lack) view
      where
        go : (o : Option Answer) → lacking (decoded s) (decoded t) (map spelling xs) 0 ≡ o → (A : Lacking) → Ok (Prim.tt {0}) ≡ A
            → Lack s t xs g.valid1 g.valid2 g.different 0 o A → Held
        go o h A k (no_lack f) = (h, λ j l. f j (omega arith) l)
        go o h A k (lack_first n) = absurd (let z : ◌≡◌ {A = ℕ} 0 1 = cc in omega arith)
        go o h A k (lack_second n) = absurd (let z : ◌≡◌ {A = ℕ} 0 1 = cc in omega arith)

    -- no label is lacking: the search for a clash decides
    module _ (all : lack ≡ Ok (Prim.tt {0})) (order ranked1 ranked2 : List ℕ)
        (o : InOrder (rank_in list places.start places.size places.count) places.count places.count order)
        (w1 : (r : ℕ) → r < places.count → get_or ranked1 r 0 ≡ unwrap_or (get_or leaf1 (get_or order r 0) None) 0)
        (w2 : (r : ℕ) → r < places.count → get_or ranked2 r 0 ≡ unwrap_or (get_or leaf2 (get_or order r 0) None) 0) where
      shown : (k : ℕ) → k < length xs → label_in list places.start places.size k ≡ get_or (map spelling xs) k []
      shown k h =
          ap (λ (z : List ℕ). label_in z places.start places.size k) g.listed
          ∙ ap (λ (z : LabelPlaces). label_in (joined xs) z.start z.size k) g.placed
          ∙ label_at xs k h

      in_order : (r : ℕ) → r < length xs
          → (get_or order r 0 < length xs) × (get_or (map spelling xs) (get_or order r 0) [] ≡ get_or (sorted (map spelling xs)) r [])
      in_order r h =
          let n = length-map xs spelling in
          let p =
          order_sorted (map spelling xs) g.different list places.start places.size places.count (count_is ∙ sym n)
          (λ k l. shown k (omega (arith, n))) order o r (omega (arith, n)) in
          (omega (arith, n, p.0), p.1)

      ranked_first : RankedTree (decoded s) (sorted (map spelling xs)) one.left one.nodes ranked1
      ranked_first =
          ranked_read s g.valid1 one g.tree1 (sorted (map spelling xs)) ranked1
          (leaves_ranked s t xs g.valid1 g.valid2 g.different order in_order s g.valid1
          (λ j h. ((held_all all).1 j h).0) leaf1 ranked1 l1 (λ r h. w1 r (omega (arith, count_is))))

      ranked_second : RankedTree (decoded t) (sorted (map spelling xs)) two.left two.nodes ranked2
      ranked_second =
          ranked_read t g.valid2 two g.tree2 (sorted (map spelling xs)) ranked2
          (leaves_ranked s t xs g.valid1 g.valid2 g.different order in_order t g.valid2
          (λ j h. ((held_all all).1 j h).1) leaf2 ranked2 l2 (λ r h. w2 r (omega (arith, count_is))))

      pub compared_verdict : places.count ≤ 80 → (three : Maybe Ranked)
          → ((u v : Tree) (C : List Label) → increasing C ≡ true → places.count ≡ length C → places.count ≤ 80
          → RankedTree u C one.left one.nodes ranked1 → RankedTree v C two.left two.nodes ranked2
          → three ≡ clash_ranks C (first_clash u v C)) → (told : Maybe Ranked) → told ≡ told_of order places.start three
          → ◌≡◌ {A = AgreeVerdict} (Ok told) (verdict_of xs (answer (decoded s) (decoded t) (map spelling xs)))
      compared_verdict few three search told is =
          ap Ok (is
          ∙ ap (λ (q : LabelPlaces). told_of order q.start three) g.placed
          ∙ ap (told_of order (places_of xs).start)
          (search (decoded s) (decoded t) (sorted (map spelling xs)) (sorted_inc (map spelling xs) g.different)
          (count_is ∙ sym (length-map xs spelling) ∙ sym (length_sorted (map spelling xs))) few ranked_first ranked_second))
          ∙ told_verdict s t xs g.valid1 g.valid2 g.different order in_order (held_all all).0
