-- Number 8 by ranks: the three required labels that clash first, and where they stand in the list. Assumes nothing.
use Prim.Native.Nat.{ℕ, suc, ◌-◌, ◌<◌, ◌≤◌}
use mathlib.Core.Path.{◌≡◌, refl, sym, ◌∙◌, ap, subst}
use mathlib.Core.Bool.{true}
use mathlib.Core.List.{List, [], map}
use mathlib.Core.Option.{Option, some, none}
use native.Mathlib.Omega.{arith}
use lib.ListN.{length, get_or, length-map}
use Rattle.trees.specs.declared.TreeArrays.{TreeArrays}
use Rattle.trees.specs.Label.{Label, is_in, distinct}
use Rattle.trees.specs.Token.{Token, spelling}
use Rattle.trees.specs.Tree.{Tree, leaves, decoded}
use Rattle.trees.specs.Arrays.{arrays_of}
use Rattle.trees.proofs.DecodedLaws.{decoded_nodes, decoded_left}
use Rattle.trees.proofs.TokenLaws.{valid_decoded}
use Rattle.lists.specs.declared.LabelPlaces.{LabelPlaces}
use Rattle.agreement.specs.Sets.{increasing, sorted, common}
use Rattle.agreement.specs.Answer.{Three, first_clash, answer, disagree, largest, largest_set}
use Rattle.agreement.specs.Demand.{Clash}
use Rattle.agreement.specs.Places.{place_of_label, place_in, token_in}
use Rattle.agreement.proofs.SetLaws.{in_sorted, length_sorted, sorted_inc, inc_distinct, number_of}
use Rattle.agreement.proofs.AnswerLaws.{FirstThree}
use Rattle.agreement.proofs.DemandLaws.{required_clash, clash_answer, set_answered}
use Rattle.leaves.specs.Numbered.{LeafIs}
use Rattle.std.specs.Prelude.{Option as Maybe, Some, None}
use Rattle.std.proofs.lemmas.Option.{none-some}
use Rattle.triples.specs.declared.Indices as Ranks
use Rattle.triples.specs.Clash.{rank_of, clash_ranks, RankedTree}
use Rattle.triples.proofs.Ranks.{place_of}
use Rattle.triples.proofs.RowLaws.{rank_at}
use Rattle.pairs.specs.declared.CommonOrder.{CommonOrder}
use Rattle.mast.specs.declared.NamedLabel.{NamedLabel}
use Rattle.mast.specs.ListMarks.{ranks_from, Entries, Nameable, named_at}
use Rattle.queries.specs.RankedList.{RankedArrays, AskedOf}
use Rattle.pairs.proofs.RankLaws.{proper_nodes}
use Rattle.pairs.proofs.LeafPlaces.{own_start, own_size}
use Rattle.mast.proofs.RequiredLaws.{rank_label, rank_low, ranks_count}

label_is : (a b c p q r : ℕ) → a ≡ p → b ≡ q → c ≡ r
    → ◌≡◌ {A = NamedLabel} (record { place = a; start = b; size = c }) (record { place = p; start = q; size = r })
label_is a b c p q r e f g = rw (e, f, g) refl

-- a label of the list by its rank among the marked ones
pub record PlacedAt (K : List Token) (x : Label) (starts number ranks : List ℕ) (i : ℕ) : Type 0 where
  pub small : i < 80
  pub rank_small : get_or ranks i 0 < 81
  pub some_number : 0 < get_or number (get_or ranks i 0) 0
  pub number_small : get_or number (get_or ranks i 0) 0 ≤ 80
  pub place : get_or starts (get_or number (get_or ranks i 0) 0 - 1) 0 ≡ place_of_label K 0 x

module _ (s t : Tree) (K : List Token) (tree1 tree2 : TreeArrays) (order : CommonOrder) (number : List ℕ)
    (places : LabelPlaces) (h : AskedOf s t K tree1 tree2 order number places) (ranks : List ℕ)
    (entries : Entries (ranks_from number 0 order.count) ranks) where
  abbrev C : List Label
  C = common (decoded s) (decoded t)

  abbrev L : List Label
  L = map spelling K

  count_map : length (map spelling K) ≡ length K
  count_map = length-map K spelling

  R-is : ranks_from number 0 order.count ≡ ranks_from number 0 (length (common (decoded s) (decoded t)))
  R-is = ap (ranks_from number 0) h.asked.one.count

  abbrev ds : distinct (leaves (decoded s)) ≡ true
  ds = (valid_decoded s h.asked.one.valid).different

  rank_count : length (ranks_from number 0 order.count) ≡ length L
  rank_count =
      ap (length {A = ℕ}) R-is
      ∙ ranks_count (decoded s) (decoded t) L number ds h.asked.different h.asked.held h.asked.marked

  -- the rank among the common labels of required label i
  common_rank : (i : ℕ) → i < length L → (get_or ranks i 0 < length C) × (get_or C (get_or ranks i 0) [] ≡ get_or (sorted L) i [])
  common_rank i l =
      let e : get_or ranks i 0 ≡ get_or (ranks_from number 0 (length C)) i 0 =
      entries.each i (omega (arith, rank_count)) ∙ ap (λ (xs : List ℕ). get_or xs i 0) R-is in
      rw e (
        rank_low (decoded s) (decoded t) L number ds h.asked.different h.asked.held h.asked.marked i l,
        rank_label (decoded s) (decoded t) L number ds h.asked.different h.asked.held h.asked.marked i l,
      )

  sorted_distinct : distinct (sorted L) ≡ true
  sorted_distinct = inc_distinct (sorted L) (sorted_inc L h.asked.different)

  pub placed_at : (x : Label) → is_in x L ≡ true → PlacedAt K x places.start number ranks (rank_of (sorted L) x)
  placed_at x k =
      let i = number_of (sorted L) x (in_sorted x L ∙ k) in
      let n = number_of L x k in
      let low : i.at < length L = omega (arith, i.below, length_sorted L) in
      let r = common_rank i.at low in
      let is : get_or C (get_or ranks i.at 0) [] ≡ get_or L n.at [] = r.1 ∙ i.is ∙ sym n.is in
      let mark = h.asked.marked.held (get_or ranks i.at 0) n.at r.0 n.below is in
      let rank : rank_of (sorted L) x ≡ i.at = ap (rank_of (sorted L)) (sym i.is) ∙ rank_at (sorted L) i.at sorted_distinct i.below in
      let few = h.asked.few in
      rw rank (record {
        small = omega (arith, count_map);
        rank_small = omega (arith, r.0, h.asked.one.count, h.asked.one.few);
        some_number = omega (arith, mark);
        number_small = omega (arith, mark, n.below, count_map);
        place = rw mark (placed n.at x (omega (arith, n.below, count_map)) n.is);
      })
    where
      placed : (n : ℕ) (x : Label) → n < length K → get_or L n [] ≡ x → get_or places.start (suc n - 1) 0 ≡ place_of_label K 0 x
      placed n x l e =
          let z : suc n - 1 ≡ n = omega arith in
          rw (z, h.list_places) (place_of K n h.asked.different l ∙ ap (place_of_label K 0) e)

  rank_below : (x : Label) → is_in x L ≡ true → rank_of (sorted L) x < length L
  rank_below x k =
      let i = number_of (sorted L) x (in_sorted x L ∙ k) in
      let rank : rank_of (sorted L) x ≡ i.at = ap (rank_of (sorted L)) (sym i.is) ∙ rank_at (sorted L) i.at sorted_distinct i.below in
      omega (arith, rank, i.below, length_sorted L)

  module _ (leaf1 leaf2 : List ℕ) (three : Maybe Ranks.Indices)
      (at1 : (i : ℕ) → i < places.count → i < 80 → get_or leaf1 i 0 ≡ get_or order.first (get_or ranks i 0) 0)
      (at2 : (i : ℕ) → i < places.count → i < 80 → get_or leaf2 i 0 ≡ get_or order.second (get_or ranks i 0) 0)
      (told : (s t : Tree) (xs : List Label) → increasing xs ≡ true → places.count ≡ length xs → places.count ≤ 80
      → RankedTree s xs tree1.left tree1.nodes leaf1 → RankedTree t xs tree2.left tree2.nodes leaf2
      → three ≡ clash_ranks xs (first_clash s t xs)) where
    ranked : (v : Tree) (tree : TreeArrays) (nodes leaf : List ℕ) → RankedArrays v C tree nodes order.count
        → ((i : ℕ) → i < places.count → i < 80 → get_or leaf i 0 ≡ get_or nodes (get_or ranks i 0) 0)
        → RankedTree (decoded v) (sorted L) tree.left tree.nodes leaf
    unfolding arrays_of
    ranked v tree nodes leaf r at = record {
      proper = valid_decoded v r.valid;
      children = ap (λ q. q.left) r.arrays_is ∙ sym (decoded_left v);
      size = ap (λ q. q.nodes) r.arrays_is ∙ sym (decoded_nodes v);
      numbered = λ i l.
          let low : i < length L = omega (arith, length_sorted L) in
          let q = common_rank i low in
          rw (
            at i (omega (arith, h.asked.count_is, count_map)) (omega (arith, h.asked.few, count_map)),
            ← q.1,
          ) (r.numbered (get_or ranks i 0) q.0);
    }

    -- the first three that clash, if any do
    abbrev found : Option Three
    found = first_clash (decoded s) (decoded t) (sorted L)

    is_found : FirstThree (Clash (decoded s) (decoded t) L) (first_clash (decoded s) (decoded t) (sorted L))
    is_found = required_clash (decoded s) (decoded t) L h.asked.different

    three_found : three ≡ clash_ranks (sorted L) (first_clash (decoded s) (decoded t) (sorted L))
    three_found =
        told (decoded s) (decoded t) (sorted L) (sorted_inc L h.asked.different)
        (omega (arith, h.asked.count_is, length_sorted L, count_map))
        (omega (arith, h.asked.count_is, h.asked.few)) (ranked s tree1 order.first leaf1 h.asked.one at1)
        (ranked t tree2 order.second leaf2 h.asked.two at2)

    -- none
    pub none_clash : three ≡ None → (X : List Label) × (answer (decoded s) (decoded t) L ≡ largest X)
    unfolding clash_ranks
    none_clash l = go (first_clash (decoded s) (decoded t) (sorted L)) refl
      where
        go : (o : Option Three) → first_clash (decoded s) (decoded t) (sorted L) ≡ o
            → (X : List Label) × (answer (decoded s) (decoded t) L ≡ largest X)
        go none e =
            (largest_set (decoded s) (decoded t) L, set_answered (decoded s) (decoded t) L ds h.asked.different h.asked.held (subst (FirstThree (Clash (decoded s) (decoded t) L)) e is_found))
        go (some r) e = absurd (none-some _ (sym l ∙ three_found ∙ ap (clash_ranks (sorted L)) e))

    -- or some
    module _ (q : Ranks.Indices) (is : three ≡ Some q) where
      pub some_clash : (r : Three) × FirstThree (Clash (decoded s) (decoded t) L) (some r)
          × (q ≡ record { first = rank_of (sorted L) r.one; second = rank_of (sorted L) r.two; third = rank_of (sorted L) r.three })
      unfolding clash_ranks
      some_clash = go (first_clash (decoded s) (decoded t) (sorted L)) refl
        where
          go : (o : Option Three) → first_clash (decoded s) (decoded t) (sorted L) ≡ o
              → (r : Three) × FirstThree (Clash (decoded s) (decoded t) L) (some r)
              × (q ≡ record { first = rank_of (sorted L) r.one; second = rank_of (sorted L) r.two; third = rank_of (sorted L) r.three })
          go none e = absurd (none-some q (sym (sym is ∙ three_found ∙ ap (clash_ranks (sorted L)) e)))
          go (some r) e =
              let f = sym is ∙ three_found ∙ ap (clash_ranks (sorted L)) e in
              let g : q ≡ record { first = rank_of (sorted L) r.one; second = rank_of (sorted L) r.two; third = rank_of (sorted L) r.three } = cc in
              (r, subst (FirstThree (Clash (decoded s) (decoded t) L)) e is_found, g)

      abbrev r : Three
      r = some_clash.0

      abbrev first_three : FirstThree (Clash (decoded s) (decoded t) L) (some r)
      first_three = some_clash.1

      abbrev three_is : q ≡ record { first = rank_of (sorted L) r.one; second = rank_of (sorted L) r.two; third = rank_of (sorted L) r.three }
      three_is = some_clash.2

      pub named : answer (decoded s) (decoded t) L ≡ disagree r.one r.two r.three
      named = clash_answer (decoded s) (decoded t) L ds h.asked.different h.asked.held r first_three

      -- the leaf of each in the first tree
      leaf_of : (x : Label) → is_in x L ≡ true → LeafIs (decoded s) (get_or leaf1 (rank_of (sorted L) x) 0) x
      leaf_of x k =
          let i = number_of (sorted L) x (in_sorted x L ∙ k) in
          let rank : rank_of (sorted L) x ≡ i.at = ap (rank_of (sorted L)) (sym i.is) ∙ rank_at (sorted L) i.at sorted_distinct i.below in
          let l = (ranked s tree1 order.first leaf1 h.asked.one at1).numbered i.at i.below in
          rw rank (subst (λ (y : Label). LeafIs (decoded s) (get_or leaf1 i.at 0) y) i.is l)

      named_of : (x : Label) (i : ℕ) → i ≡ rank_of (sorted L) x → is_in x L ≡ true
          → Nameable number ranks leaf1 i × (named_at places.start number ranks tree1.start tree1.size leaf1 i
          ≡ record { place = place_of_label K 0 x; start = place_in s 0 x; size = length (token_in s x) })
      named_of x i e k =
          let p = placed_at x k in
          let l = leaf_of x k in
          let v = h.asked.one.valid in
          let a = h.asked.one.arrays_is in
          rw e (
            record {
              small = p.small;
              rank_small = p.rank_small;
              some_number = p.some_number;
              number_small = p.number_small;
              leaf_small = omega (arith, l.below, proper_nodes (decoded s) (valid_decoded s v));
            },
            label_is _ _ _ _ _ _ p.place (ap (λ q. get_or q.start (get_or leaf1 (rank_of (sorted L) x) 0) 0) a ∙ own_start s v _ x l)
                (ap (λ q. get_or q.size (get_or leaf1 (rank_of (sorted L) x) 0) 0) a ∙ own_size s v _ x l),
          )

      pub first_named : Nameable number ranks leaf1 q.first × (named_at places.start number ranks tree1.start tree1.size leaf1 q.first
          ≡ record { place = place_of_label K 0 r.one; start = place_in s 0 r.one; size = length (token_in s r.one) })
      first_named = named_of r.one q.first (ap (λ z. z.first) three_is) first_three.0.in_one

      pub second_named : Nameable number ranks leaf1 q.second × (named_at places.start number ranks tree1.start tree1.size leaf1 q.second
          ≡ record { place = place_of_label K 0 r.two; start = place_in s 0 r.two; size = length (token_in s r.two) })
      second_named = named_of r.two q.second (ap (λ z. z.second) three_is) first_three.0.in_two

      pub third_named : Nameable number ranks leaf1 q.third × (named_at places.start number ranks tree1.start tree1.size leaf1 q.third
          ≡ record { place = place_of_label K 0 r.three; start = place_in s 0 r.three; size = length (token_in s r.three) })
      third_named = named_of r.three q.third (ap (λ z. z.third) three_is) first_three.0.in_three
