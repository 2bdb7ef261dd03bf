-- The list that is stored for two trees whose required labels agree is that of their pieces. C-17. Assumes nothing.
use Prim.Native.Nat.{ℕ, zero, suc, ◌+◌, ◌-◌, ◌*◌, ◌<◌, ◌≤◌, min}
use mathlib.Core.Path.{◌≡◌, refl, sym, ◌∙◌, ap, ap₂, subst}
use mathlib.Core.Bool.{Bool, true, false, cond, not, ◌&&◌}
use mathlib.Core.Logic.{◌⊎◌, inl, inr}
use mathlib.Core.List.{List, [], ◌∷◌, map}
use mathlib.Core.Option.{some}
use native.Mathlib.Omega.{arith}
use lib.Dec.{eqb}
use lib.ListN.{length, get_or, length-map}
use lib.Seq.{take-length}
use borrow.Author.Tests.{eqb-true, eq-eqb}
use Rattle.std.specs.Prelude.{Option, None}
use Rattle.trees.specs.declared.TreeArrays.{TreeArrays}
use Rattle.trees.specs.Label.{Label, is_in, distinct}
use Rattle.trees.specs.Tree.{Tree, leaf, node, leaves, normal}
use Rattle.trees.proofs.Bools.{bool_cases, and_left, and_right}
use Rattle.trees.proofs.ListLaws.{at_in, in_none}
use Rattle.trees.proofs.RelabelLaws.{map_at}
use Rattle.agreement.specs.Closer.{holds, Agree, Common}
use Rattle.agreement.specs.Restrict.{restrict}
use Rattle.agreement.specs.Sets.{keep, common, set_of}
use Rattle.agreement.proofs.SetLaws.{in_nil, in_head, in_common, common_in, common_inc, inc_distinct, keep_in, keep_few}
use Rattle.agreement.proofs.Tells.{common_few}
use Rattle.table.specs.Choice.{Given, Posed}
use Rattle.pieces.specs.Pieces.{head_of, first_only, place_of, clades_of, hanging, Piece, listed, pieces_at, pieces_over, pieces, total, At}
use Rattle.pieces.specs.Pieces.{required_in, number_below, line_in}
use Rattle.pieces.specs.Items.{items_of, no_item}
use Rattle.pieces.proofs.CladesLaws.{at_index, index_at, at_same, place_in}
use Rattle.pieces.proofs.NumberLaws.{required_count, required_tree, required_places, places_numbered, hanging_by_number}
use Rattle.pieces.proofs.JoinLaws.{unasked_pieces}
use Rattle.pieces.proofs.TotalLaws.{total_few}
use Rattle.pieces.proofs.ItemLaws.{items_count}
use Rattle.places.specs.Nodes.{TreeRanks, RankNumbers, rank_among, line_at, HeadOn, no_leaf, leaf_there, LinesByRank}
use Rattle.places.specs.Marks.{line_marks, marks_to, ListHolds}
use Rattle.places.specs.declared.Mark.{Mark}
use Rattle.places.specs.declared.PieceList.{PieceList}
use Rattle.places.specs.PieceRanks.{PieceRanks, no_mark}
use Rattle.places.proofs.RankLaws.{marked_rank, rank_own}
use Rattle.places.proofs.TopLaws.{top_head, top_none}
use Rattle.places.proofs.LineLaws.{line_test, line_cases}
use Rattle.places.proofs.MarkLaws.{Shows, shows_length, shows_at, HeadFits, fits_none, fits_one, line_shows}
use Rattle.places.proofs.MarkLaws.{listed_all, no_piece, lines_show, marks_rest}

-- both trees with their ranks, from the query

module _ {s t : Tree} {K : List Label} {tree1 tree2 : TreeArrays} {rank1 rank2 : List ℕ} {m : ℕ} {number : List ℕ} {count : ℕ}
    (posed : Posed s t K tree1 tree2 rank1 rank2 m number count) where
  pub ranks_few : length (common s t) ≤ 80
  ranks_few = common_few s t posed.one.proper

  required_in_lem : (x : Label) → is_in x K ≡ true → is_in x (common s t) ≡ true
  required_in_lem x k = common_in s t x (posed.required x k).0 (posed.required x k).1

  common_once : distinct (common s t) ≡ true
  common_once = inc_distinct (common s t) (common_inc s t posed.one.proper.different)

  pub required_few : length K ≤ 80
  required_few =
      omega (
        arith,
        ranks_few,
        required_count K (common s t) posed.different common_once required_in_lem,
        keep_few (set_of K) (common s t),
      )

  ranked : (v : Tree) (tree : TreeArrays) (rank : List ℕ) → Given v (common s t) tree rank
      → ((x : Label) → is_in x (common s t) ≡ true → holds v x ≡ true) → (n : ℕ) → n ≡ length (common s t)
      → TreeRanks v (common s t) K tree rank n number
  ranked v tree rank given held n e = record {
    proper = given.proper;
    nodes_are = given.nodes_are;
    left_are = given.left_are;
    right_are = given.right_are;
    ranked = given.ranked;
    marked = posed.marked;
    all = e;
    few = ranks_few;
    ordered = common_inc s t posed.one.proper.different;
    required_few = required_few;
    within = required_in_lem;
    held = held;
  }

  -- how many ranks are looked at
  pub all_ranks : (n : ℕ) → n ≡ min m 80 → n ≡ length (common s t)
  all_ranks n e = omega (arith, ranks_few, posed.all)

  pub ranked_first : (n : ℕ) → n ≡ min m 80 → TreeRanks s (common s t) K tree1 rank1 n number
  ranked_first n e = ranked s tree1 rank1 posed.one (λ x k. (in_common s t x k).0) n (all_ranks n e)

  pub ranked_second : (n : ℕ) → n ≡ min m 80 → TreeRanks t (common s t) K tree2 rank2 n number
  ranked_second n e = ranked t tree2 rank2 posed.two (λ x k. (in_common s t x k).1) n (all_ranks n e)

-- a place with required leaves has one head
head_fits : (C : List Label) (h : ℕ) (q : List Label) → (q ≡ [] → ⊥) → h < length C → get_or C h [] ≡ head_of q → HeadFits C h (first_only q)
unfolding head_of first_only
head_fits C h [] n l e = absurd (n refl)
head_fits C h (x ∷ q) n l e = fits_one l e

-- all places, also those without leaf
piece_for : Tree → Tree → List Label → List Label → Piece
piece_for s t K q = record { required = first_only q; others = hanging s t K q }

pieces_listed : (s t : Tree) (K : List Label) (qs : List (List Label)) → pieces_at s t K qs ≡ listed_all (map (piece_for s t K) qs)
unfolding pieces_at listed_all piece_for
pieces_listed s t K [] = refl
pieces_listed s t K (q ∷ qs) = ap (listed (first_only q) (hanging s t K q)) (pieces_listed s t K qs)

-- no leaf is required: one line, with number 0 and without head

keep_unasked : (xs : List Label) → keep (set_of []) xs ≡ []
unfolding keep is_in
keep_unasked [] = refl
keep_unasked (x ∷ xs) = keep_unasked xs

many_unasked : (t : Tree) → required_in [] t ≡ 0
unfolding required_in
many_unasked t = ap length (keep_unasked (leaves t))

line_unasked : (K : List Label) → ((v : Tree) → required_in K v ≡ 0) → (t : Tree) (x : Label) (n : ℕ) → line_in K t x n ≡ n
unfolding line_in number_below
line_unasked K bare (leaf y) x n = refl
line_unasked K bare (node p q) x n =
    rw (bare p, bare q) (go (holds p x) (line_unasked K bare p x n) (line_unasked K bare q x n))
  where
    go : (b : Bool) → line_in K p x n ≡ n → line_in K q x n ≡ n → cond b (line_in K p x n) (line_in K q x n) ≡ n
    go true f g = f
    go false f g = g

keep_all : (xs : List Label) → keep (λ x. true) xs ≡ xs
unfolding keep
keep_all [] = refl
keep_all (x ∷ xs) = ap (◌∷◌ x) (keep_all xs)

module _ (s t : Tree) (K : List Label) (tree1 tree2 : TreeArrays) (rank1 rank2 : List ℕ) (n : ℕ) (number : List ℕ)
    (one : TreeRanks s (common s t) K tree1 rank1 n number) (two : TreeRanks t (common s t) K tree2 rank2 n number)
    (dk : distinct K ≡ true) (required : Common s t (set_of K)) (agree : Agree s t (set_of K))
    (line1 line2 tops tops2 : List ℕ) (ranks1 : RankNumbers s (common s t) K line1 tops)
    (ranks2 : RankNumbers t (common s t) K line2 tops2) (line : List ℕ) (heads : List (Option ℕ)) (lines : LinesByRank n number line1 line2 tops line heads) where
  abbrev C : List Label
  C = common s t

  abbrev N : ℕ
  N = 2 * length K - 2

  module _ (r : ℕ) (h : r < length C) where
    marked : eqb (get_or number r 0) 0 ≡ not (is_in (get_or C r []) K)
    marked =
        let e : rank_among C (get_or C r []) ≡ r = rank_own one r h in
        subst (λ (i : ℕ). eqb (get_or number i 0) 0 ≡ not (is_in (get_or C r []) K)) e
        (marked_rank one (get_or C r []) (at_in C r h) (bool_cases (is_in (get_or C r []) K)))

    line_is : get_or line r 0 ≡ line_at (get_or number r 0) (line_in K s (get_or C r []) N) (line_in K t (get_or C r []) N)
    line_is = lines.each r (omega (arith, one.all)) ∙ ap₂ (line_at (get_or number r 0)) (ranks1.line_is r h) (ranks2.line_is r h)

  head_on : (j : ℕ) → j < 160 → HeadOn (length C) line tops j (get_or heads j None)
  head_on j h = subst (λ (i : ℕ). HeadOn i line tops j (get_or heads j None)) one.all (lines.head_on j h)

  -- past the places there is no line
  rest_empty : (L : ℕ) → ((r : ℕ) → r < length C → line_in K s (get_or C r []) N < L) → L ≤ 159 → (j : ℕ) → L ≤ j → j < 159
      → (h : Option ℕ) → HeadOn (length C) line tops j h → line_marks line (length C) j h ≡ []
  unfolding line_marks
  rest_empty L f l j a b h (no_leaf e g) = rw e refl
  rest_empty L f l j a b h (leaf_there r k e d) =
      absurd (go (line_cases (get_or number r 0) (line_in K s (get_or C r []) N) (line_in K t (get_or C r []) N) (omega (arith, f r k))))
    where
      go : (line_at (get_or number r 0) (line_in K s (get_or C r []) N) (line_in K t (get_or C r []) N) ≡ line_in K s (get_or C r []) N)
          ⊎ (line_at (get_or number r 0) (line_in K s (get_or C r []) N) (line_in K t (get_or C r []) N) ≡ 159) → ⊥
      go (inl i) = omega (arith, f r k, line_is r k, i, e)
      go (inr i) = omega (arith, line_is r k, i, e)

  -- all lines, from each
  all_lines : (ps : List Piece) → length ps ≤ 159 → ((r : ℕ) → r < length C → line_in K s (get_or C r []) N < length ps)
      → ((j : ℕ) → j < length ps
      → Shows C (line_marks line (length C) j (get_or heads j None)) (items_of (listed (get_or ps j no_piece).required (get_or ps j no_piece).others [])))
      → Shows C (marks_to line heads (length C) 159) (items_of (listed_all ps))
  all_lines ps l f each =
      let e : marks_to line heads (length C) 159 ≡ marks_to line heads (length C) (length ps) =
      marks_rest C line heads (length C) (159 - length ps) (length ps) 159 (omega arith)
      (λ j a b. rest_empty (length ps) f l j a b (get_or heads j None) (head_on j (omega arith))) in
      rw e
      (subst (λ (qs : List Piece). Shows C (marks_to line heads (length C) (length ps)) (items_of (listed_all qs))) (take-length ps)
      (lines_show C line heads (length C) ps each (length ps) (omega arith)))

  -- some leaf is required

  module _ (y : Label) (ky : is_in y K ≡ true) (r : Tree) (is : restrict (set_of K) s ≡ some r) where
    abbrev ds : distinct (leaves s) ≡ true
    ds = one.proper.different

    abbrev dt : distinct (leaves t) ≡ true
    dt = two.proper.different

    abbrev qs : List (List Label)
    qs = clades_of (normal r)

    places : length qs + 1 ≡ 2 * length K
    places = required_places s t K r ds dt dk required agree is

    number_below_lem : (x : Label) → line_in K s x N < length qs
    number_below_lem x = (at_index qs (line_in K s x N) (place_of K s x) (places_numbered s t K r ds dt dk required agree is x).0).0

    -- the test of line j
    on : ℕ → Label → Bool
    on j x = not (is_in x K) && (eqb (line_in K s x N) j && eqb (line_in K t x N) j)

    test : (j : ℕ) → j < length qs → (i : ℕ) → i < length C → eqb (get_or line i 0) j ≡ on j (get_or C i [])
    unfolding on
    test j hj i h =
        ap (λ (k : ℕ). eqb k j) (line_is i h)
        ∙ line_test (get_or number i 0) (line_in K s (get_or C i []) N) (line_in K t (get_or C i []) N) j (is_in (get_or C i []) K) (marked i h)
        (omega (arith, number_below_lem (get_or C i []), places, one.required_few)) (omega (arith, places, one.required_few))

    some_required : 1 ≤ required_in K s
    unfolding required_in holds
    some_required = go (keep (set_of K) (leaves s)) (keep_in (set_of K) y (leaves s) (required y ky).0 ky)
      where
        go : (l : List Label) → is_in y l ≡ true → 1 ≤ length l
        go [] h = in_nil y h
        go (x ∷ l) h = omega arith

    fits : (j : ℕ) (q : List Label) → At qs j q → j < length qs → (i : ℕ) → i < length C → get_or line i 0 ≡ j
        → HeadFits C (get_or tops i 0) (first_only q)
    unfolding on
    fits j q at hj i h e =
        let x : Label = get_or C i [] in
        let a : Bool = eqb (line_in K s x N) j in
        let b : Bool = eqb (line_in K t x N) j in
        let hangs : on j x ≡ true = sym (test j hj i h) ∙ eq-eqb (get_or line i 0) j e in
        let same : line_in K s x N ≡ j = eqb-true (line_in K s x N) j (and_left a b (and_right (not (is_in x K)) (a && b) hangs)) in
        let place : place_of K s x ≡ q =
        at_same qs j (place_of K s x) q
        (subst (λ (k : ℕ). At qs k (place_of K s x)) same (places_numbered s t K r ds dt dk required agree is x).0) at in
        let top = top_head C K one.few one.ordered one.within s x ds some_required in
        let p = place_in (normal r) j q at in
        head_fits C (get_or tops i 0) q (λ z. in_nil p.one (ap (is_in p.one) (sym z) ∙ p.member))
        (omega (arith, ranks1.top_is i h, top.0)) (ap (λ (k : ℕ). get_or C k []) (ranks1.top_is i h) ∙ top.1 ∙ ap head_of place)

    each : (j : ℕ) → j < length (map (piece_for s t K) qs)
        → Shows C (line_marks line (length C) j (get_or heads j None))
        (items_of (listed (get_or (map (piece_for s t K) qs) j no_piece).required (get_or (map (piece_for s t K) qs) j no_piece).others []))
    unfolding piece_for on
    each j h =
        let hj : j < length qs = omega (arith, length-map qs (piece_for s t K)) in
        let q : List Label = get_or qs j [] in
        let at : At qs j q = index_at qs j hj in
        let e : get_or (map (piece_for s t K) qs) j no_piece ≡ piece_for s t K q = map_at (piece_for s t K) qs j [] no_piece hj in
        let by : hanging s t K q ≡ keep (on j) C = hanging_by_number s t K r ds dt dk required agree is j q at in
        rw (e, by)
        (line_shows C line tops one.few j (on j) (test j hj) (get_or heads j None) (first_only q) (head_on j (omega (arith, places, one.required_few)))
        (fits j q at hj))

    pub pieces_shown_lem : Shows C (marks_to line heads (length C) 159) (items_of (pieces s t K))
    unfolding pieces pieces_over
    pieces_shown_lem =
        rw (is, pieces_listed s t K qs)
        (all_lines (map (piece_for s t K) qs) (omega (arith, length-map qs (piece_for s t K), places, one.required_few))
        (λ i h. omega (arith, length-map qs (piece_for s t K), number_below_lem (get_or C i []))) each)

  -- no leaf is required

  module _ (bare : (v : Tree) → required_in K v ≡ 0) (out : (x : Label) → is_in x K ≡ false) (zero-many : length K ≡ 0) where
    whole_test : (i : ℕ) → i < length C → eqb (get_or line i 0) 0 ≡ true
    whole_test i h =
        let x : Label = get_or C i [] in
        let a : line_in K s x N ≡ 0 = line_unasked K bare s x N ∙ omega arith in
        let b : line_in K t x N ≡ 0 = line_unasked K bare t x N ∙ omega arith in
        ap (λ (k : ℕ). eqb k 0) (line_is i h)
        ∙ line_test (get_or number i 0) (line_in K s x N) (line_in K t x N) 0 false (marked i h ∙ ap not (out x)) (omega arith) (omega arith)
        ∙ (rw (a, b) refl)

    whole_each : (j : ℕ) → j < 1
        → Shows C (line_marks line (length C) j (get_or heads j None))
        (items_of
        (listed (get_or (record { required = []; others = C } ∷ []) j no_piece).required (get_or (record { required = []; others = C } ∷ []) j no_piece).others
        []))
    whole_each (suc j) h = absurd (omega arith)
    whole_each zero h =
        subst (λ (l : List Label). Shows C (line_marks line (length C) 0 (get_or heads 0 None)) (items_of (listed [] l []))) (keep_all C)
        (line_shows C line tops one.few 0 (λ x. true) whole_test (get_or heads 0 None) [] (head_on 0 (omega arith))
        (λ i l e.
        fits_none (ranks1.top_is i l ∙ top_none C K one.few one.ordered one.within s (get_or C i []) one.proper.different (bare s))))

    whole_shown : Shows C (marks_to line heads (length C) 159) (items_of (listed [] C []))
    unfolding listed_all
    whole_shown =
        all_lines (record { required = []; others = C } ∷ []) (omega arith)
        (λ i h. omega (arith, line_unasked K bare s (get_or C i []) N)) whole_each

  shown_for : (k : List Label) → K ≡ k → Shows C (marks_to line heads (length C) 159) (items_of (pieces s t K))
  shown_for [] e =
      subst (λ (ps : List Piece). Shows C (marks_to line heads (length C) 159) (items_of ps))
      (sym (ap (pieces s t) e ∙ unasked_pieces s t))
      (whole_shown (λ v. ap (λ (k : List Label). required_in k v) e ∙ many_unasked v) (λ x. ap (is_in x) e ∙ in_none x) (ap length e))
  shown_for (y ∷ ys) e =
      let ky : is_in y K ≡ true = ap (is_in y) e ∙ in_head y ys in
      let r = required_tree K s y ky (required y ky).0 in
      pieces_shown_lem y ky r.0 r.1

  pub all_shown : Shows C (marks_to line heads (length C) 159) (items_of (pieces s t K))
  all_shown = shown_for K refl

-- the stored list is that of the pieces
module _ {s t : Tree} {K : List Label} {tree1 tree2 : TreeArrays} {rank1 rank2 : List ℕ} {m : ℕ} {number : List ℕ} {count : ℕ}
    (posed : Posed s t K tree1 tree2 rank1 rank2 m number count) (agree : Agree s t (set_of K)) (n : ℕ) (n_is : n ≡ min m 80)
    (line1 line2 tops tops2 line : List ℕ) (heads : List (Option ℕ))
    (first : (v : Tree) (C k : List Label) → TreeRanks v C k tree1 rank1 n number → count ≡ length k → RankNumbers v C k line1 tops)
    (second : (v : Tree) (C k : List Label) → TreeRanks v C k tree2 rank2 n number → count ≡ length k → RankNumbers v C k line2 tops2)
    (lines : LinesByRank n number line1 line2 tops line heads) where
  shown : Shows (common s t) (marks_to line heads n 159) (items_of (pieces s t K))
  shown =
      let one = ranked_first posed n n_is in
      let two = ranked_second posed n n_is in
      rw (all_ranks posed n n_is)
      (all_shown s t K tree1 tree2 rank1 rank2 n number one two posed.different posed.required agree line1 line2 tops tops2
      (first s (common s t) K one posed.count_is) (second t (common s t) K two posed.count_is) line heads lines)

  pub pieces_stored : (list : PieceList) → ListHolds list (marks_to line heads n 159) → PieceRanks s t K list
  pieces_stored list h = record {
    count_is = many;
    common_rank = λ i l. subst (λ (m : Mark). m.rank < length (common s t)) (sym (h.item_is i l)) (at i l).0;
    label_is = λ i l. ap (λ (m : Mark). get_or (common s t) m.rank []) (h.item_is i l) ∙ (at i l).1;
    head_is = λ i l. ap (λ (m : Mark). m.head) (h.item_is i l) ∙ (at i l).2;
  }
    where
      marks : length (marks_to line heads n 159) ≡ total (pieces s t K)
      marks = shows_length shown ∙ items_count (pieces s t K)

      many : list.count ≡ total (pieces s t K)
      many =
          omega (
            arith,
            h.count_is,
            marks,
            total_few s t K posed.one.proper.different posed.different posed.required (ranks_few posed),
          )

      at : (i : ℕ) → i < list.count
          → ((get_or (marks_to line heads n 159) i no_mark).rank < length (common s t))
          × (get_or (common s t) (get_or (marks_to line heads n 159) i no_mark).rank [] ≡ (get_or (items_of (pieces s t K)) i no_item).label)
          × ((get_or (marks_to line heads n 159) i no_mark).head ≡ (get_or (items_of (pieces s t K)) i no_item).head)
      at i l = shows_at shown i (omega (arith, marks, many))
