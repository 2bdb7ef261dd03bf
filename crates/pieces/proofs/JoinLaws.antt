-- The set is the required leaves joined with the sets of the pieces: one piece exchanged at a time. C-17. Assumes nothing.
use Prim.Native.Nat.{ℕ, zero, suc, ◌+◌, ◌-◌, ◌*◌}
use mathlib.Core.Path.{◌≡◌, refl, sym, ◌∙◌, ap, ap₂}
use mathlib.Core.Bool.{Bool, true, false, cond, ◌&&◌, ◌||◌}
use mathlib.Core.Logic.{◌⊎◌, inl, inr, ⊎_elim, ⊎_map}
use mathlib.Core.List.{List, [], ◌∷◌, ◌++◌}
use mathlib.Core.Option.{Option, some, none}
use native.Mathlib.Omega.{arith}
use lib.ListN.{length}
use Rattle.trees.specs.Label.{Label, same_label, label_less, is_in, distinct}
use Rattle.trees.specs.Tree.{Tree, leaves, normal}
use Rattle.trees.proofs.Bools.{bool_cases, clash, refute, and_left, and_right, and_intro, or_cases, or_inl, or_inr}
use Rattle.trees.proofs.LabelLaws.{same_refl, same_eq, eq_same, less_total}
use Rattle.trees.proofs.ListLaws
use Rattle.trees.proofs.ListLaws.{in_none, in_one_lem, in_one_eq, in_left, in_right, distinct_none}
use Rattle.agreement.specs.Closer.{Agree, Common}
use Rattle.agreement.specs.Restrict.{restrict}
use Rattle.agreement.specs.Sets.{sorted, keep, common, set_of, First}
use Rattle.agreement.specs.Answer.{largest_set}
use Rattle.agreement.specs.Demand.{Allowed, IsAnswer}
use Rattle.agreement.proofs.SetLaws.{in_nil, in_head, in_keep, keep_in, keep_inc, keep_set, inc_ext, test_ext, Within}
use Rattle.agreement.proofs.SetLaws.{common_inc, in_common, common_in}
use Rattle.agreement.proofs.RestrictLaws.{restrict_none, restrict_empty}
use Rattle.agreement.proofs.AnswerLaws.{agree_no_clash}
use Rattle.agreement.proofs.DemandLaws.{largest_answer, required_allowed, answer_unique}
use Rattle.pieces.specs.Pieces.{head_of, first_only, place_of, clades_of, hangs_at, HangsThere, hanging, Piece, listed}
use Rattle.pieces.specs.Pieces.{pieces_at, pieces_over, pieces, set_over, piece_set, joined_sets, PlacedSet, part_at, At, line_in}
use Rattle.pieces.proofs.PlaceLaws.{one_place_lem}
use Rattle.pieces.proofs.HangsAtLaws.{set_cases, hangs_true, hangs_there}
use Rattle.pieces.proofs.PartLaws.{parts_agree}
use Rattle.pieces.proofs.NearLaws.{Sits, head_required, sits}
use Rattle.pieces.proofs.NumberLaws.{place_number}
use Rattle.pieces.proofs.WithinLaws.{AnswerWithin, set_within}

-- the set M with its part in Z exchanged for F: the sizes of the four sets
count_four : (Z F M : Label → Bool) (C : List Label) → ((x : Label) → F x ≡ true → Z x ≡ true)
    → length (keep (λ x. cond (Z x) (F x) (M x)) C) + length (keep (λ x. Z x && M x) C) ≡ length (keep M C) + length (keep F C)
unfolding keep
count_four Z F M [] f = refl
count_four Z F M (x ∷ C) f = go (Z x) (F x) (M x) (f x) (count_four Z F M C f)
  where
    go : (z g m : Bool) → (g ≡ true → z ≡ true)
        → length (keep (λ y. cond (Z y) (F y) (M y)) C) + length (keep (λ y. Z y && M y) C) ≡ length (keep M C) + length (keep F C)
        → length (cond (cond z g m) (x ∷ keep (λ y. cond (Z y) (F y) (M y)) C) (keep (λ y. cond (Z y) (F y) (M y)) C))
        + length (cond (z && m) (x ∷ keep (λ y. Z y && M y) C) (keep (λ y. Z y && M y) C))
        ≡ length (cond m (x ∷ keep M C) (keep M C)) + length (cond g (x ∷ keep F C) (keep F C))
    go true true true h ih = omega arith
    go true true false h ih = omega arith
    go true false true h ih = omega arith
    go true false false h ih = omega arith
    go false true m h ih = clash refl (sym (h refl))
    go false false true h ih = omega arith
    go false false false h ih = omega arith

-- of two sets only one comes first
first_asym : (X Y : Label → Bool) → First X Y → First Y X → ⊥
first_asym X Y p q = go (less_total p.at q.at)
  where
    go : (label_less p.at q.at ≡ true) ⊎ ((p.at ≡ q.at) ⊎ (label_less q.at p.at ≡ true)) → ⊥
    go (inl l) = clash (q.smallest p.at l ∙ p.held) p.lacked
    go (inr (inl e)) = clash p.held (ap X e ∙ q.lacked)
    go (inr (inr l)) = clash (p.smallest q.at l ∙ q.held) q.lacked

first_only_lem : (q : List Label) → is_in (head_of q) q ≡ true → first_only q ≡ head_of q ∷ []
unfolding head_of first_only
first_only_lem [] h = in_nil _ h
first_only_lem (x ∷ q) h = refl

cond_true : (z f m : Bool) → z ≡ true → cond z f m ≡ f
cond_true true f m e = refl
cond_true false f m e = clash e refl

cond_false : (z f m : Bool) → z ≡ false → cond z f m ≡ m
cond_false true f m e = clash refl e
cond_false false f m e = refl

module _ (s t : Tree) (K : List Label) (ds : distinct (leaves s) ≡ true) (dt : distinct (leaves t) ≡ true) (dk : distinct K ≡ true)
    (held : Common s t (set_of K)) (agrees : Agree s t (set_of K)) where
  answer : IsAnswer s t K (largest_set s t K)
  answer =
      largest_answer s t K (sorted K) ds
      (required_allowed s t K dk held (agree_no_clash s t (set_of K) K agrees (λ x m. m)))

  -- a leaf of the set that is not required has one place
  answer_place : (x : Label) → is_in x (largest_set s t K) ≡ true → is_in x K ≡ false → place_of K s x ≡ place_of K t x
  answer_place =
      one_place_lem s t K (set_of (largest_set s t K)) ds dt answer.allowed_set.common_leaves answer.allowed_set.agreed
      answer.allowed_set.required

  -- a place q at which some leaf w hangs, and some required leaf y
  module _ (q : List Label) (w : Label) (wc : is_in w (common s t) ≡ true) (there : HangsThere s t K q w)
      (y : Label) (ky : is_in y K ≡ true) where
    abbrev M : List Label
    M = largest_set s t K

    -- the place's head and what hangs there, as a set
    abbrev in_z : Label → Bool
    in_z x = same_label x (head_of q) || hangs_at s t K q x

    -- and as the labels of the piece
    abbrev labels : List Label
    labels = first_only q ++ hanging s t K q

    seat : Sits s K w q
    seat = rw (← there.in_first) (sits K s w y ds (in_common s t w wc).0 ky (held y ky).0)

    only : first_only q ≡ head_of q ∷ []
    only = first_only_lem q seat.some

    head_z : in_z (head_of q) ≡ true
    head_z = or_inl (same_label (head_of q) (head_of q)) (hangs_at s t K q (head_of q)) (same_refl (head_of q))

    -- the only required label is the head
    required_head : (x : Label) → is_in x K ≡ true → in_z x ≡ true → x ≡ head_of q
    required_head x k z =
        ⊎_elim (λ (e : same_label x (head_of q) ≡ true). same_eq x (head_of q) e)
        (λ (h : hangs_at s t K q x ≡ true). clash k (hangs_there s t K q x h).outside)
        (or_cases (same_label x (head_of q)) (hangs_at s t K q x) z)

    other_hangs : (x : Label) → is_in x K ≡ false → in_z x ≡ true → HangsThere s t K q x
    other_hangs x n z =
        ⊎_elim
        (λ (e : same_label x (head_of q) ≡ true). clash (ap (λ (v : Label). is_in v K) (same_eq x (head_of q) e) ∙ head_required seat) n)
        (λ (h : hangs_at s t K q x ≡ true). hangs_there s t K q x h) (or_cases (same_label x (head_of q)) (hangs_at s t K q x) z)

    in_labels : (x : Label) → is_in x (common s t) ≡ true → in_z x ≡ true → is_in x labels ≡ true
    unfolding hanging
    in_labels x m z =
        ⊎_elim
        (λ (e : same_label x (head_of q) ≡ true).
        in_left x (first_only q) (hanging s t K q) (rw (only, same_eq x (head_of q) e) (in_one_lem (head_of q))))
        (λ (h : hangs_at s t K q x ≡ true). in_right x (first_only q) (hanging s t K q) (keep_in (hangs_at s t K q) x (common s t) m h))
        (or_cases (same_label x (head_of q)) (hangs_at s t K q x) z)

    labels_in : (x : Label) → is_in x labels ≡ true → in_z x ≡ true
    unfolding hanging
    labels_in x m =
        ⊎_elim
        (λ (k : is_in x (first_only q) ≡ true).
        or_inl (same_label x (head_of q)) (hangs_at s t K q x) (eq_same x (head_of q) (in_one_eq x (head_of q) (rw only at k))))
        (λ (k : is_in x (hanging s t K q) ≡ true).
        or_inr (same_label x (head_of q)) (hangs_at s t K q x) (in_keep (hangs_at s t K q) x (common s t) k).1)
        (ListLaws.in_cases x (first_only q) (hanging s t K q) m)

    -- the set's part in the piece
    abbrev in_mZ : Label → Bool
    in_mZ x = in_z x && is_in x M

    abbrev MZ : List Label
    MZ = keep in_mZ (common s t)

    mz_m : (x : Label) → is_in x MZ ≡ true → is_in x M ≡ true
    mz_m x m = and_right (in_z x) (is_in x M) (in_keep in_mZ x (common s t) m).1

    mz_z : (x : Label) → is_in x MZ ≡ true → in_z x ≡ true
    mz_z x m = and_left (in_z x) (is_in x M) (in_keep in_mZ x (common s t) m).1

    m_common : (x : Label) → is_in x M ≡ true → is_in x (common s t) ≡ true
    m_common x m = common_in s t x (answer.allowed_set.common_leaves x m).0 (answer.allowed_set.common_leaves x m).1

    in_mz : (x : Label) → in_z x ≡ true → is_in x M ≡ true → is_in x MZ ≡ true
    in_mz x z m = keep_in in_mZ x (common s t) (m_common x m) (and_intro (in_z x) (is_in x M) z m)

    mz_allowed : Allowed s t (first_only q) MZ
    mz_allowed = record {
      ordered = keep_inc in_mZ (common s t) (common_inc s t ds);
      required = λ x m.
          let e : x ≡ head_of q = in_one_eq x (head_of q) (rw only at m) in
          rw e (in_mz (head_of q) head_z (answer.allowed_set.required (head_of q) (head_required seat)));
      common_leaves = λ x m. in_common s t x (in_keep in_mZ x (common s t) m).0;
      agreed = λ a b c ma mb mc. answer.allowed_set.agreed a b c (mz_m a ma) (mz_m b mb) (mz_m c mc);
    }

    mz_within : Within MZ labels
    mz_within x m = in_labels x (in_keep in_mZ x (common s t) m).0 (mz_z x m)

    -- the set with this part exchanged for F
    module _ (F : List Label) (f : AnswerWithin s t (first_only q) labels F) where
      abbrev in_n : Label → Bool
      in_n x = cond (in_z x) (is_in x F) (is_in x M)

      abbrev N : List Label
      N = keep in_n (common s t)

      f_z : (x : Label) → is_in x F ≡ true → in_z x ≡ true
      f_z x m = labels_in x (f.within x m)

      f_common : (x : Label) → is_in x F ≡ true → is_in x (common s t) ≡ true
      f_common x m = common_in s t x (f.allowed_set.common_leaves x m).0 (f.allowed_set.common_leaves x m).1

      n_in : (x : Label) → is_in x N ≡ true → in_n x ≡ true
      n_in x m = (in_keep in_n x (common s t) m).1

      n_f : (x : Label) → is_in x N ≡ true → in_z x ≡ true → is_in x F ≡ true
      n_f x m z = sym (cond_true (in_z x) (is_in x F) (is_in x M) z) ∙ n_in x m

      n_m : (x : Label) → is_in x N ≡ true → in_z x ≡ false → is_in x M ≡ true
      n_m x m z = sym (cond_false (in_z x) (is_in x F) (is_in x M) z) ∙ n_in x m

      f_n : (x : Label) → is_in x F ≡ true → is_in x N ≡ true
      f_n x m = keep_in in_n x (common s t) (f_common x m) (cond_true (in_z x) (is_in x F) (is_in x M) (f_z x m) ∙ m)

      m_n : (x : Label) → is_in x M ≡ true → in_z x ≡ false → is_in x N ≡ true
      m_n x m z = keep_in in_n x (common s t) (m_common x m) (cond_false (in_z x) (is_in x F) (is_in x M) z ∙ m)

      head_f : is_in (head_of q) F ≡ true
      head_f = f.allowed_set.required (head_of q) (rw only (in_one_lem (head_of q)))

      n_required : (x : Label) → is_in x K ≡ true → is_in x N ≡ true
      n_required x k = go (bool_cases (in_z x))
        where
          go : (in_z x ≡ true) ⊎ (in_z x ≡ false) → is_in x N ≡ true
          go (inl z) = let e : x ≡ head_of q = required_head x k z in rw e (f_n (head_of q) head_f)
          go (inr z) = m_n x (answer.allowed_set.required x k) z

      n_place : (x : Label) → is_in x N ≡ true → is_in x K ≡ false → place_of K s x ≡ place_of K t x
      n_place x m n = go (bool_cases (in_z x))
        where
          go : (in_z x ≡ true) ⊎ (in_z x ≡ false) → place_of K s x ≡ place_of K t x
          go (inl z) = let h = other_hangs x n z in h.in_first ∙ sym h.in_second
          go (inr z) = answer_place x (n_m x m z) n

      n_placed : PlacedSet s t K (set_of N)
      n_placed = record {
        common_leaves = λ x m. in_common s t x (in_keep in_n x (common s t) m).0;
        required = n_required;
        one_place = n_place;
      }

      -- a part of it is a part of F or of the set
      n_part : (x : Label) → is_in x N ≡ true → is_in x K ≡ false → Agree s t (part_at s t K (set_of N) (place_of K s x))
      unfolding part_at
      n_part x m n = go (set_cases (place_of K s x) q)
        where
          in_f : (a : Label) → place_of K s x ≡ q → part_at s t K (set_of N) (place_of K s x) a ≡ true → is_in a F ≡ true
          in_f a e h =
              let k : part_at s t K (set_of N) q a ≡ true = ap (λ (p : List Label). part_at s t K (set_of N) p a) (sym e) ∙ h in
              n_f a (and_left (is_in a N) (in_z a) k) (and_right (is_in a N) (in_z a) k)

          head_x : is_in (head_of (place_of K s x)) K ≡ true
          head_x = head_required (sits K s x y ds (n_placed.common_leaves x m).0 ky (held y ky).0)

          in_m : (a : Label) → (place_of K s x ≡ q → ⊥) → part_at s t K (set_of N) (place_of K s x) a ≡ true → is_in a M ≡ true
          in_m a e h =
              ⊎_elim
              (λ (i : same_label a (head_of (place_of K s x)) ≡ true).
              answer.allowed_set.required a (ap (λ (v : Label). is_in v K) (same_eq a (head_of (place_of K s x)) i) ∙ head_x))
              (λ (i : hangs_at s t K (place_of K s x) a ≡ true).
              let l = hangs_there s t K (place_of K s x) a i in
              n_m a inside (refute (in_z a) (λ z. e (sym l.in_first ∙ (other_hangs a l.outside z).in_first))))
              (or_cases (same_label a (head_of (place_of K s x))) (hangs_at s t K (place_of K s x) a)
              (and_right (is_in a N) (same_label a (head_of (place_of K s x)) || hangs_at s t K (place_of K s x) a) h))
            where
              inside : is_in a N ≡ true
              inside = and_left (is_in a N) (same_label a (head_of (place_of K s x)) || hangs_at s t K (place_of K s x) a) h

          go : (place_of K s x ≡ q) ⊎ (place_of K s x ≡ q → ⊥) → Agree s t (part_at s t K (set_of N) (place_of K s x))
          go (inl e) = λ a b c pa pb pc. f.allowed_set.agreed a b c (in_f a e pa) (in_f b e pb) (in_f c e pc)
          go (inr e) = λ a b c pa pb pc. answer.allowed_set.agreed a b c (in_m a e pa) (in_m b e pb) (in_m c e pc)

      n_allowed : Allowed s t K N
      n_allowed = record {
        ordered = keep_inc in_n (common s t) (common_inc s t ds);
        required = n_required;
        common_leaves = n_placed.common_leaves;
        agreed = parts_agree s t K (set_of N) ds dt y ky n_placed agrees n_part;
      }

      counted : length N + length MZ ≡ length M + length F
      counted =
          count_four in_z (set_of F) (set_of M) (common s t) f_z
          ∙ ap₂ ◌+◌ (ap length (keep_set s t M ds answer.allowed_set.ordered answer.allowed_set.common_leaves))
          (ap length (keep_set s t F ds f.allowed_set.ordered f.allowed_set.common_leaves))

      same_size : (length N ≡ length M) × (length MZ ≡ length F)
      same_size = (
        omega (arith, counted, answer.largest_size N n_allowed, f.largest_size MZ mz_allowed mz_within),
        omega (arith, counted, answer.largest_size N n_allowed, f.largest_size MZ mz_allowed mz_within),
      )

      -- if F came before the part, the changed set would come before the set
      first_too : First (set_of F) (set_of MZ) → First (set_of N) (set_of M)
      first_too h = record {
        at = h.at;
        held = f_n h.at h.held;
        lacked = refute (is_in h.at M) (λ m. clash (in_mz h.at (f_z h.at h.held) m) h.lacked);
        smallest = λ z l. test_ext (is_in z N) (is_in z M) (there_m z l) (back_n z l);
      }
        where
          there_m : (z : Label) → label_less z h.at ≡ true → is_in z N ≡ true → is_in z M ≡ true
          there_m z l m = go (bool_cases (in_z z))
            where
              go : (in_z z ≡ true) ⊎ (in_z z ≡ false) → is_in z M ≡ true
              go (inl i) = mz_m z (sym (h.smallest z l) ∙ n_f z m i)
              go (inr i) = n_m z m i

          back_n : (z : Label) → label_less z h.at ≡ true → is_in z M ≡ true → is_in z N ≡ true
          back_n z l m = go (bool_cases (in_z z))
            where
              go : (in_z z ≡ true) ⊎ (in_z z ≡ false) → is_in z N ≡ true
              go (inl i) = f_n z (h.smallest z l ∙ in_mz z i m)
              go (inr i) = m_n z m i

      -- so F is the part
      pub part_is : F ≡ MZ
      part_is = go (f.first_of_size MZ mz_allowed mz_within same_size.1) (answer.first_of_size N n_allowed same_size.0)
        where
          go : (F ≡ MZ) ⊎ First (set_of F) (set_of MZ) → (M ≡ N) ⊎ First (set_of M) (set_of N) → F ≡ MZ
          go (inl e) k = e
          go (inr h) (inl e) =
              let i = first_too h in
              clash (ap (is_in i.at) e ∙ i.held) i.lacked
          go (inr h) (inr k) = absurd (first_asym (set_of N) (set_of M) (first_too h) k)

    -- the piece's set is the set's part
    piece_is : piece_set s t (record { required = first_only q; others = hanging s t K q }) ≡ MZ
    unfolding piece_set
    piece_is =
        part_is (set_over (restrict (set_of labels) s) (restrict (set_of labels) t) (first_only q))
        (set_within s t (first_only q) labels MZ w ds mz_allowed mz_within (in_labels w wc w_z)
        (in_common s t w wc).0 (in_common s t w wc).1)
      where
        w_z : in_z w ≡ true
        w_z =
            or_inr (same_label w (head_of q)) (hangs_at s t K q w) (hangs_true s t K w q there.outside there.in_first there.in_second)

    pub piece_in : (x : Label) → is_in x (piece_set s t (record { required = first_only q; others = hanging s t K q })) ≡ true
        → is_in x M ≡ true
    piece_in x m = mz_m x (ap (is_in x) (sym piece_is) ∙ m)

    pub in_piece : (x : Label) → hangs_at s t K q x ≡ true → is_in x M ≡ true
        → is_in x (piece_set s t (record { required = first_only q; others = hanging s t K q })) ≡ true
    in_piece x h m = ap (is_in x) piece_is ∙ in_mz x (or_inr (same_label x (head_of q)) (hangs_at s t K q x) h) m

  -- all places of a list
  module _ (y : Label) (ky : is_in y K ≡ true) where
    -- what a line adds
    joined_line : (q : List Label) (zs : List Label) (ps : List Piece) (x : Label) → hanging s t K q ≡ zs
        → is_in x (joined_sets s t (listed (first_only q) zs ps)) ≡ true
        → (is_in x (largest_set s t K) ≡ true) ⊎ (is_in x (joined_sets s t ps) ≡ true)
    unfolding listed joined_sets hanging
    joined_line q [] ps x e m = inr m
    joined_line q (z ∷ zs) ps x e m =
        ⊎_map here (λ (k : is_in x (joined_sets s t ps) ≡ true). k)
        (ListLaws.in_cases x (piece_set s t (record { required = first_only q; others = z ∷ zs })) (joined_sets s t ps) m)
      where
        zin : is_in z (keep (hangs_at s t K q) (common s t)) ≡ true
        zin = ap (is_in z) e ∙ in_head z zs

        here : is_in x (piece_set s t (record { required = first_only q; others = z ∷ zs })) ≡ true → is_in x (largest_set s t K) ≡ true
        here k =
            piece_in q z (in_keep (hangs_at s t K q) z (common s t) zin).0
            (hangs_there s t K q z (in_keep (hangs_at s t K q) z (common s t) zin).1) y ky x
            (ap (λ (l : List Label). is_in x (piece_set s t (record { required = first_only q; others = l }))) e ∙ k)

    joined_in : (qs : List (List Label)) (x : Label) → is_in x (joined_sets s t (pieces_at s t K qs)) ≡ true → is_in x (largest_set s t K) ≡ true
    unfolding pieces_at joined_sets
    joined_in [] x m = in_nil x m
    joined_in (q ∷ qs) x m =
        ⊎_elim (λ (k : is_in x (largest_set s t K) ≡ true). k) (joined_in qs x)
        (joined_line q (hanging s t K q) (pieces_at s t K qs) x refl m)

    line_first : (q : List Label) (zs : List Label) (ps : List Piece) (x : Label) → hanging s t K q ≡ zs → is_in x zs ≡ true
        → is_in x (piece_set s t (record { required = first_only q; others = hanging s t K q })) ≡ true
        → is_in x (joined_sets s t (listed (first_only q) zs ps)) ≡ true
    unfolding listed joined_sets
    line_first q [] ps x e i m = in_nil x i
    line_first q (z ∷ zs) ps x e i m =
        in_left x (piece_set s t (record { required = first_only q; others = z ∷ zs })) (joined_sets s t ps)
        (ap (λ (l : List Label). is_in x (piece_set s t (record { required = first_only q; others = l }))) (sym e) ∙ m)

    line_later : (r zs : List Label) (ps : List Piece) (x : Label) → is_in x (joined_sets s t ps) ≡ true
        → is_in x (joined_sets s t (listed r zs ps)) ≡ true
    unfolding listed joined_sets
    line_later r [] ps x m = m
    line_later r (z ∷ zs) ps x m = in_right x (piece_set s t (record { required = r; others = z ∷ zs })) (joined_sets s t ps) m

    in_joined : (qs : List (List Label)) (j : ℕ) (q : List Label) (x : Label) → At qs j q → hangs_at s t K q x ≡ true
        → is_in x (largest_set s t K) ≡ true → is_in x (joined_sets s t (pieces_at s t K qs)) ≡ true
    unfolding pieces_at hanging
    in_joined [] j q x a h m = absurd a
    in_joined (p ∷ qs) zero q x a h m =
        let i : is_in x (common s t) ≡ true =
        common_in s t x (answer.allowed_set.common_leaves x m).0 (answer.allowed_set.common_leaves x m).1 in
        let hp : hangs_at s t K p x ≡ true = ap (λ (l : List Label). hangs_at s t K l x) a ∙ h in
        line_first p (hanging s t K p) (pieces_at s t K qs) x refl (keep_in (hangs_at s t K p) x (common s t) i hp)
        (in_piece p x i (hangs_there s t K p x hp) y ky x hp m)
    in_joined (p ∷ qs) (suc j) q x a h m = line_later (first_only p) (hanging s t K p) (pieces_at s t K qs) x (in_joined qs j q x a h m)

    -- a leaf of the set that is not required is on the line of its place
    hangs_joined : (r : Tree) → restrict (set_of K) s ≡ some r → (x : Label) → is_in x (largest_set s t K) ≡ true → is_in x K ≡ false
        → is_in x (joined_sets s t (pieces_at s t K (clades_of (normal r)))) ≡ true
    hangs_joined r e x m n =
        in_joined (clades_of (normal r)) (line_in K s x (2 * length (leaves r) - 2)) (place_of K s x) x (place_number K s x r ds e)
        (hangs_true s t K x (place_of K s x) n refl (sym (answer_place x m n))) m

  -- a list J of the set's labels with all that are not required
  joined_list : (J : List Label) → ((x : Label) → is_in x J ≡ true → is_in x (largest_set s t K) ≡ true)
      → ((x : Label) → is_in x (largest_set s t K) ≡ true → is_in x K ≡ false → is_in x J ≡ true)
      → largest_set s t K ≡ keep (set_of (K ++ J)) (common s t)
  joined_list J f g =
      inc_ext (largest_set s t K) (keep (set_of (K ++ J)) (common s t)) answer.allowed_set.ordered
      (keep_inc (set_of (K ++ J)) (common s t) (common_inc s t ds)) there back
    where
      there : Within (largest_set s t K) (keep (set_of (K ++ J)) (common s t))
      there x m =
          keep_in (set_of (K ++ J)) x (common s t)
          (common_in s t x (answer.allowed_set.common_leaves x m).0 (answer.allowed_set.common_leaves x m).1)
          (⊎_elim (λ (k : is_in x K ≡ true). in_left x K J k) (λ (n : is_in x K ≡ false). in_right x K J (g x m n)) (bool_cases (is_in x K)))

      back : Within (keep (set_of (K ++ J)) (common s t)) (largest_set s t K)
      back x m =
          ⊎_elim (answer.allowed_set.required x) (f x) (ListLaws.in_cases x K J (in_keep (set_of (K ++ J)) x (common s t) m).1)

  -- some leaf is required
  joined_over : (y : Label) → is_in y K ≡ true → (o : Option Tree) → restrict (set_of K) s ≡ o
      → largest_set s t K ≡ keep (set_of (K ++ joined_sets s t (pieces_over s t K o))) (common s t)
  unfolding pieces_over
  joined_over y ky none e = clash (held y ky).0 (restrict_empty (set_of K) s e y ky)
  joined_over y ky (some r) e =
      joined_list (joined_sets s t (pieces_at s t K (clades_of (normal r)))) (joined_in y ky (clades_of (normal r))) (hangs_joined y ky r e)

-- no leaf is required: one piece, whose set is the set

module _ (s t : Tree) (ds : distinct (leaves s) ≡ true) (dt : distinct (leaves t) ≡ true) (held : Common s t (set_of []))
    (agrees : Agree s t (set_of [])) where
  whole : IsAnswer s t [] (largest_set s t [])
  whole = answer s t [] ds dt distinct_none held agrees

  in_whole : (Y : List Label) → Allowed s t [] Y → Within Y (common s t)
  in_whole Y h x m = common_in s t x (h.common_leaves x m).0 (h.common_leaves x m).1

  one_piece : (c : Label) → is_in c (common s t) ≡ true → piece_set s t (record { required = []; others = common s t }) ≡ largest_set s t []
  unfolding piece_set
  one_piece c m =
      let a = set_within s t [] (common s t) (largest_set s t []) c ds whole.allowed_set
      (in_whole (largest_set s t []) whole.allowed_set) m (in_common s t c m).0 (in_common s t c m).1 in
      answer_unique s t [] _ (largest_set s t [])
      (record {
        allowed_set = a.allowed_set;
        largest_size = λ Y h. a.largest_size Y h (in_whole Y h);
        first_of_size = λ Y h. a.first_of_size Y h (in_whole Y h);
      }) whole

  joined_whole : (zs : List Label) → common s t ≡ zs
      → largest_set s t [] ≡ keep (set_of ([] ++ joined_sets s t (listed [] zs []))) (common s t)
  unfolding listed joined_sets
  joined_whole [] e =
      joined_list s t [] ds dt distinct_none held agrees [] (λ x m. in_nil x m)
      (λ x m n. ap (is_in x) (sym e) ∙ in_whole (largest_set s t []) whole.allowed_set x m)
  joined_whole (c ∷ cs) e =
      joined_list s t [] ds dt distinct_none held agrees (piece_set s t (record { required = []; others = c ∷ cs }) ++ [])
      (λ x m. ⊎_elim (λ (k : is_in x (piece_set s t (record { required = []; others = c ∷ cs })) ≡ true). ap (is_in x) (sym is) ∙ k)
      (λ (k : is_in x [] ≡ true). in_nil x k) (ListLaws.in_cases x (piece_set s t (record { required = []; others = c ∷ cs })) [] m))
      (λ x m n. in_left x (piece_set s t (record { required = []; others = c ∷ cs })) [] (ap (is_in x) is ∙ m))
    where
      is : piece_set s t (record { required = []; others = c ∷ cs }) ≡ largest_set s t []
      is =
          ap (λ (l : List Label). piece_set s t (record { required = []; others = l })) (sym e)
          ∙ one_piece c (ap (is_in c) e ∙ in_head c cs)

-- without required leaves nothing is left of the first tree
pub restrict_unasked : (s : Tree) → restrict (set_of []) s ≡ none
restrict_unasked s = restrict_none (set_of []) s (λ x h. in_none x)

pub unasked_pieces : (s t : Tree) → pieces s t [] ≡ listed [] (common s t) []
unfolding pieces pieces_over
unasked_pieces s t = rw (restrict_unasked s)

-- "The engine's set is the required leaves joined with the sets it gives for the pieces, each with its one required label"
pub set_by_pieces : (s t : Tree) (K : List Label) → distinct (leaves s) ≡ true → distinct (leaves t) ≡ true → distinct K ≡ true
    → Common s t (set_of K) → Agree s t (set_of K)
    → largest_set s t K ≡ keep (set_of (K ++ joined_sets s t (pieces s t K))) (common s t)
unfolding pieces pieces_over
set_by_pieces s t [] ds dt dk held agrees = rw (restrict_unasked s) (joined_whole s t ds dt held agrees (common s t) refl)
set_by_pieces s t (k ∷ K) ds dt dk held agrees =
    joined_over s t (k ∷ K) ds dt dk held agrees k (in_head k K) (restrict (set_of (k ∷ K)) s) refl
