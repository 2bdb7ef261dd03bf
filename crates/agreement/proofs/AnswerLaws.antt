-- What the parts of the definition of the answer give: the first three that clash, the test of agreement, the allowed sets and
-- the first of the greatest length. Assumes nothing.
use Prim.Native.Nat.{◌≤◌, ◌<◌}
use mathlib.Core.Path.{◌≡◌, refl, sym, ◌∙◌, ap, subst, subst₂}
use mathlib.Core.Bool.{Bool, true, false, cond, ◌&&◌, ◌||◌}
use mathlib.Core.Logic.{◌⊎◌, inl, inr, ⊎_elim, ⊎_map, Ne-symm, ◌↔◌}
use mathlib.Core.Option.{Option, some, none}
use mathlib.Core.List.{List, [], ◌∷◌}
use mathlib.Core.List.Memᴰ.{head as among-head}
use mathlib.Core.List.Memᴰ.{tail as among-tail}
use mathlib.Core.List.{Memᴰ as Among}
use mathlib.Core.List.Memᴰ.{cases_cons as among_cases}
use mathlib.Core.List.Memᴰ.{not-nil as among-nil}
use native.Mathlib.Omega.{arith}
use lib.Dec.{ltb}
use lib.ListN.{length}
use borrow.Author.Tests.{ltb-true, ltb-false}
use Rattle.trees.specs.Label.{Label, label_less, is_in}
use Rattle.trees.specs.Tree.{Tree}
use Rattle.trees.proofs.Bools.{clash, and_left, and_right, and_intro, refute, or_none_left, or_none_right}
use Rattle.trees.proofs.LabelLaws.{less_trans, less_ne, less_total}
use Rattle.agreement.specs.Closer.{closer, Agree}
use Rattle.agreement.specs.Sets.{increasing, set_of, all_in, First}
use Rattle.agreement.specs.Answer.{differ, clashing, Three, or_else, clash_with_two, clash_with_one, first_clash, agree_on}
use Rattle.agreement.specs.Answer.{allowed, longest, first_longest}
use Rattle.agreement.specs.Demand.{Before3, by_first, by_second, by_third, as_well, Clash}
use Rattle.agreement.proofs.CloserLaws.{closer_swap}
use Rattle.agreement.proofs.SetLaws.{in_nil, in_head, in_tail, in_cases, Within, inc_head, inc_tail, inc_later, Ordered}

-- the test of three labels

differ_same : (a b : Bool) → differ a b ≡ false → a ≡ b
unfolding differ
differ_same true true h = refl
differ_same true false h = h
differ_same false b h = sym h

same_differ : (a b : Bool) → a ≡ b → differ a b ≡ false
unfolding differ
same_differ true true e = refl
same_differ true false e = e
same_differ false b e = sym e

-- the first of some threes, or none where there is none

abbrev pub FirstThree : (Label → Label → Label → Type 0) → Option Three → Type 0
FirstThree P none = (x y z : Label) → P x y z → ⊥
FirstThree P (some r) =
    P r.one r.two r.three × ((x y z : Label) → P x y z → Before3 r.one r.two r.three x y z)

pub first_map : (P R : Label → Label → Label → Type 0) (o : Option Three) → ((x y z : Label) → P x y z → R x y z)
    → ((x y z : Label) → R x y z → P x y z) → FirstThree P o → FirstThree R o
first_map P R none f g h = λ x y z m. h x y z (g x y z m)
first_map P R (some r) f g h = (f r.one r.two r.three h.0, λ x y z m. h.1 x y z (g x y z m))

first_else : (P Q R : Label → Label → Label → Type 0) (o p : Option Three) → FirstThree P o → FirstThree Q p
    → ((x y z : Label) → R x y z → P x y z ⊎ Q x y z) → ((x y z : Label) → P x y z → R x y z) → ((x y z : Label) → Q x y z → R x y z)
    → ((a b c x y z : Label) → P a b c → Q x y z → Before3 a b c x y z) → FirstThree R (or_else o p)
unfolding or_else
first_else P Q R none none f g split l r before = λ x y z m. ⊎_elim (f x y z) (g x y z) (split x y z m)
first_else P Q R none (some q) f g split l r before = (
  r q.one q.two q.three g.0,
  λ x y z m. ⊎_elim (λ (k : P x y z). absurd (f x y z k)) (g.1 x y z) (split x y z m),
)
first_else P Q R (some p) q f g split l r before = (
  l p.one p.two p.three f.0,
  λ x y z m. ⊎_elim (f.1 x y z) (before p.one p.two p.three x y z f.0) (split x y z m),
)

before_second : (a b c x y z : Label) → a ≡ x → label_less b y ≡ true → Before3 a b c x y z
before_second a b c x y z e l = subst (λ (u : Label). Before3 a b c u y z) e (by_second l)

before_third : (a b c x y z : Label) → a ≡ x → b ≡ y → label_less c z ≡ true → Before3 a b c x y z
before_third a b c x y z e d l = subst₂ (λ (u v : Label). Before3 a b c u v z) e d (by_third l)

before_same : (a b c x y z : Label) → a ≡ x → b ≡ y → c ≡ z → Before3 a b c x y z
before_same a b c x y z e d f =
    subst (λ (w : Label). Before3 a b c x y w) f (subst₂ (λ (u v : Label). Before3 a b c u v c) e d as_well)

passes : Option Three → Bool
passes none = true
passes (some r) = false

module _ (s t : Tree) where
  -- the two trees have the same closer pairs of these three
  abbrev pub Alike : Label → Label → Label → Type 0
  Alike a b c = (closer s a b c ≡ closer t a b c) × (closer s a c b ≡ closer t a c b) × (closer s b c a ≡ closer t b c a)

  pub alike : (a b c : Label) → clashing s t a b c ≡ false → Alike a b c
  unfolding clashing
  alike a b c h = (
    differ_same (closer s a b c) (closer t a b c) (or_none_left x (y || z) h),
    differ_same (closer s a c b) (closer t a c b) (or_none_left y z (or_none_right x (y || z) h)),
    differ_same (closer s b c a) (closer t b c a) (or_none_right y z (or_none_right x (y || z) h)),
  )
    where
      x : Bool
      x = differ (closer s a b c) (closer t a b c)

      y : Bool
      y = differ (closer s a c b) (closer t a c b)

      z : Bool
      z = differ (closer s b c a) (closer t b c a)

  pub alike_passes : (a b c : Label) → Alike a b c → clashing s t a b c ≡ false
  unfolding clashing
  alike_passes a b c h =
      rw (same_differ (closer s a b c) (closer t a b c) h.0, same_differ (closer s a c b) (closer t a c b) h.1)
      (same_differ (closer s b c a) (closer t b c a) h.2)

  -- the threes with both a and b, and with a
  abbrev ClashTwo : Label → Label → List Label → Label → Label → Label → Type 0
  ClashTwo a b xs x y z = (x ≡ a) × (y ≡ b) × (is_in z xs ≡ true) × (clashing s t x y z ≡ true)

  abbrev ClashOne : Label → List Label → Label → Label → Label → Type 0
  ClashOne a xs x y z =
      (x ≡ a) × (is_in y xs ≡ true) × (is_in z xs ≡ true) × (label_less y z ≡ true) × (clashing s t x y z ≡ true)

  two_found : (a b : Label) (xs : List Label) → increasing xs ≡ true
      → FirstThree (ClashTwo a b xs) (clash_with_two s t a b xs)
  unfolding clash_with_two
  two_found a b [] h = λ x y z m. in_nil z m.2
  two_found a b (c ∷ xs) h = go (clashing s t a b c) refl (two_found a b xs (inc_tail c xs h))
    where
      narrower : clashing s t a b c ≡ false → (x y z : Label) → ClashTwo a b (c ∷ xs) x y z → ClashTwo a b xs x y z
      narrower n x y z (e, d, k, l) = (e, d, ⊎_elim here (λ (i : is_in z xs ≡ true). i) (in_cases z c xs k), l)
        where
          here : z ≡ c → is_in z xs ≡ true
          here f = clash l (cc)

      first : (x y z : Label) → ClashTwo a b (c ∷ xs) x y z → Before3 a b c x y z
      first x y z m =
          ⊎_elim (λ (e : z ≡ c). before_same a b c x y z (sym m.0) (sym m.1) (sym e))
          (λ (k : is_in z xs ≡ true). before_third a b c x y z (sym m.0) (sym m.1) (inc_head c xs h z k)) (in_cases z c xs m.2)

      go : (d : Bool) → clashing s t a b c ≡ d → FirstThree (ClashTwo a b xs) (clash_with_two s t a b xs)
          → FirstThree (ClashTwo a b (c ∷ xs)) (cond d (some (record { one = a; two = b; three = c })) (clash_with_two s t a b xs))
      go true d ih = ((refl, refl, in_head c xs, d), first)
      go false d ih =
          first_map (ClashTwo a b xs) (ClashTwo a b (c ∷ xs)) (clash_with_two s t a b xs)
          (λ x y z m. (m.0, m.1, in_tail z c xs m.2, m.3)) (narrower d) ih

  one_found : (a : Label) (xs : List Label) → increasing xs ≡ true → FirstThree (ClashOne a xs) (clash_with_one s t a xs)
  unfolding clash_with_one
  one_found a [] h = λ x y z m. in_nil z m.2
  one_found a (b ∷ xs) h =
      first_else (ClashTwo a b xs) (ClashOne a xs) (ClashOne a (b ∷ xs)) (clash_with_two s t a b xs) (clash_with_one s t a xs)
      (two_found a b xs (inc_tail b xs h)) (one_found a xs (inc_tail b xs h)) split
      (λ x y z m. (m.0, subst (λ (w : Label). is_in w (b ∷ xs) ≡ true) (sym m.1) (in_head b xs), in_tail z b xs m.2, rw m.1 (inc_head b xs h z m.2), m.3))
      (λ x y z m. (m.0, in_tail y b xs m.1, in_tail z b xs m.2, m.3, m.4))
      (λ u v w x y z m k. before_second u v w x y z (m.0 ∙ sym k.0) (rw m.1 (inc_head b xs h y k.1)))
    where
      split : (x y z : Label) → ClashOne a (b ∷ xs) x y z → ClashTwo a b xs x y z ⊎ ClashOne a xs x y z
      split x y z m =
          let k : is_in z xs ≡ true = inc_later b xs h y z m.3 m.1 m.2 in
          ⊎_map (λ (e : y ≡ b). (m.0, e, k, m.4)) (λ (i : is_in y xs ≡ true). (m.0, i, k, m.3, m.4)) (in_cases y b xs m.1)

  pub clash_within : (K L : List Label) → Within K L → (x y z : Label) → Clash s t K x y z → Clash s t L x y z
  clash_within K L f x y z m = record {
    in_one = f x m.in_one;
    in_two = f y m.in_two;
    in_three = f z m.in_three;
    one_two = m.one_two;
    two_three = m.two_three;
    differs = m.differs;
  }

  -- of labels in label order it finds the first three that clash, and none only where there is none
  pub clash_found : (X : List Label) → increasing X ≡ true → FirstThree (Clash s t X) (first_clash s t X)
  unfolding first_clash
  clash_found [] h = λ x y z m. in_nil z m.in_three
  clash_found (a ∷ xs) h =
      first_else (ClashOne a xs) (Clash s t xs) (Clash s t (a ∷ xs)) (clash_with_one s t a xs) (first_clash s t xs)
      (one_found a xs (inc_tail a xs h)) (clash_found xs (inc_tail a xs h)) split one
      (clash_within xs (a ∷ xs) (λ x m. in_tail x a xs m))
      (λ u v w x y z m k. by_first {x = x} (rw m.0 (inc_head a xs h x k.in_one)))
    where
      split : (x y z : Label) → Clash s t (a ∷ xs) x y z → ClashOne a xs x y z ⊎ Clash s t xs x y z
      split x y z m = ⊎_map (λ (e : x ≡ a). (e, second, third, m.two_three, m.differs)) rest (in_cases x a xs m.in_one)
        where
          second : is_in y xs ≡ true
          second = inc_later a xs h x y m.one_two m.in_one m.in_two

          third : is_in z xs ≡ true
          third = inc_later a xs h y z m.two_three m.in_two m.in_three

          rest : is_in x xs ≡ true → Clash s t xs x y z
          rest k = record { in_one = k; in_two = second; in_three = third; one_two = m.one_two; two_three = m.two_three; differs = m.differs }

      one : (x y z : Label) → ClashOne a xs x y z → Clash s t (a ∷ xs) x y z
      one x y z m = record {
        in_one = subst (λ (w : Label). is_in w (a ∷ xs) ≡ true) (sym m.0) (in_head a xs);
        in_two = in_tail y a xs m.1;
        in_three = in_tail z a xs m.2;
        one_two = rw m.0 (inc_head a xs h y m.1);
        two_three = m.3;
        differs = m.4;
      }

  -- agreement as a test

  -- trees without a clash on a set agree on it, in whatever order three labels are taken
  pub no_clash_agree : (X : List Label) → ((x y z : Label) → Clash s t X x y z → ⊥) → Agree s t (set_of X)
  no_clash_agree X none' a b c p q r ab ac bc = go (less_total a b)
    where
      three : (x y z : Label) → is_in x X ≡ true → is_in y X ≡ true → is_in z X ≡ true → label_less x y ≡ true → label_less y z ≡ true
          → Alike x y z
      three x y z i j k l m =
          alike x y z
          (refute (clashing s t x y z)
          (λ d. none' x y z (record { in_one = i; in_two = j; in_three = k; one_two = l; two_three = m; differs = d })))

      pair : (x y : Label) → is_in x X ≡ true → is_in y X ≡ true → label_less x y ≡ true → (x ≡ c → ⊥) → (y ≡ c → ⊥)
          → closer s x y c ≡ closer t x y c
      pair x y i j l xc yc = place (less_total x c) (less_total y c)
        where
          place : (label_less x c ≡ true) ⊎ ((x ≡ c) ⊎ (label_less c x ≡ true)) → (label_less y c ≡ true) ⊎ ((y ≡ c) ⊎ (label_less c y ≡ true))
              → closer s x y c ≡ closer t x y c
          place u (inl v) = (three x y c i j r l v).0
          place u (inr (inl v)) = absurd (yc v)
          place (inl u) (inr (inr v)) = (three x c y i r j u v).1
          place (inr (inl u)) (inr (inr v)) = absurd (xc u)
          place (inr (inr u)) (inr (inr v)) = (three c x y r i j u l).2

      go : (label_less a b ≡ true) ⊎ ((a ≡ b) ⊎ (label_less b a ≡ true)) → closer s a b c ≡ closer t a b c
      go (inl l) = pair a b p q l ac bc
      go (inr (inl e)) = absurd (ab e)
      go (inr (inr l)) = closer_swap s a b c ∙ pair b a q p l bc ac ∙ closer_swap t b a c

  pub agree_no_clash : (X : Label → Bool) (K : List Label) → Agree s t X → ((x : Label) → is_in x K ≡ true → X x ≡ true)
      → (x y z : Label) → Clash s t K x y z → ⊥
  agree_no_clash X K g f x y z m =
      clash m.differs
      (alike_passes x y z (g x y z p q r xy xz yz, g x z y p r q xz xy (Ne-symm yz), g y z x q r p yz (Ne-symm xy) (Ne-symm xz)))
    where
      p : X x ≡ true
      p = f x m.in_one

      q : X y ≡ true
      q = f y m.in_two

      r : X z ≡ true
      r = f z m.in_three

      xy : x ≡ y → ⊥
      xy = less_ne x y m.one_two

      yz : y ≡ z → ⊥
      yz = less_ne y z m.two_three

      xz : x ≡ z → ⊥
      xz = less_ne x z (less_trans x y z m.one_two m.two_three)

  agree_on_passes : (X : List Label) → agree_on s t X ≡ passes (first_clash s t X)
  unfolding agree_on passes
  agree_on_passes X = go (first_clash s t X)
    where
      go : (o : Option Three) → ◌≡◌ {A = Bool} (elim o [ none ↦ true | some c ↦ false ]) (passes o)
      go none = refl
      go (some r) = refl

  -- the test passes exactly if the trees agree on the set
  pub agree_on_agree : (X : List Label) → increasing X ≡ true → agree_on s t X ≡ true → Agree s t (set_of X)
  unfolding passes
  agree_on_agree X h p = no_clash_agree X (go (first_clash s t X) (clash_found X h) (sym (agree_on_passes X) ∙ p))
    where
      go : (o : Option Three) → FirstThree (Clash s t X) o → passes o ≡ true → (x y z : Label) → Clash s t X x y z → ⊥
      go none f q = f
      go (some r) f q = clash q refl

  pub agree_agree_on : (X : List Label) → increasing X ≡ true → Agree s t (set_of X) → agree_on s t X ≡ true
  unfolding passes
  agree_agree_on X h g = agree_on_passes X ∙ go (first_clash s t X) (clash_found X h)
    where
      go : (o : Option Three) → FirstThree (Clash s t X) o → passes o ≡ true
      go none f = refl
      go (some r) f = absurd (agree_no_clash (set_of X) X g (λ x m. m) r.one r.two r.three f.0)

  pub agree_on_exactly : (X : List Label) → increasing X ≡ true → (agree_on s t X ≡ true) ↔ Agree s t (set_of X)
  agree_on_exactly X h = (agree_on_agree X h, agree_agree_on X h)

  -- fewer than three labels agree
  pub small_agree : (X : List Label) → length X ≤ 2 → agree_on s t X ≡ true
  unfolding agree_on
  small_agree [] h = refl
  small_agree (x ∷ []) h = refl
  small_agree (x ∷ y ∷ []) h = refl
  small_agree (x ∷ y ∷ z ∷ X) h = absurd (omega arith)

  -- the allowed sets among the lists

  pub allowed_in : (K : List Label) (Xs : List (List Label)) (X : List Label) → Among X (allowed s t K Xs)
      → Among X Xs × (all_in K X ≡ true) × (agree_on s t X ≡ true)
  unfolding allowed
  allowed_in K [] X m = absurd (among-nil m)
  allowed_in K (Y ∷ Xs) X m = go (all_in K Y && agree_on s t Y) refl m (allowed_in K Xs X)
    where
      later : Among X Xs × (all_in K X ≡ true) × (agree_on s t X ≡ true) → Among X (Y ∷ Xs) × (all_in K X ≡ true) × (agree_on s t X ≡ true)
      later p = (among-tail p.0, p.1, p.2)

      here : all_in K Y && agree_on s t Y ≡ true → X ≡ Y → Among X (Y ∷ Xs) × (all_in K X ≡ true) × (agree_on s t X ≡ true)
      here h e = (
        among-head e,
        ap (all_in K) e ∙ and_left (all_in K Y) (agree_on s t Y) h,
        ap (agree_on s t) e ∙ and_right (all_in K Y) (agree_on s t Y) h,
      )

      go : (b : Bool) → all_in K Y && agree_on s t Y ≡ b → Among X (cond b (Y ∷ allowed s t K Xs) (allowed s t K Xs))
          → (Among X (allowed s t K Xs) → Among X Xs × (all_in K X ≡ true) × (agree_on s t X ≡ true))
          → Among X (Y ∷ Xs) × (all_in K X ≡ true) × (agree_on s t X ≡ true)
      go true h k ih = ⊎_elim (here h) (λ (l : Among X (allowed s t K Xs)). later (ih l)) (among_cases k)
      go false h k ih = later (ih k)

  pub in_allowed : (K : List Label) (Xs : List (List Label)) (X : List Label) → Among X Xs → all_in K X ≡ true
      → agree_on s t X ≡ true → Among X (allowed s t K Xs)
  unfolding allowed
  in_allowed K [] X m p q = absurd (among-nil m)
  in_allowed K (Y ∷ Xs) X m p q = go (all_in K Y && agree_on s t Y) refl (among_cases m) (λ k. in_allowed K Xs X k p q)
    where
      go : (b : Bool) → all_in K Y && agree_on s t Y ≡ b → (X ≡ Y) ⊎ Among X Xs → (Among X Xs → Among X (allowed s t K Xs))
          → Among X (cond b (Y ∷ allowed s t K Xs) (allowed s t K Xs))
      go true h (inl e) ih = among-head e
      go true h (inr k) ih = among-tail (ih k)
      go false h (inl e) ih =
          clash (and_intro (all_in K Y) (agree_on s t Y) (ap (all_in K) (sym e) ∙ p) (ap (agree_on s t) (sym e) ∙ q)) h
      go false h (inr k) ih = ih k

  pub allowed_ordered : (K : List Label) (Xs : List (List Label)) → Ordered Xs → Ordered (allowed s t K Xs)
  unfolding allowed
  allowed_ordered K [] o = tt
  allowed_ordered K (Y ∷ Xs) o = go (all_in K Y && agree_on s t Y) (allowed_ordered K Xs o.1)
    where
      go : (b : Bool) → Ordered (allowed s t K Xs) → Ordered (cond b (Y ∷ allowed s t K Xs) (allowed s t K Xs))
      go true ih = (λ X m. o.0 X (allowed_in K Xs X m).0, ih)
      go false ih = ih

-- the first of the greatest length

-- Y is shorter than R, or as long and not before it
abbrev pub NotBetter : List Label → List Label → Type 0
NotBetter R Y = (length Y ≤ length R) × (length Y ≡ length R → (R ≡ Y) ⊎ First (set_of R) (set_of Y))

pub record IsFirstLongest (Xs : List (List Label)) (R : List Label) : Type 0 where
  pub listed : Among R Xs
  pub others : (Y : List Label) → Among Y Xs → NotBetter R Y

-- what stands first is the result, or is shorter
abbrev LongestFrom : List Label → List (List Label) → List Label → Type 0
LongestFrom X Xs R = IsFirstLongest (X ∷ Xs) R × ((R ≡ X) ⊎ (length X < length R))

itself : (R Y : List Label) → Y ≡ R → NotBetter R Y
itself R Y e = (omega (arith, ap length e), λ d. inl (sym e))

shorter : (R Y : List Label) → length Y < length R → NotBetter R Y
shorter R Y l = (omega arith, λ d. absurd (omega arith))

longest_from : (X : List Label) (Xs : List (List Label)) → Ordered (X ∷ Xs) → LongestFrom X Xs (longest X Xs)
unfolding longest
longest_from X [] o = (record { listed = among-head refl; others = λ Y m. only Y (among_cases m) }, inl refl)
  where
    only : (Y : List Label) → (Y ≡ X) ⊎ Among Y [] → NotBetter X Y
    only Y (inl e) = itself X Y e
    only Y (inr k) = absurd (among-nil k)
longest_from X (Y ∷ Ys) o =
    go (ltb (length X) (length Y)) refl (longest_from Y Ys o.1) (longest_from X Ys (λ Z m. o.0 Z (among-tail m), o.1.1))
  where
    longer : (R : List Label) → length X < length Y → LongestFrom Y Ys R → LongestFrom X (Y ∷ Ys) R
    longer R l p = (record { listed = among-tail p.0.listed; others = λ Z m. each Z (among_cases m) }, inr short)
      where
        short : length X < length R
        short = omega (arith, (p.0.others Y (among-head refl)).0)

        each : (Z : List Label) → (Z ≡ X) ⊎ Among Z (Y ∷ Ys) → NotBetter R Z
        each Z (inl e) = shorter R Z (omega (arith, short, ap length e))
        each Z (inr k) = p.0.others Z k

    kept : (R : List Label) → length Y ≤ length X → LongestFrom X Ys R → LongestFrom X (Y ∷ Ys) R
    kept R l p = (record { listed = place (among_cases p.0.listed); others = λ Z m. each Z (among_cases m) }, p.1)
      where
        place : (R ≡ X) ⊎ Among R Ys → Among R (X ∷ Y ∷ Ys)
        place (inl e) = among-head e
        place (inr k) = among-tail (among-tail k)

        second : (Z : List Label) → Z ≡ Y → (R ≡ X) ⊎ (length X < length R) → NotBetter R Z
        second Z e (inl d) = (omega (arith, ap length d, ap length e), λ c. inr (rw (d, e) (o.0 Y (among-head refl))))
        second Z e (inr k) = shorter R Z (omega (arith, ap length e))

        each : (Z : List Label) → (Z ≡ X) ⊎ Among Z (Y ∷ Ys) → NotBetter R Z
        each Z (inl e) = p.0.others Z (among-head e)
        each Z (inr k) = ⊎_elim (λ (e : Z ≡ Y). second Z e p.1) (λ (i : Among Z Ys). p.0.others Z (among-tail i)) (among_cases k)

    go : (b : Bool) → ltb (length X) (length Y) ≡ b → LongestFrom Y Ys (longest Y Ys) → LongestFrom X Ys (longest X Ys)
        → LongestFrom X (Y ∷ Ys) (cond b (longest Y Ys) (longest X Ys))
    go true h p q = longer (longest Y Ys) (ltb-true (length X) (length Y) h) p
    go false h p q = kept (longest X Ys) (ltb-false (length X) (length Y) h) q

-- of lists in the order of "first", one of them at least
pub first_longest_lem : (Xs : List (List Label)) (Z : List Label) → Among Z Xs → Ordered Xs → IsFirstLongest Xs (first_longest Xs)
unfolding first_longest
first_longest_lem [] Z m o = absurd (among-nil m)
first_longest_lem (X ∷ Xs) Z m o = (longest_from X Xs o).0
