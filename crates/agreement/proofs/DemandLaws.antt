-- The answer by trying all sets is what demand 3 asks for, and nothing else is: each record has one answer. Assumes nothing.
use Prim.Native.Nat.{ℕ, zero, suc, ◌+◌, ◌<◌}
use mathlib.Core.Path.{◌≡◌, refl, sym, ◌∙◌, ap, subst}
use mathlib.Core.Bool.{Bool, true, false, cond}
use mathlib.Core.Logic.{◌⊎◌, inl, inr, ⊎_elim, ◌↔◌}
use mathlib.Core.Option.{Option, some, none}
use mathlib.Core.List.{List, [], ◌∷◌}
use mathlib.Core.List.{Memᴰ as Among}
use native.Mathlib.Omega.{arith}
use lib.ListN.{length, get_or}
use Rattle.trees.specs.Label.{Label, label_less, distinct}
use Rattle.trees.specs.Tree.{Tree, leaves}
use Rattle.trees.proofs.Bools.{clash}
use Rattle.trees.proofs.LabelLaws.{less_asym, less_ne, less_total}
use Rattle.trees.proofs.ListLaws.{at_in}
use Rattle.agreement.specs.Closer.{holds, Common}
use Rattle.agreement.specs.Sets.{sorted, common, set_of, sublists, First}
use Rattle.agreement.specs.Answer.{Answer, first_lacks, second_lacks, disagree, largest}
use Rattle.agreement.specs.Answer.{Three, first_clash, allowed, largest_set, lacking, answer}
use Rattle.agreement.specs.Demand.{Allowed, IsAnswer, Before3, by_first, by_second, by_third, as_well, Clash, IsDisagreement}
use Rattle.agreement.specs.Demand.{FirstLacking, IsFirstLacks, IsSecondLacks}
use Rattle.agreement.specs.RightAnswer.{RightAnswer}
use Rattle.agreement.proofs.SetLaws.{in_nil, in_cases, Within, all_in_within, within_all_in, in_sorted, sorted_inc, common_inc}
use Rattle.agreement.proofs.SetLaws.{in_common, common_in, sublist_in, sublist_of, sublists_ordered}
use Rattle.agreement.proofs.AnswerLaws.{FirstThree, first_map, clash_within, clash_found, no_clash_agree, agree_no_clash}
use Rattle.agreement.proofs.AnswerLaws.{agree_on_agree, agree_agree_on, allowed_in, in_allowed, allowed_ordered, first_longest_lem}

-- numbers 6 and 7

-- what the search for a label that a tree lacks gives, when the first label of the list has number n
abbrev LackingFrom : Tree → Tree → List Label → ℕ → Option Answer → Type 0
LackingFrom s t K n none = Common s t (set_of K)
LackingFrom s t K n (some (first_lacks k)) = (m : ℕ) × (k ≡ n + m) × IsFirstLacks s t K m
LackingFrom s t K n (some (second_lacks k)) = (m : ℕ) × (k ≡ n + m) × IsSecondLacks s t K m
LackingFrom s t K n (some (disagree a b c)) = ⊥
LackingFrom s t K n (some (largest X)) = ⊥

later_lacking : (s t : Tree) (x : Label) (K : List Label) (n : ℕ) → holds s x ≡ true → holds t x ≡ true → FirstLacking s t K n
    → FirstLacking s t (x ∷ K) (suc n)
later_lacking s t x K n p q f = record { in_list = omega (arith, f.in_list); earlier = go }
  where
    go : (m : ℕ) → m < suc n → (holds s (get_or (x ∷ K) m []) ≡ true) × (holds t (get_or (x ∷ K) m []) ≡ true)
    go zero l = (p, q)
    go (suc m) l = f.earlier m (omega arith)

at_once : (s t : Tree) (x : Label) (K : List Label) → FirstLacking s t (x ∷ K) 0
at_once s t x K = record { in_list = omega arith; earlier = λ m l. absurd (omega arith) }

lacking_from : (s t : Tree) (K : List Label) (n : ℕ) → LackingFrom s t K n (lacking s t K n)
unfolding lacking
lacking_from s t [] n = λ x m. in_nil x m
lacking_from s t (x ∷ K) n = go (holds s x) refl (holds t x) refl (lacking s t K (suc n)) (lacking_from s t K (suc n))
  where
    go : (a : Bool) → holds s x ≡ a → (b : Bool) → holds t x ≡ b → (o : Option Answer) → LackingFrom s t K (suc n) o
        → LackingFrom s t (x ∷ K) n (cond a (cond b o (some (second_lacks n))) (some (first_lacks n)))
    go false p b q o ih = (0, omega arith, record { found = at_once s t x K; lacked = p })
    go true p false q o ih = (0, omega arith, record { found = at_once s t x K; held = p; lacked = q })
    go true p true q none ih = λ y m. ⊎_elim (λ (e : y ≡ x). rw e (p, q)) (ih y) (in_cases y x K m)
    go true p true q (some (first_lacks k)) ih = (
      suc ih.0,
      omega (arith, ih.1),
      record { found = later_lacking s t x K ih.0 p q ih.2.found; lacked = ih.2.lacked },
    )
    go true p true q (some (second_lacks k)) ih = (
      suc ih.0,
      omega (arith, ih.1),
      record { found = later_lacking s t x K ih.0 p q ih.2.found; held = ih.2.held; lacked = ih.2.lacked },
    )
    go true p true q (some (disagree a b c)) ih = ih
    go true p true q (some (largest X)) ih = ih

-- laws that name no tree

pub sorted_within : (K : List Label) → Within (sorted K) K
sorted_within K x m = sym (in_sorted x K) ∙ m

pub within_sorted : (K : List Label) → Within K (sorted K)
within_sorted K x m = in_sorted x K ∙ m

-- compared label by label, and by equations
abbrev BeforeBy : Label → Label → Label → Label → Label → Label → Type 0
BeforeBy a b c x y z =
    (label_less a x ≡ true) ⊎ ((a ≡ x) × ((label_less b y ≡ true) ⊎ ((b ≡ y) × ((label_less c z ≡ true) ⊎ (c ≡ z)))))

before_by : (a b c x y z : Label) → Before3 a b c x y z → BeforeBy a b c x y z
before_by a b c x y z (by_first l) = inl l
before_by a b c x y z (by_second l) = inr (refl, inl l)
before_by a b c x y z (by_third l) = inr (refl, inr (refl, inl l))
before_by a b c x y z as_well = inr (refl, inr (refl, inr refl))

not_both {ℓ} : {G : Type ℓ} (a x : Label) → label_less a x ≡ true → (label_less x a ≡ true) ⊎ (x ≡ a) → G
not_both a x l (inl k) = clash k (less_asym a x l)
not_both a x l (inr e) = absurd (less_ne a x l (sym e))

before_antisym : (a b c x y z : Label) → BeforeBy a b c x y z → BeforeBy x y z a b c → (a ≡ x) × (b ≡ y) × (c ≡ z)
before_antisym a b c x y z (inl l) (inl k) = not_both a x l (inl k)
before_antisym a b c x y z (inl l) (inr k) = not_both a x l (inr k.0)
before_antisym a b c x y z (inr l) (inl k) = not_both x a k (inr l.0)
before_antisym a b c x y z (inr l) (inr k) = go l.1 k.1
  where
    go : (label_less b y ≡ true) ⊎ ((b ≡ y) × ((label_less c z ≡ true) ⊎ (c ≡ z)))
        → (label_less y b ≡ true) ⊎ ((y ≡ b) × ((label_less z c ≡ true) ⊎ (z ≡ c))) → (a ≡ x) × (b ≡ y) × (c ≡ z)
    go (inl p) (inl q) = not_both b y p (inl q)
    go (inl p) (inr q) = not_both b y p (inr q.0)
    go (inr p) (inl q) = not_both y b q (inr p.0)
    go (inr p) (inr q) = (l.0, p.0, last p.1 q.1)
      where
        last : (label_less c z ≡ true) ⊎ (c ≡ z) → (label_less z c ≡ true) ⊎ (z ≡ c) → c ≡ z
        last (inl i) j = not_both c z i j
        last (inr e) j = e

first_asym : (X Y : Label → Bool) → First X Y → First Y X → ⊥
first_asym X Y p q = go (less_total p.at q.at)
  where
    go : (label_less p.at q.at ≡ true) ⊎ ((p.at ≡ q.at) ⊎ (label_less q.at p.at ≡ true)) → ⊥
    go (inl l) = clash (q.smallest p.at l ∙ p.held) p.lacked
    go (inr (inl e)) = clash p.held (ap X e ∙ q.lacked)
    go (inr (inr l)) = clash (p.smallest q.at l ∙ q.held) q.lacked

settle : Option Answer → Option Three → List Label → Answer
settle (some r) c X = r
settle none (some c) X = disagree c.one c.two c.three
settle none none X = largest X

module _ (s t : Tree) (K : List Label) where
  -- a tree lacks the label with this number
  abbrev Lacks : ℕ → Type 0
  Lacks n = FirstLacking s t K n × ((holds s (get_or K n []) ≡ false) ⊎ (holds t (get_or K n []) ≡ false))

  six_lacks : (n : ℕ) → IsFirstLacks s t K n → Lacks n
  six_lacks n p = (p.found, inl p.lacked)

  seven_lacks : (n : ℕ) → IsSecondLacks s t K n → Lacks n
  seven_lacks n p = (p.found, inr p.lacked)

  lacks_held {ℓ} : {G : Type ℓ} (n : ℕ) → Lacks n
      → (holds s (get_or K n []) ≡ true) × (holds t (get_or K n []) ≡ true) → G
  lacks_held n p h =
      ⊎_elim (λ (k : holds s (get_or K n []) ≡ false). clash h.0 k) (λ (k : holds t (get_or K n []) ≡ false). clash h.1 k) p.1

  lacks_common {ℓ} : {G : Type ℓ} (n : ℕ) → Lacks n → Common s t (set_of K) → G
  lacks_common n p c = lacks_held n p (c (get_or K n []) (at_in K n p.0.in_list))

  lacks_unique : (m n : ℕ) → Lacks m → Lacks n → m ≡ n
  lacks_unique m n p q =
      let later : m < n → ⊥ = λ l. lacks_held m p (q.0.earlier m l) in
      let sooner : n < m → ⊥ = λ l. lacks_held n q (p.0.earlier n l) in
      omega arith

  -- number 8

  -- the first three of the required labels that clash
  pub required_clash : distinct K ≡ true → FirstThree (Clash s t K) (first_clash s t (sorted K))
  required_clash d =
      first_map (Clash s t (sorted K)) (Clash s t K) (first_clash s t (sorted K)) (clash_within s t (sorted K) K (sorted_within K))
      (clash_within s t K (sorted K) (within_sorted K)) (clash_found s t (sorted K) (sorted_inc K d))

  -- number 8 names one three
  pub disagreement_unique : (a b c x y z : Label) → IsDisagreement s t K a b c → IsDisagreement s t K x y z
      → (a ≡ x) × (b ≡ y) × (c ≡ z)
  disagreement_unique a b c x y z p q =
      before_antisym a b c x y z (before_by a b c x y z (p.first_three x y z q.clash))
      (before_by x y z a b c (q.first_three a b c p.clash))

  -- the set

  -- one set is largest and first
  pub answer_unique : (X Y : List Label) → IsAnswer s t K X → IsAnswer s t K Y → X ≡ Y
  answer_unique X Y p q = go (p.first_of_size Y q.allowed_set (sym same)) (q.first_of_size X p.allowed_set same)
    where
      same : length X ≡ length Y
      same = omega (arith, p.largest_size Y q.allowed_set, q.largest_size X p.allowed_set)

      go : (X ≡ Y) ⊎ First (set_of X) (set_of Y) → (Y ≡ X) ⊎ First (set_of Y) (set_of X) → X ≡ Y
      go (inl e) k = e
      go (inr l) (inl e) = sym e
      go (inr l) (inr k) = absurd (first_asym (set_of X) (set_of Y) l k)

  pub allowed_held : (X : List Label) → Allowed s t K X → Common s t (set_of K)
  allowed_held X p x m = p.common_leaves x (p.required x m)

  -- where a set is allowed no three required labels clash
  pub allowed_no_clash : (X : List Label) → Allowed s t K X → (x y z : Label) → Clash s t K x y z → ⊥
  allowed_no_clash X p = agree_no_clash s t (set_of X) K p.agreed p.required

  -- where no three clash the required labels themselves are allowed
  pub required_allowed : distinct K ≡ true → Common s t (set_of K)
      → ((x y z : Label) → Clash s t K x y z → ⊥) → Allowed s t K (sorted K)
  required_allowed d c f = record {
    ordered = sorted_inc K d;
    required = within_sorted K;
    common_leaves = λ x m. c x (sorted_within K x m);
    agreed = no_clash_agree s t (sorted K) (λ x y z m. f x y z (clash_within s t (sorted K) K (sorted_within K) x y z m));
  }

  -- the allowed sets are those that the definition tries and keeps
  listed_allowed : distinct (leaves s) ≡ true → (X : List Label)
      → Among X (allowed s t K (sublists (common s t))) → Allowed s t K X
  listed_allowed d X m =
      let p = allowed_in s t K (sublists (common s t)) X m in
      let q = sublist_in (common s t) (common_inc s t d) X p.0 in
      record {
        ordered = q.0;
        required = all_in_within K X p.1;
        common_leaves = λ x k. in_common s t x (q.1 x k);
        agreed = agree_on_agree s t X q.0 p.2;
      }

  allowed_listed : distinct (leaves s) ≡ true → (X : List Label) → Allowed s t K X
      → Among X (allowed s t K (sublists (common s t)))
  allowed_listed d X p =
      in_allowed s t K (sublists (common s t)) X
      (sublist_of (common s t) X (common_inc s t d) p.ordered
      (λ x m. common_in s t x (p.common_leaves x m).0 (p.common_leaves x m).1)) (within_all_in K X p.required)
      (agree_agree_on s t X p.ordered p.agreed)

  -- where some set is allowed, trying all sets finds the answer
  pub largest_answer : (Z : List Label) → distinct (leaves s) ≡ true → Allowed s t K Z → IsAnswer s t K (largest_set s t K)
  unfolding largest_set
  largest_answer Z d p =
      let r = first_longest_lem (allowed s t K (sublists (common s t))) Z (allowed_listed d Z p)
      (allowed_ordered s t K (sublists (common s t)) (sublists_ordered (common s t) (common_inc s t d))) in
      record {
        allowed_set = listed_allowed d (largest_set s t K) r.listed;
        largest_size = λ Y q. (r.others Y (allowed_listed d Y q)).0;
        first_of_size = λ Y q. (r.others Y (allowed_listed d Y q)).1;
      }

  -- the answer as a whole

  answer_settle : answer s t K ≡ settle (lacking s t K 0) (first_clash s t (sorted K)) (largest_set s t K)
  unfolding answer settle
  answer_settle = go (lacking s t K 0) (first_clash s t (sorted K))
    where
      go : (o : Option Answer) (p : Option Three)
          → ◌≡◌ {A = Answer}
          (elim o [
            | some r ↦ r
            | none ↦ elim p [ some c ↦ disagree c.one c.two c.three | none ↦ largest (largest_set s t K) ]
          ]) (settle o p (largest_set s t K))
      go (some r) p = refl
      go none (some c) = refl
      go none none = refl

  settle_outcome : distinct (leaves s) ≡ true → distinct K ≡ true → (o : Option Answer) (p : Option Three)
      → LackingFrom s t K 0 o → FirstThree (Clash s t K) p → RightAnswer s t K (settle o p (largest_set s t K))
  unfolding settle
  settle_outcome ds dk (some (first_lacks n)) p l c = subst (IsFirstLacks s t K) (omega (arith, l.1)) l.2
  settle_outcome ds dk (some (second_lacks n)) p l c = subst (IsSecondLacks s t K) (omega (arith, l.1)) l.2
  settle_outcome ds dk (some (disagree x y z)) p l c = absurd l
  settle_outcome ds dk (some (largest X)) p l c = absurd l
  settle_outcome ds dk none (some r) l c = (l, record { clash = c.0; first_three = c.1 })
  settle_outcome ds dk none none l c = largest_answer (sorted K) ds (required_allowed dk l c)

  -- the answer is what the papers say
  pub answer_outcome : distinct (leaves s) ≡ true → distinct K ≡ true → RightAnswer s t K (answer s t K)
  answer_outcome ds dk =
      subst (RightAnswer s t K) (sym answer_settle)
      (settle_outcome ds dk (lacking s t K 0) (first_clash s t (sorted K)) (lacking_from s t K 0) (required_clash dk))

  -- and the papers say it of one answer only
  pub outcome_unique : (A B : Answer) → RightAnswer s t K A → RightAnswer s t K B → A ≡ B
  outcome_unique (first_lacks m) (first_lacks n) p q = ap first_lacks (lacks_unique m n (six_lacks m p) (six_lacks n q))
  outcome_unique (first_lacks m) (second_lacks n) p q =
      clash (ap (λ (k : ℕ). holds s (get_or K k [])) (lacks_unique m n (six_lacks m p) (seven_lacks n q)) ∙ q.held) p.lacked
  outcome_unique (first_lacks m) (disagree x y z) p q = lacks_common m (six_lacks m p) q.0
  outcome_unique (first_lacks m) (largest Y) p q = lacks_common m (six_lacks m p) (allowed_held Y q.allowed_set)
  outcome_unique (second_lacks m) (first_lacks n) p q =
      clash (ap (λ (k : ℕ). holds s (get_or K k [])) (lacks_unique n m (six_lacks n q) (seven_lacks m p)) ∙ p.held) q.lacked
  outcome_unique (second_lacks m) (second_lacks n) p q =
      ap second_lacks (lacks_unique m n (seven_lacks m p) (seven_lacks n q))
  outcome_unique (second_lacks m) (disagree x y z) p q = lacks_common m (seven_lacks m p) q.0
  outcome_unique (second_lacks m) (largest Y) p q = lacks_common m (seven_lacks m p) (allowed_held Y q.allowed_set)
  outcome_unique (disagree a b c) (first_lacks n) p q = lacks_common n (six_lacks n q) p.0
  outcome_unique (disagree a b c) (second_lacks n) p q = lacks_common n (seven_lacks n q) p.0
  outcome_unique (disagree a b c) (disagree x y z) p q =
      let e = disagreement_unique a b c x y z p.1 q.1 in
      ap (λ (u : Label). disagree u b c) e.0 ∙ ap (λ (u : Label). disagree x u c) e.1 ∙ ap (disagree x y) e.2
  outcome_unique (disagree a b c) (largest Y) p q = absurd (allowed_no_clash Y q.allowed_set a b c p.1.clash)
  outcome_unique (largest X) (first_lacks n) p q = lacks_common n (six_lacks n q) (allowed_held X p.allowed_set)
  outcome_unique (largest X) (second_lacks n) p q = lacks_common n (seven_lacks n q) (allowed_held X p.allowed_set)
  outcome_unique (largest X) (disagree x y z) p q = absurd (allowed_no_clash X p.allowed_set x y z q.1.clash)
  outcome_unique (largest X) (largest Y) p q = ap largest (answer_unique X Y p q)

  module _ (ds : distinct (leaves s) ≡ true) (dk : distinct K ≡ true) where
    -- so an answer is the definition's exactly if the papers say it
    pub answer_exactly : (A : Answer) → (answer s t K ≡ A) ↔ RightAnswer s t K A
    answer_exactly A = (
      λ e. subst (RightAnswer s t K) e (answer_outcome ds dk),
      λ p. outcome_unique (answer s t K) A (answer_outcome ds dk) p,
    )

    pub largest_exactly : (X : List Label) → (answer s t K ≡ largest X) ↔ IsAnswer s t K X
    largest_exactly X = answer_exactly (largest X)

    pub first_lacks_exactly : (n : ℕ) → (answer s t K ≡ first_lacks n) ↔ IsFirstLacks s t K n
    first_lacks_exactly n = answer_exactly (first_lacks n)

    pub second_lacks_exactly : (n : ℕ) → (answer s t K ≡ second_lacks n) ↔ IsSecondLacks s t K n
    second_lacks_exactly n = answer_exactly (second_lacks n)

    -- where both trees hold every required label
    pub disagree_exactly : (a b c : Label) → Common s t (set_of K) → (answer s t K ≡ disagree a b c) ↔ IsDisagreement s t K a b c
    disagree_exactly a b c h = (λ e. ((answer_exactly (disagree a b c)).0 e).1, λ p. (answer_exactly (disagree a b c)).1 (h, p))

    -- the first clash that the definition finds is the one that is named
    pub clash_answer : Common s t (set_of K) → (r : Three) → FirstThree (Clash s t K) (some r)
        → answer s t K ≡ disagree r.one r.two r.three
    clash_answer h r f = (disagree_exactly r.one r.two r.three h).1 (record { clash = f.0; first_three = f.1 })

    -- 8 exactly if three required labels have different closer pairs
    pub eight_exactly : Common s t (set_of K)
        → ((a : Label) × (b : Label) × (c : Label) × Clash s t K a b c)
        ↔ ((a : Label) × (b : Label) × (c : Label) × (answer s t K ≡ disagree a b c))
    eight_exactly h = (
      λ p. go p (first_clash s t (sorted K)) (required_clash dk),
      λ p. (p.0, p.1, p.2, ((disagree_exactly p.0 p.1 p.2 h).0 p.3).clash),
    )
      where
        go : ((a : Label) × (b : Label) × (c : Label) × Clash s t K a b c) → (o : Option Three) → FirstThree (Clash s t K) o
            → (a : Label) × (b : Label) × (c : Label) × (answer s t K ≡ disagree a b c)
        go p none f = absurd (f p.0 p.1 p.2 p.3)
        go p (some r) f = (r.one, r.two, r.three, clash_answer h r f)

    -- where both trees hold every required label and no three clash, there is a set
    pub set_answered : Common s t (set_of K) → ((a b c : Label) → Clash s t K a b c → ⊥) → answer s t K ≡ largest (largest_set s t K)
    set_answered h f =
        (largest_exactly (largest_set s t K)).1 (largest_answer (sorted K) ds (required_allowed dk h f))
