-- "Left and right children mean nothing": equal trees have one answer. What is asked of a tree is which labels it holds and which pairs
-- are closer. Assumes nothing.
use Prim.Native.Nat.{ℕ}
use mathlib.Core.Path.{◌≡◌, sym, ◌∙◌, ap₂}
use mathlib.Core.Bool.{Bool, true, ◌||◌}
use mathlib.Core.List.{List, []}
use lib.ListN.{get_or}
use Rattle.trees.specs.Label.{Label, distinct}
use Rattle.trees.specs.Tree.{Tree, leaves, Same}
use Rattle.trees.proofs.SameLaws.{same_distinct}
use Rattle.agreement.specs.Closer.{holds, closer, Agree, Common}
use Rattle.agreement.specs.Sets.{set_of}
use Rattle.agreement.specs.Answer.{Answer, first_lacks, second_lacks, disagree, largest, differ, clashing, answer}
use Rattle.agreement.specs.Demand.{Allowed, Clash, FirstLacking}
use Rattle.agreement.specs.RightAnswer.{RightAnswer}
use Rattle.agreement.proofs.SameLaws.{same_holds, same_closer}
use Rattle.agreement.proofs.DemandLaws.{answer_outcome, answer_exactly}

-- the trees hold the same labels and have the same closer pairs
record Alike (s t : Tree) : Type 0 where
  held : (x : Label) → holds s x ≡ holds t x
  pairs : (a b c : Label) → closer s a b c ≡ closer t a b c

same_alike : {s t : Tree} → Same s t → distinct (leaves s) ≡ true → Alike s t
same_alike p d = record { held = same_holds p; pairs = same_closer p d }

alike_back : {s t : Tree} → Alike s t → Alike t s
alike_back p = record { held = λ x. sym (p.held x); pairs = λ a b c. sym (p.pairs a b c) }

-- each sentence of the papers is one about those
module _ {s s' t t' : Tree} (p : Alike s s') (q : Alike t t') where
  common_alike : (X : Label → Bool) → Common s t X → Common s' t' X
  common_alike X h x m = (sym (p.held x) ∙ (h x m).0, sym (q.held x) ∙ (h x m).1)

  agree_alike : (X : Label → Bool) → Agree s t X → Agree s' t' X
  agree_alike X h a b c xa xb xc ab ac bc = sym (p.pairs a b c) ∙ h a b c xa xb xc ab ac bc ∙ q.pairs a b c

  allowed_alike : (K X : List Label) → Allowed s t K X → Allowed s' t' K X
  allowed_alike K X h = record {
    ordered = h.ordered;
    required = h.required;
    common_leaves = common_alike (set_of X) h.common_leaves;
    agreed = agree_alike (set_of X) h.agreed;
  }

  clashing_alike : (a b c : Label) → clashing s t a b c ≡ clashing s' t' a b c
  unfolding clashing
  clashing_alike a b c = ap₂ ◌||◌ (one a b c) (ap₂ ◌||◌ (one a c b) (one b c a))
    where
      one : (x y z : Label) → differ (closer s x y z) (closer t x y z) ≡ differ (closer s' x y z) (closer t' x y z)
      one x y z = ap₂ differ (p.pairs x y z) (q.pairs x y z)

  clash_alike : (K : List Label) (a b c : Label) → Clash s t K a b c → Clash s' t' K a b c
  clash_alike K a b c h = record {
    in_one = h.in_one;
    in_two = h.in_two;
    in_three = h.in_three;
    one_two = h.one_two;
    two_three = h.two_three;
    differs = sym (clashing_alike a b c) ∙ h.differs;
  }

  lacking_alike : (K : List Label) (n : ℕ) → FirstLacking s t K n → FirstLacking s' t' K n
  lacking_alike K n h = record {
    in_list = h.in_list;
    earlier = λ m l. (sym (p.held (get_or K m [])) ∙ (h.earlier m l).0, sym (q.held (get_or K m [])) ∙ (h.earlier m l).1);
  }

outcome_alike : {s s' t t' : Tree} → Alike s s' → Alike t t' → (K : List Label) (A : Answer) → RightAnswer s t K A → RightAnswer s' t' K A
outcome_alike p q K (first_lacks n) h = record { found = lacking_alike p q K n h.found; lacked = sym (p.held (get_or K n [])) ∙ h.lacked }
outcome_alike p q K (second_lacks n) h = record {
  found = lacking_alike p q K n h.found;
  held = sym (p.held (get_or K n [])) ∙ h.held;
  lacked = sym (q.held (get_or K n [])) ∙ h.lacked;
}
outcome_alike p q K (disagree a b c) h = (
  common_alike p q (set_of K) h.0,
  record {
    clash = clash_alike p q K a b c h.1.clash;
    first_three = λ x y z m. h.1.first_three x y z (clash_alike (alike_back p) (alike_back q) K x y z m);
  },
)
outcome_alike p q K (largest X) h = record {
  allowed_set = allowed_alike p q K X h.allowed_set;
  largest_size = λ Y m. h.largest_size Y (allowed_alike (alike_back p) (alike_back q) K Y m);
  first_of_size = λ Y m. h.first_of_size Y (allowed_alike (alike_back p) (alike_back q) K Y m);
}

-- so equal trees have one answer
pub answer_same : (s s' t t' : Tree) (K : List Label) → Same s s' → Same t t' → distinct (leaves s) ≡ true → distinct (leaves t) ≡ true
    → distinct K ≡ true → answer s t K ≡ answer s' t' K
answer_same s s' t t' K p q ds dt dk =
    sym
    ((answer_exactly s' t' K (same_distinct p ds) dk (answer s t K)).1
    (outcome_alike (same_alike p ds) (same_alike q dt) K (answer s t K) (answer_outcome s t K ds dk)))
