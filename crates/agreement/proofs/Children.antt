-- What the theory uses of a node: its children's closer pairs are its own, leaves of different children are never the closer
-- pair, and the weight is the sum. Nothing above this file looks at ancestors. Assumes nothing.
use Prim.Native.Nat.{ℕ, ◌+◌}
use mathlib.Core.Path.{◌≡◌, refl, ◌∙◌}
use mathlib.Core.Bool.{Bool, true, false, ◌&&◌}
use mathlib.Core.Logic.{◌⊎◌, ⊎_swap}
use native.Mathlib.Omega.{arith}
use Rattle.trees.specs.Label.{Label, distinct}
use Rattle.trees.specs.Tree.{Tree, node, leaves}
use Rattle.trees.proofs.Bools.{clash, and_intro, refute}
use Rattle.agreement.specs.Closer.{holds, closer}
use Rattle.agreement.specs.Weights.{weight_in}
use Rattle.agreement.proofs.HoldsLaws.{holds_left, holds_right, holds_cases, distinct_node}
use Rattle.agreement.proofs.KeepLaws.{weight_node}
use Rattle.agreement.proofs.CloserLaws.{lca_left, lca_right, lca_top, closer_swap, closer_by_lca, closer_outside, closer_top}

pub record Children (t p q : Tree) : Type 0 where
  pub one : (x : Label) → holds p x ≡ true → holds t x ≡ true
  pub two : (x : Label) → holds q x ≡ true → holds t x ≡ true
  pub cover : (x : Label) → holds t x ≡ true → (holds p x ≡ true) ⊎ (holds q x ≡ true)
  pub apart : (x : Label) → holds p x ≡ true → holds q x ≡ true → ⊥
  -- a child's closer pairs are the node's, also against a label of the other child
  pub below_one : (a b c : Label) → holds p a ≡ true → holds p b ≡ true → closer t a b c ≡ closer p a b c
  pub below_two : (a b c : Label) → holds q a ≡ true → holds q b ≡ true → closer t a b c ≡ closer q a b c
  -- leaves of different children are never the closer pair
  pub never : (a b c : Label) → holds p a ≡ true → holds q b ≡ true → holds t c ≡ true → closer t a b c ≡ false
  pub weight : (w : Label → ℕ) (X : Label → Bool) → weight_in w t X ≡ weight_in w p X + weight_in w q X

and_fails_left : (a b : Bool) → (a ≡ true → ⊥) → (a && b) ≡ false
and_fails_left true b h = absurd (h refl)
and_fails_left false b h = refl

and_fails_right : (a b : Bool) → (b ≡ true → ⊥) → (a && b) ≡ false
and_fails_right true true h = absurd (h refl)
and_fails_right true false h = refl
and_fails_right false b h = refl

pub children : (p q : Tree) → distinct (leaves (node p q)) ≡ true → Children (node p q) p q
unfolding holds
children p q d =
    record {
      one = holds_left p q;
      two = holds_right p q;
      cover = holds_cases p q;
      apart = apart;
      below_one = λ a b c h k. closer_by_lca (node p q) p a b c (lca_left p q a b (and_intro (holds p a) (holds p b) h k));
      below_two = λ a b c h k. closer_by_lca (node p q) q a b c
          (lca_right p q a b (and_fails_left (holds p a) (holds p b) (λ l. apart a l h)) (and_intro (holds q a) (holds q b) h k));
      never = λ a b c h k l. closer_top (node p q) a b c
          (lca_top p q a b (and_fails_right (holds p a) (holds p b) (λ m. apart b m k)) (and_fails_left (holds q a) (holds q b) (apart a h))) l;
      weight = λ w X. weight_node w p q X;
    }
  where
    apart : (x : Label) → holds p x ≡ true → holds q x ≡ true → ⊥
    apart x h k = clash k ((distinct_node p q d).apart x h)

-- the children in the other order
pub flip : {t p q : Tree} → Children t p q → Children t q p
flip k =
    record {
      one = k.two;
      two = k.one;
      cover = λ x h. ⊎_swap (k.cover x h);
      apart = λ x h l. k.apart x l h;
      below_one = k.below_two;
      below_two = k.below_one;
      never = λ a b c h l m. closer_swap _ a b c ∙ k.never b a c l h m;
      weight = λ w X. omega (arith, k.weight w X);
    }

-- leaves of the second child are not leaves of the first
pub not_one : {t p q : Tree} → Children t p q → (x : Label) → holds q x ≡ true → holds p x ≡ false
not_one {p = p} k x h = refute (holds p x) (λ l. k.apart x l h)

-- two leaves of the first child are closer to each other than to a leaf of the second
pub closer_apart : {t p q : Tree} → Children t p q → (a b c : Label) → holds p a ≡ true → holds p b ≡ true → holds q c ≡ true
    → closer t a b c ≡ true
closer_apart {p = p} k a b c h l m = k.below_one a b c h l ∙ closer_outside p a b c (not_one k c m)
