-- The least common ancestor of two leaves of a node and of its children, and what it says of closer pairs. Assumes nothing.
use mathlib.Core.Path.{◌≡◌, refl, ◌∙◌, ap}
use mathlib.Core.Bool.{true, false, not, ◌&&◌, and_comm}
use mathlib.Core.Logic.{◌⊎◌, inl, inr}
use Rattle.trees.specs.Label.{Label}
use Rattle.trees.specs.Tree.{Tree, leaf, node}
use Rattle.trees.proofs.Bools.{bool_cases, clash}
use Rattle.agreement.specs.Closer.{holds, lca, closer}
use Rattle.agreement.proofs.HoldsLaws.{holds_left, holds_right}

-- both leaves below the first child
pub lca_left : (p q : Tree) (a b : Label) → (holds p a && holds p b) ≡ true → lca (node p q) a b ≡ lca p a b
unfolding lca
lca_left p q a b h = rw h refl

-- both below the second, and not below the first
pub lca_right : (p q : Tree) (a b : Label) → (holds p a && holds p b) ≡ false → (holds q a && holds q b) ≡ true
    → lca (node p q) a b ≡ lca q a b
unfolding lca
lca_right p q a b h k = rw (h, k) refl

pub lca_top : (p q : Tree) (a b : Label) → (holds p a && holds p b) ≡ false → (holds q a && holds q b) ≡ false
    → lca (node p q) a b ≡ node p q
unfolding lca
lca_top p q a b h k = rw (h, k) refl

pub lca_swap : (t : Tree) (a b : Label) → lca t a b ≡ lca t b a
unfolding lca
lca_swap (leaf x) a b = refl
lca_swap (node p q) a b = rw (and_comm (holds p a) (holds p b), and_comm (holds q a) (holds q b), lca_swap p a b, lca_swap q a b) refl

-- what the ancestor holds, the tree holds
pub lca_within : (t : Tree) (a b c : Label) → holds (lca t a b) c ≡ true → holds t c ≡ true
lca_within (leaf x) a b c h = unfold lca in h
lca_within (node p q) a b c h =
    go (bool_cases (holds p a && holds p b)) (bool_cases (holds q a && holds q b)) (lca_within p a b c) (lca_within q a b c)
  where
    go : ((holds p a && holds p b) ≡ true) ⊎ ((holds p a && holds p b) ≡ false)
        → ((holds q a && holds q b) ≡ true) ⊎ ((holds q a && holds q b) ≡ false)
        → (holds (lca p a b) c ≡ true → holds p c ≡ true) → (holds (lca q a b) c ≡ true → holds q c ≡ true) → holds (node p q) c ≡ true
    go (inl k) l f g = holds_left p q c (f (rw (lca_left p q a b k) at h))
    go (inr k) (inl l) f g = holds_right p q c (g (rw (lca_right p q a b k l) at h))
    go (inr k) (inr l) f g = rw (lca_top p q a b k l) at h

-- a pair is the same pair either way round
pub closer_swap : (t : Tree) (a b c : Label) → closer t a b c ≡ closer t b a c
unfolding closer
closer_swap t a b c = ap (λ v. not (holds v c)) (lca_swap t a b)

-- trees with the same ancestor of a and b have the same closer pairs there
pub closer_by_lca : (s t : Tree) (a b c : Label) → lca s a b ≡ lca t a b → closer s a b c ≡ closer t a b c
unfolding closer
closer_by_lca s t a b c e = ap (λ v. not (holds v c)) e

-- a label that the tree does not hold is farther from any two
pub closer_outside : (t : Tree) (a b c : Label) → holds t c ≡ false → closer t a b c ≡ true
unfolding closer
closer_outside t a b c h = go (bool_cases (holds (lca t a b) c))
  where
    go : (holds (lca t a b) c ≡ true) ⊎ (holds (lca t a b) c ≡ false) → not (holds (lca t a b) c) ≡ true
    go (inl k) = clash (lca_within t a b c k) h
    go (inr k) = rw k refl

-- two leaves whose ancestor is the tree itself are never the closer pair
pub closer_top : (t : Tree) (a b c : Label) → lca t a b ≡ t → holds t c ≡ true → closer t a b c ≡ false
unfolding closer
closer_top t a b c e h = rw (ap (λ v. holds v c) e ∙ h) refl
