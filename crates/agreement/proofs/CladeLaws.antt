-- What lies below the least common ancestor of two leaves is a clade: its leaves are closer to each other than to any other leaf. With this
-- and `closer_once` the laws above this file need no ancestors and no children. Assumes nothing.
use mathlib.Core.Path.{◌≡◌, refl, sym, ◌∙◌}
use mathlib.Core.Bool.{true, false, ◌&&◌}
use mathlib.Core.Logic.{◌⊎◌, inl, inr}
use Rattle.trees.specs.Label.{Label, distinct}
use Rattle.trees.specs.Tree.{Tree, leaf, node, leaves}
use Rattle.trees.proofs.Bools.{bool_cases, clash, and_left, and_right, refute}
use Rattle.agreement.specs.Closer.{holds, lca, closer}
use Rattle.agreement.proofs.HoldsLaws.{distinct_node}
use Rattle.agreement.proofs.CloserLaws.{lca_top, closer_outside, closer_swap, closer_top}
use Rattle.agreement.proofs.Children.{Children, children, flip}

-- a label that is not farther than two leaves is a leaf itself
pub closer_held : (t : Tree) (a b c : Label) → closer t a b c ≡ false → holds t c ≡ true
closer_held t a b c h = go (bool_cases (holds t c))
  where
    go : (holds t c ≡ true) ⊎ (holds t c ≡ false) → holds t c ≡ true
    go (inl k) = k
    go (inr k) = clash (closer_outside t a b c k) h

-- the ancestor of two leaves of a tree: below one child, below the other, or the tree itself
data AncestorAt (p q : Tree) (a b : Label) : Type 0 where
  in_first_lem : holds p a ≡ true → holds p b ≡ true → AncestorAt p q a b
  in_second_lem : holds q a ≡ true → holds q b ≡ true → AncestorAt p q a b
  at_top : lca (node p q) a b ≡ node p q → AncestorAt p q a b

ancestor_at : (p q : Tree) (a b : Label) → AncestorAt p q a b
ancestor_at p q a b = go (bool_cases (holds p a && holds p b)) (bool_cases (holds q a && holds q b))
  where
    go : ((holds p a && holds p b) ≡ true) ⊎ ((holds p a && holds p b) ≡ false)
        → ((holds q a && holds q b) ≡ true) ⊎ ((holds q a && holds q b) ≡ false) → AncestorAt p q a b
    go (inl h) k = in_first_lem (and_left (holds p a) (holds p b) h) (and_right (holds p a) (holds p b) h)
    go (inr h) (inl k) = in_second_lem (and_left (holds q a) (holds q b) k) (and_right (holds q a) (holds q b) k)
    go (inr h) (inr k) = at_top (lca_top p q a b h k)

-- a leaf is below its ancestor with any other
pub own_first : (t : Tree) (a b : Label) → distinct (leaves t) ≡ true → holds t a ≡ true → holds t b ≡ true → closer t a b a ≡ false
own_first (leaf x) a b d ha hb = closer_top (leaf x) a b a (unfold lca in refl) ha
own_first (node p q) a b d ha hb =
    go (ancestor_at p q a b) (own_first p a b (distinct_node p q d).one) (own_first q a b (distinct_node p q d).two)
  where
    k : Children (node p q) p q
    k = children p q d

    go : AncestorAt p q a b → (holds p a ≡ true → holds p b ≡ true → closer p a b a ≡ false)
        → (holds q a ≡ true → holds q b ≡ true → closer q a b a ≡ false) → closer (node p q) a b a ≡ false
    go (in_first_lem i j) f g = k.below_one a b a i j ∙ f i j
    go (in_second_lem i j) f g = k.below_two a b a i j ∙ g i j
    go (at_top e) f g = closer_top (node p q) a b a e ha

pub own_second : (t : Tree) (a b : Label) → distinct (leaves t) ≡ true → holds t a ≡ true → holds t b ≡ true → closer t a b b ≡ false
own_second t a b d ha hb = closer_swap t a b b ∙ own_first t b a d hb ha

-- x and y below the ancestor of a and r, z not
abbrev Clade : Tree → Label → Label → Label → Label → Label → Type 0
Clade t a r x y z = closer t a r x ≡ false → closer t a r y ≡ false → closer t a r z ≡ true → closer t x y z ≡ true

clade_below : {t p q : Tree} → Children t p q → (a r x y z : Label) → holds p a ≡ true → holds p r ≡ true → Clade p a r x y z
    → Clade t a r x y z
clade_below {t} {p} {q} k a r x y z ha hr f cx cy cz =
    let bx : closer p a r x ≡ false = sym (k.below_one a r x ha hr) ∙ cx in
    let by : closer p a r y ≡ false = sym (k.below_one a r y ha hr) ∙ cy in
    k.below_one x y z (closer_held p a r x bx) (closer_held p a r y by) ∙ f bx by (sym (k.below_one a r z ha hr) ∙ cz)

-- of a leaf as a tree any two labels have one ancestor
leaf_pairs : (w a r x y z : Label) → closer (leaf w) x y z ≡ closer (leaf w) a r z
unfolding closer lca
leaf_pairs w a r x y z = refl

pub clade : (t : Tree) (a r x y z : Label) → distinct (leaves t) ≡ true → closer t a r x ≡ false → closer t a r y ≡ false
    → closer t a r z ≡ true → closer t x y z ≡ true
clade (leaf w) a r x y z d cx cy cz = leaf_pairs w a r x y z ∙ cz
clade (node p q) a r x y z d cx cy cz =
    go (ancestor_at p q a r) (clade p a r x y z (distinct_node p q d).one) (clade q a r x y z (distinct_node p q d).two)
  where
    k : Children (node p q) p q
    k = children p q d

    outside : lca (node p q) a r ≡ node p q → holds (node p q) z ≡ false
    outside e = refute (holds (node p q) z) (λ h. clash cz (closer_top (node p q) a r z e h))

    go : AncestorAt p q a r → Clade p a r x y z → Clade q a r x y z → closer (node p q) x y z ≡ true
    go (in_first_lem i j) f g = clade_below k a r x y z i j f cx cy cz
    go (in_second_lem i j) f g = clade_below (flip k) a r x y z i j g cx cy cz
    go (at_top e) f g = closer_outside (node p q) x y z (outside e)
