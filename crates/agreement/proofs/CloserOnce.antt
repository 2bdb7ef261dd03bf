-- "Of three different leaves in a binary tree, exactly one pair" is the closer pair. Assumes nothing.
use mathlib.Core.Path.{◌≡◌, sym, ◌∙◌}
use mathlib.Core.Bool.{Bool, true}
use mathlib.Core.Logic.{◌⊎◌, inl, inr}
use Rattle.trees.specs.Label.{Label, distinct}
use Rattle.trees.specs.Tree.{Tree, leaf, node, leaves}
use Rattle.agreement.specs.Closer.{holds, closer, OneOf}
use Rattle.agreement.proofs.HoldsLaws.{holds_leaf, distinct_node}
use Rattle.agreement.proofs.Children.{Children, children, flip, closer_apart}

-- of a, b and c one pair is closer
abbrev Once : Tree → Label → Label → Label → Type 0
Once t a b c = OneOf (closer t a b c) (closer t a c b) (closer t b c a)

one_of : {x y z u v w : Bool} → x ≡ u → y ≡ v → z ≡ w → OneOf u v w → OneOf x y z
one_of p q r (inl h) = inl (p ∙ h.0, q ∙ h.1, r ∙ h.2)
one_of p q r (inr (inl h)) = inr (inl (p ∙ h.0, q ∙ h.1, r ∙ h.2))
one_of p q r (inr (inr h)) = inr (inr (p ∙ h.0, q ∙ h.1, r ∙ h.2))

-- all three below one child
once_below : {t p q : Tree} → Children t p q → (a b c : Label) → holds p a ≡ true → holds p b ≡ true → holds p c ≡ true
    → Once p a b c → Once t a b c
once_below k a b c ha hb hc = one_of (k.below_one a b c ha hb) (k.below_one a c b ha hc) (k.below_one b c a hb hc)

-- two below one child, the third below the other: c, b or a
once_third : {t p q : Tree} → Children t p q → (a b c : Label) → holds p a ≡ true → holds p b ≡ true → holds q c ≡ true → Once t a b c
once_third k a b c ha hb hc =
    inl (closer_apart k a b c ha hb hc, k.never a c b ha hc (k.one b hb), k.never b c a hb hc (k.one a ha))

once_second : {t p q : Tree} → Children t p q → (a b c : Label) → holds p a ≡ true → holds q b ≡ true → holds p c ≡ true → Once t a b c
once_second k a b c ha hb hc =
    inr (inl (k.never a b c ha hb (k.one c hc), closer_apart k a c b ha hc hb, (flip k).never b c a hb hc (k.one a ha)))

once_first : {t p q : Tree} → Children t p q → (a b c : Label) → holds q a ≡ true → holds p b ≡ true → holds p c ≡ true → Once t a b c
once_first k a b c ha hb hc =
    inr (inr ((flip k).never a b c ha hb (k.one c hc), (flip k).never a c b ha hc (k.one b hb), closer_apart k b c a hb hc ha))

once_node : {t p q : Tree} → Children t p q → (a b c : Label)
    → (holds p a ≡ true → holds p b ≡ true → holds p c ≡ true → Once p a b c)
    → (holds q a ≡ true → holds q b ≡ true → holds q c ≡ true → Once q a b c)
    → (holds p a ≡ true) ⊎ (holds q a ≡ true) → (holds p b ≡ true) ⊎ (holds q b ≡ true) → (holds p c ≡ true) ⊎ (holds q c ≡ true)
    → Once t a b c
once_node k a b c f g (inl x) (inl y) (inl z) = once_below k a b c x y z (f x y z)
once_node k a b c f g (inl x) (inl y) (inr z) = once_third k a b c x y z
once_node k a b c f g (inl x) (inr y) (inl z) = once_second k a b c x y z
once_node k a b c f g (inl x) (inr y) (inr z) = once_first (flip k) a b c x y z
once_node k a b c f g (inr x) (inl y) (inl z) = once_first k a b c x y z
once_node k a b c f g (inr x) (inl y) (inr z) = once_second (flip k) a b c x y z
once_node k a b c f g (inr x) (inr y) (inl z) = once_third (flip k) a b c x y z
once_node k a b c f g (inr x) (inr y) (inr z) = once_below (flip k) a b c x y z (g x y z)

pub closer_once : (t : Tree) (a b c : Label) → distinct (leaves t) ≡ true
    → (a ≡ b → ⊥) → (a ≡ c → ⊥) → (b ≡ c → ⊥) → holds t a ≡ true → holds t b ≡ true → holds t c ≡ true
    → OneOf (closer t a b c) (closer t a c b) (closer t b c a)
closer_once (leaf x) a b c d ab ac bc ha hb hc = absurd (ab (holds_leaf x a ha ∙ sym (holds_leaf x b hb)))
closer_once (node p q) a b c d ab ac bc ha hb hc =
    let k : Children (node p q) p q = children p q d in
    once_node k a b c (closer_once p a b c (distinct_node p q d).one ab ac bc) (closer_once q a b c (distinct_node p q d).two ab ac bc)
    (k.cover a ha) (k.cover b hb) (k.cover c hc)
