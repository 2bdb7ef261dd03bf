-- 003, Lemma 1: trees agree on a set of common leaves exactly if their restrictions to it are equal trees.
-- Assumes nothing.
use mathlib.Core.Path.{◌≡◌, refl, sym, ◌∙◌, ap}
use mathlib.Core.Bool.{Bool, true, false, cond}
use mathlib.Core.Logic.{◌⊎◌, inl, inr, ◌↔◌}
use mathlib.Core.Option.{Option, some, none}
use Rattle.trees.specs.Label.{Label, distinct}
use Rattle.trees.specs.Tree.{Tree, leaf, node, leaves, same_leaf}
use Rattle.trees.proofs.Bools.{bool_cases, clash, refute}
use Rattle.agreement.specs.Closer.{holds, closer, Agree, Common}
use Rattle.agreement.specs.Restrict.{restrict}
use Rattle.agreement.specs.SameKept.{SameKept, both_none, both_some}
use Rattle.agreement.proofs.HoldsLaws.{holds_self, holds_leaf}
use Rattle.agreement.proofs.Children.{Children, children, flip}
use Rattle.agreement.proofs.PairInduction.{by_pairs}
use Rattle.agreement.proofs.Divide.{Within, Empty, Fits, fits, fits_below, fits_into, within_both, divide}
use Rattle.agreement.proofs.RestrictLaws.{restrict_one, restrict_two, restrict_empty, restrict_closer, restrict_distinct}
use Rattle.agreement.proofs.SameLaws.{same_closer, join_straight, join_crossed}

-- from equal restrictions to agreement

pub restrict_agree : (s t : Tree) (X : Label → Bool) → distinct (leaves s) ≡ true → Common s t X
    → SameKept (restrict X s) (restrict X t) → Agree s t X
restrict_agree s t X d m k a b c xa xb xc ab ac bc = go k refl refl
  where
    go : {o u : Option Tree} → SameKept o u → restrict X s ≡ o → restrict X t ≡ u → closer s a b c ≡ closer t a b c
    go both_none e f = clash (m a xa).0 (restrict_empty X s e a xa)
    go (both_some {p} {q} n) e f =
        sym (restrict_closer X s p e a b c xa xb xc (m a xa).0 (m b xb).0) ∙ same_closer n (restrict_distinct X s p e d) a b c
        ∙ restrict_closer X t q f a b c xa xb xc (m a xa).1 (m b xb).1

-- from agreement to equal restrictions

abbrev SameIf : (Label → Bool) → Tree → Tree → Type 0
SameIf X s t = Fits s t X → Fits t s X → SameKept (restrict X s) (restrict X t)

-- what the set has of t goes back to p, since it has nothing of q
back_one : {s p q t : Tree} {X : Label → Bool} → Children s p q → Fits t s X → Empty q X → Fits t p X
back_one {p = p} {q = q} {X = X} k g e = fits_into k (λ x h m. pick x h (k.cover x (g.within x h m))) g
  where
    pick : (x : Label) → X x ≡ true → (holds p x ≡ true) ⊎ (holds q x ≡ true) → holds p x ≡ true
    pick x h (inl i) = i
    pick x h (inr i) = clash h (e x i)

-- what the set has of c goes back to p, since what it has of q lies in d
back_pair : {s p q t c d : Tree} {X : Label → Bool} → Children s p q → Children t c d → Fits t s X → Within q d X → Fits c p X
back_pair {p = p} {q = q} {c = c} {X = X} k l g j = fits_into k (λ x h m. pick x h m (k.cover x (g.within x h (l.one x m)))) (fits_below l g)
  where
    pick : (x : Label) → X x ≡ true → holds c x ≡ true → (holds p x ≡ true) ⊎ (holds q x ≡ true) → holds p x ≡ true
    pick x h m (inl i) = i
    pick x h m (inr i) = absurd (l.apart x m (j x h i))

-- all of it in c leaves nothing for d
into_empty : {s t c d : Tree} {X : Label → Bool} → Children t c d → Fits t s X → Within s c X → Empty d X
into_empty {X = X} l g i x m = refute (X x) (λ h. l.apart x (i x h (g.within x h (l.two x m))) m)

below_one : {X : Label → Bool} {p q t : Tree} → Children (node p q) p q → Empty q X → SameIf X p t → SameIf X (node p q) t
below_one {X} {p} {q} k e ih f g = rw (restrict_one X p q e) (ih (fits_below k f) (back_one k g e))

below_two : {X : Label → Bool} {p q t : Tree} → Children (node p q) p q → Empty p X → SameIf X q t → SameIf X (node p q) t
below_two {X} {p} {q} k e ih f g = rw (restrict_two X p q e) (ih (fits_below (flip k) f) (back_one (flip k) g e))

into_one : {X : Label → Bool} {s c d : Tree} → Children (node c d) c d → Within s c X → SameIf X s c → SameIf X s (node c d)
into_one {X} {s} {c} {d} l i ih f g = rw (restrict_one X c d (into_empty l g i)) (ih (fits_into l i f) (fits_below l g))

into_two : {X : Label → Bool} {s c d : Tree} → Children (node c d) c d → Within s d X → SameIf X s d → SameIf X s (node c d)
into_two {X} {s} {c} {d} l i ih f g = rw (restrict_two X c d (into_empty (flip l) g i)) (ih (fits_into (flip l) i f) (fits_below (flip l) g))

-- a leaf lies in one child
leaf_side : {t c d : Tree} {X : Label → Bool} (x : Label) → Children t c d → Fits (leaf x) t X → Within (leaf x) c X ⊎ Within (leaf x) d X
leaf_side {c = c} {d = d} {X = X} x l f = go (bool_cases (holds c x))
  where
    pick : holds c x ≡ false → (y : Label) → y ≡ x → (holds c y ≡ true) ⊎ (holds d y ≡ true) → holds d y ≡ true
    pick n y e (inl i) = clash (ap (holds c) (sym e) ∙ i) n
    pick n y e (inr i) = i

    go : (holds c x ≡ true) ⊎ (holds c x ≡ false) → Within (leaf x) c X ⊎ Within (leaf x) d X
    go (inl h) = inl (λ y k m. ap (holds c) (holds_leaf x y m) ∙ h)
    go (inr n) = inr (λ y k m. pick n y (holds_leaf x y m) (l.cover y (f.within y k m)))

same_leaves : (X : Label → Bool) (x y : Label) → SameIf X (leaf x) (leaf y)
unfolding restrict
same_leaves X x y f g = go (bool_cases (X x)) (bool_cases (X y))
  where
    go : (X x ≡ true) ⊎ (X x ≡ false) → (X y ≡ true) ⊎ (X y ≡ false)
        → SameKept (cond (X x) (some (leaf x)) none) (cond (X y) (some (leaf y)) none)
    go (inl h) (inl k) = rw (h, k, holds_leaf y x (f.within x h (holds_self x))) (both_some same_leaf)
    go (inl h) (inr k) = clash (ap X (sym (holds_leaf y x (f.within x h (holds_self x)))) ∙ h) k
    go (inr h) (inl k) = clash (ap X (sym (holds_leaf x y (g.within y k (holds_self y)))) ∙ k) h
    go (inr h) (inr k) = rw (h, k) both_none

leaf_node : (X : Label → Bool) (x : Label) (c d : Tree) → Children (node c d) c d → SameIf X (leaf x) c → SameIf X (leaf x) d
    → SameIf X (leaf x) (node c d)
leaf_node X x c d l ic id f g = go (leaf_side x l f)
  where
    go : Within (leaf x) c X ⊎ Within (leaf x) d X → SameKept (restrict X (leaf x)) (restrict X (node c d))
    go (inl i) = into_one l i ic f g
    go (inr i) = into_two l i id f g

node_leaf : (X : Label → Bool) (p q : Tree) (y : Label) → distinct (leaves (node p q)) ≡ true
    → SameIf X p (leaf y) → SameIf X q (leaf y) → SameIf X (node p q) (leaf y)
node_leaf X p q y ds ip iq f g = go (leaf_side y k g)
  where
    k : Children (node p q) p q
    k = children p q ds

    go : Within (leaf y) p X ⊎ Within (leaf y) q X → SameKept (restrict X (node p q)) (restrict X (leaf y))
    go (inl i) = below_one k (into_empty k f i) ip f g
    go (inr i) = below_two k (into_empty (flip k) f i) iq f g

node_node : (X : Label → Bool) (p q c d : Tree) → Children (node p q) p q → Children (node c d) c d
    → SameIf X p (node c d) → SameIf X q (node c d) → SameIf X (node p q) c → SameIf X (node p q) d
    → SameIf X p c → SameIf X q d → SameIf X p d → SameIf X q c → SameIf X (node p q) (node c d)
unfolding restrict
node_node X p q c d k l pt qt sc sd pc qd pd qc f g = go (divide k l f) (divide (flip k) l f)
  where
    go : Within p c X ⊎ (Within p d X ⊎ Empty q X) → Within q c X ⊎ (Within q d X ⊎ Empty p X)
        → SameKept (restrict X (node p q)) (restrict X (node c d))
    go (inr (inr e)) j = below_one k e pt f g
    go (inl i) (inr (inr e)) = below_two k e qt f g
    go (inr (inl i)) (inr (inr e)) = below_two k e qt f g
    go (inl i) (inl j) = into_one l (within_both k c i j) sc f g
    go (inr (inl i)) (inr (inl j)) = into_two l (within_both k d i j) sd f g
    go (inl i) (inr (inl j)) =
        join_straight (pc (fits_into l i (fits_below k f)) (back_pair k l g j))
        (qd (fits_into (flip l) j (fits_below (flip k) f)) (back_pair (flip k) (flip l) g i))
    go (inr (inl i)) (inl j) =
        join_crossed (pd (fits_into (flip l) i (fits_below k f)) (back_pair k (flip l) g j))
        (qc (fits_into l j (fits_below (flip k) f)) (back_pair (flip k) l g i))

pub agree_restrict : (s t : Tree) (X : Label → Bool) → distinct (leaves s) ≡ true → distinct (leaves t) ≡ true
    → Common s t X → Agree s t X → SameKept (restrict X s) (restrict X t)
agree_restrict s t X ds dt m g =
    by_pairs (SameIf X) (same_leaves X) (leaf_node X) (node_leaf X) (node_node X) s t ds dt (fits s t X m g)
    (fits t s X (λ x h. ((m x h).1, (m x h).0)) (λ a b c xa xb xc ab ac bc. sym (g a b c xa xb xc ab ac bc)))

-- both directions
pub agree_iff_same : (s t : Tree) (X : Label → Bool) → distinct (leaves s) ≡ true → distinct (leaves t) ≡ true → Common s t X
    → Agree s t X ↔ SameKept (restrict X s) (restrict X t)
agree_iff_same s t X ds dt m = (agree_restrict s t X ds dt m, restrict_agree s t X ds m)
