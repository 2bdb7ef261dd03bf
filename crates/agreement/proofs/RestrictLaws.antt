-- Restriction to a set keeps the set's leaves, in their order, and their closer pairs. Assumes nothing.
use mathlib.Core.Path.{◌≡◌, refl, sym, ◌∙◌, ap, ap₂}
use mathlib.Core.Bool.{Bool, true, false, cond, not, ◌&&◌}
use mathlib.Core.Logic.{◌⊎◌, inl, inr}
use mathlib.Core.Option.{Option, some, none}
use mathlib.Core.List.{List, [], ◌∷◌, ◌++◌, append-nil}
use Rattle.trees.specs.Label.{Label, is_in, distinct}
use Rattle.trees.specs.Tree.{Tree, leaf, node, leaves}
use Rattle.trees.proofs.Bools.{bool_cases, clash, and_left, and_right, and_intro}
use Rattle.agreement.specs.Closer.{holds, lca, closer}
use Rattle.agreement.specs.Restrict.{join_kept, restrict}
use Rattle.agreement.specs.Sets.{keep}
use Rattle.agreement.proofs.HoldsLaws.{holds_self, holds_left, holds_right, holds_cases}
use Rattle.agreement.proofs.KeepLaws.{keep_append, is_in_keep, distinct_keep}
use Rattle.agreement.proofs.CloserLaws.{lca_left, lca_right, lca_top}

-- leaves, labels held and ancestors of what a restriction leaves
unfoldable pub kept_leaves : Option Tree → List Label
kept_leaves none = []
kept_leaves (some r) = leaves r

held_kept : Option Tree → Label → Bool
held_kept none x = false
held_kept (some r) x = holds r x

lca_kept : Option Tree → Label → Label → Option Tree
lca_kept none a b = none
lca_kept (some r) a b = some (lca r a b)

-- one child left empty

pub join_none : (o : Option Tree) → join_kept o none ≡ o
unfolding join_kept
join_none none = refl
join_none (some p) = refl

pub none_join : (o : Option Tree) → join_kept none o ≡ o
unfolding join_kept
none_join none = refl
none_join (some p) = refl

pub restrict_none : (X : Label → Bool) (t : Tree) → ((x : Label) → holds t x ≡ true → X x ≡ false) → restrict X t ≡ none
unfolding restrict join_kept
restrict_none X (leaf x) f = rw (f x (holds_self x)) refl
restrict_none X (node p q) f =
    rw (restrict_none X p (λ x h. f x (holds_left p q x h)), restrict_none X q (λ x h. f x (holds_right p q x h))) refl

pub restrict_one : (X : Label → Bool) (p q : Tree) → ((x : Label) → holds q x ≡ true → X x ≡ false) → restrict X (node p q) ≡ restrict X p
unfolding restrict
restrict_one X p q f = ap (join_kept (restrict X p)) (restrict_none X q f) ∙ join_none (restrict X p)

pub restrict_two : (X : Label → Bool) (p q : Tree) → ((x : Label) → holds p x ≡ true → X x ≡ false) → restrict X (node p q) ≡ restrict X q
unfolding restrict
restrict_two X p q f = ap (λ o. join_kept o (restrict X q)) (restrict_none X p f) ∙ none_join (restrict X q)

-- leaves

join_leaves : (o u : Option Tree) → kept_leaves (join_kept o u) ≡ kept_leaves o ++ kept_leaves u
unfolding kept_leaves join_kept leaves
join_leaves none none = refl
join_leaves none (some q) = refl
join_leaves (some p) none = sym (append-nil (leaves p))
join_leaves (some p) (some q) = refl

pub restrict_leaves : (X : Label → Bool) (t : Tree) → kept_leaves (restrict X t) ≡ keep X (leaves t)
unfolding restrict leaves keep kept_leaves
restrict_leaves X (leaf x) = go (bool_cases (X x))
  where
    go : (X x ≡ true) ⊎ (X x ≡ false) → kept_leaves (cond (X x) (some (leaf x)) none) ≡ cond (X x) (x ∷ []) []
    go (inl h) = rw h refl
    go (inr h) = rw h refl
restrict_leaves X (node p q) =
    join_leaves (restrict X p) (restrict X q) ∙ ap₂ ◌++◌ (restrict_leaves X p) (restrict_leaves X q) ∙ sym (keep_append X (leaves p) (leaves q))

held_kept_lem : (o : Option Tree) (x : Label) → held_kept o x ≡ is_in x (kept_leaves o)
unfolding held_kept kept_leaves holds is_in
held_kept_lem none x = refl
held_kept_lem (some r) x = refl

held_restrict : (X : Label → Bool) (t : Tree) (x : Label) → held_kept (restrict X t) x ≡ (X x && holds t x)
unfolding holds
held_restrict X t x = held_kept_lem (restrict X t) x ∙ ap (is_in x) (restrict_leaves X t) ∙ is_in_keep X x (leaves t)

-- a label of the set is held after as before
held_same : (X : Label → Bool) (t : Tree) (x : Label) → X x ≡ true → held_kept (restrict X t) x ≡ holds t x
held_same X t x h = held_restrict X t x ∙ (rw h refl)

pub restrict_distinct : (X : Label → Bool) (t r : Tree) → restrict X t ≡ some r → distinct (leaves t) ≡ true → distinct (leaves r) ≡ true
unfolding kept_leaves
restrict_distinct X t r e d = ap (λ o. distinct (kept_leaves o)) (sym e) ∙ ap distinct (restrict_leaves X t) ∙ distinct_keep X (leaves t) d

-- nothing is left: the tree holds no label of the set
pub restrict_empty : (X : Label → Bool) (t : Tree) → restrict X t ≡ none → (x : Label) → X x ≡ true → holds t x ≡ false
unfolding held_kept
restrict_empty X t e x h = sym (held_same X t x h) ∙ ap (λ o. held_kept o x) e

-- ancestors

join_lca_left : (o u : Option Tree) (a b : Label) → (held_kept o a && held_kept o b) ≡ true → lca_kept (join_kept o u) a b ≡ lca_kept o a b
unfolding held_kept lca_kept join_kept
join_lca_left none u a b h = clash h refl
join_lca_left (some p) none a b h = refl
join_lca_left (some p) (some q) a b h = ap some (lca_left p q a b h)

join_lca_right : (o u : Option Tree) (a b : Label) → (held_kept o a && held_kept o b) ≡ false → (held_kept u a && held_kept u b) ≡ true
    → lca_kept (join_kept o u) a b ≡ lca_kept u a b
unfolding held_kept lca_kept join_kept
join_lca_right none none a b h k = refl
join_lca_right none (some q) a b h k = refl
join_lca_right (some p) none a b h k = clash k refl
join_lca_right (some p) (some q) a b h k = ap some (lca_right p q a b h k)

join_lca_top : (o u : Option Tree) (a b : Label) → (held_kept o a && held_kept o b) ≡ false → (held_kept u a && held_kept u b) ≡ false
    → (held_kept o a ≡ true) ⊎ (held_kept u a ≡ true) → (held_kept o b ≡ true) ⊎ (held_kept u b ≡ true)
    → lca_kept (join_kept o u) a b ≡ join_kept o u
unfolding held_kept lca_kept join_kept
join_lca_top none none a b h k i j = refl
join_lca_top none (some q) a b h k (inl i) j = clash i refl
join_lca_top none (some q) a b h k (inr i) (inl j) = clash j refl
join_lca_top none (some q) a b h k (inr i) (inr j) = clash (and_intro (holds q a) (holds q b) i j) k
join_lca_top (some p) none a b h k (inr i) j = clash i refl
join_lca_top (some p) none a b h k (inl i) (inr j) = clash j refl
join_lca_top (some p) none a b h k (inl i) (inl j) = clash (and_intro (holds p a) (holds p b) i j) h
join_lca_top (some p) (some q) a b h k i j = ap some (lca_top p q a b h k)

-- a test of two labels of the set comes out after as before
both_same : (X : Label → Bool) (t : Tree) (a b : Label) → X a ≡ true → X b ≡ true
    → (held_kept (restrict X t) a && held_kept (restrict X t) b) ≡ (holds t a && holds t b)
both_same X t a b xa xb = ap₂ ◌&&◌ (held_same X t a xa) (held_same X t b xb)

-- the ancestor, restricted, is the ancestor in the restriction
abbrev KeepsLca : (Label → Bool) → Label → Label → Tree → Type 0
KeepsLca X a b t = holds t a ≡ true → holds t b ≡ true → restrict X (lca t a b) ≡ lca_kept (restrict X t) a b

lca_of_leaf : (X : Label → Bool) (a b x : Label) → restrict X (lca (leaf x) a b) ≡ lca_kept (restrict X (leaf x)) a b
unfolding lca restrict lca_kept
lca_of_leaf X a b x = go (bool_cases (X x))
  where
    go : (X x ≡ true) ⊎ (X x ≡ false) → cond (X x) (some (leaf x)) none ≡ lca_kept (cond (X x) (some (leaf x)) none) a b
    go (inl h) = rw h refl
    go (inr h) = rw h refl

lca_of_node : (X : Label → Bool) (a b : Label) (p q : Tree) → X a ≡ true → X b ≡ true → KeepsLca X a b p → KeepsLca X a b q
    → KeepsLca X a b (node p q)
unfolding restrict
lca_of_node X a b p q xa xb f g ha hb = go (bool_cases (holds p a && holds p b)) (bool_cases (holds q a && holds q b))
  where
    o : Option Tree
    o = restrict X p

    u : Option Tree
    u = restrict X q

    side : (x : Label) → X x ≡ true → (holds p x ≡ true) ⊎ (holds q x ≡ true) → (held_kept o x ≡ true) ⊎ (held_kept u x ≡ true)
    side x xx (inl h) = inl (held_same X p x xx ∙ h)
    side x xx (inr h) = inr (held_same X q x xx ∙ h)

    go : ((holds p a && holds p b) ≡ true) ⊎ ((holds p a && holds p b) ≡ false)
        → ((holds q a && holds q b) ≡ true) ⊎ ((holds q a && holds q b) ≡ false)
        → restrict X (lca (node p q) a b) ≡ lca_kept (join_kept o u) a b
    go (inl h) k =
        ap (restrict X) (lca_left p q a b h) ∙ f (and_left (holds p a) (holds p b) h) (and_right (holds p a) (holds p b) h)
        ∙ sym (join_lca_left o u a b (both_same X p a b xa xb ∙ h))
    go (inr h) (inl k) =
        ap (restrict X) (lca_right p q a b h k) ∙ g (and_left (holds q a) (holds q b) k) (and_right (holds q a) (holds q b) k)
        ∙ sym (join_lca_right o u a b (both_same X p a b xa xb ∙ h) (both_same X q a b xa xb ∙ k))
    go (inr h) (inr k) =
        ap (restrict X) (lca_top p q a b h k)
        ∙ sym (join_lca_top o u a b (both_same X p a b xa xb ∙ h) (both_same X q a b xa xb ∙ k)
        (side a xa (holds_cases p q a ha)) (side b xb (holds_cases p q b hb)))

keeps_lca : (X : Label → Bool) (a b : Label) (t : Tree) → X a ≡ true → X b ≡ true → KeepsLca X a b t
keeps_lca X a b (leaf x) xa xb = λ ha hb. lca_of_leaf X a b x
keeps_lca X a b (node p q) xa xb = lca_of_node X a b p q xa xb (keeps_lca X a b p xa xb) (keeps_lca X a b q xa xb)

pub restrict_closer : (X : Label → Bool) (t r : Tree) → restrict X t ≡ some r → (a b c : Label)
    → X a ≡ true → X b ≡ true → X c ≡ true → holds t a ≡ true → holds t b ≡ true → closer r a b c ≡ closer t a b c
unfolding closer held_kept lca_kept
restrict_closer X t r e a b c xa xb xc ha hb =
    ap (λ o. not (held_kept (lca_kept o a b) c)) (sym e)
    ∙ ap (λ o. not (held_kept o c)) (sym (keeps_lca X a b t xa xb ha hb))
    ∙ ap not (held_same X (lca t a b) c xc)
