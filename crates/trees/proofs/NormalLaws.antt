-- The normal form of a tree: equal to the tree, and one for all equal trees whose labels are distinct. Assumes nothing.
use mathlib.Core.Path.{◌≡◌, refl, sym, ◌∙◌, ap, ap₂}
use mathlib.Core.Bool.{Bool, true, false, cond}
use mathlib.Core.Logic.{◌⊎◌, inl, inr, ⊎_elim}
use mathlib.Core.List.{◌++◌}
use Rattle.trees.specs.Label.{Label, label_less, is_in, distinct}
use Rattle.trees.specs.Token.{token_of}
use Rattle.trees.specs.Tree.{Tree, leaf, node, leaves, relabel, Same, same_leaf, straight, crossed, Proper, smallest, normal}
use Rattle.trees.specs.Text.{text_of, normal_text}
use Rattle.trees.proofs.Bools.{bool_cases, clash}
use Rattle.trees.proofs.LabelLaws.{less_irrefl, less_trans, less_total, less_asym, not_less}
use Rattle.trees.proofs.ListLaws.{in_one_lem, in_one_eq, in_left, in_right, in_cases}
use Rattle.trees.proofs.ListLaws.{distinct_left, distinct_right, distinct_apart}
use Rattle.trees.proofs.SameLaws.{tree_sym, tree_trans, same_distinct}

-- the two shapes of a node's normal form
pub normal_straight : (a b : Tree) → label_less (smallest a) (smallest b) ≡ true → normal (node a b) ≡ node (normal a) (normal b)
unfolding normal
normal_straight a b h = rw h

pub normal_crossed : (a b : Tree) → label_less (smallest a) (smallest b) ≡ false → normal (node a b) ≡ node (normal b) (normal a)
unfolding normal
normal_crossed a b h = rw h

-- a normal form is equal to its tree
pub normal_same : (t : Tree) → Same (normal t) t
unfolding normal
normal_same (leaf x) = same_leaf
normal_same (node a b) = go (normal_same a) (normal_same b) (label_less (smallest a) (smallest b))
  where
    go : Same (normal a) a → Same (normal b) b → (less : Bool)
        → Same (cond less (node (normal a) (normal b)) (node (normal b) (normal a))) (node a b)
    go p q true = straight p q
    go p q false = crossed q p

-- the smaller of two labels
abbrev least : Label → Label → Label
least x y = cond (label_less x y) x y

least_comm : (x y : Label) → least x y ≡ least y x
least_comm x y = go (less_total x y)
  where
    go : (label_less x y ≡ true) ⊎ ((x ≡ y) ⊎ (label_less y x ≡ true)) → least x y ≡ least y x
    go (inl h) = rw (h, less_asym x y h)
    go (inr (inl e)) = rw e
    go (inr (inr h)) = rw (h, less_asym y x h)

least_left : (x y : Label) → label_less x (least x y) ≡ false
least_left x y = go (bool_cases (label_less x y))
  where
    go : (label_less x y ≡ true) ⊎ (label_less x y ≡ false) → label_less x (least x y) ≡ false
    go (inl h) = rw h (less_irrefl x)
    go (inr h) = rw h h

least_right : (x y : Label) → label_less y (least x y) ≡ false
least_right x y = ap (label_less y) (least_comm x y) ∙ least_left y x

-- equal trees have one smallest label
pub same_smallest : {s t : Tree} → Same s t → smallest s ≡ smallest t
unfolding smallest
same_smallest same_leaf = refl
same_smallest (straight p q) = ap₂ least (same_smallest p) (same_smallest q)
same_smallest (crossed {c = c} {d = d} p q) = ap₂ least (same_smallest p) (same_smallest q) ∙ least_comm (smallest d) (smallest c)

-- the smallest label is a leaf's
pub smallest_in : (t : Tree) → is_in (smallest t) (leaves t) ≡ true
unfolding leaves smallest
smallest_in (leaf x) = in_one_lem x
smallest_in (node a b) = go (smallest_in a) (smallest_in b) (label_less (smallest a) (smallest b))
  where
    go : is_in (smallest a) (leaves a) ≡ true → is_in (smallest b) (leaves b) ≡ true → (less : Bool)
        → is_in (cond less (smallest a) (smallest b)) (leaves a ++ leaves b) ≡ true
    go p q true = in_left (smallest a) (leaves a) (leaves b) p
    go p q false = in_right (smallest b) (leaves a) (leaves b) q

-- at least, through a label between
pub not_less_trans : (x y z : Label) → label_less x y ≡ false → label_less y z ≡ false → label_less x z ≡ false
not_less_trans x y z h k = go (less_total x y) (bool_cases (label_less x z))
  where
    go : (label_less x y ≡ true) ⊎ ((x ≡ y) ⊎ (label_less y x ≡ true)) → (label_less x z ≡ true) ⊎ (label_less x z ≡ false)
        → label_less x z ≡ false
    go (inl m) n = clash m h
    go (inr (inl e)) n = rw e k
    go (inr (inr m)) (inl n) = clash (less_trans y x z m n) k
    go (inr (inr m)) (inr n) = n

-- no leaf is less than the smallest
pub smallest_least : (t : Tree) (x : Label) → is_in x (leaves t) ≡ true → label_less x (smallest t) ≡ false
unfolding leaves smallest
smallest_least (leaf y) x h = rw (in_one_eq x y h) (less_irrefl y)
smallest_least (node a b) x h =
    let y : Label = smallest a in
    let z : Label = smallest b in
    ⊎_elim (λ (k : is_in x (leaves a) ≡ true). not_less_trans x y (least y z) (smallest_least a x k) (least_left y z))
    (λ (k : is_in x (leaves b) ≡ true). not_less_trans x z (least y z) (smallest_least b x k) (least_right y z))
    (in_cases x (leaves a) (leaves b) h)

-- the children of a node with distinct labels have two smallest labels
pub smallest_differ : (a b : Tree) → distinct (leaves (node a b)) ≡ true → smallest a ≡ smallest b → ⊥
unfolding leaves
smallest_differ a b h e =
    clash (rw (← e) at (smallest_in b)) (distinct_apart (leaves a) (leaves b) h (smallest a) (smallest_in a))

-- then the order of the children does not matter
normal_flip : (a b : Tree) → (smallest a ≡ smallest b → ⊥) → normal (node a b) ≡ normal (node b a)
normal_flip a b n = go (bool_cases (label_less (smallest a) (smallest b)))
  where
    go : (label_less (smallest a) (smallest b) ≡ true) ⊎ (label_less (smallest a) (smallest b) ≡ false)
        → normal (node a b) ≡ normal (node b a)
    go (inl h) = normal_straight a b h ∙ sym (normal_crossed b a (less_asym (smallest a) (smallest b) h))
    go (inr h) = normal_crossed a b h ∙ sym (normal_straight b a (not_less (smallest a) (smallest b) h n))

normal_node : {a b c d : Tree} → Same a c → Same b d → normal a ≡ normal c → normal b ≡ normal d
    → normal (node a b) ≡ normal (node c d)
unfolding normal
normal_node p q e f = rw (same_smallest p, same_smallest q, e, f)

-- equal trees with distinct labels have one normal form
pub normal_of_same : {s t : Tree} → Same s t → distinct (leaves s) ≡ true → normal s ≡ normal t
unfolding leaves
normal_of_same same_leaf h = refl
normal_of_same (straight {a} {b} p q) h =
    normal_node p q (normal_of_same p (distinct_left (leaves a) (leaves b) h))
    (normal_of_same q (distinct_right (leaves a) (leaves b) h))
normal_of_same (crossed {a} {b} {c} {d} p q) h =
    normal_node p q (normal_of_same p (distinct_left (leaves a) (leaves b) h))
    (normal_of_same q (distinct_right (leaves a) (leaves b) h))
    ∙ normal_flip d c (smallest_differ d c (same_distinct (straight p q) h))

-- trees with one normal form are equal
pub same_of_normal : (s t : Tree) → normal s ≡ normal t → Same s t
same_of_normal s t e = tree_trans (tree_sym (normal_same s)) (rw e (normal_same t))

pub normal_twice : (t : Tree) → distinct (leaves t) ≡ true → normal (normal t) ≡ normal t
normal_twice t h = normal_of_same (normal_same t) (same_distinct (tree_sym (normal_same t)) h)

-- equal trees of decoded labels have one normal text
pub one_normal_text : (s t : Tree) → Proper s → Same s t → normal_text s ≡ normal_text t
unfolding normal_text
one_normal_text s t v p = ap (λ (u : Tree). text_of (relabel token_of u)) (normal_of_same p v.different)
