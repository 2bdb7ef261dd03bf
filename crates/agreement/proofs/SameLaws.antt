-- Equal trees hold the same labels and have the same closer pairs. Assumes nothing.
use mathlib.Core.Path.{◌≡◌, refl, sym, ◌∙◌, ap, ap₂}
use mathlib.Core.Bool.{true, false, not, ◌&&◌, ◌||◌, or_comm}
use mathlib.Core.Logic.{◌⊎◌, inl, inr}
use mathlib.Core.Option.{Option}
use Rattle.trees.specs.Label.{Label, distinct}
use Rattle.trees.specs.Tree.{Tree, node, leaves, Same, same_leaf, straight, crossed}
use Rattle.trees.proofs.Bools.{bool_cases, clash, and_left}
use Rattle.agreement.specs.Closer.{holds, lca, closer}
use Rattle.agreement.specs.Restrict.{join_kept}
use Rattle.agreement.specs.SameKept.{SameKept, both_none, both_some}
use Rattle.agreement.proofs.HoldsLaws.{Joined, holds_node, distinct_node}
use Rattle.agreement.proofs.CloserLaws.{lca_left, lca_right, lca_top}

pub same_holds : {s t : Tree} → Same s t → (x : Label) → holds s x ≡ holds t x
same_holds same_leaf x = refl
same_holds (straight {a} {b} {c} {d} m n) x = holds_node a b x ∙ ap₂ ◌||◌ (same_holds m x) (same_holds n x) ∙ sym (holds_node c d x)
same_holds (crossed {a} {b} {c} {d} m n) x =
    holds_node a b x ∙ ap₂ ◌||◌ (same_holds m x) (same_holds n x) ∙ or_comm (holds d x) (holds c x) ∙ sym (holds_node c d x)

-- both labels are held by the one exactly if by the other
same_both : {s t : Tree} → Same s t → (x y : Label) → (holds t x && holds t y) ≡ (holds s x && holds s y)
same_both m x y = sym (ap₂ ◌&&◌ (same_holds m x) (same_holds m y))

lca_straight : {a b c d : Tree} (x y : Label) → Same a c → Same b d → Same (lca a x y) (lca c x y) → Same (lca b x y) (lca d x y)
    → Same (lca (node a b) x y) (lca (node c d) x y)
lca_straight {a} {b} {c} {d} x y m n f g = go (bool_cases (holds a x && holds a y)) (bool_cases (holds b x && holds b y))
  where
    go : ((holds a x && holds a y) ≡ true) ⊎ ((holds a x && holds a y) ≡ false)
        → ((holds b x && holds b y) ≡ true) ⊎ ((holds b x && holds b y) ≡ false)
        → Same (lca (node a b) x y) (lca (node c d) x y)
    go (inl h) k = rw (lca_left a b x y h, lca_left c d x y (same_both m x y ∙ h)) f
    go (inr h) (inl k) = rw (lca_right a b x y h k, lca_right c d x y (same_both m x y ∙ h) (same_both n x y ∙ k)) g
    go (inr h) (inr k) = rw (lca_top a b x y h k, lca_top c d x y (same_both m x y ∙ h) (same_both n x y ∙ k)) (straight m n)

lca_crossed : {a b c d : Tree} (x y : Label) → Joined (leaves a) (leaves b) → Same a d → Same b c → Same (lca a x y) (lca d x y)
    → Same (lca b x y) (lca c x y)
    → Same (lca (node a b) x y) (lca (node c d) x y)
unfolding holds
lca_crossed {a} {b} {c} {d} x y j m n f g = go (bool_cases (holds a x && holds a y)) (bool_cases (holds b x && holds b y))
  where
    go : ((holds a x && holds a y) ≡ true) ⊎ ((holds a x && holds a y) ≡ false)
        → ((holds b x && holds b y) ≡ true) ⊎ ((holds b x && holds b y) ≡ false)
        → Same (lca (node a b) x y) (lca (node c d) x y)
    go (inl h) (inl k) = clash (and_left (holds b x) (holds b y) k) (j.apart x (and_left (holds a x) (holds a y) h))
    go (inl h) (inr k) = rw (lca_left a b x y h, lca_right c d x y (same_both n x y ∙ k) (same_both m x y ∙ h)) f
    go (inr h) (inl k) = rw (lca_right a b x y h k, lca_left c d x y (same_both n x y ∙ k)) g
    go (inr h) (inr k) = rw (lca_top a b x y h k, lca_top c d x y (same_both n x y ∙ k) (same_both m x y ∙ h)) (crossed m n)

same_lca : {s t : Tree} → Same s t → distinct (leaves s) ≡ true → (x y : Label) → Same (lca s x y) (lca t x y)
same_lca same_leaf d x y = unfold lca in same_leaf
same_lca (straight {a} {b} m n) k x y =
    lca_straight x y m n (same_lca m (distinct_node a b k).one x y) (same_lca n (distinct_node a b k).two x y)
same_lca (crossed {a} {b} m n) k x y =
    lca_crossed x y (distinct_node a b k) m n (same_lca m (distinct_node a b k).one x y) (same_lca n (distinct_node a b k).two x y)

pub same_closer : {s t : Tree} → Same s t → distinct (leaves s) ≡ true → (a b c : Label) → closer s a b c ≡ closer t a b c
unfolding closer
same_closer m d a b c = ap not (same_holds (same_lca m d a b) c)

-- restrictions joined

pub join_straight : {o u o' u' : Option Tree} → SameKept o o' → SameKept u u' → SameKept (join_kept o u) (join_kept o' u')
unfolding join_kept
join_straight both_none both_none = both_none
join_straight both_none (both_some n) = both_some n
join_straight (both_some m) both_none = both_some m
join_straight (both_some m) (both_some n) = both_some (straight m n)

pub join_crossed : {o u o' u' : Option Tree} → SameKept o u' → SameKept u o' → SameKept (join_kept o u) (join_kept o' u')
unfolding join_kept
join_crossed both_none both_none = both_none
join_crossed both_none (both_some n) = both_some n
join_crossed (both_some m) both_none = both_some m
join_crossed (both_some m) (both_some n) = both_some (crossed m n)
