-- A leaf that stands in only one tree: what its search over arrays finds, and what it means for a strict job. Assumes nothing.
use Prim.Native.Nat.{ℕ, suc, ◌+◌, ◌≤◌, ◌<◌}
use mathlib.Core.Path.{◌≡◌, refl, sym, ◌∙◌, ap, subst}
use mathlib.Core.Bool.{Bool, true, false, cond}
use mathlib.Core.Logic.{◌⊎◌, inl, inr}
use mathlib.Core.List.{List, [], ◌∷◌}
use native.Mathlib.Numerals.{add-one}
use native.Mathlib.Omega.{arith}
use lib.Dec.{eqb}
use lib.ListN.{length, get_or, set, drop, replicate, drop_of_length-le, length-set, length-replicate, get_or-replicate}
use lib.Seq.{drop-cons, get_or-set_same, get_or-set_other}
use borrow.Author.Tests.{eqb-true, eqb-false, eq-eqb}
use Rattle.trees.specs.declared.Body.TheVariants.{S, T}
use Rattle.trees.specs.Label.{Label}
use Rattle.trees.specs.Edition.{folded, keyed}
use Rattle.trees.specs.Tree.{Tree, leaf, node, leaves, decoded, Proper}
use Rattle.trees.specs.Arrays.{nodes_of, arrays_of}
use Rattle.trees.specs.Postorder.{postorder, subtree, leaf_labels}
use Rattle.trees.proofs.Bools.{bool_cases, clash, and_left, and_right}
use Rattle.trees.proofs.PostorderLaws.{length_postorder, leaf_labels_lem, leaf_at, leaf_once, leaf_label_lem}
use Rattle.leaves.specs.Numbered.{LeafIs}
use Rattle.leaves.proofs.OwnLaws.{own_leaf, own_inner}
use Rattle.agreement.specs.Closer.{holds}
use Rattle.agreement.specs.Strict.{SameLeaves, StrayTold, Stray, nowhere, first_outside, in_either, stray_of}
use Rattle.agreement.proofs.StrictLaws.{stray_exactly}
use Rattle.pairs.specs.declared.Options.{Options}
use Rattle.std.proofs.Common.{Option, Some, None, is_none, Ok, Err}
use Rattle.std.proofs.lemmas.Option.{none-some}
use Rattle.pairs.specs.OwnLeaves.{OwnLeaves}
use Rattle.pairs.specs.CommonRanks.{Partners, PartnerIs, NodePartner}
use Rattle.pairs.specs.TwoTrees.{stray_for}
use Rattle.pairs.specs.LoneLeaves.{lone, Lone, stray_at, shared_of}
use Rattle.pairs.proofs.RankLaws.{proper_nodes, none_is}
use Rattle.pairs.proofs.LeafPlaces.{own_start, leaf_held}

-- the leaf that a leaf's partner is
own_partner : {s t : Tree} {u w : ℕ} → NodePartner s t u (Some w) → (x : Label) → subtree (postorder s) u ≡ leaf x → holds t x ≡ true → LeafIs t w x
own_partner {t = t} {w = w} p x e k = let f = (p.at_leaf x e).held k in let same : f.0 ≡ w = some_same (sym f.1) in subst (λ (i : ℕ). LeafIs t i x) same f.2
  where
    some_same : {i j : ℕ} → Some i ≡ Some j → i ≡ j
    some_same h = cc

-- a node that is its own left child is a leaf
own_is_leaf : {t : Tree} {left : List ℕ} → left ≡ (arrays_of t).left → (u : ℕ) → u < nodes_of t → get_or left u 0 ≡ u
    → ((x : Label) × LeafIs t u x)
own_is_leaf {t} {left} left_is u below e = go (subtree (postorder t) u) refl
  where
    go : (s : Tree) → subtree (postorder t) u ≡ s → ((x : Label) × LeafIs t u x)
    go (leaf x) k = (x, record { below = below; is = k })
    go (node a b) k =
        let z : get_or left u 0 < u = rw left_is (own_inner t u a b below k) in
        absurd (omega arith)

-- the search from left to right: what is left to look through tells the same as all leaves

-- the same first leaf is found among the nodes from u on
abbrev pub LoneFrom : Tree → Tree → ℕ → Type 0
LoneFrom s t u = first_outside (holds t) (leaf_labels (drop u (postorder s))) ≡ first_outside (holds t) (leaves s)

pub lone_start : (s t : Tree) → LoneFrom s t 0
lone_start s t = ap (first_outside (holds t)) (leaf_labels_lem s)

module _ {s t : Tree} {left : List ℕ} {partner : List (Option ℕ)} {nodes : ℕ} (left_is : left ≡ (arrays_of s).left) (nodes_is : nodes ≡ nodes_of s) (v : Proper t)
    (p : Partners nodes s t partner) (u : ℕ) (from : LoneFrom s t u) where
  module _ (h : u < nodes) where
    below : u < nodes_of s
    below = rw (← nodes_is) h

    here : drop u (postorder s) ≡ subtree (postorder s) u ∷ drop (suc u) (postorder s)
    here = drop-cons (postorder s) u (leaf []) (omega (arith, length_postorder s))

    lacked : (x : Label) → PartnerIs t x (get_or partner u None) → get_or partner u None ≡ None → (holds t x ≡ true) ⊎ (holds t x ≡ false) → holds t x ≡ false
    lacked x q n (inl e) = absurd (none-some _ (sym n ∙ (q.held e).1))
    lacked x q n (inr e) = e

    pub lone_found : lone (get_or left u 0) u (get_or partner u None) ≡ true → Lone s t (Some u)
    unfolding first_outside leaf_labels
    lone_found k =
        let child : eqb (get_or left u 0) u ≡ true = and_left _ (is_none (get_or partner u None)) k in
        let alone : is_none (get_or partner u None) ≡ true = and_right (eqb (get_or left u 0) u) _ k in
        let l = own_is_leaf left_is u below (eqb-true (get_or left u 0) u child) in
        let n = lacked l.0 (p.each u h l.0 l.1.is) (none_is (get_or partner u None) alone) (bool_cases (holds t l.0)) in
        (l.0, l.1, sym from ∙ (rw (here, l.1.is, n) refl))

    held : (x : Label) → subtree (postorder s) u ≡ leaf x → lone (get_or left u 0) u (get_or partner u None) ≡ false
        → (holds t x ≡ true) ⊎ (holds t x ≡ false) → holds t x ≡ true
    held x e k (inl q) = q
    held x e k (inr q) =
        let l : get_or left u 0 ≡ u = rw left_is (own_leaf s u x below e) in
        let f : is_none (get_or partner u None) ≡ false = rw (eq-eqb (get_or left u 0) u l) at k in
        clash (ap is_none ((p.each u h x e).lacked q)) f

    pub lone_next : lone (get_or left u 0) u (get_or partner u None) ≡ false → LoneFrom s t (u + 1)
    unfolding first_outside leaf_labels
    lone_next k = sym (go (subtree (postorder s) u) refl) ∙ from
      where
        go : (r : Tree) → subtree (postorder s) u ≡ r
            → first_outside (holds t) (leaf_labels (drop u (postorder s))) ≡ first_outside (holds t) (leaf_labels (drop (u + 1) (postorder s)))
        go (leaf x) e = let q = held x e k (bool_cases (holds t x)) in rw (add-one u, here, e, q) refl
        go (node a b) e = rw (add-one u, here, e) refl

  pub lone_none : u ≡ nodes → Lone s t None
  unfolding first_outside leaf_labels
  lone_none e =
      let k : length (postorder s) ≤ u = omega (arith, length_postorder s, nodes_is) in
      sym from ∙ (rw (drop_of_length-le (postorder s) k) refl)

-- a strict job is not stopped exactly if both trees hold the same leaves, and any other never is

pub shared_nowhere : (o : Options) (s t : Tree) → (o.strict ≡ true → SameLeaves (keyed o.edition s) (keyed o.edition t)) → stray_for o s t ≡ nowhere
unfolding stray_for
shared_nowhere o s t h = go o.strict refl
  where
    go : (b : Bool) → o.strict ≡ b → cond b (stray_of (keyed o.edition s) (keyed o.edition t)) nowhere ≡ nowhere
    go true e = (stray_exactly (keyed o.edition s) (keyed o.edition t) nowhere).1 (h e)
    go false e = refl

pub nowhere_shared : (o : Options) (s t : Tree) → stray_for o s t ≡ nowhere → o.strict ≡ true → SameLeaves (keyed o.edition s) (keyed o.edition t)
unfolding stray_for
nowhere_shared o s t e k = (stray_exactly (keyed o.edition s) (keyed o.edition t) nowhere).0 (rw k at e)

-- what is told of a job that is stopped
pub stray_strict : (o : Options) (s t : Tree) (r : Stray) → stray_for o s t ≡ r → (r ≡ nowhere → ⊥)
    → (o.strict ≡ true) × StrayTold (keyed o.edition s) (keyed o.edition t) r
unfolding stray_for
stray_strict o s t r e n = go o.strict refl e
  where
    go : (b : Bool) → o.strict ≡ b → cond b (stray_of (keyed o.edition s) (keyed o.edition t)) nowhere ≡ r
        → (o.strict ≡ true) × StrayTold (keyed o.edition s) (keyed o.edition t) r
    go true k h = (k, (stray_exactly (keyed o.edition s) (keyed o.edition t) r).0 h)
    go false k h = absurd (n (sym h))

pub stray_told : (o : Options) (s t : Tree) → o.strict ≡ true → (r : Stray) → StrayTold (keyed o.edition s) (keyed o.edition t) r → stray_for o s t ≡ r
unfolding stray_for
stray_told o s t e r h = rw e ((stray_exactly (keyed o.edition s) (keyed o.edition t) r).1 h)

-- the partners turned round, after u nodes of the first tree: each leaf of the second has its leaf among them, if there is one
abbrev Back : Tree → Tree → ℕ → List (Option ℕ) → ℕ → Label → Type 0
Back s t u back v x =
    ((k : ℕ) × (k < u) × LeafIs s k x × (get_or back v None ≡ Some k)) ⊎ (((k : ℕ) → k < u → LeafIs s k x → ⊥) × (get_or back v None ≡ None))

pub record Turned (s t : Tree) (u : ℕ) (back : List (Option ℕ)) : Type 0 where
  pub size : length back ≡ 159
  pub each : (v : ℕ) (x : Label) → LeafIs t v x → Back s t u back v x

pub turned_start : (s t : Tree) → Proper t → Turned s t 0 (replicate 159 None)
turned_start s t valid = record {
  size = length-replicate {A = Option ℕ} 159 None;
  each = λ v x l.
      inr (λ k h. absurd (omega arith), get_or-replicate 159 v None None (omega (arith, l.below, proper_nodes t valid)));
}

module _ {s t : Tree} (valid : Proper t) {u : ℕ} {back : List (Option ℕ)} (h : u < nodes_of s) (old : Turned s t u back) where
  -- a node with no partner
  pub turned_none : NodePartner s t u None → Turned s t (u + 1) back
  turned_none p = record { size = old.size; each = λ v x l. go v x l (old.each v x l) }
    where
      no_leaf : (v : ℕ) (x : Label) → LeafIs t v x → LeafIs s u x → ⊥
      no_leaf v x l m = let w = (p.at_leaf x m.is).held (leaf_held t v x l) in none-some _ w.1

      go : (v : ℕ) (x : Label) → LeafIs t v x → Back s t u back v x → Back s t (u + 1) back v x
      go v x l (inl k) = inl (k.0, omega (arith, k.1), k.2, k.3)
      go v x l (inr k) = inr (none_yet, k.1)
        where
          none_yet : (i : ℕ) → i < u + 1 → LeafIs s i x → ⊥
          none_yet i g m = later (bool_cases (eqb i u))
            where
              later : (eqb i u ≡ true) ⊎ (eqb i u ≡ false) → ⊥
              later (inl e) = no_leaf v x l (rw (← eqb-true i u e) m)
              later (inr e) = k.0 i (omega (arith, eqb-false i u e)) m

  module _ {w : ℕ} (p : NodePartner s t u (Some w)) where
    -- the leaf that u is the partner of
    new_back : (x : Label) → LeafIs t w x → Back s t (u + 1) (set back w (Some u)) w x
    new_back x l = go (subtree (postorder s) u) refl
      where
        low : w < 159
        low = omega (arith, l.below, proper_nodes t valid)

        partner : (y : Label) → subtree (postorder s) u ≡ leaf y → (holds t y ≡ true) ⊎ (holds t y ≡ false) → Back s t (u + 1) (set back w (Some u)) w x
        partner y e (inl k) =
            let q : y ≡ x = leaf_label_lem y x (sym (own_partner p y e k).is ∙ l.is) in
            inl (u, omega arith, record { below = h; is = rw q at e }, get_or-set_same back w (Some u) None (omega (arith, old.size, low)))
        partner y e (inr k) = absurd (none-some _ (sym ((p.at_leaf y e).lacked k)))

        go : (r : Tree) → subtree (postorder s) u ≡ r → Back s t (u + 1) (set back w (Some u)) w x
        go (leaf y) e = partner y e (bool_cases (holds t y))
        go (node a b) e = absurd (none-some _ (sym (p.at_node a b e)))

    -- and every other
    old_back : (v : ℕ) (x : Label) → LeafIs t v x → (v ≡ w → ⊥) → Back s t u back v x → Back s t (u + 1) (set back w (Some u)) v x
    old_back v x l n (inl k) = inl (k.0, omega (arith, k.1), k.2, get_or-set_other back w v (Some u) None n ∙ k.3)
    old_back v x l n (inr k) = inr (none_yet, get_or-set_other back w v (Some u) None n ∙ k.1)
      where
        none_yet : (i : ℕ) → i < u + 1 → LeafIs s i x → ⊥
        none_yet i g m = later (bool_cases (eqb i u))
          where
            later : (eqb i u ≡ true) ⊎ (eqb i u ≡ false) → ⊥
            later (inl e) =
                let q = own_partner p x (rw (eqb-true i u e) at m.is) (leaf_held t v x l) in
                n (leaf_once t valid.different v w l.below q.below x l.is q.is)
            later (inr e) = k.0 i (omega (arith, eqb-false i u e)) m

    pub turned_next : Turned s t (u + 1) (set back w (Some u))
    turned_next = record { size = length-set back w (Some u) ∙ old.size; each = λ v x l. go v x l (bool_cases (eqb v w)) }
      where
        go : (v : ℕ) (x : Label) → LeafIs t v x → (eqb v w ≡ true) ⊎ (eqb v w ≡ false) → Back s t (u + 1) (set back w (Some u)) v x
        go v x l (inl e) = let q = eqb-true v w e in rw q (new_back x (rw q at l))
        go v x l (inr e) = old_back v x l (eqb-false v w e) (old.each v x l)

pub turned_all : {s t : Tree} {u : ℕ} {back : List (Option ℕ)} → u ≡ nodes_of s → Turned s t u back → Partners (nodes_of t) t s back
unfolding holds
turned_all {s} {t} {u} {back} n r = record { each = λ v h x e. go v x (r.each v x (record { below = h; is = e })) }
  where
    go : (v : ℕ) (x : Label) → Back s t u back v x → PartnerIs s x (get_or back v None)
    go v x (inl k) = record {
      held = λ _. (k.0, k.3, k.2);
      lacked = λ z. clash (leaf_held s k.0 x k.2) z;
    }
    go v x (inr k) = record {
      held = λ z. let a = leaf_at s x z in absurd (k.0 a.at (omega (arith, a.below)) (record { below = a.below; is = a.is }));
      lacked = λ _. k.1;
    }

pub partners_of : {s t : Tree} {back : List (Option ℕ)} {nodes : ℕ} → nodes ≡ nodes_of t → Partners (nodes_of t) t s back → Partners nodes t s back
partners_of e p = rw e p

-- number 12 or none, from the searches through both trees
module _ {s t : Tree} {text1 left1 start1 size1 text2 left2 start2 size2 : List ℕ} {nodes1 nodes2 : ℕ}
    (one : OwnLeaves s text1 left1 start1 size1 nodes1) (two : OwnLeaves t text2 left2 start2 size2 nodes2) where
  pub shared_first : (u : ℕ) → Lone (decoded s) (decoded t) (Some u)
      → Err (stray_at S (get_or start1 u 0)) ≡ shared_of s t (stray_of (decoded s) (decoded t))
  unfolding stray_of in_either shared_of
  shared_first u k =
      let at = ap (λ (l : List ℕ). get_or l u 0) one.start_is ∙ own_start s one.valid u k.0 k.1 in
      ap (λ (i : ℕ). Err (stray_at S i)) at ∙ (rw k.2 refl)

  module _ (none1 : Lone (decoded s) (decoded t) None) where
    pub shared_second : (v : ℕ) → Lone (decoded t) (decoded s) (Some v)
        → Err (stray_at T (get_or start2 v 0)) ≡ shared_of s t (stray_of (decoded s) (decoded t))
    unfolding stray_of in_either shared_of
    shared_second v k =
        let at = ap (λ (l : List ℕ). get_or l v 0) two.start_is ∙ own_start t two.valid v k.0 k.1 in
        ap (λ (i : ℕ). Err (stray_at T i)) at ∙ (rw (none1, k.2) refl)

    pub shared_all : Lone (decoded t) (decoded s) None → Ok tt ≡ shared_of s t (stray_of (decoded s) (decoded t))
    unfolding stray_of in_either shared_of
    shared_all none2 = rw (none1, none2) refl

pub paired_plain : (o : Options) (s t : Tree) → o.strict ≡ false
    → Ok tt ≡ shared_of (folded o.edition s) (folded o.edition t) (stray_for o s t)
unfolding stray_for shared_of
paired_plain o s t e = rw e refl

pub paired_strict : (o : Options) (s t : Tree) → o.strict ≡ true
    → shared_of (folded o.edition s) (folded o.edition t) (stray_of (keyed o.edition s) (keyed o.edition t))
    ≡ shared_of (folded o.edition s) (folded o.edition t) (stray_for o s t)
unfolding stray_for
paired_strict o s t e = rw e refl
