-- What a tree's arrays tell of its leaves and the labels that they stand for; common leaves in label order, one leaf put in at a time,
-- and their ranks. Assumes nothing.
use Prim.Native.Nat.{ℕ, zero, suc, ◌+◌, ◌-◌, ◌<◌, ◌≤◌}
use mathlib.Core.Path.{◌≡◌, refl, sym, ◌∙◌, ap, subst}
use mathlib.Core.Bool.{Bool, true, false, cond}
use mathlib.Core.Logic.{◌⊎◌, inl, inr}
use mathlib.Core.List.{List, [], ◌∷◌}
use Rattle.std.proofs.Common.{Option, Some, None, is_none, is_some, not}
use Rattle.std.proofs.lemmas.Option.{none-some}
use Rattle.std.specs.List.{CopiedTo, SameBelow}
use Rattle.std.specs.List.Sorted.{IsPartitionedBy, IsPartitionPoint}
use Rattle.std.proofs.lemmas.Bool.{not-true, not-false}
use Rattle.std.proofs.lemmas.Grind.{get_or_default_zero}
use Rattle.std.proofs.lemmas.List.{get_or-take, length-take}
use native.Mathlib.Omega.{arith}
use native.Mathlib.Numerals.{add-one}
use native.Mathlib.Decide.{dec_lt}
use lib.Dec.{eqb}
use lib.ListN.{length, get_or, set, take, drop, replicate, length-set, length-replicate, get_or-replicate, drop_of_length-le}
use lib.Seq.{drop-cons, get_or-set_same, get_or-set_other}
use borrow.Author.Tests.{eq-eqb, ne_eqb, eqb-true, eqb-false}
use Rattle.trees.specs.Label.{Label, label_limit, label_less, is_in, distinct}
use Rattle.trees.specs.Token.{spelling, good_label, good_labels}
use Rattle.trees.specs.Tree.{Tree, leaf, node, leaves, decoded, Valid, Proper}
use Rattle.trees.specs.Arrays.{nodes_of, node_limit, arrays_of}
use Rattle.trees.specs.Stored.{part_of}
use Rattle.trees.specs.Postorder.{postorder, subtree, leaf_labels}
use Rattle.trees.proofs.EntryLaws.{below_next, store_next}
use Rattle.trees.proofs.Bools.{bool_cases, clash, refute}
use Rattle.trees.proofs.ArrayLaws.{nodes_leaves, few_nodes}
use Rattle.trees.proofs.DecodedLaws.{decoded_nodes, decoded_left, token_of_leaf}
use Rattle.trees.proofs.TokenLaws.{valid_decoded, good_spelling}
use Rattle.trees.proofs.LabelLaws.{less_ne, less_trans}
use Rattle.trees.proofs.ListLaws.{at_in, good_head, distinct_tail}
use Rattle.trees.proofs.PostorderLaws.{length_postorder, leaf_labels_lem, leaf_at, leaf_once, leaf_label_lem, subtree_in, holds_leaf}
use Rattle.agreement.specs.Closer.{holds}
use Rattle.agreement.specs.Sets.{increasing, insert, sorted, keep, common}
use Rattle.agreement.proofs.SetLaws.{in_nil, in_cases, inc_head, inc_tail, length_sorted, length_insert, sorted_inc, common_inc, in_common, within_few, common_short}
use Rattle.agreement.proofs.KeepLaws.{distinct_keep}
use Rattle.leaves.specs.Find.{found_leaf, leaf_found}
use Rattle.leaves.proofs.FindLaws.{some_found, none_found}
use Rattle.leaves.proofs.OwnLaws.{own_leaf, own_inner, own_spelling, own_found, found, missing}
use Rattle.leaves.specs.Numbered.{LeafIs, Numbered}
use Rattle.pairs.specs.OwnLeaves.{OwnLeaves, Ordered}
use Rattle.table.specs.Choice.{Ranked}
use Rattle.pairs.specs.CommonRanks.{PartnerIs, Partners, NodePartner, LeafPlaced, Place, OpenedAt, common_from, most_common, Collected, ranks_of}

-- what the arrays of a tree tell of a leaf

pub proper_nodes : (t : Tree) → Proper t → nodes_of t ≤ node_limit
proper_nodes t p = omega (arith, nodes_leaves t, p.few)

module _ {t : Tree} {text left start size : List ℕ} {nodes : ℕ} (o : OwnLeaves t text left start size nodes) where
  pub own_proper : Proper (decoded t)
  own_proper = valid_decoded t o.valid

  pub own_nodes : nodes ≡ nodes_of (decoded t)
  own_nodes = o.nodes_is ∙ sym (decoded_nodes t)

  pub own_few : nodes ≤ node_limit
  own_few = omega (arith, o.nodes_is, few_nodes t o.valid)

  pub own_left : left ≡ (arrays_of (decoded t)).left
  own_left = o.left_is ∙ sym (decoded_left t)

  -- the part of the text that shows a leaf stands for its label
  pub own_part : (u : ℕ) (x : Label) → LeafIs (decoded t) u x → spelling (part_of (get_or start u 0) (get_or size u 0) text) ≡ x
  own_part u x l =
      rw (o.text_is, o.start_is, o.size_is) (own_spelling t o.valid u x (omega (arith, l.below, decoded_nodes t)) l.is)

  pub own_leaf_at : (u : ℕ) (x : Label) → u < nodes → subtree (postorder (decoded t)) u ≡ leaf x → LeafIs (decoded t) u x
  own_leaf_at u x h e = record { below = rw (← own_nodes) h; is = e }

  pub own_found_lem : (x : Label) → found_leaf text left start size x nodes ≡ own_found t x
  own_found_lem x = rw (o.text_is, o.left_is, o.start_is, o.size_is, o.nodes_is) refl

  -- the search finds a label's leaf exactly if the tree holds it
  pub search_found : (x : Label) → holds (decoded t) x ≡ true → LeafIs (decoded t) (found_leaf text left start size x nodes) x
  unfolding holds
  search_found x h =
      rw (own_found_lem x) (let f = found t x o.valid h in record { below = f.below; is = f.is })

  pub search_missing : (x : Label) → holds (decoded t) x ≡ false → found_leaf text left start size x nodes ≡ nodes
  unfolding holds
  search_missing x h = own_found_lem x ∙ missing t x o.valid h ∙ sym o.nodes_is

-- a label put in before the first that is greater

module _ (x y : Label) (ys : List Label) (p : ℕ) where
  place_tail : Place x (y ∷ ys) (suc p) → Place x ys p
  place_tail h =
      record {
        low = omega (arith, h.low);
        before = λ r l. h.before (suc r) (omega arith);
        at = λ l. h.at (omega arith);
      }

  place_skip : Place x (y ∷ ys) (suc p) → label_less x y ≡ false
  place_skip h = h.before 0 (omega arith)

place_head : (x y : Label) (ys : List Label) → Place x (y ∷ ys) 0 → label_less x y ≡ true
place_head x y ys h = h.at (omega arith)

pub insert_before : (x : Label) (C : List Label) (p : ℕ) → Place x C p → (r : ℕ) → r < p → get_or (insert x C) r [] ≡ get_or C r []
unfolding insert
insert_before x C zero h r l = absurd (omega arith)
insert_before x [] (suc p) h r l = absurd (omega (arith, h.low))
insert_before x (y ∷ ys) (suc p) h zero l = rw (place_skip x y ys p h) refl
insert_before x (y ∷ ys) (suc p) h (suc r) l =
    rw (place_skip x y ys p h) (insert_before x ys p (place_tail x y ys p h) r (omega arith))

pub insert_at : (x : Label) (C : List Label) (p : ℕ) → Place x C p → get_or (insert x C) p [] ≡ x
unfolding insert
insert_at x [] zero h = refl
insert_at x [] (suc p) h = absurd (omega (arith, h.low))
insert_at x (y ∷ ys) zero h = rw (place_head x y ys h) refl
insert_at x (y ∷ ys) (suc p) h = rw (place_skip x y ys p h) (insert_at x ys p (place_tail x y ys p h))

pub insert_after : (x : Label) (C : List Label) (p : ℕ) → Place x C p → (r : ℕ) → p ≤ r
    → get_or (insert x C) (suc r) [] ≡ get_or C r []
unfolding insert
insert_after x [] zero h r l = refl
insert_after x [] (suc p) h r l = absurd (omega (arith, h.low))
insert_after x (y ∷ ys) zero h r l = rw (place_head x y ys h) refl
insert_after x (y ∷ ys) (suc p) h zero l = absurd (omega arith)
insert_after x (y ∷ ys) (suc p) h (suc r) l =
    rw (place_skip x y ys p h) (insert_after x ys p (place_tail x y ys p h) r (omega arith))

-- a label of lower rank comes first
inc_less : (C : List Label) → increasing C ≡ true → (i j : ℕ) → i < j → j < length C
    → label_less (get_or C i []) (get_or C j []) ≡ true
inc_less [] h i j l k = absurd (omega arith)
inc_less (x ∷ xs) h i zero l k = absurd (omega arith)
inc_less (x ∷ xs) h zero (suc j) l k = inc_head x xs h (get_or xs j []) (at_in xs j (omega arith))
inc_less (x ∷ xs) h (suc i) (suc j) l k = inc_less xs (inc_tail x xs h) i j (omega arith) (omega arith)

-- the search for the place of label x among m leaves that stand for the labels in C, each leaf shown as its label
module _ (x : Label) (C : List Label) (shown : ℕ → Label) (order : List ℕ) (m : ℕ) (count : m ≡ length C) (room : m ≤ length order)
    (is : (r : ℕ) → r < length C → shown (get_or order r 0) ≡ get_or C r []) where
  abbrev not_greater : ℕ → Bool
  not_greater u = not (label_less x (shown u))

  shown_at : (r d : ℕ) → r < m → shown (get_or (take m order) r d) ≡ get_or C r []
  shown_at r d h =
      ap shown (get_or-take m order r d h ∙ get_or_default_zero order r d (omega arith)) ∙ is r (omega arith)

  -- what the search asks: no label that is greater comes before one that isn't
  pub order_parted : increasing C ≡ true → IsPartitionedBy not_greater (take m order)
  order_parted inc i j d low within passes = go (omega (arith, length-take m order)) (dec_lt i j)
    where
      go : j < m → Dec (i < j) → not_greater (get_or (take m order) i d) ≡ true
      go h (yes l) =
          let less : label_less x (get_or C j []) ≡ false = ap (label_less x) (sym (shown_at j d h)) ∙ not-true _ passes in
          rw (shown_at i d (omega arith)) (ap not
          (refute (label_less x (get_or C i [])) (λ f. clash (less_trans x (get_or C i []) (get_or C j []) f (inc_less C inc i j l (omega arith))) less)))
      go h (no n) =
          let same : i ≡ j = omega arith in
          rw same passes

  -- what it finds
  pub point_place : (p : ℕ) → p ≤ m → IsPartitionPoint (λ y. not_greater y ≡ true) (λ y. not_greater y ≡ false) (take m order) p → Place x C p
  point_place p low k = record {
    low = omega arith;
    before = λ r l. ap (label_less x) (sym (shown_at r 0 (omega arith))) ∙ not-true _ (k.0 r 0 (omega arith) l);
    at = λ l.
        ap (label_less x) (sym (shown_at p 0 (omega arith)))
        ∙ not-false _ (k.1 p 0 (omega arith) (omega (arith, length-take m order)));
  }

good_in : (x : Label) (xs : List Label) → is_in x xs ≡ true → good_labels xs ≡ true → good_label x ≡ true
good_in x [] m g = in_nil x m
good_in x (y ∷ ys) m g = go (in_cases x y ys m) (good_head y ys g) (λ k. good_in x ys k)
  where
    go : (x ≡ y) ⊎ (is_in x ys ≡ true) → (good_label y ≡ true) × (good_labels ys ≡ true) → (is_in x ys ≡ true → good_labels ys ≡ true → good_label x ≡ true)
        → good_label x ≡ true
    go (inl e) h ih = rw e h.0
    go (inr k) h ih = ih k h.1

-- a decoded label is not empty and not too long
leaf_short : (t : Tree) → Valid t → (u : ℕ) (x : Label) → LeafIs (decoded t) u x → (1 ≤ length x) × (length x ≤ label_limit)
leaf_short t v u x l =
    let below : u < nodes_of t = omega (arith, l.below, decoded_nodes t) in
    let f = token_of_leaf t u x below l.is in
    let held = subtree_in t u below f.token (holds_leaf (subtree (postorder t) u) f.token f.is) in
    subst (λ (y : Label). (1 ≤ length y) × (length y ≤ label_limit)) f.label
    (good_spelling f.token (good_in f.token (leaves t) held v.labels))

-- the leaf of the other tree

pub none_is : (v : Option ℕ) → is_none v ≡ true → v ≡ None
none_is None e = refl
none_is (Some w) e = let z : ◌≡◌ {A = ℕ} 0 1 = cc in absurd (omega arith)

pub tested_none : (v : Option ℕ) (b : Bool) → is_some v ≡ not b → b ≡ true → v ≡ None
tested_none None b h e = refl
tested_none (Some w) b h e = clash (sym h) (ap not e)

pub tested_some : (v : Option ℕ) (b : Bool) → is_some v ≡ not b → b ≡ false → v ≡ None → ⊥
tested_some v b h e n = clash (h ∙ ap not e) (ap is_some n)

no_empty : (t : Tree) → Valid t → holds (decoded t) [] ≡ false
unfolding holds
no_empty t v =
    refute (is_in [] (leaves (decoded t)))
    (λ m.
    let a = leaf_at (decoded t) [] m in
    omega (arith, (leaf_short t v a.at [] (record { below = a.below; is = a.is })).0))

module _ {t : Tree} {text left start size : List ℕ} {nodes : ℕ} (o : OwnLeaves t text left start size nodes) (x : Label) (v : ℕ) where
  pub partner_empty : x ≡ [] → PartnerIs (decoded t) x None
  partner_empty e = record { held = λ h. clash (rw e at h) (no_empty t o.valid); lacked = λ h. refl }

  pub partner_missing : leaf_found text left start size x nodes ≡ None → PartnerIs (decoded t) x None
  partner_missing k =
      let n = none_found text left start size x nodes k in
      record { held = λ h. absurd (omega (arith, n, (search_found o x h).below, own_nodes o, own_few o)); lacked = λ h. refl }

  pub partner_found : leaf_found text left start size x nodes ≡ Some v → PartnerIs (decoded t) x (Some v)
  partner_found k =
      let s = some_found text left start size x nodes v k in
      record { held = λ h. (v, refl, rw s.0 (search_found o x h)); lacked = λ h. absurd (omega (arith, s.0, s.1, search_missing o x h)) }

-- what holds of each entry so far, and of the one stored next, holds of each entry then
store_option : (P : ℕ → Option ℕ → Type 0) (l : List (Option ℕ)) (n : ℕ) (x : Option ℕ) → n < length l
    → ((k : ℕ) → k < n → P k (get_or l k None)) → P n x → (k : ℕ) → k < n + 1 → P k (get_or (set l n x) k None)
store_option P l n x h f p =
    below_next (λ k. P k (get_or (set l n x) k None)) n (λ k less. rw (get_or-set_other l n k x None (omega arith)) (f k less))
    (rw (get_or-set_same l n x None h) p)

pub partners_none : (s t : Tree) (partner : List (Option ℕ)) → Partners 0 s t partner
partners_none s t partner = record { each = λ u h. absurd (omega arith) }

pub partners_next : (n : ℕ) (s t : Tree) (partner : List (Option ℕ)) (v : Option ℕ) → n < 159 → length partner ≡ 159
    → ((x : Label) → subtree (postorder s) n ≡ leaf x → PartnerIs t x v) → Partners n s t partner → Partners (n + 1) s t (set partner n v)
partners_next n s t partner v small size here p = record {
  each =
      store_option (λ u y. (x : Label) → subtree (postorder s) u ≡ leaf x → PartnerIs t x y) partner n v (omega arith) p.each here;
}

pub node_partner : {s : Tree} {left : List ℕ} {nodes : ℕ} → left ≡ (arrays_of s).left → nodes ≡ nodes_of s → (t : Tree) (partner : List (Option ℕ))
    → Partners nodes s t partner → (u : ℕ) (v : Option ℕ) → u < nodes → v ≡ cond (eqb (get_or left u 0) u) (get_or partner u None) None
    → NodePartner s t u v
node_partner {s} {left} {nodes} left_is nodes_is t partner p u v h e = record { at_leaf = at_leaf'; at_node = at_node' }
  where
    below : u < nodes_of s
    below = rw (← nodes_is) h

    at_leaf' : (x : Label) → subtree (postorder s) u ≡ leaf x → PartnerIs t x v
    at_leaf' x k =
        let l : get_or left u 0 ≡ u = rw (left_is) (own_leaf s u x below k) in
        rw (e, eq-eqb (get_or left u 0) u l) (p.each u h x k)

    at_node' : (a b : Tree) → subtree (postorder s) u ≡ node a b → v ≡ None
    at_node' a b k =
        let l : get_or left u 0 < u = rw (left_is) (own_inner s u a b below k) in
        e ∙ (rw (ne_eqb (get_or left u 0) u (omega arith)) refl)

-- the leaf put in at the same place
pub numbered_insert : (t : Tree) (C : List Label) (p u : ℕ) (x : Label) (old new : List ℕ) → LeafIs t u x → Place x C p
    → Numbered t C old → OpenedAt p (length C) u old new → Numbered t (insert x C) new
numbered_insert t C p u x old new l h n o r k = go r (omega (arith, length_insert x C)) (dec_lt r p) (dec_lt p r)
  where
    go : (r : ℕ) → r ≤ length C → Dec (r < p) → Dec (p < r) → LeafIs t (get_or new r 0) (get_or (insert x C) r [])
    go r b (yes i) j = rw (o.before r i, insert_before x C p h r i) (n r (omega (arith, h.low)))
    go zero b (no i) (yes j) = absurd (omega arith)
    go (suc r) b (no i) (yes j) =
        rw (o.after r (omega arith) (omega arith), insert_after x C p h r (omega arith)) (n r (omega arith))
    go r b (no i) (no j) =
        let e : r ≡ p = omega arith in
        rw (e, o.at, insert_at x C p h) l

-- the entries from p on moved by one place, and u put in at p
pub opened_at : (p m u : ℕ) (old new : List ℕ) → p ≤ m → p < length old → length new ≡ length old → CopiedTo old new p (p + 1) (m - p)
    → SameBelow old new (p + 1) → OpenedAt p m u old (set new p u)
opened_at p m u old new k l size copied same = record {
  size = length-set new p u ∙ size;
  before = λ r b. get_or-set_other new p r u 0 (omega arith) ∙ same r 0 (omega arith);
  at = get_or-set_same new p u 0 (omega arith);
  after = λ r a b.
      let e : p + (suc r - (p + 1)) ≡ r = omega arith in
      get_or-set_other new p (suc r) u 0 (omega arith) ∙ copied (suc r) 0 (omega arith) (omega arith) ∙ ap (λ (i : ℕ). get_or old i 0) e;
}

-- the common leaves among the nodes from u on

module _ (s t : Tree) (u : ℕ) (h : u < nodes_of s) where
  here : drop u (postorder s) ≡ subtree (postorder s) u ∷ drop (suc u) (postorder s)
  here = drop-cons (postorder s) u (leaf []) (omega (arith, length_postorder s))

  pub from_held : (x : Label) → subtree (postorder s) u ≡ leaf x → holds t x ≡ true
      → common_from s t u ≡ insert x (common_from s t (u + 1))
  unfolding common_from sorted keep leaf_labels
  from_held x e k = rw (add-one u, here, e, k) refl

  pub from_lacked : (x : Label) → subtree (postorder s) u ≡ leaf x → holds t x ≡ false
      → common_from s t u ≡ common_from s t (u + 1)
  unfolding common_from sorted keep leaf_labels
  from_lacked x e k = rw (add-one u, here, e, k) refl

  pub from_node : (a b : Tree) → subtree (postorder s) u ≡ node a b → common_from s t u ≡ common_from s t (u + 1)
  unfolding common_from sorted keep leaf_labels
  from_node a b e = rw (add-one u, here, e) refl

module _ (s t : Tree) where
  pub from_end : common_from s t (nodes_of s) ≡ []
  unfolding common_from sorted keep leaf_labels
  from_end =
      let e : length (postorder s) ≤ nodes_of s = omega (arith, length_postorder s) in
      rw (drop_of_length-le (postorder s) e) refl

  pub from_start : common_from s t 0 ≡ common s t
  unfolding common_from common
  from_start = rw (leaf_labels_lem s) refl

keep_drop : (X : Label → Bool) (ts : List Tree) (u : ℕ) → length (keep X (leaf_labels (drop u ts))) ≤ length (keep X (leaf_labels ts))
unfolding leaf_labels keep
keep_drop X ts zero = omega arith
keep_drop X [] (suc u) = omega arith
keep_drop X (leaf x ∷ ts) (suc u) = go (X x) (keep_drop X ts u)
  where
    go : (b : Bool) → length (keep X (leaf_labels (drop u ts))) ≤ length (keep X (leaf_labels ts))
        → length (keep X (leaf_labels (drop u ts))) ≤ length (cond b (x ∷ keep X (leaf_labels ts)) (keep X (leaf_labels ts)))
    go true h = omega arith
    go false h = h
keep_drop X (node a b ∷ ts) (suc u) = keep_drop X ts u

from_few : (s t : Tree) (u : ℕ) → Proper s → Proper t → length (common_from s t u) ≤ most_common s t
unfolding common_from holds
from_few s t u v w =
    let xs = leaf_labels (drop u (postorder s)) in
    let ys = leaf_labels (postorder s) in
    let all : length (common s t) ≤ length (leaves t) =
    within_few (common s t) (leaves t) (common_inc s t v.different) w.different (λ x m. (in_common s t x m).1) in
    omega (
      arith,
      length_sorted (keep (holds t) xs),
      length_sorted (keep (holds t) ys),
      keep_drop (holds t) (postorder s) u,
      ap (length {A = Label}) (from_start s t),
      common_short s t,
      all,
    )

-- the next node of the first tree, from the last

module _ {s t : Tree} (ps : Proper s) (pt : Proper t) {order1 : List ℕ} {m u : ℕ} {v : Option ℕ} (below : u < nodes_of s) (p : NodePartner s t u v)
    (c : Collected s t (u + 1) order1 m) where
  same : common_from s t u ≡ common_from s t (u + 1) → Collected s t u order1 m
  same e = record {
    size1 = c.size1;
    count = c.count ∙ ap (length {A = Label}) (sym e);
    first = subst (λ (C : List Label). Numbered s C order1) (sym e) c.first;
  }

  -- as many as the smaller tree has leaves: no leaf is left that the other holds
  pub collected_full : (most : ℕ) → most ≡ most_common s t → m ≡ most → Collected s t u order1 m
  collected_full most b e = go (subtree (postorder s) u) refl
    where
      full : (x : Label) → subtree (postorder s) u ≡ leaf x → (holds t x ≡ true) ⊎ (holds t x ≡ false) → Collected s t u order1 m
      full x k (inl held) =
          absurd (omega (
            arith,
            c.count,
            from_few s t u ps pt,
            length_insert x (common_from s t (u + 1)),
            ap (length {A = Label}) (from_held s t u below x k held),
          ))
      full x k (inr lacked) = same (from_lacked s t u below x k lacked)

      go : (r : Tree) → subtree (postorder s) u ≡ r → Collected s t u order1 m
      go (leaf x) k = full x k (bool_cases (holds t x))
      go (node a b) k = same (from_node s t u below a b k)

  -- no leaf of the other has its label
  pub collected_none : v ≡ None → Collected s t u order1 m
  collected_none l = go (subtree (postorder s) u) refl
    where
      held_or : (x : Label) → subtree (postorder s) u ≡ leaf x → (holds t x ≡ true) ⊎ (holds t x ≡ false) → Collected s t u order1 m
      held_or x k (inl q) = let w = (p.at_leaf x k).held q in absurd (none-some _ (sym l ∙ w.1))
      held_or x k (inr q) = same (from_lacked s t u below x k q)

      go : (r : Tree) → subtree (postorder s) u ≡ r → Collected s t u order1 m
      go (leaf x) k = held_or x k (bool_cases (holds t x))
      go (node a b) k = same (from_node s t u below a b k)

  -- one has
  pub collected_add : (v ≡ None → ⊥) → (label : Label) → ((x : Label) → LeafIs s u x → label ≡ x) → (new1 : List ℕ)
      → LeafPlaced u m (common_from s t (u + 1)) label order1 new1 → Collected s t u new1 (m + 1)
  collected_add l label is new1 a = go (subtree (postorder s) u) refl
    where
      held_or : (x : Label) → subtree (postorder s) u ≡ leaf x → (holds t x ≡ true) ⊎ (holds t x ≡ false) → Collected s t u new1 (m + 1)
      held_or x k (inr q) = absurd (l ((p.at_leaf x k).lacked q))
      held_or x k (inl q) =
          let e = from_held s t u below x k q in
          let leaf_is : LeafIs s u x = record { below = below; is = k } in
          let place : Place x (common_from s t (u + 1)) a.place =
          subst (λ (y : Label). Place y (common_from s t (u + 1)) a.place) (is x leaf_is) a.is in
          record {
            size1 = a.opened.size ∙ c.size1;
            count = rw e (omega (arith, c.count, length_insert x (common_from s t (u + 1))));
            first = rw e (numbered_insert s (common_from s t (u + 1)) a.place u x order1 new1 leaf_is place c.first (rw (← c.count) a.opened));
          }

      go : (r : Tree) → subtree (postorder s) u ≡ r → Collected s t u new1 (m + 1)
      go (leaf x) k = held_or x k (bool_cases (holds t x))
      go (node a' b') k = absurd (l (p.at_node a' b' k))

pub collected_start : (s t : Tree) (n : ℕ) (order1 : List ℕ) → n ≡ nodes_of s → length order1 ≡ 80 → Collected s t n order1 0
collected_start s t n order1 e p =
    let none : common_from s t n ≡ [] = ap (common_from s t) e ∙ from_end s t in
    record { size1 = p; count = rw none refl; first = rw none (λ r l. absurd (omega arith)) }

distinct_drop : (ts : List Tree) (u : ℕ) → distinct (leaf_labels ts) ≡ true → distinct (leaf_labels (drop u ts)) ≡ true
unfolding leaf_labels
distinct_drop ts zero d = d
distinct_drop [] (suc u) d = d
distinct_drop (leaf x ∷ ts) (suc u) d = distinct_drop ts u (distinct_tail x (leaf_labels ts) d)
distinct_drop (node a b ∷ ts) (suc u) d = distinct_drop ts u d

pub from_inc : (s t : Tree) (u : ℕ) → distinct (leaves s) ≡ true → increasing (common_from s t u) ≡ true
unfolding common_from
from_inc s t u d = sorted_inc (keep (holds t) (leaf_labels (drop u (postorder s)))) (distinct_keep (holds t) _ (distinct_drop (postorder s) u (rw (leaf_labels_lem s) d)))

-- with the leaves of the other tree
pub collected_all : (s t : Tree) (order1 order2 : List ℕ) (partner : List (Option ℕ)) (m : ℕ) → Proper s → Collected s t 0 order1 m
    → Partners (nodes_of s) s t partner
    → ((r v : ℕ) → r < m → get_or order1 r 0 < 159 → get_or partner (get_or order1 r 0) None ≡ Some v → get_or order2 r 0 ≡ v)
    → Ordered s t order1 order2 m
collected_all s t order1 order2 partner m ps c p at = record {
  count = count';
  first = first';
  second = λ r h.
      let l = first' r h in
      let w =
      (p.each (get_or order1 r 0) l.below (get_or (common s t) r []) l.is).held
      (in_common s t (get_or (common s t) r []) (at_in (common s t) r h)).1 in
      rw (at r w.0 (omega (arith, count')) (omega (arith, l.below, proper_nodes s ps)) w.1) w.2;
}
  where
    count' : m ≡ length (common s t)
    count' = c.count ∙ ap (length {A = Label}) (from_start s t)

    first' : Numbered s (common s t) order1
    first' = subst (λ (C : List Label). Numbered s C order1) (from_start s t) c.first

-- the same numbers in another array; nothing cites it, but it is what a numbering says
pub numbered_same : (t : Tree) (C : List Label) (xs ys : List ℕ) → Numbered t C xs → ((r : ℕ) → r < length C → get_or ys r 0 ≡ get_or xs r 0)
    → Numbered t C ys
numbered_same t C xs ys n e r h = rw (e r h) (n r h)

-- ranks

-- labels at different ranks differ
pub inc_differ : (C : List Label) → increasing C ≡ true → (i j : ℕ) → i < length C → j < length C → (i ≡ j → ⊥)
    → get_or C i [] ≡ get_or C j [] → ⊥
inc_differ C h i j p q n e = go (dec_lt i j)
  where
    go : Dec (i < j) → ⊥
    go (yes l) = less_ne (get_or C i []) (get_or C j []) (inc_less C h i j l q) e
    go (no l) = less_ne (get_or C j []) (get_or C i []) (inc_less C h j i (omega arith) p) (sym e)

pub length_ranks : (order : List ℕ) (r : ℕ) → length (ranks_of order r) ≡ 159
unfolding ranks_of
length_ranks order zero = length-replicate {A = ℕ} 159 80
length_ranks order (suc r) = length-set (ranks_of order r) (get_or order r 0) r ∙ length_ranks order r

pub ranks_start : (order : List ℕ) → replicate 159 80 ≡ ranks_of order 0
unfolding ranks_of
ranks_start order = refl

pub ranks_next : (order rank new : List ℕ) (r : ℕ) → rank ≡ ranks_of order r
    → (length rank ≡ 159 → new ≡ set rank (get_or order r 0) r) → new ≡ ranks_of order (r + 1)
unfolding ranks_of
ranks_next order rank new r e f =
    rw (add-one r, ← e) (f (ap (length {A = ℕ}) e ∙ length_ranks order r))

-- one rank stored
module _ (order : List ℕ) (r : ℕ) where
  ranks_same : get_or order r 0 < 159 → get_or (ranks_of order (suc r)) (get_or order r 0) 0 ≡ r
  unfolding ranks_of
  ranks_same h = get_or-set_same (ranks_of order r) (get_or order r 0) r 0 (omega (arith, length_ranks order r))

  ranks_other : (u : ℕ) → (u ≡ get_or order r 0 → ⊥) → get_or (ranks_of order (suc r)) u 0 ≡ get_or (ranks_of order r) u 0
  unfolding ranks_of
  ranks_other u n = get_or-set_other (ranks_of order r) (get_or order r 0) u r 0 n

module _ (order : List ℕ) where
  ranks_none : (r u : ℕ) → u < 159 → ((j : ℕ) → j < r → u ≡ get_or order j 0 → ⊥) → get_or (ranks_of order r) u 0 ≡ 80
  unfolding ranks_of
  ranks_none zero u h f = get_or-replicate 159 u 80 0 h
  ranks_none (suc r) u h f =
      ranks_other order r u (f r (omega arith)) ∙ ranks_none r u h (λ j l. f j (omega arith))

  ranks_held : (r j : ℕ) → j < r → get_or order j 0 < 159
      → ((k : ℕ) → k < r → (j ≡ k → ⊥) → get_or order j 0 ≡ get_or order k 0 → ⊥)
      → get_or (ranks_of order r) (get_or order j 0) 0 ≡ j
  ranks_held zero j l h f = absurd (omega arith)
  ranks_held (suc r) j l h f = go (bool_cases (eqb j r)) (λ k. ranks_held r j k h (λ i b. f i (omega arith)))
    where
      go : (eqb j r ≡ true) ⊎ (eqb j r ≡ false) → (j < r → get_or (ranks_of order r) (get_or order j 0) 0 ≡ j)
          → get_or (ranks_of order (suc r)) (get_or order j 0) 0 ≡ j
      go (inl e) ih =
          let same = eqb-true j r e in
          rw same (ranks_same order r (rw (← same) h))
      go (inr e) ih =
          ranks_other order r (get_or order j 0) (f r (omega arith) (eqb-false j r e)) ∙ ih (omega (arith, eqb-false j r e))

pub ranked : (t : Tree) (C : List Label) (order : List ℕ) (m : ℕ) → Proper t → increasing C ≡ true → m ≡ length C → Numbered t C order
    → Ranked t C (ranks_of order m)
ranked t C order m v inc e n = record {
  held = λ u r l is. held u r is.below l is.is;
  other = λ u x is z. ranks_none order m u (low u is.below) (λ j l d. other u x is.is z j l d);
}
  where
    low : (u : ℕ) → u < nodes_of t → u < 159
    low u h = omega (arith, proper_nodes t v)

    held : (u r : ℕ) → u < nodes_of t → r < length C → subtree (postorder t) u ≡ leaf (get_or C r [])
        → get_or (ranks_of order m) u 0 ≡ r
    held u r h l k =
        let same : u ≡ get_or order r 0 = leaf_once t v.different u (get_or order r 0) h (n r l).below (get_or C r []) k (n r l).is in
        rw same (ranks_held order m r (omega arith) (low (get_or order r 0) (n r l).below)
        (λ j b d (f : get_or order r 0 ≡ get_or order j 0). inc_differ C inc r j l (omega arith) d
        (leaf_label_lem (get_or C r []) (get_or C j []) (sym (n r l).is ∙ ap (subtree (postorder t)) f ∙ (n j (omega arith)).is))))

    other : (u : ℕ) (x : Label) → subtree (postorder t) u ≡ leaf x → is_in x C ≡ false → (j : ℕ) → j < m
        → u ≡ get_or order j 0 → ⊥
    other u x k z j l d =
        let same : x ≡ get_or C j [] =
        leaf_label_lem x (get_or C j []) (sym k ∙ ap (subtree (postorder t)) d ∙ (n j (omega arith)).is) in
        clash (at_in C j (omega arith)) (subst (λ (y : Label). is_in y C ≡ false) same z)

pub empty_list : (x : Label) → length x ≡ 0 → x ≡ []
empty_list [] e = refl
empty_list (b ∷ x) e = absurd (omega arith)

-- entries at places

pub record EntriesTo (n : ℕ) (ranks order found : List ℕ) : Type 0 where
  pub size : length found ≡ 80
  pub each : (i : ℕ) → i < n → get_or found i 0 ≡ get_or order (get_or ranks i 0) 0

pub entries_none : (ranks order : List ℕ) → EntriesTo 0 ranks order (replicate 80 0)
entries_none ranks order = record { size = length-replicate {A = ℕ} 80 0; each = λ i h. absurd (omega arith) }

pub entries_next : (n : ℕ) (ranks order found : List ℕ) (u : ℕ) → n < 80 → u ≡ get_or order (get_or ranks n 0) 0 → EntriesTo n ranks order found
    → EntriesTo (n + 1) ranks order (set found n u)
entries_next n ranks order found u small e t = record {
  size = length-set found n u ∙ t.size;
  each = store_next (λ i x. x ≡ get_or order (get_or ranks i 0) 0) found n u (omega (arith, t.size)) t.each e;
}
