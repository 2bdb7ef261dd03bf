-- The labels of a tree and of a list stand in the text where their places say. Assumes nothing.
use Prim.Native.Nat.{ℕ, zero, suc, ◌+◌, ◌≤◌, ◌<◌}
use mathlib.Core.Path.{◌≡◌, refl, sym, ◌∙◌, ap, subst}
use mathlib.Core.Bool.{Bool, true, false, cond}
use mathlib.Core.Logic.{◌⊎◌, inl, inr, ⊎_elim}
use mathlib.Core.List.{List, [], ◌∷◌, ◌++◌, append_assoc, append-nil}
use native.Mathlib.Nat.{not-suc-le-zero, le_of_suc-le-suc}
use native.Mathlib.Omega.{arith}
use lib.ListN.{length, get_or, length-append}
use Rattle.trees.specs.Label.{Label, same_label, is_in}
use Rattle.trees.specs.Token.{Token, spelling, good_label, good_labels}
use Rattle.trees.specs.Tree.{Tree, leaf, node, leaves, relabel, decoded}
use Rattle.trees.specs.declared.Edition.{Edition}
use Rattle.trees.specs.Edition.{in_edition, key, folded, keyed}
use Rattle.trees.specs.Text.{written, text_of}
use Rattle.trees.specs.Words.{Within}
use Rattle.trees.proofs.Bools.{bool_cases, clash}
use Rattle.trees.proofs.LabelLaws.{same_eq}
use Rattle.trees.proofs.ListLaws.{good_head, good_split}
use Rattle.trees.proofs.DecodedLaws.{decoded_leaf, decoded_node}
use Rattle.trees.proofs.FoldLaws.{fold_size}
use Rattle.trees.proofs.EditionLaws.{written_folded}
use Rattle.lists.specs.ReadList.{joined, starts_of, folded_list, keys_of}
use Rattle.lists.proofs.EditionLists.{list_starts_folded}
use Rattle.agreement.specs.Closer.{holds}
use Rattle.agreement.specs.Places.{place_in, token_in, place_of_number, place_of_label, token_of_key, BeforeLabel, AfterLabel, LeafShown, Listed}
use Rattle.agreement.proofs.HoldsLaws.{holds_leaf, holds_cases}

-- a part of a text, and of a part of it

-- a part of a part
inner : (b y a text : List ℕ) (x : Label) (p q : ℕ) → text ≡ b ++ (y ++ a) → q ≡ length b + p → Within y p x → Within text q x
inner b y a text x p q e f s =
    record {
      before = b ++ s.before;
      after = s.after ++ a;
      is =
          e
          ∙ ap (λ (l : List ℕ). b ++ (l ++ a)) s.is
          ∙ simp append_assoc;
      place = omega (arith, s.place, length-append b s.before);
    }

before_inner : (b s : List ℕ) → BeforeLabel b → BeforeLabel s → BeforeLabel (b ++ s)
before_inner b s o (inl e) = subst BeforeLabel (sym (ap (λ (z : List ℕ). b ++ z) e ∙ append-nil b)) o
before_inner b s o (inr f) =
    inr (b ++ f.0, f.1, ap (λ (z : List ℕ). b ++ z) f.2 ∙ sym (append_assoc b f.0 (f.1 ∷ [])), f.3)

after_inner : (s a : List ℕ) → AfterLabel s → AfterLabel a → AfterLabel (s ++ a)
after_inner s a (inl e) k = subst AfterLabel (sym (ap (λ (z : List ℕ). z ++ a) e)) k
after_inner s a (inr f) k = inr (f.0, f.1 ++ a, ap (λ (z : List ℕ). z ++ a) f.2, f.3)

leaf_inner : (b y a text : List ℕ) (x : Label) (p q : ℕ) → text ≡ b ++ (y ++ a) → q ≡ length b + p → BeforeLabel b → AfterLabel a
    → LeafShown y p x → LeafShown text q x
unfolding inner
leaf_inner b y a text x p q e f o k s =
    record {
      shown = inner b y a text x p q e f s.shown;
      starts = before_inner b s.shown.before o s.starts;
      ends = after_inner s.shown.after a s.ends k;
    }

-- a label that a node's first child lacks is in its second
pub held_second : (a b : Tree) (x : Label) → holds (decoded (node a b)) x ≡ true → holds (decoded a) x ≡ false
    → holds (decoded b) x ≡ true
held_second a b x h k =
    ⊎_elim (λ (z : holds (decoded a) x ≡ true). clash z k) (λ (z : holds (decoded b) x ≡ true). z)
    (holds_cases (decoded a) (decoded b) x (rw (decoded_node a b) at h))

-- the token that stands for a label of the tree
pub token_spelled : (t : Tree) (x : Label) → holds (decoded t) x ≡ true → spelling (token_in t x) ≡ x
unfolding token_in
token_spelled (leaf y) x h = sym (holds_leaf (spelling y) x (rw (decoded_leaf y) at h))
token_spelled (node a b) x h =
    go (bool_cases (holds (decoded a) x)) (held_second a b x h) (token_spelled a x) (token_spelled b x)
  where
    go : (holds (decoded a) x ≡ true) ⊎ (holds (decoded a) x ≡ false) → (holds (decoded a) x ≡ false → holds (decoded b) x ≡ true)
        → (holds (decoded a) x ≡ true → spelling (token_in a x) ≡ x) → (holds (decoded b) x ≡ true → spelling (token_in b x) ≡ x)
        → spelling (token_in (node a b) x) ≡ x
    go (inl k) hb f g = rw k (f k)
    go (inr k) hb f g = rw k (g (hb k))

-- it is one of the tree's
pub token_good : (t : Tree) (x : Label) → good_labels (leaves t) ≡ true → good_label (token_in t x) ≡ true
unfolding token_in leaves
token_good (leaf y) x g = (good_head y [] g).0
token_good (node a b) x g =
    let w = good_split (leaves a) (leaves b) g in
    go (holds (decoded a) x) (token_good a x w.0) (token_good b x w.1)
  where
    go : (q : Bool) → good_label (token_in a x) ≡ true → good_label (token_in b x) ≡ true
        → good_label (cond q (token_in a x) (token_in b x)) ≡ true
    go true h k = h
    go false h k = k

-- it is a place of that text
pub place_inside : (t : Tree) (x : Label) (q : ℕ) → (q ≤ place_in t q x) × (place_in t q x ≤ q + length (written t))
unfolding place_in written
place_inside (leaf y) x q = (omega arith, omega arith)
place_inside (node a b) x q =
    go (bool_cases (holds (decoded a) x)) (place_inside a x (q + 1)) (place_inside b x (q + 1 + length (written a) + 1))
  where
    size : length (written (node a b)) ≡ 1 + length (written a) + 1 + length (written b) + 1
    size = omega (arith, length-append (written a) (44 ∷ (written b ++ (41 ∷ []))), length-append (written b) (41 ∷ []))

    go : (holds (decoded a) x ≡ true) ⊎ (holds (decoded a) x ≡ false)
        → (q + 1 ≤ place_in a (q + 1) x) × (place_in a (q + 1) x ≤ q + 1 + length (written a))
        → (q + 1 + length (written a) + 1 ≤ place_in b (q + 1 + length (written a) + 1) x)
        × (place_in b (q + 1 + length (written a) + 1) x ≤ q + 1 + length (written a) + 1 + length (written b))
        → (q ≤ place_in (node a b) q x) × (place_in (node a b) q x ≤ q + length (written (node a b)))
    go (inl k) f g = (rw k (omega (arith, f.0)), rw k (omega (arith, f.1, size)))
    go (inr k) f g = (rw k (omega (arith, g.0)), rw k (omega (arith, g.1, size)))

-- ---- a leaf by its key

module _ (e : Edition) where
  -- the leaf that has it, as it stands
  unfoldable pub leaf_by : Tree → Label → Token
  leaf_by (leaf y) x = y
  leaf_by (node a b) x = cond (holds (keyed e a) x) (leaf_by a x) (leaf_by b x)

  -- as the edition reads it
  pub leaf_folded : (t : Tree) (x : Label) → in_edition e (leaf_by t x) ≡ token_in (folded e t) x
  unfolding token_in leaf_by relabel
  leaf_folded (leaf y) x = refl
  leaf_folded (node a b) x = go (holds (keyed e a) x) (leaf_folded a x) (leaf_folded b x)
    where
      go : (h : Bool) → in_edition e (leaf_by a x) ≡ token_in (folded e a) x → in_edition e (leaf_by b x) ≡ token_in (folded e b) x
          → in_edition e (cond h (leaf_by a x) (leaf_by b x)) ≡ cond h (token_in (folded e a) x) (token_in (folded e b) x)
      go true f g = f
      go false f g = g

  -- the place in the node's own text, and where that text starts
  placed : (t : Tree) (x : Label) (q : ℕ) → (p : ℕ) × (place_in (folded e t) q x ≡ q + p) × LeafShown (written t) p (leaf_by t x)
  unfolding place_in written leaf_by relabel
  placed (leaf y) x q = (
    0,
    omega arith,
    record {
      shown = record { before = []; after = []; is = sym (append-nil y); place = refl };
      starts = inl refl;
      ends = inl refl;
    },
  )
  placed (node a b) x q =
      go (bool_cases (holds (keyed e a) x)) (placed a x (q + 1)) (placed b x (q + 1 + length (written (folded e a)) + 1))
    where
      count : length (written (folded e a)) ≡ length (written a)
      count = ap length (written_folded e a) ∙ fold_size e (written a)

      go : (holds (keyed e a) x ≡ true) ⊎ (holds (keyed e a) x ≡ false)
          → (p : ℕ) × (place_in (folded e a) (q + 1) x ≡ q + 1 + p) × LeafShown (written a) p (leaf_by a x)
          → (p : ℕ) × (place_in (folded e b) (q + 1 + length (written (folded e a)) + 1) x ≡ q + 1 + length (written (folded e a)) + 1 + p)
          × LeafShown (written b) p (leaf_by b x)
          → (p : ℕ) × (place_in (folded e (node a b)) q x ≡ q + p) × LeafShown (written (node a b)) p (leaf_by (node a b) x)
      go (inl k) f g = (
        1 + f.0,
        rw k (omega (arith, f.1)),
        rw k
            (leaf_inner (40 ∷ []) (written a) (44 ∷ (written b ++ (41 ∷ []))) _ (leaf_by a x) f.0 (1 + f.0) refl refl
            (inr ([], 40, refl, inl refl)) (inr (44, written b ++ (41 ∷ []), refl, inl refl)) f.2),
      )
      go (inr k) f g = (
        1 + length (written a) + 1 + g.0,
        rw k (omega (arith, g.1, count)),
        rw k
            (leaf_inner (40 ∷ (written a ++ (44 ∷ []))) (written b) (41 ∷ []) _ (leaf_by b x) g.0 (1 + length (written a) + 1 + g.0)
            (ap (λ (l : List ℕ). 40 ∷ l) (sym (append_assoc (written a) (44 ∷ []) (written b ++ (41 ∷ [])))))
            (omega (arith, length-append (written a) (44 ∷ [])))
            (inr (40 ∷ written a, 44, refl, inr refl)) (inr (41, [], refl, inr (inl refl))) g.2),
      )

  -- it stands at its place
  pub leaf_shown : (t : Tree) (x : Label) → LeafShown (text_of t) (place_in (folded e t) 0 x) (leaf_by t x)
  unfolding text_of
  leaf_shown t x =
      let w = placed t x 0 in
      leaf_inner [] (written t) (59 ∷ []) (written t ++ (59 ∷ [])) (leaf_by t x) w.0 (place_in (folded e t) 0 x) refl w.1
      (inl refl) (inr (59, [], refl, inr (inr refl))) w.2

-- a part of a part of a text
pub within_part : (text : List ℕ) (q : ℕ) (y : List ℕ) (p : ℕ) (x : List ℕ) → Within text q y → Within y p x → Within text (q + p) x
within_part text q y p x w v = inner w.before y w.after text x p (q + p) w.is (ap (λ (k : ℕ). k + p) w.place) v

-- the labels of a list

listed_later : (y text : List ℕ) (p q : ℕ) (x : Label) → q ≡ length y + 1 + p → Listed text p x → Listed (y ++ (44 ∷ text)) q x
listed_later y text p q x e l =
    record {
      shown =
          record {
            before = y ++ (44 ∷ l.shown.before);
            after = l.shown.after;
            is =
                ap (λ (z : List ℕ). y ++ (44 ∷ z)) l.shown.is
                ∙ sym (append_assoc y (44 ∷ l.shown.before) (x ++ l.shown.after));
            place = omega (arith, l.shown.place, length-append y (44 ∷ l.shown.before));
          };
      starts = later l.starts;
      ends = l.ends;
    }
  where
    later : {b : List ℕ} → (b ≡ []) ⊎ ((rest : List ℕ) × (b ≡ rest ++ (44 ∷ [])))
        → (y ++ (44 ∷ b) ≡ []) ⊎ ((rest : List ℕ) × (y ++ (44 ∷ b) ≡ rest ++ (44 ∷ [])))
    later (inl f) = inr (y, ap (λ (z : List ℕ). y ++ (44 ∷ z)) f)
    later (inr f) = inr (y ++ (44 ∷ f.0), ap (λ (z : List ℕ). y ++ (44 ∷ z)) f.1 ∙ sym (append_assoc y (44 ∷ f.0) (44 ∷ [])))

-- the first label of a list
listed_first : (y : Label) (xs : List Label) → Listed (joined (y ∷ xs)) 0 y
unfolding joined
listed_first y [] =
    record { shown = record { before = []; after = []; is = sym (append-nil y); place = refl }; starts = inl refl; ends = inl refl }
listed_first y (z ∷ xs) =
    record {
      shown = record { before = []; after = 44 ∷ joined (z ∷ xs); is = refl; place = refl };
      starts = inl refl;
      ends = inr (joined (z ∷ xs), refl);
    }

module _ (e : Edition) where
  -- the token of a list with a key
  pub listed_key : (xs : List Token) (x : Label) → is_in x (keys_of e xs) ≡ true → key e (token_of_key e xs x) ≡ x
  unfolding token_of_key is_in
  listed_key [] x h = clash h refl
  listed_key (y ∷ ys) x h = go (bool_cases (same_label x (key e y))) (listed_key ys x)
    where
      go : (same_label x (key e y) ≡ true) ⊎ (same_label x (key e y) ≡ false)
          → (is_in x (keys_of e ys) ≡ true → key e (token_of_key e ys x) ≡ x) → key e (token_of_key e (y ∷ ys) x) ≡ x
      go (inl k) f = rw k (sym (same_eq x (key e y) k))
      go (inr k) f = rw k (f (rw k at h))

  listed_at : (xs : List Token) (x : Label) → is_in x (keys_of e xs) ≡ true → (q : ℕ)
      → (p : ℕ) × (place_of_label (folded_list e xs) q x ≡ q + p) × Listed (joined xs) p (token_of_key e xs x)
  unfolding place_of_label token_of_key joined is_in
  listed_at [] x h q = clash h refl
  listed_at (y ∷ []) x h q = go (bool_cases (same_label x (key e y)))
    where
      go : (same_label x (key e y) ≡ true) ⊎ (same_label x (key e y) ≡ false)
          → (p : ℕ) × (place_of_label (folded_list e (y ∷ [])) q x ≡ q + p) × Listed (joined (y ∷ [])) p (token_of_key e (y ∷ []) x)
      go (inl k) = (0, rw k (omega arith), rw k (listed_first y []))
      go (inr k) = clash (rw k at h) refl
  listed_at (y ∷ z ∷ xs) x h q = go (bool_cases (same_label x (key e y))) (listed_at (z ∷ xs) x)
    where
      go : (same_label x (key e y) ≡ true) ⊎ (same_label x (key e y) ≡ false)
          → (is_in x (keys_of e (z ∷ xs)) ≡ true → (r : ℕ)
          → (p : ℕ) × (place_of_label (folded_list e (z ∷ xs)) r x ≡ r + p) × Listed (joined (z ∷ xs)) p (token_of_key e (z ∷ xs) x))
          → (p : ℕ) × (place_of_label (folded_list e (y ∷ z ∷ xs)) q x ≡ q + p) × Listed (joined (y ∷ z ∷ xs)) p (token_of_key e (y ∷ z ∷ xs) x)
      go (inl k) f = (0, rw k (omega arith), rw k (listed_first y (z ∷ xs)))
      go (inr k) f =
          let w = f (rw k at h) (q + length (in_edition e y) + 1) in (
            length y + 1 + w.0,
            rw k (omega (arith, w.1, fold_size e y)),
            rw k (listed_later y (joined (z ∷ xs)) w.0 (length y + 1 + w.0) (token_of_key e (z ∷ xs) x) refl w.2),
          )

  -- it stands at its place
  pub list_listed : (xs : List Token) (x : Label) → is_in x (keys_of e xs) ≡ true
      → Listed (joined xs) (place_of_label (folded_list e xs) 0 x) (token_of_key e xs x)
  list_listed xs x h =
      let w = listed_at xs x h 0 in
      let f : w.0 ≡ place_of_label (folded_list e xs) 0 x = omega (arith, w.1) in
      subst (λ (p : ℕ). Listed (joined xs) p (token_of_key e xs x)) f w.2

-- the label with a number

numbered_at : (xs : List Label) (n : ℕ) → n < length xs → (q : ℕ)
    → (p : ℕ) × (get_or (starts_of xs q) n 0 ≡ q + p) × Listed (joined xs) p (get_or xs n [])
unfolding starts_of joined
numbered_at [] n h q = absurd (not-suc-le-zero h)
numbered_at (y ∷ xs) zero h q = (0, omega arith, listed_first y xs)
numbered_at (y ∷ []) (suc n) h q = absurd (not-suc-le-zero (le_of_suc-le-suc h))
numbered_at (y ∷ z ∷ xs) (suc n) h q =
    let w = numbered_at (z ∷ xs) n (le_of_suc-le-suc h) (q + length y + 1) in
    (length y + 1 + w.0, w.1 ∙ omega arith, listed_later y (joined (z ∷ xs)) w.0 (length y + 1 + w.0) (get_or (z ∷ xs) n []) refl w.2)

-- the label with number n stands at its place
pub number_listed : (xs : List Label) (n : ℕ) → n < length xs → Listed (joined xs) (place_of_number xs n) (get_or xs n [])
unfolding place_of_number
number_listed xs n h =
    let w = numbered_at xs n h 0 in
    let e : w.0 ≡ get_or (starts_of xs 0) n 0 = omega (arith, w.1) in
    subst (λ (p : ℕ). Listed (joined xs) p (get_or xs n [])) e w.2

-- a label's number in a list tells its place, however it is spelled
pub number_folded : (e : Edition) (xs : List Token) (n : ℕ) → place_of_number (folded_list e xs) n ≡ place_of_number xs n
unfolding place_of_number
number_folded e xs n = ap (λ (l : List ℕ). get_or l n 0) (list_starts_folded e xs 0)
