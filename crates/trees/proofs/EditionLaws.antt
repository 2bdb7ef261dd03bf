-- Trees and texts as an edition reads them: the shape, the places and the arrays stay; a text that an edition reads as a tree is the text
-- of a tree; the normal text by an edition's order. Assumes nothing.
use Prim.Native.Nat.{ℕ, ◌+◌, ◌<◌}
use mathlib.Core.Path.{◌≡◌, refl, sym, ◌∙◌, ap, ap₂}
use mathlib.Core.Bool.{Bool, true, false, cond}
use mathlib.Core.Logic.{inl}
use mathlib.Core.List.{List, [], ◌∷◌, ◌++◌, map, map-append, append_assoc}
use native.Mathlib.Omega.{arith}
use lib.ListN.{length, take, drop, length-append, take-append-drop}
use lib.Seq.{take_at, drop_at}
use Rattle.trees.specs.declared.Edition.{Edition}
use Rattle.trees.specs.declared.Edition.TheVariants.{One}
use Rattle.trees.specs.Bytes.{open_byte, close_byte, comma_byte, semicolon_byte}
use Rattle.trees.specs.Label.{Label, label_less}
use Rattle.trees.specs.Token.{Token, spelling, token_of, good_labels}
use Rattle.trees.specs.Tree.{Tree, leaf, node, leaves, relabel, decoded, Same, Valid, smallest, normal}
use Rattle.trees.specs.Text.{written, text_of, normal_text}
use Rattle.trees.specs.Postorder.{postorder, subtree}
use Rattle.trees.specs.Arrays.{nodes_of, starts, sizes, arrays_of}
use Rattle.trees.specs.Edition.{fold_byte, in_edition, key, folded, keyed, ValidIn, normal_in, rewritten, normal_text_in}
use Rattle.trees.proofs.FoldLaws.{map_twice, take_map, drop_map, fold_fixed, one_byte, fold_size, key_decoded}
use Rattle.trees.proofs.FoldLaws.{goods_fold, rewritten_fold, rewritten_key, distinct_unmap, one_itself}
use Rattle.trees.proofs.ListLaws.{good_head, good_cons, good_none, good_split, good_join}
use Rattle.trees.proofs.NormalLaws.{normal_same, one_normal_text}
use Rattle.trees.proofs.DecodedLaws.{decoded_count, decoded_nodes, leaf_of_token}
use Rattle.trees.proofs.RelabelLaws.{subtree_relabel, leaf_relabel, leaves_relabel, leaves_count, nodes_relabel, lefts_relabel, rights_relabel, relabel_twice}
use Rattle.trees.proofs.SameLaws.{same_distinct, tree_sym}
use Rattle.trees.proofs.TokenLaws.{token_good, valid_decoded}
use Rattle.trees.proofs.WritableLaws.{decoded_writable, normal_text_decides}

-- ---- trees

-- labels that are the same for each leaf
pub relabel_as : (f g : Label → Label) → ((x : Label) → f x ≡ g x) → (t : Tree) → relabel f t ≡ relabel g t
unfolding relabel
relabel_as f g e (leaf x) = ap leaf (e x)
relabel_as f g e (node a b) = ap₂ node (relabel_as f g e a) (relabel_as f g e b)

module _ (e : Edition) where
  pub keyed_node : (a b : Tree) → keyed e (node a b) ≡ node (keyed e a) (keyed e b)
  unfolding relabel decoded
  keyed_node a b = refl

  pub keyed_leaf : (x : Token) → keyed e (leaf x) ≡ leaf (key e x)
  unfolding relabel decoded
  keyed_leaf x = refl

  pub folded_leaves : (t : Tree) → leaves (folded e t) ≡ map (in_edition e) (leaves t)
  folded_leaves t = leaves_relabel (in_edition e) t

  pub folded_count : (t : Tree) → length (leaves (folded e t)) ≡ length (leaves t)
  folded_count t = leaves_count (in_edition e) t

  -- the labels that are compared
  pub keyed_leaves : (t : Tree) → leaves (keyed e t) ≡ map (key e) (leaves t)
  unfolding decoded
  keyed_leaves t =
      leaves_relabel spelling (folded e t) ∙ ap (map spelling) (folded_leaves t)
      ∙ map_twice spelling (in_edition e) (key e) (λ (x : Token). refl) (leaves t)

  pub keyed_count : (t : Tree) → length (leaves (keyed e t)) ≡ length (leaves t)
  keyed_count t = decoded_count (folded e t) ∙ folded_count t

  pub keyed_nodes : (t : Tree) → nodes_of (keyed e t) ≡ nodes_of t
  keyed_nodes t = decoded_nodes (folded e t) ∙ nodes_relabel (in_edition e) t

  -- a leaf of the tree is a leaf of the tree of keys
  pub leaf_of_key : (t : Tree) (i : ℕ) (y : Token) → i < nodes_of t → subtree (postorder t) i ≡ leaf y
      → subtree (postorder (keyed e t)) i ≡ leaf (key e y)
  leaf_of_key t i y h k =
      leaf_of_token (folded e t) i (in_edition e y) (rw (nodes_relabel (in_edition e) t) h)
      (subtree_relabel (in_edition e) t i h ∙ leaf_relabel (in_edition e) (subtree (postorder t) i) y k)

  -- a tree is valid exactly if it is as the edition reads it
  pub valid_folded : (t : Tree) → ValidIn e t → Valid (folded e t)
  valid_folded t v =
      record {
        labels = rw (folded_leaves t) (goods_fold e (leaves t) ∙ v.labels);
        different = v.different;
        few = rw (folded_count t) v.few;
      }

  pub folded_valid : (t : Tree) → Valid (folded e t) → ValidIn e t
  folded_valid t v =
      record {
        labels = sym (goods_fold e (leaves t)) ∙ ap good_labels (sym (folded_leaves t)) ∙ v.labels;
        different = v.different;
        few = rw (folded_count t) at v.few;
      }

  -- labels that the edition tells apart are different as they are spelled
  pub valid_spelled : (t : Tree) → ValidIn e t → Valid t
  unfolding decoded
  valid_spelled t v =
      record {
        labels = v.labels;
        different = rw (leaves_relabel spelling t) (distinct_unmap (in_edition e) (map spelling (leaves t)) (rw (← folds) at v.different));
        few = v.few;
      }
    where
      folds : map (in_edition e) (map spelling (leaves t)) ≡ leaves (keyed e t)
      folds =
          map_twice (in_edition e) spelling (key e) (λ (x : Token). sym (key_decoded e x)) (leaves t) ∙ sym (keyed_leaves t)

  -- ---- texts and arrays

  pub written_folded : (t : Tree) → written (folded e t) ≡ in_edition e (written t)
  unfolding relabel written
  written_folded (leaf x) = refl
  written_folded (node a b) =
      rw (map-append (fold_byte e) (written a) (comma_byte ∷ (written b ++ (close_byte ∷ []))), map-append (fold_byte e) (written b) (close_byte ∷ []), fold_fixed e open_byte (inl (omega arith)), fold_fixed e close_byte (inl (omega arith)), fold_fixed e comma_byte (inl (omega arith)), written_folded a, written_folded b)
      refl

  -- the text of the tree that an edition reads is the text as it reads it
  pub text_folded : (t : Tree) → text_of (folded e t) ≡ in_edition e (text_of t)
  unfolding text_of
  text_folded t =
      rw (map-append (fold_byte e) (written t) (semicolon_byte ∷ []), fold_fixed e semicolon_byte (inl (omega arith)), written_folded t) refl

  starts_folded : (t : Tree) (p : ℕ) → starts (folded e t) p ≡ starts t p
  unfolding relabel starts
  starts_folded (leaf x) p = refl
  starts_folded (node a b) p =
      rw (written_folded a, fold_size e (written a), starts_folded a (p + 1), starts_folded b (p + 1 + length (written a) + 1)) refl

  sizes_folded : (t : Tree) → sizes (folded e t) ≡ sizes t
  unfolding relabel sizes
  sizes_folded (leaf x) = ap (λ (n : ℕ). n ∷ []) (fold_size e x)
  sizes_folded (node a b) = rw (sizes_folded a, sizes_folded b) refl

  -- so its labels stand at the same places
  pub arrays_folded : (t : Tree) → arrays_of (folded e t) ≡ arrays_of t
  unfolding arrays_of
  arrays_folded t =
      rw (nodes_relabel (in_edition e) t, lefts_relabel (in_edition e) t 0, rights_relabel (in_edition e) t 0, starts_folded t 0, sizes_folded t) refl

  -- ---- a text that an edition reads as that of a tree

  record Unfolded (s : Tree) (rest text : List ℕ) : Type 0 where
    tree : Tree
    after : List ℕ
    is : text ≡ written tree ++ after
    folds : folded e tree ≡ s
    follows : in_edition e after ≡ rest

  unfold_leaf : (x rest text : List ℕ) → in_edition e text ≡ x ++ rest → Unfolded (leaf x) rest text
  unfolding relabel written
  unfold_leaf x rest text h =
      record {
        tree = leaf (take (length x) text);
        after = drop (length x) text;
        is = sym (take-append-drop (length x) text);
        folds = ap leaf (sym (take_map (fold_byte e) (length x) text) ∙ ap (take (length x)) h ∙ take_at x rest (length x) refl);
        follows = sym (drop_map (fold_byte e) (length x) text) ∙ ap (drop (length x)) h ∙ drop_at x rest (length x) refl;
      }

  unfold_written : (s : Tree) (rest text : List ℕ) → in_edition e text ≡ written s ++ rest → Unfolded s rest text
  unfolding relabel written
  unfold_written (leaf x) rest text h = unfold_leaf x rest text h
  unfold_written (node a b) rest text h =
      let o = one_byte e open_byte (written a ++ (comma_byte ∷ (written b ++ (close_byte ∷ rest)))) text (inl (omega arith)) (h ∙ split) in
      let l = unfold_written a (comma_byte ∷ (written b ++ (close_byte ∷ rest))) o.after o.follows in
      let c = one_byte e comma_byte (written b ++ (close_byte ∷ rest)) l.after (inl (omega arith)) l.follows in
      let r = unfold_written b (close_byte ∷ rest) c.after c.follows in
      let d = one_byte e close_byte rest r.after (inl (omega arith)) r.follows in
      record {
        tree = node l.tree r.tree;
        after = d.after;
        is = together l.tree r.tree text o.after l.after c.after r.after d.after o.is l.is c.is r.is d.is;
        folds = ap₂ node l.folds r.folds;
        follows = d.follows;
      }
    where
      split : written (node a b) ++ rest ≡ open_byte ∷ (written a ++ (comma_byte ∷ (written b ++ (close_byte ∷ rest))))
      split = rw (append_assoc, append_assoc) refl

      together : (p q : Tree) (t0 t1 t2 t3 t4 t5 : List ℕ) → t0 ≡ open_byte ∷ t1 → t1 ≡ written p ++ t2 → t2 ≡ comma_byte ∷ t3
          → t3 ≡ written q ++ t4 → t4 ≡ close_byte ∷ t5 → t0 ≡ written (node p q) ++ t5
      together p q t0 t1 t2 t3 t4 t5 h0 h1 h2 h3 h4 = rw (h0, h1, h2, h3, h4, append_assoc, append_assoc) refl

  -- the tree whose text it is
  pub record ReadAs (s : Tree) (text : List ℕ) : Type 0 where
    pub tree : Tree
    pub is : text ≡ text_of tree
    pub folds : folded e tree ≡ s

  pub unfold_text : (s : Tree) (text : List ℕ) → in_edition e text ≡ text_of s → ReadAs s text
  unfolding text_of
  unfold_text s text h =
      let u = unfold_written s (semicolon_byte ∷ []) text h in
      let d = one_byte e semicolon_byte [] u.after (inl (omega arith)) u.follows in
      record {
        tree = u.tree;
        is = u.is ∙ ap (λ (l : List ℕ). written u.tree ++ l) (d.is ∙ ap (◌∷◌ semicolon_byte) (nothing d.after d.follows));
        folds = u.folds;
      }
    where
      nothing : (x : List ℕ) → in_edition e x ≡ [] → x ≡ []
      nothing [] k = refl
      nothing (b ∷ x) k = absurd (omega (arith, ap length k))

  -- ---- normal text

  -- the order of children is that of the keys
  pub normal_keyed : (t : Tree) → keyed e (normal_in e t) ≡ normal (keyed e t)
  unfolding normal_in normal relabel decoded
  normal_keyed (leaf x) = refl
  normal_keyed (node a b) = go (normal_keyed a) (normal_keyed b) (label_less (smallest (keyed e a)) (smallest (keyed e b)))
    where
      go : keyed e (normal_in e a) ≡ normal (keyed e a) → keyed e (normal_in e b) ≡ normal (keyed e b) → (less : Bool)
          → keyed e (cond less (node (normal_in e a) (normal_in e b)) (node (normal_in e b) (normal_in e a)))
          ≡ cond less (node (normal (keyed e a)) (normal (keyed e b))) (node (normal (keyed e b)) (normal (keyed e a)))
      go p q true = ap₂ node p q
      go p q false = ap₂ node q p

  -- "up to spelling": as the edition reads it, the normal text is that of the keys
  pub normal_text_folded : (t : Tree) → in_edition e (normal_text_in e t) ≡ normal_text (keyed e t)
  unfolding normal_text_in normal_text decoded
  normal_text_folded t =
      sym (text_folded (relabel rewritten (normal_in e t)))
      ∙ ap text_of
      (relabel_twice (in_edition e) rewritten (normal_in e t)
      ∙ relabel_as (λ (x : Token). in_edition e (rewritten x)) (λ (x : Token). token_of (spelling (in_edition e x))) (rewritten_fold e) (normal_in e t)
      ∙ sym (relabel_twice token_of (λ (x : Token). spelling (in_edition e x)) (normal_in e t))
      ∙ ap (relabel token_of) (sym (relabel_twice spelling (in_edition e) (normal_in e t)) ∙ normal_keyed t))

  -- "Equal trees have equal normal texts under edition 2 up to spelling"
  pub one_text_in : (s t : Tree) → ValidIn e s → Same (keyed e s) (keyed e t) → in_edition e (normal_text_in e s) ≡ in_edition e (normal_text_in e t)
  one_text_in s t v p =
      normal_text_folded s
      ∙ one_normal_text (keyed e s) (keyed e t) (valid_decoded (folded e s) (valid_folded s v)) p
      ∙ sym (normal_text_folded t)

  -- and texts that are equal up to spelling are those of equal trees
  pub text_decides_in : (s t : Tree) → ValidIn e s → ValidIn e t → in_edition e (normal_text_in e s) ≡ in_edition e (normal_text_in e t)
      → Same (keyed e s) (keyed e t)
  text_decides_in s t v w h =
      normal_text_decides (keyed e s) (keyed e t) (decoded_writable (folded e s) (valid_folded s v)) (decoded_writable (folded e t) (valid_folded t w))
      (sym (normal_text_folded s) ∙ h ∙ normal_text_folded t)

  -- ---- the normal form, its labels as they are written

  normal_good : (t : Tree) → good_labels (leaves t) ≡ true → good_labels (leaves (normal_in e t)) ≡ true
  unfolding normal_in leaves
  normal_good (leaf x) h = h
  normal_good (node a b) h =
      let k = good_split (leaves a) (leaves b) h in
      go (normal_good a k.0) (normal_good b k.1) (label_less (smallest (keyed e a)) (smallest (keyed e b)))
    where
      go : good_labels (leaves (normal_in e a)) ≡ true → good_labels (leaves (normal_in e b)) ≡ true → (less : Bool)
          → good_labels (leaves (cond less (node (normal_in e a) (normal_in e b)) (node (normal_in e b) (normal_in e a)))) ≡ true
      go p q true = good_join (leaves (normal_in e a)) (leaves (normal_in e b)) p q
      go p q false = good_join (leaves (normal_in e b)) (leaves (normal_in e a)) q p

  normal_count : (t : Tree) → length (leaves (normal_in e t)) ≡ length (leaves t)
  unfolding normal_in leaves
  normal_count (leaf x) = refl
  normal_count (node a b) = go (normal_count a) (normal_count b) (label_less (smallest (keyed e a)) (smallest (keyed e b)))
    where
      go : length (leaves (normal_in e a)) ≡ length (leaves a) → length (leaves (normal_in e b)) ≡ length (leaves b) → (less : Bool)
          → length (leaves (cond less (node (normal_in e a) (normal_in e b)) (node (normal_in e b) (normal_in e a)))) ≡ length (leaves a ++ leaves b)
      go p q true = omega (arith, length-append (leaves (normal_in e a)) (leaves (normal_in e b)), length-append (leaves a) (leaves b), p, q)
      go p q false = omega (arith, length-append (leaves (normal_in e b)) (leaves (normal_in e a)), length-append (leaves a) (leaves b), p, q)

  -- written labels have the keys of those that they are written for
  pub rewritten_keyed : (t : Tree) → good_labels (leaves t) ≡ true → keyed e (relabel rewritten t) ≡ keyed e t
  unfolding relabel decoded leaves
  rewritten_keyed (leaf x) h = ap leaf (rewritten_key e x (good_head x [] h).0)
  rewritten_keyed (node a b) h =
      let k = good_split (leaves a) (leaves b) h in
      ap₂ node (rewritten_keyed a k.0) (rewritten_keyed b k.1)

  rewritten_good : (xs : List Token) → good_labels xs ≡ true → good_labels (map rewritten xs) ≡ true
  rewritten_good [] h = good_none
  rewritten_good (x ∷ xs) h = good_cons (rewritten x) (map rewritten xs) (token_good x (good_head x xs h).0) (rewritten_good xs (good_head x xs h).1)

  -- what a normal text is the text of
  abbrev pub normal_tree : Tree → Tree
  normal_tree t = relabel rewritten (normal_in e t)

  pub normal_tree_keyed : (t : Tree) → ValidIn e t → keyed e (normal_tree t) ≡ normal (keyed e t)
  normal_tree_keyed t v = rewritten_keyed (normal_in e t) (normal_good t v.labels) ∙ normal_keyed t

  pub normal_tree_same : (t : Tree) → ValidIn e t → Same (keyed e (normal_tree t)) (keyed e t)
  normal_tree_same t v = rw (normal_tree_keyed t v) (normal_same (keyed e t))

  pub normal_tree_valid : (t : Tree) → ValidIn e t → ValidIn e (normal_tree t)
  normal_tree_valid t v =
      record {
        labels = rw (leaves_relabel rewritten (normal_in e t)) (rewritten_good (leaves (normal_in e t)) (normal_good t v.labels));
        different = rw (normal_tree_keyed t v) (same_distinct (tree_sym (normal_same (keyed e t))) v.different);
        few = omega (arith, leaves_count rewritten (normal_in e t), normal_count t, v.few);
      }

-- edition 1 takes a tree as it stands
pub one_folded : (t : Tree) → folded One t ≡ t
unfolding relabel
one_folded (leaf x) = ap leaf (one_itself x)
one_folded (node a b) = ap₂ node (one_folded a) (one_folded b)

-- and its normal text is that of the decoded labels
pub one_normal : (t : Tree) → normal_text_in One t ≡ normal_text (decoded t)
one_normal t = sym (one_itself (normal_text_in One t)) ∙ normal_text_folded One t ∙ ap (λ (u : Tree). normal_text (decoded u)) (one_folded t)

-- a tree is valid by edition 1 as it stands
pub one_valid : (t : Tree) → Valid t → ValidIn One t
one_valid t v = folded_valid One t (rw (one_folded t) v)
