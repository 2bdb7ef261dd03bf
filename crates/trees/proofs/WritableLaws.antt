-- Trees of decoded labels that can be written: what a valid tree stands for is one, and its written form is a valid tree that stands for
-- it. Assumes nothing.
use mathlib.Core.Path.{◌≡◌, refl, sym, ◌∙◌, ap, ap₂}
use mathlib.Core.Bool.{Bool, true, false, ◌&&◌, and_comm}
use mathlib.Core.List.{List, [], ◌∷◌, ◌++◌, map}
use native.Mathlib.Omega.{arith}
use Rattle.trees.specs.Label.{Label, same_label}
use Rattle.trees.specs.Token.{Token, spelling, token_of, good_label, good_labels}
use Rattle.trees.specs.Tree.{Tree, leaf, node, leaves, relabel, decoded, Same, Valid, normal}
use Rattle.trees.specs.Text.{normal_text}
use Rattle.trees.specs.Writable.{writable_label, writable_labels, Writable}
use Rattle.trees.proofs.Bools.{and_left, and_right, and_intro}
use Rattle.trees.proofs.LabelLaws.{same_eq, eq_same}
use Rattle.trees.proofs.ListLaws.{good_head, good_cons, good_none, good_loose}
use Rattle.trees.proofs.SameLaws.{same_joined, same_distinct, same_length, tree_sym}
use Rattle.trees.proofs.NormalLaws.{normal_same, same_of_normal}
use Rattle.trees.proofs.WrittenLaws.{text_read}
use Rattle.trees.proofs.RelabelLaws.{leaves_relabel, leaves_count}
use Rattle.trees.proofs.TokenLaws.{valid_decoded, valid_intro, token_good, token_back}

-- ---- labels

pub writable_good : (x : Label) → writable_label x ≡ true → good_label (token_of x) ≡ true
unfolding writable_label
writable_good x h = and_left (good_label (token_of x)) (same_label (spelling (token_of x)) x) h

pub label_back : (x : Label) → writable_label x ≡ true → spelling (token_of x) ≡ x
unfolding writable_label
label_back x h = same_eq (spelling (token_of x)) x (and_right (good_label (token_of x)) (same_label (spelling (token_of x)) x) h)

-- what a good token stands for can be written
pub spelled_writable : (x : Token) → good_label x ≡ true → writable_label (spelling x) ≡ true
unfolding writable_label
spelled_writable x h =
    and_intro (good_label (token_of (spelling x))) (same_label (spelling (token_of (spelling x))) (spelling x)) (token_good x h)
    (eq_same (spelling (token_of (spelling x))) (spelling x) (token_back x h))

-- ---- lists of labels

pub writable_head : (x : Label) (xs : List Label) → writable_labels (x ∷ xs) ≡ true → (writable_label x ≡ true) × (writable_labels xs ≡ true)
unfolding writable_labels
writable_head x xs h = (and_left (writable_label x) (writable_labels xs) h, and_right (writable_label x) (writable_labels xs) h)

pub writable_cons : (x : Label) (xs : List Label) → writable_label x ≡ true → writable_labels xs ≡ true → writable_labels (x ∷ xs) ≡ true
unfolding writable_labels
writable_cons x xs h k = and_intro (writable_label x) (writable_labels xs) h k

writable_append : (xs ys : List Label) → writable_labels (xs ++ ys) ≡ (writable_labels xs && writable_labels ys)
unfolding writable_labels
writable_append [] ys = refl
writable_append (x ∷ xs) ys = go (writable_label x) (writable_append xs ys)
  where
    go : (b : Bool) → writable_labels (xs ++ ys) ≡ (writable_labels xs && writable_labels ys)
        → (b && writable_labels (xs ++ ys)) ≡ ((b && writable_labels xs) && writable_labels ys)
    go true e = e
    go false e = refl

pub spelled_all : (xs : List Token) → good_labels xs ≡ true → writable_labels (map spelling xs) ≡ true
unfolding writable_labels
spelled_all [] h = refl
spelled_all (x ∷ xs) h =
    writable_cons (spelling x) (map spelling xs) (spelled_writable x (good_head x xs h).0) (spelled_all xs (good_head x xs h).1)

-- their written forms are good tokens that stand for them
pub tokens_good : (xs : List Label) → writable_labels xs ≡ true → good_labels (map token_of xs) ≡ true
tokens_good [] h = good_none
tokens_good (x ∷ xs) h =
    good_cons (token_of x) (map token_of xs) (writable_good x (writable_head x xs h).0) (tokens_good xs (writable_head x xs h).1)

pub tokens_back : (xs : List Label) → writable_labels xs ≡ true → map spelling (map token_of xs) ≡ xs
tokens_back [] h = refl
tokens_back (x ∷ xs) h =
    ap₂ {C = List Label} ◌∷◌ (label_back x (writable_head x xs h).0) (tokens_back xs (writable_head x xs h).1)

-- ---- trees

pub decoded_writable : (t : Tree) → Valid t → Writable (decoded t)
unfolding decoded
decoded_writable t v =
    let p = valid_decoded t v in
    record {
      labels = rw (leaves_relabel spelling t) (spelled_all (leaves t) v.labels);
      different = p.different;
      few = p.few;
    }

pub tree_back : (t : Tree) → writable_labels (leaves t) ≡ true → decoded (relabel token_of t) ≡ t
unfolding decoded relabel leaves
tree_back (leaf x) h = ap leaf (label_back x (writable_head x [] h).0)
tree_back (node a b) h =
    let k = writable_append (leaves a) (leaves b) in
    ap₂ node (tree_back a (and_left (writable_labels (leaves a)) (writable_labels (leaves b)) (sym k ∙ h)))
    (tree_back b (and_right (writable_labels (leaves a)) (writable_labels (leaves b)) (sym k ∙ h)))

pub writable_back : (t : Tree) → Writable t → decoded (relabel token_of t) ≡ t
writable_back t w = tree_back t w.labels

pub writable_valid : (t : Tree) → Writable t → Valid (relabel token_of t)
writable_valid t w =
    valid_intro (relabel token_of t) (rw (leaves_relabel token_of t) (tokens_good (leaves t) w.labels))
    (rw (writable_back t w) w.different) (omega (arith, leaves_count token_of t, w.few))

pub same_writable : {s t : Tree} → Same s t → Writable s → Writable t
same_writable {s} {t} p w =
    record {
      labels = rw (same_joined ◌&&◌ writable_labels and_comm writable_append p) at w.labels;
      different = same_distinct p w.different;
      few = rw (same_length p) at w.few;
    }

pub normal_writable : (t : Tree) → Writable t → Writable (normal t)
normal_writable t w = same_writable (tree_sym (normal_same t)) w

-- trees that can be written and have one normal text are equal
pub normal_text_decides : (s t : Tree) → Writable s → Writable t → normal_text s ≡ normal_text t → Same s t
unfolding normal_text
normal_text_decides s t v w e =
    let m = normal_writable s v in
    let n = normal_writable t w in
    same_of_normal s t
    (sym (writable_back (normal s) m)
    ∙ ap decoded
    (text_read (relabel token_of (normal s)) (relabel token_of (normal t)) (good_loose (leaves (relabel token_of (normal s))) (writable_valid (normal s) m).labels)
    (good_loose (leaves (relabel token_of (normal t))) (writable_valid (normal t) n).labels) e)
    ∙ writable_back (normal t) n)
