-- Unique readability: a tree of tokens is told by its text. Assumes nothing.
use Prim.Native.Nat.{ℕ, ◌≤◌}
use mathlib.Core.Path.{◌≡◌, refl, sym, ◌∙◌, ap, ap₂}
use mathlib.Core.Bool.{Bool, true, false, ◌||◌}
use mathlib.Core.List.{List, [], ◌∷◌, ◌++◌, append_assoc, head-eq_of_cons-eq, tail-eq_of_cons-eq}
use native.Mathlib.Omega.{arith}
use lib.Dec.{eqb}
use lib.ListN.{length}
use Rattle.trees.specs.Bytes.{is_label_byte, is_inner_byte, open_byte, close_byte, comma_byte, semicolon_byte, quote_byte}
use Rattle.trees.specs.Token.{Token, all_of, all_label_bytes, all_inner_bytes, loose_label, loose_labels, quoted_token}
use Rattle.trees.specs.Tree.{Tree, leaf, node, leaves}
use Rattle.trees.specs.Text.{written, text_of}
use Rattle.trees.proofs.Bools.{clash, and_left, and_right, or_inl, or_inr}
use Rattle.trees.proofs.ListLaws.{loose_head, loose_split, TokenView, bare, quoted, loose_view}

-- whether a text begins with a byte of some kind
abbrev begins : (ℕ → Bool) → List ℕ → Bool
begins is [] = false
begins is (b ∷ p) = is b

abbrev pub begins_label : List ℕ → Bool
begins_label = begins is_label_byte

-- a run of such bytes ends where they end
run_read : (is : ℕ → Bool) (x y p q : List ℕ) → all_of is x ≡ true → all_of is y ≡ true → begins is p ≡ false → begins is q ≡ false
    → x ++ p ≡ y ++ q → (x ≡ y) × (p ≡ q)
unfolding all_of
run_read is [] [] p q h k f g e = (refl, e)
run_read is [] (b ∷ y) p q h k f g e = clash (and_left (is b) (all_of is y) k) (ap (begins is) (sym e) ∙ f)
run_read is (a ∷ x) [] p q h k f g e = clash (and_left (is a) (all_of is x) h) (ap (begins is) e ∙ g)
run_read is (a ∷ x) (b ∷ y) p q h k f g e =
    go
    (run_read is x y p q (and_right (is a) (all_of is x) h) (and_right (is b) (all_of is y) k) f g (tail-eq_of_cons-eq e))
  where
    go : (x ≡ y) × (p ≡ q) → (◌≡◌ {A = List ℕ} (a ∷ x) (b ∷ y)) × (p ≡ q)
    go r = (ap₂ ◌∷◌ (head-eq_of_cons-eq e) r.0, r.1)

-- what a token begins with
begins_token : ℕ → Bool
begins_token b = is_label_byte b || eqb b quote_byte

bare_begins : (x p : List ℕ) → 1 ≤ length x → all_label_bytes x ≡ true → begins_label (x ++ p) ≡ true
unfolding all_of
bare_begins [] p l h = absurd (omega arith)
bare_begins (b ∷ x) p l h = and_left (is_label_byte b) (all_label_bytes x) h

label_begins : (l : List ℕ) → begins_label l ≡ true → begins begins_token l ≡ true
unfolding begins_token
label_begins [] h = clash h refl
label_begins (b ∷ l) h = or_inl (is_label_byte b) (eqb b quote_byte) h

loose_begins : (x : Token) (p : List ℕ) → loose_label x ≡ true → begins begins_token (x ++ p) ≡ true
unfolding begins_token
loose_begins x p h = go (loose_view x h)
  where
    go : {z : Token} → TokenView z → begins begins_token (z ++ p) ≡ true
    go (bare z l k) = label_begins (z ++ p) (bare_begins z p l k)
    go (quoted y l k) = or_inr (is_label_byte quote_byte) (eqb quote_byte quote_byte) refl

-- a bare token is no quoted one
bare_quoted : (x y p q : List ℕ) → 1 ≤ length x → all_label_bytes x ≡ true → x ++ p ≡ quoted_token y ++ q → ⊥
unfolding is_label_byte
bare_quoted x y p q l h e = clash (bare_begins x p l h) (ap begins_label e)

-- the closing quote is the first one: between the quotes there is none
quoted_read : (x y p q : List ℕ) → all_inner_bytes x ≡ true → all_inner_bytes y ≡ true → quoted_token x ++ p ≡ quoted_token y ++ q
    → (quoted_token x ≡ quoted_token y) × (p ≡ q)
unfolding is_inner_byte is_label_byte
quoted_read x y p q h k e = (ap quoted_token r.0, tail-eq_of_cons-eq r.1)
  where
    r : (x ≡ y) × (◌≡◌ {A = List ℕ} (quote_byte ∷ p) (quote_byte ∷ q))
    r =
        run_read is_inner_byte x y (quote_byte ∷ p) (quote_byte ∷ q) h k refl refl
        (sym (append_assoc x (quote_byte ∷ []) p) ∙ tail-eq_of_cons-eq e ∙ append_assoc y (quote_byte ∷ []) q)

-- a token before a rest that begins with no label byte is told by its text
pub token_read : (x y : Token) (p q : List ℕ) → loose_label x ≡ true → loose_label y ≡ true → begins_label p ≡ false
    → begins_label q ≡ false → x ++ p ≡ y ++ q → (x ≡ y) × (p ≡ q)
token_read x y p q h k f g = go (loose_view x h) (loose_view y k)
  where
    go : {z w : Token} → TokenView z → TokenView w → z ++ p ≡ w ++ q → (z ≡ w) × (p ≡ q)
    go (bare z l m) (bare w l' m') e = run_read is_label_byte z w p q m m' f g e
    go (bare z l m) (quoted w l' m') e = absurd (bare_quoted z w p q l m e)
    go (quoted z l m) (bare w l' m') e = absurd (bare_quoted w z q p l' m' (sym e))
    go (quoted z l m) (quoted w l' m') e = quoted_read z w p q m m' e

-- the text of a node before any rest
pub written_node : (a b : Tree) (p : List ℕ) → written (node a b) ++ p ≡ open_byte ∷ (written a ++ (comma_byte ∷ (written b ++ (close_byte ∷ p))))
unfolding written
written_node a b p = ap (λ (l : List ℕ). open_byte ∷ l) (simp append_assoc)

-- what follows a node's first child
abbrev after_first : Tree → List ℕ → List ℕ
after_first b p = comma_byte ∷ (written b ++ (close_byte ∷ p))

-- a label is no node in brackets
leaf_node : (x : Token) (c d : Tree) (p q : List ℕ) → loose_labels (x ∷ []) ≡ true → x ++ p ≡ written (node c d) ++ q → ⊥
unfolding is_label_byte begins_token
leaf_node x c d p q h e =
    clash (loose_begins x p (loose_head x [] h).0) (ap (begins begins_token) (e ∙ written_node c d q))

-- s and t, each before a rest that begins with no label byte, give one text only if they and the rests are the same
abbrev pub UniquelyRead : Tree → Tree → Type 0
UniquelyRead s t =
    (p q : List ℕ) → loose_labels (leaves s) ≡ true → loose_labels (leaves t) ≡ true → begins_label p ≡ false
    → begins_label q ≡ false → written s ++ p ≡ written t ++ q → (s ≡ t) × (p ≡ q)

node_read : (a b c d : Tree) → UniquelyRead a c → UniquelyRead b d → UniquelyRead (node a b) (node c d)
unfolding leaves is_label_byte
node_read a b c d first second p q h k f g e = (ap₂ node r.0 u.0, tail-eq_of_cons-eq u.1)
  where
    r : (a ≡ c) × (after_first b p ≡ after_first d q)
    r =
        first (after_first b p) (after_first d q) (loose_split (leaves a) (leaves b) h).0 (loose_split (leaves c) (leaves d) k).0 refl
        refl (tail-eq_of_cons-eq (sym (written_node a b p) ∙ e ∙ written_node c d q))

    u : (b ≡ d) × (◌≡◌ {A = List ℕ} (close_byte ∷ p) (close_byte ∷ q))
    u =
        second (close_byte ∷ p) (close_byte ∷ q) (loose_split (leaves a) (leaves b) h).1 (loose_split (leaves c) (leaves d) k).1
        refl refl (tail-eq_of_cons-eq r.1)

-- unique readability
pub written_read : (s t : Tree) → UniquelyRead s t
unfolding leaves written
written_read (leaf x) (leaf y) p q h k f g e =
    let r : (x ≡ y) × (p ≡ q) = token_read x y p q (loose_head x [] h).0 (loose_head y [] k).0 f g e in
    (ap leaf r.0, r.1)
written_read (leaf x) (node c d) p q h k f g e = absurd (leaf_node x c d p q h e)
written_read (node a b) (leaf y) p q h k f g e = absurd (leaf_node y a b q p k (sym e))
written_read (node a b) (node c d) p q h k f g e = node_read a b c d (written_read a c) (written_read b d) p q h k f g e

-- a tree of tokens is told by its text
pub text_read : (s t : Tree) → loose_labels (leaves s) ≡ true → loose_labels (leaves t) ≡ true → text_of s ≡ text_of t → s ≡ t
unfolding text_of is_label_byte
text_read s t h k e = (written_read s t (semicolon_byte ∷ []) (semicolon_byte ∷ []) h k refl refl e).0
