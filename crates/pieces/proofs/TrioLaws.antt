-- Three leaves of one tree, and what a clade without two of them says of the third. Assumes nothing.
use mathlib.Core.Path.{◌≡◌, sym, ◌∙◌, ap}
use mathlib.Core.Bool.{Bool, true, false}
use mathlib.Core.Logic.{◌⊎◌, inl, inr, Ne-symm}
use Rattle.trees.specs.Label.{Label, same_label, distinct}
use Rattle.trees.specs.Tree.{Tree, leaves}
use Rattle.trees.proofs.Bools.{clash, refute}
use Rattle.trees.proofs.LabelLaws.{same_cases, same_ne}
use Rattle.agreement.specs.Closer.{holds, closer, OneOf}
use Rattle.agreement.proofs.SetLaws.{test_ext}
use Rattle.agreement.proofs.CloserOnce.{closer_once}
use Rattle.agreement.proofs.CladeLaws.{own_first, own_second, clade}

-- three different leaves of a tree without repeats
pub record LeafTrio (t : Tree) (a b c : Label) : Type 0 where
  pub different : distinct (leaves t) ≡ true
  pub ab : a ≡ b → ⊥
  pub ac : a ≡ c → ⊥
  pub bc : b ≡ c → ⊥
  pub held_a : holds t a ≡ true
  pub held_b : holds t b ≡ true
  pub held_c : holds t c ≡ true

-- in another order
pub swap : {t : Tree} {a b c : Label} → LeafTrio t a b c → LeafTrio t b a c
swap k = record {
  different = k.different;
  ab = Ne-symm k.ab;
  ac = k.bc;
  bc = k.ac;
  held_a = k.held_b;
  held_b = k.held_a;
  held_c = k.held_c;
}

pub turn : {t : Tree} {a b c : Label} → LeafTrio t a b c → LeafTrio t a c b
turn k = record {
  different = k.different;
  ab = k.ac;
  ac = k.ab;
  bc = Ne-symm k.bc;
  held_a = k.held_a;
  held_b = k.held_c;
  held_c = k.held_b;
}

once : {t : Tree} {a b c : Label} → LeafTrio t a b c → OneOf (closer t a b c) (closer t a c b) (closer t b c a)
once {t} {a} {b} {c} k = closer_once t a b c k.different k.ab k.ac k.bc k.held_a k.held_b k.held_c

-- one of three tests

others_fail : {x y z : Bool} → OneOf x y z → x ≡ true → (y ≡ false) × (z ≡ false)
others_fail (inl h) e = (h.1, h.2)
others_fail (inr (inl h)) e = clash e h.0
others_fail (inr (inr h)) e = clash e h.0

last_passes : {x y z : Bool} → OneOf x y z → x ≡ false → y ≡ false → z ≡ true
last_passes (inl h) e f = clash h.0 e
last_passes (inr (inl h)) e f = clash h.1 f
last_passes (inr (inr h)) e f = h.2

third_same : {x y z u v w : Bool} → OneOf x y z → OneOf u v w → x ≡ u → y ≡ v → z ≡ w
third_same {x} {y} {z} {u} {v} {w} (inl h) k e f = h.2 ∙ sym (others_fail k (sym e ∙ h.0)).1
third_same (inr (inl h)) (inl k) e f = clash k.0 (sym e ∙ h.0)
third_same (inr (inl h)) (inr (inl k)) e f = h.2 ∙ sym k.2
third_same (inr (inl h)) (inr (inr k)) e f = clash h.1 (f ∙ k.1)
third_same (inr (inr h)) k e f = h.2 ∙ sym (last_passes k (sym e ∙ h.0) (sym f ∙ h.1))

-- if a and b are the closer pair no other is
pub pair_only : {t : Tree} {a b c : Label} → LeafTrio t a b c → closer t a b c ≡ true → (closer t a c b ≡ false) × (closer t b c a ≡ false)
pair_only k e = others_fail (once k) e

pub pair_last : {t : Tree} {a b c : Label} → LeafTrio t a b c → closer t a b c ≡ false → closer t a c b ≡ false → closer t b c a ≡ true
pair_last k e f = last_passes (once k) e f

-- what is below the ancestor of a and r is below that of a and z, if r is
pub wider : (t : Tree) (a z r c : Label) → distinct (leaves t) ≡ true → holds t a ≡ true → holds t z ≡ true → closer t a z r ≡ false
    → closer t a r c ≡ false → closer t a z c ≡ false
wider t a z r c d ha hz e f = refute (closer t a z c) (λ k. clash (clade t a z a r c d (own_first t a z d ha hz) e k) f)

-- x and y in a clade (that of u and v) without b and c: x can be exchanged for y

module _ {t : Tree} {x y b c : Label} (u v : Label) (xin : closer t u v x ≡ false) (yin : closer t u v y ≡ false) where
  move : LeafTrio t x b c → LeafTrio t y b c → closer t u v b ≡ true → closer t x b c ≡ true → closer t y b c ≡ true
  move i j out e = go (same_cases x y)
    where
      go : (x ≡ y) ⊎ (same_label x y ≡ false) → closer t y b c ≡ true
      go (inl k) = ap (λ (w : Label). closer t w b c) (sym k) ∙ e
      go (inr n) =
          let m : LeafTrio t x y b = record {
            different = i.different;
            ab = same_ne x y n;
            ac = i.ab;
            bc = j.ab;
            held_a = i.held_a;
            held_b = j.held_a;
            held_c = i.held_b;
          } in
          clade t x b y b c i.different (pair_only m (clade t u v x y b i.different xin yin out)).0
          (own_second t x b i.different i.held_a i.held_b) e

-- the three tests with x and with y
abbrev pub Exchanged : Tree → Label → Label → Label → Label → Type 0
Exchanged t x y b c = (closer t x b c ≡ closer t y b c) × (closer t x c b ≡ closer t y c b) × (closer t b c x ≡ closer t b c y)

pub exchange : {t : Tree} {x y b c : Label} (u v : Label) → closer t u v x ≡ false → closer t u v y ≡ false → LeafTrio t x b c → LeafTrio t y b c
    → closer t u v b ≡ true → closer t u v c ≡ true → Exchanged t x y b c
exchange {t} {x} {y} {b} {c} u v xin yin i j ob oc = (one, two, third_same (once i) (once j) one two)
  where
    one : closer t x b c ≡ closer t y b c
    one = test_ext (closer t x b c) (closer t y b c) (move u v xin yin i j ob) (move u v yin xin j i ob)

    two : closer t x c b ≡ closer t y c b
    two = test_ext (closer t x c b) (closer t y c b) (move u v xin yin (turn i) (turn j) oc) (move u v yin xin (turn j) (turn i) oc)
